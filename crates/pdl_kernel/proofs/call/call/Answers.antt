use Rattle.std.proofs.Common.{rules, ◌≡◌, ℕ, List, map, length, ap, sym, ◌∙◌, subst}
use Rattle.std.specs.Prelude.{All}
use Rattle.std.specs.List.{AllZip}
use Rattle.pdl_sig.specs.declared.SigArg.{SigArg}
use Rattle.pdl_sig.specs.declared.Signature.{Signature}
use Rattle.pdl_code.specs.TreeOf.{code_of}
use Rattle.pdl_kernel.specs.declared.scene.Scene.{Scene}
use Rattle.pdl_kernel.specs.Call.{with_given}
use Rattle.pdl_kernel.specs.Collecting.{IsLaid}
use Rattle.pdl_kernel.specs.Over.{IsCodeOver}
use Rattle.pdl_kernel.specs.Places.{Window, kind_of, rest_of}
use Rattle.pdl_kernel.specs.Setup.{IsShapeOf, outputs_in, window_of}
use Rattle.pdl_kernel.proofs.CallLemmas.{answers_as, collected_long, faults_as, set_up_long}
use Rattle.pdl_kernel.proofs.OverShapes.{code_over, kinds_are, shapes_are}
use Rattle.pdl_kernel.proofs.SetupStarts.{windows_laid}
use Rattle.std.proofs.lemmas.Slice.Zip.{AllZip-long}
use Rattle.pdl_kernel.proofs.call.call.Goals as goal

pub arguments-requires-clause-shapes : goal.arguments-requires-clause-shapes
arguments-requires-clause-shapes c =
    let r = c.args.resolved.now in
    let k = c.args.kernel.now in
    let args : c.as_slice-args.result.now ≡ k.signature.args = c.as_slice-args.ensures ∙ ap (λ (s : Signature). s.args) c.kernel_signature.ensures in
    let solves = c.resolutions_solve.ensures k.signature c.requires.shapes r c.requires.resolves in
    let shapes : AllZip (IsShapeOf r) k.signature.args r.shapes = subst (AllZip (IsShapeOf r) k.signature.args) (sym solves.shapes_are) (shapes_are r k.signature.args c.requires.shapes) in
    subst (λ (xs : List SigArg). AllZip (IsShapeOf r) xs r.shapes) (sym args) shapes

pub collect-requires-clause-over : goal.collect-requires-clause-over
collect-requires-clause-over c =
    let r = c.args.resolved.now in
    let k = c.args.kernel.now in
    let given = c.args.given.now.items in
    let args : c.as_slice-args.result.now ≡ k.signature.args = c.as_slice-args.ensures ∙ ap (λ (s : Signature). s.args) c.kernel_signature.ensures in
    let windows : c.in_ok-arguments.field-0.items ≡ map (window_of r) (with_given k.signature.args given) = c.in_ok-arguments.ensures ∙ ap (λ (xs : List SigArg). map (window_of r) (with_given xs given)) args in
    let P : List Window → Type 0 = λ ws. IsCodeOver (map kind_of (map rest_of ws)) (code_of c.stmts.result.now) in
    subst P (sym windows) (subst (IsCodeOver (map kind_of (map rest_of (map (window_of r) (with_given k.signature.args given))))) (sym c.stmts.ensures.code)
    (code_over k.signature (map kind_of (map rest_of (map (window_of r) (with_given k.signature.args given)))) (kinds_are r k.signature given) k.code 0 c.stmts.ensures.fit))

pub collect-requires-clause-laid : goal.collect-requires-clause-laid
collect-requires-clause-laid c =
    let r = c.args.resolved.now in
    let k = c.args.kernel.now in
    let given = c.args.given.now.items in
    let args : c.as_slice-args.result.now ≡ k.signature.args = c.as_slice-args.ensures ∙ ap (λ (s : Signature). s.args) c.kernel_signature.ensures in
    let windows : c.in_ok-arguments.field-0.items ≡ map (window_of r) (with_given k.signature.args given) = c.in_ok-arguments.ensures ∙ ap (λ (xs : List SigArg). map (window_of r) (with_given xs given)) args in
    subst (λ (ws : List Window). All (IsLaid r.broadcast) ws) (sym windows) (windows_laid c.shape_laws.ensures.positions r k.signature.args given)

pub outputs-requires : goal.outputs-requires
outputs-requires c =
    let r = c.args.resolved.now in
    let k = c.args.kernel.now in
    let given = c.args.given.now.items in
    let args : c.as_slice-args.result.now ≡ k.signature.args = c.as_slice-args.ensures ∙ ap (λ (s : Signature). s.args) c.kernel_signature.ensures in
    let solves = c.resolutions_solve.ensures k.signature c.requires.shapes r c.requires.resolves in
    let shapes : AllZip (IsShapeOf r) k.signature.args r.shapes = subst (AllZip (IsShapeOf r) k.signature.args) (sym solves.shapes_are) (shapes_are r k.signature.args c.requires.shapes) in
    let windows : c.in_ok-arguments.field-0.items ≡ map (window_of r) (with_given k.signature.args given) = c.in_ok-arguments.ensures ∙ ap (λ (xs : List SigArg). map (window_of r) (with_given xs given)) args in
    let n = collected_long c.in_ok-arguments.field-0.items c.collect.new.scene.arguments.items _ c.in-Ok.ensures in
    n ∙ ap (length {A = Window}) windows ∙ set_up_long r k.signature.args given ∙ sym (AllZip-long (IsShapeOf r) k.signature.args r.shapes shapes) ∙ sym (ap (length {A = List ℕ}) c.as_slice.ensures)

pub returns-in_ok-outputs-in-Ok : goal.returns-in_ok-outputs-in-Ok
returns-in_ok-outputs-in-Ok c =
    let r = c.args.resolved.now in
    let k = c.args.kernel.now in
    let given = c.args.given.now.items in
    let args : c.as_slice-args.result.now ≡ k.signature.args = c.as_slice-args.ensures ∙ ap (λ (s : Signature). s.args) c.kernel_signature.ensures in
    let solves = c.resolutions_solve.ensures k.signature c.requires.shapes r c.requires.resolves in
    let shapes : AllZip (IsShapeOf r) k.signature.args r.shapes = subst (AllZip (IsShapeOf r) k.signature.args) (sym solves.shapes_are) (shapes_are r k.signature.args c.requires.shapes) in
    let windows : c.in_ok-arguments.field-0.items ≡ map (window_of r) (with_given k.signature.args given) = c.in_ok-arguments.ensures ∙ ap (λ (xs : List SigArg). map (window_of r) (with_given xs given)) args in
    let scene : Scene = record { arguments = c.in_ok-arguments.field-0; locals = c.in_ok-vec.field-0 } in
    let long : length c.in_ok-vec.field-0.items ≡ c.locals.result = search rules in
    let now = c.collect.new.scene.arguments.items in
    let made = c.in_ok-outputs-in-Ok.ensures ∙ ap (λ (ds : List (List ℕ)). outputs_in ds now) c.as_slice.ensures in
    let both = answers_as c.shape_laws.ensures.positions c.wrapping_laws.ensures k.signature.args k.code r given (code_of c.stmts.result.now) scene now r.shapes c.in_ok-outputs-in-Ok.field-0.items
    c.stmts.ensures.code windows (long ∙ c.locals.ensures) c.in-Ok.ensures shapes made in
    record { outputs = both.0; made = both.1 }

pub returns-in-Err-clause-outputs : goal.returns-in-Err-clause-outputs
returns-in-Err-clause-outputs c =
    let r = c.args.resolved.now in
    let k = c.args.kernel.now in
    let given = c.args.given.now.items in
    let args : c.as_slice-args.result.now ≡ k.signature.args = c.as_slice-args.ensures ∙ ap (λ (s : Signature). s.args) c.kernel_signature.ensures in
    let windows : c.in_ok-arguments.field-0.items ≡ map (window_of r) (with_given k.signature.args given) = c.in_ok-arguments.ensures ∙ ap (λ (xs : List SigArg). map (window_of r) (with_given xs given)) args in
    let scene : Scene = record { arguments = c.in_ok-arguments.field-0; locals = c.in_ok-vec.field-0 } in
    let long : length c.in_ok-vec.field-0.items ≡ c.locals.result = search rules in
    faults_as c.shape_laws.ensures.positions c.wrapping_laws.ensures k.signature.args k.code r given (code_of c.stmts.result.now) scene c.collect.new.scene.arguments.items c.in-Err.fault
    c.stmts.ensures.code windows (long ∙ c.locals.ensures) c.in-Err.ensures
