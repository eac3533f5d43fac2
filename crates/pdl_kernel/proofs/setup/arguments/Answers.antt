use Rattle.std.proofs.Common.{◌≡◌, ◌+◌, ◌++◌, ◌∷◌, ℕ, List, length, get_or, drop, map, ap, sym, ◌∙◌, arith, subst}
use Rattle.std.specs.Prelude.{Option, if◌then◌else◌}
use Rattle.std.proofs.lemmas.List.{at_drop_more, get_or-map}
use Rattle.std.proofs.lemmas.Slice.Zip.{AllZip-long}
use Rattle.pdl_elem.specs.declared.Ty.{Ty}
use Rattle.pdl_elem.specs.declared.Ty.TheVariants.{Sbyte}
use Rattle.pdl_buf.specs.declared.made.Made.{Made}
use Rattle.pdl_sig.specs.declared.SigArg.{SigArg}
use Rattle.pdl_sig.specs.Resolution.{core_sizes, is_given, type_in}
use Rattle.pdl_kernel.specs.Call.{first_given, with_given}
use Rattle.pdl_kernel.specs.Setup.{IsShapeOf, window_of, window_with}
use Rattle.pdl_kernel.specs.Places.{Window}
use Rattle.pdl_kernel.proofs.SetupLaid.{one_more, window_shaped}
use Rattle.pdl_kernel.proofs.Zips.{zip_get}
use Rattle.pdl_kernel.proofs.setup.arguments.Goals as goal

pub bounds-as_slice-k : goal.bounds-as_slice-k
bounds-as_slice-k c =
    let n : length c.as_slice.result.now ≡ length c.args.args.now = ap (length {A = List ℕ}) c.as_slice.ensures ∙ AllZip-long (IsShapeOf c.args.resolved.now) c.args.args.now c.args.resolved.now.shapes c.requires.shapes in
    omega (arith, n)

pub argument-requires : goal.argument-requires
argument-requires c =
    let r = c.args.resolved.now in
    let a = c.index-args-k.result in
    let shape = c.index-as_slice-k.result in
    let h : IsShapeOf r (get_or c.args.args.now c.loop-k.k a) (get_or r.shapes c.loop-k.k shape) = zip_get (IsShapeOf r) c.args.args.now r.shapes c.loop-k.k a shape c.requires.shapes (omega arith) in
    let is : shape ≡ get_or r.shapes c.loop-k.k shape = c.index-as_slice-k.is ∙ ap (λ (xs : List (List ℕ)). get_or xs c.loop-k.k shape) c.as_slice.ensures in
    subst (λ (b : SigArg). IsShapeOf r b shape) (sym c.index-args-k.is) (subst (IsShapeOf r (get_or c.args.args.now c.loop-k.k a)) (sym is) h)

pub loop-k-preserved : goal.loop-k-preserved
loop-k-preserved c =
    let r = c.args.resolved.now in
    let k = c.loop-k.k in
    let a = c.index-args-k.result in
    let shape = c.index-as_slice-k.result in
    let given = c.loop-k.given.items in
    let one = c.take_given-one.result in
    let x = c.in_ok-argument.field-0 in
    let h : IsShapeOf r (get_or c.args.args.now k a) (get_or r.shapes k shape) = zip_get (IsShapeOf r) c.args.args.now r.shapes k a shape c.requires.shapes (omega arith) in
    let is : shape ≡ get_or r.shapes k shape = c.index-as_slice-k.is ∙ ap (λ (xs : List (List ℕ)). get_or xs k shape) c.as_slice.ensures in
    let shaped : IsShapeOf r a shape = subst (λ (b : SigArg). IsShapeOf r b shape) (sym c.index-args-k.is) (subst (IsShapeOf r (get_or c.args.args.now k a)) (sym is) h) in
    let f = λ (b : SigArg). type_in r.generic b.ty in
    let ty : get_or c.as_slice-in-loop-k.result.now k Sbyte ≡ f a =
    ap (λ (ts : List Ty). get_or ts k Sbyte) (c.as_slice-in-loop-k.ensures ∙ c.requires.types) ∙ get_or-map f c.args.args.now k a Sbyte (omega arith) ∙ ap f (sym c.index-args-k.is) in
    let argument : x ≡ window_of r (a, one) =
    c.in_ok-argument.ensures ∙ ap (λ (t : Ty). window_with t (core_sizes r.sizes a) shape a one) ty ∙ window_shaped r (f a) (core_sizes r.sizes a) a shape one shaped in
    let rest = with_given (drop (k + 1) c.args.args.now) c.take_given-one.new.given.items in
    let from : with_given (drop k c.args.args.now) given ≡ (a, one) ∷ rest =
    at_drop_more (λ (args : List SigArg). with_given args given) c.args.args.now k a (omega arith)
    ∙ ap (λ (b : SigArg). (b, first_given (is_given b.role) given) ∷ with_given (drop (k + 1) c.args.args.now) (if is_given b.role then drop 1 given else given)) (sym c.index-args-k.is)
    ∙ ap (λ (g : Option Made). (a, g) ∷ with_given (drop (k + 1) c.args.args.now) (if is_given a.role then drop 1 given else given)) (sym c.take_given-one.ensures.first)
    ∙ ap (λ (gs : List Made). (a, one) ∷ with_given (drop (k + 1) c.args.args.now) gs) (sym c.take_given-one.ensures.rest) in
    let next : map (window_of r) (with_given (drop k c.args.args.now) given) ≡ x ∷ map (window_of r) rest =
    ap (map (window_of r)) from ∙ ap (λ (w : Window). w ∷ map (window_of r) rest) (sym argument) in
    ap (λ (ws : List Window). ws ++ map (window_of r) rest) c.in_ok-push.ensures.items
    ∙ one_more c.loop-k.arguments.items (map (window_of r) rest) (map (window_of r) (with_given c.args.args.now c.args.given.now.items)) x (map (window_of r) (with_given (drop k c.args.args.now) given)) next c.loop-k.invariant
