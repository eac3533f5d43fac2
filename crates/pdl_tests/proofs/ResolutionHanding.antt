-- What `resolve` answered, and how many arguments a call takes.
use Rattle.std.proofs.Common.{◌≡◌, List, length, Ok, Err, eqb-true, refl, sym, ap, subst, ◌∙◌}
use Rattle.std.specs.Prelude.{Bool, true, false, not, ◌==◌, if◌then◌else◌, Result}
use Rattle.pdl_sig.specs.declared.ArgShape.{ArgShape}
use Rattle.pdl_sig.specs.declared.Resolved.{Resolved}
use Rattle.pdl_sig.specs.declared.ResolveFault.{ResolveFault}
use Rattle.pdl_sig.specs.declared.Signature.{Signature}
use Rattle.pdl_sig.specs.Resolution.{Answers, arg_count, inputs, named_sizes, resolution, resolved_in}

pub resolved_is : (s t : Signature) (given : List ArgShape) (answer : Result Resolved ResolveFault) (r : Resolved) → s ≡ t → Answers (resolution s given) answer → answer ≡ Ok r
    → resolution t given ≡ Ok r
resolved_is s t given answer r same h is =
    let e : Ok r ≡ resolution s given = subst (λ a. Answers (resolution s given) a) is h in
    sym (e ∙ ap (λ x. resolution x given) same)

pub count_is : (s : Signature) (given : List ArgShape) (r : Resolved) → resolution s given ≡ Ok r → length given ≡ length (inputs s.args)
count_is s given r e = by (length given == length (inputs s.args)) refl e
  where
    by : (b : Bool) → (length given == length (inputs s.args)) ≡ b → (if not b then Err arg_count else resolved_in s.args given (named_sizes s given)) ≡ Ok r → length given ≡ length (inputs s.args)
    by true t e = eqb-true (length given) (length (inputs s.args)) t
    by false t e = cc
