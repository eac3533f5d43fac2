-- A statement has text or notices, never both.
use Rattle.std.proofs.Common.{◌≡◌, ℕ, Bool, List, [], Result, Ok, Err, refl, ap, subst, inl, inr}
use Rattle.std.specs.Prelude.{◌⊎◌, IfOk}
use Rattle.pdl_lexemes.specs.declared.AssignOp.{AssignOp}
use Rattle.pdl_syntax.specs.Tree.{Tree}
use Rattle.pdl_syntax.specs.StatementTree.{StatementTree, bind, bind_list, assign, show, show_text, sever, reshape, undef, vars, dump, flow, pp_def, watch, unwatch}
use Rattle.pdl_watch.specs.Slots.{IsQuiet}
use Rattle.pdl_machine.specs.declared.fault.Fault.{Fault}
use Rattle.pdl_machine.specs.Then.{and_then}
use Rattle.pdl_machine.specs.State.{State, IsWhole}
use Rattle.pdl_machine.specs.Value.{value_of}
use Rattle.pdl_machine.specs.Watches.{notices}
use Rattle.pdl_machine.specs.Step.{Stepped, Done, target_in, assigned, assigning, done, effect, target}
use Rattle.pdl_machine.specs.Laws.{EitherTextOrNotices}
use Rattle.pdl_machine.proofs.OutcomeOrder.{ok_always}
use Rattle.pdl_machine.proofs.StepQuiet.{WorldLaws, only_assignments_tell}

abbrev IsSilent : State × List ℕ → Type 0
IsSilent after = after.1 ≡ []

-- an assignment prints nothing
assigning_silent : (s : State) (to : Tree) (sign : AssignOp) (e : Tree) → IfOk (assigning s to sign e) IsSilent
assigning_silent s to sign e =
    ok_always IsSilent (target_in s to) _ (λ v.
    ok_always IsSilent (value_of s.names v.0 e) _ (λ u.
    ok_always IsSilent (assigned sign u.0 v.1 u.1) _ (λ a. refl)))

-- what an effect leaves, told of by what it is
by_kind : WorldLaws → (number : ℕ) (present : List Bool) (s : State) (tree : StatementTree) (after : State × List ℕ) → IsWhole s → effect present s tree ≡ Ok after
    → (after.1 ≡ []) ⊎ IsQuiet (notices number s.arrays.world after.0.arrays.world after.0.watches)
by_kind laws n present s (assign x views sign e) after whole is =
    inl (subst (λ (x : Stepped). IfOk x IsSilent) is (assigning_silent s (target x views) sign e))
by_kind laws n present s (bind x e severs) after whole is = inr (only_assignments_tell laws n present s (bind x e severs) after whole (λ a. a) is)
by_kind laws n present s (bind_list xs e) after whole is = inr (only_assignments_tell laws n present s (bind_list xs e) after whole (λ a. a) is)
by_kind laws n present s (show e is_info) after whole is = inr (only_assignments_tell laws n present s (show e is_info) after whole (λ a. a) is)
by_kind laws n present s (show_text t) after whole is = inr (only_assignments_tell laws n present s (show_text t) after whole (λ a. a) is)
by_kind laws n present s (sever x) after whole is = inr (only_assignments_tell laws n present s (sever x) after whole (λ a. a) is)
by_kind laws n present s (reshape x sizes) after whole is = inr (only_assignments_tell laws n present s (reshape x sizes) after whole (λ a. a) is)
by_kind laws n present s (undef x) after whole is = inr (only_assignments_tell laws n present s (undef x) after whole (λ a. a) is)
by_kind laws n present s vars after whole is = inr (only_assignments_tell laws n present s vars after whole (λ a. a) is)
by_kind laws n present s dump after whole is = inr (only_assignments_tell laws n present s dump after whole (λ a. a) is)
by_kind laws n present s (flow x e) after whole is = inr (only_assignments_tell laws n present s (flow x e) after whole (λ a. a) is)
by_kind laws n present s (pp_def f a b) after whole is = inr (only_assignments_tell laws n present s (pp_def f a b) after whole (λ a. a) is)
by_kind laws n present s (watch x k) after whole is = inr (only_assignments_tell laws n present s (watch x k) after whole (λ a. a) is)
by_kind laws n present s (unwatch k) after whole is = inr (only_assignments_tell laws n present s (unwatch k) after whole (λ a. a) is)

pub either_text_or_notices : WorldLaws → EitherTextOrNotices
either_text_or_notices laws number present s tree came whole is = by_effect (effect present s tree) refl is
  where
    given_by : Result Done Fault → Done → Done
    given_by (Ok d) other = d
    given_by (Err e) other = other

    by_effect : (x : Stepped) → effect present s tree ≡ x → and_then x (λ p. Ok (done number present s tree p)) ≡ Ok came → (came.text ≡ []) ⊎ IsQuiet came.told
    by_effect (Ok p) seen is =
        let e : done number present s tree p ≡ came = ap (λ (r : Result Done Fault). given_by r came) is in
        subst (λ (d : Done). (d.text ≡ []) ⊎ IsQuiet d.told) e (by_kind laws number present s tree p whole seen)
    by_effect (Err f) seen is = absurd (cc)
