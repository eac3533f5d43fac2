-- That a script can spell a session's state.
use Rattle.std.proofs.Common.{◌≡◌, ℕ, Bool, List, Result, Ok, Err, refl, sym, subst}
use Rattle.pdl_syntax.specs.StatementTree.{StatementTree}
use Rattle.pdl_syntax.specs.WellMade.{IsWellMade}
use Rattle.pdl_machine.specs.Dumpable.{IsSpelled}
use Rattle.pdl_machine.specs.DumpableLaws.{EffectsKeepSpelled, NumbersAreUnspelled}
use Rattle.pdl_machine.specs.Laws.{NewArraysUnseen}
use Rattle.pdl_machine.specs.State.{State, IsSwept, IsWhole}
use Rattle.pdl_machine.specs.Step.{Stepped, effect}
use Rattle.pdl_machine.specs.Tidy.{tidy}
use Rattle.pdl_scope.specs.declared.fault.ScopeFault.{ScopeFault}
use Rattle.pdl_scope.specs.Answers.{Prints, Runs}
use Rattle.pdl_scope.specs.Scope.{Scope, machine}
use Rattle.pdl_session.proofs.PerformedStatements.{kept_seen}

-- the laws that this takes from the machine
pub record Laws : Type 0 where
  pub unseen : NewArraysUnseen
  pub keeps : EffectsKeepSpelled
  pub numbers : NumbersAreUnspelled

-- what is left of a state that a script can spell, after a statement that a script can hold
pub left_spelled : {T : Type 0} → Laws → (present : List Bool) (r : Result T ScopeFault) (st : StatementTree) (old mid : Scope) (new : State) (o n : List ℕ) → IsWhole (machine old) → IsSwept (machine old) → IsSpelled (tidy (machine old)) → IsWellMade st
    → IsWhole (machine mid) → tidy new ≡ tidy (machine mid) → Runs (effect present (machine old) st) old mid o n r → IsSpelled (tidy new)
left_spelled {T} laws present (Err f) st old mid new o n whole swept spelled made after gone ran =
    subst IsSpelled (sym (kept_seen {T = T} (Err f) (effect present (machine old) st) old mid new (tidy (machine old)) o n laws.unseen whole after gone refl ran)) spelled
left_spelled laws present (Ok t) st old mid new o n whole swept spelled made after gone ran = by_effect (effect present (machine old) st) refl ran
  where
    by_effect : (x : Stepped) → effect present (machine old) st ≡ x → Prints x (machine mid) o n → IsSpelled (tidy new)
    by_effect (Err f) is prints = absurd prints
    by_effect (Ok left) is prints =
        let before : IsSpelled (machine old) = laws.numbers (machine old) swept spelled in
        let kept : IsSpelled (tidy left.0) = laws.keeps present (machine old) st left whole before made is (subst IsWhole prints.0 after) in
        subst IsSpelled (sym gone) (subst (λ s. IsSpelled (tidy s)) (sym prints.0) kept)
