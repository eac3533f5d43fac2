-- What a statement does before its text is cut back where it is refused.
use Rattle.std.specs.Prelude.{List, Result, Ok, Err, ℕ}
use Rattle.pdl_print.specs.Pieces.{Begins}
use Rattle.pdl_machine.specs.Step.{Stepped}
use Rattle.pdl_scope.specs.declared.fault.ScopeFault.{ScopeFault}
use Rattle.pdl_scope.specs.Answers.{IsFault, Prints}
use Rattle.pdl_scope.specs.Scope.{Scope, machine, Grows}

-- What a refusal leaves: nothing but new arrays came, and what was printed before stands.
pub record IsLeft (old new : Scope) (old_out new_out : List ℕ) : Type 0 where
  pub grown : Grows old new
  pub front : Begins old_out new_out

-- a statement did what is wanted, or its refusal left all as it was but for a part of its text
abbrev pub Performs : {T : Type 0} → (wanted : Stepped) → (old new : Scope)
    → (old_out new_out : List ℕ) → Result T ScopeFault → Type 0
Performs wanted old new old_out new_out (Ok x) = Prints wanted (machine new) old_out new_out
Performs wanted old new old_out new_out (Err e) = IsFault wanted e × IsLeft old new old_out new_out
