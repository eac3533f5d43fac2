-- What code answers where the machine wants a value: that value or its fault, or `NoMemory`.
use Rattle.std.specs.Prelude.{◌≡◌, ℕ, List, ◌++◌, Result, Ok, Err}
use Rattle.pdl_world.specs.Sound.{IsLive}
use Rattle.pdl_machine.specs.declared.fault.Fault.{Fault}
use Rattle.pdl_machine.specs.Outcome.{Valued}
use Rattle.pdl_machine.specs.State.{State}
use Rattle.pdl_machine.specs.Step.{Stepped}
use Rattle.pdl_scope.specs.declared.fault.ScopeFault.{ScopeFault}
use Rattle.pdl_scope.specs.declared.fault.ScopeFault.TheVariants.{Script, NoMemory}
use Rattle.pdl_scope.specs.Scope.{Scope, machine, Grows}

-- a fault of the script is the one that is wanted; `NoMemory` says nothing
abbrev pub IsFault : {U : Type 0} → Result U Fault → ScopeFault → Type 0
IsFault wanted (Script e) = wanted ≡ Err e
IsFault wanted NoMemory = Unit {0}

-- the answer, by what it stands for, is the wanted one
abbrev pub AnswersAs : {T U : Type 0} → (T → U) → Result U Fault → Result T ScopeFault → Type 0
AnswersAs seen wanted (Ok x) = wanted ≡ Ok (seen x)
AnswersAs seen wanted (Err e) = IsFault wanted e

-- the answer is the wanted one
abbrev pub Answers : {T : Type 0} → Result T Fault → Result T ScopeFault → Type 0
Answers wanted result = AnswersAs (λ x. x) wanted result

-- the answer is the wanted array, which is there, and the arrays are the wanted ones
abbrev pub Evaluates : Valued → Scope → Result ℕ ScopeFault → Type 0
Evaluates wanted new (Ok v) = (wanted ≡ Ok (new.arrays, v)) × IsLive new.arrays.world v
Evaluates wanted new (Err e) = IsFault wanted e

-- where a fault of the script refuses it
abbrev pub IfScript : {T : Type 0} → Result T ScopeFault → Type 0 → Type 0
IfScript (Err (Script e)) P = P
IfScript _ P = Unit {0}

-- the step's state is the new one, and its text was added at the end of what was printed
abbrev pub Prints : Stepped → State → (old_out new_out : List ℕ) → Type 0
Prints (Ok (s, t)) new old_out new_out = (new ≡ s) × (new_out ≡ old_out ++ t)
Prints (Err e) new old_out new_out = ⊥

-- What a refusal leaves: nothing but new arrays came, and nothing was printed.
pub record IsKept (old new : Scope) (old_out new_out : List ℕ) : Type 0 where
  pub grown : Grows old new
  pub printed : new_out ≡ old_out

-- a statement did what is wanted, or its refusal kept all as it was, out of memory too
abbrev pub Runs : {T : Type 0} → (wanted : Stepped) → (old new : Scope) → (old_out new_out : List ℕ)
    → Result T ScopeFault → Type 0
Runs wanted old new old_out new_out (Ok x) = Prints wanted (machine new) old_out new_out
Runs wanted old new old_out new_out (Err e) = IsFault wanted e × IsKept old new old_out new_out
