-- One step after another, where each gives a value or a fault.
use Rattle.std.specs.Prelude.{List, [], ◌∷◌, Option, Some, None, option_map, Result, Ok, Err}
use Rattle.pdl_machine.specs.declared.fault.Fault.{Fault}

-- the next step, from what the first one gave; or the fault of the first
abbrev pub and_then : {A B : Type 0} → Result A Fault → (A → Result B Fault) → Result B Fault
and_then (Ok x) next = next x
and_then (Err e) next = Err e

-- a value, or this fault where there is none
abbrev pub or_fault : {A : Type 0} → Fault → Option A → Result A Fault
or_fault e None = Err e
or_fault e (Some x) = Ok x

abbrev pub and_more : {A : Type 0} → Option A → Option (List A) → Option (List A)
and_more None rest = None
and_more (Some x) rest = option_map (λ xs. x ∷ xs) rest

-- the value of each item, where each has one
abbrev pub all_of : {A B : Type 0} → (A → Option B) → List A → Option (List B)
all_of f [] = Some []
all_of f (x ∷ xs) = and_more (f x) (all_of f xs)
