-- What a parser's answer says of what is read.
use Rattle.std.specs.Prelude.{◌≡◌, Option, Some, None, Result, Ok, Err}
use Rattle.pdl_lexemes.specs.declared.refusal.Refusal.{Refusal}
use Rattle.pdl_lexemes.specs.declared.refusal.Refusal.TheVariants.{Refused, NoMemory}

-- a value is what is read, and a refusal says that nothing is; `NoMemory` says nothing
abbrev pub Gives : {A B : Type 0} → (A → B) → Result A Refusal → Option B → Type 0
Gives f (Ok x) o = o ≡ Some (f x)
Gives f (Err Refused) o = o ≡ None
Gives f (Err NoMemory) o = Unit {0}
