-- What `range` gives for two arrays and more arguments.
use Rattle.std.proofs.Common.{◌≡◌, ℕ, List, [], ◌∷◌, Option, Some, None, Result, Err, refl}
use Rattle.pdl_machine.specs.declared.fault.Fault.{Fault}
use Rattle.pdl_machine.specs.declared.fault.Fault.TheVariants.{WrongArguments}
use Rattle.pdl_machine.specs.Arrays.{Arrays, array_in}
use Rattle.pdl_machine.specs.Outcome.{Outcome as Placed}
use Rattle.pdl_machine.specs.Views.{range_by, range_outcome}
use Rattle.pdl_session.specs.declared.given.Given.{Given}
use Rattle.pdl_session.specs.declared.given.Given.TheVariants.{Array, Text, OfType}
use Rattle.pdl_session.specs.Arguments.{all_seen_of, two_and_more}

-- what it gives by the shape
abbrev pub ranged : Arrays → Option (ℕ × List Given) → Result Placed Fault
ranged a None = Err WrongArguments
ranged a (Some p) = range_by (array_in a p.0) (all_seen_of a p.1)

pub range_is : (a : Arrays) (given : List Given) → range_outcome (all_seen_of a given) ≡ ranged a (two_and_more given)
range_is a [] = refl
range_is a (Array v ∷ []) = refl
range_is a (Array v ∷ Array u ∷ rest) = refl
range_is a (Array v ∷ Text t ∷ rest) = refl
range_is a (Array v ∷ OfType ty ∷ rest) = refl
range_is a (Text t ∷ rest) = refl
range_is a (OfType ty ∷ rest) = refl
