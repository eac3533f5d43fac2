-- What reductions and products give, by the shapes of their arguments.
use Rattle.std.proofs.Common.{◌≡◌, ℕ, List, [], ◌∷◌, Option, Some, None, Result, Err, refl, sym, ap, subst, ◌∙◌}
use Rattle.pdl_buf.specs.declared.made.Made.{Made}
use Rattle.pdl_reduce.specs.Refusals.{ReduceRefusal}
use Rattle.pdl_machine.specs.declared.fault.Fault.{Fault}
use Rattle.pdl_machine.specs.declared.fault.Fault.TheVariants.{WrongArguments}
use Rattle.pdl_machine.specs.Arrays.{Arrays, array_in}
use Rattle.pdl_machine.specs.Outcome.{Outcome as Placed}
use Rattle.pdl_machine.specs.Reductions.{made_or_fault, of_one, of_two}
use Rattle.pdl_scope.specs.declared.fault.ScopeFault.{ScopeFault}
use Rattle.pdl_scope.specs.Answers.{AnswersAs}
use Rattle.pdl_session.specs.declared.outcome.Outcome.{Outcome}
use Rattle.pdl_session.specs.declared.given.Given.{Given}
use Rattle.pdl_session.specs.declared.given.Given.TheVariants.{Array, Text, OfType}
use Rattle.pdl_session.specs.Arguments.{all_seen_of, one_array, two_arrays, outcome_of}

-- what a call of one array gives by the shape of its arguments
abbrev pub by_one : (Made → Result Made ReduceRefusal) → Arrays → Option ℕ → Result Placed Fault
by_one f a None = Err WrongArguments
by_one f a (Some v) = made_or_fault (f (array_in a v))

one_is : (f : Made → Result Made ReduceRefusal) (a : Arrays) (given : List Given) → of_one f (all_seen_of a given) ≡ by_one f a (one_array given)
one_is f a [] = refl
one_is f a (Array v ∷ []) = refl
one_is f a (Array v ∷ g ∷ rest) = refl
one_is f a (Text t ∷ rest) = refl
one_is f a (OfType ty ∷ rest) = refl

-- of two arrays
abbrev pub by_two : (Made → Made → Result Made ReduceRefusal) → Arrays → Option (ℕ × ℕ) → Result Placed Fault
by_two f a None = Err WrongArguments
by_two f a (Some p) = made_or_fault (f (array_in a p.0) (array_in a p.1))

two_is : (f : Made → Made → Result Made ReduceRefusal) (a : Arrays) (given : List Given) → of_two f (all_seen_of a given) ≡ by_two f a (two_arrays given)
two_is f a [] = refl
two_is f a (Array v ∷ []) = refl
two_is f a (Array v ∷ Array u ∷ []) = refl
two_is f a (Array v ∷ Array u ∷ g ∷ rest) = refl
two_is f a (Array v ∷ Text t ∷ rest) = refl
two_is f a (Array v ∷ OfType ty ∷ rest) = refl
two_is f a (Text t ∷ rest) = refl
two_is f a (OfType ty ∷ rest) = refl

-- what comes of the array that stands alone
pub one_given : (f : Made → Result Made ReduceRefusal) (a : Arrays) (given : List Given) (v : ℕ) (r : Result Outcome ScopeFault) → Some v ≡ one_array given → AnswersAs outcome_of (by_one f a (Some v)) r
    → AnswersAs outcome_of (of_one f (all_seen_of a given)) r
one_given f a given v r shape h = let P : Result Placed Fault → Type 0 = λ x. AnswersAs outcome_of x r in subst P (sym (one_is f a given ∙ ap (by_one f a) (sym shape))) h

-- and of two
pub two_given : (f : Made → Made → Result Made ReduceRefusal) (a : Arrays) (given : List Given) (p : ℕ × ℕ) (r : Result Outcome ScopeFault) → Some p ≡ two_arrays given → AnswersAs outcome_of (by_two f a (Some p)) r
    → AnswersAs outcome_of (of_two f (all_seen_of a given)) r
two_given f a given p r shape h = let P : Result Placed Fault → Type 0 = λ x. AnswersAs outcome_of x r in subst P (sym (two_is f a given ∙ ap (by_two f a) (sym shape))) h
