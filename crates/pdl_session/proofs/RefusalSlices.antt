-- Slice texts that were read, and why others weren't.
use Rattle.std.proofs.Common.{◌≡◌, ◌≢◌, ◌↔◌, ℕ, Result, Ok, Err, Bool, true, false, List, [], ◌∷◌, length, ℤ, Option, Some, None, refl, ap, ◌∙◌}
use Rattle.std.specs.Prelude.{nat_lt, not, if◌then◌else◌}
use Rattle.std.specs.List.{list_all, list_any}
use Rattle.pdl_slices.specs.declared.SliceArg.{SliceArg}
use Rattle.pdl_slices.specs.declared.SliceArg.TheVariants.{Whole, One, Dropped, Dummy, Span}
use Rattle.pdl_slices.specs.declared.SliceFault.{SliceFault}
use Rattle.pdl_slices.specs.declared.SliceFault.TheVariants.{BadText, TooManyArgs, NumberTooLarge, ZeroStep, NoMemory}
use Rattle.pdl_slices.specs.Refusals.{args_limit, refusal, has_large_number, has_zero_step, is_zero, IsFaultOf, Means}
use Rattle.pdl_slices.specs.Meaning.{slice_of}
use Rattle.pdl_affine.specs.Slicing.{is_step}
use Rattle.pdl_affine.specs.Views.{steps_on}
use Rattle.pdl_affine.specs.declared.Affine.TheVariants as affine
use Rattle.pdl_world.specs.declared.Trans.TheVariants as trans
use Rattle.pdl_machine.specs.declared.fault.Fault.{Fault}
use Rattle.pdl_machine.specs.Outcome.{Outcome as Placed, viewed}
use Rattle.pdl_machine.specs.Refused.{or_named}
use Rattle.pdl_machine.specs.Then.{and_then}
use Rattle.pdl_machine.specs.Views.{slice_fault, slice_by}
use Rattle.pdl_scope.specs.Answers.{IsFault}
use Rattle.pdl_scope.specs.Faults.{of_slice}

step_is : (step : Option ℤ) → is_step step ≡ not (is_zero step)
step_is None = refl
step_is (Some s) = refl

steps_is : (a : SliceArg) → steps_on a ≡ not (has_zero_step a)
steps_is Whole = refl
steps_is (One n) = refl
steps_is (Dropped n) = refl
steps_is (Dummy n) = refl
steps_is (Span from to step) = step_is step

none_zero : (args : List SliceArg) → list_any has_zero_step args ≡ false → list_all steps_on args ≡ true
none_zero [] h = refl
none_zero (a ∷ args) h = by_front (λ r. none_zero args r) (has_zero_step a) refl
  where
    by_front : (list_any has_zero_step args ≡ false → list_all steps_on args ≡ true) → (b : Bool) → has_zero_step a ≡ b → list_all steps_on (a ∷ args) ≡ true
    by_front others true e = let t : list_any has_zero_step (a ∷ args) ≡ true = rw e refl in cc
    by_front others false e =
        let rest : list_any has_zero_step args ≡ false = rw e at h in
        let s : steps_on a ≡ true = steps_is a ∙ ap not e in
        rw s (others rest)

-- no refusal, so no step 0
pub steps_read : (args : List SliceArg) → refusal args ≡ None → list_all steps_on args ≡ true
steps_read args h = by_length (nat_lt args_limit (length args)) (list_any has_large_number args) (list_any has_zero_step args) refl h
  where
    by_length : (many large zero : Bool) → list_any has_zero_step args ≡ zero
        → (if many then Some TooManyArgs else (if large then Some NumberTooLarge else (if zero then Some ZeroStep else None))) ≡ None
        → list_all steps_on args ≡ true
    by_length true large zero e h = cc
    by_length false true zero e h = cc
    by_length false false true e h = cc
    by_length false false false e h = none_zero args e

-- what a view by a text is, by what the text says
abbrev pub by_reading : Result (List SliceArg) SliceFault → Result Placed Fault
by_reading r = and_then (or_named slice_fault r) (λ args. Ok (viewed (trans.Affine (affine.Slice args))))

abbrev Meaning : List ℕ → Type 0
Meaning text = (answer : Result (List SliceArg) SliceFault) → (slice_of text ≡ answer) ↔ Means text answer

-- a text is refused as it was read
pub slice_refused : (text : List ℕ) (fault : SliceFault) → Meaning text → (fault ≢ NoMemory → IsFaultOf text fault) → IsFault (slice_by text) (of_slice fault)
slice_refused text (BadText at) means h = ap by_reading ((means (Err (BadText at))).1 (h (λ e. cc)))
slice_refused text TooManyArgs means h = ap by_reading ((means (Err TooManyArgs)).1 (h (λ e. cc)))
slice_refused text NumberTooLarge means h = ap by_reading ((means (Err NumberTooLarge)).1 (h (λ e. cc)))
slice_refused text ZeroStep means h = ap by_reading ((means (Err ZeroStep)).1 (h (λ e. cc)))
slice_refused text NoMemory means h = tt
