-- The meaning of a slice text as a function. The law `slice_meaning` says that it is the
-- grammar with its refusals.
use Rattle.std.specs.Prelude.{◌≡◌, ◌↔◌, ℕ, suc, List, [], ◌∷◌, Option, Some, None, Result, Ok, Err}
use Rattle.pdl_slices.specs.declared.SliceArg.{SliceArg}
use Rattle.pdl_slices.specs.declared.SliceFault.{SliceFault}
use Rattle.pdl_slices.specs.declared.SliceFault.TheVariants.{BadText}
use Rattle.pdl_slices.specs.Refusals.{refusal, Means}
use Rattle.pdl_slices.specs.SliceReading.{Stage, first_stage, stage_after, kind_of, finished}

-- the first refusal, or else the arguments
abbrev pub judged : Option SliceFault → List SliceArg → Result (List SliceArg) SliceFault
judged None args = Ok args
judged (Some fault) args = Err fault

-- the arguments, or their first refusal
abbrev pub verdict_on : List SliceArg → Result (List SliceArg) SliceFault
verdict_on args = judged (refusal args) args

-- what comes of a step, or that the text goes wrong at this place
abbrev pub or_bad_text : {A : Type 0} → ℕ → (A → Result (List SliceArg) SliceFault) → Option A →
    Result (List SliceArg) SliceFault
or_bad_text at f None = Err (BadText at)
or_bad_text at f (Some x) = f x

-- what the rest of a text says at a place, from a stage on
unfoldable pub read_on : Stage → ℕ → List ℕ → Result (List SliceArg) SliceFault
read_on s at [] = or_bad_text at verdict_on (finished s)
read_on s at (b ∷ bs) = or_bad_text at (λ t. read_on t (suc at) bs) (stage_after s (kind_of b))

-- the arguments of a text, or why it has none
unfoldable pub slice_of : List ℕ → Result (List SliceArg) SliceFault
slice_of text = read_on first_stage 0 text

-- the answer for a text is exactly what it means
abbrev pub TextsHaveOneMeaning : Type 0
TextsHaveOneMeaning = (text : List ℕ) (answer : Result (List SliceArg) SliceFault) →
    (slice_of text ≡ answer) ↔ Means text answer
