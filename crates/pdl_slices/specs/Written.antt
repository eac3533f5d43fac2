-- The text that is written for slice arguments, and that it is read as these.
use Rattle.std.specs.Prelude.{◌≡◌, ℕ, ℤ, List, [], ◌∷◌, ◌++◌, Option, Some, None, Ok, decimal}
use Rattle.std.specs.Fmt.{signed_decimal}
use Rattle.pdl_slices.specs.declared.SliceArg.{SliceArg}
use Rattle.pdl_slices.specs.declared.SliceArg.TheVariants.{Whole, One, Dropped, Dummy, Span}
use Rattle.pdl_slices.specs.Meaning.{slice_of}

-- one end of a span, or nothing
abbrev pub end_text : Option ℤ → List ℕ
end_text None = []
end_text (Some n) = signed_decimal n

-- a step behind its colon, or nothing
abbrev pub step_text : Option ℤ → List ℕ
step_text None = []
step_text (Some n) = 58 ∷ signed_decimal n

-- one argument: `:`, `3`, `(3)`, `*3`, `1:5:2`
abbrev pub arg_text : SliceArg → List ℕ
arg_text Whole = 58 ∷ []
arg_text (One n) = signed_decimal n
arg_text (Dropped n) = 40 ∷ (signed_decimal n ++ 41 ∷ [])
arg_text (Dummy n) = 42 ∷ decimal n
arg_text (Span from to step) = end_text from ++ 58 ∷ (end_text to ++ step_text step)

-- further arguments, each behind a comma
abbrev pub more_text : List SliceArg → List ℕ
more_text [] = []
more_text (a ∷ args) = 44 ∷ (arg_text a ++ more_text args)

-- all arguments, joined by commas
abbrev pub slice_text : List SliceArg → List ℕ
slice_text [] = []
slice_text (a ∷ args) = arg_text a ++ more_text args

-- what is read of some text is read of the one that is written for it
abbrev pub WrittenTextsAreRead : Type 0
WrittenTextsAreRead = (text : List ℕ) (args : List SliceArg) → slice_of text ≡ Ok args →
    slice_of (slice_text args) ≡ Ok args
