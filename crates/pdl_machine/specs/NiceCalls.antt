-- `nice`, the call that a nice slice such as `$x(1:3)` is written for (PDL::NiceSlice): a slice by
-- a pattern with numbers in place of its `#`. One value of another count than one looks the array
-- up.
use Rattle.std.specs.Prelude.{ℕ, ℤ, ◌==◌, ◌&&◌, bytes_eq, if◌then◌else◌, List, [], ◌∷◌, ◌++◌, Option, Some, None, is_none, option_map, Result, Err}
use Rattle.std.specs.Fmt.{signed_decimal}
use Rattle.pdl_buf.specs.declared.made.Made.{Made}
use Rattle.pdl_lemmas.specs.Options.{choose}
use Rattle.pdl_nice.specs.Nice.{mark}
use Rattle.pdl_machine.specs.declared.fault.Fault.{Fault}
use Rattle.pdl_machine.specs.declared.fault.Fault.TheVariants.{WrongArguments}
use Rattle.pdl_machine.specs.Then.{and_then, or_fault}
use Rattle.pdl_machine.specs.Outcome.{array, string, Seen, Outcome}
use Rattle.pdl_machine.specs.Fills.{only, numbers_in}
use Rattle.pdl_machine.specs.Views.{slice_by, look_up}

-- the first number before what the others give
abbrev pub number_before : List ℤ → (List ℤ → Option (List ℕ)) → Option (List ℕ)
number_before [] rest = None
number_before (n ∷ ns) rest = option_map (λ text. signed_decimal n ++ text) (rest ns)

-- a pattern with these numbers in place of its `#`, in order, if they are as many
unfoldable pub filled_in : (pattern : List ℕ) → List ℤ → Option (List ℕ)
filled_in [] [] = Some []
filled_in [] (n ∷ ns) = None
filled_in (c ∷ cs) ns =
    if c == mark then number_before ns (filled_in cs)
    else option_map (λ text. c ∷ text) (filled_in cs ns)

-- the slice by the text that a pattern is with these numbers in place of its marks
abbrev pub slice_by_numbers : (pattern : List ℕ) → List ℤ → Result Outcome Fault
slice_by_numbers pattern ns = and_then (or_fault WrongArguments (filled_in pattern ns)) slice_by

-- and by the numbers that values are
abbrev pub slice_in : (pattern : List ℕ) → List Seen → Result Outcome Fault
slice_in pattern given = and_then (numbers_in given) (slice_by_numbers pattern)

-- the array that looks the first one up: the only value, of another count than one, for the
-- pattern `#` alone
abbrev pub looking_up : (pattern : List ℕ) → List Seen → Option Made
looking_up pattern (array ind ∷ []) =
    if bytes_eq pattern (mark ∷ []) && is_none (only ind.elems) then Some ind else None
looking_up pattern _ = None

-- a pattern and values: they look the array up, or are the numbers of a slice
abbrev pub nice_by : (pattern : List ℕ) → List Seen → Result Outcome Fault
nice_by pattern given = choose (slice_in pattern given) look_up (looking_up pattern given)

-- `nice`: an array, a pattern, and values
abbrev pub nice_outcome : List Seen → Result Outcome Fault
nice_outcome (array m ∷ string pattern ∷ given) = nice_by pattern given
nice_outcome _ = Err WrongArguments
