-- What `read_slice` answers for a text: its arguments, or the first refusal that holds.
use Rattle.std.specs.Prelude.{◌≡◌, ℕ, ◌<◌, ◌≤◌, Bool, false, ◌||◌, ◌==◌, nat_lt, List, length, take, ℤ, nat_abs, Option, Some, None, Result, Ok, Err, if◌then◌else◌}
use Rattle.std.specs.List.{list_any}
use Rattle.pdl_slices.specs.declared.SliceArg.{SliceArg}
use Rattle.pdl_slices.specs.declared.SliceArg.TheVariants.{Whole, One, Dropped, Dummy, Span}
use Rattle.pdl_slices.specs.declared.SliceFault.{SliceFault}
use Rattle.pdl_slices.specs.declared.SliceFault.TheVariants.{BadText, TooManyArgs, NumberTooLarge, ZeroStep, NoMemory}
use Rattle.pdl_slices.specs.declared.reader.TheConstants.{MOST_ARGS}
use Rattle.pdl_slices.specs.declared.reading.TheConstants.{LARGEST_SIZE}
use Rattle.pdl_slices.specs.Grammar.{Spells, CanBegin}

-- the greatest size that a number may have
abbrev pub size_limit : ℕ
size_limit = LARGEST_SIZE

-- a size above that
abbrev pub is_large : ℕ → Bool
is_large n = nat_lt size_limit n

-- an end or a step whose size is above that
abbrev pub is_large_end : Option ℤ → Bool
is_large_end None = false
is_large_end (Some n) = is_large (nat_abs n)

-- some number of the argument has a size above that
abbrev pub has_large_number : SliceArg → Bool
has_large_number Whole = false
has_large_number (One n) = is_large (nat_abs n)
has_large_number (Dropped n) = is_large (nat_abs n)
has_large_number (Dummy n) = is_large n
has_large_number (Span from to step) = is_large_end from || is_large_end to || is_large_end step

-- the step is 0
abbrev pub is_zero : Option ℤ → Bool
is_zero None = false
is_zero (Some n) = nat_abs n == 0

-- the argument is a span of step 0
abbrev pub has_zero_step : SliceArg → Bool
has_zero_step Whole = false
has_zero_step (One n) = false
has_zero_step (Dropped n) = false
has_zero_step (Dummy n) = false
has_zero_step (Span from to step) = is_zero step

-- at most so many arguments
abbrev pub args_limit : ℕ
args_limit = MOST_ARGS

-- how many arguments there are at most, and how large their numbers are
pub record LimitsAre : Type 0 where
  pub args : args_limit ≡ 32
  pub sizes : size_limit ≡ 2147483647

-- the first refusal that holds of the arguments that a text spells
abbrev pub refusal : List SliceArg → Option SliceFault
refusal args =
    if nat_lt args_limit (length args) then Some TooManyArgs
    else (if list_any has_large_number args then Some NumberTooLarge
    else (if list_any has_zero_step args then Some ZeroStep
    else None))

-- at is the length of the longest prefix of the text that some slice text begins with
pub record IsLongestBeginning (text : List ℕ) (at : ℕ) : Type 0 where
  pub within : at ≤ length text
  pub begins : CanBegin (take at text)
  pub longest : (k : ℕ) → at < k → k ≤ length text → ¬ CanBegin (take k text)

-- the text spells these arguments, and none of them is refused
pub record IsRead (text : List ℕ) (args : List SliceArg) : Type 0 where
  pub spelled : Spells args text
  pub allowed : refusal args ≡ None

-- no arguments are spelled by the text, and at is where it goes wrong
pub record IsBadText (text : List ℕ) (at : ℕ) : Type 0 where
  pub unspelled : (args : List SliceArg) → ¬ Spells args text
  pub place : IsLongestBeginning text at

-- the text spells arguments, of which this is the first refusal
abbrev pub IsRefused : List ℕ → SliceFault → Type 0
IsRefused text fault = (args : List SliceArg) × (Spells args text × (refusal args ≡ Some fault))

-- why a fault comes
abbrev pub IsFaultOf : List ℕ → SliceFault → Type 0
IsFaultOf text (BadText at) = IsBadText text at
IsFaultOf text TooManyArgs = IsRefused text TooManyArgs
IsFaultOf text NumberTooLarge = IsRefused text NumberTooLarge
IsFaultOf text ZeroStep = IsRefused text ZeroStep
IsFaultOf text NoMemory = ⊥

-- what a text means: its arguments, or why it has none
abbrev pub Means : List ℕ → Result (List SliceArg) SliceFault → Type 0
Means text (Ok args) = IsRead text args
Means text (Err fault) = IsFaultOf text fault
