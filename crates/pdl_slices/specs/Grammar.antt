-- The grammar of slice texts (PDL::Slices): which bytes spell which arguments.
-- It says nothing of sizes and counts: numbers and lists have no limit here.
use Rattle.std.specs.Prelude.{ℕ, ◌+◌, ◌-◌, ◌*◌, Bool, ◌||◌, ◌==◌, List, [], ◌∷◌, ◌++◌, ℤ, pos, neg_ℤ, Option, Some, None, is_some, IsTrue}
use Rattle.std.specs.Char.{is_ascii_digit}
use Rattle.pdl_slices.specs.declared.SliceArg.{SliceArg}
use Rattle.pdl_slices.specs.declared.SliceArg.TheVariants.{Whole, One, Dropped, Dummy, Span}

-- a blank is a space or a tab
abbrev pub is_blank : ℕ → Bool
is_blank b = (b == 32) || (b == 9)

-- any number of blanks, or none
pub data Blanks : List ℕ → Type 0 where
  no_blank : Blanks []
  blank_after : (s : List ℕ) (b : ℕ) → Blanks s → IsTrue (is_blank b) → Blanks (s ++ b ∷ [])

-- one or more digits, and the number that they spell; leading zeros are digits
pub data Digits : ℕ → List ℕ → Type 0 where
  one_digit : (d : ℕ) → IsTrue (is_ascii_digit d) → Digits (d - 48) (d ∷ [])
  digit_after : (n : ℕ) (s : List ℕ) (d : ℕ) → Digits n s → IsTrue (is_ascii_digit d) →
      Digits (10 * n + (d - 48)) (s ++ d ∷ [])

-- a number is an optional `-` and digits, with nothing between
pub data Number : ℤ → List ℕ → Type 0 where
  plain : (n : ℕ) (s : List ℕ) → Digits n s → Number (pos n) s
  minus : (n : ℕ) (s : List ℕ) → Digits n s → Number (neg_ℤ (pos n)) (45 ∷ s)

-- a number with blanks around it, or blanks alone where it is left out
pub data Field : Option ℤ → List ℕ → Type 0 where
  left_out : (s : List ℕ) → Blanks s → Field None s
  given : (n : ℤ) (s t u : List ℕ) → Blanks s → Number n t → Blanks u → Field (Some n) (s ++ t ++ u)

-- one argument, by its forms: nothing, `n`, `(n)`, `:`, `a:b`, `a:b:s`, `*n`, `*` (PDL::Slices)
pub data Arg : SliceArg → List ℕ → Type 0 where
  nothing : (s : List ℕ) → Field None s → Arg Whole s
  one : (n : ℤ) (s : List ℕ) → Field (Some n) s → Arg (One n) s
  dropped : (n : ℤ) (s t u : List ℕ) → Blanks s → Field (Some n) t → Blanks u
      → Arg (Dropped n) (s ++ 40 ∷ t ++ 41 ∷ u)
  colon : (s t : List ℕ) → Field None s → Field None t → Arg Whole (s ++ 58 ∷ t)
  span : (from to : Option ℤ) (s t : List ℕ) → Field from s → Field to t
      → IsTrue (is_some from || is_some to) → Arg (Span from to None) (s ++ 58 ∷ t)
  stepped : (from to : Option ℤ) (step : ℤ) (s t u : List ℕ) → Field from s →
      Field to t → Field (Some step) u
      → Arg (Span from to (Some step)) (s ++ 58 ∷ t ++ 58 ∷ u)
  sized : (n : ℕ) (s t u v : List ℕ) → Blanks s → Blanks t → Digits n u → Blanks v
      → Arg (Dummy n) (s ++ 42 ∷ (t ++ u ++ v))
  star : (s t : List ℕ) → Blanks s → Blanks t → Arg (Dummy 1) (s ++ 42 ∷ t)

-- one or more arguments, separated by commas
pub data Args : List SliceArg → List ℕ → Type 0 where
  one_arg : (a : SliceArg) (s : List ℕ) → Arg a s → Args (a ∷ []) s
  arg_after : (args : List SliceArg) (a : SliceArg) (s t : List ℕ) → Args args s → Arg a t →
      Args (args ++ a ∷ []) (s ++ 44 ∷ t)

-- a slice text: blanks alone have no arguments, and another text has those that its commas separate
pub data Spells : List SliceArg → List ℕ → Type 0 where
  blanks_alone : (s : List ℕ) → Blanks s → Spells [] s
  listed : (args : List SliceArg) (s : List ℕ) → ¬ Blanks s → Args args s → Spells args s

-- some slice text begins with these bytes
abbrev pub CanBegin : List ℕ → Type 0
CanBegin front = (rest : List ℕ) × ((args : List SliceArg) × Spells args (front ++ rest))
