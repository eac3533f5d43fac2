-- The grammar of signatures (PDL::PP, Signatures): what is spelled by a text, from its bytes up to
-- a rest of them.
-- Blanks may stand before each token, and the longest token is taken.
use Rattle.std.specs.Prelude.{◌≡◌, ℕ, ◌+◌, ◌-◌, ◌*◌, ◌≤◌, ◌==◌, Bool, false, not, ◌&&◌, ◌||◌, List, [], ◌∷◌, ◌++◌, length, Option, Some, None, is_none, is_some, IsTrue, codes, bytes_eq, if◌then◌else◌}
use Rattle.std.specs.List.{list_any, list_all}
use Rattle.std.specs.Char.{is_ascii_digit}
use Rattle.pdl_elem.specs.declared.Ty.{Ty}
use Rattle.pdl_elem.specs.declared.Ty.TheVariants.{Long}
use Rattle.pdl_elem.specs.Tables.{found_in}
use Rattle.pdl_elem.specs.Types.{type_named}
use Rattle.pdl_shape.specs.Shape.{extent_limit}
use Rattle.pdl_lex.specs.Bytes.{is_blank, is_word_byte}
use Rattle.pdl_lex.specs.Tokens.{is_word}
use Rattle.pdl_sig.specs.declared.Reserved.{Reserved}
use Rattle.pdl_sig.specs.declared.Reserved.TheVariants.{Loop, If, Else, LongLocal, LonglongLocal}
use Rattle.pdl_sig.specs.declared.Role.{Role}
use Rattle.pdl_sig.specs.declared.Role.TheVariants.{Input, Output, Both, Temp}
use Rattle.pdl_sig.specs.declared.ArgType.{ArgType}
use Rattle.pdl_sig.specs.declared.ArgType.TheVariants.{Generic, Fixed, AtLeast}
use Rattle.pdl_sig.specs.declared.written.WrittenDim.{WrittenDim}
use Rattle.pdl_sig.specs.declared.written.WrittenArg.{WrittenArg}

-- a text past its blanks
abbrev pub past_blanks : List ℕ → List ℕ
past_blanks [] = []
past_blanks (b ∷ s) = if is_blank b then past_blanks s else b ∷ s

-- whether the first byte passes a test
abbrev pub begins : (ℕ → Bool) → List ℕ → Bool
begins test [] = false
begins test (b ∷ s) = test b

-- blanks, and then the sign b
pub record Sign (b : ℕ) (s t : List ℕ) : Type 0 where
  pub stands : past_blanks s ≡ b ∷ t

-- blanks, and then the longest word
pub record Word (w s t : List ℕ) : Type 0 where
  pub stands : past_blanks s ≡ w ++ t
  pub word : IsTrue (is_word w)
  pub longest : begins is_word_byte t ≡ false

-- the number that digits spell after those that spell n
abbrev pub value_after : ℕ → List ℕ → ℕ
value_after n [] = n
value_after n (d ∷ digits) = value_after (10 * n + (d - 48)) digits

-- whether digits are a number: `0`, or a digit from 1 to 9 and any digits
abbrev pub is_number : List ℕ → Bool
is_number [] = false
is_number (d ∷ digits) = not (d == 48) || (length digits == 0)

-- blanks, and then the longest number
pub record Number (n : ℕ) (s t : List ℕ) : Type 0 where
  pub digits : List ℕ
  pub stands : past_blanks s ≡ digits ++ t
  pub all : IsTrue (list_all is_ascii_digit digits)
  pub number : IsTrue (is_number digits)
  pub longest : begins is_ascii_digit t ≡ false
  pub value : n ≡ value_after 0 digits

-- the largest number that a dimension is fixed to
abbrev pub size_limit : ℕ
size_limit = extent_limit

-- the type of a type word; `int` is long
abbrev pub type_of : List ℕ → Option Ty
type_of w = if bytes_eq w (codes "int") then Some Long else type_named w

-- the role of a word in square brackets
abbrev pub role_of : List ℕ → Option Role
role_of w = found_in ((codes "o", Output) ∷ (codes "t", Temp) ∷ (codes "io", Both) ∷ []) w

-- whether the word may name an argument
abbrev pub is_arg_word : List ℕ → Bool
is_arg_word w =
    not (is_some (type_of w)) && not (list_any (bytes_eq w) (codes "SIZE" ∷ codes "GENERIC" ∷ []))

-- the words that are reserved in kernel code; `int` is long
abbrev pub reserved : List (List ℕ × Reserved)
reserved =
    (codes "loop", Loop) ∷ (codes "if", If) ∷ (codes "else", Else) ∷ (codes "int", LongLocal)
    ∷ (codes "long", LongLocal) ∷ (codes "longlong", LonglongLocal) ∷ []

-- whether the word may name a dimension
abbrev pub is_dim_word : List ℕ → Bool
is_dim_word w = is_none (found_in reserved w)

-- a type word, with a `+` or without one, or nothing
pub data Typed : ArgType → List ℕ → List ℕ → Type 0 where
  untyped : (s : List ℕ) → Typed Generic s s
  of_type : (ty : Ty) (w s t : List ℕ) → Word w s t → type_of w ≡ Some ty → Typed (Fixed ty) s t
  at_least_type : (ty : Ty) (w s t u : List ℕ) → Word w s t → type_of w ≡ Some ty → Sign 43 t u
      → Typed (AtLeast ty) s u

-- a role in square brackets, or nothing for an input
pub data Marked : Role → List ℕ → List ℕ → Type 0 where
  input_role : (s : List ℕ) → Marked Input s s
  marked_role : (r : Role) (w s t u v : List ℕ) → Sign 91 s t → Word w t u → role_of w ≡ Some r
      → Sign 93 u v → Marked r s v

-- a dimension's word, with `=` and the number that it is fixed to or without
pub data Dim : WrittenDim → List ℕ → List ℕ → Type 0 where
  unfixed_dim : (w s t : List ℕ) → Word w s t → IsTrue (is_dim_word w)
      → Dim (record { name = w; size = None }) s t
  fixed_dim : (n : ℕ) (w s t u v : List ℕ) → Word w s t → IsTrue (is_dim_word w) → Sign 61 t u
      → Number n u v → n ≤ size_limit
      → Dim (record { name = w; size = Some n }) s v

-- dimensions separated by commas, and the closing bracket
pub data Dims : List WrittenDim → List ℕ → List ℕ → Type 0 where
  last_dim : (d : WrittenDim) (s t u : List ℕ) → Dim d s t → Sign 41 t u → Dims (d ∷ []) s u
  next_dim : (d : WrittenDim) (ds : List WrittenDim) (s t u v : List ℕ) → Dim d s t → Sign 44 t u
      → Dims ds u v → Dims (d ∷ ds) s v

-- the dimensions of an argument in brackets
pub data Bracketed : List WrittenDim → List ℕ → List ℕ → Type 0 where
  no_dims : (s t u : List ℕ) → Sign 40 s t → Sign 41 t u → Bracketed [] s u
  some_dims : (ds : List WrittenDim) (s t u : List ℕ) → Sign 40 s t → Dims ds t u → Bracketed ds s u

-- an argument: its type, its role, its word and its dimensions
pub data Arg : WrittenArg → List ℕ → List ℕ → Type 0 where
  whole_arg : (ty : ArgType) (r : Role) (w : List ℕ) (ds : List WrittenDim) (s t u v x : List ℕ)
      → Typed ty s t → Marked r t u → Word w u v → IsTrue (is_arg_word w) → Bracketed ds v x
      → Arg (record { name = w; role = r; ty = ty; dims = ds }) s x

-- arguments separated by semicolons, of which one may stand at the end, and then nothing but blanks
pub data Args : List WrittenArg → List ℕ → Type 0 where
  last_arg : (a : WrittenArg) (s t : List ℕ) → Arg a s t → past_blanks t ≡ [] → Args (a ∷ []) s
  ended_arg : (a : WrittenArg) (s t u : List ℕ) → Arg a s t → Sign 59 t u → past_blanks u ≡ []
      → Args (a ∷ []) s
  next_arg : (a : WrittenArg) (more : List WrittenArg) (s t u : List ℕ) → Arg a s t → Sign 59 t u
      → Args more u → Args (a ∷ more) s
