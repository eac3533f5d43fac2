-- What `read_signature` answers for a text: the signature of the arguments that it spells, or the
-- first refusal that holds.
use Rattle.std.specs.Prelude.{◌≡◌, ℕ, ◌+◌, ◌<◌, ◌==◌, Bool, true, false, not, ◌&&◌, ◌||◌, nat_lt, nat_le, nat_eq, List, [], ◌∷◌, ◌++◌, length, map, Option, Some, None, is_some, IsTrue, bytes_eq, if◌then◌else◌, All}
use Rattle.std.specs.List.{list_any, list_all, position_or_len}
use Rattle.pdl_sig.specs.declared.SigArg.{SigArg}
use Rattle.pdl_sig.specs.declared.Signature.{Signature}
use Rattle.pdl_sig.specs.declared.SigFault.{SigFault}
use Rattle.pdl_sig.specs.declared.SigFault.TheVariants.{BadText, TooManyNames, TwiceNamed, NoOutput, OpenSize, NoMemory}
use Rattle.pdl_sig.specs.declared.written.WrittenDim.{WrittenDim}
use Rattle.pdl_sig.specs.declared.written.WrittenArg.{WrittenArg}
use Rattle.pdl_sig.specs.declared.refusing.TheConstants.{MOST_ARGS, MOST_DIM_NAMES}
use Rattle.pdl_sig.specs.Grammar.{Args, is_arg_word, is_dim_word, size_limit}
use Rattle.pdl_sig.specs.Resolution.{is_given, is_output}
use Rattle.pdl_lex.specs.Tokens.{is_word}

-- whether the word is among the names
abbrev pub has_name : List (List ℕ) → List ℕ → Bool
has_name names w = list_any (bytes_eq w) names

-- the names, and the word after them where it isn't among them
abbrev pub with_name : List (List ℕ) → List ℕ → List (List ℕ)
with_name names w = if has_name names w then names else names ++ w ∷ []

-- the names, and after them the words of dimensions in the order in which they first stand
abbrev pub names_after : List (List ℕ) → List WrittenDim → List (List ℕ)
names_after names [] = names
names_after names (d ∷ ds) = names_after (with_name names d.name) ds

-- the same, for the dimensions of all arguments
abbrev pub all_names : List (List ℕ) → List WrittenArg → List (List ℕ)
all_names names [] = names
all_names names (a ∷ args) = all_names (names_after names a.dims) args

-- the number of a word among the names
abbrev pub number_of : List (List ℕ) → List ℕ → ℕ
number_of names w = position_or_len (bytes_eq w) names

-- an argument, with the numbers of its dimensions' words
abbrev pub numbered : List (List ℕ) → WrittenArg → SigArg
numbered names a = record {
  name = a.name;
  role = a.role;
  ty = a.ty;
  dims = map (λ d. number_of names d.name) a.dims;
}

-- the first of two numbers, if any
abbrev pub first_of : Option ℕ → Option ℕ → Option ℕ
first_of None other = other
first_of (Some n) other = Some n

-- the number that a dimension has where it is this word's
abbrev pub size_for : List ℕ → WrittenDim → Option ℕ
size_for w d = if bytes_eq w d.name then d.size else None

-- the first number to which dimensions fix a word
abbrev pub fixed_among : List ℕ → List WrittenDim → Option ℕ
fixed_among w [] = None
fixed_among w (d ∷ ds) = first_of (size_for w d) (fixed_among w ds)

-- the first number to which the arguments fix a word
abbrev pub fixed_in : List WrittenArg → List ℕ → Option ℕ
fixed_in [] w = None
fixed_in (a ∷ args) w = first_of (fixed_among w a.dims) (fixed_in args w)

-- the signature of arguments as they are written
abbrev pub signature_of : List WrittenArg → Signature
signature_of args = record {
  args = map (numbered (all_names [] args)) args;
  names = all_names [] args;
  fixed = map (fixed_in args) (all_names [] args);
}

-- at most so many arguments, and so many names of dimensions
abbrev pub args_limit : ℕ
args_limit = MOST_ARGS

abbrev pub dim_names_limit : ℕ
dim_names_limit = MOST_DIM_NAMES

-- whether something stands twice in a list
abbrev pub has_twice : {X : Type 0} → (X → X → Bool) → List X → Bool
has_twice same [] = false
has_twice same (x ∷ xs) = list_any (same x) xs || has_twice same xs

-- whether two arguments have one name
abbrev pub has_one_name : SigArg → SigArg → Bool
has_one_name a b = bytes_eq a.name b.name

-- whether an argument's name stands twice, or within one argument a dimension
abbrev pub is_twice_named : List SigArg → Bool
is_twice_named args = has_twice has_one_name args || list_any (λ a. has_twice nat_eq a.dims) args

-- whether both are numbers, and not the same
abbrev pub are_different : Option ℕ → Option ℕ → Bool
are_different (Some n) (Some m) = not (n == m)
are_different _ _ = false

-- whether a dimension is fixed to another number than the first one for its word
abbrev pub is_fixed_again : List WrittenArg → Bool
is_fixed_again args =
    list_any (λ a. list_any (λ d. are_different d.size (fixed_in args d.name)) a.dims) args

-- whether the dimension of number n stands in an input or an `[io]` argument
abbrev pub is_sized : List SigArg → ℕ → Bool
is_sized args n = list_any (λ a. is_given a.role && list_any (nat_eq n) a.dims) args

-- whether a dimension, from number n on, has no size: it isn't fixed, and stands in no input
abbrev pub has_open : List SigArg → ℕ → List (Option ℕ) → Bool
has_open args n [] = false
has_open args n (fixed ∷ rest) =
    (not (is_some fixed) && not (is_sized args n)) || has_open args (n + 1) rest

-- the first refusal that holds of a signature, in which a dimension was fixed again or not
abbrev pub refusal : Signature → Bool → Option SigFault
refusal signature fixed_again =
    if nat_lt args_limit (length signature.args) || nat_lt dim_names_limit (length signature.names)
    then Some TooManyNames
    else (if is_twice_named signature.args || fixed_again then Some TwiceNamed
    else (if not (list_any (λ a. is_output a.role) signature.args) then Some NoOutput
    else (if has_open signature.args 0 signature.fixed then Some OpenSize
    else None)))

-- the first refusal of arguments as they are written
abbrev pub refusal_of : List WrittenArg → Option SigFault
refusal_of args = refusal (signature_of args) (is_fixed_again args)

-- the text spells the signature, by the arguments that it writes, and none of the refusals holds
pub record Signs (signature : Signature) (text : List ℕ) : Type 0 where
  pub args : List WrittenArg
  pub spelled : Args args text
  pub meant : signature ≡ signature_of args
  pub allowed : refusal_of args ≡ None

-- the text spells arguments, of which this is the first refusal
pub record IsRefused (text : List ℕ) (fault : SigFault) : Type 0 where
  pub args : List WrittenArg
  pub spelled : Args args text
  pub first : refusal_of args ≡ Some fault

-- why a fault comes; `NoMemory` may come at any text
abbrev pub IsFaultOf : List ℕ → SigFault → Type 0
IsFaultOf text BadText = (args : List WrittenArg) → ¬ Args args text
IsFaultOf text NoMemory = Unit {0}
IsFaultOf text fault = IsRefused text fault

-- whether a size, if any, is within the limit
abbrev pub is_allowed_size : Option ℕ → Bool
is_allowed_size None = true
is_allowed_size (Some n) = nat_le n size_limit

-- each dimension's number is one of a name, names are distinct, there is one fixed size or none for
-- each; words and numbers are those that the grammar allows; and no refusal holds
pub record IsWellFormed (signature : Signature) : Type 0 where
  pub numbers : All (λ a. All (λ n. n < length signature.names) a.dims) signature.args
  pub distinct : has_twice bytes_eq signature.names ≡ false
  pub paired : length signature.fixed ≡ length signature.names
  pub arg_words : IsTrue (list_all (λ a. is_word a.name && is_arg_word a.name) signature.args)
  pub dim_words : IsTrue (list_all (λ w. is_word w && is_dim_word w) signature.names)
  pub sizes : IsTrue (list_all is_allowed_size signature.fixed)
  pub allowed : refusal signature false ≡ None
