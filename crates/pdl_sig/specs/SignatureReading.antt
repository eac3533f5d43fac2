-- The reader of signatures as a function of the text: a step of the proof. What is promised stands
-- in Grammar.
use Rattle.std.specs.Prelude.{ℕ, zero, suc, ◌==◌, nat_lt, Bool, true, false, List, [], ◌∷◌, length, take, drop, Option, Some, None, if◌then◌else◌}
use Rattle.std.specs.List.{prefix_len}
use Rattle.std.specs.Char.{is_ascii_digit}
use Rattle.pdl_elem.specs.declared.Ty.{Ty}
use Rattle.pdl_lex.specs.Bytes.{is_letter, is_word_byte}
use Rattle.pdl_sig.specs.declared.Role.{Role}
use Rattle.pdl_sig.specs.declared.Role.TheVariants.{Input}
use Rattle.pdl_sig.specs.declared.ArgType.{ArgType}
use Rattle.pdl_sig.specs.declared.ArgType.TheVariants.{Generic, Fixed, AtLeast}
use Rattle.pdl_sig.specs.declared.written.WrittenDim.{WrittenDim}
use Rattle.pdl_sig.specs.declared.written.WrittenArg.{WrittenArg}
use Rattle.pdl_sig.specs.Grammar.{past_blanks, begins, value_after, is_number, size_limit, type_of, role_of, is_arg_word, is_dim_word}

-- whether nothing but blanks is left
abbrev pub is_empty : List ℕ → Bool
is_empty [] = true
is_empty (b ∷ s) = false

abbrev pub is_end : List ℕ → Bool
is_end s = is_empty (past_blanks s)

-- the text after a sign
abbrev pub sign_in : ℕ → List ℕ → Option (List ℕ)
sign_in b [] = None
sign_in b (c ∷ s) = if c == b then Some s else None

unfoldable pub sign_at : ℕ → List ℕ → Option (List ℕ)
sign_at b s = sign_in b (past_blanks s)

-- the word at the front, and the text after it
abbrev pub word_in : List ℕ → Option (List ℕ × List ℕ)
word_in s =
    let count = prefix_len is_word_byte s in
    if begins is_letter s then Some (take count s, drop count s) else None

unfoldable pub word_at : List ℕ → Option (List ℕ × List ℕ)
word_at s = word_in (past_blanks s)

-- the number that digits spell, where they are one within the limit, with a text
abbrev pub in_limit : ℕ → List ℕ → Bool → Option (ℕ × List ℕ)
in_limit n t true = None
in_limit n t false = Some (n, t)

abbrev pub where_number : ℕ → List ℕ → Bool → Option (ℕ × List ℕ)
where_number n t false = None
where_number n t true = in_limit n t (nat_lt size_limit n)

abbrev pub number_of_digits : List ℕ → List ℕ → Option (ℕ × List ℕ)
number_of_digits digits t = where_number (value_after 0 digits) t (is_number digits)

abbrev pub number_in : List ℕ → Option (ℕ × List ℕ)
number_in s =
    let count = prefix_len is_ascii_digit s in
    number_of_digits (take count s) (drop count s)

unfoldable pub number_at : List ℕ → Option (ℕ × List ℕ)
number_at s = number_in (past_blanks s)

-- the argument's type, and the text after it
abbrev pub at_least : Ty → List ℕ → Option (List ℕ) → ArgType × List ℕ
at_least ty t None = (Fixed ty, t)
at_least ty t (Some u) = (AtLeast ty, u)

abbrev pub typed_as : List ℕ → List ℕ → Option Ty → ArgType × List ℕ
typed_as s t None = (Generic, s)
typed_as s t (Some ty) = at_least ty t (sign_at 43 t)

abbrev pub typed_by : List ℕ → Option (List ℕ × List ℕ) → ArgType × List ℕ
typed_by s None = (Generic, s)
typed_by s (Some x) = typed_as s x.1 (type_of x.0)

unfoldable pub typed_at : List ℕ → ArgType × List ℕ
typed_at s = typed_by s (word_at s)

-- the role, and the text after it
abbrev pub role_before : Option Role → Option (List ℕ) → Option (Role × List ℕ)
role_before None t = None
role_before (Some r) None = None
role_before (Some r) (Some t) = Some (r, t)

abbrev pub role_in : Option (List ℕ × List ℕ) → Option (Role × List ℕ)
role_in None = None
role_in (Some x) = role_before (role_of x.0) (sign_at 93 x.1)

abbrev pub marked_by : List ℕ → Option (List ℕ) → Option (Role × List ℕ)
marked_by s None = Some (Input, s)
marked_by s (Some t) = role_in (word_at t)

unfoldable pub marked_at : List ℕ → Option (Role × List ℕ)
marked_at s = marked_by s (sign_at 91 s)

-- the number that a dimension is fixed to, if any, and the text after it
abbrev pub size_before : Option (ℕ × List ℕ) → Option (Option ℕ × List ℕ)
size_before None = None
size_before (Some x) = Some (Some x.0, x.1)

abbrev pub sized_by : List ℕ → Option (List ℕ) → Option (Option ℕ × List ℕ)
sized_by t None = Some (None, t)
sized_by t (Some u) = size_before (number_at u)

unfoldable pub sized_at : List ℕ → Option (Option ℕ × List ℕ)
sized_at t = sized_by t (sign_at 61 t)

-- the dimension, and the text after it
abbrev pub dim_of : List ℕ → Option (Option ℕ × List ℕ) → Option (WrittenDim × List ℕ)
dim_of w None = None
dim_of w (Some x) = Some (record { name = w; size = x.0 }, x.1)

abbrev pub dim_by : Option (List ℕ × List ℕ) → Option (WrittenDim × List ℕ)
dim_by None = None
dim_by (Some x) = if is_dim_word x.0 then dim_of x.0 (sized_at x.1) else None

unfoldable pub dim_at : List ℕ → Option (WrittenDim × List ℕ)
dim_at s = dim_by (word_at s)

-- a dimension before others
abbrev pub before_dims : WrittenDim → Option (List WrittenDim × List ℕ)
    → Option (List WrittenDim × List ℕ)
before_dims d None = None
before_dims d (Some x) = Some (d ∷ x.0, x.1)

-- the dimensions up to the closing bracket, by what stands after the first one: a comma, or the
-- bracket
abbrev pub dims_by : (more : (List ℕ → Option (List WrittenDim × List ℕ))) → WrittenDim
    → (comma close : Option (List ℕ)) → Option (List WrittenDim × List ℕ)
dims_by more d (Some t) close = before_dims d (more t)
dims_by more d None None = None
dims_by more d None (Some t) = Some (d ∷ [], t)

abbrev pub dims_after : (List ℕ → Option (List WrittenDim × List ℕ)) → Option (WrittenDim × List ℕ)
    → Option (List WrittenDim × List ℕ)
dims_after more None = None
dims_after more (Some x) = dims_by more x.0 (sign_at 44 x.1) (sign_at 41 x.1)

-- at most so many dimensions up to the closing bracket, and the text after it
unfoldable pub dims_at : ℕ → List ℕ → Option (List WrittenDim × List ℕ)
dims_at zero s = None
dims_at (suc n) s = dims_after (dims_at n) (dim_at s)

-- the dimensions in brackets, and the text after them
abbrev pub bracket_by : List ℕ → Option (List ℕ) → Option (List WrittenDim × List ℕ)
bracket_by t None = dims_at (length t) t
bracket_by t (Some u) = Some ([], u)

abbrev pub bracket_after : Option (List ℕ) → Option (List WrittenDim × List ℕ)
bracket_after None = None
bracket_after (Some t) = bracket_by t (sign_at 41 t)

unfoldable pub bracket_at : List ℕ → Option (List WrittenDim × List ℕ)
bracket_at s = bracket_after (sign_at 40 s)

-- the argument, by its type, its role, its word and its dimensions
abbrev pub arg_of : ArgType → Role → (word : List ℕ) → (dims : Option (List WrittenDim × List ℕ))
    → Option (WrittenArg × List ℕ)
arg_of ty r w None = None
arg_of ty r w (Some x) = Some (record { name = w; role = r; ty = ty; dims = x.0 }, x.1)

abbrev pub arg_named : ArgType → Role → Option (List ℕ × List ℕ) → Option (WrittenArg × List ℕ)
arg_named ty r None = None
arg_named ty r (Some x) = if is_arg_word x.0 then arg_of ty r x.0 (bracket_at x.1) else None

abbrev pub arg_marked : ArgType → Option (Role × List ℕ) → Option (WrittenArg × List ℕ)
arg_marked ty None = None
arg_marked ty (Some x) = arg_named ty x.0 (word_at x.1)

unfoldable pub arg_at : List ℕ → Option (WrittenArg × List ℕ)
arg_at s = arg_marked (typed_at s).0 (marked_at (typed_at s).1)

-- an argument before others
abbrev pub before_args : WrittenArg → Option (List WrittenArg) → Option (List WrittenArg)
before_args a None = None
before_args a (Some more) = Some (a ∷ more)

-- the one argument, where nothing but blanks is left
abbrev pub only_arg : WrittenArg → Bool → Option (List WrittenArg)
only_arg a false = None
only_arg a true = Some (a ∷ [])

-- the arguments after a semicolon
abbrev pub args_past : (more : List ℕ → Option (List WrittenArg)) → WrittenArg → (rest : List ℕ)
    → (ended : Bool) → Option (List WrittenArg)
args_past more a t true = Some (a ∷ [])
args_past more a t false = before_args a (more t)

abbrev pub args_by : (more : List ℕ → Option (List WrittenArg)) → WrittenArg → (rest : List ℕ)
    → (semicolon : Option (List ℕ)) → Option (List WrittenArg)
args_by more a t None = only_arg a (is_end t)
args_by more a t (Some u) = args_past more a u (is_end u)

abbrev pub args_after : (List ℕ → Option (List WrittenArg)) → Option (WrittenArg × List ℕ)
    → Option (List WrittenArg)
args_after more None = None
args_after more (Some x) = args_by more x.0 x.1 (sign_at 59 x.1)

-- at most so many arguments up to the end
unfoldable pub args_at : ℕ → List ℕ → Option (List WrittenArg)
args_at zero s = None
args_at (suc n) s = args_after (args_at n) (arg_at s)

-- the arguments that the whole text spells, if any
abbrev pub read_args : List ℕ → Option (List WrittenArg)
read_args s = args_at (length s) s
