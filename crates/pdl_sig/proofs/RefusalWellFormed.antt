-- The signature that a text spells is well formed.
use Rattle.std.proofs.Common.{◌≡◌, ℕ, ◌<◌, Bool, true, false, not, ◌&&◌, ◌||◌, nat_lt, List, [], ◌∷◌, ◌++◌, length, map, get_or, All, Option, Some, None, refl, ap, sym, ◌∙◌, subst, arith, if◌then◌else◌}
use Rattle.std.specs.Prelude.{bytes_eq}
use Rattle.std.specs.List.{list_any, list_all}
use Rattle.std.proofs.lemmas.List.{length-map, get_or-map}
use Rattle.std.proofs.lemmas.Bool.Decides.{nat_tests}
use Rattle.std.proofs.lemmas.Bool.{and_parts, and_from}
use Rattle.pdl_lex.specs.Tokens.{is_word}
use Rattle.pdl_sig.specs.declared.Role.TheVariants.{Input}
use Rattle.pdl_sig.specs.declared.ArgType.TheVariants.{Generic}
use Rattle.pdl_sig.specs.declared.SigArg.{SigArg}
use Rattle.pdl_sig.specs.declared.Signature.{Signature}
use Rattle.pdl_sig.specs.declared.SigFault.TheVariants.{TooManyNames, TwiceNamed, NoOutput, OpenSize}
use Rattle.pdl_sig.specs.declared.written.WrittenDim.{WrittenDim}
use Rattle.pdl_sig.specs.declared.written.WrittenArg.{WrittenArg}
use Rattle.pdl_sig.specs.Grammar.{Dim, unfixed_dim, fixed_dim, Dims, last_dim, next_dim, Bracketed, no_dims, some_dims, Arg, whole_arg, Args, last_arg, ended_arg, next_arg, is_arg_word, is_dim_word}
use Rattle.pdl_sig.specs.Refusals.{with_name, has_name, names_after, all_names, number_of, numbered, first_of, size_for, fixed_among, fixed_in, signature_of, is_twice_named, is_fixed_again, has_open, refusal_of, Signs, is_allowed_size, IsWellFormed}
use Rattle.pdl_sig.specs.Resolution.{is_output}
use Rattle.pdl_sig.proofs.RefusalNames.{has_all, number_below, twice_all}

-- what the grammar allows in a dimension and in an argument
abbrev is_good_dim : WrittenDim → Bool
is_good_dim d = (is_word d.name && is_dim_word d.name) && is_allowed_size d.size

abbrev is_good_arg : WrittenArg → Bool
is_good_arg a = (is_word a.name && is_arg_word a.name) && list_all is_good_dim a.dims

good_dim : (d : WrittenDim) (s t : List ℕ) → Dim d s t → is_good_dim d ≡ true
good_dim d s t (unfixed_dim w a b k e) = and_from _ _ (and_from _ _ k.word e) refl
good_dim d s t (fixed_dim n w a b c x k e g m h) = and_from _ _ (and_from _ _ k.word e) (grind (arith, nat_tests, h))

good_dims : (ds : List WrittenDim) (s t : List ℕ) → Dims ds s t → list_all is_good_dim ds ≡ true
good_dims ds s t (last_dim d a b c k g) = and_from _ _ (good_dim d a b k) refl
good_dims ds s t (next_dim d es a b c x k g r) = and_from _ _ (good_dim d a b k) (good_dims es c x r)

good_bracket : (ds : List WrittenDim) (s t : List ℕ) → Bracketed ds s t → list_all is_good_dim ds ≡ true
good_bracket ds s t (no_dims a b c k g) = refl
good_bracket ds s t (some_dims es a b c k r) = good_dims es b c r

good_arg : (a : WrittenArg) (s t : List ℕ) → Arg a s t → is_good_arg a ≡ true
good_arg a s t (whole_arg ty r w ds b c d e f k l m h g) = and_from _ _ (and_from _ _ m.word h) (good_bracket ds e f g)

good_args : (args : List WrittenArg) (s : List ℕ) → Args args s → list_all is_good_arg args ≡ true
good_args args s (last_arg a b c k e) = and_from _ _ (good_arg a b c k) refl
good_args args s (ended_arg a b c d k g e) = and_from _ _ (good_arg a b c k) refl
good_args args s (next_arg a more b c d k g r) = and_from _ _ (good_arg a b c k) (good_args more d r)

-- the words of arguments
arg_words : (names : List (List ℕ)) (args : List WrittenArg) → list_all is_good_arg args ≡ true → list_all (λ a. is_word a.name && is_arg_word a.name) (map (numbered names) args) ≡ true
arg_words names [] h = refl
arg_words names (a ∷ args) h =
    and_from _ _ (and_parts (is_word a.name && is_arg_word a.name) (list_all is_good_dim a.dims) (and_parts (is_good_arg a) (list_all is_good_arg args) h).0).0
    (arg_words names args (and_parts (is_good_arg a) (list_all is_good_arg args) h).1)

-- the words of dimensions
abbrev is_good_word : List ℕ → Bool
is_good_word w = is_word w && is_dim_word w

push_word : (names : List (List ℕ)) (w : List ℕ) → list_all is_good_word names ≡ true → is_good_word w ≡ true → list_all is_good_word (names ++ w ∷ []) ≡ true
push_word [] w h k = and_from _ _ k refl
push_word (x ∷ names) w h k = and_from _ _ (and_parts (is_good_word x) (list_all is_good_word names) h).0 (push_word names w (and_parts (is_good_word x) (list_all is_good_word names) h).1 k)

by_word : (names : List (List ℕ)) (w : List ℕ) (t : Bool) → list_all is_good_word names ≡ true → is_good_word w ≡ true → list_all is_good_word (if t then names else names ++ w ∷ []) ≡ true
by_word names w true h k = h
by_word names w false h k = push_word names w h k

words_after : (names : List (List ℕ)) (ds : List WrittenDim) → list_all is_good_word names ≡ true → list_all is_good_dim ds ≡ true → list_all is_good_word (names_after names ds) ≡ true
words_after names [] h k = h
words_after names (d ∷ ds) h k =
    words_after (with_name names d.name) ds
    (by_word names d.name (has_name names d.name) h (and_parts (is_good_word d.name) (is_allowed_size d.size) (and_parts (is_good_dim d) (list_all is_good_dim ds) k).0).0)
    (and_parts (is_good_dim d) (list_all is_good_dim ds) k).1

words_all : (names : List (List ℕ)) (args : List WrittenArg) → list_all is_good_word names ≡ true → list_all is_good_arg args ≡ true → list_all is_good_word (all_names names args) ≡ true
words_all names [] h k = h
words_all names (a ∷ args) h k =
    words_all (names_after names a.dims) args
    (words_after names a.dims h (and_parts (is_word a.name && is_arg_word a.name) (list_all is_good_dim a.dims) (and_parts (is_good_arg a) (list_all is_good_arg args) k).0).1)
    (and_parts (is_good_arg a) (list_all is_good_arg args) k).1

-- fixed sizes
first_allowed : (a b : Option ℕ) → is_allowed_size a ≡ true → is_allowed_size b ≡ true → is_allowed_size (first_of a b) ≡ true
first_allowed None b h k = k
first_allowed (Some n) b h k = h

by_size : (d : WrittenDim) (t : Bool) → is_allowed_size d.size ≡ true → is_allowed_size (if t then d.size else None) ≡ true
by_size d true h = h
by_size d false h = refl

among_allowed : (w : List ℕ) (ds : List WrittenDim) → list_all is_good_dim ds ≡ true → is_allowed_size (fixed_among w ds) ≡ true
among_allowed w [] h = refl
among_allowed w (d ∷ ds) h =
    first_allowed (size_for w d) (fixed_among w ds)
    (by_size d (bytes_eq w d.name) (and_parts (is_good_word d.name) (is_allowed_size d.size) (and_parts (is_good_dim d) (list_all is_good_dim ds) h).0).1)
    (among_allowed w ds (and_parts (is_good_dim d) (list_all is_good_dim ds) h).1)

in_allowed : (args : List WrittenArg) (w : List ℕ) → list_all is_good_arg args ≡ true → is_allowed_size (fixed_in args w) ≡ true
in_allowed [] w h = refl
in_allowed (a ∷ args) w h =
    first_allowed (fixed_among w a.dims) (fixed_in args w)
    (among_allowed w a.dims (and_parts (is_word a.name && is_arg_word a.name) (list_all is_good_dim a.dims) (and_parts (is_good_arg a) (list_all is_good_arg args) h).0).1)
    (in_allowed args w (and_parts (is_good_arg a) (list_all is_good_arg args) h).1)

sizes_allowed : (args : List WrittenArg) (names : List (List ℕ)) → list_all is_good_arg args ≡ true → list_all is_allowed_size (map (fixed_in args) names) ≡ true
sizes_allowed args [] h = refl
sizes_allowed args (w ∷ names) h = and_from _ _ (in_allowed args w h) (sizes_allowed args names h)

-- numbers
no_arg : WrittenArg
no_arg = record { name = []; role = Input; ty = Generic; dims = [] }

no_dim : WrittenDim
no_dim = record { name = []; size = None }

numbers_below : (args : List WrittenArg) → All (λ a. All (λ n. n < length (all_names [] args)) a.dims) (map (numbered (all_names [] args)) args)
numbers_below args i d h j e k =
    let names = all_names [] args in
    let inside : i < length args = omega (arith, length-map args (numbered names), h) in
    let arg_is : get_or (map (numbered names) args) i d ≡ numbered names (get_or args i no_arg) = get_or-map (numbered names) args i no_arg d inside in
    let a = get_or args i no_arg in
    let within : j < length a.dims = omega (arith, ap (λ (b : SigArg). length b.dims) arg_is, length-map a.dims (λ (x : WrittenDim). number_of names x.name), k) in
    let number_is : get_or (get_or (map (numbered names) args) i d).dims j e ≡ number_of names (get_or a.dims j no_dim).name =
    ap (λ (b : SigArg). get_or b.dims j e) arg_is ∙ get_or-map (λ (x : WrittenDim). number_of names x.name) a.dims j no_dim e within in
    let P : ℕ → Type 0 = λ n. n < length names in
    subst P (sym number_is) (number_below (get_or a.dims j no_dim).name names (has_all [] args i j no_arg no_dim inside within))

-- no refusal of what is written is none of the signature
unrefused : (a b c d e : Bool) → (if a then Some TooManyNames else (if b || e then Some TwiceNamed else (if c then Some NoOutput else (if d then Some OpenSize else None)))) ≡ None
    → (if a then Some TooManyNames else (if b || false then Some TwiceNamed else (if c then Some NoOutput else (if d then Some OpenSize else None)))) ≡ None
unrefused true b c d e h = cc
unrefused false true c d e h = cc
unrefused false false true d true h = cc
unrefused false false true d false h = cc
unrefused false false false true true h = cc
unrefused false false false true false h = cc
unrefused false false false false e h = refl

meant_well : (args : List WrittenArg) (text : List ℕ) → Args args text → refusal_of args ≡ None → IsWellFormed (signature_of args)
meant_well args text k h =
    let good : list_all is_good_arg args ≡ true = good_args args text k in
    let names = all_names [] args in
    let signature = signature_of args in
    record {
      numbers = numbers_below args;
      distinct = twice_all [] args refl;
      paired = length-map names (fixed_in args);
      arg_words = arg_words names args good;
      dim_words = words_all [] args refl good;
      sizes = sizes_allowed args names good;
      allowed = unrefused (nat_lt 16 (length signature.args) || nat_lt 8 (length names)) (is_twice_named signature.args) (not (list_any (λ a. is_output a.role) signature.args))
          (has_open signature.args 0 signature.fixed) (is_fixed_again args) h;
    }

pub well_formed : (signature : Signature) (text : List ℕ) → Signs signature text → IsWellFormed signature
well_formed signature text s =
    let P : Signature → Type 0 = IsWellFormed in
    subst P (sym s.meant) (meant_well s.args text s.spelled s.allowed)
