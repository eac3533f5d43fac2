-- What is spelled is read.
use Rattle.std.proofs.Common.{◌≡◌, ℕ, zero, suc, ◌<◌, ◌≤◌, Bool, true, false, not, ◌&&◌, is_some, List, [], ◌∷◌, length, Option, Some, None, refl, ap, ap₂, ◌∙◌, arith, if◌then◌else◌}
use Rattle.pdl_elem.specs.declared.Ty.{Ty}
use Rattle.pdl_sig.specs.declared.Role.{Role}
use Rattle.pdl_sig.specs.declared.Role.TheVariants.{Input}
use Rattle.pdl_sig.specs.declared.ArgType.{ArgType}
use Rattle.pdl_sig.specs.declared.ArgType.TheVariants.{Generic}
use Rattle.pdl_sig.specs.declared.written.WrittenDim.{WrittenDim}
use Rattle.pdl_sig.specs.declared.written.WrittenArg.{WrittenArg}
use Rattle.pdl_sig.specs.Grammar.{past_blanks, Word, Typed, untyped, of_type, at_least_type, Marked, input_role, marked_role, Dim, unfixed_dim, fixed_dim, Dims, last_dim, next_dim, Bracketed, no_dims, some_dims, Arg, whole_arg, Args, last_arg, ended_arg, next_arg, type_of, is_arg_word}
use Rattle.pdl_sig.specs.SignatureReading.{is_empty, is_end, sign_at, at_least, typed_as, typed_by, typed_at, role_before, role_in, marked_by, marked_at, size_before, sized_by, sized_at, dim_of, dim_by, dim_at, before_dims, dims_by, dims_after, dims_at, bracket_by, bracket_after, bracket_at, arg_of, arg_named, arg_marked, arg_at, before_args, only_arg, args_past, args_by, args_after, args_at}
use Rattle.pdl_sig.proofs.SignatureReadingTokens.{sign_read, sign_shorter, no_sign_before, no_sign_end, no_sign_word, no_word_sign, no_word_end, word_read, word_shorter, number_read, number_shorter}

-- an argument's word is no type word
no_type : (o : Option Ty) (a : Bool) → (not (is_some o) && a) ≡ true → o ≡ None
no_type None a h = refl
no_type (Some t) a h = cc

-- what stands after a type, or before an argument's word
after_type : (r : Role) (t u v w : List ℕ) → Marked r t u → Word w u v → sign_at 43 t ≡ None
after_type r t u v w (input_role x) l = no_sign_word 43 w x v l refl
after_type r t u v w (marked_role q y s x z a k m e g) l = no_sign_before 43 91 s x k refl

typed_read : (ty : ArgType) (r : Role) (s t u v w : List ℕ) → Typed ty s t → Marked r t u → Word w u v → is_arg_word w ≡ true → typed_at s ≡ (ty, t)
unfolding typed_at
typed_read ty r s t u v w (untyped x) (input_role y) l e =
    ap (typed_by y) (word_read w y v l) ∙ ap (typed_as y v) (no_type (type_of w) _ e)
typed_read ty r s t u v w (untyped x) (marked_role q y a b c d k m f g) l e = ap (typed_by a) (no_word_sign 91 a b k refl)
typed_read ty r s t u v w (of_type q y a b k f) m l e =
    ap (typed_by a) (word_read y a b k) ∙ ap (typed_as a b) f ∙ ap (at_least q b) (after_type r b u v w m l)
typed_read ty r s t u v w (at_least_type q y a b c k f g) m l e =
    ap (typed_by a) (word_read y a b k) ∙ ap (typed_as a b) f ∙ ap (at_least q b) (sign_read 43 b c g)

marked_read : (r : Role) (s t v w : List ℕ) → Marked r s t → Word w t v → marked_at s ≡ Some (r, t)
unfolding marked_at
marked_read r s t v w (input_role x) l = ap (marked_by x) (no_sign_word 91 w x v l refl)
marked_read r s t v w (marked_role q y a b c d k m f g) l =
    ap (marked_by a) (sign_read 91 a b k) ∙ ap role_in (word_read y b c m) ∙ ap₂ role_before f (sign_read 93 c d g)

-- a dimension
dim_read : (d : WrittenDim) (s t : List ℕ) → Dim d s t → sign_at 61 t ≡ None → dim_at s ≡ Some (d, t)
unfolding dim_at sized_at
dim_read d s t (unfixed_dim w a b k e) n =
    ap dim_by (word_read w a b k) ∙ ap (λ x. if x then dim_of w (sized_at b) else None) e ∙ ap (λ o. dim_of w (sized_by b o)) n
dim_read d s t (fixed_dim m w a b c x k e g l h) n =
    ap dim_by (word_read w a b k) ∙ ap (λ y. if y then dim_of w (sized_at b) else None) e ∙ ap (λ o. dim_of w (sized_by b o)) (sign_read 61 b c g)
    ∙ ap (λ o. dim_of w (size_before o)) (number_read m c x l h)

dim_shorter : (d : WrittenDim) (s t : List ℕ) → Dim d s t → length t < length s
dim_shorter d s t (unfixed_dim w a b k e) = word_shorter w a b k
dim_shorter d s t (fixed_dim m w a b c x k e g l h) = omega (arith, word_shorter w a b k, sign_shorter 61 b c g, number_shorter m c x l)

dim_open : (d : WrittenDim) (s t : List ℕ) → Dim d s t → sign_at 41 s ≡ None
dim_open d s t (unfixed_dim w a b k e) = no_sign_word 41 w a b k refl
dim_open d s t (fixed_dim m w a b c x k e g l h) = no_sign_word 41 w a b k refl

-- dimensions
dims_open : (ds : List WrittenDim) (s t : List ℕ) → Dims ds s t → sign_at 41 s ≡ None
dims_open ds s t (last_dim d a b c k g) = dim_open d a b k
dims_open ds s t (next_dim d es a b c x k g r) = dim_open d a b k

dims_shorter : (ds : List WrittenDim) (s t : List ℕ) → Dims ds s t → length t < length s
dims_shorter ds s t (last_dim d a b c k g) = omega (arith, dim_shorter d a b k, sign_shorter 41 b c g)
dims_shorter ds s t (next_dim d es a b c x k g r) = omega (arith, dim_shorter d a b k, sign_shorter 44 b c g, dims_shorter es c x r)

dims_read : (ds : List WrittenDim) (s t : List ℕ) → Dims ds s t → (n : ℕ) → length s ≤ n → dims_at n s ≡ Some (ds, t)
unfolding dims_at
dims_read ds s t (last_dim d a b c k g) zero h = absurd (omega (arith, dim_shorter d a b k, h))
dims_read ds s t (last_dim d a b c k g) (suc n) h =
    ap (dims_after (dims_at n)) (dim_read d a b k (no_sign_before 61 41 b c g refl))
    ∙ ap₂ (dims_by (dims_at n) d) (no_sign_before 44 41 b c g refl) (sign_read 41 b c g)
dims_read ds s t (next_dim d es a b c x k g r) zero h = absurd (omega (arith, dim_shorter d a b k, h))
dims_read ds s t (next_dim d es a b c x k g r) (suc n) h =
    ap (dims_after (dims_at n)) (dim_read d a b k (no_sign_before 61 44 b c g refl))
    ∙ ap₂ (dims_by (dims_at n) d) (sign_read 44 b c g) (no_sign_before 41 44 b c g refl)
    ∙ ap (before_dims d) (dims_read es c x r n (omega (arith, dim_shorter d a b k, sign_shorter 44 b c g, h)))

bracket_read : (ds : List WrittenDim) (s t : List ℕ) → Bracketed ds s t → bracket_at s ≡ Some (ds, t)
unfolding bracket_at
bracket_read ds s t (no_dims a b c k g) = ap bracket_after (sign_read 40 a b k) ∙ ap (bracket_by b) (sign_read 41 b c g)
bracket_read ds s t (some_dims es a b c k r) =
    ap bracket_after (sign_read 40 a b k) ∙ ap (bracket_by b) (dims_open es b c r) ∙ dims_read es b c r (length b) (omega arith)

bracket_shorter : (ds : List WrittenDim) (s t : List ℕ) → Bracketed ds s t → length t < length s
bracket_shorter ds s t (no_dims a b c k g) = omega (arith, sign_shorter 40 a b k, sign_shorter 41 b c g)
bracket_shorter ds s t (some_dims es a b c k r) = omega (arith, sign_shorter 40 a b k, dims_shorter es b c r)

-- an argument
pub arg_read : (a : WrittenArg) (s t : List ℕ) → Arg a s t → arg_at s ≡ Some (a, t)
unfolding arg_at
arg_read a s t (whole_arg ty r w ds b c d e f k l m h g) =
    ap (λ y. arg_marked y.0 (marked_at y.1)) (typed_read ty r b c d e w k l m h)
    ∙ ap (arg_marked ty) (marked_read r c d e w l m)
    ∙ ap (arg_named ty r) (word_read w d e m)
    ∙ ap (λ z. if z then arg_of ty r w (bracket_at e) else None) h
    ∙ ap (arg_of ty r w) (bracket_read ds e f g)

typed_within : (ty : ArgType) (s t : List ℕ) → Typed ty s t → length t ≤ length s
typed_within ty s t (untyped x) = omega arith
typed_within ty s t (of_type q y a b k f) = omega (arith, word_shorter y a b k)
typed_within ty s t (at_least_type q y a b c k f g) = omega (arith, word_shorter y a b k, sign_shorter 43 b c g)

marked_within : (r : Role) (s t : List ℕ) → Marked r s t → length t ≤ length s
marked_within r s t (input_role x) = omega arith
marked_within r s t (marked_role q y a b c d k m f g) = omega (arith, sign_shorter 91 a b k, word_shorter y b c m, sign_shorter 93 c d g)

arg_shorter : (a : WrittenArg) (s t : List ℕ) → Arg a s t → length t < length s
arg_shorter a s t (whole_arg ty r w ds b c d e f k l m h g) =
    omega (arith, typed_within ty b c k, marked_within r c d l, word_shorter w d e m, bracket_shorter ds e f g)

-- no argument stands at the end
end_no_arg : (s : List ℕ) → past_blanks s ≡ [] → arg_at s ≡ None
unfolding arg_at typed_at marked_at
end_no_arg s e =
    ap (λ o. arg_marked (typed_by s o).0 (marked_by (typed_by s o).1 (sign_at 91 (typed_by s o).1))) (no_word_end s e)
    ∙ ap (λ o. arg_marked Generic (marked_by s o)) (no_sign_end 91 s e)
    ∙ ap (arg_named Generic Input) (no_word_end s e)

goes_on : (a : WrittenArg) (s t u : List ℕ) → arg_at s ≡ Some (a, t) → past_blanks s ≡ u → is_empty u ≡ false
goes_on a s t [] h e = let none : arg_at s ≡ None = end_no_arg s e in cc
goes_on a s t (b ∷ u) h e = refl

args_go_on : (all : List WrittenArg) (s : List ℕ) → Args all s → is_end s ≡ false
args_go_on all s (last_arg a b c k e) = goes_on a b c (past_blanks b) (arg_read a b c k) refl
args_go_on all s (ended_arg a b c d k g e) = goes_on a b c (past_blanks b) (arg_read a b c k) refl
args_go_on all s (next_arg a more b c d k g r) = goes_on a b c (past_blanks b) (arg_read a b c k) refl

pub args_read : (all : List WrittenArg) (s : List ℕ) → Args all s → (n : ℕ) → length s ≤ n → args_at n s ≡ Some all
unfolding args_at
args_read all s (last_arg a b c k e) zero h = absurd (omega (arith, arg_shorter a b c k, h))
args_read all s (last_arg a b c k e) (suc n) h =
    ap (args_after (args_at n)) (arg_read a b c k) ∙ ap (args_by (args_at n) a c) (no_sign_end 59 c e) ∙ ap (λ u. only_arg a (is_empty u)) e
args_read all s (ended_arg a b c d k g e) zero h = absurd (omega (arith, arg_shorter a b c k, h))
args_read all s (ended_arg a b c d k g e) (suc n) h =
    ap (args_after (args_at n)) (arg_read a b c k) ∙ ap (args_by (args_at n) a c) (sign_read 59 c d g) ∙ ap (λ u. args_past (args_at n) a d (is_empty u)) e
args_read all s (next_arg a more b c d k g r) zero h = absurd (omega (arith, arg_shorter a b c k, h))
args_read all s (next_arg a more b c d k g r) (suc n) h =
    ap (args_after (args_at n)) (arg_read a b c k) ∙ ap (args_by (args_at n) a c) (sign_read 59 c d g) ∙ ap (args_past (args_at n) a d) (args_go_on more d r)
    ∙ ap (before_args a) (args_read more d r n (omega (arith, arg_shorter a b c k, sign_shorter 59 c d g, h)))
