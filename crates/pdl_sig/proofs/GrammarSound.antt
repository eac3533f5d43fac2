-- What is read is spelled.
use Rattle.std.proofs.Common.{◌≡◌, ℕ, zero, suc, Bool, true, false, List, [], ◌∷◌, length, Option, Some, None, refl, ap, ◌∙◌, subst, if◌then◌else◌}
use Rattle.std.proofs.lemmas.Option.{same_Some}
use Rattle.pdl_elem.specs.declared.Ty.{Ty}
use Rattle.pdl_sig.specs.declared.Role.{Role}
use Rattle.pdl_sig.specs.declared.Role.TheVariants.{Input}
use Rattle.pdl_sig.specs.declared.ArgType.{ArgType}
use Rattle.pdl_sig.specs.declared.written.WrittenDim.{WrittenDim}
use Rattle.pdl_sig.specs.declared.written.WrittenArg.{WrittenArg}
use Rattle.pdl_sig.specs.Grammar.{past_blanks, Sign, Word, Typed, untyped, of_type, at_least_type, Marked, input_role, marked_role, Dim, unfixed_dim, fixed_dim, Dims, last_dim, next_dim, Bracketed, no_dims, some_dims, Arg, whole_arg, Args, last_arg, ended_arg, next_arg, type_of, role_of, is_arg_word, is_dim_word}
use Rattle.pdl_sig.specs.SignatureReading.{is_empty, is_end, sign_at, word_at, number_at, at_least, typed_as, typed_by, typed_at, role_before, role_in, marked_by, marked_at, size_before, sized_by, sized_at, dim_of, dim_by, dim_at, before_dims, dims_by, dims_after, dims_at, bracket_by, bracket_after, bracket_at, arg_of, arg_named, arg_marked, arg_at, before_args, only_arg, args_past, args_by, args_after, args_at}
use Rattle.pdl_sig.proofs.SignatureReadingTokens.{sign_stands, word_stands, number_stands}

-- an argument's type
least_spelled : (s w t : List ℕ) (ty : Ty) (o : Option (List ℕ)) → Word w s t → type_of w ≡ Some ty → sign_at 43 t ≡ o → Typed (at_least ty t o).0 s (at_least ty t o).1
least_spelled s w t ty None k e h = of_type ty w s t k e
least_spelled s w t ty (Some u) k e h = at_least_type ty w s t u k e (sign_stands 43 t u h)

as_spelled : (s w t : List ℕ) (o : Option Ty) → Word w s t → type_of w ≡ o → Typed (typed_as s t o).0 s (typed_as s t o).1
as_spelled s w t None k e = untyped s
as_spelled s w t (Some ty) k e = least_spelled s w t ty (sign_at 43 t) k e refl

by_spelled : (s : List ℕ) (o : Option (List ℕ × List ℕ)) → word_at s ≡ o → Typed (typed_by s o).0 s (typed_by s o).1
by_spelled s None h = untyped s
by_spelled s (Some (w, t)) h = as_spelled s w t (type_of w) (word_stands w s t h) refl

pub typed_spelled : (s : List ℕ) → Typed (typed_at s).0 s (typed_at s).1
unfolding typed_at
typed_spelled s = by_spelled s (word_at s) refl

-- an argument's role
role_spelled : (s t w u : List ℕ) (o : Option Role) (p : Option (List ℕ)) (r : Role) (v : List ℕ) → Sign 91 s t → Word w t u → role_of w ≡ o → sign_at 93 u ≡ p
    → role_before o p ≡ Some (r, v) → Marked r s v
role_spelled s t w u None p r v k l e f h = cc
role_spelled s t w u (Some q) None r v k l e f h = cc
role_spelled s t w u (Some q) (Some x) r v k l e f h =
    let same = same_Some {A = Role × List ℕ} (q, x) (r, v) h in
    marked_role r w s t u v k l (e ∙ ap (λ (y : Role × List ℕ). Some y.0) same) (sign_stands 93 u v (f ∙ ap (λ (y : Role × List ℕ). Some y.1) same))

in_spelled : (s t : List ℕ) (o : Option (List ℕ × List ℕ)) (r : Role) (v : List ℕ) → Sign 91 s t → word_at t ≡ o → role_in o ≡ Some (r, v) → Marked r s v
in_spelled s t None r v k e h = cc
in_spelled s t (Some (w, u)) r v k e h = role_spelled s t w u (role_of w) (sign_at 93 u) r v k (word_stands w t u e) refl refl h

marked_by_spelled : (s : List ℕ) (o : Option (List ℕ)) (r : Role) (v : List ℕ) → sign_at 91 s ≡ o → marked_by s o ≡ Some (r, v) → Marked r s v
marked_by_spelled s None r v e h =
    let same = same_Some {A = Role × List ℕ} (Input, s) (r, v) h in
    let P : Role × List ℕ → Type 0 = λ x. Marked x.0 s x.1 in
    subst P same (input_role s)
marked_by_spelled s (Some t) r v e h = in_spelled s t (word_at t) r v (sign_stands 91 s t e) refl h

pub marked_spelled : (s : List ℕ) (r : Role) (v : List ℕ) → marked_at s ≡ Some (r, v) → Marked r s v
unfolding marked_at
marked_spelled s r v h = marked_by_spelled s (sign_at 91 s) r v refl h

-- a dimension
number_spelled : (w s t u v : List ℕ) (d : WrittenDim) (o : Option (ℕ × List ℕ)) → Word w s t → is_dim_word w ≡ true → Sign 61 t u → number_at u ≡ o
    → dim_of w (size_before o) ≡ Some (d, v) → Dim d s v
number_spelled w s t u v d None k e g n h = cc
number_spelled w s t u v d (Some (n, x)) k e g f h =
    let same = same_Some {A = WrittenDim × List ℕ} (record { name = w; size = Some n }, x) (d, v) h in
    let P : WrittenDim × List ℕ → Type 0 = λ y. Dim y.0 s y.1 in
    let found = number_stands n u x f in
    subst P same (fixed_dim n w s t u x k e g found.number found.limit)

size_spelled : (w s t v : List ℕ) (d : WrittenDim) (o : Option (List ℕ)) → Word w s t → is_dim_word w ≡ true → sign_at 61 t ≡ o
    → dim_of w (sized_by t o) ≡ Some (d, v) → Dim d s v
size_spelled w s t v d None k e g h =
    let same = same_Some {A = WrittenDim × List ℕ} (record { name = w; size = None }, t) (d, v) h in
    let P : WrittenDim × List ℕ → Type 0 = λ y. Dim y.0 s y.1 in
    subst P same (unfixed_dim w s t k e)
size_spelled w s t v d (Some u) k e g h = number_spelled w s t u v d (number_at u) k e (sign_stands 61 t u g) refl h

word_spelled : (w s t v : List ℕ) (d : WrittenDim) (k : Bool) → Word w s t → is_dim_word w ≡ k → (if k then dim_of w (sized_at t) else None) ≡ Some (d, v) → Dim d s v
unfolding sized_at
word_spelled w s t v d false l e h = cc
word_spelled w s t v d true l e h = size_spelled w s t v d (sign_at 61 t) l e refl h

dim_by_spelled : (s v : List ℕ) (d : WrittenDim) (o : Option (List ℕ × List ℕ)) → word_at s ≡ o → dim_by o ≡ Some (d, v) → Dim d s v
dim_by_spelled s v d None e h = cc
dim_by_spelled s v d (Some (w, t)) e h = word_spelled w s t v d (is_dim_word w) (word_stands w s t e) refl h

pub dim_spelled : (s v : List ℕ) (d : WrittenDim) → dim_at s ≡ Some (d, v) → Dim d s v
unfolding dim_at
dim_spelled s v d h = dim_by_spelled s v d (word_at s) refl h

-- dimensions
more_spelled : (d : WrittenDim) (s t u v : List ℕ) (ds : List WrittenDim) (o : Option (List WrittenDim × List ℕ)) → Dim d s t → Sign 44 t u
    → ((x : List ℕ) (es : List WrittenDim) → o ≡ Some (es, x) → Dims es u x) → before_dims d o ≡ Some (ds, v) → Dims ds s v
more_spelled d s t u v ds None k g f h = cc
more_spelled d s t u v ds (Some (es, x)) k g f h =
    let same = same_Some {A = List WrittenDim × List ℕ} (d ∷ es, x) (ds, v) h in
    let P : List WrittenDim × List ℕ → Type 0 = λ y. Dims y.0 s y.1 in
    subst P same (next_dim d es s t u x k g (f x es refl))

dims_by_spelled : (more : List ℕ → Option (List WrittenDim × List ℕ)) (f : (s v : List ℕ) (ds : List WrittenDim) → more s ≡ Some (ds, v) → Dims ds s v) (d : WrittenDim) (s t v : List ℕ) (ds : List WrittenDim) (o p : Option (List ℕ)) → Dim d s t → sign_at 44 t ≡ o → sign_at 41 t ≡ p
    → dims_by more d o p ≡ Some (ds, v) → Dims ds s v
dims_by_spelled more f d s t v ds (Some u) p k g q h = more_spelled d s t u v ds (more u) k (sign_stands 44 t u g) (λ x es e. f u x es e) h
dims_by_spelled more f d s t v ds None None k g q h = cc
dims_by_spelled more f d s t v ds None (Some u) k g q h =
    let same = same_Some {A = List WrittenDim × List ℕ} (d ∷ [], u) (ds, v) h in
    let P : List WrittenDim × List ℕ → Type 0 = λ y. Dims y.0 s y.1 in
    subst P same (last_dim d s t u k (sign_stands 41 t u q))

dims_after_spelled : (more : List ℕ → Option (List WrittenDim × List ℕ)) (f : (s v : List ℕ) (ds : List WrittenDim) → more s ≡ Some (ds, v) → Dims ds s v) (s v : List ℕ) (ds : List WrittenDim) (o : Option (WrittenDim × List ℕ)) → dim_at s ≡ o
    → dims_after more o ≡ Some (ds, v) → Dims ds s v
dims_after_spelled more f s v ds None e h = cc
dims_after_spelled more f s v ds (Some (d, t)) e h = dims_by_spelled more f d s t v ds (sign_at 44 t) (sign_at 41 t) (dim_spelled s t d e) refl refl h

pub dims_spelled : (n : ℕ) (s v : List ℕ) (ds : List WrittenDim) → dims_at n s ≡ Some (ds, v) → Dims ds s v
unfolding dims_at
dims_spelled zero s v ds h = cc
dims_spelled (suc n) s v ds h = dims_after_spelled (dims_at n) (λ x y es e. dims_spelled n x y es e) s v ds (dim_at s) refl h

bracket_by_spelled : (s t v : List ℕ) (ds : List WrittenDim) (o : Option (List ℕ)) → Sign 40 s t → sign_at 41 t ≡ o → bracket_by t o ≡ Some (ds, v) → Bracketed ds s v
bracket_by_spelled s t v ds None k e h = some_dims ds s t v k (dims_spelled (length t) t v ds h)
bracket_by_spelled s t v ds (Some u) k e h =
    let same = same_Some {A = List WrittenDim × List ℕ} ([], u) (ds, v) h in
    let P : List WrittenDim × List ℕ → Type 0 = λ y. Bracketed y.0 s y.1 in
    subst P same (no_dims s t u k (sign_stands 41 t u e))

bracket_after_spelled : (s v : List ℕ) (ds : List WrittenDim) (o : Option (List ℕ)) → sign_at 40 s ≡ o → bracket_after o ≡ Some (ds, v) → Bracketed ds s v
bracket_after_spelled s v ds None e h = cc
bracket_after_spelled s v ds (Some t) e h = bracket_by_spelled s t v ds (sign_at 41 t) (sign_stands 40 s t e) refl h

pub bracket_spelled : (s v : List ℕ) (ds : List WrittenDim) → bracket_at s ≡ Some (ds, v) → Bracketed ds s v
unfolding bracket_at
bracket_spelled s v ds h = bracket_after_spelled s v ds (sign_at 40 s) refl h

-- an argument
arg_of_spelled : (ty : ArgType) (r : Role) (w s t u v x : List ℕ) (a : WrittenArg) (o : Option (List WrittenDim × List ℕ)) → Typed ty s t → Marked r t u → Word w u v → is_arg_word w ≡ true
    → bracket_at v ≡ o → arg_of ty r w o ≡ Some (a, x) → Arg a s x
arg_of_spelled ty r w s t u v x a None k l m e b h = cc
arg_of_spelled ty r w s t u v x a (Some (ds, y)) k l m e b h =
    let same = same_Some {A = WrittenArg × List ℕ} (record { name = w; role = r; ty = ty; dims = ds }, y) (a, x) h in
    let P : WrittenArg × List ℕ → Type 0 = λ z. Arg z.0 s z.1 in
    subst P same (whole_arg ty r w ds s t u v y k l m e (bracket_spelled v y ds b))

arg_word_spelled : (ty : ArgType) (r : Role) (w s t u v x : List ℕ) (a : WrittenArg) (k : Bool) → Typed ty s t → Marked r t u → Word w u v → is_arg_word w ≡ k
    → (if k then arg_of ty r w (bracket_at v) else None) ≡ Some (a, x) → Arg a s x
arg_word_spelled ty r w s t u v x a false k l m e h = cc
arg_word_spelled ty r w s t u v x a true k l m e h = arg_of_spelled ty r w s t u v x a (bracket_at v) k l m e refl h

arg_named_spelled : (ty : ArgType) (r : Role) (s t u x : List ℕ) (a : WrittenArg) (o : Option (List ℕ × List ℕ)) → Typed ty s t → Marked r t u → word_at u ≡ o
    → arg_named ty r o ≡ Some (a, x) → Arg a s x
arg_named_spelled ty r s t u x a None k l e h = cc
arg_named_spelled ty r s t u x a (Some (w, v)) k l e h = arg_word_spelled ty r w s t u v x a (is_arg_word w) k l (word_stands w u v e) refl h

arg_marked_spelled : (ty : ArgType) (s t x : List ℕ) (a : WrittenArg) (o : Option (Role × List ℕ)) → Typed ty s t → marked_at t ≡ o → arg_marked ty o ≡ Some (a, x) → Arg a s x
arg_marked_spelled ty s t x a None k e h = cc
arg_marked_spelled ty s t x a (Some (r, u)) k e h = arg_named_spelled ty r s t u x a (word_at u) k (marked_spelled t r u e) refl h

pub arg_spelled : (s x : List ℕ) (a : WrittenArg) → arg_at s ≡ Some (a, x) → Arg a s x
unfolding arg_at
arg_spelled s x a h = arg_marked_spelled (typed_at s).0 s (typed_at s).1 x a (marked_at (typed_at s).1) (typed_spelled s) refl h

-- arguments
empty_is : (u : List ℕ) → is_empty u ≡ true → u ≡ []
empty_is [] h = refl
empty_is (b ∷ u) h = cc

pub end_is : (s : List ℕ) → is_end s ≡ true → past_blanks s ≡ []
end_is s h = empty_is (past_blanks s) h

more_args_spelled : (a : WrittenArg) (all : List WrittenArg) (s t u : List ℕ) (o : Option (List WrittenArg)) → Arg a s t → Sign 59 t u
    → ((more : List WrittenArg) → o ≡ Some more → Args more u) → before_args a o ≡ Some all → Args all s
more_args_spelled a all s t u None k g f h = cc
more_args_spelled a all s t u (Some more) k g f h =
    let same = same_Some (a ∷ more) all h in
    let P : List WrittenArg → Type 0 = λ x. Args x s in
    subst P same (next_arg a more s t u k g (f more refl))

past_spelled : (more : List ℕ → Option (List WrittenArg)) (f : (s : List ℕ) (all : List WrittenArg) → more s ≡ Some all → Args all s) (a : WrittenArg) (all : List WrittenArg) (s t u : List ℕ) (k : Bool) → Arg a s t → Sign 59 t u → is_end u ≡ k
    → args_past more a u k ≡ Some all → Args all s
past_spelled more f a all s t u true k g e h =
    let same = same_Some (a ∷ []) all h in
    let P : List WrittenArg → Type 0 = λ x. Args x s in
    subst P same (ended_arg a s t u k g (end_is u e))
past_spelled more f a all s t u false k g e h = more_args_spelled a all s t u (more u) k g (λ x q. f u x q) h

only_spelled : (a : WrittenArg) (all : List WrittenArg) (s t : List ℕ) (k : Bool) → Arg a s t → is_end t ≡ k → only_arg a k ≡ Some all → Args all s
only_spelled a all s t false k e h = cc
only_spelled a all s t true k e h =
    let same = same_Some (a ∷ []) all h in
    let P : List WrittenArg → Type 0 = λ x. Args x s in
    subst P same (last_arg a s t k (end_is t e))

args_by_spelled : (more : List ℕ → Option (List WrittenArg)) (f : (s : List ℕ) (all : List WrittenArg) → more s ≡ Some all → Args all s) (a : WrittenArg) (all : List WrittenArg) (s t : List ℕ) (o : Option (List ℕ)) → Arg a s t → sign_at 59 t ≡ o
    → args_by more a t o ≡ Some all → Args all s
args_by_spelled more f a all s t None k e h = only_spelled a all s t (is_end t) k refl h
args_by_spelled more f a all s t (Some u) k e h = past_spelled more f a all s t u (is_end u) k (sign_stands 59 t u e) refl h

args_after_spelled : (more : List ℕ → Option (List WrittenArg)) (f : (s : List ℕ) (all : List WrittenArg) → more s ≡ Some all → Args all s) (all : List WrittenArg) (s : List ℕ) (o : Option (WrittenArg × List ℕ)) → arg_at s ≡ o
    → args_after more o ≡ Some all → Args all s
args_after_spelled more f all s None e h = cc
args_after_spelled more f all s (Some (a, t)) e h = args_by_spelled more f a all s t (sign_at 59 t) (arg_spelled s t a e) refl h

pub args_spelled : (n : ℕ) (s : List ℕ) (all : List WrittenArg) → args_at n s ≡ Some all → Args all s
unfolding args_at
args_spelled zero s all h = cc
args_spelled (suc n) s all h = args_after_spelled (args_at n) (λ t more e. args_spelled n t more e) all s (arg_at s) refl h
