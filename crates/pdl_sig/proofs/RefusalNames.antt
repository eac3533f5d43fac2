-- The names of a signature: each word of a dimension is among them, once.
use Rattle.std.proofs.Common.{◌≡◌, ℕ, zero, suc, ◌+◌, ◌<◌, ◌≤◌, Bool, true, false, not, cond, ◌||◌, List, [], ◌∷◌, ◌++◌, length, length-append, get_or, refl, sym, ◌∙◌, arith, if◌then◌else◌}
use Rattle.std.specs.Prelude.{bytes_eq}
use Rattle.std.specs.List.{list_any, position_or_len}
use Rattle.std.proofs.lemmas.List.Folds.{list_any-append}
use Rattle.std.proofs.lemmas.Slice.Eq.{bytes_eq-Decides}
use Rattle.std.proofs.lemmas.Bool.{or_parts, or_right, or_left, or_from}
use Rattle.pdl_sig.specs.declared.written.WrittenDim.{WrittenDim}
use Rattle.pdl_sig.specs.declared.written.WrittenArg.{WrittenArg}
use Rattle.pdl_sig.specs.Refusals.{has_name, with_name, names_after, all_names, has_twice}

pub same_name : (w : List ℕ) → bytes_eq w w ≡ true
same_name w = (bytes_eq-Decides w w).1 refl

turned_by : (v w : List ℕ) (k : Bool) → bytes_eq v w ≡ k → bytes_eq w v ≡ false → bytes_eq v w ≡ false
turned_by v w false e h = e
turned_by v w true e h =
    let same : v ≡ w = (bytes_eq-Decides v w).0 e in
    let back : bytes_eq w v ≡ true = (bytes_eq-Decides w v).1 (sym same) in
    cc

turned : (v w : List ℕ) → bytes_eq w v ≡ false → bytes_eq v w ≡ false
turned v w h = turned_by v w (bytes_eq v w) refl h

-- a word that was added is among the names, and the others stay
by_with : (names : List (List ℕ)) (w : List ℕ) (k : Bool) → has_name names w ≡ k → has_name (if k then names else names ++ w ∷ []) w ≡ true
by_with names w true e = e
by_with names w false e = list_any-append (bytes_eq w) names (w ∷ []) ∙ or_right _ _ (or_left _ _ (same_name w))

has_with : (names : List (List ℕ)) (w : List ℕ) → has_name (with_name names w) w ≡ true
has_with names w = by_with names w (has_name names w) refl

by_kept : (names : List (List ℕ)) (v w : List ℕ) (k : Bool) → has_name names v ≡ true → has_name (if k then names else names ++ w ∷ []) v ≡ true
by_kept names v w true h = h
by_kept names v w false h = list_any-append (bytes_eq v) names (w ∷ []) ∙ or_left _ _ h

kept_with : (names : List (List ℕ)) (v w : List ℕ) → has_name names v ≡ true → has_name (with_name names w) v ≡ true
kept_with names v w h = by_kept names v w (has_name names w) h

kept_after : (names : List (List ℕ)) (ds : List WrittenDim) (v : List ℕ) → has_name names v ≡ true → has_name (names_after names ds) v ≡ true
kept_after names [] v h = h
kept_after names (d ∷ ds) v h = kept_after (with_name names d.name) ds v (kept_with names v d.name h)

has_after : (names : List (List ℕ)) (ds : List WrittenDim) (j : ℕ) (e : WrittenDim) → j < length ds → has_name (names_after names ds) (get_or ds j e).name ≡ true
has_after names [] j e h = absurd (omega arith)
has_after names (d ∷ ds) zero e h = kept_after (with_name names d.name) ds d.name (has_with names d.name)
has_after names (d ∷ ds) (suc j) e h = has_after (with_name names d.name) ds j e (omega arith)

kept_all : (names : List (List ℕ)) (args : List WrittenArg) (v : List ℕ) → has_name names v ≡ true → has_name (all_names names args) v ≡ true
kept_all names [] v h = h
kept_all names (a ∷ args) v h = kept_all (names_after names a.dims) args v (kept_after names a.dims v h)

-- ---- no name goes

long_with : (names : List (List ℕ)) (w : List ℕ) (k : Bool) → length names ≤ length (if k then names else names ++ w ∷ [])
long_with names w true = omega arith
long_with names w false = omega (arith, length-append names (w ∷ []))

long_after : (names : List (List ℕ)) (ds : List WrittenDim) → length names ≤ length (names_after names ds)
long_after names [] = omega arith
long_after names (d ∷ ds) = omega (arith, long_with names d.name (has_name names d.name), long_after (with_name names d.name) ds)

long_all : (names : List (List ℕ)) (args : List WrittenArg) → length names ≤ length (all_names names args)
long_all names [] = omega arith
long_all names (a ∷ args) = omega (arith, long_after names a.dims, long_all (names_after names a.dims) args)

one_more : (names : List (List ℕ)) (w : List ℕ) (k : Bool) → k ≡ false → length names < length (if k then names else names ++ w ∷ [])
one_more names w true e = absurd cc
one_more names w false e = omega (arith, length-append names (w ∷ []))

-- one word more than there may be, and those behind it
pub past_dims : (n : ℕ) (names : List (List ℕ)) (d : WrittenDim) (ds : List WrittenDim) → n ≤ length names → has_name names d.name ≡ false
    → n < length (names_after names (d ∷ ds))
past_dims n names d ds few new = omega (arith, few, one_more names d.name (has_name names d.name) new, long_after (with_name names d.name) ds)

pub past_args : (n : ℕ) (names : List (List ℕ)) (a : WrittenArg) (args : List WrittenArg) → n < length (names_after names a.dims)
    → n < length (all_names names (a ∷ args))
past_args n names a args many = omega (arith, many, long_all (names_after names a.dims) args)

-- the word of each dimension is among the names
pub has_all : (names : List (List ℕ)) (args : List WrittenArg) (i j : ℕ) (b : WrittenArg) (e : WrittenDim) → i < length args → j < length (get_or args i b).dims
    → has_name (all_names names args) (get_or (get_or args i b).dims j e).name ≡ true
has_all names [] i j b e h k = absurd (omega arith)
has_all names (a ∷ args) zero j b e h k = kept_all (names_after names a.dims) args _ (has_after names a.dims j e k)
has_all names (a ∷ args) (suc i) j b e h k = has_all (names_after names a.dims) args i j b e (omega arith) k

below_by : (w x : List ℕ) (names : List (List ℕ)) (k : Bool) → (k || list_any (bytes_eq w) names) ≡ true
    → ((list_any (bytes_eq w) names ≡ true) → position_or_len (bytes_eq w) names < length names) → cond (not k) (1 + position_or_len (bytes_eq w) names) 0 < length (x ∷ names)
below_by w x names true g f = omega arith
below_by w x names false g f = omega (arith, f g)

-- so it has a number below their count
pub number_below : (w : List ℕ) (names : List (List ℕ)) → has_name names w ≡ true → position_or_len (bytes_eq w) names < length names
number_below w [] h = cc
number_below w (x ∷ names) h = below_by w x names (bytes_eq w x) h (λ g. number_below w names g)

-- no name stands twice
twice_push : (names : List (List ℕ)) (w : List ℕ) → has_twice bytes_eq names ≡ false → has_name names w ≡ false → has_twice bytes_eq (names ++ w ∷ []) ≡ false
twice_push [] w h k = refl
twice_push (x ∷ names) w h k =
    or_from _ _
    (list_any-append (bytes_eq x) names (w ∷ []) ∙ or_from _ _ (or_parts (list_any (bytes_eq x) names) (has_twice bytes_eq names) h).0 (or_from _ false (turned x w (or_parts (bytes_eq w x) (list_any (bytes_eq w) names) k).0) refl))
    (twice_push names w (or_parts (list_any (bytes_eq x) names) (has_twice bytes_eq names) h).1 (or_parts (bytes_eq w x) (list_any (bytes_eq w) names) k).1)

by_twice : (names : List (List ℕ)) (w : List ℕ) (k : Bool) → has_name names w ≡ k → has_twice bytes_eq names ≡ false → has_twice bytes_eq (if k then names else names ++ w ∷ []) ≡ false
by_twice names w true e h = h
by_twice names w false e h = twice_push names w h e

twice_after : (names : List (List ℕ)) (ds : List WrittenDim) → has_twice bytes_eq names ≡ false → has_twice bytes_eq (names_after names ds) ≡ false
twice_after names [] h = h
twice_after names (d ∷ ds) h = twice_after (with_name names d.name) ds (by_twice names d.name (has_name names d.name) refl h)

pub twice_all : (names : List (List ℕ)) (args : List WrittenArg) → has_twice bytes_eq names ≡ false → has_twice bytes_eq (all_names names args) ≡ false
twice_all names [] h = h
twice_all names (a ∷ args) h = twice_all (names_after names a.dims) args (twice_after names a.dims h)
