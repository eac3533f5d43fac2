-- Lists of sizes, one after another.
use Rattle.std.proofs.Common.{append-nil, ◌≡◌, ℕ, zero, suc, ◌+◌, ◌-◌, ◌*◌, ◌<◌, ◌≤◌, max, nat_lt, nat_le, if◌then◌else◌, Some, None, Err, insert, replicate, le-leb, length-append, Bool, true, false, not, ◌||◌, ◌==◌, List, [], ◌∷◌, ◌++◌, length, take, get_or, filter, refl, sym, ap, ◌∙◌, arith, take-suc, add-one, add-zero, zero-add, le_trans, mul-le-mul_left}
use Rattle.std.proofs.lemmas.List.{map-append}
use Rattle.std.proofs.lemmas.List.Elements.{filter-append}
use Rattle.std.proofs.lemmas.List.Edits.{length-insert, get_or-insert_at}
use Rattle.std.proofs.lemmas.List.{length-replicate}
use Rattle.std.specs.List.{range_with_len}
use Rattle.pdl_shape.specs.Shape.{extent, extent_limit, dims_limit, IsDims}
use Rattle.pdl_shape.specs.Limits.{checked_dims}
use Rattle.pdl_shape.specs.Refusals.{too_large}
use Rattle.pdl_affine.specs.declared.forms.Taken.{Taken}
use Rattle.pdl_affine.specs.Slicing as slicing
use Rattle.pdl_affine.specs.Slicing.{line_sizes}
use Rattle.pdl_affine.specs.Views.{lists, lowest_of, kept_dims}
use Rattle.pdl_affine.specs.Courses.{lines_of_taken, AreSmall}

pub line_sizes-append : (xs ys : List slicing.Line) → line_sizes (xs ++ ys) ≡ line_sizes xs ++ line_sizes ys
line_sizes-append [] ys = refl
line_sizes-append (slicing.kept f s m ∷ xs) ys = ap (λ r. m ∷ r) (line_sizes-append xs ys)
line_sizes-append (slicing.lost f ∷ xs) ys = line_sizes-append xs ys
line_sizes-append (slicing.added m ∷ xs) ys = ap (λ r. m ∷ r) (line_sizes-append xs ys)

pub sizes_next : (ts : List Taken) (i : ℕ) (d : Taken) → i < length ts
    → line_sizes (lines_of_taken (take (i + 1) ts)) ≡ line_sizes (lines_of_taken (take i ts)) ++ line_sizes (lines_of_taken (get_or ts i d ∷ []))
sizes_next ts i d lt =
    ap (λ n. line_sizes (lines_of_taken (take n ts))) (add-one i) ∙ ap (λ r. line_sizes (lines_of_taken r)) (take-suc ts i d lt)
    ∙ ap line_sizes (map-append _ (take i ts) (get_or ts i d ∷ [])) ∙ line_sizes-append (lines_of_taken (take i ts)) (lines_of_taken (get_or ts i d ∷ []))

range_next : (a n : ℕ) → range_with_len a (suc n) ≡ range_with_len a n ++ (a + n) ∷ []
range_next a zero = ap (λ k. k ∷ []) (sym (add-zero a))
range_next a (suc n) = ap (λ r. a ∷ r) (range_next (a + 1) n ∙ ap (λ k. range_with_len (a + 1) n ++ k ∷ []) (let e : a + 1 + n ≡ a + suc n = omega arith in e))

pub kept_next : (is : List ℕ) (n : ℕ) → kept_dims is (n + 1) ≡ kept_dims is n ++ filter (λ i. not (lists is i) || (i == lowest_of is)) (n ∷ [])
kept_next is n =
    ap (kept_dims is) (add-one n)
    ∙ ap (filter (λ i. not (lists is i) || (i == lowest_of is))) (range_next 0 n ∙ ap (λ k. range_with_len 0 n ++ k ∷ []) (zero-add n))
    ∙ filter-append (λ i. not (lists is i) || (i == lowest_of is)) (range_with_len 0 n) (n ∷ [])

pub extent_some : (ds : List ℕ) → 1 ≤ extent ds
extent_some [] = omega arith
extent_some (d ∷ ds) = some (max d 1) (extent ds) (omega arith) (extent_some ds) where
  some : (a b : ℕ) → 1 ≤ a → 1 ≤ b → 1 ≤ a * b
  some a b h k = grind arith

pub extent_take : (n : ℕ) (ds : List ℕ) → extent (take n ds) ≤ extent ds
extent_take zero ds = extent_some ds
extent_take (suc n) [] = omega arith
extent_take (suc n) (d ∷ ds) = mul-le-mul_left (max d 1) (extent_take n ds)

-- no size is above the extent
size_extent : (ds : List ℕ) (k e : ℕ) → k < length ds → get_or ds k e ≤ extent ds
size_extent [] k e lt = absurd (omega arith)
size_extent (d ∷ ds) zero e lt = first (max d 1) d (extent ds) (omega arith) (extent_some ds) where
  first : (a b c : ℕ) → b ≤ a → 1 ≤ c → b ≤ a * c
  first a b c h k = grind arith
size_extent (d ∷ ds) (suc k) e lt = rest (get_or ds k e) (max d 1) (extent ds) (omega arith) (size_extent ds k e (omega arith)) where
  rest : (a b c : ℕ) → 1 ≤ b → a ≤ c → a ≤ b * c
  rest a b c h k = grind arith

pub dims_small : (ds : List ℕ) → IsDims ds → AreSmall ds
dims_small ds h k e lt = le_trans (size_extent ds k e lt) h.within

-- an extent within the limit has a size
pub no_size : (e l n : ℕ) → e ≤ l → None ≡ (if nat_le e l then Some n else None) → ⊥
no_size e l n h k = contradicts (k ∙ ap (λ t. if t then Some n else None) (le-leb e l h)) where
  contradicts : None ≡ Some n → ⊥
  contradicts r = cc

limited_large : (ds : List ℕ) → length ds ≤ 16 → 1048576 < extent ds → checked_dims ds ≡ Err too_large
limited_large ds short large = rw (few, wide) refl where
  few : nat_lt dims_limit (length ds) ≡ false
  few = grind arith

  wide : nat_lt extent_limit (extent ds) ≡ true
  wide = grind arith

-- a new dimension above the limit is too large
pub insert_large : (ds : List ℕ) (place size : ℕ) → length ds < 16 → place < 16 → 1048576 < size
    → checked_dims (insert (ds ++ replicate (place - length ds) 1) place size) ≡ Err too_large
insert_large ds place size few near large =
    let xs : List ℕ = ds ++ replicate (place - length ds) 1 in
    let count : length xs ≡ length ds + (place - length ds) = length-append ds (replicate (place - length ds) 1) ∙ ap (λ n. length ds + n) (length-replicate (place - length ds) 1) in
    let fits : place ≤ length xs = omega (arith, count) in
    let longer : length (insert xs place size) ≡ length xs + 1 = length-insert xs place size fits in
    let there : get_or (insert xs place size) place 0 ≡ size = get_or-insert_at xs place size 0 fits in
    let above : get_or (insert xs place size) place 0 ≤ extent (insert xs place size) = size_extent (insert xs place size) place 0 (omega (arith, longer, fits)) in
    limited_large (insert xs place size) (omega (arith, count, longer)) (omega (arith, there, above))

-- one more dimension, kept or not
pub kept_more : (is : List ℕ) (n count : ℕ) → count ≡ length (kept_dims is n) → true ≡ (not (lists is n) || (n == lowest_of is)) → count + 1 ≡ length (kept_dims is (n + 1))
kept_more is n count h k =
    ap (λ m. m + 1) h ∙ sym (length-append (kept_dims is n) (n ∷ [])) ∙ ap (λ b. length (kept_dims is n ++ one b)) k ∙ ap length (sym (kept_next is n)) where
      one : Bool → List ℕ
      one b = if b then n ∷ [] else []

pub kept_same : (is : List ℕ) (n count : ℕ) → count ≡ length (kept_dims is n) → false ≡ (not (lists is n) || (n == lowest_of is)) → count ≡ length (kept_dims is (n + 1))
kept_same is n count h k =
    h ∙ ap length (sym (append-nil (kept_dims is n))) ∙ ap (λ b. length (kept_dims is n ++ one b)) k ∙ ap length (sym (kept_next is n)) where
      one : Bool → List ℕ
      one b = if b then n ∷ [] else []
