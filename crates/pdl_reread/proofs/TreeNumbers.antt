-- The numbers of views that aren't refused: a list of numbers can hold them, and they are few.
use Rattle.std.proofs.Common.{◌≡◌, ℕ, suc, ◌+◌, ◌-◌, ◌*◌, ◌<◌, ◌≤◌, max, Bool, true, false, List, [], ◌∷◌, ◌++◌, length, take, drop, replicate, ℤ, pos, negsuc, Option, Some, None, Ok, Err, refl, sym, ◌∙◌, ap, subst, arith, eqb-true, eq-eqb, length-append}
use Rattle.std.specs.Prelude.{◌==◌, ◌&&◌, not, nat_lt, nat_le, option_map, option_and_then, insert}
use Rattle.std.specs.List.{list_any, list_all, range_with_len, IsDistinct, AllByRecursion}
use Rattle.std.proofs.Math.Nat.{mul-le-mul}
use Rattle.std.proofs.Math.Seq.{drop-append_seam}
use Rattle.std.proofs.lemmas.Bool.{and_parts, ltb-true, ltb-false, leb-true}
use Rattle.std.proofs.lemmas.List.{length-replicate}
use Rattle.std.proofs.lemmas.List.Edits.{length-insert}
use Rattle.std.proofs.lemmas.Map.Steps.{length-le_from_distinct_below}
use Rattle.pdl_lemmas.specs.Tests.{by_test}
use Rattle.pdl_shape.specs.Clump.{clump_count}
use Rattle.pdl_shape.specs.Counting.{from_end}
use Rattle.pdl_shape.specs.Laws.{SizeLaws}
use Rattle.pdl_shape.specs.Limits.{checked_dims}
use Rattle.pdl_shape.specs.Refusals.{Refusal, bad_dimension, too_many_dims, too_large}
use Rattle.pdl_shape.specs.Shape.{IsDims, dims_limit, extent_limit, extent}
use Rattle.pdl_affine.specs.Views.{Form, arranged, diagonal, clumped, all_counted, lists, is_distinct, is_arrangement, are_same_size, new_place, or_refusal, when, inserted_at, form_dims}
use Rattle.pdl_reread.specs.Trees.{Fits, AllSmall, AllFit}

-- ---- sizes

-- a factor of an extent that is within the limit
first_small : SizeLaws → (d : ℕ) (ds : List ℕ) → d ≤ extent (d ∷ ds)
first_small laws d ds =
    let more : max d 1 * 1 ≤ max d 1 * extent ds = mul-le-mul {n₁ = max d 1} {m₁ = 1} {n₂ = max d 1} {m₂ = extent ds} (omega arith) (laws.extent_above ds) in
    omega (arith, more)

pub all_small : SizeLaws → (ds : List ℕ) → extent ds ≤ extent_limit → AllSmall ds
all_small laws [] within = tt
all_small laws (d ∷ ds) within =
    (omega (arith, first_small laws d ds, within), all_small laws ds (omega (arith, laws.rest_within (d ∷ ds) 1, within)))

-- sizes that are dimensions keep to the limits
pub checked : (ds es : List ℕ) → checked_dims ds ≡ Ok es → IsDims ds
checked ds es is =
    by_test (nat_lt dims_limit (length ds))
    (λ many. let e : Err too_many_dims ≡ Ok es = rw many at is in absurd (never e))
    (λ few. by_test (nat_lt extent_limit (extent ds))
    (λ large. let e : Err too_large ≡ Ok es = rw (few, large) at is in absurd (never e))
    (λ small. record { count = ltb-false dims_limit (length ds) few; within = ltb-false extent_limit (extent ds) small }))
  where
    never : {e : Refusal} {es : List ℕ} → Err e ≡ Ok es → ⊥
    never e = cc

-- ---- numbers of dimensions

pub from_end_fits : (k : ℤ) (n i : ℕ) → n ≤ dims_limit → from_end k n ≡ Some i → Fits k
from_end_fits (pos k) n i low is =
    by_test (nat_lt k n) (λ lt. omega (arith, ltb-true k n lt, low)) (λ no. let e : None ≡ Some i = rw no at is in absurd (never e))
  where
    never : None ≡ Some i → ⊥
    never e = cc
from_end_fits (negsuc k) n i low is =
    by_test (nat_lt k n) (λ lt. omega (arith, ltb-true k n lt, low)) (λ no. let e : None ≡ Some i = rw no at is in absurd (never e))
  where
    never : None ≡ Some i → ⊥
    never e = cc

from_end_below : (k : ℤ) (n i : ℕ) → from_end k n ≡ Some i → i < n
from_end_below (pos k) n i is =
    by_test (nat_lt k n) (λ lt. let e : Some k ≡ Some i = rw lt at is in omega (arith, ltb-true k n lt, same e)) (λ no. let e : None ≡ Some i = rw no at is in absurd (never e))
  where
    same : {a b : ℕ} → Some a ≡ Some b → a ≡ b
    same e = cc

    never : None ≡ Some i → ⊥
    never e = cc
from_end_below (negsuc k) n i is =
    by_test (nat_lt k n) (λ lt. let e : Some (n - suc k) ≡ Some i = rw lt at is in omega (arith, ltb-true k n lt, same e)) (λ no. let e : None ≡ Some i = rw no at is in absurd (never e))
  where
    same : {a b : ℕ} → Some a ≡ Some b → a ≡ b
    same e = cc

    never : None ≡ Some i → ⊥
    never e = cc

abbrev AllBelow : ℕ → List ℕ → Type 0
AllBelow n [] = Unit {0}
AllBelow n (i ∷ is) = (i < n) × AllBelow n is

-- what numbers of dimensions are found to be
record AreCounted (ks : List ℤ) (n : ℕ) (is : List ℕ) : Type 0 where
  fit : AllFit ks
  long : length ks ≡ length is
  below : AllBelow n is

counted : (ks : List ℤ) (n : ℕ) (is : List ℕ) → n ≤ dims_limit → all_counted ks n ≡ Some is → AreCounted ks n is
counted [] n is low e = record { fit = tt; long = ap length (empty e); below = subst (AllBelow n) (empty e) tt }
  where
    empty : Some [] ≡ Some is → [] ≡ is
    empty e = cc
counted (k ∷ ks) n is low e = by_first (λ js h. counted ks n js low h) (from_end k n) (all_counted ks n) refl refl e
  where
    never : None ≡ Some is → ⊥
    never e = cc

    same : {xs ys : List ℕ} → Some xs ≡ Some ys → xs ≡ ys
    same e = cc

    by_first : ((js : List ℕ) → all_counted ks n ≡ Some js → AreCounted ks n js) → (o : Option ℕ) (p : Option (List ℕ)) → from_end k n ≡ o → all_counted ks n ≡ p → option_and_then (λ i. option_map (λ js. i ∷ js) p) o ≡ Some is → AreCounted (k ∷ ks) n is
    by_first next None p a b e = absurd (never e)
    by_first next (Some i) None a b e = absurd (never e)
    by_first next (Some i) (Some js) a b e =
        let rest : AreCounted ks n js = next js b in
        subst (AreCounted (k ∷ ks) n) (same e) (record {
          fit = (from_end_fits k n i low a, rest.fit);
          long = ap suc rest.long;
          below = (from_end_below k n i a, rest.below);
        })

-- numbers below n with none twice are at most n
apart_all : (i : ℕ) (is : List ℕ) → lists is i ≡ false → AllByRecursion (λ j. (i == j) ≡ false) is
apart_all i [] none' = tt
apart_all i (j ∷ is) none' =
    by_test (j == i)
    (λ here. let e : true ≡ false = rw here at none' in absurd (cc))
    (λ other. (
      by_test (i == j)
          (λ here. let e : (j == i) ≡ true = eq-eqb j i (sym (eqb-true i j here)) in absurd (clash other e))
          (λ apart. apart),
      apart_all i is (rw other at none'),
    ))
  where
    clash : (j == i) ≡ false → (j == i) ≡ true → ⊥
    clash a b = cc

distinct : (is : List ℕ) → is_distinct is ≡ true → IsDistinct (λ a b. a == b) is
unfolding IsDistinct
distinct [] d = tt
distinct (i ∷ is) d =
    let parts = and_parts (not (lists is i)) (is_distinct is) d in
    (apart_all i is (no (lists is i) parts.0), distinct is parts.1)
  where
    no : (b : Bool) → not b ≡ true → b ≡ false
    no false e = refl
    no true e = cc

listed_below : (n : ℕ) (is : List ℕ) → AllBelow n is → (q : ℕ) → list_any (λ j. q == j) is ≡ true → q < n
listed_below n [] below q t = cc
listed_below n (i ∷ is) below q t =
    by_test (q == i)
    (λ here. omega (arith, below.0, eqb-true q i here))
    (λ other. listed_below n is below.1 q (rw other at t))

few_distinct : (n : ℕ) (is : List ℕ) → AllBelow n is → is_distinct is ≡ true → length is ≤ n
few_distinct n is below d = length-le_from_distinct_below is n (distinct is d) (listed_below n is below)

-- ---- the numbers of each word

-- numbers that a line can have
pub record AreGiven (ns : List ℤ) : Type 0 where
  pub fit : AllFit ns
  pub few : length ns ≤ 100

no_form : {es : List ℕ} {r : Refusal} (ds : List ℕ) → form_dims (Err r) ds ≡ Ok es → ⊥
no_form ds e = cc

pub two_given : (mk : ℕ → ℕ → Form) (a b : ℤ) (ds es : List ℕ) → length ds ≤ dims_limit
    → form_dims (or_refusal bad_dimension (option_and_then (λ i. option_map (λ j. mk i j) (from_end b (length ds))) (from_end a (length ds)))) ds ≡ Ok es → AreGiven (a ∷ b ∷ [])
two_given mk a b ds es low is = by_ends (from_end a (length ds)) (from_end b (length ds)) refl refl is
  where
    by_ends : (o p : Option ℕ) → from_end a (length ds) ≡ o → from_end b (length ds) ≡ p
        → form_dims (or_refusal bad_dimension (option_and_then (λ i. option_map (λ j. mk i j) p) o)) ds ≡ Ok es → AreGiven (a ∷ b ∷ [])
    by_ends None p e f h = absurd (no_form ds h)
    by_ends (Some i) None e f h = absurd (no_form ds h)
    by_ends (Some i) (Some j) e f h = record { fit = (from_end_fits a (length ds) i low e, (from_end_fits b (length ds) j low f, tt)); few = omega arith }

pub order_given : (order : List ℤ) (ds es : List ℕ) → length ds ≤ dims_limit
    → form_dims (or_refusal bad_dimension (option_and_then (λ is. when (is_arrangement is (length ds)) (arranged is)) (all_counted order (length ds)))) ds ≡ Ok es → AreGiven order
order_given order ds es low is = by_count (all_counted order (length ds)) refl is
  where
    by_test' : (is : List ℕ) (b : Bool) → is_arrangement is (length ds) ≡ b → AreCounted order (length ds) is
        → form_dims (or_refusal bad_dimension (when b (arranged is))) ds ≡ Ok es → AreGiven order
    by_test' is false e c h = absurd (no_form ds h)
    by_test' is true e c h =
        let long : length is ≡ length ds = eqb-true (length is) (length ds) (and_parts (length is == length ds) (list_all (λ i. lists is i) (range_with_len 0 (length ds))) e).0 in
        record { fit = c.fit; few = omega (arith, c.long, long, low) }

    by_count : (o : Option (List ℕ)) → all_counted order (length ds) ≡ o
        → form_dims (or_refusal bad_dimension (option_and_then (λ is. when (is_arrangement is (length ds)) (arranged is)) o)) ds ≡ Ok es → AreGiven order
    by_count None e h = absurd (no_form ds h)
    by_count (Some is) e h = by_test' is (is_arrangement is (length ds)) refl (counted order (length ds) is low e) h

pub diagonal_given : (listed : List ℤ) (ds es : List ℕ) → length ds ≤ dims_limit
    → form_dims (or_refusal bad_dimension (option_and_then (λ is. when (is_distinct is && are_same_size is ds) (diagonal is)) (all_counted listed (length ds)))) ds ≡ Ok es → AreGiven listed
diagonal_given listed ds es low is = by_count (all_counted listed (length ds)) refl is
  where
    by_test' : (is : List ℕ) (b : Bool) → (is_distinct is && are_same_size is ds) ≡ b → AreCounted listed (length ds) is
        → form_dims (or_refusal bad_dimension (when b (diagonal is))) ds ≡ Ok es → AreGiven listed
    by_test' is false e c h = absurd (no_form ds h)
    by_test' is true e c h = record {
      fit = c.fit;
      few = omega (arith, c.long, few_distinct (length ds) is c.below (and_parts (is_distinct is) (are_same_size is ds) e).0, low);
    }

    by_count : (o : Option (List ℕ)) → all_counted listed (length ds) ≡ o
        → form_dims (or_refusal bad_dimension (option_and_then (λ is. when (is_distinct is && are_same_size is ds) (diagonal is)) o)) ds ≡ Ok es → AreGiven listed
    by_count None e h = absurd (no_form ds h)
    by_count (Some is) e h = by_test' is (is_distinct is && are_same_size is ds) refl (counted listed (length ds) is low e) h

new_place_fits : (place : ℤ) (n p : ℕ) → n ≤ dims_limit → p ≤ dims_limit → new_place place n ≡ Some p → Fits place
new_place_fits (pos k) n p low small is = omega (arith, same is, small)
  where
    same : Some k ≡ Some p → k ≡ p
    same e = cc
new_place_fits (negsuc k) n p low small is =
    by_test (nat_le k n) (λ le. omega (arith, leb-true k n le, low)) (λ no. let e : None ≡ Some p = rw no at is in absurd (never e))
  where
    never : None ≡ Some p → ⊥
    never e = cc

-- where a size is inserted, the others make room for it
inserted_small : SizeLaws → (ds es : List ℕ) (p m : ℕ) → checked_dims (insert (ds ++ replicate (p - length ds) 1) p m) ≡ Ok es → (p ≤ dims_limit) × (m ≤ extent_limit)
inserted_small laws ds es p m is =
    let xs : List ℕ = ds ++ replicate (p - length ds) 1 in
    let d : IsDims (insert xs p m) = checked (insert xs p m) es is in
    let long : length xs ≡ length ds + (p - length ds) = length-append ds (replicate (p - length ds) 1) ∙ ap (λ n. length ds + n) (length-replicate (p - length ds) 1) in
    let count : length (insert xs p m) ≡ length xs + 1 = length-insert xs p m (omega (arith, long)) in
    let there : drop (length (take p xs)) (insert xs p m) ≡ m ∷ drop p xs = drop-append_seam (take p xs) (m ∷ drop p xs) in
    let part : extent (m ∷ drop p xs) ≤ extent (insert xs p m) = subst (λ ys. extent ys ≤ extent (insert xs p m)) there (laws.rest_within (insert xs p m) (length (take p xs))) in
    (omega (arith, long, count, d.count), omega (arith, first_small laws m (drop p xs), part, d.within))

pub dummy_given : SizeLaws → (place size : ℤ) (ds es : List ℕ) → length ds ≤ dims_limit
    → form_dims (or_refusal bad_dimension (inserted_at (new_place place (length ds)) size)) ds ≡ Ok es → AreGiven (place ∷ size ∷ [])
dummy_given laws place size ds es low is = by_place (new_place place (length ds)) size refl is
  where
    by_place : (o : Option ℕ) (size : ℤ) → new_place place (length ds) ≡ o → form_dims (or_refusal bad_dimension (inserted_at o size)) ds ≡ Ok es → AreGiven (place ∷ size ∷ [])
    by_place None size e h = absurd (no_form ds h)
    by_place (Some p) (negsuc m) e h = absurd (no_form ds h)
    by_place (Some p) (pos m) e h =
        let small = inserted_small laws ds es p m h in
        record { fit = (new_place_fits place (length ds) p low small.0 e, (omega (arith, small.1), tt)); few = omega arith }

pub clump_given : (count : ℤ) (ds es : List ℕ) → length ds ≤ dims_limit
    → form_dims (or_refusal bad_dimension (option_map clumped (clump_count count (length ds)))) ds ≡ Ok es → AreGiven (count ∷ [])
clump_given (pos k) ds es low is =
    by_test (nat_le 1 k && nat_le k (length ds))
    (λ yes'. record { fit = (omega (arith, low, leb-true k (length ds) (and_parts (nat_le 1 k) (nat_le k (length ds)) yes').1), tt); few = omega arith })
    (λ no. absurd (no_form ds (rw no at is)))
clump_given (negsuc k) ds es low is =
    by_test (k == 0)
    (λ zero'. record { fit = (omega (arith, eqb-true k 0 zero'), tt); few = omega arith })
    (λ no. absurd (no_form ds (rw no at is)))
