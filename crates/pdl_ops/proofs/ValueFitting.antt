-- Sizes that fit a target's are joined with them to the target's, and to 1 for each further one.
use Rattle.std.proofs.Common.{◌≡◌, inl, inr, ℕ, ◌+◌, ◌*◌, ◌<◌, ◌≤◌, ◌==◌, ◌/◌, ◌%◌, ℤ, pos, List, [], ◌∷◌, length, map, get_or, max, Some, Result, Ok, Err, refl, ap, ap₂, sym, ◌∙◌, arith}
use Rattle.std.specs.Prelude.{Bool, true, ◌&&◌, ◌||◌, if◌then◌else◌}
use Rattle.std.specs.List.{range_with_len}
use Rattle.std.proofs.lemmas.Bool.Decides.{nat_tests}
use Rattle.std.proofs.lemmas.List.{ext_get_or}
use Rattle.std.proofs.Math.Nat.{mod-one}
use Rattle.std.proofs.lemmas.List.FromFn.{length-map-range_with_len, get_or-map-range_with_len}
use Rattle.std.proofs.lemmas.Bool.{and_parts, cases_Bool}
use Rattle.pdl_shape.specs.Broadcast.{cut_to, join, join_cons, join_size}
use Rattle.pdl_shape.specs.Joined.{joined_dims, checked_join}
use Rattle.pdl_shape.specs.Laws.{PositionLaws}
use Rattle.pdl_shape.specs.Refusals.{Refusal}
use Rattle.pdl_shape.specs.Shape.{extent, size_of, position_of, coordinates_of}
use Rattle.pdl_shape.specs.Stretched.{stretched, stretched_position}
use Rattle.pdl_ops.specs.Values.{fits}

-- the target's sizes, and the further ones
abbrev pub padded : (sizes target : List ℕ) → List ℕ
padded [] ts = ts
padded (d ∷ ds) [] = d ∷ ds
padded (d ∷ ds) (t ∷ ts) = t ∷ padded ds ts

is_one : (d : ℕ) → (d == 1) ≡ true → d ≡ 1
is_one d e = grind (arith, nat_tests, e)

fits_size : (d t : ℕ) → (d == 1 || d == t) ≡ true → join_size d t ≡ Some t
fits_size d t e = grind (arith, nat_tests, e)

pub fits_join : (ds ts : List ℕ) → fits ds ts ≡ true → join ds ts ≡ Some (padded ds ts)
fits_join [] ts e = refl
fits_join (d ∷ ds) [] e = refl
fits_join (d ∷ ds) (t ∷ ts) e =
    let parts = and_parts (d == 1 || d == t) (fits ds ts) e in
    ap₂ join_cons (fits_size d t parts.0) (fits_join ds ts parts.1)

ones_extent : (ds : List ℕ) → fits ds [] ≡ true → extent ds ≡ 1
ones_extent [] e = refl
ones_extent (d ∷ ds) e = let parts = and_parts (d == 1) (fits ds []) e in ap₂ (λ (n m : ℕ). max n 1 * m) (is_one d parts.0) (ones_extent ds parts.1)

padded_extent : (ds ts : List ℕ) → fits ds ts ≡ true → extent (padded ds ts) ≡ extent ts
padded_extent [] ts e = refl
padded_extent (d ∷ ds) [] e = ones_extent (d ∷ ds) e
padded_extent (d ∷ ds) (t ∷ ts) e = let parts = and_parts (d == 1 || d == t) (fits ds ts) e in ap (λ (n : ℕ). max t 1 * n) (padded_extent ds ts parts.1)

ones_size : (ds : List ℕ) → fits ds [] ≡ true → size_of ds ≡ 1
ones_size [] e = refl
ones_size (d ∷ ds) e = let parts = and_parts (d == 1) (fits ds []) e in ap₂ (λ (n m : ℕ). n * m) (is_one d parts.0) (ones_size ds parts.1)

pub padded_size : (ds ts : List ℕ) → fits ds ts ≡ true → size_of (padded ds ts) ≡ size_of ts
padded_size [] ts e = refl
padded_size (d ∷ ds) [] e = ones_size (d ∷ ds) e
padded_size (d ∷ ds) (t ∷ ts) e = let parts = and_parts (d == 1 || d == t) (fits ds ts) e in ap (λ (n : ℕ). t * n) (padded_size ds ts parts.1)

small_join : (js : List ℕ) → extent js ≤ 1048576 → checked_join (Some js) ≡ Ok js
small_join js h = grind (arith, nat_tests, h)

pub fits_joined : (ds ts : List ℕ) → fits ds ts ≡ true → extent ts ≤ 1048576 → joined_dims ds ts ≡ Ok (padded ds ts)
fits_joined ds ts e h = ap checked_join (fits_join ds ts e) ∙ small_join (padded ds ts) (omega (arith, padded_extent ds ts e, h))

-- what two lists that are these join to
pub joined_padded : (ds ts js xs ys : List ℕ) → fits ds ts ≡ true → extent ts ≤ 1048576 → xs ≡ ds → ys ≡ ts → Ok js ≡ joined_dims xs ys → js ≡ padded ds ts
joined_padded ds ts js xs ys e h p q j =
    let same : ◌≡◌ {A = Result (List ℕ) Refusal} (Ok js) (Ok (padded ds ts)) = j ∙ ap₂ joined_dims p q ∙ fits_joined ds ts e h in
    cc

pub joined_never : (ds ts xs ys : List ℕ) (refusal : Refusal) → fits ds ts ≡ true → extent ts ≤ 1048576 → xs ≡ ds → ys ≡ ts → Err refusal ≡ joined_dims xs ys → ⊥
joined_never ds ts xs ys refusal e h p q j =
    let same : ◌≡◌ {A = Result (List ℕ) Refusal} (Err refusal) (Ok (padded ds ts)) = j ∙ ap₂ joined_dims p q ∙ fits_joined ds ts e h in
    absurd (cc)

-- along sizes of 1 nothing moves
ones_position : (ds : List ℕ) (p : ℕ) → fits ds [] ≡ true → position_of ds (cut_to ds (coordinates_of ds p)) ≡ 0
ones_position [] p e = refl
ones_position (d ∷ ds) p e =
    let parts = and_parts (d == 1) (fits ds []) e in
    let rest : position_of ds (cut_to ds (coordinates_of ds (p / d))) ≡ 0 = ones_position ds (p / d) parts.1 in
    let first : (if d == 1 then 0 else p % d) ≡ 0 = ap (λ (b : Bool). if b then 0 else p % d) parts.0 in
    ap₂ (λ (n m : ℕ). n + d * m) first rest ∙ omega arith

padded_position : (ds ts : List ℕ) (p : ℕ) → fits ds ts ≡ true → stretched_position ds (padded ds ts) p ≡ stretched_position ds ts p
padded_position [] ts p e = refl
padded_position (d ∷ ds) [] p e = ones_position (d ∷ ds) p e
padded_position (d ∷ ds) (t ∷ ts) p e =
    let parts = and_parts (d == 1 || d == t) (fits ds ts) e in
    ap (λ (n : ℕ). (if d == 1 then 0 else p % t) + d * n) (padded_position ds ts (p / t) parts.1)

pub padded_stretched : (ds ts : List ℕ) (es : List ℤ) → fits ds ts ≡ true → stretched ds (padded ds ts) es ≡ stretched ds ts es
padded_stretched ds ts es e =
    let f : ℕ → ℤ = λ p. get_or es (stretched_position ds (padded ds ts) p) (pos 0) in
    let g : ℕ → ℤ = λ p. get_or es (stretched_position ds ts p) (pos 0) in
    let n : ℕ = size_of ts in
    let l : length (map f (range_with_len 0 n)) ≡ n = length-map-range_with_len f 0 n in
    let m : length (map g (range_with_len 0 n)) ≡ n = length-map-range_with_len g 0 n in
    ap (λ (k : ℕ). map f (range_with_len 0 k)) (padded_size ds ts e)
    ∙ ext_get_or (pos 0) (map f (range_with_len 0 n)) (map g (range_with_len 0 n)) (l ∙ sym m)
    (λ p within.
    let small : p < n = omega (arith, l, within) in
    get_or-map-range_with_len f 0 n p p (pos 0) small (omega arith)
    ∙ ap (λ (q : ℕ). get_or es q (pos 0)) (padded_position ds ts p e)
    ∙ sym (get_or-map-range_with_len g 0 n p p (pos 0) small (omega arith)))

-- ---- sizes fit themselves, and nothing is stretched

pub fits_itself : (ds : List ℕ) → fits ds ds ≡ true
fits_itself [] = refl
fits_itself (d ∷ ds) = ap₂ (λ (p q : Bool). p && q) (one_or_itself d) (fits_itself ds)
  where
    one_or_itself : (d : ℕ) → (d == 1 || d == d) ≡ true
    one_or_itself d = grind (arith, nat_tests)

padded_itself : (ds : List ℕ) → padded ds ds ≡ ds
padded_itself [] = refl
padded_itself (d ∷ ds) = ap (λ (es : List ℕ). d ∷ es) (padded_itself ds)

pub joined_itself : (ds : List ℕ) → extent ds ≤ 1048576 → joined_dims ds ds ≡ Ok ds
joined_itself ds h = fits_joined ds ds (fits_itself ds) h ∙ ap Ok (padded_itself ds)

-- along a size of 1 a coordinate is 0 as it is
uncut : (ds : List ℕ) (p : ℕ) → cut_to ds (coordinates_of ds p) ≡ coordinates_of ds p
uncut [] p = refl
uncut (d ∷ ds) p = ap₂ (λ (c : ℕ) (cs : List ℕ). c ∷ cs) (along d) (uncut ds (p / d))
  where
    along : (d : ℕ) → (if d == 1 then 0 else p % d) ≡ p % d
    along d = elim (cases_Bool (d == 1)) as (λ x. (if d == 1 then 0 else p % d) ≡ p % d) [
      | inl one ↦ ap (λ (b : Bool). if b then 0 else p % d) one ∙ sym (ap (λ (n : ℕ). p % n) (is_one d one) ∙ mod-one p)
      | inr other ↦ ap (λ (b : Bool). if b then 0 else p % d) other
    ]

pub stretched_itself : PositionLaws → (ds : List ℕ) (es : List ℤ) → length es ≡ size_of ds → stretched ds ds es ≡ es
stretched_itself laws ds es e =
    let f : ℕ → ℤ = λ p. get_or es (stretched_position ds ds p) (pos 0) in
    let l : length (map f (range_with_len 0 (size_of ds))) ≡ size_of ds = length-map-range_with_len f 0 (size_of ds) in
    ext_get_or (pos 0) (stretched ds ds es) es (l ∙ sym e)
    (λ p within.
    let small : p < size_of ds = omega (arith, l, within) in
    get_or-map-range_with_len f 0 (size_of ds) p p (pos 0) small (omega arith)
    ∙ ap (λ (q : ℕ). get_or es q (pos 0)) (ap (position_of ds) (uncut ds p) ∙ laws.position_again ds p small))
