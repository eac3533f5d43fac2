-- Products that are cut at a limit.
use Rattle.std.proofs.Common.{◌≡◌, ℕ, ◌+◌, ◌*◌, ◌<◌, ◌≤◌, min, max, List, [], ◌∷◌, length, get_or, drop, ap, sym, ◌∙◌, inl, inr, arith}
use Rattle.std.proofs.Math.Nat.{mul-le-mul_left, mul_assoc}
use Rattle.std.proofs.lemmas.Bool.{cases_lt}
use Rattle.std.proofs.lemmas.List.{at_drop_more}
use Rattle.pdl_shape.specs.Shape.{extent}

pub extent_some : (ds : List ℕ) → 1 ≤ extent ds
extent_some [] = omega arith
extent_some (d ∷ ds) = omega (arith, mul-le-mul_left (max d 1) (extent_some ds))

cut_below : (a e c : ℕ) → a ≤ c → min (min a c * e) c ≡ min (a * e) c
cut_below a e c h = let k : min a c ≡ a = omega arith in ap (λ x. min (x * e) c) k

cut_above : (a e c : ℕ) → 1 ≤ e → c < a → min (min a c * e) c ≡ min (a * e) c
cut_above a e c p h =
    let k : min a c ≡ c = omega arith in
    ap (λ x. min (x * e) c) k ∙ omega (arith, mul-le-mul_left c p, mul-le-mul_left a p)

-- a factor above 0 after a cut product
pub cut_again : (a e c : ℕ) → 1 ≤ e → min (min a c * e) c ≡ min (a * e) c
cut_again a e c p = elim (cases_lt c a) [ inl h ↦ cut_above a e c p h | inr h ↦ cut_below a e c h ]

-- one more factor
pub work_more : (w new m : ℕ) (sizes : List ℕ) (i s c total : ℕ) → i < length sizes → s ≡ get_or sizes i 0 → m ≡ max s 1 → new ≡ min (w * m) c
    → min (w * extent (drop i sizes)) c ≡ total → min (new * extent (drop (i + 1) sizes)) c ≡ total
work_more w new m sizes i s c total h e k n p =
    ap (λ x. min (x * extent (drop (i + 1) sizes)) c) n
    ∙ cut_again (w * m) (extent (drop (i + 1) sizes)) c (extent_some _)
    ∙ ap (λ x. min x c) (mul_assoc w m (extent (drop (i + 1) sizes)) ∙ ap (λ x. w * (x * extent (drop (i + 1) sizes))) (k ∙ ap (λ y. max y 1) e))
    ∙ sym (at_drop_more (λ rest. min (w * extent rest) c) sizes i 0 h)
    ∙ p
