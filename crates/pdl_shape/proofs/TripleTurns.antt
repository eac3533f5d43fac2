-- Increments times coordinates stay within a word.
use Rattle.std.proofs.Common.{◌≡◌, ℕ, zero, suc, max, nat_abs, ◌*◌, ◌<◌, ◌≤◌, ℤ, pos, negsuc, ◌+ℤ◌, ◌*ℤ◌, List, [], ◌∷◌, length, All, FitsSigned, w32, w64, to_z, of_z, sym, ap, ap₂, ◌∙◌, subst, arith}
use Rattle.std.proofs.Math.Nat.{mul-le-mul}
use Rattle.std.proofs.lemmas.Int.{ints, to_z-of_z}
use Rattle.pdl_shape.specs.Shape.{extent, IsWithin}
use Rattle.pdl_shape.specs.Triple.{IsNear, IsPlace, moved}
use Rattle.pdl_shape.proofs.ShapeExtents.{extent_positive}

-- one increment times a coordinate
step_near : (z : ℤ) (c : ℕ) → FitsSigned w32 z → c < 1048576 → IsNear 1 (z *ℤ pos c)
step_near (pos n) c f h =
    let b : n * c ≤ 2147483648 * 1048576 = mul-le-mul {n₁ = n} {m₁ = c} {n₂ = 2147483648} {m₂ = 1048576} (omega (arith, f.sfits)) (omega arith) in
    record { high = omega (arith, ints); low = omega (arith, ints) }
step_near (negsuc n) c f h =
    let b : suc n * c ≤ 2147483648 * 1048576 = mul-le-mul {n₁ = suc n} {m₁ = c} {n₂ = 2147483648} {m₂ = 1048576} (omega (arith, f.sfits)) (omega arith) in
    record { high = omega (arith, ints); low = omega (arith, ints) }

pub near_fits : (n : ℕ) (z : ℤ) → n ≤ 16 → IsNear n z → FitsSigned w64 z
near_fits n (pos m) few h = record { sfits = omega (arith, ints, h.high) }
near_fits n (negsuc m) few h = record { sfits = omega (arith, ints, h.low) }

near_more : (n : ℕ) (a b : ℤ) → IsNear 1 a → IsNear n b → IsNear (suc n) (a +ℤ b)
near_more n a b h k = record { high = omega (arith, ints, h.high, k.high); low = omega (arith, ints, h.low, k.low) }

-- what the code finds at one dimension: the words of the increment, of the coordinate and of the rest
pub record Found (incs : List ℤ) (at : List ℕ) (r s m z : ℤ) (c : ℕ) (rest : List ℤ) (cs : List ℕ) : Type 0 where
  pub r_fits : FitsSigned w64 r
  pub s_fits : FitsSigned w64 s
  pub m_fits : FitsSigned w64 m
  pub inc_fits : FitsSigned w32 z
  pub r_is : r ≡ to_z w32 (of_z w32 z)
  pub s_is : s ≡ pos c
  pub m_is : m ≡ moved rest cs
  pub m_near : IsNear (length rest) m
  pub incs_are : incs ≡ z ∷ rest
  pub at_is : at ≡ c ∷ cs
  pub few : length incs ≤ 16
  pub small : All (λ k. k < 1048576) at

pub record Turn (incs : List ℤ) (at : List ℕ) (step m : ℤ) : Type 0 where
  pub fits : FitsSigned w64 (to_z w64 (of_z w64 step) +ℤ to_z w64 (of_z w64 m))
  pub is : to_z w64 (of_z w64 (to_z w64 (of_z w64 step) +ℤ to_z w64 (of_z w64 m))) ≡ moved incs at
  pub near : IsNear (length incs) (to_z w64 (of_z w64 (to_z w64 (of_z w64 step) +ℤ to_z w64 (of_z w64 m))))

pub turn : (incs : List ℤ) (at : List ℕ) (r s m z : ℤ) (c : ℕ) (rest : List ℤ) (cs : List ℕ) → Found incs at r s m z c rest cs → Turn incs at (to_z w64 (of_z w64 r) *ℤ to_z w64 (of_z w64 s)) m
turn incs at r s m z c rest cs f =
    let low : c < 1048576 = (let P : List ℕ → Type 0 = λ l. All (λ k. k < 1048576) l in subst P f.at_is f.small 0 0 (omega arith)) in
    let product : to_z w64 (of_z w64 r) *ℤ to_z w64 (of_z w64 s) ≡ z *ℤ pos c = ap₂ (λ x y. x *ℤ y) (to_z-of_z w64 r f.r_fits ∙ f.r_is ∙ to_z-of_z w32 z f.inc_fits) (to_z-of_z w64 s f.s_fits ∙ f.s_is) in
    let step : IsNear 1 (z *ℤ pos c) = step_near z c f.inc_fits low in
    let word : to_z w64 (of_z w64 (to_z w64 (of_z w64 r) *ℤ to_z w64 (of_z w64 s))) ≡ z *ℤ pos c = ap (λ x. to_z w64 (of_z w64 x)) product ∙ to_z-of_z w64 (z *ℤ pos c) (near_fits 1 (z *ℤ pos c) (omega arith) step) in
    let parts : to_z w64 (of_z w64 (to_z w64 (of_z w64 r) *ℤ to_z w64 (of_z w64 s))) +ℤ to_z w64 (of_z w64 m) ≡ (z *ℤ pos c) +ℤ m = ap₂ (λ x y. x +ℤ y) word (to_z-of_z w64 m f.m_fits) in
    let count : length incs ≡ suc (length rest) = ap length f.incs_are in
    let near : IsNear (length incs) ((z *ℤ pos c) +ℤ m) = subst (λ n. IsNear n ((z *ℤ pos c) +ℤ m)) (sym count) (near_more (length rest) (z *ℤ pos c) m step f.m_near) in
    let fits : FitsSigned w64 ((z *ℤ pos c) +ℤ m) = near_fits (length incs) ((z *ℤ pos c) +ℤ m) f.few near in
    let whole : to_z w64 (of_z w64 (to_z w64 (of_z w64 (to_z w64 (of_z w64 r) *ℤ to_z w64 (of_z w64 s))) +ℤ to_z w64 (of_z w64 m))) ≡ (z *ℤ pos c) +ℤ m = ap (λ x. to_z w64 (of_z w64 x)) parts ∙ to_z-of_z w64 ((z *ℤ pos c) +ℤ m) fits in
    record {
      fits = subst (FitsSigned w64) (sym parts) fits;
      is = whole ∙ ap (λ x. (z *ℤ pos c) +ℤ x) f.m_is ∙ sym (ap₂ moved f.incs_are f.at_is);
      near = subst (IsNear (length incs)) (sym whole) near;
    }

-- coordinates within an array's dimensions are small
pub within_small : (ds cs : List ℕ) → IsWithin ds cs → extent ds ≤ 1048576 → All (λ c. c < 1048576) cs
within_small [] [] w e = λ k d h. absurd (omega arith)
within_small [] (c ∷ cs) w e = absurd w
within_small (d ∷ ds) [] w e = absurd w
within_small (d ∷ ds) (c ∷ cs) w e =
    let first : max d 1 * 1 ≤ max d 1 * extent ds = mul-le-mul {n₁ = max d 1} {m₁ = 1} {n₂ = max d 1} {m₂ = extent ds} (omega arith) (extent_positive ds) in
    let rest : 1 * extent ds ≤ max d 1 * extent ds = mul-le-mul {n₁ = 1} {m₁ = extent ds} {n₂ = max d 1} {m₂ = extent ds} (omega arith) (omega arith) in
    each (omega (arith, w.0)) (within_small ds cs w.1 (omega arith))
  where
    each : c < 1048576 → All (λ x. x < 1048576) cs → All (λ x. x < 1048576) (c ∷ cs)
    each here others zero d h = here
    each here others (suc k) d h = others k d (omega arith)

-- the word of a place is the place
pub place_word : (a b z : ℤ) (n : ℕ) (m : ℤ) → FitsSigned w64 a → FitsSigned w64 b → a ≡ pos n → b ≡ m → pos n +ℤ m ≡ z → IsPlace z
    → FitsSigned w64 (to_z w64 (of_z w64 a) +ℤ to_z w64 (of_z w64 b)) × (to_z w64 (of_z w64 (to_z w64 (of_z w64 a) +ℤ to_z w64 (of_z w64 b))) ≡ z)
place_word a b z n m f g e h s p =
    let sum : to_z w64 (of_z w64 a) +ℤ to_z w64 (of_z w64 b) ≡ z = ap₂ (λ x y. x +ℤ y) (to_z-of_z w64 a f ∙ e) (to_z-of_z w64 b g ∙ h) ∙ s in
    let fits : FitsSigned w64 z = place_fits z p in
    (subst (FitsSigned w64) (sym sum) fits, ap (λ x. to_z w64 (of_z w64 x)) sum ∙ to_z-of_z w64 z fits)
  where
    place_fits : (z : ℤ) → IsPlace z → FitsSigned w64 z
    place_fits (pos k) p = record { sfits = omega (arith, ints, p.high) }
    place_fits (negsuc k) p = record { sfits = omega (arith, ints, p.low) }

pub place_natural : (w z : ℤ) → w ≡ z → IsPlace z → pos (nat_abs w) ≡ z
place_natural w (pos k) e p = ap (λ x. pos (nat_abs x)) e
place_natural w (negsuc k) e p = absurd (omega (arith, ints, p.low))
