-- Increments of which each goes further than those before it lead together lie apart.
use Rattle.std.proofs.Common.{suc, zero, ◌≡◌, ℕ, ◌+◌, ◌*◌, ◌-◌, ◌<◌, ◌≤◌, ℤ, pos, negsuc, ◌+ℤ◌, ◌*ℤ◌, List, [], ◌∷◌, refl, sym, ◌∙◌, ap, ap₂, subst, arith}
use Rattle.std.specs.Prelude.{unsigned_abs}
use Rattle.std.proofs.lemmas.Int.{ints}
use Rattle.std.proofs.Math.Nat.{mul-le-mul_left}
use Rattle.pdl_shape.specs.Triple.{Triple, moved}
use Rattle.pdl_engine.specs.Apart.{KeepApart, LiesApart}

-- a number has one remainder below m, and one quotient
same_parts : (m a b c u : ℕ) → a < m → b < m → a + m * c ≡ b + m * u → (a ≡ b) × (c ≡ u)
same_parts m a b zero zero h g e = (omega (arith, e), refl)
same_parts m a b zero (suc u) h g e = (let k : m * suc u ≡ m * u + m = grind arith in absurd (omega (arith, e, k, h)))
same_parts m a b (suc c) zero h g e = (let k : m * suc c ≡ m * c + m = grind arith in absurd (omega (arith, e, k, g)))
same_parts m a b (suc c) (suc u) h g e =
    let k : m * suc c ≡ m * c + m = grind arith in
    let l : m * suc u ≡ m * u + m = grind arith in
    let r = same_parts m a b c u h g (omega (arith, e, k, l)) in
    (r.0, ap suc r.1)

-- a coordinate and a number up to n lead no further than n and all steps together
leads : (n m d a c : ℕ) → a ≤ n → c < d → a + m * c ≤ n + m * (d - 1)
leads n m d a c h g =
    let k : m * c ≤ m * (d - 1) = mul-le-mul_left m (omega (arith, g)) in
    omega (arith, h, k)

shift : (a m c : ℕ) (x : ℤ) → pos a +ℤ ((pos m *ℤ pos c) +ℤ x) ≡ pos (a + m * c) +ℤ x
shift a m c x = grind (arith, ints)

negated : (k c : ℕ) → (negsuc k *ℤ pos c) +ℤ pos (suc k * c) ≡ pos 0
negated k c = grind (arith, ints)

beside : (a b m n : ℕ) (p q x y : ℤ) → p +ℤ pos m ≡ pos 0 → q +ℤ pos n ≡ pos 0 → pos a +ℤ (p +ℤ x) ≡ pos b +ℤ (q +ℤ y) → pos (a + n) +ℤ x ≡ pos (b + m) +ℤ y
beside a b m n p q x y f g e = omega (arith, ints, f, g, e)

back : (a b k c u : ℕ) (x y : ℤ) → pos a +ℤ ((negsuc k *ℤ pos c) +ℤ x) ≡ pos b +ℤ ((negsuc k *ℤ pos u) +ℤ y)
    → pos (a + suc k * u) +ℤ x ≡ pos (b + suc k * c) +ℤ y
back a b k c u x y e = beside a b (suc k * c) (suc k * u) (negsuc k *ℤ pos c) (negsuc k *ℤ pos u) x y (negated k c) (negated k u) e

-- one dimension more, along which one step goes further than n
apart_on : (n m d : ℕ) (z : ℤ) (is : List ℤ) (ds : List ℕ) → unsigned_abs z ≡ m → n < m → KeepApart (n + m * (d - 1)) is ds → KeepApart n (z ∷ is) (d ∷ ds)
apart_on n m d z is ds s h f a b [] us la lb w x e = absurd w
apart_on n m d z is ds s h f a b (c ∷ cs) [] la lb w x e = absurd x
apart_on n m d (pos k) is ds s h f a b (c ∷ cs) (u ∷ us) la lb w x e =
    let moved_on : pos (a + k * c) +ℤ moved is cs ≡ pos (b + k * u) +ℤ moved is us = sym (shift a k c (moved is cs)) ∙ e ∙ shift b k u (moved is us) in
    let far : (v i : ℕ) → v ≤ n → i < d → v + k * i ≤ n + m * (d - 1) = λ v i l j. subst (λ y. v + k * i ≤ n + y * (d - 1)) s (leads n k d v i l j) in
    let rest = f (a + k * c) (b + k * u) cs us (far a c la w.0) (far b u lb x.0) w.1 x.1 moved_on in
    let same = same_parts k a b c u (omega (arith, s, h, la)) (omega (arith, s, h, lb)) rest.0 in
    (same.0, ap₂ (λ i js. i ∷ js) same.1 rest.1)
apart_on n m d (negsuc k) is ds s h f a b (c ∷ cs) (u ∷ us) la lb w x e =
    let moved_on : pos (a + suc k * u) +ℤ moved is cs ≡ pos (b + suc k * c) +ℤ moved is us = back a b k c u (moved is cs) (moved is us) e in
    let far : (v i : ℕ) → v ≤ n → i < d → v + suc k * i ≤ n + m * (d - 1) = λ v i l j. subst (λ y. v + suc k * i ≤ n + y * (d - 1)) s (leads n (suc k) d v i l j) in
    let rest = f (a + suc k * u) (b + suc k * c) cs us (far a u la x.0) (far b c lb w.0) w.1 x.1 moved_on in
    let same = same_parts (suc k) a b u c (omega (arith, s, h, la)) (omega (arith, s, h, lb)) rest.0 in
    (same.0, ap₂ (λ i js. i ∷ js) (sym same.1) rest.1)

-- along a size of 0 or 1 nothing moves
flat : (a c : ℕ) (z x : ℤ) → c ≡ 0 → pos a +ℤ ((z *ℤ pos c) +ℤ x) ≡ pos a +ℤ x
flat a c z x h = (let e : z *ℤ pos c ≡ pos 0 = ap (λ i. z *ℤ pos i) h ∙ grind (arith, ints) in grind (arith, ints, e))

apart_past : (n d : ℕ) (z : ℤ) (is : List ℤ) (ds : List ℕ) → d ≤ 1 → KeepApart n is ds → KeepApart n (z ∷ is) (d ∷ ds)
apart_past n d z is ds h f a b [] us la lb w x e = absurd w
apart_past n d z is ds h f a b (c ∷ cs) [] la lb w x e = absurd x
apart_past n d z is ds h f a b (c ∷ cs) (u ∷ us) la lb w x e =
    let low : c ≡ 0 = omega (arith, h, w.0) in
    let too : u ≡ 0 = omega (arith, h, x.0) in
    let rest = f a b cs us la lb w.1 x.1 (sym (flat a c z (moved is cs) low) ∙ e ∙ flat b u z (moved is us) too) in
    (rest.0, ap₂ (λ i js. i ∷ js) (low ∙ sym too) rest.1)

plain : (a b : ℕ) → pos a +ℤ pos 0 ≡ pos b +ℤ pos 0 → a ≡ b
plain a b e = omega (arith, ints, e)

-- ---- by the first size and increment of lists
pub past_first : (n d : ℕ) (z : ℤ) (is js : List ℤ) (ds es : List ℕ) → js ≡ z ∷ is → es ≡ d ∷ ds → d ≤ 1 → KeepApart n is ds → KeepApart n js es
past_first n d z is js ds es p q h f = subst (λ us. KeepApart n us es) (sym p) (subst (λ us. KeepApart n (z ∷ is) us) (sym q) (apart_past n d z is ds h f))

pub on_first : (n reach d : ℕ) (z : ℤ) (is js : List ℤ) (ds es : List ℕ) → js ≡ z ∷ is → es ≡ d ∷ ds → n < unsigned_abs z → reach ≡ n + unsigned_abs z * (d - 1) → KeepApart reach is ds → KeepApart n js es
on_first n reach d z is js ds es p q h r f =
    subst (λ us. KeepApart n us es) (sym p) (subst (λ us. KeepApart n (z ∷ is) us) (sym q) (apart_on n (unsigned_abs z) d z is ds refl h (subst (λ k. KeepApart k is ds) r f)))

-- ---- a triple
without : (n : ℕ) (x y : ℤ) → pos n +ℤ x ≡ pos n +ℤ y → pos 0 +ℤ x ≡ pos 0 +ℤ y
without n x y e = grind (arith, ints, e)

pub triple_apart : (t : Triple) (is : List ℤ) (ds : List ℕ) → is ≡ t.incs → ds ≡ t.dims → KeepApart 0 is ds → LiesApart t
triple_apart t is ds p q f cs us w x e =
    let g : KeepApart 0 t.incs t.dims = subst (λ js. KeepApart 0 js t.dims) p (subst (λ es. KeepApart 0 is es) q f) in
    (g 0 0 cs us (omega arith) (omega arith) w x (without t.offset (moved t.incs cs) (moved t.incs us) e)).1
