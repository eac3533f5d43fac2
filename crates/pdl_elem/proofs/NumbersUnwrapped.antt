-- A number in the range is wrapped to itself, and congruent numbers to the same one.
use Rattle.std.proofs.Common.{◌≡◌, ◌≢◌, ℕ, ◌*◌, ◌<◌, ℤ, zero, suc, pos, negsuc, ◌+ℤ◌, ◌*ℤ◌, ◌≤ℤ◌, arith, refl, ap, sym, ◌∙◌}
use borrow.Author.Differences.{up, down, sum_is_lem, product_is}
use Rattle.std.proofs.lemmas.Int.{ints}
use Rattle.std.proofs.lemmas.Nat.{div-add-mod'}
use Rattle.std.proofs.Math.Nat.{mod-lt}
use Rattle.pdl_elem.specs.declared.Ty.{Ty}
use Rattle.pdl_elem.specs.declared.Ty.TheVariants.{Sbyte, Byte, Short, Ushort, Long, Ulong, Longlong}
use Rattle.pdl_elem.specs.Types.{InRange}
use Rattle.pdl_elem.specs.Numbers.{AreCongruent, count_of, wrapped, WrapsTo}
use Rattle.pdl_elem.specs.Operators.{modulo}
use Rattle.pdl_elem.proofs.NumbersWrapped.{wraps}

-- there is one number that another is wrapped to
pub wrapped_only : (t : Ty) (z r : ℤ) → WrapsTo t z r → r ≡ wrapped t z
wrapped_only Sbyte z r h = let w = wraps Sbyte z in omega (arith, ints, w.in_range.0, w.in_range.1, w.congruent.1, h.in_range.0, h.in_range.1, h.congruent.1)
wrapped_only Byte z r h = let w = wraps Byte z in omega (arith, ints, w.in_range.0, w.in_range.1, w.congruent.1, h.in_range.0, h.in_range.1, h.congruent.1)
wrapped_only Short z r h = let w = wraps Short z in omega (arith, ints, w.in_range.0, w.in_range.1, w.congruent.1, h.in_range.0, h.in_range.1, h.congruent.1)
wrapped_only Ushort z r h = let w = wraps Ushort z in omega (arith, ints, w.in_range.0, w.in_range.1, w.congruent.1, h.in_range.0, h.in_range.1, h.congruent.1)
wrapped_only Long z r h = let w = wraps Long z in omega (arith, ints, w.in_range.0, w.in_range.1, w.congruent.1, h.in_range.0, h.in_range.1, h.congruent.1)
wrapped_only Ulong z r h = let w = wraps Ulong z in omega (arith, ints, w.in_range.0, w.in_range.1, w.congruent.1, h.in_range.0, h.in_range.1, h.congruent.1)
wrapped_only Longlong z r h = let w = wraps Longlong z in omega (arith, ints, w.in_range.0, w.in_range.1, w.congruent.1, h.in_range.0, h.in_range.1, h.congruent.1)

pub wrapped_same : (t : Ty) (n : ℤ) → InRange t n → wrapped t n ≡ n
wrapped_same t n h = sym (wrapped_only t n n (record { in_range = h; congruent = (pos 0, omega (arith, ints)) }))

-- ---- congruent numbers

-- what is congruent to a number that is congruent to a third one
congruent_on : (a b r k l m : ℤ) → a ≡ b +ℤ k *ℤ m → b ≡ r +ℤ l *ℤ m → a ≡ r +ℤ (k +ℤ l) *ℤ m
congruent_on a b r k l m e f = let s = sum_is_lem k l in omega (arith, ints, e, f, ap (λ n. n * up m) s, ap (λ n. n * down m) s)

-- the products with one number
congruent_times : (a r k m x : ℤ) → a ≡ r +ℤ k *ℤ m → a *ℤ x ≡ (r *ℤ x) +ℤ (k *ℤ x) *ℤ m
congruent_times a r k m x e =
    let s = sum_is_lem r (k *ℤ m) in
    let p = product_is k m in
    let q = product_is k x in
    ap (λ z. z *ℤ x) e
    ∙ omega (arith, ints, ap (λ n. n * up x) s, ap (λ n. n * down x) s, ap (λ n. n * up x) p.0, ap (λ n. n * down x) p.0, ap (λ n. n * up x) p.1, ap (λ n. n * down x) p.1, ap (λ n. n * up m) q.0, ap (λ n. n * down m) q.0, ap (λ n. n * up m) q.1, ap (λ n. n * down m) q.1)

-- congruent numbers are wrapped to the same one
wrapped_alike : (t : Ty) (a b : ℤ) → AreCongruent (count_of t) a b → wrapped t b ≡ wrapped t a
wrapped_alike t a b h =
    let w : WrapsTo t b (wrapped t b) = wraps t b in
    wrapped_only t a (wrapped t b) (record { in_range = w.in_range; congruent = (h.0 +ℤ w.congruent.0, congruent_on a b (wrapped t b) h.0 w.congruent.0 (pos (count_of t)) h.1 w.congruent.1) })

added : (a r k m x : ℤ) → a ≡ r +ℤ k *ℤ m → a +ℤ x ≡ (r +ℤ x) +ℤ k *ℤ m
added a r k m x e = omega (arith, ints, e)

pub wrapped_in_sum : (t : Ty) (a b : ℤ) → wrapped t (wrapped t a +ℤ b) ≡ wrapped t (a +ℤ b)
wrapped_in_sum t a b =
    let w : WrapsTo t a (wrapped t a) = wraps t a in
    wrapped_alike t (a +ℤ b) (wrapped t a +ℤ b) (w.congruent.0, added a (wrapped t a) w.congruent.0 (pos (count_of t)) b w.congruent.1)

pub wrapped_in_product : (t : Ty) (a b : ℤ) → wrapped t (wrapped t a *ℤ b) ≡ wrapped t (a *ℤ b)
wrapped_in_product t a b =
    let w : WrapsTo t a (wrapped t a) = wraps t a in
    wrapped_alike t (a *ℤ b) (wrapped t a *ℤ b) (w.congruent.0 *ℤ b, congruent_times a (wrapped t a) w.congruent.0 (pos (count_of t)) b w.congruent.1)

-- ---- what a division leaves

pub zero_in_range : (t : Ty) → InRange t (pos 0)
zero_in_range Sbyte = (record { le = tt }, record { le = tt })
zero_in_range Byte = (record { le = tt }, record { le = tt })
zero_in_range Short = (record { le = tt }, record { le = tt })
zero_in_range Ushort = (record { le = tt }, record { le = tt })
zero_in_range Long = (record { le = tt }, record { le = tt })
zero_in_range Ulong = (record { le = tt }, record { le = tt })
zero_in_range Longlong = (record { le = tt }, record { le = tt })

modulo_above : (a : ℤ) (b : ℕ) → (pos 0 ≤ℤ modulo a (pos (suc b))) × (modulo a (pos (suc b)) ≤ℤ pos (suc b))
modulo_above (pos a) b =
    let p : 0 < suc b = omega arith in
    let e : _ = div-add-mod' a (suc b) in
    let l : _ = mod-lt a p in
    (omega (arith, ints), omega (arith, ints))
modulo_above (negsuc a) b =
    let p : 0 < suc b = omega arith in
    let e : _ = div-add-mod' a (suc b) in
    let l : _ = mod-lt a p in
    (omega (arith, ints), omega (arith, ints))

modulo_below : (a : ℤ) (b : ℕ) → (negsuc b ≤ℤ modulo a (negsuc b)) × (modulo a (negsuc b) ≤ℤ pos 0)
modulo_below (pos zero) b =
    let e : _ = div-add-mod' 0 (suc b) in
    (omega (arith, ints), omega (arith, ints))
modulo_below (pos (suc a)) b =
    let p : 0 < suc b = omega arith in
    let e : _ = div-add-mod' a (suc b) in
    let l : _ = mod-lt a p in
    (omega (arith, ints), omega (arith, ints))
modulo_below (negsuc a) b =
    let p : 0 < suc b = omega arith in
    let e : _ = div-add-mod' (suc a) (suc b) in
    let l : _ = mod-lt (suc a) p in
    (omega (arith, ints), omega (arith, ints))

-- what is left of a division by a number of the type is one
pub modulo_in_range : (t : Ty) (a b : ℤ) → InRange t b → b ≢ pos 0 → InRange t (modulo a b)
modulo_in_range t a (pos zero) h n = absurd (n refl)
modulo_in_range t a (pos (suc b)) h n =
    let z : _ = zero_in_range t in
    let m : _ = modulo_above a b in
    (omega (arith, ints, z.0, m.0), omega (arith, ints, m.1, h.1))
modulo_in_range t a (negsuc b) h n =
    let z : _ = zero_in_range t in
    let m : _ = modulo_below a b in
    (omega (arith, ints, h.0, m.0), omega (arith, ints, m.1, z.1))
