-- Places that rise.
use Rattle.std.proofs.Common.{◌≡◌, ℕ, zero, suc, ◌+◌, ◌<◌, ◌≤◌, Bool, true, false, cond, All, IsTrue, List, [], ◌∷◌, length, get_or, map, Option, Some, ℤ, pos, refl, sym, ap, ◌∙◌, subst, arith}
use Rattle.std.specs.List.{filter, range_with_len}
use Rattle.std.proofs.lemmas.Bool.Decides.{nat_tests}
use Rattle.std.proofs.lemmas.List.{length-map, get_or-map}
use Rattle.pdl_shape.specs.Places.{AllBelow, IsBelow}
use Rattle.pdl_choice.specs.Where.{is_set, rises, which}

-- the first of rising places, and that the others rise after it
parts : (a n p : ℕ) (ps : List ℕ) → IsTrue (rises a n (p ∷ ps)) → (a ≤ p) × (p < n) × IsTrue (rises (p + 1) n ps)
parts a n p ps h = grind (arith, nat_tests)

-- there are no more than numbers from a to n
pub rising_few : (a n : ℕ) (ps : List ℕ) → a ≤ n → IsTrue (rises a n ps) → a + length ps ≤ n
rising_few a n [] low h = omega arith
rising_few a n (p ∷ ps) low h = let q = parts a n p ps h in omega (arith, q.0, q.1, rising_few (p + 1) n ps (omega (arith, q.1)) q.2)

pub rising_below : (a n : ℕ) (ps : List ℕ) → IsTrue (rises a n ps) → (k : ℕ) → k < length ps → get_or ps k 0 < n
rising_below a n [] h k l = absurd (omega arith)
rising_below a n (p ∷ ps) h zero l = (parts a n p ps h).1
rising_below a n (p ∷ ps) h (suc k) l = rising_below (p + 1) n ps (parts a n p ps h).2 k (omega arith)

-- each of them lies below n
pub rising_all : (a n : ℕ) (ps : List ℕ) → IsTrue (rises a n ps) → All (λ p. p < n) ps
rising_all a n [] h = λ k d l. absurd (omega arith)
rising_all a n (p ∷ ps) h = by_place (parts a n p ps h).1 (rising_all (p + 1) n ps (parts a n p ps h).2)
  where
    by_place : p < n → All (λ q. q < n) ps → (k d : ℕ) → k < length (p ∷ ps) → get_or (p ∷ ps) k d < n
    by_place first rest zero d l = first
    by_place first rest (suc k) d l = rest k d (omega arith)

pub rising_inside : (n : ℕ) (ps : List ℕ) (places : List (Option ℕ)) → IsTrue (rises 0 n ps) → places ≡ map (λ p. Some p) ps → AllBelow n places
rising_inside n ps places h is = λ k d l.
    let low : k < length ps = omega (arith, ap length is, length-map ps (λ (p : ℕ). Some p)) in
    subst (IsBelow n) (sym (ap (λ (qs : List (Option ℕ)). get_or qs k d) is ∙ get_or-map (λ (p : ℕ). Some p) ps k 0 d low)) (rising_below 0 n ps h k low)

-- from a higher number on is from a lower one on
rises_lower : (a b n : ℕ) (ps : List ℕ) → a ≤ b → IsTrue (rises b n ps) → IsTrue (rises a n ps)
rises_lower a b n [] low h = h
rises_lower a b n (p ∷ ps) low h = let q = parts b n p ps h in grind (arith, nat_tests, q.0, q.1, q.2)

one_more : (b : Bool) (a n : ℕ) (ps : List ℕ) → a < n → IsTrue (rises (a + 1) n ps) → IsTrue (rises a n (cond b (a ∷ ps) ps))
one_more true a n ps low h = grind (arith, nat_tests)
one_more false a n ps low h = rises_lower a (a + 1) n ps (omega arith) h

filtered_rise : (test : ℕ → Bool) (a m n : ℕ) → a + m ≤ n → IsTrue (rises a n (filter test (range_with_len a m)))
filtered_rise test a zero n fits = refl
filtered_rise test a (suc m) n fits = one_more (test a) a n (filter test (range_with_len (a + 1) m)) (omega arith) (filtered_rise test (a + 1) m n (omega arith))

-- the positions at which a mask is set rise
pub which_rises : (mask : List ℤ) (n : ℕ) → length mask ≡ n → IsTrue (rises 0 n (which mask))
which_rises mask n e = filtered_rise (λ p. is_set (get_or mask p (pos 0))) 0 (length mask) n (omega arith)
