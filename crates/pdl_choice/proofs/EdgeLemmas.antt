-- What the edges of a dimension make of a number.
use Rattle.std.proofs.Common.{◌≡◌, ℕ, ◌+◌, ◌-◌, ◌*◌, ◌/◌, ◌%◌, ◌<◌, min, Bool, true, false, if◌then◌else◌, nat_lt, refl, ap, sym, ◌∙◌, arith, Some, None, ℤ, pos, negsuc, ◌+ℤ◌, mod-lt}
use Rattle.std.specs.Int.{int_rem_euclid}
use Rattle.std.proofs.lemmas.Bool.Decides.{nat_tests}
use Rattle.std.proofs.lemmas.Int.{int_rem_euclid_is, ints}
use Rattle.std.proofs.Math.Nat.{add-mul-mod_self_left, mod-add-div, mod-eq_of_lt}
use Rattle.pdl_lemmas.specs.Options.{some_inj}
use Rattle.pdl_choice.specs.declared.edges.Edge.{Edge}
use Rattle.pdl_choice.specs.declared.edges.Edge.TheVariants.{Refuse, Zero, Nearest, Periodic}
use Rattle.pdl_choice.specs.Edges.{edge_coordinate}

-- a coordinate stands for itself
inside : (edge : Edge) (n p : ℕ) → p < n → Some p ≡ edge_coordinate edge n (pos p)
inside Refuse n p h = refl
inside Zero n p h = let below : nat_lt p n ≡ true = grind (arith, nat_tests) in rw below refl
inside Nearest n p h = ap Some (least p n h)
  where
    least : (p n : ℕ) → p < n → p ≡ min p (n - 1)
    least p n h = omega arith
inside Periodic n p h = ap Some (sym (mod-eq_of_lt h))

pub inside_edge : (edge : Edge) (n : ℕ) (z : ℤ) (p : ℕ) → z ≡ pos p → p < n → Some p ≡ edge_coordinate edge n z
inside_edge edge n z p is h = inside edge n p h ∙ ap (edge_coordinate edge n) (sym is)

-- before an edge that reads 0 a coordinate stands for itself alone
pub within_zero : (n : ℕ) (v : ℤ) (x : ℕ) → Some x ≡ edge_coordinate Zero n v → v ≡ pos x
within_zero n (pos k) x e = ap pos (sym (one k (nat_lt k n) e))
  where
    one : (k : ℕ) (b : Bool) → Some x ≡ (if b then Some k else None) → x ≡ k
    one k true e = some_inj e
    one k false e = absurd (cc)
within_zero n (negsuc k) x e = absurd (cc)

rows : (a n : ℕ) → a + n ≡ a % n + (a / n + 1) * n
rows a n = omega (arith, mod-add-div a n)

-- a number that is reduced first has the same remainder
pub reduced_first : (v : ℤ) (c n : ℕ) → 0 < n → int_rem_euclid (int_rem_euclid v (pos n) +ℤ pos c) (pos n) ≡ int_rem_euclid (v +ℤ pos c) (pos n)
reduced_first (pos a) c n some =
    let is : a + c ≡ (a % n + c) + n * (a / n) = omega (arith, mod-add-div a n) in
    ap pos (sym (ap (λ m. m % n) is ∙ add-mul-mod_self_left (a % n + c) n (a / n)))
reduced_first (negsuc a) c n some =
    let below : a % n < n = mod-lt a some in
    let all : negsuc a +ℤ pos c +ℤ pos ((a / n + 1) * n) ≡ pos (n - 1 - a % n + c) = omega (arith, ints, rows a n) in
    sym (int_rem_euclid_is (negsuc a +ℤ pos c) (pos n) n (a / n + 1) (n - 1 - a % n + c) some refl all)
