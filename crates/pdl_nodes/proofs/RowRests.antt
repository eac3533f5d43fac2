-- Rows in two parts: those that a loop has passed, and those that are still to come.
use Rattle.std.proofs.Common.{◌≡◌, ℕ, ◌+◌, ◌<◌, true, false, [], ◌∷◌, ◌++◌, Option, Some, None, inl, inr, refl, sym, ◌∙◌, ap, arith}
use Rattle.std.proofs.lemmas.Bool.Decides.{eqb_tells}
use Rattle.pdl_nodes.specs.Row.{Row}
use Rattle.pdl_nodes.specs.Rows.{Rows, has, without, NumbersBelow, Falls, HasParent}
use Rattle.std.proofs.lemmas.Bool.{eq-eqb, ne_eqb}

-- how far the loop still goes at most
abbrev pub size_of : Option ℕ → ℕ
size_of None = 0
size_of (Some k) = k + 1

below_tail : (a b : Rows) (n : ℕ) → NumbersBelow n (a ++ b) → NumbersBelow n b
below_tail [] b n f = f
below_tail ((k, r) ∷ a) b n f = below_tail a b n f.1

-- all rows stay that have another number
all_stay : (k : ℕ) (rs : Rows) → NumbersBelow k rs → without k rs ≡ rs
all_stay k [] b = refl
all_stay k ((j, q) ∷ rs) b = rw (ne_eqb j k (λ (e : j ≡ k). let z : ⊥ = omega (arith, b.0) in z)) (ap (λ x. (j, q) ∷ x) (all_stay k rs b.1))

pub without_newest : (k : ℕ) (r : Row) (rest : Rows) → NumbersBelow k rest → without k ((k, r) ∷ rest) ≡ rest
without_newest k r rest b = rw (eq-eqb k k refl) (all_stay k rest b)

pub without_none : (rs : Rows) (id : ℕ) → has rs id ≡ false → without id rs ≡ rs
without_none [] id h = refl
without_none ((j, q) ∷ rs) id h = elim (eqb_tells j id) [
  | inl y ↦ (let z : true ≡ false = rw y.0 at h in absurd (cc))
  | inr y ↦ rw y.0 (ap (λ x. (j, q) ∷ x) (without_none rs id (rw y.0 at h)))
]

pub without_here : (a rest : Rows) (k : ℕ) (r : Row) → Falls (a ++ (k, r) ∷ rest) → without k (a ++ (k, r) ∷ rest) ≡ a ++ rest
without_here [] rest k r f = without_newest k r rest f.0
without_here ((j, q) ∷ a) rest k r f =
    let b : k < j = (below_tail a ((k, r) ∷ rest) j f.0).0 in
    rw (ne_eqb j k (λ (e : j ≡ k). let z : ⊥ = omega arith in z)) (ap (λ x. (j, q) ∷ x) (without_here a rest k r f.1))

pub not_parent : (rest : Rows) (p : Option ℕ) (v : ℕ) → HasParent rest p → has rest v ≡ false → p ≡ Some v → ⊥
not_parent rest None v h n e = absurd (cc)
not_parent rest (Some q) v h n e =
    let x : q ≡ v = cc in
    let z : true ≡ false = sym h ∙ ap (has rest) x ∙ n in
    absurd (cc)
