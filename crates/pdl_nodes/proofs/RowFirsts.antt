-- The oldest number from one on, in a list of keys and in rows.
use Rattle.std.proofs.Common.{◌≡◌, ℕ, ◌+◌, ◌<◌, ◌≤◌, true, false, cond, leb, List, [], ◌∷◌, map, Option, Some, None, inl, inr, refl, sym, ◌∙◌, ap, arith}
use Rattle.std.proofs.lemmas.Bool.Decides.{eqb_tells, leb_tells}
use Rattle.slab.specs.Slab.{Slab}
use Rattle.pdl_lemmas.specs.Numbers.{at_other, at_same}
use Rattle.pdl_registry.specs.Numbered.{AllAbove, Rises, first_from, value_at}
use Rattle.pdl_nodes.specs.Row.{Row}
use Rattle.pdl_nodes.specs.Rows.{each, from, or_newer, NumbersBelow, Rows, has, Falls}
use Rattle.pdl_nodes.specs.Table.{rows_of, IsTable}
use Rattle.pdl_nodes.proofs.TableCalls.{seen}
use Rattle.pdl_nodes.proofs.RowFinds.{has_below, not_newest, below_more}
use Rattle.pdl_nodes.proofs.TableSlots.{Shows}
use Rattle.std.proofs.lemmas.Bool.{eq-eqb, ne_eqb}

-- what the next number says of the live ones
abbrev pub IsFirst : Rows → ℕ → Option ℕ → Type 0
IsFirst rs n None = (v : ℕ) → has rs v ≡ true → n ≤ v → ⊥
IsFirst rs n (Some m) = (n ≤ m) × (has rs m ≡ true) × ((v : ℕ) → has rs v ≡ true → n ≤ v → m ≤ v)

first_newer : (k n : ℕ) (r : Row) (rs : Rows) (o : Option ℕ) → n ≤ k → Falls ((k, r) ∷ rs) → IsFirst rs n o → IsFirst ((k, r) ∷ rs) n (or_newer o k)
first_newer k n r rs None l f h = (
  l,
  rw (eq-eqb k k refl) refl,
  λ v g m. elim (eqb_tells k v) [
    | inl t ↦ omega (arith, t.1)
    | inr t ↦ absurd (h v (rw t.0 at g) m)
  ],
)
first_newer k n r rs (Some m) l f h =
    let d : k ≡ m → ⊥ = not_newest rs k m f.0 h.1 in
    let low : m < k = has_below rs k m f.0 h.1 in (
      h.0,
      rw (ne_eqb k m d) h.1,
      λ v g x. elim (eqb_tells k v) [
        | inl t ↦ omega (arith, t.1, low)
        | inr t ↦ h.2 v (rw t.0 at g) x
      ],
    )

first_older : (k n : ℕ) (r : Row) (rs : Rows) → k < n → Falls ((k, r) ∷ rs) → IsFirst ((k, r) ∷ rs) n None
first_older k n r rs l f = λ v g m. (let b : v < k + 1 = has_below ((k, r) ∷ rs) (k + 1) v (omega arith, below_more rs k (k + 1) (omega arith) f.0) g in
    let z : ⊥ = omega arith in z)

from_low : (rs : Rows) (k n : ℕ) → k < n → ((v : ℕ) → has rs v ≡ true → v < k) → from rs n ≡ None
from_low [] k n l f = refl
from_low ((j, r) ∷ rs) k n l f = elim (leb_tells n j) [
  | inl t ↦ (let b : j < k = f j (rw (eq-eqb j j refl) refl) in let z : ⊥ = omega (arith, t.1) in absurd z)
  | inr t ↦ rw t.0 (from_low rs k n l (λ v h. elim (eqb_tells j v) [ inl y ↦ f v (rw y.0 refl) | inr y ↦ f v (rw y.0 h) ]))
]

pub is_first : (rs : Rows) (n : ℕ) → Falls rs → IsFirst rs n (from rs n)
is_first [] n f = λ v h l. (let x : false ≡ true = h in absurd (cc))
is_first ((k, r) ∷ rs) n f = elim (leb_tells n k) [
  | inl t ↦ rw t.0 (first_newer k n r rs (from rs n) t.1 f (is_first rs n f.1))
  | inr t ↦ (let l : k < n = omega (arith, t.1) in
      rw (t.0, from_low rs k n l (λ v h. has_below rs k v f.0 h)) (first_older k n r rs l f))
]

-- there is none from a bound of all numbers on
pub none_past : (rs : Rows) (n : ℕ) → NumbersBelow n rs → IsFirst rs n None
none_past rs n b = λ v h l. (let low : v < n = has_below rs n v b h in omega (arith, l, low))

-- what is not below the bound of a number isn't below another bound of it
pub from_on : (rs : Rows) (o : Option ℕ) (n m : ℕ) → IsFirst rs n o → IsFirst rs m o → (v : ℕ) → has rs v ≡ true → n ≤ v → m ≤ v
from_on rs None n m f g v h l = absurd (f v h l)
from_on rs (Some k) n m f g v h l = (let up : k ≤ v = f.2 v h l in let low : m ≤ k = g.0 in omega (arith, up, low))

-- changed rows have the same numbers
pub from_each : (f : ℕ → Row → Row) (rs : Rows) (n : ℕ) → from (each f rs) n ≡ from rs n
from_each f [] n = refl
from_each f ((k, r) ∷ rs) n = ap (λ o. cond (leb n k) (or_newer o k) o) (from_each f rs n)

-- two that say the same are the same
first_same : (rs : Rows) (n : ℕ) (o p : Option ℕ) → IsFirst rs n o → IsFirst rs n p → o ≡ p
first_same rs n None None a b = refl
first_same rs n None (Some m) a b = absurd (a m b.1 b.0)
first_same rs n (Some m) None a b = absurd (b m a.1 a.0)
first_same rs n (Some m) (Some k) a b = (let x : m ≤ k = a.2 k b.1 b.0 in let y : k ≤ m = b.2 m a.1 a.0 in let e : m ≡ k = omega arith in ap Some e)

-- none from n on
none_from : (n : ℕ) (es : List (ℕ × ℕ)) → first_from (map (λ e. e.0) es) n ≡ None → (v y : ℕ) → value_at es v ≡ Some y → n ≤ v → ⊥
none_from n [] h v y g l = absurd (cc)
none_from n (e ∷ es) h v y g l = elim (leb_tells n e.0) [
  | inl t ↦ (let x : Some e.0 ≡ None = rw t.0 at h in absurd (cc))
  | inr t ↦ (let d : e.0 ≡ v → ⊥ = λ (q : e.0 ≡ v). (let z : ⊥ = omega (arith, t.1) in z) in
      none_from n es (rw t.0 at h) v y (rw (at_other v e.0 d) at g) l)
]

record IsFirstIn (n : ℕ) (es : List (ℕ × ℕ)) (k x : ℕ) : Type 0 where
  there : value_at es k ≡ Some x
  low : n ≤ k
  least : (v y : ℕ) → value_at es v ≡ Some y → n ≤ v → k ≤ v

above_value : (n : ℕ) (es : List (ℕ × ℕ)) (k x : ℕ) → AllAbove n es → value_at es k ≡ Some x → n < k
above_value n [] k x a h = absurd (cc)
above_value n (e ∷ es) k x a h = elim (eqb_tells e.0 k) [
  | inl t ↦ omega (arith, t.1, a.0)
  | inr t ↦ above_value n es k x a.1 (rw (at_other k e.0 t.1) at h)
]

first_in : (n : ℕ) (es : List (ℕ × ℕ)) (k : ℕ) → Rises es → first_from (map (λ e. e.0) es) n ≡ Some k → (x : ℕ) × IsFirstIn n es k x
first_in n [] k r h = absurd (cc)
first_in n (e ∷ es) k r h = elim (leb_tells n e.0) [
  | inl t ↦ (let f : Some e.0 ≡ Some k = rw t.0 at h in
      let a0 : e.0 ≡ k = cc in (
        e.1,
        record {
          there = rw (at_same k e.0 a0) refl;
          low = omega (arith, t.1, a0);
          least = λ v y g m. elim (eqb_tells e.0 v) [
            | inl q ↦ omega (arith, q.1, a0)
            | inr q ↦ (let above : e.0 < v = above_value e.0 es v y r.0 (rw (at_other v e.0 q.1) at g) in omega (arith, a0))
          ];
        },
      ))
  | inr t ↦ (let f : (x : ℕ) × IsFirstIn n es k x = first_in n es k r.1 (rw t.0 at h) in
      let d : e.0 ≡ k → ⊥ = λ (q : e.0 ≡ k). (let z : ⊥ = omega (arith, t.1, f.1.low) in z) in (
        f.0,
        record {
          there = rw (at_other k e.0 d) f.1.there;
          low = f.1.low;
          least = λ v y g m. (let c : e.0 ≡ v → ⊥ = λ (q : e.0 ≡ v). (let z : ⊥ = omega (arith, t.1) in z) in f.1.least v y (rw (at_other v e.0 c) at g) m);
        },
      ))
]

-- the key of a live number
key_found : (t : Rows) (keys : List (ℕ × ℕ)) (nodes : Slab Row) (v : ℕ) (o : Option ℕ) → value_at keys v ≡ o → Shows t keys nodes → has t v ≡ true → (k : ℕ) × (value_at keys v ≡ Some k)
key_found t keys nodes v None e s h = let x : false ≡ true = sym (s.none v e) ∙ h in absurd (cc)
key_found t keys nodes v (Some k) e s h = (k, e)

-- the first number from n on is the rows'
pub from_is : (t : Rows) (keys : List (ℕ × ℕ)) (nodes : Slab Row) (n : ℕ) → rows_of nodes keys ≡ t → IsTable keys nodes → first_from (map (λ e. e.0) keys) n ≡ from t n
from_is t keys nodes n e i = by (first_from (map (λ e. e.0) keys) n) refl where
  by : (o : Option ℕ) → first_from (map (λ e. e.0) keys) n ≡ o → o ≡ from t n
  by None h =
      let s : Shows t keys nodes = seen t keys nodes e i in
      first_same t n None (from t n) (λ v l m. (let f : (y : ℕ) × (value_at keys v ≡ Some y) = key_found t keys nodes v (value_at keys v) refl s l in none_from n keys h v f.0 f.1 m)) (is_first t n s.falls)
  by (Some k) h =
      let s : Shows t keys nodes = seen t keys nodes e i in
      let l : (x : ℕ) × IsFirstIn n keys k x = first_in n keys k i.ordered h in
      first_same t n (Some k) (from t n) (l.1.low, s.live k l.0 l.1.there, λ v h m. (let f : (y : ℕ) × (value_at keys v ≡ Some y) = key_found t keys nodes v (value_at keys v) refl s h in l.1.least v f.0 f.1 m)) (is_first t n s.falls)
