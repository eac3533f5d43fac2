-- Which views are listed as marked, where rows come to other roots.
use Rattle.std.proofs.Common.{◌≡◌, ℕ, ℤ, true, false, List, inl, inr, refl, sym, ◌∙◌, ap}
use Rattle.std.proofs.lemmas.Bool.{both_ways, cases_eq}
use Rattle.std.proofs.lemmas.Bool.Decides.{eqb_tells}
use Rattle.pdl_world.specs.Swept.{is_listed}
use Rattle.pdl_nodes.specs.declared.marked.Marked.{Marked}
use Rattle.pdl_nodes.specs.declared.origin.Origin.{Origin}
use Rattle.pdl_nodes.specs.declared.origin.Origin.TheVariants.{Root, View}
use Rattle.pdl_nodes.specs.Renewed.{Layouts, renewed, renewed_in, rooted_in}
use Rattle.pdl_nodes.specs.Marked.{AreListed, listed}
use Rattle.pdl_nodes.specs.Row.{Row}
use Rattle.pdl_nodes.specs.Rows.{Rows, row_at, has, each}
use Rattle.pdl_nodes.proofs.RowFinds.{each_has, each_at}

-- what is still marked, and is no root, was so under the same root
listed_moved : (f : ℕ → Row → Row) (t : Rows) (m : Marked) → ((v : ℕ) → has t v ≡ true → (f v (row_at t v)).mark ≡ true → ((f v (row_at t v)).root ≡ v → ⊥) → ((f v (row_at t v)).root ≡ (row_at t v).root) × ((row_at t v).mark ≡ true)) → AreListed t m → AreListed (each f t) m
listed_moved f t m p a = λ v h k w l.
    let live : has t v ≡ true = sym (each_has f t v) ∙ h in
    let e : row_at (each f t) v ≡ f v (row_at t v) = each_at f t v live in
    let q : ((f v (row_at t v)).root ≡ (row_at t v).root) × ((row_at t v).mark ≡ true) = p v live (sym (ap (λ (r : Row). r.mark) e) ∙ k) (λ x. w (ap (λ (r : Row). r.root) e ∙ x)) in
    let g : (row_at (each f t) v).root ≡ (row_at t v).root = ap (λ (r : Row). r.root) e ∙ q.0 in
    ap (λ r. is_listed (listed m r) v) g ∙ a v live q.1 (λ x. w (g ∙ x)) (sym (each_has f t (row_at t v).root) ∙ ap (has (each f t)) (sym g) ∙ l)

-- a new root
pub listed_rooted : (id : ℕ) (ds : List ℕ) (es : List ℤ) (t : Rows) (m : Marked) → AreListed t m → AreListed (each (rooted_in id ds es) t) m
listed_rooted id ds es t m a = listed_moved (rooted_in id ds es) t m (λ v h k w. elim (eqb_tells v id) [
  | inl y ↦ absurd (w (rw y.0 (sym y.1)))
  | inr n ↦ rw n.0 (refl, (let e : (row_at t v).mark ≡ true = rw n.0 at k in e))
]) a

-- a view that is derived anew isn't marked
renewed_is : (ls : Layouts) (v : ℕ) (t : Rows) (k : ℕ) (r : Row) (o : Origin) → (renewed ls t v k r o).mark ≡ true → renewed ls t v k r o ≡ r
renewed_is ls v t k r Root m = refl
renewed_is ls v t k r (View p u y) m = elim (eqb_tells (row_at t p).root v) [
  | inl y ↦ (let e : false ≡ true = rw y.0 at m in absurd (cc))
  | inr n ↦ rw n.0 refl
]

renewed_marked : (ls : Layouts) (v : ℕ) (rs : Rows) (u k : ℕ) (r : Row) → (renewed_in ls v rs u k r).mark ≡ true → renewed_in ls v rs u k r ≡ r
renewed_marked ls v rs u k r m = elim (eqb_tells k u) [
  | inl y ↦ rw y.0 (renewed_is ls v rs u r r.origin (rw y.0 at m))
  | inr n ↦ rw n.0 refl
]

pub listed_renewed : (ls : Layouts) (w : ℕ) (rs : Rows) (u : ℕ) (t : Rows) (m : Marked) → AreListed t m → AreListed (each (renewed_in ls w rs u) t) m
listed_renewed ls w rs u t m a = listed_moved (renewed_in ls w rs u) t m (λ v h k n.
    let same : renewed_in ls w rs u v (row_at t v) ≡ row_at t v = renewed_marked ls w rs u v (row_at t v) k in
    (ap (λ (r : Row). r.root) same, ap (λ (r : Row). r.mark) (sym same) ∙ k)) a

-- nothing is listed of a root of whose family no view is marked
pub listed_unlisted : (t rs : Rows) (id : ℕ) (m n : Marked) → rs ≡ t → ((u : ℕ) → has t u ≡ true → (row_at t u).root ≡ id → (u ≡ id → ⊥) → (row_at t u).mark ≡ false) → ((r : ℕ) → (r ≡ id → ⊥) → listed n r ≡ listed m r) → AreListed rs m → AreListed rs n
listed_unlisted t rs id m n same none others a = λ v h k w l. elim (cases_eq (row_at rs v).root id) [
  | inl e ↦ (let q : (row_at t v).mark ≡ false = none v (ap (λ x. has x v) (sym same) ∙ h) (ap (λ x. (row_at x v).root) (sym same) ∙ e) (λ y. w (e ∙ sym y)) in
      absurd (both_ways (row_at t v).mark q (ap (λ x. (row_at x v).mark) (sym same) ∙ k)))
  | inr o ↦ ap (λ xs. is_listed xs v) (others (row_at rs v).root o) ∙ a v h k w l
]
