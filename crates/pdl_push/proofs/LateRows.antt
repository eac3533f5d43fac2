-- The changes that a call makes to rows one after the other are the one that it says.
use Rattle.std.proofs.Common.{◌≡◌, ℕ, ℤ, Bool, true, false, eqb, cond, List, Option, Some, None, inl, inr, refl, sym, ◌∙◌, ap, subst}
use Rattle.std.proofs.lemmas.Bool.{eq-eqb, ne_eqb}
use Rattle.std.proofs.lemmas.Bool.Decides.{eqb_tells}
use Rattle.pdl_nodes.specs.Changes.{kept_in, mark_in, wait_in, marked_in}
use Rattle.pdl_nodes.specs.Families.{IsWaiting, InOrder}
use Rattle.pdl_nodes.specs.Row.{Row}
use Rattle.pdl_nodes.specs.RowLaws.{RowLaws}
use Rattle.pdl_nodes.specs.Rows.{Rows, row_at, each}
use Rattle.pdl_nodes.specs.Still.{IsStill}
use Rattle.pdl_nodes.specs.Worlds.{IsRoot}
use Rattle.pdl_push.specs.Late.{settle, await}

-- a row with the same mark and the same that waits is the same
same_marks : (r : Row) (ks : List ℤ) (m n : Bool) (o p : Option ℕ) → m ≡ n → o ≡ p → record r { kept = ks; mark = m; waiting = o } ≡ record r { kept = ks; mark = n; waiting = p }
same_marks r ks m n o p a c = ap (λ x. record r { kept = ks; mark = x; waiting = o }) a ∙ ap (λ x. record r { kept = ks; mark = n; waiting = x }) c

-- to say again of a root what waits there changes no row
waits_as : (rs : Rows) (rt k : ℕ) (o : Option ℕ) → (row_at rs rt).waiting ≡ o → (row_at rs k).waiting ≡ cond (eqb k rt) o (row_at rs k).waiting
waits_as rs rt k o w = elim (eqb_tells k rt) [
  | inl t ↦ rw t.0 (ap (λ x. (row_at rs x).waiting) t.1 ∙ w)
  | inr t ↦ rw t.0 refl
]

-- of a family one is marked, and no other
marked_alone : (rs : Rows) (rt b k : ℕ) → (row_at rs b).root ≡ rt → cond (eqb k b) true (cond (eqb (row_at rs k).root rt) false (row_at rs k).mark) ≡ cond (eqb (row_at rs k).root rt) (cond (eqb k b) true false) (row_at rs k).mark
marked_alone rs rt b k g = elim (eqb_tells k b) [
  | inl t ↦ rw (t.0, eq-eqb (row_at rs k).root rt (ap (λ x. (row_at rs x).root) t.1 ∙ g)) refl
  | inr t ↦ elim (eqb_tells (row_at rs k).root rt) [ inl y ↦ rw (t.0, y.0) refl | inr y ↦ rw (t.0, y.0) refl ]
]

rooted_row : (rs : Rows) (rt k : ℕ) (es : List ℤ) → IsRoot rs rt → (row_at rs rt).waiting ≡ None → mark_in rt rt k (kept_in rt es k (row_at rs k)) ≡ settle rt es rt false k (row_at rs k)
rooted_row rs rt k es i w = same_marks (row_at rs k) _ _ _ _ _ (marked_alone rs rt rt k i.1) (waits_as rs rt k None w)

-- the root was written where nothing waited, and is marked alone
pub rooted_all : (facts : RowLaws) → (rs : Rows) (rt : ℕ) (es : List ℤ) → IsStill rs → IsRoot rs rt → (row_at rs rt).waiting ≡ None → each (mark_in rt rt) (each (kept_in rt es) rs) ≡ each (settle rt es rt false) rs
rooted_all facts rs rt es s i w =
    facts.numbers.each_each (mark_in rt rt) (kept_in rt es) rs
    ∙ facts.numbers.each_live (λ k r. mark_in rt rt k (kept_in rt es k r)) (settle rt es rt false) rs (facts.seen.falls rs s) (λ k l. rooted_row rs rt k es i w)

based_row : (rs : Rows) (rt b k : ℕ) (ks : List ℤ) → (row_at rs b).root ≡ rt → wait_in rt (Some b) k (mark_in rt b k (kept_in b ks k (row_at rs k))) ≡ await rt b ks k (row_at rs k)
based_row rs rt b k ks g = same_marks (row_at rs k) _ _ _ _ _ (marked_alone rs rt b k g) refl

-- the base was written, is marked alone, and waits
pub based_all : (facts : RowLaws) → (rs : Rows) (rt b : ℕ) (ks : List ℤ) → IsStill rs → (row_at rs b).root ≡ rt → each (wait_in rt (Some b)) (each (mark_in rt b) (each (kept_in b ks) rs)) ≡ each (await rt b ks) rs
based_all facts rs rt b ks s g =
    ap (each (wait_in rt (Some b))) (facts.numbers.each_each (mark_in rt b) (kept_in b ks) rs)
    ∙ facts.numbers.each_each (wait_in rt (Some b)) (λ k r. mark_in rt b k (kept_in b ks k r)) rs
    ∙ facts.numbers.each_live (λ k r. wait_in rt (Some b) k (mark_in rt b k (kept_in b ks k r))) (await rt b ks) rs (facts.seen.falls rs s) (λ k l. based_row rs rt b k ks g)

waiting_mark : (rs : Rows) (rt b k : ℕ) (m : Bool) → IsWaiting rs rt b → (row_at rs k).mark ≡ m → (row_at rs k).root ≡ rt → m ≡ eqb k b
waiting_mark rs rt b k true w e g = sym (eq-eqb k b (w.only k e g))
waiting_mark rs rt b k false w e g = sym (ne_eqb k b (λ y. (let c : true ≡ false = sym w.marked ∙ ap (λ x. (row_at rs x).mark) (sym y) ∙ e in cc)))

-- in the family of a root where b waits, b alone is marked
pub only_mark : (rs : Rows) (rt b k : ℕ) → IsWaiting rs rt b → (row_at rs k).root ≡ rt → (row_at rs k).mark ≡ eqb k b
only_mark rs rt b k w g = waiting_mark rs rt b k (row_at rs k).mark w refl g

-- a test, said as a choice
pub as_it_is : (x : Bool) → cond x true false ≡ x
as_it_is true = refl
as_it_is false = refl

again_mark : (rs : Rows) (rt b k : ℕ) → IsWaiting rs rt b → (row_at rs k).mark ≡ cond (eqb (row_at rs k).root rt) (cond (eqb k b) true false) (row_at rs k).mark
again_mark rs rt b k w = elim (eqb_tells (row_at rs k).root rt) [
  | inl g ↦ rw g.0 (only_mark rs rt b k w g.1 ∙ sym (as_it_is (eqb k b)))
  | inr g ↦ rw g.0 refl
]

again_row : (rs : Rows) (rt b k : ℕ) (ks : List ℤ) → (row_at rs rt).waiting ≡ Some b → IsWaiting rs rt b → kept_in b ks k (row_at rs k) ≡ await rt b ks k (row_at rs k)
again_row rs rt b k ks e w = same_marks (row_at rs k) _ _ _ _ _ (again_mark rs rt b k w) (waits_as rs rt k (Some b) e)

again_of : (facts : RowLaws) → (rs : Rows) (rt b : ℕ) (ks : List ℤ) (o : Option ℕ) → (row_at rs rt).waiting ≡ o → InOrder rs → IsRoot rs rt → (row_at rs b).mark ≡ true → (row_at rs b).root ≡ rt → ((row_at rs rt).waiting ≡ None → ⊥) → each (kept_in b ks) rs ≡ each (await rt b ks) rs
again_of facts rs rt b ks None e o i m g n = absurd (n e)
again_of facts rs rt b ks (Some v) e o i m g n =
    let w : IsWaiting rs rt v = (o.family rt i).waits v e in
    let vb : b ≡ v = w.only b m g in
    let w2 : IsWaiting rs rt b = (let P : ℕ → Type 0 = λ x. IsWaiting rs rt x in subst P (sym vb) w) in
    facts.numbers.each_live (kept_in b ks) (await rt b ks) rs (facts.seen.falls rs o.still) (λ k l. again_row rs rt b k ks (e ∙ ap Some (sym vb)) w2)

-- a base that waits is marked alone already, and goes on waiting
pub again_all : (facts : RowLaws) → (rs : Rows) (rt b : ℕ) (ks : List ℤ) → InOrder rs → IsRoot rs rt → (row_at rs b).mark ≡ true → (row_at rs b).root ≡ rt → ((row_at rs rt).waiting ≡ None → ⊥) → each (kept_in b ks) rs ≡ each (await rt b ks) rs
again_all facts rs rt b ks o i m g n = again_of facts rs rt b ks (row_at rs rt).waiting refl o i m g n

settled_mark : (rs : Rows) (rt b k : ℕ) → IsRoot rs rt → IsWaiting rs rt b → cond (eqb k rt) true (row_at rs k).mark ≡ cond (eqb (row_at rs k).root rt) (cond (eqb k b) true (cond true (eqb k rt) false)) (row_at rs k).mark
settled_mark rs rt b k i w = elim (eqb_tells k rt) [
  | inl t ↦ rw (t.0, eq-eqb (row_at rs k).root rt (ap (λ x. (row_at rs x).root) t.1 ∙ i.1)) (elim (eqb_tells k b) [ inl y ↦ rw y.0 refl | inr y ↦ rw y.0 refl ])
  | inr t ↦ elim (eqb_tells (row_at rs k).root rt) [
    | inl g ↦ rw (t.0, g.0, only_mark rs rt b k w g.1) (elim (eqb_tells k b) [ inl y ↦ rw y.0 refl | inr y ↦ rw y.0 refl ])
    | inr g ↦ rw (t.0, g.0) refl
  ]
]

settled_row : (rs : Rows) (rt b k : ℕ) (es : List ℤ) → IsRoot rs rt → IsWaiting rs rt b → wait_in rt None k (marked_in rt k (kept_in rt es k (row_at rs k))) ≡ settle rt es b true k (row_at rs k)
settled_row rs rt b k es i w = same_marks (row_at rs k) _ _ _ _ _ (settled_mark rs rt b k i w) refl

-- the root was written and is marked beside the base that waited, and nothing waits
pub written : (facts : RowLaws) → (rs : Rows) (rt b : ℕ) (es : List ℤ) → IsStill rs → IsRoot rs rt → IsWaiting rs rt b → each (wait_in rt None) (each (marked_in rt) (each (kept_in rt es) rs)) ≡ each (settle rt es b true) rs
written facts rs rt b es s i w =
    ap (each (wait_in rt None)) (facts.numbers.each_each (marked_in rt) (kept_in rt es) rs)
    ∙ facts.numbers.each_each (wait_in rt None) (λ k r. marked_in rt k (kept_in rt es k r)) rs
    ∙ facts.numbers.each_live (λ k r. wait_in rt None k (marked_in rt k (kept_in rt es k r))) (settle rt es b true) rs (facts.seen.falls rs s) (λ k l. settled_row rs rt b k es i w)
