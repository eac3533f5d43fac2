-- Which views are listed as marked, through the table's calls.
use Rattle.std.proofs.Common.{◌≡◌, ◌≢◌, ℕ, ℤ, ◌+◌, ◌<◌, ◌≤◌, Bool, true, false, eqb, cond, ◌&&◌, ◌||◌, not, List, [], ◌∷◌, length, drop, get_or, Option, Some, inl, inr, refl, sym, ◌∙◌, ap, ap₂, subst, nat_eq}
use Rattle.std.proofs.lemmas.Bool.{eqb-true}
use Rattle.std.proofs.lemmas.Bool.Decides.{eqb_tells}
use Rattle.std.proofs.lemmas.List.{drop_all, drop_more, get_or_default}
use Rattle.std.proofs.lemmas.List.Sorted.{IsPermutation-swap_remove, list_any-IsPermutation}
use Rattle.std.proofs.lemmas.Map.Views.{any-filter_same}
use Rattle.std.specs.List.{filter, swap_remove}
use Rattle.std.specs.Option.{IsSome}
use Rattle.slab.specs.Slab.{Slab, get, with_value}
use Rattle.slab.specs.Slab.{Updates as Changes}
use Rattle.slab.proofs.SlabLemmas.{Updates-with_value}
use Rattle.pdl_world.specs.Swept.{is_listed}
use Rattle.pdl_registry.specs.Numbered.{value_at}
use Rattle.pdl_nodes.specs.declared.marked.Marked.{Marked}
use Rattle.pdl_nodes.specs.Row.{Row}
use Rattle.pdl_nodes.specs.Rows.{Rows, row_at, has, each, NumbersBelow, Falls, other, without}
use Rattle.pdl_nodes.specs.Changes.{unmark_in, marked_in, mark_in, fill_in}
use Rattle.pdl_nodes.specs.Marked.{listed, AreListed}
use Rattle.pdl_nodes.specs.Table.{rows_of, IsTable}
use Rattle.pdl_nodes.proofs.TableCalls.{changed_one, node_is}
use Rattle.pdl_nodes.proofs.RowFinds.{each_has, each_at, row_stays, has_stays, has_gone}
use Rattle.pdl_nodes.proofs.ChangesMarks.{each_live, each_id, each_each, marked_here, marked_others}
use Rattle.std.proofs.lemmas.Bool.{eq-eqb, ne_eqb}

-- another node under the same key
pub table_one : (keys : List (ℕ × ℕ)) (nodes : Slab Row) (id key : ℕ) (q : Row) → IsTable keys nodes → value_at keys id ≡ Some key → IsTable keys (with_value nodes key q)
table_one keys nodes id key q i h =
    let u : Changes nodes (with_value nodes key q) key (Some q) = Updates-with_value nodes key q (i.full id key h) in
    record {
      ordered = i.ordered;
      full = λ v k g. (let P : Option Row → Type 0 = λ x. IsSome x in elim (eqb_tells k key) [
        | inl y ↦ subst P (sym (ap (get (with_value nodes key q)) y.1 ∙ u.changed)) refl
        | inr n ↦ subst P (sym (u.others k n.1)) (i.full v k g)
      ]);
      apart = i.apart;
    }

-- no mark is set, and no root is changed
pub record IsCalm (f : ℕ → Row → Row) : Type 0 where
  pub marks : (v : ℕ) (r : Row) → (f v r).mark ≡ true → r.mark ≡ true
  pub roots : (v : ℕ) (r : Row) → (f v r).root ≡ r.root

-- the same change, where a row that is newly marked is listed
listed_more : (f : ℕ → Row → Row) (t : Rows) (n : Marked) → ((v : ℕ) (r : Row) → (f v r).root ≡ r.root)
    → ((v : ℕ) → has t v ≡ true → (f v (row_at t v)).mark ≡ true → ((row_at t v).root ≡ v → ⊥) → has t (row_at t v).root ≡ true → is_listed (listed n (row_at t v).root) v ≡ true)
    → AreListed (each f t) n
listed_more f t n roots a v h k w l =
    let live : has t v ≡ true = sym (each_has f t v) ∙ h in
    let e : row_at (each f t) v ≡ f v (row_at t v) = each_at f t v live in
    let g : (row_at (each f t) v).root ≡ (row_at t v).root = ap (λ (r : Row). r.root) e ∙ roots v (row_at t v) in
    ap (λ r. is_listed (listed n r) v) g
    ∙ a v live (sym (ap (λ (r : Row). r.mark) e) ∙ k) (λ x. w (g ∙ x)) (sym (each_has f t (row_at t v).root) ∙ ap (has (each f t)) (sym g) ∙ l)

pub listed_each : (f : ℕ → Row → Row) (t : Rows) (m : Marked) → IsCalm f → AreListed t m → AreListed (each f t) m
listed_each f t m c a = listed_more f t m c.roots (λ v h k w l. a v h (c.marks v (row_at t v) k) w l)

-- the table after one node was changed
pub one_listed : (f : ℕ → Row → Row) (t : Rows) (keys : List (ℕ × ℕ)) (nodes : Slab Row) (m : Marked) (id key : ℕ) (q : Row) → rows_of nodes keys ≡ t
    → IsTable keys nodes × AreListed (rows_of nodes keys) m → value_at keys id ≡ Some key
    → rows_of (with_value nodes key q) keys ≡ each f t → (AreListed t m → AreListed (each f t) m) → IsTable keys (with_value nodes key q) × AreListed (rows_of (with_value nodes key q) keys) m
one_listed f t keys nodes m id key q e i h g c =
    let P : Rows → Type 0 = λ x. AreListed x m in
    (table_one keys nodes id key q i.0 h, subst P (sym g) (c (subst P e i.1)))

pub one_kept : (f : ℕ → Row → Row) (t : Rows) (keys : List (ℕ × ℕ)) (nodes : Slab Row) (m : Marked) (id key : ℕ) (q : Row) → rows_of nodes keys ≡ t
    → IsTable keys nodes × AreListed (rows_of nodes keys) m → value_at keys id ≡ Some key
    → rows_of (with_value nodes key q) keys ≡ each f t → IsCalm f → IsTable keys (with_value nodes key q) × AreListed (rows_of (with_value nodes key q) keys) m
one_kept f t keys nodes m id key q e i h g c = one_listed f t keys nodes m id key q e i h g (listed_each f t m c)

-- a root that is marked needs no list
pub listed_root : (t : Rows) (m : Marked) (id : ℕ) → (row_at t id).root ≡ id → AreListed t m → AreListed (each (marked_in id) t) m
listed_root t m id g a = listed_more (marked_in id) t m (λ v r. refl) (λ v h k w l. elim (eqb_tells v id) [
  | inl y ↦ absurd (w (ap (λ x. (row_at t x).root) y.1 ∙ g ∙ sym y.1))
  | inr n ↦ (let e : (row_at t v).mark ≡ true = rw n.0 at k in a v h e w l)
])

-- a view that is filled was listed first
pub listed_filled : (t : Rows) (m n : Marked) (b : ℕ) (ks : List ℤ) (f : Bool) (o : Option (List (Option ℕ))) → is_listed (listed n (row_at t b).root) b ≡ true
    → ((r v : ℕ) → is_listed (listed m r) v ≡ true → is_listed (listed n r) v ≡ true) → AreListed t m → AreListed (each (fill_in b ks f o) t) n
listed_filled t m n b ks f o here stay a = listed_more (fill_in b ks f o) t n (λ v r. refl) (λ v h k w l. elim (eqb_tells v b) [
  | inl y ↦ ap (λ x. is_listed (listed n (row_at t x).root) x) y.1 ∙ here
  | inr x ↦ (let e : (row_at t v).mark ≡ true = rw x.0 at k in stay (row_at t v).root v (a v h e w l))
])

pub listed_stays : (t : Rows) (m n : Marked) → ((r v : ℕ) → is_listed (listed m r) v ≡ true → is_listed (listed n r) v ≡ true) → AreListed t m → AreListed t n
listed_stays t m n stay a = λ v h k w l. stay (row_at t v).root v (a v h k w l)

-- ---- taking marks away
-- of one number that no row has, or that is the base
pub absent_one : (rt b : ℕ) (t : Rows) (id : ℕ) → Falls t → has t id ≡ false → t ≡ each (unmark_in (id ∷ []) rt b) t
absent_one rt b t id s h = sym (each_live (unmark_in (id ∷ []) rt b) (λ k r. r) t s (λ k l. other_row (eqb k b) k (row_at t k) (λ y. (let z : false ≡ true = sym h ∙ ap (has t) y ∙ l in absurd (cc)))) ∙ each_id t) where
  other_row : (n : Bool) (k : ℕ) (r : Row) → (id ≡ k → ⊥) → record r { mark = cond (not n && (is_listed (id ∷ []) k && eqb r.root rt)) false r.mark } ≡ r
  other_row true k r n = refl
  other_row false k r n = rw (ne_eqb id k n) refl

pub base_one : (rt b id : ℕ) (t : Rows) → id ≡ b → t ≡ each (unmark_in (id ∷ []) rt b) t
base_one rt b id [] e = refl
base_one rt b id ((k, r) ∷ t) e = ap₂ (λ x y. (k, x) ∷ y) (row k r) (base_one rt b id t e) where
  row : (k : ℕ) (r : Row) → r ≡ unmark_in (id ∷ []) rt b k r
  row k r = elim (eqb_tells k b) [
    | inl y ↦ rw y.0 refl
    | inr n ↦ rw (ne_eqb id k (λ x. n.1 (sym x ∙ e))) (rw n.0 refl)
  ]

pub one_others : (rt b id v : ℕ) (r : Row) → (v ≡ id → ⊥) → unmark_in (id ∷ []) rt b v r ≡ r
one_others rt b id v r n = row (eqb v b) where
  row : (m : Bool) → record r { mark = cond (not m && (is_listed (id ∷ []) v && eqb r.root rt)) false r.mark } ≡ r
  row true = refl
  row false = rw (ne_eqb id v (λ e. n (sym e))) refl

pub one_here : (rt b id : ℕ) (r : Row) → (id ≡ b → ⊥) → record r { mark = cond (eqb r.root rt) false r.mark } ≡ unmark_in (id ∷ []) rt b id r
one_here rt b id r n = rw (ne_eqb id b n, eq-eqb id id refl) refl

twice : (n x h g m : Bool) → cond (n && (h && g)) false (cond (n && ((x || false) && g)) false m) ≡ cond (n && ((x || h) && g)) false m
twice false x h g m = refl
twice true true true true m = refl
twice true true true false m = refl
twice true true false true m = refl
twice true true false false m = refl
twice true false true true m = refl
twice true false true false m = refl
twice true false false true m = refl
twice true false false false m = refl

-- one number of the list more
unmark_more : (rt b x : ℕ) (vs : List ℕ) (t : Rows) → each (unmark_in vs rt b) (each (unmark_in (x ∷ []) rt b) t) ≡ each (unmark_in (x ∷ vs) rt b) t
unmark_more rt b x vs [] = refl
unmark_more rt b x vs ((k, r) ∷ t) =
    let head : unmark_in vs rt b k (unmark_in (x ∷ []) rt b k r) ≡ unmark_in (x ∷ vs) rt b k r = ap (λ m. record r { mark = m }) (twice (not (eqb k b)) (eqb x k) (is_listed vs k) (eqb r.root rt) r.mark) in
    let tail : each (unmark_in vs rt b) (each (unmark_in (x ∷ []) rt b) t) ≡ each (unmark_in (x ∷ vs) rt b) t = unmark_more rt b x vs t in
    cc

-- over a list, one after the other
pub unmark_step : (rt b i d : ℕ) (vs : List ℕ) (t new : Rows) → i < length vs → new ≡ each (unmark_in (get_or vs i d ∷ []) rt b) t → each (unmark_in (drop (i + 1) vs) rt b) new ≡ each (unmark_in (drop i vs) rt b) t
unmark_step rt b i d vs t new l e = ap (each (unmark_in (drop (i + 1) vs) rt b)) e ∙ unmark_more rt b (get_or vs i d) (drop (i + 1) vs) t ∙ ap (λ xs. each (unmark_in xs rt b) t) (sym (drop_more vs i d l))

unmark_none : (rt b : ℕ) (t : Rows) → each (unmark_in [] rt b) t ≡ t
unmark_none rt b [] = refl
unmark_none rt b ((k, r) ∷ t) = ap₂ (λ x y. (k, x) ∷ y) (row (eqb k b)) (unmark_none rt b t) where
  row : (m : Bool) → record r { mark = cond (not m && (false && eqb r.root rt)) false r.mark } ≡ r
  row true = refl
  row false = refl

pub unmark_done : (rt b n : ℕ) (vs : List ℕ) (t : Rows) → length vs ≤ n → t ≡ each (unmark_in (drop n vs) rt b) t
unmark_done rt b n vs t l = sym (ap (λ xs. each (unmark_in xs rt b) t) (drop_all n vs l) ∙ unmark_none rt b t)

alone : (b x h g m : Bool) → (x ≡ false → h ≡ false → g ≡ true → m ≡ false) → cond b true (cond (not b && ((x || false) && g)) false (cond (not b && (h && g)) false m)) ≡ cond b true (cond g false m)
alone true x h g m p = refl
alone false true true true m p = refl
alone false true true false m p = refl
alone false true false true m p = refl
alone false true false false m p = refl
alone false false true true m p = refl
alone false false true false m p = refl
alone false false false true m p = p refl refl refl
alone false false false false m p = refl

-- a marked row of the family that isn't the root is listed
unlisted : (t : Rows) (m : Marked) (rt k : ℕ) (o : Bool) → AreListed t m → has t rt ≡ true → has t k ≡ true → (row_at t k).mark ≡ o
    → eqb rt k ≡ false → is_listed (listed m rt) k ≡ false → eqb (row_at t k).root rt ≡ true → o ≡ false
unlisted t m rt k false a i l e x h g = refl
unlisted t m rt k true a i l e x h g =
    let r : (row_at t k).root ≡ rt = eqb-true (row_at t k).root rt g in
    let n : (row_at t k).root ≡ k → ⊥ = λ y. (let z : false ≡ true = sym x ∙ eq-eqb rt k (sym r ∙ y) in absurd (cc)) in
    let y : is_listed (listed m (row_at t k).root) k ≡ true = a k l e n (ap (has t) r ∙ i) in
    let z : false ≡ true = sym h ∙ ap (λ v. is_listed (listed m v) k) (sym r) ∙ y in
    absurd (cc)

-- the base keeps its mark
unmark_base : (vs : List ℕ) (rt b : ℕ) (r : Row) → unmark_in vs rt b b r ≡ r
unmark_base vs rt b r = rw (eq-eqb b b refl) refl

-- what is listed, and the root, lose their marks, and then the base is marked: so it is marked alone
marked_alone : (t : Rows) (m : Marked) (rt b : ℕ) → Falls t → AreListed t m → has t rt ≡ true
    → each (marked_in b) (each (unmark_in (rt ∷ []) rt b) (each (unmark_in (listed m rt) rt b) t)) ≡ each (mark_in rt b) t
marked_alone t m rt b s a i =
    ap (each (marked_in b)) (each_each (unmark_in (rt ∷ []) rt b) (unmark_in (listed m rt) rt b) t)
    ∙ each_each (marked_in b) (λ k r. unmark_in (rt ∷ []) rt b k (unmark_in (listed m rt) rt b k r)) t
    ∙ each_live (λ k r. marked_in b k (unmark_in (rt ∷ []) rt b k (unmark_in (listed m rt) rt b k r))) (mark_in rt b) t s (λ k l.
    ap (λ x. record (row_at t k) { mark = x }) (alone (eqb k b) (eqb rt k) (is_listed (listed m rt) k) (eqb (row_at t k).root rt) (row_at t k).mark (λ x h g. unlisted t m rt k (row_at t k).mark a i l refl x h g)))

-- the table once what is listed, and the root, have lost their marks
pub record IsUnmarked (t : Rows) (m : Marked) (keys : List (ℕ × ℕ)) (nodes : Slab Row) (rt b : ℕ) : Type 0 where
  pub table : IsTable keys nodes
  pub rows : rows_of nodes keys ≡ each (unmark_in (rt ∷ []) rt b) (each (unmark_in (listed m rt) rt b) t)

pub unmarked : (t : Rows) (m : Marked) (keys : List (ℕ × ℕ)) (nodes mid new : Slab Row) (rt b : ℕ) (vs : List ℕ) → rows_of nodes keys ≡ t → vs ≡ listed m rt
    → rows_of mid keys ≡ each (unmark_in vs rt b) (rows_of nodes keys) → rows_of new keys ≡ each (unmark_in (rt ∷ []) rt b) (rows_of mid keys) → IsTable keys new → IsUnmarked t m keys new rt b
unmarked t m keys nodes mid new rt b vs e v f g i = record {
  table = i;
  rows = g ∙ ap (each (unmark_in (rt ∷ []) rt b)) (f ∙ ap (λ ws. each (unmark_in ws rt b) (rows_of nodes keys)) v ∙ ap (each (unmark_in (listed m rt) rt b)) e);
}

-- the base is as it was
pub unmarked_base : (t : Rows) (m : Marked) (keys : List (ℕ × ℕ)) (nodes : Slab Row) (rt b key : ℕ) (r : Row) → IsUnmarked t m keys nodes rt b → has t b ≡ true → value_at keys b ≡ Some key → get nodes key ≡ Some r → r ≡ row_at t b
unmarked_base t m keys nodes rt b key r u l h g =
    let once : Rows = each (unmark_in (listed m rt) rt b) t in
    node_is (each (unmark_in (rt ∷ []) rt b) once) keys nodes b key r u.rows u.table h g
    ∙ each_at (unmark_in (rt ∷ []) rt b) once b (each_has (unmark_in (listed m rt) rt b) t b ∙ l) ∙ unmark_base (rt ∷ []) rt b (row_at once b)
    ∙ each_at (unmark_in (listed m rt) rt b) t b l ∙ unmark_base (listed m rt) rt b (row_at t b)

-- and once it is marked
pub marked_rows : (t : Rows) (m : Marked) (keys : List (ℕ × ℕ)) (nodes : Slab Row) (rt b key : ℕ) (r q : Row) → IsUnmarked t m keys nodes rt b → Falls t → AreListed t m → has t rt ≡ true → value_at keys b ≡ Some key → get nodes key ≡ Some r
    → q ≡ record r { mark = true } → rows_of (with_value nodes key q) keys ≡ each (mark_in rt b) t
marked_rows t m keys nodes rt b key r q u s a i h g c =
    changed_one (marked_in b) (each (unmark_in (rt ∷ []) rt b) (each (unmark_in (listed m rt) rt b) t)) keys nodes b key r q u.rows u.table h g (c ∙ marked_here b r) (marked_others b)
    ∙ marked_alone t m rt b s a i

-- what alone stays listed does
pub kept_listed : (b : ℕ) (xs ys : List ℕ) → ys ≡ filter (λ v. nat_eq v b) xs → is_listed xs b ≡ true → is_listed ys b ≡ true
kept_listed b xs ys e h = ap (λ vs. is_listed vs b) e ∙ any-filter_same (λ v. nat_eq v b) (λ v. nat_eq v b) true (λ k t. t) xs ∙ h

-- the list after a base was marked alone
pub listed_alone : (t : Rows) (m n : Marked) (rt b : ℕ) → AreListed t m → (row_at t b).root ≡ rt → has t b ≡ true → ((b ≡ rt → ⊥) → (row_at t b).mark ≡ true)
    → (is_listed (listed m rt) b ≡ true → is_listed (listed n rt) b ≡ true) → ((r : ℕ) → (r ≡ rt → ⊥) → listed n r ≡ listed m r) → AreListed (each (mark_in rt b) t) n
listed_alone t m n rt b a g live mark kept others = listed_more (mark_in rt b) t n (λ v r. refl) (λ v h k w l. elim (eqb_tells v b) [
  | inl y ↦ (let gv : (row_at t v).root ≡ rt = ap (λ x. (row_at t x).root) y.1 ∙ g in
      let nb : b ≡ rt → ⊥ = λ e. w (gv ∙ sym e ∙ sym y.1) in
      let mv : (row_at t v).mark ≡ true = ap (λ x. (row_at t x).mark) y.1 ∙ mark nb in
      let old : is_listed (listed m rt) b ≡ true = ap (λ x. is_listed (listed m rt) x) (sym y.1) ∙ ap (λ r. is_listed (listed m r) v) (sym gv) ∙ a v h mv w l in
      ap (λ r. is_listed (listed n r) v) gv ∙ ap (λ x. is_listed (listed n rt) x) y.1 ∙ kept old)
  | inr y ↦ elim (eqb_tells (row_at t v).root rt) [
    | inl x ↦ (let z : false ≡ true = rw (y.0, x.0) at k in absurd (cc))
    | inr x ↦ (let mv : (row_at t v).mark ≡ true = rw (y.0, x.0) at k in ap (λ vs. is_listed vs v) (others (row_at t v).root x.1) ∙ a v h mv w l)
  ]
])

-- ---- one node more, and one less
pub listed_joined : (t : Rows) (m : Marked) (id : ℕ) (r : Row) → NumbersBelow id t → ((v : ℕ) → has t v ≡ true → (row_at t v).root ≡ id → ⊥) → ((r.root ≡ id → ⊥) → r.mark ≡ false)
    → AreListed t m → AreListed ((id, r) ∷ t) m
listed_joined t m id r b none unmarked a v h k w l = elim (eqb_tells id v) [
  | inl y ↦ (let n : r.root ≡ id → ⊥ = (let q : (row_at ((id, r) ∷ t) v).root ≡ v → ⊥ = w in let s : row_at ((id, r) ∷ t) v ≡ r = rw y.0 refl in λ e. q (ap (λ (x : Row). x.root) s ∙ e ∙ y.1)) in
      let z : false ≡ true = sym (unmarked n) ∙ (rw y.0 at k) in absurd (cc))
  | inr y ↦ (let s : row_at ((id, r) ∷ t) v ≡ row_at t v = rw y.0 refl in
      let hv : has t v ≡ true = rw y.0 at h in
      let g : id ≡ (row_at t v).root → ⊥ = λ e. none v hv (sym e) in
      let kv : (row_at t v).mark ≡ true = ap (λ (x : Row). x.mark) (sym s) ∙ k in
      let lv : has ((id, r) ∷ t) (row_at t v).root ≡ true = ap (λ (x : Row). has ((id, r) ∷ t) x.root) (sym s) ∙ l in
      ap (λ (x : Row). is_listed (listed m x.root) v) s ∙ a v hv kv (λ e. w (ap (λ (x : Row). x.root) s ∙ e)) (rw (ne_eqb id (row_at t v).root g) at lv))
]

pub listed_gone : (t : Rows) (m n : Marked) (id : ℕ) → ((r v : ℕ) → (r ≡ id → ⊥) → (v ≡ id → ⊥) → is_listed (listed m r) v ≡ true → is_listed (listed n r) v ≡ true) → AreListed t m
    → AreListed (without id t) n
listed_gone t m n id others a v h k w l =
    let it : other id id ≡ false = rw (eq-eqb id id refl) refl in
    let not_it : (u : ℕ) → (u ≡ id → ⊥) → other id u ≡ true = λ u x. rw (ne_eqb u id x) refl in
    let left : (u : ℕ) → has (without id t) u ≡ true → u ≡ id → ⊥ = λ u g y. (let z : false ≡ true = sym (has_gone (other id) t u (ap (other id) y ∙ it)) ∙ g in absurd (cc)) in
    let s : row_at (without id t) v ≡ row_at t v = row_stays (other id) t v (not_it v (left v h)) in
    let g : (row_at (without id t) v).root ≡ (row_at t v).root = ap (λ (x : Row). x.root) s in
    let nr : (row_at t v).root ≡ id → ⊥ = λ e. left (row_at (without id t) v).root l (g ∙ e) in
    let hv : has t v ≡ true = sym (has_stays (other id) t v (not_it v (left v h))) ∙ h in
    let lv : has t (row_at t v).root ≡ true = sym (has_stays (other id) t (row_at t v).root (not_it (row_at t v).root nr)) ∙ ap (has (without id t)) (sym g) ∙ l in
    ap (λ r. is_listed (listed n r) v) g ∙ others (row_at t v).root v nr (left v h) (a v hv (ap (λ (x : Row). x.mark) (sym s) ∙ k) (λ e. w (g ∙ e)) lv)

-- one was taken out, and the last is in its place
pub pulled : (xs ys : List ℕ) (i x y id v : ℕ) → i < length xs → x ≡ get_or xs i x → y ≡ get_or xs i y → y ≡ id → ys ≡ swap_remove xs i x → v ≢ id → is_listed xs v ≡ true → is_listed ys v ≡ true
pulled xs ys i x y id v l a b e f n h =
    let z : x ≡ id = a ∙ get_or_default xs i x y l ∙ sym b ∙ e in
    let w : is_listed xs v ≡ (eqb x v || is_listed (swap_remove xs i x) v) = list_any-IsPermutation (λ k. eqb k v) xs (x ∷ swap_remove xs i x) (IsPermutation-swap_remove xs i x l a) in
    ap (λ zs. is_listed zs v) f ∙ ap (λ b. b || is_listed (swap_remove xs i x) v) (sym (ne_eqb x v (λ k. n (sym k ∙ z)))) ∙ sym w ∙ h
