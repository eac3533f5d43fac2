-- What the table's calls do to its rows.
use Rattle.std.proofs.Common.{◌≡◌, ℕ, ◌<◌, true, false, List, ◌∷◌, Option, Some, None, is_some, inl, inr, refl, sym, ◌∙◌, ap, subst, arith}
use Rattle.std.proofs.lemmas.Bool.Decides.{eqb_tells}
use Rattle.std.specs.Option.{IsSome}
use Rattle.slab.specs.Slab.{Slab, get, ContainsKey, with_value}
use Rattle.slab.specs.Slab.{Updates as Changes}
use Rattle.slab.proofs.SlabLemmas.{Updates-with_value}
use Rattle.pdl_registry.specs.Numbered.{IsAbove, IsPut, Rises, value_at}
use Rattle.pdl_nodes.specs.Row.{Row}
use Rattle.pdl_nodes.specs.Rows.{Rows, row_at, has, each, other, without, NumbersBelow, Falls}
use Rattle.pdl_nodes.specs.Table.{node_at, node_or, rows_of, IsTable}
use Rattle.pdl_nodes.proofs.RowFinds.{has_below, each_has, each_at, falls_each, row_stays, has_stays, has_gone, falls_stays}
use Rattle.pdl_nodes.proofs.NumberedLookups.{is_above}
use Rattle.pdl_nodes.proofs.TableSlots.{Shows, shows, shown}
use Rattle.std.proofs.lemmas.Bool.{eq-eqb, ne_eqb}

pub seen : (t : Rows) (keys : List (ℕ × ℕ)) (nodes : Slab Row) → rows_of nodes keys ≡ t → IsTable keys nodes → Shows t keys nodes
seen t keys nodes e i = let P : Rows → Type 0 = λ x. Shows x keys nodes in subst P e (shows keys nodes i.ordered)

found : (t : Rows) (keys : List (ℕ × ℕ)) (nodes : Slab Row) (v : ℕ) (o : Option ℕ) → value_at keys v ≡ o → Shows t keys nodes → has t v ≡ true → IsSome o
found t keys nodes v None e s h = let x : false ≡ true = sym (s.none v e) ∙ h in absurd (cc)
found t keys nodes v (Some k) e s h = refl

pub has_key : (t : Rows) (keys : List (ℕ × ℕ)) (nodes : Slab Row) (v : ℕ) → rows_of nodes keys ≡ t → IsTable keys nodes → has t v ≡ true → IsSome (value_at keys v)
has_key t keys nodes v e i h = found t keys nodes v (value_at keys v) refl (seen t keys nodes e i) h

pub is_there : (t : Rows) (keys : List (ℕ × ℕ)) (nodes : Slab Row) (v : ℕ) → rows_of nodes keys ≡ t → IsTable keys nodes → is_some (value_at keys v) ≡ has t v
is_there t keys nodes v e i = by (value_at keys v) refl where
  by : (o : Option ℕ) → value_at keys v ≡ o → is_some (value_at keys v) ≡ has t v
  by None h = ap is_some h ∙ sym ((seen t keys nodes e i).none v h)
  by (Some k) h = ap is_some h ∙ sym ((seen t keys nodes e i).live v k h)

pub node_is : (t : Rows) (keys : List (ℕ × ℕ)) (nodes : Slab Row) (v k : ℕ) (r : Row) → rows_of nodes keys ≡ t → IsTable keys nodes → value_at keys v ≡ Some k → get nodes k ≡ Some r → r ≡ row_at t v
node_is t keys nodes v k r e i h g = sym ((seen t keys nodes e i).row v k h ∙ ap node_or g)

-- other nodes of the same keys
rewritten : (f : ℕ → Row → Row) (t : Rows) (keys : List (ℕ × ℕ)) (nodes new : Slab Row) → Rises keys → Shows t keys nodes → ((v k : ℕ) → value_at keys v ≡ Some k → node_at new k ≡ f v (node_at nodes k)) → rows_of new keys ≡ each f t
rewritten f t keys nodes new o s h = shown (each f t) keys new o (record {
  falls = falls_each f t s.falls;
  none = λ v e. each_has f t v ∙ s.none v e;
  live = λ v k e. each_has f t v ∙ s.live v k e;
  row = λ v k e. each_at f t v (s.live v k e) ∙ ap (f v) (s.row v k e) ∙ sym (h v k e);
})

-- one node was changed
pub changed_one : (f : ℕ → Row → Row) (t : Rows) (keys : List (ℕ × ℕ)) (nodes : Slab Row) (id key : ℕ) (r q : Row) → rows_of nodes keys ≡ t → IsTable keys nodes → value_at keys id ≡ Some key → get nodes key ≡ Some r → q ≡ f id r → ((v : ℕ) (x : Row) → (v ≡ id → ⊥) → f v x ≡ x) → rows_of (with_value nodes key q) keys ≡ each f t
changed_one f t keys nodes id key r q e i h g c o =
    let u : Changes nodes (with_value nodes key q) key (Some q) = Updates-with_value nodes key q (i.full id key h) in
    rewritten f t keys nodes (with_value nodes key q) i.ordered (seen t keys nodes e i) (λ v k a. elim (eqb_tells v id) [
      | inl y ↦ (let kk : Some key ≡ Some k = sym h ∙ ap (value_at keys) (sym y.1) ∙ a in
          let k2 : key ≡ k = cc in
          ap (node_at (with_value nodes key q)) (sym k2) ∙ ap node_or u.changed ∙ c ∙ ap (λ n. f n r) (sym y.1) ∙ ap (f v) (sym (ap (node_at nodes) (sym k2) ∙ ap node_or g)))
      | inr n ↦ ap node_or (u.others k (λ y. n.1 (i.apart v id key (a ∙ ap Some y) h))) ∙ sym (o v (node_at nodes k) n.1)
    ])

-- the rows of a table fall
pub table_falls : (t : Rows) (keys : List (ℕ × ℕ)) (nodes : Slab Row) → rows_of nodes keys ≡ t → IsTable keys nodes → Falls t
table_falls t keys nodes e i = (seen t keys nodes e i).falls

-- the same rows
pub unchanged : (t : Rows) (keys kept : List (ℕ × ℕ)) (nodes new : Slab Row) → rows_of nodes keys ≡ t → IsTable keys nodes → kept ≡ keys → ((k : ℕ) → get new k ≡ get nodes k) → rows_of new kept ≡ t
unchanged t keys kept nodes new e i c h =
    let s : Shows t keys nodes = seen t keys nodes e i in
    ap (rows_of new) c ∙ shown t keys new i.ordered (record { falls = s.falls; none = s.none; live = s.live; row = λ v k a. s.row v k a ∙ ap node_or (sym (h k)) })

-- the key of a number after the map was changed at one
updated_here : (keys new : List (ℕ × ℕ)) (id v : ℕ) (o : Option ℕ) → IsPut keys new id o → id ≡ v → value_at new v ≡ o
updated_here keys new id v o u e = ap (value_at new) (sym e) ∙ u.here

updated_there : (keys new : List (ℕ × ℕ)) (id v : ℕ) (o : Option ℕ) → IsPut keys new id o → (id ≡ v → ⊥) → value_at new v ≡ value_at keys v
updated_there keys new id v o u n = u.others v (λ e. n (sym e))

-- a number above all is above all that have keys
pub keys_below : (t : Rows) (keys : List (ℕ × ℕ)) (nodes : Slab Row) (id : ℕ) → rows_of nodes keys ≡ t → IsTable keys nodes → NumbersBelow id t → IsAbove id keys
keys_below t keys nodes id e i b = is_above id keys (λ v h. has_below t id v b (sym (is_there t keys nodes v e i) ∙ h))

-- one more node, in a slot that was empty
pub joined : (t : Rows) (keys next : List (ℕ × ℕ)) (nodes new : Slab Row) (id key : ℕ) (r : Row) → rows_of nodes keys ≡ t → IsTable keys nodes → NumbersBelow id t → Rises next → IsPut keys next id (Some key) → get nodes key ≡ None → Changes nodes new key (Some r) → IsTable next new × (rows_of new next ≡ (id, r) ∷ t)
joined t keys next nodes new id key r e i b o u z c =
    let s : Shows t keys nodes = seen t keys nodes e i in
    let taken : (v : ℕ) → value_at keys v ≡ Some key → ⊥ = λ v h. (let x : ContainsKey nodes key = i.full v key h in let P : Option Row → Type 0 = λ y. IsSome y in let w : false ≡ true = subst P z x in absurd (cc)) in
    let apart : (v k : ℕ) → value_at keys v ≡ Some k → key ≡ k → ⊥ = λ v k h y. taken v (h ∙ ap Some (sym y)) in
    let older : (v k : ℕ) → value_at keys v ≡ Some k → id ≡ v → ⊥ = λ v k h y. (let x : v < id = has_below t id v b (s.live v k h) in let w : ⊥ = omega arith in w) in (
      record {
        ordered = o;
        full = λ v k h. elim (eqb_tells id v) [
          | inl y ↦ (let x : Some key ≡ Some k = sym (updated_here keys next id v (Some key) u y.1) ∙ h in
              let kk : key ≡ k = cc in
              let P : Option Row → Type 0 = λ q. IsSome q in
              subst P (sym (ap (get new) (sym kk) ∙ c.changed)) refl)
          | inr n ↦ (let h2 : value_at keys v ≡ Some k = sym (updated_there keys next id v (Some key) u n.1) ∙ h in
              let P : Option Row → Type 0 = λ q. IsSome q in
              subst P (sym (c.others k (λ y. apart v k h2 (sym y)))) (i.full v k h2))
        ];
        apart = λ v w k h g. elim (eqb_tells id v) [
          | inl y ↦ elim (eqb_tells id w) [
            | inl x ↦ sym y.1 ∙ x.1
            | inr x ↦ (let kk : Some key ≡ Some k = sym (updated_here keys next id v (Some key) u y.1) ∙ h in
                absurd (taken w (sym (updated_there keys next id w (Some key) u x.1) ∙ g ∙ sym kk)))
          ]
          | inr n ↦ elim (eqb_tells id w) [
            | inl x ↦ (let kk : Some key ≡ Some k = sym (updated_here keys next id w (Some key) u x.1) ∙ g in
                absurd (taken v (sym (updated_there keys next id v (Some key) u n.1) ∙ h ∙ sym kk)))
            | inr x ↦ i.apart v w k (sym (updated_there keys next id v (Some key) u n.1) ∙ h) (sym (updated_there keys next id w (Some key) u x.1) ∙ g)
          ]
        ];
      },
      shown ((id, r) ∷ t) next new o (record {
        falls = (b, s.falls);
        none = λ v h. elim (eqb_tells id v) [
          | inl y ↦ (let x : Some key ≡ None = sym (updated_here keys next id v (Some key) u y.1) ∙ h in absurd (cc))
          | inr n ↦ rw n.0 (s.none v (sym (updated_there keys next id v (Some key) u n.1) ∙ h))
        ];
        live = λ v k h. elim (eqb_tells id v) [
          | inl y ↦ rw y.0 refl
          | inr n ↦ rw n.0 (s.live v k (sym (updated_there keys next id v (Some key) u n.1) ∙ h))
        ];
        row = λ v k h. elim (eqb_tells id v) [
          | inl y ↦ (let x : Some key ≡ Some k = sym (updated_here keys next id v (Some key) u y.1) ∙ h in
              let kk : key ≡ k = cc in rw y.0 (sym (ap (node_at new) (sym kk) ∙ ap node_or c.changed)))
          | inr n ↦ (let h2 : value_at keys v ≡ Some k = sym (updated_there keys next id v (Some key) u n.1) ∙ h in
              rw n.0 (s.row v k h2 ∙ ap node_or (sym (c.others k (λ y. apart v k h2 (sym y))))))
        ];
      }),
    )

-- one node less
pub gone : (t : Rows) (keys next : List (ℕ × ℕ)) (nodes new : Slab Row) (id key : ℕ) → rows_of nodes keys ≡ t → IsTable keys nodes → Rises next → value_at keys id ≡ Some key → IsPut keys next id None → Changes nodes new key None → rows_of new next ≡ without id t
gone t keys next nodes new id key e i o h u c =
    let s : Shows t keys nodes = seen t keys nodes e i in
    let it : other id id ≡ false = rw (eq-eqb id id refl) refl in
    let not_it : (v : ℕ) → (id ≡ v → ⊥) → other id v ≡ true = λ v n. rw (ne_eqb v id (λ y. n (sym y))) refl in
    let old : (v k : ℕ) → value_at next v ≡ Some k → (id ≡ v → ⊥) × (value_at keys v ≡ Some k) = λ v k g. elim (eqb_tells id v) [
      | inl y ↦ (let x : None ≡ Some k = sym (updated_here keys next id v None u y.1) ∙ g in absurd (cc))
      | inr n ↦ (n.1, sym (updated_there keys next id v None u n.1) ∙ g)
    ] in
    shown (without id t) next new o (record {
      falls = falls_stays (other id) t s.falls;
      none = λ v g. elim (eqb_tells id v) [
        | inl y ↦ has_gone (other id) t v (ap (other id) (sym y.1) ∙ it)
        | inr n ↦ has_stays (other id) t v (not_it v n.1) ∙ s.none v (sym (updated_there keys next id v None u n.1) ∙ g)
      ];
      live = λ v k g. has_stays (other id) t v (not_it v (old v k g).0) ∙ s.live v k (old v k g).1;
      row = λ v k g. row_stays (other id) t v (not_it v (old v k g).0) ∙ s.row v k (old v k g).1
          ∙ ap node_or (sym (c.others k (λ y. (old v k g).0 (i.apart id v key h ((old v k g).1 ∙ ap Some y)))));
    })

-- the slot that a slab with more room fills
pub vacant : (nodes mid : Slab Row) (key at : ℕ) → mid ≡ record nodes { capacity = mid.capacity } → at ≡ mid.vacant_key → key ≡ mid.vacant_key → get mid at ≡ None → get nodes key ≡ None
vacant nodes mid key at e a k h = ap (λ s. get s key) (sym e) ∙ ap (get mid) (k ∙ sym a) ∙ h

pub filled : (nodes mid new : Slab Row) (key at : ℕ) (r : Row) → mid ≡ record nodes { capacity = mid.capacity } → at ≡ mid.vacant_key → key ≡ mid.vacant_key → Changes mid new at (Some r) → Changes nodes new key (Some r)
filled nodes mid new key at r e a k c = record {
  changed = ap (get new) (k ∙ sym a) ∙ c.changed;
  others = λ o n. c.others o (λ y. n (y ∙ a ∙ sym k)) ∙ ap (λ s. get s o) e;
}

-- the same keys and nodes, with more room
pub table_same : (keys kept : List (ℕ × ℕ)) (nodes new : Slab Row) → IsTable keys nodes → Rises kept → kept ≡ keys → ((k : ℕ) → get new k ≡ get nodes k) → IsTable kept new
table_same keys kept nodes new i o c g = record {
  ordered = o;
  full = λ v k h. (let P : Option Row → Type 0 = λ q. IsSome q in subst P (sym (g k)) (i.full v k (ap (λ es. value_at es v) (sym c) ∙ h)));
  apart = λ v u k h e. i.apart v u k (ap (λ es. value_at es v) (sym c) ∙ h) (ap (λ es. value_at es u) (sym c) ∙ e);
}

-- the table without one node
pub gone_table : (keys next : List (ℕ × ℕ)) (nodes new : Slab Row) (id key : ℕ) → IsTable keys nodes → Rises next → value_at keys id ≡ Some key → IsPut keys next id None → Changes nodes new key None → IsTable next new
gone_table keys next nodes new id key i o h u c =
    let old : (v k : ℕ) → value_at next v ≡ Some k → (id ≡ v → ⊥) × (value_at keys v ≡ Some k) = λ v k g. elim (eqb_tells id v) [
      | inl y ↦ (let x : None ≡ Some k = sym (updated_here keys next id v None u y.1) ∙ g in absurd (cc))
      | inr n ↦ (n.1, sym (updated_there keys next id v None u n.1) ∙ g)
    ] in
    record {
      ordered = o;
      full = λ v k g. (let P : Option Row → Type 0 = λ q. IsSome q in
          subst P (sym (c.others k (λ y. (old v k g).0 (i.apart id v key h ((old v k g).1 ∙ ap Some y))))) (i.full v k (old v k g).1));
      apart = λ v w k g e. i.apart v w k (old v k g).1 (old w k e).1;
    }
