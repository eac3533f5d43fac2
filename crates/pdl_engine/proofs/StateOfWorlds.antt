-- What is said of the world is what the rows say.
use Rattle.std.proofs.Common.{◌≡◌, ℕ, ℤ, ◌||◌, eqb, false, List, [], ◌∷◌, refl, ap, cond, ◌∙◌, true, None, inl, inr, Option, subst, Some, sym, is_some, suc, length, map, arith, zero, ◌<◌, get_or, All}
use Rattle.std.specs.Option.{option_map_or}
use Rattle.std.specs.Prelude.{IsSomeAnd}
use Rattle.std.proofs.lemmas.Bool.{ne_eqb, cases_Bool, eq-eqb}
use Rattle.std.proofs.lemmas.Bool.Decides.{eqb_tells}
use Rattle.pdl_world.specs.Cut.{has_views}
use Rattle.pdl_elem.specs.declared.Ty.{Ty}
use Rattle.pdl_world.specs.Paths.{path, parent_in, root_of}
use Rattle.pdl_world.specs.Sound.{IsLive}
use Rattle.pdl_world.specs.Swept.{is_listed}
use Rattle.pdl_world.specs.World.{World, root, view, ArrayDef, look, Look}
use Rattle.pdl_nodes.specs.Alike.{is_fresh_in, numbers}
use Rattle.pdl_nodes.specs.Holds.{Counts, count}
use Rattle.pdl_nodes.specs.Row.{parent_from, parent_of}
use Rattle.pdl_nodes.specs.RowLaws.{RowLaws}
use Rattle.pdl_nodes.specs.Rows.{Rows, has, row_at, NumbersBelow, Falls}
use Rattle.pdl_nodes.specs.Still.{IsStill, StillFrom}
use Rattle.pdl_nodes.specs.Worlds.{with_elements, def_of, shape, latest, world_of, places_seen, def_from}
use Rattle.pdl_nodes.specs.declared.origin.Origin.{Origin}
use Rattle.pdl_nodes.specs.declared.origin.Origin.TheVariants.{Root, View}
use Rattle.pdl_engine.specs.StateOf.{fresh_among, holds_in}

-- elements are no views
pub views_with : (f : ℕ → List ℤ) (w : World) (v : ℕ) → has_views (with_elements f w) v ≡ has_views w v
views_with f [] v = refl
views_with f ((k, root ty ds es) ∷ w) v = views_with f w v
views_with f ((k, view p t) ∷ w) v = ap (λ b. (eqb p v || false) || b) (views_with f w v)

pub path_with : (f : ℕ → List ℤ) (w : World) (v : ℕ) → path (with_elements f w) v ≡ path w v
path_with f [] v = refl
path_with f ((k, root ty ds es) ∷ w) v = ap (λ x. cond (eqb k v) (k ∷ []) x) (path_with f w v)
path_with f ((k, view p t) ∷ w) v =
    let a : path (with_elements f w) p ≡ path w p = path_with f w p in
    let b : path (with_elements f w) v ≡ path w v = path_with f w v in
    ap (λ x. cond (eqb k v) (k ∷ x) (path (with_elements f w) v)) a ∙ ap (λ x. cond (eqb k v) (k ∷ path w p) x) b

pub parent_with : (f : ℕ → List ℤ) (w : World) (v : ℕ) → parent_in (with_elements f w) v ≡ parent_in w v
parent_with f [] v = refl
parent_with f ((k, root ty ds es) ∷ w) v = ap (λ x. cond (eqb k v) None x) (parent_with f w v)
parent_with f ((k, view p t) ∷ w) v = ap (λ x. cond (eqb k v) (Some p) x) (parent_with f w v)

newest_parent : (k : ℕ) (ty : Ty) (ds : List ℕ) (o : Origin) (w : World) (v : ℕ) → parent_in ((k, def_from ty ds o) ∷ w) v ≡ cond (eqb k v) (parent_from o) (parent_in w v)
newest_parent k ty ds Root w v = refl
newest_parent k ty ds (View p t y) w v = refl

-- the parent that the row says
pub parent_is : (rs : Rows) (v : ℕ) → parent_in (shape rs) v ≡ parent_of (row_at rs v)
parent_is [] v = refl
parent_is ((k, r) ∷ rs) v = newest_parent k r.ty r.triple.dims r.origin (shape rs) v ∙ elim (eqb_tells k v) [
  | inl t ↦ rw t.0 refl
  | inr t ↦ rw t.0 (parent_is rs v)
]

no_look : (rs : Rows) (v : ℕ) → has rs v ≡ false → look (shape rs) v ≡ None
no_look [] v h = refl
no_look ((k, r) ∷ rs) v h = elim (eqb_tells k v) [
  | inl t ↦ (let x : true ≡ false = rw t.0 at h in absurd (cc))
  | inr t ↦ look_past k (def_of r) (shape rs) v t.1 ∙ no_look rs v (rw t.0 at h)
] where
  look_past : (k : ℕ) (d : ArrayDef) (w : World) (v : ℕ) → (k ≡ v → ⊥) → look ((k, d) ∷ w) v ≡ look w v
  look_past k (root ty ds es) w v n = rw (ne_eqb k v n) refl
  look_past k (view p t) w v n = rw (ne_eqb k v n) refl

-- an array of the world has a row
pub live_has : (facts : RowLaws) → (rs : Rows) (v : ℕ) → IsLive (world_of rs) v → has rs v ≡ true
live_has facts rs v l = elim (cases_Bool (has rs v)) [
  | inl t ↦ t
  | inr t ↦ (let P : Option Look → Type 0 = λ o. IsSomeAnd o (λ l. Unit {0}) in
      absurd (let x : IsSomeAnd None (λ (l : Look). Unit {0}) = subst P (facts.seen.look_with (latest rs) (shape rs) v ∙ no_look rs v t) l in x))
]

pub look_is : (facts : RowLaws) → (rs : Rows) (v : ℕ) → IsStill rs → has rs v ≡ true → look (world_of rs) v ≡ Some (record { root = (row_at rs v).root; ty = (row_at rs v).ty; dims = (row_at rs v).triple.dims; places = places_seen rs v })
look_is facts rs v s h = facts.seen.look_with (latest rs) (shape rs) v ∙ (facts.seen.is_seen rs s v h).looks

pub has_live : (facts : RowLaws) → (rs : Rows) (v : ℕ) → IsStill rs → has rs v ≡ true → IsLive (world_of rs) v
has_live facts rs v s h = let P : Option Look → Type 0 = λ o. IsSomeAnd o (λ l. Unit {0}) in subst P (sym (look_is facts rs v s h)) tt

pub look_has : (facts : RowLaws) → (rs : Rows) → IsStill rs → (v : ℕ) → is_some (look (world_of rs) v) ≡ has rs v
look_has facts rs s v = elim (cases_Bool (has rs v)) [
  | inl t ↦ ap is_some (look_is facts rs v s t) ∙ sym t
  | inr t ↦ ap is_some (facts.seen.look_with (latest rs) (shape rs) v ∙ no_look rs v t) ∙ sym t
]

pub root_are : (facts : RowLaws) → (rs : Rows) (v : ℕ) → IsStill rs → has rs v ≡ true → root_of (world_of rs) v ≡ (row_at rs v).root
root_are facts rs v s h = ap (λ o. option_map_or (λ (l : Look). l.root) o v) (look_is facts rs v s h)

pub length_world : (rs : Rows) → length (world_of rs) ≡ length rs
length_world rs = from (latest rs) rs where
  one : (f : ℕ → List ℤ) (k : ℕ) (d : ArrayDef) (w : World) → length (with_elements f ((k, d) ∷ w)) ≡ suc (length (with_elements f w))
  one f k (root ty ds es) w = refl
  one f k (view p t) w = refl

  from : (f : ℕ → List ℤ) (rs : Rows) → length (with_elements f (shape rs)) ≡ length rs
  from f [] = refl
  from f ((k, r) ∷ rs) = one f k (def_of r) (shape rs) ∙ ap (λ n. suc n) (from f rs)

fresh_none : (all rs : Rows) (v : ℕ) → has rs v ≡ false → is_listed (fresh_among all rs) v ≡ false
fresh_none all [] v h = refl
fresh_none all ((k, r) ∷ rs) v h = elim (eqb_tells k v) [
  | inl t ↦ (let x : true ≡ false = rw t.0 at h in absurd (cc))
  | inr t ↦ (let i : is_listed (fresh_among all rs) v ≡ false = fresh_none all rs v (rw t.0 at h) in
      elim (cases_Bool (row_at all r.base).mark) [
        | inl m ↦ rw (m, t.0) i
        | inr m ↦ rw m i
      ])
]

fresh_tail : (facts : RowLaws) → (all rs : Rows) (v : ℕ) → Falls rs → has rs v ≡ true → is_listed (fresh_among all rs) v ≡ (row_at all (row_at rs v).base).mark
fresh_tail facts all [] v f h = let x : false ≡ true = h in absurd (cc)
fresh_tail facts all ((k, r) ∷ rs) v f h = elim (eqb_tells k v) [
  | inl t ↦ elim (cases_Bool (row_at all r.base).mark) [
    | inl m ↦ rw (m, t.0, m) refl
    | inr m ↦ rw (m, t.0, m) (fresh_none all rs v (ap (has rs) (sym t.1) ∙ facts.numbers.newest_gone k rs f.0))
  ]
  | inr t ↦ (let i : is_listed (fresh_among all rs) v ≡ (row_at all (row_at rs v).base).mark = fresh_tail facts all rs v f.1 (rw t.0 at h) in
      elim (cases_Bool (row_at all r.base).mark) [
        | inl m ↦ rw (m, t.0) i
        | inr m ↦ rw (m, t.0) i
      ])
]

-- what can be lent is what has a marked base
pub fresh_is : (facts : RowLaws) → (rs : Rows) (v : ℕ) → IsStill rs → has rs v ≡ true → is_listed (fresh_among rs rs) v ≡ is_fresh_in rs v
fresh_is facts rs v s h = fresh_tail facts rs rs v (facts.seen.falls rs s) h

-- only live arrays can be lent
pub fresh_live : (rs : Rows) (v : ℕ) → is_listed (fresh_among rs rs) v ≡ true → has rs v ≡ true
fresh_live rs v f = elim (cases_Bool (has rs v)) [
  | inl t ↦ t
  | inr t ↦ (let x : true ≡ false = sym f ∙ fresh_none rs rs v t in absurd (cc))
]

pub fresh_keeps : (facts : RowLaws) → (old new : Rows) → IsStill old → IsStill new → ((v : ℕ) → has old v ≡ true → has new v ≡ true) → ((v : ℕ) → has old v ≡ true → is_fresh_in old v ≡ true → is_fresh_in new v ≡ true)
    → (v : ℕ) → is_listed (fresh_among old old) v ≡ true → is_listed (fresh_among new new) v ≡ true
fresh_keeps facts old new s t h g v f =
    let l : has old v ≡ true = fresh_live old v f in
    fresh_is facts new v t (h v l) ∙ g v l (sym (fresh_is facts old v s l) ∙ f)

pub holds_numbers : (rs : Rows) (hs : Counts) → holds_in rs hs ≡ map (λ k. (k, count hs k)) (numbers rs)
holds_numbers [] hs = refl
holds_numbers ((k, r) ∷ rs) hs = ap (λ x. (k, count hs k) ∷ x) (holds_numbers rs hs)

pub holds_alike : (old new : Rows) (hs : Counts) → numbers new ≡ numbers old → holds_in new hs ≡ holds_in old hs
holds_alike old new hs e = holds_numbers new hs ∙ ap (map (λ k. (k, count hs k))) e ∙ sym (holds_numbers old hs)

pub holds_same : (rs : Rows) (hs gs : Counts) (n : ℕ) → NumbersBelow n rs → ((v : ℕ) → (v ≡ n → ⊥) → count gs v ≡ count hs v) → holds_in rs gs ≡ holds_in rs hs
holds_same [] hs gs n b h = refl
holds_same ((k, r) ∷ rs) hs gs n b h =
    let head : count gs k ≡ count hs k = h k (λ e. (let z : ⊥ = omega (arith, b.0, e) in z)) in
    let tail : holds_in rs gs ≡ holds_in rs hs = holds_same rs hs gs n b.1 h in
    cc

-- the arrays of a path are live
pub path_live : (rs : Rows) → IsStill rs → (v : ℕ) → has rs v ≡ true → All (λ u. has rs u ≡ true) (path (shape rs) v)
path_live [] s v h = let x : false ≡ true = h in absurd (cc)
path_live ((k, r) ∷ rs) s v h = elim (eqb_tells k v) [
  | inl t ↦ (let P : ℕ → Type 0 = λ x. All (λ u. has ((k, r) ∷ rs) u ≡ true) (path (shape ((k, r) ∷ rs)) x) in
      subst P t.1 (at_head (λ p g. path_live rs s.2 p g) r.origin refl s.1))
  | inr t ↦ (let P : List ℕ → Type 0 = λ xs. All (λ u. has ((k, r) ∷ rs) u ≡ true) xs in
      subst P (sym (past k (def_of r) (shape rs) v t.1)) (more (path (shape rs) v) (path_live rs s.2 v (rw t.0 at h))))
] where
  past : (k : ℕ) (d : ArrayDef) (w : World) (v : ℕ) → (k ≡ v → ⊥) → path ((k, d) ∷ w) v ≡ path w v
  past k (root ty ds es) w v n = rw (ne_eqb k v n) refl
  past k (view p t) w v n = rw (ne_eqb k v n) refl

  more : (xs : List ℕ) → All (λ u. has rs u ≡ true) xs → All (λ u. has ((k, r) ∷ rs) u ≡ true) xs
  more xs a = λ i d l. newer (get_or xs i d) (a i d l) where
    newer : (u : ℕ) → has rs u ≡ true → has ((k, r) ∷ rs) u ≡ true
    newer u g = elim (eqb_tells k u) [ inl y ↦ rw y.0 refl | inr y ↦ rw y.0 g ]

  head_first : (xs : List ℕ) → All (λ u. has ((k, r) ∷ rs) u ≡ true) xs → All (λ u. has ((k, r) ∷ rs) u ≡ true) (k ∷ xs)
  head_first xs a = λ i d l. at i d l where
    at : (i d : ℕ) → i < length (k ∷ xs) → has ((k, r) ∷ rs) (get_or (k ∷ xs) i d) ≡ true
    at zero d l = rw (eq-eqb k k refl) refl
    at (suc i) d l = a i d (omega arith)

  at_head : ((p : ℕ) → has rs p ≡ true → All (λ u. has rs u ≡ true) (path (shape rs) p)) → (o : Origin) → r.origin ≡ o → StillFrom rs k r o → All (λ u. has ((k, r) ∷ rs) u ≡ true) (path (shape ((k, r) ∷ rs)) k)
  at_head tail Root e f =
      let P : List ℕ → Type 0 = λ xs. All (λ u. has ((k, r) ∷ rs) u ≡ true) xs in
      let q : path (shape ((k, r) ∷ rs)) k ≡ k ∷ [] = ap (λ x. path ((k, def_from r.ty r.triple.dims x) ∷ shape rs) k) e ∙ rw (eq-eqb k k refl) refl in
      subst P (sym q) (head_first [] (λ i d l. (let z : ⊥ = omega arith in absurd z)))
  at_head tail (View p t y) e f =
      let P : List ℕ → Type 0 = λ xs. All (λ u. has ((k, r) ∷ rs) u ≡ true) xs in
      let q : path (shape ((k, r) ∷ rs)) k ≡ k ∷ path (shape rs) p = ap (λ x. path ((k, def_from r.ty r.triple.dims x) ∷ shape rs) k) e ∙ rw (eq-eqb k k refl) refl in
      subst P (sym q) (head_first (path (shape rs) p) (more (path (shape rs) p) (tail p f.0)))
