-- An array that was made fresh becomes a root, by a cut or by other dimensions.
use Rattle.std.proofs.Common.{◌≡◌, ℕ, true, length, ◌∙◌, ap, ℤ, List, sym, [], refl, ◌<◌, ◌∷◌, arith, false, eqb, inl, inr, subst, ◌≢◌, ◌+◌, ◌≤◌}
use Rattle.std.proofs.lemmas.Bool.{ne_eqb}
use Rattle.std.proofs.lemmas.Bool.Decides.{eqb_tells}
use Rattle.std.proofs.lemmas.List.{length-map}
use Rattle.pdl_shape.specs.Places.{read, element_at}
use Rattle.pdl_shape.specs.Shape.{IsDims, size_of}
use Rattle.pdl_shape.specs.Triple.{Triple}
use Rattle.pdl_world.specs.Cut.{fitted, replaced, reshape, sever}
use Rattle.pdl_world.specs.World.{elements, root, ArrayDef, view, ty_in, dims_in}
use Rattle.pdl_nodes.specs.Alike.{numbers, is_fresh_in}
use Rattle.pdl_nodes.specs.Renewed.{AreRelaid, CanCut, CanRenew, Layouts, renew}
use Rattle.pdl_nodes.specs.RenewLaws.{RelaidCanRenew, RelaidStay, RenewedAreKnown, RenewedAreOutdated, RenewedAreSettled, RenewedAreSized, RenewingKeepsNumbers, RenewingLeavesFamilies, RenewingLeavesOthers, RenewingMakesRoots, RenewingReshapes, RenewingRoots, RenewingSevers}
use Rattle.pdl_nodes.specs.Families.{InOrder}
use Rattle.pdl_pull.specs.Filled.{IsKept}
use Rattle.pdl_push.specs.Settled.{IsSettled}
use Rattle.pdl_pull.specs.Outdated.{outdated}
use Rattle.pdl_nodes.specs.Outcomes.{waiting_of, waiting_size}
use Rattle.pdl_nodes.specs.Row.{Row, root_row}
use Rattle.pdl_nodes.specs.RowLaws.{RowLaws}
use Rattle.pdl_nodes.specs.Rows.{Rows, row_at, has, NumbersBelow}
use Rattle.pdl_nodes.specs.Seen.{IsSeen}
use Rattle.pdl_nodes.specs.Sized.{AreSized}
use Rattle.pdl_nodes.specs.Still.{IsStill, StillFrom}
use Rattle.pdl_nodes.specs.Worlds.{places_seen, latest, world_of, def_from, shape, with_elements, def_of, IsRoot}
use Rattle.pdl_nodes.specs.declared.origin.Origin.{Origin}
use Rattle.pdl_nodes.specs.declared.origin.Origin.TheVariants.{Root, View}
use Rattle.pdl_engine.specs.Severed.{BasesAreFresh, ChangesRows, RowsAreSettled}
use Rattle.pdl_engine.proofs.CutFits.{fitted_all, length_fitted}
use Rattle.pdl_engine.proofs.SeveredReadied.{IsFreshly, only_ready, ready_fresh}

-- an array has as many elements as its dimensions say
pub elements_count : (facts : RowLaws) → (rs : Rows) (v : ℕ) → IsStill rs → has rs v ≡ true → length (elements (world_of rs) v) ≡ size_of (row_at rs v).triple.dims
elements_count facts rs v s h = ap length (facts.seen.elements_are rs v s h) ∙ length-map (places_seen rs v) (element_at (latest rs (row_at rs v).root)) ∙ (facts.seen.is_seen rs s v h).count

-- the first elements of an array, as many as it has, are all
pub first_all : (facts : RowLaws) → (rs : Rows) (v n : ℕ) (ds : List ℕ) (es : List ℤ) → IsStill rs → has rs v ≡ true → n ≡ size_of ds → ds ≡ (row_at rs v).triple.dims → es ≡ fitted n (elements (world_of rs) v) → es ≡ elements (world_of rs) v
first_all facts rs v n ds es s h c d e = e ∙ fitted_all n (elements (world_of rs) v) (elements_count facts rs v s h ∙ sym (c ∙ ap size_of d))

-- a root is a root without elements in the shape, and with its own it is replaced by itself
root_def_from : (facts : RowLaws) → (rs : Rows) (k : ℕ) (r : Row) (o : Origin) → IsStill rs → NumbersBelow k rs → StillFrom rs k r o → r.root ≡ k → def_from r.ty r.triple.dims o ≡ root r.ty r.triple.dims []
root_def_from facts rs k r Root i b s e = refl
root_def_from facts rs k r (View p t y) i b s e = absurd (facts.numbers.not_newest rs k (row_at rs p).root b (facts.seen.is_seen rs i p s.0).root_has (sym e ∙ s.1.root_is))

past_replaced : (f : ℕ → List ℤ) (rs : Rows) (v : ℕ) (new : ArrayDef) → NumbersBelow v rs → replaced (with_elements f (shape rs)) v new ≡ with_elements f (shape rs)
past_replaced f [] v new b = refl
past_replaced f ((k, r) ∷ rs) v new b = by_origin (past_replaced f rs v new b.1) r.origin where
  by_origin : replaced (with_elements f (shape rs)) v new ≡ with_elements f (shape rs) → (o : Origin) → replaced (with_elements f ((k, def_from r.ty r.triple.dims o) ∷ shape rs)) v new ≡ with_elements f ((k, def_from r.ty r.triple.dims o) ∷ shape rs)
  by_origin tail Root = (let n : k ≡ v → ⊥ = λ e. (let low : k < v = b.0 in let z : ⊥ = omega arith in z) in rw (ne_eqb k v n) (ap (λ x. (k, root r.ty r.triple.dims (f k)) ∷ x) tail))
  by_origin tail (View p t y) = (let n : k ≡ v → ⊥ = λ e. (let low : k < v = b.0 in let z : ⊥ = omega arith in z) in rw (ne_eqb k v n) (ap (λ x. (k, view p t) ∷ x) tail))

root_replaced : (facts : RowLaws) → (f : ℕ → List ℤ) (rs : Rows) (v : ℕ) → IsStill rs → IsRoot rs v → replaced (with_elements f (shape rs)) v (root (row_at rs v).ty (row_at rs v).triple.dims (f v)) ≡ with_elements f (shape rs)
root_replaced facts f [] v s i = (let z : false ≡ true = i.0 in absurd (cc))
root_replaced facts f ((k, r) ∷ rs) v s i = elim (eqb_tells k v) [
  | inl t ↦ (let e : r.root ≡ k = rw t.0 at i.1 ∙ sym t.1 in
      let d : def_of r ≡ root r.ty r.triple.dims [] = root_def_from facts rs k r r.origin s.2 s.0 s.1 e in
      let P : ℕ → Type 0 = λ x. NumbersBelow x rs in
      rw (t.0, d, t.0) (ap (λ x. (k, root r.ty r.triple.dims (f x)) ∷ replaced (with_elements f (shape rs)) v (root r.ty r.triple.dims (f v))) (sym t.1)
      ∙ ap (λ x. (k, root r.ty r.triple.dims (f k)) ∷ x) (past_replaced f rs v (root r.ty r.triple.dims (f v)) (subst P t.1 s.0))))
  | inr t ↦ rw t.0 (by_origin (root_replaced facts f rs v s.2 (rw t.0 at i)) r.origin t.0)
] where
  by_origin : replaced (with_elements f (shape rs)) v (root (row_at rs v).ty (row_at rs v).triple.dims (f v)) ≡ with_elements f (shape rs) → (o : Origin) → eqb k v ≡ false
      → replaced (with_elements f ((k, def_from r.ty r.triple.dims o) ∷ shape rs)) v (root (row_at rs v).ty (row_at rs v).triple.dims (f v)) ≡ with_elements f ((k, def_from r.ty r.triple.dims o) ∷ shape rs)
  by_origin tail Root e = rw e (ap (λ x. (k, root r.ty r.triple.dims (f k)) ∷ x) tail)
  by_origin tail (View p t y) e = rw e (ap (λ x. (k, view p t) ∷ x) tail)

-- a root is as it would be cut
pub root_uncut : (facts : RowLaws) → (rs : Rows) (v : ℕ) → InOrder rs → has rs v ≡ true → (row_at rs v).root ≡ v → world_of rs ≡ sever (world_of rs) v
root_uncut facts rs v o h r =
    let i : IsRoot rs v = (h, r) in
    let same_elems : elements (world_of rs) v ≡ latest rs v = facts.seen.elements_are rs v o.still h ∙ ap (λ x. read (places_seen rs v) (latest rs x)) r ∙ facts.seen.root_shows rs v (latest rs v) o.still i (facts.seen.length_latest rs v ∙ (o.family v i).count) in
    sym (root_replaced facts (latest rs) rs v o.still i)
    ∙ ap (λ x. replaced (world_of rs) v (root x (row_at rs v).triple.dims (latest rs v))) (sym (facts.seen.ty_are rs v o.still h))
    ∙ ap (λ x. replaced (world_of rs) v (root (ty_in (world_of rs) v) x (latest rs v))) (sym (facts.seen.dims_are rs v o.still h))
    ∙ ap (λ x. replaced (world_of rs) v (root (ty_in (world_of rs) v) (dims_in (world_of rs) v) x)) (sym same_elems)

-- what the laws of arrays that become roots say
pub record RenewFacts : Type 0 where
  pub roots : RenewingRoots
  pub reshapes : RenewingReshapes
  pub severs : RenewingSevers
  pub relaid : RelaidCanRenew
  pub stay : RelaidStay
  pub outdated : RenewedAreOutdated
  pub others : RenewingLeavesOthers
  pub families : RenewingLeavesFamilies
  pub settled : RenewedAreSettled
  pub known : RenewedAreKnown
  pub sized : RenewedAreSized
  pub numbers : RenewingKeepsNumbers
  pub makes : RenewingMakesRoots

-- an array that was made fresh can be cut
pub can_cut : (facts : RowLaws) → (old mid : Rows) (v : ℕ) (ds : List ℕ) (es : List ℤ) → IsFreshly old mid v → ds ≡ (row_at mid v).triple.dims → es ≡ elements (world_of mid) v → CanCut mid v ds es
can_cut facts old mid v ds es f d e = record {
  order = f.ready.order;
  sized = f.sized;
  live = f.live;
  nothing = f.nothing;
  dims_are = sym d;
  count = ap length e ∙ elements_count facts mid v f.ready.order.still f.live ∙ ap size_of (sym d);
}

-- and get other dimensions
pub can_reshape : RenewFacts → (ls : Layouts) (old mid : Rows) (v : ℕ) (ds : List ℕ) (es : List ℤ) → IsFreshly old mid v → AreRelaid ls old v ds → IsDims ds → es ≡ fitted (size_of ds) (elements (world_of mid) v) → CanRenew ls mid v ds es
can_reshape laws ls old mid v ds es f r d e = laws.relaid ls mid v ds es (record {
  order = f.ready.order;
  sized = f.sized;
  live = f.live;
  nothing = f.nothing;
  limits = d;
  count = ap length e ∙ length_fitted (size_of ds) (elements (world_of mid) v);
  relaid = laws.stay ls old mid v ds f.ready.alike f.ready.world r;
})

renew_numbers : (ls : Layouts) (rs : Rows) (v : ℕ) (ds : List ℕ) (es : List ℤ) → numbers (renew ls rs v ds es) ≡ numbers rs
renew_numbers ls [] v ds es = refl
renew_numbers ls ((k, r) ∷ rs) v ds es = ap (λ ks. k ∷ ks) (renew_numbers ls rs v ds es)

pub was_renewed : (facts : RowLaws) → RenewFacts → (ls : Layouts) (old mid new : Rows) (v : ℕ) (ds : List ℕ) (es : List ℤ) → InOrder old → AreSized old → IsFreshly old mid v → CanRenew ls mid v ds es → new ≡ renew ls mid v ds es → ChangesRows old v new
was_renewed facts laws ls old mid new v ds es o z f c n =
    let P : Rows → Type 0 = λ x. ChangesRows old v x in
    let kept : ChangesRows old v mid = only_ready facts old mid v o z f.ready f.others in
    subst P (sym n) (record {
      order = (laws.roots ls mid v ds es c).0;
      known = laws.known ls mid v ds es c f.ready.known;
      sized = laws.sized ls mid v ds es c;
      numbers_are = renew_numbers ls mid v ds es ∙ f.ready.alike.numbers_are;
      has_is = λ u. laws.numbers ls mid v ds es u ∙ f.ready.alike.has_is u;
      fresh = λ u h d m. (let g : has mid u ≡ true = f.ready.alike.has_is u ∙ h in
          let s : IsSeen mid u = facts.seen.is_seen mid f.ready.order.still u g in
          let n : IsSeen (renew ls mid v ds es) u = facts.seen.is_seen (renew ls mid v ds es) (laws.roots ls mid v ds es c).0.still u (laws.numbers ls mid v ds es u ∙ g) in
          let row : row_at (renew ls mid v ds es) u ≡ row_at mid u = laws.others ls mid v ds es c u g d in
          let base : row_at (renew ls mid v ds es) (row_at mid u).base ≡ row_at mid (row_at mid u).base = laws.others ls mid v ds es c (row_at mid u).base s.base_has
          (λ q. d (sym n.base_root ∙ ap (λ (r : Row). (row_at (renew ls mid v ds es) r.base).root) row ∙ q)) in
          ap (λ (r : Row). (row_at (renew ls mid v ds es) r.base).mark) row ∙ ap (λ (r : Row). r.mark) base ∙ ready_fresh old mid f.ready u h m);
      waits = λ u h d. (let g : has mid u ≡ true = f.ready.alike.has_is u ∙ h in
          let apart : (row_at mid u).root ≢ (row_at mid v).root = λ q. d (sym (f.ready.alike.root_is u) ∙ q ∙ f.ready.alike.root_is v) in
          let s : IsSeen mid u = facts.seen.is_seen mid f.ready.order.still u g in
          let row : row_at (renew ls mid v ds es) u ≡ row_at mid u = laws.families ls mid v ds es c u g apart in
          let above : row_at (renew ls mid v ds es) (row_at mid u).root ≡ row_at mid (row_at mid u).root = laws.families ls mid v ds es c (row_at mid u).root s.root_has (λ q. apart (sym s.root_root ∙ q)) in
          ap (λ (r : Row). (row_at (renew ls mid v ds es) r.root).waiting) row ∙ ap (λ (r : Row). r.waiting) above ∙ kept.waits u h d);
    })

-- the new root can be lent
pub renewed_fresh : RenewingMakesRoots → (ls : Layouts) (old mid new : Rows) (v : ℕ) (ds : List ℕ) (es : List ℤ) → IsFreshly old mid v → new ≡ renew ls mid v ds es → is_fresh_in new v ≡ true
renewed_fresh makes ls old mid new v ds es f n =
    let row : row_at (renew ls mid v ds es) v ≡ root_row v (row_at mid v).ty ds es = makes ls mid v ds es f.live in
    ap (λ rs. is_fresh_in rs v) n ∙ ap (λ (r : Row). (row_at (renew ls mid v ds es) r.base).mark) row ∙ ap (λ (r : Row). r.mark) row

-- and of its family only what is shown over it
pub renewed_bases : RenewFacts → (ls : Layouts) (mid new : Rows) (v : ℕ) (ds : List ℕ) (es : List ℤ) → CanRenew ls mid v ds es → new ≡ renew ls mid v ds es → BasesAreFresh v new
renewed_bases laws ls mid new v ds es c n = subst (λ (x : Rows). BasesAreFresh v x) (sym n) (λ u h g. laws.outdated ls mid v ds es c u (sym (laws.numbers ls mid v ds es u) ∙ h) g)

-- nothing waits in either family
pub renewed_settled : RenewFacts → (ls : Layouts) (old mid new : Rows) (v : ℕ) (ds : List ℕ) (es : List ℤ) → IsFreshly old mid v → CanRenew ls mid v ds es → new ≡ renew ls mid v ds es → RowsAreSettled old v new
renewed_settled laws ls old mid new v ds es f c n =
    let P : Rows → Type 0 = λ x. RowsAreSettled old v x in
    subst P (sym n) (λ u h e. laws.settled ls mid v ds es c u (f.ready.alike.has_is u ∙ h) (f.ready.alike.root_is u ∙ e ∙ sym (f.ready.alike.root_is v)))

pub cut_world : RenewFacts → (old mid new : Rows) (v : ℕ) (ds : List ℕ) (es : List ℤ) → IsFreshly old mid v → CanCut mid v ds es → es ≡ elements (world_of mid) v → new ≡ renew [] mid v ds es → world_of new ≡ sever (world_of old) v
cut_world laws old mid new v ds es f c e n = ap world_of n ∙ (laws.severs mid v ds es c e).1.1 ∙ ap (λ w. sever w v) f.ready.world

pub reshaped_world : RenewFacts → (ls : Layouts) (old mid new : Rows) (v : ℕ) (ds : List ℕ) (es : List ℤ) → IsFreshly old mid v → CanRenew ls mid v ds es → es ≡ fitted (size_of ds) (elements (world_of mid) v) → new ≡ renew ls mid v ds es → world_of new ≡ reshape (world_of old) v ds
reshaped_world laws ls old mid new v ds es f c e n = ap world_of n ∙ (laws.reshapes ls mid v ds es c e).1 ∙ ap (λ w. reshape w v ds) f.ready.world

-- the steps of making it fresh and of copying it
pub all_steps : (old first mid : Rows) (v b c n : ℕ) → IsSettled old v first → IsKept first mid → b ≤ n + (outdated old v + waiting_size old (waiting_of old v)) → c ≤ b + size_of (row_at mid v).triple.dims
    → c ≤ n + (outdated old v + waiting_size old (waiting_of old v) + size_of (row_at old v).triple.dims)
all_steps old first mid v b c n s k x y =
    let d : size_of (row_at mid v).triple.dims ≡ size_of (row_at old v).triple.dims = ap (λ (t : Triple). size_of t.dims) (k.alike.triple_is v ∙ s.ready.alike.triple_is v) in
    omega (arith, d, x, y)

pub reshape_steps : (old : Rows) (v b c n k : ℕ) → b ≤ n + (outdated old v + waiting_size old (waiting_of old v)) → c ≤ b + k → c ≤ n + (outdated old v + waiting_size old (waiting_of old v) + k)
reshape_steps old v b c n k x y = omega (arith, x, y)
