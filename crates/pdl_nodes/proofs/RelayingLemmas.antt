-- How the layouts of all views below an array are made anew.
use Rattle.std.proofs.Common.{◌≡◌, ℕ, ℤ, ◌+◌, ◌<◌, ◌≤◌, Bool, true, false, List, [], ◌∷◌, Option, Some, None, IsSomeAnd, inl, inr, Result, Ok, Err, refl, sym, ◌∙◌, ap, subst, arith}
use Rattle.std.specs.Prelude.{IsTrue, is_some}
use Rattle.std.specs.Option.{option_map_or, unwrap_or}
use Rattle.std.proofs.lemmas.Bool.{both_ways, cases_Bool, cases_eq, cases_lt, eq-eqb}
use Rattle.std.proofs.lemmas.Bool.Decides.{eqb_tells}
use Rattle.pdl_shape.specs.Refusals.{Refusal}
use Rattle.pdl_world.specs.BreakLaws.{BelowLaws, FormulasBreak, IsDerivedBelow, IsBroken}
use Rattle.pdl_world.specs.Cut.{breaks, reshape}
use Rattle.pdl_world.specs.declared.Trans.{Trans}
use Rattle.pdl_world.specs.Formula.{child_dims, is_well_formed}
use Rattle.pdl_world.specs.Paths.{path}
use Rattle.pdl_world.specs.Refused.{NoView, refusal_at}
use Rattle.pdl_world.specs.Sound.{IsAllowed, IsLive, IsSound}
use Rattle.pdl_world.specs.Swept.{is_listed, Has}
use Rattle.pdl_world.specs.World.{World, ArrayDef, root, view, Look, dims_in}
use Rattle.pdl_nodes.specs.declared.faults.ViewFault.{ViewFault}
use Rattle.pdl_nodes.specs.declared.faults.ViewFault.TheVariants as f
use Rattle.pdl_nodes.specs.declared.origin.Layout.{Layout}
use Rattle.pdl_nodes.specs.declared.origin.Origin.{Origin}
use Rattle.pdl_nodes.specs.declared.origin.Origin.TheVariants.{Root, View}
use Rattle.pdl_nodes.specs.declared.relaid.RelayFault.TheVariants as relay
use Rattle.pdl_nodes.specs.Below.{AreBelow}
use Rattle.pdl_nodes.specs.Faults.{Names, NamesReason, of_view, reason_of}
use Rattle.pdl_nodes.specs.Relaying.{AreNewDims, IsRelaying}
use Rattle.pdl_nodes.specs.Renewed.{Layouts, AreRelaid, Fits, laid_by, layout_at}
use Rattle.pdl_nodes.specs.RenewLaws.{RelaidStay}
use Rattle.pdl_nodes.specs.Row.{Row, parent_from}
use Rattle.pdl_nodes.specs.Rows.{Rows, row_at, has}
use Rattle.pdl_nodes.specs.Sized.{HasDims}
use Rattle.pdl_nodes.specs.Still.{IsStill}
use Rattle.pdl_nodes.specs.Worlds.{def_from, def_of, latest, shape, with_elements, world_of}
use Rattle.pdl_nodes.proofs.RowFinds.{not_newest}
use Rattle.pdl_nodes.proofs.AlikePaths.{parent_live}
use Rattle.pdl_nodes.proofs.RowsSeen.{has_older, is_seen, row_older}
use Rattle.pdl_nodes.proofs.WorldLemmas.{look_with}
use Rattle.pdl_nodes.proofs.ChildrenFound.{first_listed}
use Rattle.pdl_nodes.proofs.BelowWalks.{IsBelow, IsLeft, left_begins, left_done, left_next, left_passed, of_parent}
use Rattle.pdl_nodes.proofs.SizedViews.{allowed}

-- the record of a row in the world
has_view : (f : ℕ → List ℤ) (rs : Rows) (k p : ℕ) (t : Trans) (y : Layout) → has rs k ≡ true → (row_at rs k).origin ≡ View p t y → Has (with_elements f (shape rs)) k (view p t)
has_view f [] k p t y h e = (let z : false ≡ true = h in absurd (cc))
has_view f ((j, r) ∷ rs) k p t y h e = elim (eqb_tells j k) [
  | inl q ↦ (let d : def_of r ≡ view p t = ap (def_from r.ty r.triple.dims) (rw q.0 at e) in rw d (inl (q.1, refl)))
  | inr q ↦ behind r.origin (has_view f rs k p t y (rw q.0 at h) (rw q.0 at e))
] where
  behind : (o : Origin) → Has (with_elements f (shape rs)) k (view p t) → Has (with_elements f ((j, def_from r.ty r.triple.dims o) ∷ shape rs)) k (view p t)
  behind Root i = inr i
  behind (View q u x) i = inr i

has_root : (f : ℕ → List ℤ) (rs : Rows) (k : ℕ) → has rs k ≡ true → (row_at rs k).origin ≡ Root → Has (with_elements f (shape rs)) k (root (row_at rs k).ty (row_at rs k).triple.dims (f k))
has_root f [] k h e = (let z : false ≡ true = h in absurd (cc))
has_root f ((j, r) ∷ rs) k h e = elim (eqb_tells j k) [
  | inl q ↦ (let d : def_of r ≡ root r.ty r.triple.dims [] = ap (def_from r.ty r.triple.dims) (rw q.0 at e) in rw (d, q.0) (inl (q.1, ap (λ x. root r.ty r.triple.dims (f x)) q.1)))
  | inr q ↦ rw q.0 (behind r.origin (has_root f rs k (rw q.0 at h) (rw q.0 at e)))
] where
  behind : (o : Origin) → Has (with_elements f (shape rs)) k (root (row_at rs k).ty (row_at rs k).triple.dims (f k)) → Has (with_elements f ((j, def_from r.ty r.triple.dims o) ∷ shape rs)) k (root (row_at rs k).ty (row_at rs k).triple.dims (f k))
  behind Root i = inr i
  behind (View q u x) i = inr i

-- the new dimensions of an array below v
pub new_dims_below : BelowLaws → (ls : Layouts) (rs : Rows) (v : ℕ) (ds : List ℕ) (bound p : ℕ) (es : List ℕ) → IsSound (world_of rs) → IsLive (world_of rs) v → IsRelaying ls rs v ds bound → AreNewDims ls v ds p (Some es) → IsDerivedBelow (world_of rs) v ds p es
new_dims_below laws ls rs v ds bound p es s l r (inl a) =
    let P : ℕ → Type 0 = λ x. IsDerivedBelow (world_of rs) v ds x es in
    let Q : List ℕ → Type 0 = λ xs. IsDerivedBelow (world_of rs) v ds v xs in
    subst P (sym a.0) (subst Q (sym a.1) (laws.begins (world_of rs) v ds s l))
new_dims_below laws ls rs v ds bound p es s l r (inr a) = by_layout (layout_at ls p) refl a
  where
    by_layout : (o : Option Layout) → layout_at ls p ≡ o → IsSomeAnd o (λ y. HasDims y es) → IsDerivedBelow (world_of rs) v ds p es
    by_layout None e h = absurd h
    by_layout (Some x) e h = (r.only p x e).1 es h

-- one more layout, over the new dimensions of the parent
pub relaying_more : BelowLaws → (ls new : Layouts) (rs : Rows) (v : ℕ) (ds : List ℕ) (k p : ℕ) (t : Trans) (y x : Layout) (es : List ℕ) → IsSound (world_of rs) → IsRelaying ls rs v ds k
    → has rs k ≡ true → (k ≡ v → ⊥) → (row_at rs k).origin ≡ View p t y → IsDerivedBelow (world_of rs) v ds p es → Fits t es x → layout_at new k ≡ Some x → ((u : ℕ) → (u ≡ k → ⊥) → layout_at new u ≡ layout_at ls u)
    → IsRelaying new rs v ds (k + 1)
relaying_more laws ls new rs v ds k p t y x es s r h n o b f here others =
    let dims : dims_in (reshape (world_of rs) v ds) p ≡ es = ap (λ q. option_map_or (λ (l : Look). l.dims) q []) b.look_is ∙ b.dims_are in
    let fits : Fits t (dims_in (reshape (world_of rs) v ds) p) x = subst (λ xs. Fits t xs x) (sym dims) f in
    record {
      done = λ u q t' y' g l e c. elim (cases_eq u k) [
        | inl same ↦ (let both : View q t' y' ≡ View p t y = sym e ∙ ap (λ z. (row_at rs z).origin) same ∙ o in
            let z : q ≡ p = cc in
            let w : t' ≡ t = cc in
            let P : ℕ → Type 0 = λ i. Fits t (dims_in (reshape (world_of rs) v ds) i) x in
            let Q : Trans → Type 0 = λ i. Fits i (dims_in (reshape (world_of rs) v ds) q) x in
            subst (λ i. IsSomeAnd i (Fits t' (dims_in (reshape (world_of rs) v ds) q))) (sym (ap (layout_at new) same ∙ here)) (subst Q (sym w) (subst P (sym z) fits)))
        | inr ne ↦ (let low : u < k = omega (arith, ne, l) in
            subst (λ i. IsSomeAnd i (Fits t' (dims_in (reshape (world_of rs) v ds) q))) (sym (others u ne)) (r.done u q t' y' g low e c))
      ];
      only = λ u z e. elim (cases_eq u k) [
        | inl same ↦ (let both : Some x ≡ Some z = sym here ∙ ap (layout_at new) (sym same) ∙ e in
            let xz : x ≡ z = cc in (
              λ q. n (sym same ∙ q),
              λ fs d. subst (λ i. IsDerivedBelow (world_of rs) v ds i fs) (sym same)
                  (laws.goes_on (world_of rs) v ds k p t es fs s (has_view (latest rs) rs k p t y h o) n b (allowed t es fs x f.layout (subst (λ i. HasDims i fs) (sym xz) d))),
            ))
        | inr ne ↦ r.only u z (sym (others u ne) ∙ e)
      ];
    }

-- an array whose parent isn't v and has no layout isn't below v, and needs none
parent_not : BelowLaws → (ls : Layouts) (rs : Rows) (v : ℕ) (ds : List ℕ) (bound p : ℕ) (o : Origin) → IsSound (world_of rs) → IsStill rs → IsRelaying ls rs v ds bound → has rs p ≡ true → p < bound → AreNewDims ls v ds p None → (row_at rs p).origin ≡ o → is_listed (path (world_of rs) p) v ≡ true → ⊥
parent_not laws ls rs v ds bound p Root s i r h l n o b =
    let z : false ≡ true = sym (laws.not_root (world_of rs) v p (row_at rs p).ty (row_at rs p).triple.dims (latest rs p) s (has_root (latest rs) rs p h o) n.0) ∙ b in cc
parent_not laws ls rs v ds bound p (View q t y) s i r h l n o b =
    let up : is_listed (path (world_of rs) q) v ≡ true = sym (laws.not_on (world_of rs) v p q t s (has_view (latest rs) rs p q t y h o) n.0) ∙ b in
    let some : IsSomeAnd (layout_at ls p) (Fits t (dims_in (reshape (world_of rs) v ds) q)) = r.done p q t y h l o up in
    subst (λ x. IsSomeAnd x (Fits t (dims_in (reshape (world_of rs) v ds) q))) n.1 some

pub relaying_past : BelowLaws → (ls : Layouts) (rs : Rows) (v : ℕ) (ds : List ℕ) (k : ℕ) → IsSound (world_of rs) → IsStill rs → IsRelaying ls rs v ds k
    → ((p : ℕ) (t : Trans) (y : Layout) → (row_at rs k).origin ≡ View p t y → AreNewDims ls v ds p None) → IsRelaying ls rs v ds (k + 1)
relaying_past laws ls rs v ds k s i r above = record {
  done = λ u q t y g l e c. elim (cases_lt u k) [
    | inl low ↦ r.done u q t y g low e c
    | inr a ↦ (let same : k ≡ u = omega (arith, l) in
        let up = parent_live rs u q i g (ap parent_from e) in
        absurd (parent_not laws ls rs v ds k q (row_at rs q).origin s i r up.0 (omega (arith, up.1, same)) (above q t y (ap (λ z. (row_at rs z).origin) same ∙ e)) refl c))
  ];
  only = r.only;
}

pub relaying_aside : BelowLaws → (ls : Layouts) (rs : Rows) (v : ℕ) (ds : List ℕ) (k p : ℕ) (t : Trans) (y : Layout) → IsSound (world_of rs) → IsStill rs → IsRelaying ls rs v ds k
    → (row_at rs k).origin ≡ View p t y → AreNewDims ls v ds p None → IsRelaying ls rs v ds (k + 1)
relaying_aside laws ls rs v ds k p t y s i r o n = relaying_past laws ls rs v ds k s i r (λ q u x e. (let both : View p t y ≡ View q u x = sym o ∙ e in
    let z : p ≡ q = cc in
    subst (λ j. AreNewDims ls v ds j None) z n))

-- where a formula refuses, something breaks
pub relaying_breaks : BelowLaws → (rs : Rows) (v : ℕ) (ds : List ℕ) (k p : ℕ) (t : Trans) (y : Layout) (es : List ℕ) (e : Refusal) → IsSound (world_of rs) → has rs k ≡ true → (k ≡ v → ⊥) → (row_at rs k).origin ≡ View p t y → IsDerivedBelow (world_of rs) v ds p es → child_dims t es ≡ Err e → breaks (world_of rs) v ds ≡ true
relaying_breaks laws rs v ds k p t y es e s h n o b r = laws.breaks (world_of rs) v ds k p t es e s (has_view (latest rs) rs k p t y h o) n b r

-- what a fault of a layout names
named_by : (o : Option NoView) (d : Result (List ℕ) Refusal) → is_some o ≡ true → NamesReason o (refusal_at [] d) → (e : Refusal) × (d ≡ Err e)
named_by None d s h = cc
named_by (Some x) (Ok ds) s h = (let z : None ≡ Some x = h in absurd (cc))
named_by (Some x) (Err e) s h = (e, refl)

pub view_refused : (f : ViewFault) (d : Result (List ℕ) Refusal) → of_view f ≡ relay.Breaks → Names f (refusal_at [] d) → (e : Refusal) × (d ≡ Err e)
view_refused f.BadDimension d b h = named_by (reason_of f.BadDimension) d refl h
view_refused f.Mismatch d b h = named_by (reason_of f.Mismatch) d refl h
view_refused f.OutOfRange d b h = named_by (reason_of f.OutOfRange) d refl h
view_refused f.TooManyDims d b h = named_by (reason_of f.TooManyDims) d refl h
view_refused f.TooLarge d b h = named_by (reason_of f.TooLarge) d refl h
view_refused f.TooDeep d b h = named_by (reason_of f.TooDeep) d refl h
view_refused f.NoMemory d b h = cc

pub fault_breaks : BelowLaws → (rs : Rows) (v : ℕ) (ds : List ℕ) (k p : ℕ) (t : Trans) (y : Layout) (es : List ℕ) (f : ViewFault) → IsSound (world_of rs) → has rs k ≡ true → (k ≡ v → ⊥) → (row_at rs k).origin ≡ View p t y → IsDerivedBelow (world_of rs) v ds p es → Names f (refusal_at [] (child_dims t es)) → of_view f ≡ relay.Breaks → breaks (world_of rs) v ds ≡ true
fault_breaks laws rs v ds k p t y es f s h n o b names is = (let q = view_refused f (child_dims t es) is names in relaying_breaks laws rs v ds k p t y es q.0 s h n o b q.1)

-- a view's transformation is well formed
pub well_formed_in : (w : World) (k p : ℕ) (t : Trans) → IsSound w → Has w k (view p t) → IsTrue (is_well_formed t)
well_formed_in [] k p t s h = absurd h
well_formed_in ((j, d) ∷ w) k p t s (inl y) = (let P : ArrayDef → Type 0 = λ x. IsAllowed w x in let a : P (view p t) = subst P y.1 s.1 in a.well_formed)
well_formed_in ((j, d) ∷ w) k p t s (inr y) = well_formed_in w k p t s.2 y

pub well_formed_at : (rs : Rows) (k p : ℕ) (t : Trans) (y : Layout) → IsSound (world_of rs) → has rs k ≡ true → (row_at rs k).origin ≡ View p t y → IsTrue (is_well_formed t)
well_formed_at rs k p t y s h e = well_formed_in (world_of rs) k p t s (has_view (latest rs) rs k p t y h e)

-- what has a row is live
pub is_there : (rs : Rows) (v : ℕ) → IsStill rs → has rs v ≡ true → IsLive (world_of rs) v
is_there rs v s h = subst (λ o. IsSomeAnd o (λ (l : Look). Unit {0})) (sym (look_with (latest rs) (shape rs) v ∙ (is_seen rs s v h).looks)) tt

-- once no newer array is left, all are laid anew
ends_by : (ls : Layouts) (o : Option Layout) (k : ℕ) (t : Trans) (y : Layout) (parent : List ℕ) → layout_at ls k ≡ o → IsSomeAnd o (Fits t parent) → Fits t parent (laid_by ls k y)
ends_by ls None k t y parent e s = absurd s
ends_by ls (Some x) k t y parent e s = subst (Fits t parent) (sym (ap (λ o. unwrap_or o y) e)) s

-- ---- what is below v
abbrev pub reaches : Rows → (v : ℕ) → ℕ → Bool
reaches rs v p = is_listed (path (world_of rs) p) v

reaches_below : BelowLaws → (rs : Rows) (v : ℕ) → IsSound (world_of rs) → IsStill rs → has rs v ≡ true → IsBelow rs v (reaches rs v)
reaches_below laws rs v s i h = record {
  top = (laws.begins (world_of rs) v [] s (is_there rs v i h)).reaches;
  older = λ p g l. elim (cases_Bool (reaches rs v p)) [
    | inl y ↦ (let low : v ≤ p = laws.not_older (world_of rs) v p s y in absurd (omega (arith, low, l)))
    | inr n ↦ n
  ];
  follows = λ u g n. by u g n (row_at rs u).origin refl;
} where
  by : (u : ℕ) → has rs u ≡ true → (u ≡ v → ⊥) → (o : Origin) → (row_at rs u).origin ≡ o → reaches rs v u ≡ of_parent (reaches rs v) (parent_from o)
  by u g n Root e = laws.not_root (world_of rs) v u (row_at rs u).ty (row_at rs u).triple.dims (latest rs u) s (has_root (latest rs) rs u g e) n
  by u g n (View p t y) e = laws.not_on (world_of rs) v u p t s (has_view (latest rs) rs u p t y g e) n

-- the layout of a view that was made, or isn't below
some_layout : BelowLaws → (ls : Layouts) (rs : Rows) (v : ℕ) (ds : List ℕ) (bound k p : ℕ) (t : Trans) (y : Layout) → IsSound (world_of rs) → v < bound → IsRelaying ls rs v ds bound → has rs k ≡ true → (bound ≤ k → reaches rs v k ≡ false)
    → (row_at rs k).origin ≡ View p t y → is_listed (path (world_of rs) p) v ≡ true → IsSomeAnd (layout_at ls k) (Fits t (dims_in (reshape (world_of rs) v ds) p))
some_layout laws ls rs v ds bound k p t y s l r h none e b = elim (cases_lt k bound) [
  | inl a ↦ r.done k p t y h a e b
  | inr a ↦ (let on : reaches rs v k ≡ reaches rs v p = laws.not_on (world_of rs) v k p t s (has_view (latest rs) rs k p t y h e) (λ q. absurd (omega (arith, q, l, a))) in
      absurd (both_ways (reaches rs v k) (none a) (on ∙ b)))
]

-- ---- the loop: all below the bound are laid anew, and the views ws are left
pub record IsOn (ls : Layouts) (rs : Rows) (v : ℕ) (ds : List ℕ) (ws : List ℕ) : Type 0 where
  pub bound : ℕ
  pub above : v < bound
  pub left : IsLeft rs (reaches rs v) bound ws
  pub relaying : IsRelaying ls rs v ds bound

pub on_begins : BelowLaws → (rs : Rows) (v : ℕ) (ds us : List ℕ) → IsSound (world_of rs) → IsStill rs → has rs v ≡ true → AreBelow rs v us → IsOn [] rs v ds us
on_begins laws rs v ds us s i h b = record {
  bound = v + 1;
  above = omega arith;
  left = left_begins rs v (reaches rs v) us i (reaches_below laws rs v s i h) b;
  relaying = record {
    done = λ k p t y g l e c. (let low : v ≤ p = laws.not_older (world_of rs) v p s c in
        let less : p < k = (parent_live rs k p i g (ap parent_from e)).1 in
        absurd (omega (arith, low, less, l)));
    only = λ k x e. cc;
  };
}

-- the next view
pub record IsNext (ls : Layouts) (rs : Rows) (v : ℕ) (ds : List ℕ) (k : ℕ) : Type 0 where
  pub live : has rs k ≡ true
  pub newer : v < k
  pub relaying : IsRelaying ls rs v ds k

pub next_on : BelowLaws → (ls : Layouts) (rs : Rows) (v : ℕ) (ds : List ℕ) (k : ℕ) (ws : List ℕ) → IsSound (world_of rs) → IsOn ls rs v ds (k ∷ ws) → IsNext ls rs v ds k
next_on laws ls rs v ds k ws s o =
    let low : o.bound ≤ k = o.left.above k (first_listed k ws) in
    record {
      live = o.left.there k (first_listed k ws);
      newer = omega (arith, o.above, low);
      relaying = record {
        done = λ u p t y h l e b. some_layout laws ls rs v ds o.bound u p t y s o.above o.relaying h (λ a. left_passed rs (reaches rs v) o.bound k ws o.left u h a l) e b;
        only = o.relaying.only;
      };
    }

pub on_goes : (ls new : Layouts) (rs : Rows) (v : ℕ) (ds : List ℕ) (k : ℕ) (ws : List ℕ) → IsOn ls rs v ds (k ∷ ws) → IsRelaying new rs v ds (k + 1) → IsOn new rs v ds ws
on_goes ls new rs v ds k ws o r =
    let low : o.bound ≤ k = o.left.above k (first_listed k ws) in
    record { bound = k + 1; above = omega (arith, o.above, low); left = left_next rs (reaches rs v) o.bound k ws o.left; relaying = r }

pub on_ends : BelowLaws → (ls : Layouts) (rs : Rows) (v : ℕ) (ds : List ℕ) → IsSound (world_of rs) → IsOn ls rs v ds [] → AreRelaid ls rs v ds
on_ends laws ls rs v ds s o = λ k p t y h e b. ends_by ls (layout_at ls k) k t y (dims_in (reshape (world_of rs) v ds) p) refl
    (some_layout laws ls rs v ds o.bound k p t y s o.above o.relaying h (λ a. left_done rs (reaches rs v) o.bound o.left k h a) e b)

-- settling and refreshing change nothing of it
pub relaid_stay : RelaidStay
relaid_stay = λ ls old new v ds a w r k p t y h o b.
    let P : World → Type 0 = λ x. Fits t (dims_in (reshape x v ds) p) (laid_by ls k y) in
    subst P (sym w) (r k p t y (sym (a.has_is k) ∙ h) (sym (a.origin_is k) ∙ o) (ap (λ x. is_listed (path x p) v) (sym w) ∙ b))

-- layouts that fit break nothing
record IsViewRow (rs : Rows) (u p : ℕ) (t : Trans) : Type 0 where
  live : has rs u ≡ true
  layout : Layout
  origin : (row_at rs u).origin ≡ View p t layout

row_of : (f : ℕ → List ℤ) (rs : Rows) → IsStill rs → (u p : ℕ) (t : Trans) → Has (with_elements f (shape rs)) u (view p t) → IsViewRow rs u p t
row_of f [] s u p t h = absurd h
row_of f ((j, r) ∷ rs) s u p t h = by_origin (row_of f rs s.2 u p t) r.origin refl h
  where
    behind : IsViewRow rs u p t → IsViewRow ((j, r) ∷ rs) u p t
    behind y =
        let n : j ≡ u → ⊥ = not_newest rs j u s.0 y.live in
        record { live = has_older j r rs u n ∙ y.live; layout = y.layout; origin = ap (λ (x : Row). x.origin) (row_older j r rs u n) ∙ y.origin }

    by_origin : (Has (with_elements f (shape rs)) u (view p t) → IsViewRow rs u p t) → (o : Origin) → r.origin ≡ o → Has (with_elements f ((j, def_from r.ty r.triple.dims o) ∷ shape rs)) u (view p t) → IsViewRow ((j, r) ∷ rs) u p t
    by_origin g Root e (inl y) = (let z : root r.ty r.triple.dims (f j) ≡ view p t = y.1 in cc)
    by_origin g Root e (inr i) = behind (g i)
    by_origin g (View q x l) e (inl y) =
        let z : view q x ≡ view p t = y.1 in
        let a : q ≡ p = cc in
        let b : x ≡ t = cc in
        let same : View q x l ≡ View p t l = ap (λ i. View i x l) a ∙ ap (λ i. View p i l) b in
        record { live = rw (eq-eqb j u y.0) refl; layout = l; origin = rw (eq-eqb j u y.0) (e ∙ same) }
    by_origin g (View q x l) e (inr i) = behind (g i)

pub relaid_allows : FormulasBreak → (ls : Layouts) (rs : Rows) (v : ℕ) (ds : List ℕ) → IsSound (world_of rs) → IsStill rs → AreRelaid ls rs v ds → breaks (world_of rs) v ds ≡ false
relaid_allows law = λ ls rs v ds s i r. elim (cases_Bool (breaks (world_of rs) v ds)) [
  | inr n ↦ n
  | inl y ↦ (let q = law (world_of rs) v ds s y in
      let b : IsBroken (world_of rs) v ds q.0 = q.1 in
      let row : IsViewRow rs q.0 b.parent b.trans = row_of (latest rs) rs i q.0 b.parent b.trans b.there in
      let fits : Fits b.trans (dims_in (reshape (world_of rs) v ds) b.parent) (laid_by ls q.0 row.layout) = r q.0 b.parent b.trans row.layout row.live row.origin b.below in
      let dims : dims_in (reshape (world_of rs) v ds) b.parent ≡ b.seen.dims = ap (λ o. option_map_or (λ (l : Look). l.dims) o []) b.look_is in
      let z : Ok fits.dims ≡ Err b.refusal = sym (allowed b.trans (dims_in (reshape (world_of rs) v ds) b.parent) fits.dims (laid_by ls q.0 row.layout) fits.layout fits.has_dims) ∙ ap (child_dims b.trans) dims ∙ b.refused in
      cc)
]
