-- What letting go leaves.
use Rattle.std.proofs.Common.{◌≡◌, ℕ, Bool, true, false, cond, List, [], ◌∷◌, Option, Some, None, is_some, inl, inr, refl, sym, ◌∙◌, ap, subst}
use Rattle.std.specs.List.{filter}
use Rattle.std.proofs.Math.Path.{fun_ext}
use Rattle.std.proofs.lemmas.Bool.{cases_Bool}
use Rattle.std.proofs.lemmas.Bool.Decides.{eqb_tells}
use Rattle.pdl_world.specs.Swept.{is_listed, sweep}
use Rattle.pdl_nodes.specs.declared.origin.Origin.{Origin}
use Rattle.pdl_nodes.specs.declared.origin.Origin.TheVariants.{Root, View}
use Rattle.pdl_nodes.specs.Alike.{numbers}
use Rattle.pdl_nodes.specs.Families.{IsWaiting, InOrder, Means}
use Rattle.pdl_nodes.specs.Going.{IsLeft, LeavesWaiting}
use Rattle.pdl_nodes.specs.Known.{IsKnown, AreKnown}
use Rattle.pdl_nodes.specs.Outcomes.{IsReady, waiting_of}
use Rattle.pdl_nodes.specs.Released.{KeepsWaiting}
use Rattle.pdl_nodes.specs.Row.{Row, parent_from}
use Rattle.pdl_nodes.specs.Rows.{Rows, row_at, has, reached, HasParent, HasParents}
use Rattle.pdl_nodes.specs.Sized.{IsLayout, LaidFrom, AreSized}
use Rattle.pdl_nodes.specs.Staying.{staying, stays_from, KeepsParents}
use Rattle.pdl_nodes.specs.Still.{StillFrom, IsStill}
use Rattle.pdl_nodes.specs.Worlds.{IsRoot, shape, def_from, places_seen, latest, world_of, with_elements}
use Rattle.pdl_nodes.proofs.AlikeLemmas.{root_live}
use Rattle.pdl_nodes.proofs.RowFinds.{row_stays, has_stays}
use Rattle.pdl_nodes.proofs.HoldsReached.{staying_live}
use Rattle.pdl_nodes.proofs.RowsSeen.{is_seen}
use Rattle.pdl_nodes.proofs.StayingLemmas.{stays, with_stays, places_stay, closed_tail}
use Rattle.pdl_nodes.proofs.WorldsSwept.{order_stays, world_stays, sweep_is, sweep_with}
use Rattle.std.proofs.lemmas.Bool.{eq-eqb}

-- each parent is there
parent_from_is : (rs : Rows) (k : ℕ) (r : Row) (o : Origin) → StillFrom rs k r o → HasParent rs (parent_from o)
parent_from_is rs k r Root s = tt
parent_from_is rs k r (View p t y) s = s.0

pub still_parents : (rs : Rows) → IsStill rs → HasParents rs
still_parents [] s = tt
still_parents ((k, r) ∷ rs) s = (parent_from_is rs k r r.origin s.1, still_parents rs s.2)

-- a sweep of the world keeps what is reached
pub sweep_stays : (rs : Rows) (held : List ℕ) → IsStill rs → sweep (world_of rs) held ≡ staying (reached rs (is_listed held)) (world_of rs)
sweep_stays rs held s =
    sweep_with (latest rs) (shape rs) held
    ∙ ap (with_elements (latest rs)) (sweep_is rs held s)
    ∙ with_stays (reached rs (is_listed held)) (latest rs) (shape rs)

-- the table once what goes was written back, and before it goes: the notes h tell what the test t tells
pub record IsLeaving (old mid new : Rows) (t h : ℕ → Bool) : Type 0 where
  pub kept : IsReady old mid
  pub sized : AreSized old → AreSized mid
  pub notes : (v : ℕ) → has old v ≡ true → h v ≡ t v
  pub closed : KeepsParents t (shape old)
  pub waits : KeepsWaiting h mid
  pub leaves : LeavesWaiting h old mid
  pub left : new ≡ staying h mid

pub record IsGone (old mid new : Rows) (t : ℕ → Bool) : Type 0 where
  pub stays_so : new ≡ staying t mid
  pub closed : KeepsParents t (shape mid)
  pub waits : KeepsWaiting t mid

pub is_gone : (old mid new : Rows) (t h : ℕ → Bool) → IsLeaving old mid new t h → IsGone old mid new t
is_gone old mid new t h l =
    let live : (v : ℕ) → has mid v ≡ true → h v ≡ t v = λ v g. l.notes v (sym (l.kept.alike.has_is v) ∙ g) in
    record {
      stays_so = l.left ∙ staying_live h t mid live;
      closed = subst (KeepsParents t) (sym l.kept.alike.shape_is) l.closed;
      waits = λ r v i g w. (let a : IsWaiting mid r v = (l.kept.order.family r i).waits v w in
          sym (live v a.live) ∙ l.waits r v i (live r i.0 ∙ g) w);
    }

pub left_means : (old mid new : Rows) (t h : ℕ → Bool) (held : List ℕ) (u : ℕ → Bool) → IsStill old → IsLeaving old mid new t h → t ≡ reached old u → ((v : ℕ) → is_listed held v ≡ u v) → Means new (sweep (world_of old) held)
left_means old mid new t h held u s l e f =
    let g : IsGone old mid new t = is_gone old mid new t h l in
    let all : is_listed held ≡ u = fun_ext f in (
      subst InOrder (sym g.stays_so) (order_stays t mid g.closed g.waits l.kept.order),
      ap world_of g.stays_so ∙ world_stays t mid g.closed g.waits l.kept.order ∙ ap (staying t) l.kept.world
          ∙ ap (λ x. staying x (world_of old)) (e ∙ ap (reached old) (sym all))
          ∙ sym (sweep_stays old held s),
    )

-- what is known of what stays
known_stays : (t : ℕ → Bool) (rs : Rows) → KeepsParents t (shape rs) → AreKnown rs → AreKnown (staying t rs)
known_stays t rs c a = λ v h.
    let y : t v ≡ true = stays t rs v h in
    let row : row_at (staying t rs) v ≡ row_at rs v = row_stays t rs v y in
    let ps : places_seen (staying t rs) v ≡ places_seen rs v = places_stay t rs v c y in
    let k : IsKnown rs v = a v (sym (has_stays t rs v y) ∙ h) in
    record {
      places = λ xs e. k.places xs (ap (λ x. x.places) (sym row) ∙ e) ∙ sym ps;
      repeats = λ xs e. ap (λ x. x.repeats) row ∙ k.repeats xs (ap (λ x. x.places) (sym row) ∙ e);
      found = λ m n. ap (λ x. is_some x.places) row ∙ k.found (ap (λ x. x.mark) (sym row) ∙ m) (λ e. n (ap (λ x. x.root) row ∙ e));
      unlisted = λ xs e r. k.unlisted xs (ap (λ x. x.places) (sym row) ∙ e) (ap (λ x. x.root) (sym row) ∙ r);
      bare = λ n. ap (λ x. x.kept) row ∙ k.bare (λ e. n (ap (λ x. x.base) row ∙ e));
    }

-- and of its sizes
laid_stays : (t : ℕ → Bool) (k : ℕ) (r : Row) (rs : Rows) (o : Origin) → t k ≡ true → KeepsParents t ((k, def_from r.ty r.triple.dims o) ∷ shape rs) → LaidFrom rs o → LaidFrom (staying t rs) o
laid_stays t k r rs Root y c l = l
laid_stays t k r rs (View p u z) y c l = (let P : Row → Type 0 = λ x. IsLayout u x.triple.dims z in subst P (sym (row_stays t rs p (c.0 y))) l)

sized_stays : (t : ℕ → Bool) (rs : Rows) → KeepsParents t (shape rs) → AreSized rs → AreSized (staying t rs)
sized_stays t [] c z = tt
sized_stays t ((k, r) ∷ rs) c z =
    let tail : AreSized (staying t rs) = sized_stays t rs (closed_tail t k r r.origin (shape rs) c) z.1 in
    elim (cases_Bool (t k)) [
      | inl y ↦ rw y (record { within = z.0.within; laid = laid_stays t k r rs r.origin y c z.0.laid }, tail)
      | inr n ↦ rw n tail
    ]

-- the numbers that stay
numbers_stay : (t : ℕ → Bool) (rs : Rows) → numbers (staying t rs) ≡ filter t (numbers rs)
numbers_stay t [] = refl
numbers_stay t ((k, r) ∷ rs) = elim (cases_Bool (t k)) [
  | inl y ↦ rw y (ap (λ ks. k ∷ ks) (numbers_stay t rs))
  | inr n ↦ rw n (numbers_stay t rs)
]

-- a test that agrees on the rows there are
filter_agree : (t u : ℕ → Bool) (rs : Rows) → ((v : ℕ) → has rs v ≡ true → t v ≡ u v) → filter t (numbers rs) ≡ filter u (numbers rs)
filter_agree t u [] f = refl
filter_agree t u ((k, r) ∷ rs) f =
    let here : t k ≡ u k = f k (rw (eq-eqb k k refl) refl) in
    let rest : filter t (numbers rs) ≡ filter u (numbers rs) = filter_agree t u rs (λ v h. f v (elim (eqb_tells k v) [ inl y ↦ rw y.0 refl | inr y ↦ rw y.0 h ])) in
    ap (λ b. cond b (k ∷ filter t (numbers rs)) (filter t (numbers rs))) here ∙ ap (λ ks. cond (u k) (k ∷ ks) ks) rest

pub has_staying : (t : ℕ → Bool) (rs : Rows) (v : ℕ) → has rs v ≡ true → t v ≡ has (staying t rs) v
has_staying t rs v h = elim (cases_Bool (t v)) [
  | inl y ↦ y ∙ sym (has_stays t rs v y ∙ h)
  | inr n ↦ n ∙ sym (elim (cases_Bool (has (staying t rs) v)) [
    | inl g ↦ (let z : true ≡ false = sym (stays t rs v g) ∙ n in absurd (cc))
    | inr g ↦ g
  ])
]

left_numbers : (t : ℕ → Bool) (rs : Rows) → numbers (staying t rs) ≡ filter (has (staying t rs)) (numbers rs)
left_numbers t rs = numbers_stay t rs ∙ filter_agree t (has (staying t rs)) rs (has_staying t rs)

-- what waits of what stays
stays_agree : (t u : ℕ → Bool) (o : Option ℕ) → ((v : ℕ) → o ≡ Some v → t v ≡ u v) → stays_from t o ≡ stays_from u o
stays_agree t u None f = refl
stays_agree t u (Some v) f = ap (λ b. cond b (Some v) None) (f v refl)

left_waits : (old mid : Rows) (t h : ℕ → Bool) → InOrder old → IsReady old mid → ((v : ℕ) → has old v ≡ true → h v ≡ t v) → LeavesWaiting h old mid → IsStill (staying t mid)
    → (v : ℕ) → has (staying t mid) v ≡ true → waiting_of (staying t mid) v ≡ stays_from (has (staying t mid)) (waiting_of old v)
left_waits old mid t h o k notes w s v g =
    let row : row_at (staying t mid) v ≡ row_at mid v = row_stays t mid v (stays t mid v g) in
    let root : (row_at (staying t mid) v).root ≡ (row_at old v).root = ap (λ x. x.root) row ∙ k.alike.root_is v in
    let live : has old v ≡ true = sym (k.alike.has_is v) ∙ sym (has_stays t mid v (stays t mid v g)) ∙ g in
    let i : IsRoot old (row_at old v).root = root_live old (row_at old v).root v o.still live refl in
    let there : has (staying t mid) (row_at old v).root ≡ true = ap (has (staying t mid)) (sym root) ∙ (is_seen (staying t mid) s v g).root_has in
    let y : t (row_at old v).root ≡ true = stays t mid (row_at old v).root there in
    ap (λ x. (row_at (staying t mid) x).waiting) root
    ∙ ap (λ x. x.waiting) (row_stays t mid (row_at old v).root y)
    ∙ w (row_at old v).root i (notes (row_at old v).root i.0 ∙ y)
    ∙ stays_agree h (has (staying t mid)) (waiting_of old v) (λ b e. (let l : has old b ≡ true = ((o.family (row_at old v).root i).waits b e).live in
    notes b l ∙ has_staying t mid b (k.alike.has_is b ∙ l)))

staying_left : (t h : ℕ → Bool) (old mid : Rows) → InOrder old → IsReady old mid → (AreSized old → AreSized mid) → KeepsParents t (shape mid) → IsStill (staying t mid)
    → ((v : ℕ) → has old v ≡ true → h v ≡ t v) → LeavesWaiting h old mid → IsLeft old (staying t mid)
staying_left t h old mid o k z c s notes w =
    let row : (v : ℕ) → has (staying t mid) v ≡ true → row_at (staying t mid) v ≡ row_at mid v = λ v h. row_stays t mid v (stays t mid v h) in
    let base : (v : ℕ) → has (staying t mid) v ≡ true → (row_at (staying t mid) v).base ≡ (row_at old v).base = λ v h. ap (λ x. x.base) (row v h) ∙ k.alike.base_is v in
    record {
      known = known_stays t mid c k.known;
      sized = λ y. sized_stays t mid c (z y);
      numbers_are = left_numbers t mid ∙ ap (filter (has (staying t mid))) k.alike.numbers_are;
      there = λ v h. sym (k.alike.has_is v) ∙ sym (has_stays t mid v (stays t mid v h)) ∙ h;
      root_is = λ v h. ap (λ x. x.root) (row v h) ∙ k.alike.root_is v;
      base_is = base;
      waits = left_waits old mid t h o k notes w s;
      fresh = λ v h m. (let b : has (staying t mid) (row_at (staying t mid) v).base ≡ true = (is_seen (staying t mid) s v h).base_has in
          ap (λ x. x.mark) (row (row_at (staying t mid) v).base b)
          ∙ ap (λ x. (row_at mid x).mark) (base v h)
          ∙ k.marks (row_at old v).base m);
    }

pub is_left : (old mid new : Rows) (t h : ℕ → Bool) → InOrder old → IsLeaving old mid new t h → IsLeft old new
is_left old mid new t h o l =
    let g : IsGone old mid new t = is_gone old mid new t h l in
    subst (IsLeft old) (sym g.stays_so) (staying_left t h old mid o l.kept l.sized g.closed (order_stays t mid g.closed g.waits l.kept.order).still l.notes l.leaves)
