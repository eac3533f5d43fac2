-- What is left once what no held array reaches was let go.
use Rattle.std.proofs.Common.{◌≡◌, ℕ, ◌+◌, ◌<◌, ◌≤◌, ◌||◌, Bool, true, false, eqb, cond, nat_lt, List, [], ◌∷◌, length, get_or, drop, Option, Some, None, is_some, inl, inr, refl, sym, ◌∙◌, ap, arith}
use Rattle.std.proofs.lemmas.Bool.{cases_Bool, or_right, eq-eqb}
use Rattle.pdl_world.specs.Cut.{has_views}
use Rattle.pdl_world.specs.Swept.{is_listed}
use Rattle.pdl_world.specs.World.{World, root, view}
use Rattle.pdl_nodes.specs.declared.holds.Hold.{Hold}
use Rattle.pdl_nodes.specs.declared.origin.Origin.{Origin}
use Rattle.pdl_nodes.specs.declared.origin.Origin.TheVariants.{Root, View}
use Rattle.pdl_nodes.specs.Children.{children, left, one_of}
use Rattle.pdl_nodes.specs.Families.{InOrder}
use Rattle.pdl_nodes.specs.Holds.{Counts, Beside, hold_at, is_held, stands, count, going, going_in}
use Rattle.pdl_nodes.specs.Outcomes.{IsReady}
use Rattle.pdl_nodes.specs.Risen.{AreNoted, IsLetGo}
use Rattle.pdl_nodes.specs.Row.{parent_from}
use Rattle.pdl_nodes.specs.Rows.{Rows, has, reached}
use Rattle.pdl_nodes.specs.Staying.{staying}
use Rattle.pdl_nodes.specs.Still.{IsStill}
use Rattle.pdl_nodes.specs.Worlds.{def_from, shape}
use Rattle.pdl_nodes.proofs.RowFinds.{has_stays}
use Rattle.pdl_nodes.proofs.StayingLeavings.{IsGone, IsLeaving, is_gone, is_left, left_means}
use Rattle.pdl_nodes.proofs.ChildrenLeft.{left_all, none_if, reached_viewed}
use Rattle.pdl_nodes.proofs.HoldsLetGo.{holds_next, holds_end}
use Rattle.pdl_nodes.proofs.HoldsRemoved.{IsRemoved}
use Rattle.pdl_nodes.proofs.StayingLemmas.{stays, shape_stays}
use Rattle.pdl_nodes.proofs.WorldsSwept.{reached_closed}
use Rattle.pdl_nodes.specs.Released.{GoingIsSettled}
use Rattle.std.proofs.lemmas.Bool.{eq-eqb}
use Rattle.std.proofs.lemmas.List.Folds.{list_any_at}

swap_or : (a b c : Bool) → (a || (b || c)) ≡ (b || (a || c))
swap_or true true c = refl
swap_or true false c = refl
swap_or false b c = refl

pub under_next : (xs : List ℕ) (n d id v : ℕ) → n < length xs → is_listed (id ∷ drop n xs) v ≡ (eqb (get_or xs n d) v || is_listed (id ∷ drop (n + 1) xs) v)
under_next xs n d id v l = ap (λ b. eqb id v || b) (holds_next xs n d v l) ∙ swap_or (eqb id v) (eqb (get_or xs n d) v) (is_listed (drop (n + 1) xs) v)

pub under_end : (xs : List ℕ) (n id v : ℕ) → length xs ≤ n → is_listed (id ∷ drop n xs) v ≡ (eqb id v || is_listed [] v)
under_end xs n id v l = ap (λ b. eqb id v || b) (holds_end xs n v l)

pub under_first : (id : ℕ) (xs : List ℕ) → is_listed (id ∷ xs) id ≡ true
under_first id xs = rw (eq-eqb id id refl) refl

pub under_listed : (xs : List ℕ) (n d id : ℕ) → n < length xs → is_listed (id ∷ xs) (get_or xs n d) ≡ true
under_listed xs n d id l = or_right (eqb id (get_or xs n d)) (is_listed xs (get_or xs n d)) (list_any_at (λ x. eqb x (get_or xs n d)) xs n d l (eq-eqb (get_or xs n d) (get_or xs n d) refl))

-- ---- rows that mean the same
abbrev left_in : World → (ℕ → Bool) → ℕ → ℕ
left_in [] t v = 0
left_in ((k, root ty ds es) ∷ w) t v = left_in w t v
left_in ((k, view p u) ∷ w) t v = cond (t k) (one_of (Some p) v) 0 + left_in w t v

left_shape : (rs : Rows) (t : ℕ → Bool) (v : ℕ) → left rs t v ≡ left_in (shape rs) t v
left_shape [] t v = refl
left_shape ((k, r) ∷ rs) t v = by r.origin (left_shape rs t v) where
  by : (o : Origin) → left rs t v ≡ left_in (shape rs) t v → cond (t k) (one_of (parent_from o) v) 0 + left rs t v ≡ left_in ((k, def_from r.ty r.triple.dims o) ∷ shape rs) t v
  by Root e = ap (λ n. n + left rs t v) (none_if (t k) 0 refl) ∙ (let z : 0 + left rs t v ≡ left rs t v = omega arith in z) ∙ e
  by (View p u y) e = ap (λ n. cond (t k) (one_of (Some p) v) 0 + n) e

left_ready : (old mid : Rows) (t : ℕ → Bool) (v : ℕ) → IsReady old mid → left mid t v ≡ left old t v
left_ready old mid t v k = left_shape mid t v ∙ ap (λ w. left_in w t v) k.alike.shape_is ∙ sym (left_shape old t v)

children_ready : (old mid : Rows) (v : ℕ) → IsReady old mid → children mid v ≡ children old v
children_ready old mid v k =
    sym (left_all mid (λ x. true) v (λ x h. refl)) ∙ left_ready old mid (λ x. true) v k ∙ left_all old (λ x. true) v (λ x h. refl)

pub noted_ready : (old mid : Rows) (hs : Counts) → IsReady old mid → AreNoted old hs → AreNoted mid hs
noted_ready old mid hs k n = λ v y.
    children_ready old mid v k ∙ n v y ∙ ap (λ m. going hs v + m) (sym (left_ready old mid (stands hs) v k))

-- ---- all that goes is gone
clear_none : (o : Option Hold) → is_some o ≡ false → going_in o ≡ 0
clear_none None h = refl
clear_none (Some x) h = absurd (cc)

pub removed_beside : (rs : Rows) (h0 : Counts) (table : Rows) (hs : Counts) → IsRemoved rs h0 table hs → Beside table hs
removed_beside rs h0 table hs i = record {
  numbers = i.numbers;
  clear = λ v. elim (cases_Bool (stands hs v)) [ inl y ↦ i.clear v y | inr y ↦ clear_none (hold_at hs v) y ];
}

-- what is left and isn't held has a view that is left
left_tight : (old mid new : Rows) (t h held : ℕ → Bool) → IsStill old → IsLeaving old mid new t h → t ≡ reached old held → (v : ℕ) → has new v ≡ true → held v ≡ false → has_views (shape new) v ≡ true
left_tight old mid new t h held s l e v y n =
    let g : IsGone old mid new t = is_gone old mid new t h l in
    let there : has (staying t mid) v ≡ true = ap (λ x. has x v) (sym g.stays_so) ∙ y in
    let tv : t v ≡ true = stays t mid v there in
    let hv : has old v ≡ true = sym (l.kept.alike.has_is v) ∙ sym (has_stays t mid v tv) ∙ there in
    ap (λ x. has_views (shape x) v) g.stays_so
    ∙ ap (λ w. has_views w v) (shape_stays t mid ∙ ap (staying t) l.kept.alike.shape_is ∙ sym (shape_stays t old))
    ∙ ap (λ u. has_views (shape (staying u old)) v) e
    ∙ reached_viewed old held v s hv (sym (ap (λ u. u v) e) ∙ tv) n

told_leaving : (old mid new : Rows) (hs h1 : Counts) → InOrder old → ((v : ℕ) → has old v ≡ true → stands h1 v ≡ reached old (is_held hs) v) → GoingIsSettled old mid h1 → new ≡ staying (stands h1) mid → IsLeaving old mid new (reached old (is_held hs)) (stands h1)
told_leaving old mid new hs h1 o t s n = record {
  kept = s.kept;
  sized = s.sized;
  notes = t;
  closed = reached_closed old (is_held hs) o.still;
  waits = s.waits;
  leaves = s.leaves;
  left = n;
}

-- h1 tells what stays, and is counted as before there
pub let_go_is : (old mid new : Rows) (hs h1 gs : Counts) → InOrder old → ((v : ℕ) → stands h1 v ≡ true → count h1 v ≡ count hs v) → ((v : ℕ) → has old v ≡ true → stands h1 v ≡ reached old (is_held hs) v) → GoingIsSettled old mid h1 → new ≡ staying (stands h1) mid → Beside new gs
    → ((v : ℕ) → count gs v ≡ count h1 v) → IsLetGo old (count hs) new gs
let_go_is old mid new hs h1 gs o e t s n b c =
    let l : IsLeaving old mid new (reached old (is_held hs)) (stands h1) = told_leaving old mid new hs h1 o t s n in
    let counts : (v : ℕ) → has new v ≡ true → count gs v ≡ count hs v = λ v h. c v ∙ e v (stays (stands h1) mid v (ap (λ x. has x v) (sym n) ∙ h)) in
    record {
      swept = λ held f. left_means old mid new (reached old (is_held hs)) (stands h1) held (is_held hs) o.still l refl f;
      left = is_left old mid new (reached old (is_held hs)) (stands h1) o l;
      beside = b;
      counts_are = counts;
      tight = λ v y d u. left_tight old mid new (reached old (is_held hs)) (stands h1) (is_held hs) o.still l refl v y (ap (nat_lt 0) (sym (counts v y)) ∙ u);
    }
