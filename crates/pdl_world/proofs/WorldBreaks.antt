-- When other dimensions break a view, and what they leave.
use Rattle.std.proofs.Common.{◌≡◌, ℕ, ℤ, ◌<◌, ◌≤◌, Bool, true, false, ◌||◌, ◌==◌, if◌then◌else◌, inl, inr, List, [], ◌∷◌, length, Option, Some, None, option_and_then, IsSomeAnd, Result, Ok, Err, refl, sym, ◌∙◌, ap, subst, arith}
use Rattle.std.specs.List.{list_any}
use Rattle.std.specs.Option.{is_none, option_map_or}
use Rattle.std.proofs.lemmas.Bool.{both_ways, cases_Bool, cases_eq, eq-eqb, or_cases, or_parts}
use Rattle.std.proofs.lemmas.Bool.Decides.{nat_tests}
use Rattle.pdl_elem.specs.declared.Ty.{Ty}
use Rattle.pdl_elem.specs.Laws.{WrappingLaws}
use Rattle.pdl_shape.specs.Refusals.{Refusal}
use Rattle.pdl_shape.specs.Shape.{IsDims}
use Rattle.pdl_buf.specs.Made.{IsMade}
use Rattle.pdl_world.specs.declared.Trans.{Trans}
use Rattle.pdl_world.specs.Cut.{replaced, reshape, breaks}
use Rattle.pdl_world.specs.Formula.{child_dims}
use Rattle.pdl_world.specs.Paths.{path}
use Rattle.pdl_world.specs.Refused.{refusal_at}
use Rattle.pdl_world.specs.Sound.{NumbersBelow, IsAllowed, IsShowable, IsSound, IsLive}
use Rattle.pdl_world.specs.Swept.{is_listed, Has}
use Rattle.pdl_world.specs.World.{World, ArrayDef, root, view, Look, look, through, seen_through, dims_in, ty_in}
use Rattle.pdl_world.proofs.CutLemmas.{head_held, held_view, ok_dims}
use Rattle.pdl_world.proofs.WorldLooks.{live_below, look_older, path_older}
use Rattle.pdl_world.proofs.WorldLawsProved.{new_live}
use Rattle.pdl_world.proofs.WorldReplaces.{below_replaced, length_replaced, replaced_newest, replaced_older, stays_beside}
use Rattle.pdl_world.proofs.CutSevers.{dead_is, new_elements, remade, reshaped}
use Rattle.pdl_world.proofs.SweptLemmas.{has_below, parent_older}
use Rattle.pdl_world.proofs.WorldStays.{Stays, newest_stays, seen_as_before, stays_under}
use Rattle.pdl_world.specs.BreakLaws.{SoundnessDecides, FormulasBreak, RefusedBreak, ReshapesLeaveOthers, ReshapesLeaveNumbers}

none_of : (a b : Bool) → a ≡ false → b ≡ false → (a || b) ≡ false
none_of true b x y = cc
none_of false b x y = y

first_of : (a b : Bool) → (a || b) ≡ true → b ≡ false → a ≡ true
first_of a b h n = elim (or_cases a b h) [ inl y ↦ y | inr y ↦ absurd (both_ways b n y) ]

-- arrays that aren't seen in another world
abbrev pub lost : World → World → Bool
lost new w = list_any (λ a. is_none (look new a.0)) w

abbrev IsThere : Option Look → Type 0
IsThere o = IsSomeAnd o (λ m. Unit {0})

seen_if : (o : Option Look) → is_none o ≡ false → IsThere o
seen_if None h = cc
seen_if (Some m) h = tt

if_seen : (o : Option Look) → IsThere o → is_none o ≡ false
if_seen None h = absurd h
if_seen (Some m) h = refl

pub kept_all : (new w : World) → lost new w ≡ false → (k : ℕ) (d : ArrayDef) → Has w k d → IsLive new k
kept_all new [] h k d y = absurd y
kept_all new ((j, e) ∷ w) h k d (inl y) = subst (λ x. IsLive new x) y.0 (seen_if (look new j) ((or_parts (is_none (look new j)) (lost new w) h).0))
kept_all new ((j, e) ∷ w) h k d (inr y) = kept_all new w ((or_parts (is_none (look new j)) (lost new w) h).1) k d y

none_lost : (new w : World) → ((k : ℕ) (d : ArrayDef) → Has w k d → IsLive new k) → lost new w ≡ false
none_lost new [] f = refl
none_lost new ((j, e) ∷ w) f = none_of (is_none (look new j)) (lost new w) (if_seen (look new j) (f j e (inl (refl, refl)))) (none_lost new w (λ k d y. f k d (inr y)))

-- each array of a sound world is live, and what is live is there
pub sound_live : (w : World) (k : ℕ) (d : ArrayDef) → IsSound w → Has w k d → IsLive w k
sound_live [] k d s y = absurd y
sound_live ((j, e) ∷ w) k d s (inl y) = subst (λ x. IsLive ((j, e) ∷ w) x) y.0 (new_live w j e s.1)
sound_live ((j, e) ∷ w) k d s (inr y) =
    let low : k < j = has_below w j k d s.0 y in
    let n : j ≡ k → ⊥ = λ q. absurd (omega (arith, low, q)) in
    subst (λ o. IsThere o) (sym (look_older j e w k n)) (sound_live w k d s.2 y)

pub live_has : (w : World) (u : ℕ) → IsLive w u → (d : ArrayDef) × Has w u d
live_has [] u h = absurd h
live_has ((k, d) ∷ w) u h = elim (cases_eq k u) [
  | inl e ↦ (d, inl (e, refl))
  | inr n ↦ (let q = live_has w u (subst (λ o. IsThere o) (look_older k d w u n) h) in (q.0, inr q.1))
]

has_replaced : (w : World) (v : ℕ) (new : ArrayDef) (k : ℕ) (d : ArrayDef) → Has w k d → (e : ArrayDef) × Has (replaced w v new) k e
has_replaced [] v new k d y = absurd y
has_replaced ((j, e) ∷ w) v new k d (inl y) = ((if j == v then new else e), inl (y.0, refl))
has_replaced ((j, e) ∷ w) v new k d (inr y) = (let q = has_replaced w v new k d y in (q.0, inr q.1))

pub path_root : (k : ℕ) (ty : Ty) (ds : List ℕ) (es : List ℤ) (w : World) → path ((k, root ty ds es) ∷ w) k ≡ k ∷ []
path_root k ty ds es w = rw (eq-eqb k k refl) refl

pub path_view : (k p : ℕ) (t : Trans) (w : World) → path ((k, view p t) ∷ w) k ≡ k ∷ path w p
path_view k p t w = rw (eq-eqb k k refl) refl

held_itself : (k : ℕ) (d : ArrayDef) (w : World) → is_listed (path ((k, d) ∷ w) k) k ≡ true
held_itself k (root ty ds es) w = ap (λ ps. is_listed ps k) (path_root k ty ds es w) ∙ head_held k []
held_itself k (view p t) w = ap (λ ps. is_listed ps k) (path_view k p t w) ∙ head_held k (path w p)

-- what isn't shown through v is seen as before, whatever v becomes
pub others_stay : (w : World) (v u : ℕ) (new : ArrayDef) → IsSound w → is_listed (path w u) v ≡ false → Stays w (replaced w v new) u
others_stay [] v u new s h = record { look_is = refl; path_is = refl; root_is = λ l q. refl }
others_stay ((k, d) ∷ w) v u new s h = elim (cases_eq k v) [
  | inl e ↦ (let P : World → Type 0 = λ x. Stays ((k, d) ∷ w) x u in
      let n : k ≡ u → ⊥ = λ y. both_ways (is_listed (path ((k, d) ∷ w) k) k) (ap (λ x. is_listed (path ((k, d) ∷ w) x) k) y ∙ ap (λ x. is_listed (path ((k, d) ∷ w) u) x) e ∙ h) (held_itself k d w) in
      subst P (sym (replaced_newest k d w v new s.0 e)) (stays_beside w k d new u s.0 n))
  | inr m ↦ (let P : World → Type 0 = λ x. Stays ((k, d) ∷ w) x u in
      subst P (sym (replaced_older k d w v new m)) (elim (cases_eq k u) [
        | inl e ↦ (let Q : ℕ → Type 0 = λ x. Stays ((k, d) ∷ w) ((k, d) ∷ replaced w v new) x in
            let R : ArrayDef → Type 0 = λ x. is_listed (path ((k, x) ∷ w) k) v ≡ false in
            let here : R d = ap (λ x. is_listed (path ((k, d) ∷ w) x) v) e ∙ h in
            subst Q e (newest_stays w (replaced w v new) k d (λ p t q. others_stay w v p new s.2 (sym (held_view k p t w v m) ∙ subst R q here))))
        | inr o ↦ stays_under w (replaced w v new) k d u s.0 o (others_stay w v u new s.2 (ap (λ ps. is_listed ps v) (sym (path_older k d w u o)) ∙ h))
      ]))
]

pub reshapes_leave_others : ReshapesLeaveOthers
reshapes_leave_others = λ w v u ds s h. seen_as_before w (reshape w v ds) u (others_stay w v u (root (ty_in w v) ds (new_elements w v ds)) s h)

-- no path gets longer
path_holds : (k : ℕ) (d : ArrayDef) (w : World) → 1 ≤ length (path ((k, d) ∷ w) k)
path_holds k (root ty ds es) w = rw (eq-eqb k k refl) (omega arith)
path_holds k (view p t) w = rw (eq-eqb k k refl) (omega arith)

itself_shorter : (k : ℕ) (d : ArrayDef) (w new : World) → ((p : ℕ) → length (path new p) ≤ length (path w p)) → length (path ((k, d) ∷ new) k) ≤ length (path ((k, d) ∷ w) k)
itself_shorter k (root ty ds es) w new f = omega (arith, ap length (path_root k ty ds es w), ap length (path_root k ty ds es new))
itself_shorter k (view p t) w new f = omega (arith, ap length (path_view k p t w), ap length (path_view k p t new), f p)

paths_shorten : (w : World) (v : ℕ) (ty : Ty) (ds : List ℕ) (es : List ℤ) (u : ℕ) → IsSound w → length (path (replaced w v (root ty ds es)) u) ≤ length (path w u)
paths_shorten [] v ty ds es u s = omega arith
paths_shorten ((k, d) ∷ w) v ty ds es u s = elim (cases_eq k v) [
  | inl e ↦ (let P : World → Type 0 = λ x. length (path x u) ≤ length (path ((k, d) ∷ w) u) in
      subst P (sym (replaced_newest k d w v (root ty ds es) s.0 e)) (elim (cases_eq k u) [
        | inl y ↦ (let Q : ℕ → Type 0 = λ x. length (path ((k, root ty ds es) ∷ w) x) ≤ length (path ((k, d) ∷ w) x) in
            subst Q y (omega (arith, ap length (path_root k ty ds es w), path_holds k d w)))
        | inr n ↦ omega (arith, ap length (path_older k (root ty ds es) w u n), ap length (path_older k d w u n))
      ]))
  | inr m ↦ (let P : World → Type 0 = λ x. length (path x u) ≤ length (path ((k, d) ∷ w) u) in
      let new : World = replaced w v (root ty ds es) in
      subst P (sym (replaced_older k d w v (root ty ds es) m)) (elim (cases_eq k u) [
        | inl y ↦ (let Q : ℕ → Type 0 = λ x. length (path ((k, d) ∷ replaced w v (root ty ds es)) x) ≤ length (path ((k, d) ∷ w) x) in
            subst Q y (itself_shorter k d w (replaced w v (root ty ds es)) (λ p. paths_shorten w v ty ds es p s.2)))
        | inr n ↦ omega (arith, ap length (path_older k d (replaced w v (root ty ds es)) u n), ap length (path_older k d w u n), paths_shorten w v ty ds es u s.2)
      ]))
]

-- a view that is seen over a parent is allowed there
shown_dims : (t : Trans) (m : Look) (r : Result (List ℕ) Refusal) → child_dims t m.dims ≡ r → IsThere (seen_through t m r) → (ds : List ℕ) × (child_dims t m.dims ≡ Ok ds)
shown_dims t m (Ok ds) e h = (ds, e)
shown_dims t m (Err x) e h = absurd h

not_deep : (ps qs : List ℕ) (r s : Result (List ℕ) Refusal) (ds : List ℕ) → refusal_at ps r ≡ None → s ≡ Ok ds → length qs ≤ length ps → refusal_at qs s ≡ None
not_deep ps qs (Err x) s ds h e c = cc
not_deep ps qs (Ok es) s ds h e c = subst (λ y. refusal_at qs y ≡ None) (sym e) (within (length ps) (length qs) h c)
  where
    within : (a b : ℕ) → refusal_at ps (Ok es) ≡ None → length qs ≤ length ps → refusal_at qs (Ok ds) ≡ None
    within a b x y = grind (arith, nat_tests)

showable_seen : (w new : World) (p : ℕ) (t : Trans) (o : Option Look) → look new p ≡ o → IsShowable w p t → length (path new p) ≤ length (path w p) → IsThere (option_and_then (through t) o) → IsShowable new p t
showable_seen w new p t None e s c h = absurd h
showable_seen w new p t (Some m) e s c h =
    let ok = shown_dims t m (child_dims t m.dims) refl h in
    let dims : dims_in new p ≡ m.dims = ap (λ x. option_map_or (λ (l : Look). l.dims) x []) e in
    record {
      well_formed = s.well_formed;
      live = subst (λ x. IsThere x) (sym e) tt;
      allowed = not_deep (path w p) (path new p) (child_dims t (dims_in w p)) (child_dims t (dims_in new p)) ok.0 s.allowed (ap (child_dims t) dims ∙ ok.1) c;
    }

pub look_itself : (k p : ℕ) (t : Trans) (w : World) → look ((k, view p t) ∷ w) k ≡ option_and_then (through t) (look w p)
look_itself k p t w = rw (eq-eqb k k refl) refl

allowed_seen : (w new : World) (k : ℕ) (d : ArrayDef) → IsAllowed w d → ((p : ℕ) → length (path new p) ≤ length (path w p)) → IsLive ((k, d) ∷ new) k → IsAllowed new d
allowed_seen w new k (root ty ds es) a f l = a
allowed_seen w new k (view p t) a f l = showable_seen w new p t (look new p) refl a (f p) (subst (λ o. IsThere o) (look_itself k p t new) l)

-- where all are seen, the new world is sound
seen_sound : (w : World) (v : ℕ) (ty : Ty) (ds : List ℕ) (es : List ℤ) → IsSound w → IsDims ds × IsMade ty ds es → ((k : ℕ) (d : ArrayDef) → Has w k d → IsLive (replaced w v (root ty ds es)) k) → IsSound (replaced w v (root ty ds es))
seen_sound [] v ty ds es s a f = tt
seen_sound ((k, d) ∷ w) v ty ds es s a f = elim (cases_eq k v) [
  | inl e ↦ subst IsSound (sym (replaced_newest k d w v (root ty ds es) s.0 e)) (s.0, a, s.2)
  | inr m ↦ (let here : replaced ((k, d) ∷ w) v (root ty ds es) ≡ (k, d) ∷ replaced w v (root ty ds es) = replaced_older k d w v (root ty ds es) m in
      let own : IsLive ((k, d) ∷ replaced w v (root ty ds es)) k = subst (λ x. IsLive x k) here (f k d (inl (refl, refl))) in
      subst IsSound (sym here) (
        below_replaced w k v (root ty ds es) s.0,
        allowed_seen w (replaced w v (root ty ds es)) k d s.1 (λ p. paths_shorten w v ty ds es p s.2) own,
        seen_sound w v ty ds es s.2 a (λ j e y.
            let low : j < k = has_below w k j e s.0 y in
            let n : k ≡ j → ⊥ = λ q. absurd (omega (arith, low, q)) in
            subst (λ o. IsThere o) (look_older k d (replaced w v (root ty ds es)) j n) (subst (λ x. IsLive x j) here (f j e (inr y)))),
      ))
]

sound_cases : WrappingLaws → (w : World) (v : ℕ) (ds : List ℕ) (o : Option Look) → look w v ≡ o → IsSound w → IsDims ds → breaks w v ds ≡ false → IsSound (reshape w v ds)
sound_cases wraps w v ds None h s d b = subst IsSound (sym (dead_is w v (root (ty_in w v) ds (new_elements w v ds)) s h)) s
sound_cases wraps w v ds (Some l) h s d b =
    let same : reshape w v ds ≡ replaced w v (root l.ty ds (new_elements w v ds)) = reshaped w v l ds h in
    subst IsSound (sym same) (seen_sound w v l.ty ds (new_elements w v ds) s (d, remade wraps w v l ds s h)
    (λ k e y. subst (λ x. IsLive x k) same (kept_all (reshape w v ds) w b k e y)))

pub soundness_decides : WrappingLaws → SoundnessDecides
soundness_decides wraps = λ w v ds s d. record {
  stays = λ b. sound_cases wraps w v ds (look w v) refl s d b;
  sound = λ n. none_lost (reshape w v ds) w (λ k e y. (let q = has_replaced w v (root (ty_in w v) ds (new_elements w v ds)) k e y in sound_live (reshape w v ds) k q.0 n q.1));
}

pub reshapes_leave_numbers : ReshapesLeaveNumbers
reshapes_leave_numbers = λ w v ds s b. record {
  count = length_replaced w v (root (ty_in w v) ds (new_elements w v ds));
  below = λ m n. below_replaced w m v (root (ty_in w v) ds (new_elements w v ds)) n;
  live = λ u h. (let q = live_has w u h in kept_all (reshape w v ds) w b u q.0 q.1);
}

-- which view breaks, over any root in place of v
pub record Breaks (w new : World) (v u : ℕ) : Type 0 where
  pub parent : ℕ
  pub trans : Trans
  pub seen : Look
  pub refusal : Refusal
  pub there : Has w u (view parent trans)
  pub below : is_listed (path w parent) v ≡ true
  pub look_is : look new parent ≡ Some seen
  pub refused : child_dims trans seen.dims ≡ Err refusal

-- a newer array changes nothing of it
breaks_older : (k : ℕ) (d : ArrayDef) (w new : World) (v u : ℕ) → IsSound w → NumbersBelow k w → Breaks w new v u → Breaks ((k, d) ∷ w) ((k, d) ∷ new) v u
breaks_older k d w new v u s b y =
    let low : u < k = has_below w k u (view y.parent y.trans) b y.there in
    let lower : y.parent < u = parent_older w u y.parent y.trans s y.there in
    let n : k ≡ y.parent → ⊥ = λ q. absurd (omega (arith, low, lower, q)) in
    record {
      parent = y.parent;
      trans = y.trans;
      seen = y.seen;
      refusal = y.refusal;
      there = inr y.there;
      below = ap (λ ps. is_listed ps v) (path_older k d w y.parent n) ∙ y.below;
      look_is = look_older k d new y.parent n ∙ y.look_is;
      refused = y.refused;
    }

refused_is : (t : Trans) (m : Look) (r : Result (List ℕ) Refusal) → child_dims t m.dims ≡ r → is_none (seen_through t m r) ≡ true → (e : Refusal) × (child_dims t m.dims ≡ Err e)
refused_is t m (Ok ds) e h = cc
refused_is t m (Err x) e h = (x, e)

-- the newest view itself breaks
held_by : (w new : World) (p v : ℕ) (t : Trans) (m : Look) (e : Refusal) → IsShowable w p t → look new p ≡ Some m → child_dims t m.dims ≡ Err e → (is_listed (path w p) v ≡ false → Stays w new p) → is_listed (path w p) v ≡ true
held_by w new p v t m e s l r f = elim (cases_Bool (is_listed (path w p) v)) [
  | inl y ↦ y
  | inr n ↦ (let same : look w p ≡ Some m = sym (f n).look_is ∙ l in
      let dims : dims_in w p ≡ m.dims = ap (λ x. option_map_or (λ (q : Look). q.dims) x []) same in
      let ok = ok_dims (path w p) (child_dims t (dims_in w p)) s.allowed in
      let z : Err e ≡ Ok ok.0 = sym r ∙ ap (child_dims t) (sym dims) ∙ ok.1 in cc)
]

view_breaks : (w new : World) (k p : ℕ) (t : Trans) (v : ℕ) (o : Option Look) → IsShowable w p t → look new p ≡ o → IsThere o → is_none (option_and_then (through t) o) ≡ true → (is_listed (path w p) v ≡ false → Stays w new p) → (k ≡ p → ⊥)
    → Breaks ((k, view p t) ∷ w) ((k, view p t) ∷ new) v k
view_breaks w new k p t v None s l y h f n = absurd y
view_breaks w new k p t v (Some m) s l y h f n =
    let r = refused_is t m (child_dims t m.dims) refl h in
    record {
      parent = p;
      trans = t;
      seen = m;
      refusal = r.0;
      there = inl (refl, refl);
      below = ap (λ ps. is_listed ps v) (path_older k (view p t) w p n) ∙ held_by w new p v t m r.0 s l r.1 f;
      look_is = look_older k (view p t) new p n ∙ l;
      refused = r.1;
    }

newest_breaks : (w new : World) (k : ℕ) (d : ArrayDef) (v : ℕ) → NumbersBelow k w → IsAllowed w d → lost new w ≡ false → is_none (look ((k, d) ∷ new) k) ≡ true → ((p : ℕ) → is_listed (path w p) v ≡ false → Stays w new p) → Breaks ((k, d) ∷ w) ((k, d) ∷ new) v k
newest_breaks w new k (root ty ds es) v b a h l f = (let z : false ≡ true = rw (eq-eqb k k refl) at l in cc)
newest_breaks w new k (view p t) v b a h l f =
    let q = live_has w p a.live in
    let low : p < k = live_below w k p b a.live in
    view_breaks w new k p t v (look new p) a refl (kept_all new w h p q.0 q.1) (ap is_none (sym (look_itself k p t new)) ∙ l) (f p) (λ y. absurd (omega (arith, low, y)))

lost_older : (k : ℕ) (d : ArrayDef) (w new : World) → NumbersBelow k w → lost ((k, d) ∷ new) w ≡ lost new w
lost_older k d [] new b = refl
lost_older k d ((j, e) ∷ w) new b =
    let low : j < k = b.0 in
    let n : k ≡ j → ⊥ = λ y. absurd (omega (arith, low, y)) in
    rw (look_older k d new j n, lost_older k d w new b.1) refl

pub which_breaks : (w : World) (v : ℕ) (ty : Ty) (ds : List ℕ) (es : List ℤ) → IsSound w → lost (replaced w v (root ty ds es)) w ≡ true → (u : ℕ) × Breaks w (replaced w v (root ty ds es)) v u
which_breaks [] v ty ds es s h = cc
which_breaks ((k, d) ∷ w) v ty ds es s h = elim (cases_eq k v) [
  | inl e ↦ (let here : replaced ((k, d) ∷ w) v (root ty ds es) ≡ (k, root ty ds es) ∷ w = replaced_newest k d w v (root ty ds es) s.0 e in
      let none : lost ((k, root ty ds es) ∷ w) w ≡ false = lost_older k (root ty ds es) w w s.0 ∙ none_lost w w (λ j x y. sound_live w j x s.2 y) in
      let own : is_none (look ((k, root ty ds es) ∷ w) k) ≡ false = rw (eq-eqb k k refl) refl in
      absurd (both_ways (lost (replaced ((k, d) ∷ w) v (root ty ds es)) ((k, d) ∷ w))
      (ap (λ x. lost x ((k, d) ∷ w)) here ∙ none_of (is_none (look ((k, root ty ds es) ∷ w) k)) (lost ((k, root ty ds es) ∷ w) w) own none) h))
  | inr m ↦ (let here : replaced ((k, d) ∷ w) v (root ty ds es) ≡ (k, d) ∷ replaced w v (root ty ds es) = replaced_older k d w v (root ty ds es) m in
      let P : World → Type 0 = λ x. (u : ℕ) × Breaks ((k, d) ∷ w) x v u in
      let both : (is_none (look ((k, d) ∷ replaced w v (root ty ds es)) k) || lost ((k, d) ∷ replaced w v (root ty ds es)) w) ≡ true = ap (λ x. lost x ((k, d) ∷ w)) (sym here) ∙ h in
      let same : lost ((k, d) ∷ replaced w v (root ty ds es)) w ≡ lost (replaced w v (root ty ds es)) w = lost_older k d w (replaced w v (root ty ds es)) s.0 in
      subst P (sym here) (elim (cases_Bool (lost ((k, d) ∷ replaced w v (root ty ds es)) w)) [
        | inl y ↦ (let q = which_breaks w v ty ds es s.2 (sym same ∙ y) in (q.0, breaks_older k d w (replaced w v (root ty ds es)) v q.0 s.2 s.0 q.1))
        | inr y ↦ (k, newest_breaks w (replaced w v (root ty ds es)) k d v s.0 s.1 (sym same ∙ y) (first_of (is_none (look ((k, d) ∷ replaced w v (root ty ds es)) k)) (lost ((k, d) ∷ replaced w v (root ty ds es)) w) both y) (λ p n. others_stay w v p (root ty ds es) s.2 n))
      ]))
]

pub formulas_break : FormulasBreak
formulas_break = λ w v ds s b.
    let q = which_breaks w v (ty_in w v) ds (new_elements w v ds) s b in (
      q.0,
      record {
        parent = q.1.parent;
        trans = q.1.trans;
        seen = q.1.seen;
        refusal = q.1.refusal;
        there = q.1.there;
        below = q.1.below;
        look_is = q.1.look_is;
        refused = q.1.refused;
      },
    )

-- a view that the formula refuses isn't seen
through_none : (t : Trans) (m : Look) (e : Refusal) → child_dims t m.dims ≡ Err e → through t m ≡ None
through_none t m e h = ap (seen_through t m) h

not_seen : (o : Option Look) → o ≡ None → IsThere o → ⊥
not_seen None e h = h
not_seen (Some m) e h = cc

dead_view : (w : World) (v : ℕ) (new : ArrayDef) (k p : ℕ) (t : Trans) (m : Look) (e : Refusal) → IsSound w → Has w k (view p t) → (k ≡ v → ⊥) → look (replaced w v new) p ≡ Some m → child_dims t m.dims ≡ Err e → look (replaced w v new) k ≡ None
dead_view [] v new k p t m e s h n l r = absurd h
dead_view ((j, d) ∷ w) v new k p t m e s (inl y) n l r =
    let f : j ≡ v → ⊥ = λ q. n (sym y.0 ∙ q) in
    let a : IsAllowed w (view p t) = subst (λ x. IsAllowed w x) y.1 s.1 in
    let low : p < j = live_below w j p s.0 a.live in
    let here : replaced ((j, d) ∷ w) v new ≡ (j, view p t) ∷ replaced w v new = replaced_older j d w v new f ∙ ap (λ x. (j, x) ∷ replaced w v new) y.1 in
    let up : look (replaced w v new) p ≡ Some m = sym (look_older j (view p t) (replaced w v new) p (λ q. absurd (omega (arith, low, q)))) ∙ ap (λ x. look x p) (sym here) ∙ l in
    ap (λ x. look x k) here ∙ ap (look ((j, view p t) ∷ replaced w v new)) (sym y.0) ∙ look_itself j p t (replaced w v new) ∙ ap (option_and_then (through t)) up ∙ through_none t m e r
dead_view ((j, d) ∷ w) v new k p t m e s (inr y) n l r =
    let low : k < j = has_below w j k (view p t) s.0 y in
    let lower : p < k = parent_older w k p t s.2 y in
    let a : j ≡ k → ⊥ = λ q. absurd (omega (arith, low, q)) in
    let b : j ≡ p → ⊥ = λ q. absurd (omega (arith, low, lower, q)) in
    look_older j (if j == v then new else d) (replaced w v new) k a
    ∙ dead_view w v new k p t m e s.2 y n (sym (look_older j (if j == v then new else d) (replaced w v new) p b) ∙ l) r

pub refused_break : RefusedBreak
refused_break = λ w v ds k p t m e s h l n r. elim (cases_Bool (breaks w v ds)) [
  | inl y ↦ y
  | inr y ↦ absurd (not_seen (look (reshape w v ds) k) (dead_view w v (root (ty_in w v) ds (new_elements w v ds)) k p t m e s h n l r) (kept_all (reshape w v ds) w y k (view p t) h))
]
