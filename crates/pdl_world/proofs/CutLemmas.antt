-- What is seen after a cut.
use Rattle.std.proofs.Common.{◌≡◌, ℕ, ℤ, ◌<◌, ◌≤◌, true, false, inl, inr, ◌⊎◌, List, [], ◌∷◌, ◌++◌, length, map, drop, Option, Some, None, option_and_then, IsSomeAnd, Result, Ok, Err, refl, sym, ◌∙◌, ap, subst, arith}
use Rattle.std.specs.Option.{option_map_or}
use Rattle.std.specs.List.{range_with_len}
use Rattle.std.proofs.lemmas.Bool.{cases_eq, cases_lt, eq-eqb, ne_eqb}
use Rattle.std.proofs.lemmas.Bool.Decides.{eqb_tells, nat_tests}
use Rattle.std.proofs.lemmas.List.{length-append, length-map, get_or-map, get_or_past, ext_get_or}
use Rattle.std.proofs.lemmas.List.FromFn.{length-map-range_with_len, get_or-map-range_with_len}
use Rattle.pdl_shape.specs.Places.{places_of}
use Rattle.pdl_shape.specs.Refusals.{Refusal}
use Rattle.pdl_shape.specs.Shape.{IsDims, size_of}
use Rattle.pdl_buf.specs.Made.{IsMade}
use Rattle.pdl_world.specs.declared.Trans.{Trans}
use Rattle.pdl_world.specs.Formula.{child_dims, source}
use Rattle.pdl_world.specs.Cut.{replaced}
use Rattle.pdl_world.specs.CutLaws.{IsViewOfCut, seen_over}
use Rattle.pdl_world.specs.Paths.{path}
use Rattle.pdl_world.specs.Refused.{refusal_at}
use Rattle.pdl_world.specs.Sound.{NumbersBelow, IsAllowed, IsShowable, IsSound}
use Rattle.pdl_world.specs.Swept.{is_listed}
use Rattle.pdl_world.specs.World.{World, ArrayDef, root, view, Look, look_of_root, look, through, seen_through, through_places, entry, dims_in}
use Rattle.pdl_world.proofs.SoundDimensions.{look_count}
use Rattle.pdl_world.proofs.WorldLooks.{look_older, path_older}
use Rattle.pdl_world.proofs.WorldReplaces.{below_replaced, replaced_newest, replaced_older, stays_beside}
use Rattle.pdl_world.proofs.SoundRoots.{showable}
use Rattle.pdl_world.proofs.WorldStays.{Stays, stays_under, newest_stays}

-- no number from n on is on a path
path_low : (w : World) (n v u : ℕ) → NumbersBelow n w → n ≤ v → is_listed (path w u) v ≡ false
path_low [] n v u b h = refl
path_low ((k, root ty ds es) ∷ w) n v u b h = elim (eqb_tells k u) [
  | inl t ↦ rw (t.0, ne_eqb k v (omega arith)) refl
  | inr t ↦ rw t.0 (path_low w n v u b.1 h)
]
path_low ((k, view p t) ∷ w) n v u b h = elim (eqb_tells k u) [
  | inl e ↦ rw (e.0, ne_eqb k v (omega arith)) (path_low w n v p b.1 h)
  | inr e ↦ rw e.0 (path_low w n v u b.1 h)
]

-- a path begins with its array
path_head : (k : ℕ) (d : ArrayDef) (w : World) → path ((k, d) ∷ w) k ≡ k ∷ drop 1 (path ((k, d) ∷ w) k)
path_head k (root ty ds es) w = rw (eq-eqb k k refl) refl
path_head k (view p t) w = rw (eq-eqb k k refl) refl

pub head_held : (k : ℕ) (up : List ℕ) → is_listed (k ∷ up) k ≡ true
head_held k up = rw (eq-eqb k k refl) refl

-- places through all positions are the places
through_whole : (n : ℕ) (ps : List (Option ℕ)) → length ps ≡ n → through_places (map Some (range_with_len 0 n)) ps ≡ ps
through_whole n ps c =
    let is : List (Option ℕ) = map Some (range_with_len 0 n) in
    let f : Option ℕ → Option ℕ = option_and_then (entry ps) in
    let l : length (map f is) ≡ n = length-map is f ∙ length-map-range_with_len Some 0 n in
    ext_get_or None (map f is) ps (l ∙ sym c) (λ j h.
    let low : j < n = omega (arith, l) in
    get_or-map f is j None None (omega (arith, length-map-range_with_len Some 0 n)) ∙ ap f (get_or-map-range_with_len Some 0 n j j None low (omega arith)))

-- places of places of places
entry_through : (ps qs : List (Option ℕ)) (o : Option ℕ) → option_and_then (entry qs) (option_and_then (entry ps) o) ≡ option_and_then (entry (through_places ps qs)) o
entry_through ps qs None = refl
entry_through ps qs (Some j) = elim (cases_lt j (length ps)) [
  | inl low ↦ sym (get_or-map (option_and_then (entry qs)) ps j None None low)
  | inr past ↦ ap (option_and_then (entry qs)) (get_or_past ps j None past) ∙ sym (get_or_past (through_places ps qs) j None (omega (arith, past, length-map ps (option_and_then (entry qs)))))
]

through_through : (is ps qs : List (Option ℕ)) → through_places (through_places is ps) qs ≡ through_places is (through_places ps qs)
through_through [] ps qs = refl
through_through (i ∷ is) ps qs =
    ap (λ o. o ∷ through_places (through_places is ps) qs) (entry_through ps qs i) ∙ ap (λ os. option_and_then (entry (through_places ps qs)) i ∷ os) (through_through is ps qs)

-- an array is as it was, and not shown through v; or it is, and is a view of the new root
abbrev pub After : (w new : World) (v u : ℕ) → Look → Type 0
After w new v u l = (Stays w new u × (is_listed (path w u) v ≡ false)) ⊎ ((is_listed (path w u) v ≡ true) × IsViewOfCut w new v u l)

-- the newest array is the one that was cut
cut_itself : (k : ℕ) (d : ArrayDef) (w : World) (l : Look) (es : List ℤ) → look ((k, d) ∷ w) k ≡ Some l → IsViewOfCut ((k, d) ∷ w) ((k, root l.ty l.dims es) ∷ w) k k l
cut_itself k d w l es h = record {
  seen = look_of_root k l.ty l.dims;
  look_is = rw (eq-eqb k k refl) refl;
  root_is = refl;
  was = (let same : l.places ≡ through_places (look_of_root k l.ty l.dims).places l.places = sym (through_whole (size_of l.dims) l.places (look_count ((k, d) ∷ w) k l h)) in
      h ∙ ap (λ ps. Some (record l { places = ps })) same);
  path_was = (let alone : path ((k, root l.ty l.dims es) ∷ w) k ≡ k ∷ [] = rw (eq-eqb k k refl) refl in
      path_head k d w ∙ ap (λ ps. ps ++ drop 1 (path ((k, d) ∷ w) k)) (sym alone));
}

after_newest : (k : ℕ) (d : ArrayDef) (w : World) (u : ℕ) (l : Look) (es : List ℤ) → NumbersBelow k w → look ((k, d) ∷ w) k ≡ Some l → After ((k, d) ∷ w) ((k, root l.ty l.dims es) ∷ w) k u l
after_newest k d w u l es b h = elim (cases_eq k u) [
  | inl e ↦ (let P : ℕ → Type 0 = λ x. After ((k, d) ∷ w) ((k, root l.ty l.dims es) ∷ w) k x l in
      subst P e (inr (ap (λ ps. is_listed ps k) (path_head k d w) ∙ head_held k (drop 1 (path ((k, d) ∷ w) k)), cut_itself k d w l es h)))
  | inr n ↦ inl (stays_beside w k d (root l.ty l.dims es) u b n, ap (λ ps. is_listed ps k) (path_older k d w u n) ∙ path_low w k k u b (omega arith))
]

-- an older array than the newest, which isn't the one that was cut
after_older : (k : ℕ) (d : ArrayDef) (w new : World) (v u : ℕ) (l : Look) → NumbersBelow k w → (k ≡ v → ⊥) → (k ≡ u → ⊥) → After w new v u l → After ((k, d) ∷ w) ((k, d) ∷ new) v u l
after_older k d w new v u l b m n (inl a) = inl (stays_under w new k d u b n a.0, ap (λ ps. is_listed ps v) (path_older k d w u n) ∙ a.1)
after_older k d w new v u l b m n (inr a) = inr (
  ap (λ ps. is_listed ps v) (path_older k d w u n) ∙ a.0,
  record {
    seen = a.1.seen;
    look_is = look_older k d new u n ∙ a.1.look_is;
    root_is = a.1.root_is;
    was = look_older k d w u n ∙ a.1.was;
    path_was = path_older k d w u n ∙ a.1.path_was ∙ ap (λ ps. ps ++ drop 1 (path w v)) (sym (path_older k d new u n)) ∙ ap (λ ps. path ((k, d) ∷ new) u ++ drop 1 ps) (sym (path_older k d w v m));
  },
)

-- the dimensions of a view that nothing refuses
pub ok_dims : (ps : List ℕ) (r : Result (List ℕ) Refusal) → refusal_at ps r ≡ None → (ds : List ℕ) × (r ≡ Ok ds)
ok_dims ps (Err e) h = cc
ok_dims ps (Ok ds) h = (ds, refl)

-- a view of what is shown through v
view_below : (k p : ℕ) (t : Trans) (w new : World) (v : ℕ) (l : Look) → (k ≡ v → ⊥) → IsShowable w p t → IsViewOfCut w new v p l → IsViewOfCut ((k, view p t) ∷ w) ((k, view p t) ∷ new) v k l
view_below k p t w new v l n s a =
    let m : Look = a.seen in
    let dims : dims_in w p ≡ a.seen.dims = ap (λ o. option_map_or (λ (x : Look). x.dims) o []) a.was in
    let ok = ok_dims (path w p) (child_dims t (dims_in w p)) s.allowed in
    let made : child_dims t a.seen.dims ≡ Ok ok.0 = ap (child_dims t) (sym dims) ∙ ok.1 in
    let is : List (Option ℕ) = places_of ok.0 a.seen.dims (source t a.seen.dims) in
    record {
      seen = record { root = a.seen.root; ty = a.seen.ty; dims = ok.0; places = through_places is a.seen.places };
      look_is = rw (eq-eqb k k refl) (ap (option_and_then (through t)) a.look_is ∙ ap (seen_through t a.seen) made);
      root_is = a.root_is;
      was = rw (eq-eqb k k refl) (ap (option_and_then (through t)) a.was ∙ ap (seen_through t (seen_over l a.seen)) made
          ∙ ap (λ ps. Some (record { root = l.root; ty = a.seen.ty; dims = ok.0; places = ps })) (sym (through_through is a.seen.places l.places)));
      path_was = (let old : path ((k, view p t) ∷ w) k ≡ k ∷ path w p = rw (eq-eqb k k refl) refl in
          let now : path ((k, view p t) ∷ new) k ≡ k ∷ path new p = rw (eq-eqb k k refl) refl in
          old ∙ ap (λ ps. k ∷ ps) a.path_was ∙ ap (λ ps. ps ++ drop 1 (path w v)) (sym now) ∙ ap (λ ps. path ((k, view p t) ∷ new) k ++ drop 1 ps) (sym (path_older k (view p t) w v n)));
    }

pub held_view : (k p : ℕ) (t : Trans) (w : World) (v : ℕ) → (k ≡ v → ⊥) → is_listed (path ((k, view p t) ∷ w) k) v ≡ is_listed (path w p) v
held_view k p t w v n = rw (eq-eqb k k refl, ne_eqb k v n) refl

after_view : (k p : ℕ) (t : Trans) (w new : World) (v : ℕ) (l : Look) → (k ≡ v → ⊥) → IsShowable w p t → After w new v p l → After ((k, view p t) ∷ w) ((k, view p t) ∷ new) v k l
after_view k p t w new v l n s (inl a) =
    let P : ArrayDef → Type 0 = λ x. (q : ℕ) (y : Trans) → x ≡ view q y → Stays w new q in
    inl (newest_stays w new k (view p t) (λ q y e. let f : p ≡ q = cc in subst (λ x. Stays w new x) f a.0), held_view k p t w v n ∙ a.1)
after_view k p t w new v l n s (inr a) = inr (held_view k p t w v n ∙ a.0, view_below k p t w new v l n s a.1)

-- the newest array, which isn't the one that was cut
after_itself : (k : ℕ) (d : ArrayDef) (w new : World) (v : ℕ) (l : Look) → (k ≡ v → ⊥) → IsAllowed w d → ((p : ℕ) → After w new v p l) → After ((k, d) ∷ w) ((k, d) ∷ new) v k l
after_itself k (root ty ds es) w new v l n s f = inl (newest_stays w new k (root ty ds es) (λ p t e. cc), rw (eq-eqb k k refl, ne_eqb k v n) refl)
after_itself k (view p t) w new v l n s f = after_view k p t w new v l n s (f p)

pub after : (w : World) (v u : ℕ) (l : Look) (es : List ℤ) → IsSound w → look w v ≡ Some l → After w (replaced w v (root l.ty l.dims es)) v u l
after [] v u l es s h = cc
after ((k, d) ∷ w) v u l es s h = elim (cases_eq k v) [
  | inl e ↦ (let P : World → Type 0 = λ n. After ((k, d) ∷ w) n v u l in
      let Q : ℕ → Type 0 = λ x. look ((k, d) ∷ w) x ≡ Some l → After ((k, d) ∷ w) ((k, root l.ty l.dims es) ∷ w) x u l in
      subst P (sym (replaced_newest k d w v (root l.ty l.dims es) s.0 e)) (subst Q e (after_newest k d w u l es s.0) h))
  | inr n ↦ (let new : World = replaced w v (root l.ty l.dims es) in
      let below : look w v ≡ Some l = sym (look_older k d w v n) ∙ h in
      let P : World → Type 0 = λ x. After ((k, d) ∷ w) x v u l in
      subst P (sym (replaced_older k d w v (root l.ty l.dims es) n)) (elim (cases_eq k u) [
        | inl e ↦ (let Q : ℕ → Type 0 = λ x. After ((k, d) ∷ w) ((k, d) ∷ replaced w v (root l.ty l.dims es)) v x l in
            subst Q e (after_itself k d w (replaced w v (root l.ty l.dims es)) v l n s.1 (λ p. after w v p l es s.2 below)))
        | inr o ↦ after_older k d w (replaced w v (root l.ty l.dims es)) v u l s.0 n o (after w v u l es s.2 below)
      ]))
]

-- a shorter path refuses no more
shorter : (ps qs : List ℕ) (r : Result (List ℕ) Refusal) → length qs ≤ length ps → refusal_at ps r ≡ None → refusal_at qs r ≡ None
shorter ps qs (Err e) c h = cc
shorter ps qs (Ok ds) c h = grind (arith, nat_tests)

showable_below : (w new : World) (v p : ℕ) (t : Trans) (l : Look) → IsViewOfCut w new v p l → IsShowable w p t → IsShowable new p t
showable_below w new v p t l a s =
    let P : Option Look → Type 0 = λ o. IsSomeAnd o (λ m. Unit {0}) in
    let dims : dims_in w p ≡ dims_in new p = ap (λ o. option_map_or (λ (x : Look). x.dims) o []) a.was ∙ sym (ap (λ o. option_map_or (λ (x : Look). x.dims) o []) a.look_is) in
    record {
      well_formed = s.well_formed;
      live = subst P (sym a.look_is) tt;
      allowed = shorter (path w p) (path new p) (child_dims t (dims_in new p)) (omega (arith, ap length a.path_was, length-append (path new p) (drop 1 (path w v))))
          (ap (λ ds. refusal_at (path w p) (child_dims t ds)) (sym dims) ∙ s.allowed);
    }

shown_after : (w new : World) (v p : ℕ) (t : Trans) (l : Look) → IsShowable w p t → After w new v p l → IsShowable new p t
shown_after w new v p t l s (inl a) = showable w new p t a.0.look_is a.0.path_is s
shown_after w new v p t l s (inr a) = showable_below w new v p t l a.1 s

allowed_after : (w new : World) (v : ℕ) (d : ArrayDef) (l : Look) → IsAllowed w d → ((p : ℕ) → After w new v p l) → IsAllowed new d
allowed_after w new v (root ty ds es) l a f = a
allowed_after w new v (view p t) l a f = shown_after w new v p t l a (f p)

pub cut_sound : (w : World) (v : ℕ) (l : Look) (es : List ℤ) → IsSound w → look w v ≡ Some l → IsDims l.dims × IsMade l.ty l.dims es → IsSound (replaced w v (root l.ty l.dims es))
cut_sound [] v l es s h a = tt
cut_sound ((k, d) ∷ w) v l es s h a = elim (cases_eq k v) [
  | inl e ↦ subst IsSound (sym (replaced_newest k d w v (root l.ty l.dims es) s.0 e)) (s.0, a, s.2)
  | inr n ↦ (let below : look w v ≡ Some l = sym (look_older k d w v n) ∙ h in
      subst IsSound (sym (replaced_older k d w v (root l.ty l.dims es) n))
      (below_replaced w k v (root l.ty l.dims es) s.0, allowed_after w (replaced w v (root l.ty l.dims es)) v d l s.1 (λ p. after w v p l es s.2 below), cut_sound w v l es s.2 below a))
]
