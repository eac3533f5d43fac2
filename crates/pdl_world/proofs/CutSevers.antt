-- The laws of cuts and of other dimensions.
use Rattle.std.proofs.Common.{◌≡◌, ◌≢◌, ℕ, ℤ, pos, ◌<◌, true, false, inl, inr, List, [], ◌∷◌, length, get_or, All, Option, Some, None, IsSomeAnd, refl, sym, ◌∙◌, ap, subst, arith}
use Rattle.std.specs.Option.{option_map_or}
use Rattle.std.proofs.lemmas.Bool.{cases_eq, cases_lt, eq-eqb, or_right, or_left, or_cases, both_ways}
use Rattle.std.proofs.lemmas.Bool.Decides.{eqb_tells}
use Rattle.std.proofs.lemmas.List.{length-map, get_or_past}
use Rattle.std.proofs.lemmas.List.Elements.{All-map}
use Rattle.pdl_elem.specs.declared.Ty.{Ty}
use Rattle.pdl_elem.specs.declared.Ty.TheVariants.{Byte}
use Rattle.pdl_elem.specs.Types.{InRange}
use Rattle.pdl_elem.specs.Laws.{WrappingLaws}
use Rattle.pdl_shape.specs.Laws.{SizeLaws}
use Rattle.pdl_shape.specs.Places.{element_at, read}
use Rattle.pdl_shape.specs.Shape.{size_of}
use Rattle.pdl_buf.specs.Made.{IsMade}
use Rattle.pdl_world.specs.declared.Trans.{Trans}
use Rattle.pdl_world.specs.Cut.{replaced, sever, has_views, fitted, reshape}
use Rattle.pdl_world.specs.CutLaws.{ShowsTheSame, CutsLeaveElements, IsRootIn, CutsAreRoots, RootsAreUncut, CutsLeaveOthers, CutsLeaveFamilies, IsViewOfCut, CutsTakeTheirViews, CutsSoundly, CutsLeaveNumbers, ViewsAreFound, ReshapedIsSeen}
use Rattle.pdl_world.specs.Laws.{IsSeenAs}
use Rattle.pdl_world.specs.Paths.{path, root_of}
use Rattle.pdl_world.specs.Sound.{IsSound, IsLive}
use Rattle.pdl_world.specs.SweepLaws.{IsSeenAsBefore}
use Rattle.pdl_world.specs.Swept.{is_listed, parents, Has}
use Rattle.pdl_world.specs.World.{World, ArrayDef, root, view, Look, look_of_root, look, ty_in, dims_in, elements, root_elements}
use Rattle.pdl_world.proofs.CutLemmas.{After, after, cut_sound}
use Rattle.pdl_world.proofs.SoundDimensions.{look_count, look_dims}
use Rattle.pdl_world.proofs.WorldLooks.{look_root, look_view, look_older, through_root, root_below}
use Rattle.pdl_world.proofs.WorldNewest.{read_whole, read_through}
use Rattle.pdl_world.proofs.WorldLawsProved.{new_is_live}
use Rattle.pdl_world.proofs.WorldReplaces.{below_replaced, length_replaced, replaced_newest, replaced_older, IsRooted, is_rooted, all_fitted, is_fitted}
use Rattle.pdl_world.proofs.SoundRoots.{elements_older, seen_in_range}
use Rattle.pdl_world.proofs.WorldStays.{seen_as_before}

-- the cut of an array of which l is seen
abbrev cut_of : World → ℕ → Look → World
cut_of w v l = replaced w v (root l.ty l.dims (elements w v))

severed : (w : World) (v : ℕ) (l : Look) → look w v ≡ Some l → sever w v ≡ cut_of w v l
severed w v l h = ap (λ o. replaced w v (root (option_map_or (λ (m : Look). m.ty) o Byte) (option_map_or (λ (m : Look). m.dims) o []) (elements w v))) h

-- an array that isn't there
live_none : (o : Option Look) → o ≡ None → IsSomeAnd o (λ m. Unit {0}) → ⊥
live_none None e l = l
live_none (Some m) e l = cc

pub dead_is : (w : World) (v : ℕ) (new : ArrayDef) → IsSound w → look w v ≡ None → replaced w v new ≡ w
dead_is [] v new s h = refl
dead_is ((k, d) ∷ w) v new s h = elim (cases_eq k v) [
  | inl e ↦ (let none : look ((k, d) ∷ w) k ≡ None = ap (look ((k, d) ∷ w)) e ∙ h in
      absurd (live_none (look ((k, d) ∷ w) k) none (new_is_live w k d s.1)))
  | inr n ↦ replaced_older k d w v new n ∙ ap (λ x. (k, d) ∷ x) (dead_is w v new s.2 (sym (look_older k d w v n) ∙ h))
]

-- a root
uncut : (w : World) (v : ℕ) (l : Look) (es : List ℤ) → IsSound w → look w v ≡ Some l → l.root ≡ v → es ≡ read l.places (root_elements w l.root) → replaced w v (root l.ty l.dims es) ≡ w
uncut [] v l es s h r e = cc
uncut ((k, root ty ds fs) ∷ w) v l es s h r e = elim (look_root k ty ds fs w v l h) [
  | inl y ↦ (let P : Look → Type 0 = λ m. es ≡ read m.places (root_elements ((k, root ty ds fs) ∷ w) m.root) → replaced ((k, root ty ds fs) ∷ w) v (root m.ty m.dims es) ≡ (k, root ty ds fs) ∷ w in
      let own : root_elements ((k, root ty ds fs) ∷ w) k ≡ fs = rw (eq-eqb k k refl) refl in
      let here : P (look_of_root k ty ds) = λ q. replaced_newest k (root ty ds fs) w v (root ty ds es) s.0 y.0
      ∙ ap (λ xs. (k, root ty ds xs) ∷ w) (q ∙ ap (read (look_of_root k ty ds).places) own ∙ read_whole (size_of ds) fs s.1.1.count) in
      subst P y.1 here e)
  | inr y ↦ (let low = root_below w k v l s.0 y.1 in
      replaced_older k (root ty ds fs) w v (root l.ty l.dims es) y.0
      ∙ ap (λ x. (k, root ty ds fs) ∷ x) (uncut w v l es s.2 y.1 r (e ∙ ap (read l.places) (elements_older k (root ty ds fs) w l.root low))))
]
uncut ((k, view p t) ∷ w) v l es s h r e = elim (look_view k p t w v l h) [
  | inl y ↦ (let low : y.1.above.root < k = root_below w k p y.1.above s.0 y.1.parent in
      let same : y.1.above.root ≡ v = (through_root t y.1.above l y.1.shows).root_is ∙ r in
      let one : k ≡ v = y.0 in absurd (omega arith))
  | inr y ↦ replaced_older k (view p t) w v (root l.ty l.dims es) y.0 ∙ ap (λ x. (k, view p t) ∷ x) (uncut w v l es s.2 y.1 r e)
]

pub elements_seen : (w : World) (v : ℕ) (l : Look) → look w v ≡ Some l → elements w v ≡ read l.places (root_elements w l.root)
elements_seen w v l h = ap (λ o. option_map_or (λ (m : Look). read m.places (root_elements w m.root)) o []) h

uncut_by : (w : World) (v : ℕ) (o : Option Look) → look w v ≡ o → IsSound w → option_map_or (λ (l : Look). l.root) o v ≡ v → sever w v ≡ w
uncut_by w v None h s r = dead_is w v (root (ty_in w v) (dims_in w v) (elements w v)) s h
uncut_by w v (Some l) h s r = severed w v l h ∙ uncut w v l (elements w v) s h r (elements_seen w v l h)

pub roots_are_uncut : RootsAreUncut
roots_are_uncut = λ w v s r. uncut_by w v (look w v) refl s r

-- what any array shows
shows_by : (w : World) (v u : ℕ) (l : Look) → look w v ≡ Some l → After w (cut_of w v l) v u l → ShowsTheSame w (cut_of w v l) u
shows_by w v u l h (inl a) = record {
  ty_is = ap (λ o. option_map_or (λ (m : Look). m.ty) o Byte) a.0.look_is;
  dims_are = ap (λ o. option_map_or (λ (m : Look). m.dims) o []) a.0.look_is;
  elems_are = (seen_as_before w (cut_of w v l) u a.0).elems_are;
}
shows_by w v u l h (inr a) =
    let m : Look = a.1.seen in
    let new : World = cut_of w v l in
    record {
      ty_is = ap (λ o. option_map_or (λ (x : Look). x.ty) o Byte) a.1.look_is ∙ sym (ap (λ o. option_map_or (λ (x : Look). x.ty) o Byte) a.1.was);
      dims_are = ap (λ o. option_map_or (λ (x : Look). x.dims) o []) a.1.look_is ∙ sym (ap (λ o. option_map_or (λ (x : Look). x.dims) o []) a.1.was);
      elems_are = elements_seen (cut_of w v l) u a.1.seen a.1.look_is
          ∙ ap (λ r. read a.1.seen.places (root_elements (cut_of w v l) r)) a.1.root_is
          ∙ ap (read a.1.seen.places) ((is_rooted w v l l.ty l.dims (elements w v) h).elems_are ∙ elements_seen w v l h)
          ∙ sym (elements_seen w u _ a.1.was ∙ read_through a.1.seen.places l.places (root_elements w l.root));
    }

shows_cases : (w : World) (v u : ℕ) (o : Option Look) → look w v ≡ o → IsSound w → ShowsTheSame w (sever w v) u
shows_cases w v u None h s = (let P : World → Type 0 = λ x. ShowsTheSame w x u in
    subst P (sym (dead_is w v (root (ty_in w v) (dims_in w v) (elements w v)) s h)) (record { ty_is = refl; dims_are = refl; elems_are = refl }))
shows_cases w v u (Some l) h s = (let P : World → Type 0 = λ x. ShowsTheSame w x u in
    subst P (sym (severed w v l h)) (shows_by w v u l h (after w v u l (elements w v) s h)))

pub cuts_leave_elements : CutsLeaveElements
cuts_leave_elements = λ w v u s. shows_cases w v u (look w v) refl s

pub cuts_are_roots : CutsAreRoots
cuts_are_roots = λ w v l s h.
    let y : IsRooted (cut_of w v l) v l.ty l.dims (elements w v) = is_rooted w v l l.ty l.dims (elements w v) h in
    let P : World → Type 0 = λ x. IsRootIn x v l in
    subst P (sym (severed w v l h)) (record { look_is = y.look_is; path_is = y.path_is })

-- other arrays
as_before : (w : World) (u : ℕ) → IsSeenAsBefore w w u
as_before w u = record { look_is = refl; elems_are = refl; path_is = refl }

others_by : (w : World) (v u : ℕ) (l : Look) → After w (cut_of w v l) v u l → is_listed (path w u) v ≡ false → IsSeenAsBefore w (cut_of w v l) u
others_by w v u l (inl a) h = seen_as_before w (cut_of w v l) u a.0
others_by w v u l (inr a) h = absurd (both_ways (is_listed (path w u) v) h a.0)

others_cases : (w : World) (v u : ℕ) (o : Option Look) → look w v ≡ o → IsSound w → is_listed (path w u) v ≡ false → IsSeenAsBefore w (sever w v) u
others_cases w v u None e s h = (let P : World → Type 0 = λ x. IsSeenAsBefore w x u in
    subst P (sym (dead_is w v (root (ty_in w v) (dims_in w v) (elements w v)) s e)) (as_before w u))
others_cases w v u (Some l) e s h = (let P : World → Type 0 = λ x. IsSeenAsBefore w x u in
    subst P (sym (severed w v l e)) (others_by w v u l (after w v u l (elements w v) s e) h))

pub cuts_leave_others : CutsLeaveOthers
cuts_leave_others = λ w v u s h. others_cases w v u (look w v) refl s h

families_by : (w : World) (v u : ℕ) (l : Look) → look w v ≡ Some l → After w (cut_of w v l) v u l → root_of w u ≢ root_of w v → IsSeenAsBefore w (cut_of w v l) u
families_by w v u l e (inl a) h = seen_as_before w (cut_of w v l) u a.0
families_by w v u l e (inr a) h = absurd (h (ap (λ o. option_map_or (λ (m : Look). m.root) o u) a.1.was ∙ sym (ap (λ o. option_map_or (λ (m : Look). m.root) o v) e)))

families_cases : (w : World) (v u : ℕ) (o : Option Look) → look w v ≡ o → IsSound w → root_of w u ≢ root_of w v → IsSeenAsBefore w (sever w v) u
families_cases w v u None e s h = (let P : World → Type 0 = λ x. IsSeenAsBefore w x u in
    subst P (sym (dead_is w v (root (ty_in w v) (dims_in w v) (elements w v)) s e)) (as_before w u))
families_cases w v u (Some l) e s h = (let P : World → Type 0 = λ x. IsSeenAsBefore w x u in
    subst P (sym (severed w v l e)) (families_by w v u l e (after w v u l (elements w v) s e) h))

pub cuts_leave_families : CutsLeaveFamilies
cuts_leave_families = λ w v u s h. families_cases w v u (look w v) refl s h

views_by : (w : World) (v u : ℕ) (l : Look) → After w (cut_of w v l) v u l → is_listed (path w u) v ≡ true → IsViewOfCut w (cut_of w v l) v u l
views_by w v u l (inl a) h = absurd (both_ways (is_listed (path w u) v) a.1 h)
views_by w v u l (inr a) h = a.1

pub cuts_take_their_views : CutsTakeTheirViews
cuts_take_their_views = λ w v u l s e h.
    let P : World → Type 0 = λ x. IsViewOfCut w x v u l in
    subst P (sym (severed w v l e)) (views_by w v u l (after w v u l (elements w v) s e) h)

-- soundness
one_in : WrappingLaws → (ty : Ty) (es : List ℤ) (p : Option ℕ) → All (InRange ty) es → InRange ty (element_at es p)
one_in wraps ty es None a = wraps.zero ty
one_in wraps ty es (Some i) a = elim (cases_lt i (length es)) [
  | inl low ↦ a i (pos 0) low
  | inr past ↦ subst (InRange ty) (sym (get_or_past es i (pos 0) past)) (wraps.zero ty)
]

read_in : WrappingLaws → (ty : Ty) (ps : List (Option ℕ)) (es : List ℤ) → All (InRange ty) es → All (InRange ty) (read ps es)
read_in wraps ty ps es a = All-map (InRange ty) (element_at es) ps (λ k d h. one_in wraps ty es (get_or ps k d) a)

elements_in : WrappingLaws → (w : World) (v : ℕ) (l : Look) → IsSound w → look w v ≡ Some l → All (InRange l.ty) (elements w v)
elements_in wraps w v l s h = subst (All (InRange l.ty)) (sym (elements_seen w v l h)) (read_in wraps l.ty l.places (root_elements w l.root) (seen_in_range w v l s h))

made : WrappingLaws → (w : World) (v : ℕ) (l : Look) → IsSound w → look w v ≡ Some l → IsMade l.ty l.dims (elements w v)
made wraps w v l s h = record {
  count = ap length (elements_seen w v l h) ∙ length-map l.places (element_at (root_elements w l.root)) ∙ look_count w v l h;
  in_range = elements_in wraps w v l s h;
}

sound_cases : SizeLaws → WrappingLaws → (w : World) (v : ℕ) (o : Option Look) → look w v ≡ o → IsSound w → IsSound (sever w v)
sound_cases laws wraps w v None h s = subst IsSound (sym (dead_is w v (root (ty_in w v) (dims_in w v) (elements w v)) s h)) s
sound_cases laws wraps w v (Some l) h s = subst IsSound (sym (severed w v l h)) (cut_sound w v l (elements w v) s h (look_dims laws w v l s h, made wraps w v l s h))

pub cuts_soundly : SizeLaws → WrappingLaws → CutsSoundly
cuts_soundly laws wraps = λ w v s. sound_cases laws wraps w v (look w v) refl s

-- the same numbers
same_live : (new : World) (u : ℕ) (o : Option Look) → look new u ≡ o → IsSomeAnd o (λ m. Unit {0}) → IsLive new u
same_live new u o e l = (let P : Option Look → Type 0 = λ x. IsSomeAnd x (λ m. Unit {0}) in subst P (sym e) l)

live_after : (w : World) (v u : ℕ) (l : Look) → After w (cut_of w v l) v u l → IsLive w u → IsLive (cut_of w v l) u
live_after w v u l (inl a) h = same_live (cut_of w v l) u (look w u) a.0.look_is h
live_after w v u l (inr a) h = same_live (cut_of w v l) u (Some a.1.seen) a.1.look_is tt

live_cases : (w : World) (v u : ℕ) (o : Option Look) → look w v ≡ o → IsSound w → IsLive w u → IsLive (sever w v) u
live_cases w v u None e s h = (let P : World → Type 0 = λ x. IsLive x u in subst P (sym (dead_is w v (root (ty_in w v) (dims_in w v) (elements w v)) s e)) h)
live_cases w v u (Some l) e s h = (let P : World → Type 0 = λ x. IsLive x u in subst P (sym (severed w v l e)) (live_after w v u l (after w v u l (elements w v) s e) h))

pub cuts_leave_numbers : CutsLeaveNumbers
cuts_leave_numbers = λ w v s. record {
  count = length_replaced w v (root (ty_in w v) (dims_in w v) (elements w v));
  below = λ n b. below_replaced w n v (root (ty_in w v) (dims_in w v) (elements w v)) b;
  live = λ u h. live_cases w v u (look w v) refl s h;
}

-- other dimensions
abbrev pub new_elements : World → ℕ → List ℕ → List ℤ
new_elements w v ds = fitted (size_of ds) (elements w v)

pub reshaped : (w : World) (v : ℕ) (l : Look) (ds : List ℕ) → look w v ≡ Some l → reshape w v ds ≡ replaced w v (root l.ty ds (new_elements w v ds))
reshaped w v l ds h = ap (λ o. replaced w v (root (option_map_or (λ (m : Look). m.ty) o Byte) ds (new_elements w v ds))) h

root_seen_as : (new : World) (v : ℕ) (ty : Ty) (ds : List ℕ) (es : List ℤ) → length es ≡ size_of ds → IsRooted new v ty ds es → IsSeenAs new v v ty ds es
root_seen_as new v ty ds es c y = record {
  root_is = ap (λ o. option_map_or (λ (m : Look). m.root) o v) y.look_is;
  ty_is = ap (λ o. option_map_or (λ (m : Look). m.ty) o Byte) y.look_is;
  dims_are = ap (λ o. option_map_or (λ (m : Look). m.dims) o []) y.look_is;
  elems_are = elements_seen new v (look_of_root v ty ds) y.look_is ∙ ap (read (look_of_root v ty ds).places) y.elems_are ∙ read_whole (size_of ds) es c;
}

pub reshaped_is_seen : ReshapedIsSeen
reshaped_is_seen = λ w v l ds h.
    let P : World → Type 0 = λ x. IsSeenAs x v v l.ty ds (fitted (size_of ds) (elements w v)) in
    subst P (sym (reshaped w v l ds h)) (root_seen_as (replaced w v (root l.ty ds (new_elements w v ds))) v l.ty ds (new_elements w v ds) (is_fitted (size_of ds) (elements w v)).count
    (is_rooted w v l l.ty ds (new_elements w v ds) h))

pub remade : WrappingLaws → (w : World) (v : ℕ) (l : Look) (ds : List ℕ) → IsSound w → look w v ≡ Some l → IsMade l.ty ds (new_elements w v ds)
remade wraps w v l ds s h = record {
  count = (is_fitted (size_of ds) (elements w v)).count;
  in_range = all_fitted (InRange l.ty) (size_of ds) (elements w v) (wraps.zero l.ty) (elements_in wraps w v l s h);
}

-- the parent of a view
is_parent : (d : ArrayDef) (v : ℕ) (t : Trans) → d ≡ view v t → is_listed (parents d) v ≡ true
is_parent d v t e = (let P : ArrayDef → Type 0 = λ x. is_listed (parents x) v ≡ true in
    let here : P (view v t) = rw (eq-eqb v v refl) refl in subst P (sym e) here)

views_found : (w : World) (v u : ℕ) (t : Trans) → Has w u (view v t) → has_views w v ≡ true
views_found [] v u t h = absurd h
views_found ((k, d) ∷ w) v u t (inl y) = or_left (is_listed (parents d) v) (has_views w v) (is_parent d v t y.1)
views_found ((k, d) ∷ w) v u t (inr y) = or_right (is_listed (parents d) v) (has_views w v) (views_found w v u t y)

parent_is : (d : ArrayDef) (v : ℕ) → is_listed (parents d) v ≡ true → (t : Trans) × (d ≡ view v t)
parent_is (root ty ds es) v h = cc
parent_is (view p t) v h = elim (eqb_tells p v) [
  | inl y ↦ (t, ap (λ x. view x t) y.1)
  | inr y ↦ (let e : false ≡ true = rw y.0 at h in cc)
]

views_there : (w : World) (v : ℕ) → has_views w v ≡ true → (u : ℕ) × (t : Trans) × Has w u (view v t)
views_there [] v h = cc
views_there ((k, d) ∷ w) v h = elim (or_cases (is_listed (parents d) v) (has_views w v) h) [
  | inl y ↦ (let q = parent_is d v y in (k, q.0, inl (refl, q.1)))
  | inr y ↦ (let q = views_there w v y in (q.0, q.1, inr q.2))
]

pub views_are_found : ViewsAreFound
views_are_found = λ w v. record { there = λ h. views_there w v h; found = λ u t h. views_found w v u t h }
