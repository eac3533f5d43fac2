-- The laws of worlds.
use Rattle.std.specs.List.{Contains}
use Rattle.std.proofs.lemmas.List.Elements.{All-weaker, All-contains}
use Rattle.std.proofs.Common.{◌⊎◌, suc, zero, ◌≡◌, ℕ, ℤ, pos, ◌<◌, true, false, List, [], ◌∷◌, length, map, get_or, All, Option, Some, None, option_and_then, IsOk, IsSomeAnd, Result, Ok, Err, inl, inr, refl, sym, ◌∙◌, ap, subst, arith}
use Rattle.std.specs.Option.{option_map_or}
use Rattle.std.proofs.lemmas.Bool.{cases_Bool, cases_lt, eq-eqb}
use Rattle.std.proofs.lemmas.Bool.Decides.{eqb_tells}
use Rattle.std.proofs.lemmas.List.{length-map, get_or-map, get_or_past, ext_get_or}
use Rattle.std.proofs.lemmas.List.FromFn.{length-map-range_with_len, get_or-map-range_with_len}
use Rattle.pdl_elem.specs.declared.Ty.{Ty}
use Rattle.pdl_elem.specs.declared.Ty.TheVariants.{Byte}
use Rattle.pdl_elem.specs.Types.{InRange}
use Rattle.pdl_shape.specs.Shape.{size_of}
use Rattle.pdl_world.specs.declared.Trans.{Trans}
use Rattle.pdl_shape.specs.Laws.{WriteLaws}
use Rattle.pdl_shape.specs.Places.{element_at, places_of, read, write}
use Rattle.pdl_shape.specs.Refusals.{Refusal}
use Rattle.pdl_world.specs.Formula.{child_dims, source}
use Rattle.pdl_world.specs.Paths.{path}
use Rattle.pdl_world.specs.Refused.{refusal_at}
use Rattle.pdl_world.specs.World.{World, ArrayDef, root, view, Look, look_of_root, look, through, seen_through, entry, through_places, is_among, has_repeats, elements, root_elements, set_elements, assign, assign_through}
use Rattle.pdl_world.specs.Sound.{IsAllowed, IsSound, IsLive}
use Rattle.pdl_world.specs.Laws.{LooksStay, Reads, kept_values, ReadsBack, PlacesLieWithin, AssignsSoundly, JoinsSoundly, OlderStay, NewIsLive}
use Rattle.pdl_world.proofs.WorldLooks.{through_root, look_root, look_view, look_older, live_below, root_below, look_set}
use Rattle.pdl_world.proofs.SoundRoots.{elements_older, elements_set, elements_set_same, seen_in_range, sound_set}

looks_through : (w : World) (o : Option Look) (u : ℕ) (vs : List ℤ) → look (assign_through w o vs) u ≡ look w u
looks_through w None u vs = refl
looks_through w (Some l) u vs = look_set w l.root (write l.places vs (root_elements w l.root)) u

pub looks_stay : LooksStay
looks_stay = λ w v u vs. looks_through w (look w v) u vs

-- the world after an assignment to an array of which l is seen
assigned : (w : World) (v : ℕ) (l : Look) (vs : List ℤ) → look w v ≡ Some l → assign w v vs ≡ set_elements w l.root (write l.places vs (root_elements w l.root))
assigned w v l vs h = ap (λ o. assign_through w o vs) h

-- the elements after a write are numbers of the type where the values and the elements are
pub written_in_range : WriteLaws → (P : ℤ → Type 0) (ps : List (Option ℕ)) (vs es : List ℤ) → All P vs → All P es → All P (write ps vs es)
written_in_range laws P ps vs es a b = All-weaker (λ z. Contains vs z ⊎ Contains es z) P (λ z h. elim h [ inl c ↦ All-contains P vs z a c | inr c ↦ All-contains P es z b c ]) (write ps vs es) (laws.given ps vs es)

sound_through : WriteLaws → (w : World) (v : ℕ) (vs : List ℤ) (o : Option Look) → look w v ≡ o → IsSound w → All (InRange (option_map_or (λ l. l.ty) o Byte)) vs → IsSound (assign_through w o vs)
sound_through laws w v vs None h s a = s
sound_through laws w v vs (Some l) h s a = sound_set w v l (write l.places vs (root_elements w l.root)) s h (laws.as_many l.places vs (root_elements w l.root)) (written_in_range laws (InRange l.ty) l.places vs (root_elements w l.root) a (seen_in_range w v l s h))

pub assigns_soundly : WriteLaws → AssignsSoundly
assigns_soundly laws = λ w v vs s a. sound_through laws w v vs (look w v) refl s a

pub joins_soundly : JoinsSoundly
joins_soundly = λ w k d s b a. (b, a, s)

pub older_stay : OlderStay
older_stay = λ w k v d b l. look_older k d w v (let low = live_below w k v b l in omega arith)

seen_is : (t : Trans) (l : Look) (r : Result (List ℕ) Refusal) → IsOk r → IsSomeAnd (seen_through t l r) (λ m. Unit {0})
seen_is t l (Ok ds) h = tt
seen_is t l (Err e) h = cc

pub ok_of : (ps : List ℕ) (r : Result (List ℕ) Refusal) → refusal_at ps r ≡ None → IsOk r
ok_of ps (Ok ds) h = refl
ok_of ps (Err e) h = cc

through_is : (t : Trans) (ps : List ℕ) (o : Option Look) → IsSomeAnd o (λ l. Unit {0}) → refusal_at ps (child_dims t (option_map_or (λ l. l.dims) o [])) ≡ None
    → IsSomeAnd (option_and_then (through t) o) (λ m. Unit {0})
through_is t ps None h a = h
through_is t ps (Some l) h a = seen_is t l (child_dims t l.dims) (ok_of ps (child_dims t l.dims) a)

pub new_live : (w : World) (k : ℕ) (d : ArrayDef) → IsAllowed w d → IsLive ((k, d) ∷ w) k
new_live w k (root ty ds es) a = rw (eq-eqb k k refl) tt
new_live w k (view p t) a = rw (eq-eqb k k refl) (through_is t (path w p) (look w p) a.live a.allowed)

pub new_is_live : NewIsLive
new_is_live = λ w k d a. new_live w k d a

-- places of a root
whole_within : (k : ℕ) (ty : Ty) (ds : List ℕ) (j i : ℕ) → get_or (look_of_root k ty ds).places j None ≡ Some i → i < size_of ds
whole_within k ty ds j i h = elim (cases_lt j (size_of ds)) [
  | inl low ↦ (let e : Some j ≡ Some i = sym (get_or-map-range_with_len Some 0 (size_of ds) j j None low (omega arith)) ∙ h in
      let s : j ≡ i = cc in omega arith)
  | inr past ↦ (let e : None ≡ Some i = sym (get_or_past (look_of_root k ty ds).places j None (omega (arith, length-map-range_with_len Some 0 (size_of ds)))) ∙ h in cc)
]

-- a place of a view is one of its parent
entry_of : (ps : List (Option ℕ)) (o : Option ℕ) (i : ℕ) → option_and_then (entry ps) o ≡ Some i → (q : ℕ) × (get_or ps q None ≡ Some i)
entry_of ps None i h = cc
entry_of ps (Some q) i h = (q, h)

view_place : (t : Trans) (m l : Look) (r : Result (List ℕ) Refusal) (j i : ℕ) → seen_through t m r ≡ Some l → get_or l.places j None ≡ Some i → (q : ℕ) × (get_or m.places q None ≡ Some i)
view_place t m l (Err e) j i s h = cc
view_place t m l (Ok ds) j i s h =
    let is : List (Option ℕ) = places_of ds m.dims (source t m.dims) in
    let f : Option ℕ → Option ℕ = option_and_then (entry m.places) in
    let k : record { root = m.root; ty = m.ty; dims = ds; places = through_places is m.places } ≡ l = cc in
    let e : get_or (map f is) j None ≡ Some i = ap (λ x. get_or x.places j None) k ∙ h in
    elim (cases_lt j (length is)) [
      | inl low ↦ entry_of m.places (get_or is j None) i (sym (get_or-map f is j None None low) ∙ e)
      | inr past ↦ (let n : None ≡ Some i = sym (get_or_past (map f is) j None (omega (arith, length-map is f))) ∙ e in cc)
    ]

within : (w : World) (v : ℕ) (l : Look) (j i : ℕ) → IsSound w → look w v ≡ Some l → get_or l.places j None ≡ Some i → i < length (root_elements w l.root)
within [] v l j i s h g = cc
within ((k, root ty ds es) ∷ w) v l j i s h g = elim (look_root k ty ds es w v l h) [
  | inl e ↦ (let P : Look → Type 0 = λ m. get_or m.places j None ≡ Some i → i < length (root_elements ((k, root ty ds es) ∷ w) m.root) in
      let here : P (look_of_root k ty ds) = λ p. rw (eq-eqb k k refl) (omega (arith, whole_within k ty ds j i p, s.1.1.count)) in
      subst P e.1 here g)
  | inr e ↦ rw (elements_older k (root ty ds es) w l.root (root_below w k v l s.0 e.1)) (within w v l j i s.2 e.1 g)
]
within ((k, view p t) ∷ w) v l j i s h g = elim (look_view k p t w v l h) [
  | inl e ↦ (let q = view_place t e.1.above l (child_dims t e.1.above.dims) j i e.1.shows g in
      let P : ℕ → Type 0 = λ r. i < length (root_elements w r) in
      subst P (through_root t e.1.above l e.1.shows).root_is (within w p e.1.above q.0 i s.2 e.1.parent q.1))
  | inr e ↦ within w v l j i s.2 e.1 g
]

pub places_lie_within : PlacesLieWithin
places_lie_within = λ w v l j i s h g. within w v l j i s h g

-- the elements of any array after an assignment to another
pub reads : Reads
reads = λ w v u l m vs h g.
    let new : List ℤ = write l.places vs (root_elements w l.root) in
    let w' : World = set_elements w l.root new in
    ap (λ x. elements x u) (assigned w v l vs h)
    ∙ ap (λ o. option_map_or (λ n. read n.places (root_elements w' n.root)) o []) (look_set w l.root new u ∙ g)
    ∙ ap (read m.places) (elements_set w v l m.root new h)

-- the value at a position, if it has a place
abbrev value_if : Option ℕ → ℤ → ℤ
value_if None x = pos 0
value_if (Some i) x = x

length_kept : (ps : List (Option ℕ)) (vs : List ℤ) → length vs ≡ length ps → length (kept_values ps vs) ≡ length ps
length_kept [] vs c = refl
length_kept (p ∷ ps) [] c = absurd (omega arith)
length_kept (None ∷ ps) (x ∷ vs) c = ap suc (length_kept ps vs (omega arith))
length_kept (Some i ∷ ps) (x ∷ vs) c = ap suc (length_kept ps vs (omega arith))

kept_at : (ps : List (Option ℕ)) (vs : List ℤ) (j : ℕ) → length vs ≡ length ps → j < length ps → get_or (kept_values ps vs) j (pos 0) ≡ value_if (get_or ps j None) (get_or vs j (pos 0))
kept_at [] vs j c l = absurd (omega arith)
kept_at (p ∷ ps) [] j c l = absurd (omega arith)
kept_at (None ∷ ps) (x ∷ vs) zero c l = refl
kept_at (Some i ∷ ps) (x ∷ vs) zero c l = refl
kept_at (None ∷ ps) (x ∷ vs) (suc j) c l = kept_at ps vs j (omega arith) (omega arith)
kept_at (Some i ∷ ps) (x ∷ vs) (suc j) c l = kept_at ps vs j (omega arith) (omega arith)

-- two positions have different places where there are no repeats
among_at : (ps : List (Option ℕ)) (i k : ℕ) → k < length ps → get_or ps k None ≡ Some i → is_among i ps ≡ true
among_at [] i k l e = absurd (omega arith)
among_at (None ∷ ps) i zero l e = cc
among_at (None ∷ ps) i (suc k) l e = among_at ps i k (omega arith) e
among_at (Some j ∷ ps) i zero l e = (let z : j ≡ i = cc in rw (eq-eqb i j (sym z)) refl)
among_at (Some j ∷ ps) i (suc k) l e = elim (eqb_tells i j) [
  | inl t ↦ rw t.0 refl
  | inr t ↦ rw t.0 (among_at ps i k (omega arith) e)
]

once_after : (q : ℕ) (ps : List (Option ℕ)) → has_repeats (Some q ∷ ps) ≡ false → (is_among q ps ≡ false) × (has_repeats ps ≡ false)
once_after q ps r = elim (cases_Bool (is_among q ps)) [
  | inl y ↦ (let z : true ≡ false = rw y at r in absurd (cc))
  | inr n ↦ (n, (let z : has_repeats ps ≡ false = rw n at r in z))
]

pub apart : (ps : List (Option ℕ)) → has_repeats ps ≡ false → (j k i : ℕ) → j < k → k < length ps → get_or ps j None ≡ Some i → get_or ps k None ≡ Some i → ⊥
apart [] r j k i a l e g = absurd (omega arith)
apart (p ∷ ps) r j zero i a l e g = absurd (omega arith)
apart (None ∷ ps) r zero (suc k) i a l e g = cc
apart (None ∷ ps) r (suc j) (suc k) i a l e g = apart ps r j k i (omega arith) (omega arith) e g
apart (Some q ∷ ps) r zero (suc k) i a l e g =
    let z : q ≡ i = cc in
    let m : true ≡ false = sym (among_at ps i k (omega arith) g) ∙ ap (λ x. is_among x ps) (sym z) ∙ (once_after q ps r).0 in
    cc
apart (Some q ∷ ps) r (suc j) (suc k) i a l e g = apart ps (once_after q ps r).1 j k i (omega arith) (omega arith) e g

-- one element that was put
back_at : WriteLaws → (ps : List (Option ℕ)) (vs es : List ℤ) (j : ℕ) (o : Option ℕ) → get_or ps j None ≡ o → ((i : ℕ) → o ≡ Some i → i < length es) → has_repeats ps ≡ false → length vs ≡ length ps → j < length ps
    → element_at (write ps vs es) o ≡ value_if o (get_or vs j (pos 0))
back_at laws ps vs es j None e low r c h = refl
back_at laws ps vs es j (Some i) e low r c h = laws.last ps vs es j i (pos 0) (omega arith) (low i refl) e (λ k a b g. apart ps r j k i a (omega arith) e g)

read_back : WriteLaws → (ps : List (Option ℕ)) (vs es : List ℤ) → has_repeats ps ≡ false → ((j i : ℕ) → get_or ps j None ≡ Some i → i < length es) → length vs ≡ length ps → read ps (write ps vs es) ≡ kept_values ps vs
read_back laws ps vs es r low c = ext_get_or (pos 0) (read ps (write ps vs es)) (kept_values ps vs) (length-map ps (element_at (write ps vs es)) ∙ sym (length_kept ps vs c)) (λ j h.
    let l : j < length ps = omega (arith, length-map ps (element_at (write ps vs es))) in
    get_or-map (element_at (write ps vs es)) ps j None (pos 0) l ∙ back_at laws ps vs es j (get_or ps j None) refl (low j) r c l ∙ sym (kept_at ps vs j c l))

pub reads_back : WriteLaws → ReadsBack
reads_back laws = λ w v l vs s h r c.
    let w' : World = set_elements w l.root (write l.places vs (root_elements w l.root)) in
    let seen : look w' v ≡ Some l = look_set w l.root (write l.places vs (root_elements w l.root)) v ∙ h in
    ap (λ x. elements x v) (assigned w v l vs h) ∙ ap (λ o. option_map_or (λ m. read m.places (root_elements w' m.root)) o []) seen ∙ ap (λ es. read l.places es) (elements_set_same w v l (write l.places vs (root_elements w l.root)) h) ∙ read_back laws l.places vs (root_elements w l.root) r (λ j i g. within w v l j i s h g) c
