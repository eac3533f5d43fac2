-- What the newest array of a world shows, and the paths.
use Rattle.std.proofs.Common.{◌≡◌, ◌<◌, ℕ, ℤ, pos, inl, inr, List, [], ◌∷◌, length, map, Option, Some, None, option_and_then, IsSomeAnd, Ok, refl, sym, ◌∙◌, ap, arith}
use Rattle.std.specs.List.{range_with_len}
use Rattle.std.specs.Option.{option_map_or}
use Rattle.std.proofs.lemmas.Bool.{cases_lt, eq-eqb}
use Rattle.std.proofs.lemmas.List.{length-map, get_or-map, get_or_past, ext_get_or}
use Rattle.std.proofs.lemmas.List.FromFn.{length-map-range_with_len, get_or-map-range_with_len}
use Rattle.pdl_elem.specs.declared.Ty.TheVariants.{Byte}
use Rattle.pdl_shape.specs.Places.{element_at, places_of, read}
use Rattle.pdl_shape.specs.Shape.{size_of}
use Rattle.pdl_world.specs.declared.Trans.{Trans}
use Rattle.pdl_world.specs.Formula.{child_dims, source}
use Rattle.pdl_world.specs.Laws.{PathsStay, NumbersStay, OlderElementsStay, OlderPathsStay, LiveLieBelow, RootsAreInRange, IsSeenAs, NewRootIsSeen, NewRootIsWhole, NewViewIsSeen, NewRootHasPath, NewViewHasPath}
use Rattle.pdl_world.specs.Paths.{path}
use Rattle.pdl_world.specs.Sound.{NumbersBelow}
use Rattle.pdl_world.specs.World.{World, ArrayDef, root, view, Look, look_of_root, look, seen_through, through, entry, through_places, root_elements, assign_through}
use Rattle.pdl_shape.specs.Places.{write}
use Rattle.pdl_world.proofs.WorldLooks.{look_older, path_older, live_below, root_below, below_set, path_set}
use Rattle.pdl_world.proofs.SoundRoots.{elements_older, seen_in_range}

-- an assignment
paths_through : (w : World) (o : Option Look) (u : ℕ) (vs : List ℤ) → path (assign_through w o vs) u ≡ path w u
paths_through w None u vs = refl
paths_through w (Some l) u vs = path_set w l.root (write l.places vs (root_elements w l.root)) u

pub paths_stay : PathsStay
paths_stay = λ w v u vs. paths_through w (look w v) u vs

below_through : (w : World) (n : ℕ) (o : Option Look) (vs : List ℤ) → NumbersBelow n w → NumbersBelow n (assign_through w o vs)
below_through w n None vs b = b
below_through w n (Some l) vs b = below_set w n l.root (write l.places vs (root_elements w l.root)) b

pub numbers_stay : NumbersStay
numbers_stay = λ w n v vs b. below_through w n (look w v) vs b

-- older arrays
pub live_lie_below : LiveLieBelow
live_lie_below = λ w n v b l. live_below w n v b l

pub roots_are_in_range : RootsAreInRange
roots_are_in_range = λ w v l s h. seen_in_range w v l s h

pub older_paths_stay : OlderPathsStay
older_paths_stay = λ w k v d b l. path_older k d w v (let low = live_below w k v b l in omega arith)

older_read : (w : World) (k : ℕ) (d : ArrayDef) (v : ℕ) (o : Option Look) → NumbersBelow k w → look w v ≡ o
    → option_map_or (λ l. read l.places (root_elements ((k, d) ∷ w) l.root)) o [] ≡ option_map_or (λ l. read l.places (root_elements w l.root)) o []
older_read w k d v None b h = refl
older_read w k d v (Some l) b h = ap (read l.places) (elements_older k d w l.root (root_below w k v l b h))

pub older_elements_stay : OlderElementsStay
older_elements_stay = λ w k v d b l.
    let low = live_below w k v b l in
    ap (λ o. option_map_or (λ m. read m.places (root_elements ((k, d) ∷ w) m.root)) o []) (look_older k d w v (omega arith)) ∙ older_read w k d v (look w v) b refl

-- a new root
pub read_whole : (n : ℕ) (es : List ℤ) → length es ≡ n → read (map Some (range_with_len 0 n)) es ≡ es
read_whole n es c =
    let ps : List (Option ℕ) = map Some (range_with_len 0 n) in
    let l : length (read ps es) ≡ n = length-map ps (element_at es) ∙ length-map-range_with_len Some 0 n in
    ext_get_or (pos 0) (read ps es) es (l ∙ sym c) (λ j h.
    let low : j < n = omega (arith, l) in
    get_or-map (element_at es) ps j None (pos 0) (omega (arith, length-map-range_with_len Some 0 n)) ∙ ap (element_at es) (get_or-map-range_with_len Some 0 n j j None low (omega arith)))

pub new_root_is_whole : NewRootIsWhole
new_root_is_whole = λ w k ty ds es. rw (eq-eqb k k refl) refl

pub new_root_is_seen : NewRootIsSeen
new_root_is_seen = λ w k ty ds es c. record {
  root_is = rw (eq-eqb k k refl) refl;
  ty_is = rw (eq-eqb k k refl) refl;
  dims_are = rw (eq-eqb k k refl) refl;
  elems_are = (let new : World = (k, root ty ds es) ∷ w in
      let here : root_elements new k ≡ es = rw (eq-eqb k k refl) refl in
      ap (λ o. option_map_or (λ (l : Look). read l.places (root_elements new l.root)) o []) (new_root_is_whole w k ty ds es)
      ∙ ap (read (look_of_root k ty ds).places) here ∙ read_whole (size_of ds) es c);
}

pub new_root_has_path : NewRootHasPath
new_root_has_path = λ w k ty ds es. rw (eq-eqb k k refl) refl

-- a new view
element_through : (ps : List (Option ℕ)) (es : List ℤ) (o : Option ℕ) → element_at es (option_and_then (entry ps) o) ≡ element_at (read ps es) o
element_through ps es None = refl
element_through ps es (Some q) = elim (cases_lt q (length ps)) [
  | inl low ↦ sym (get_or-map (element_at es) ps q None (pos 0) low)
  | inr past ↦ ap (element_at es) (get_or_past ps q None past) ∙ sym (get_or_past (read ps es) q (pos 0) (omega (arith, past, length-map ps (element_at es))))
]

-- reading through places of places
pub read_through : (is ps : List (Option ℕ)) (es : List ℤ) → read (through_places is ps) es ≡ read is (read ps es)
read_through [] ps es = refl
read_through (i ∷ is) ps es = ap (λ z. z ∷ read (through_places is ps) es) (element_through ps es i) ∙ ap (λ zs. element_at (read ps es) i ∷ zs) (read_through is ps es)

through_ok : (t : Trans) (l : Look) (ds : List ℕ) → child_dims t l.dims ≡ Ok ds → through t l ≡ seen_through t l (Ok ds)
through_ok t l ds h = ap (seen_through t l) h

view_seen : (w : World) (k p : ℕ) (t : Trans) (ds : List ℕ) (o : Option Look) → look w p ≡ o → IsSomeAnd o (λ l. Unit {0}) → child_dims t (option_map_or (λ l. l.dims) o []) ≡ Ok ds
    → IsSeenAs
    ((k, view p t) ∷ w)
    k
    (option_map_or (λ l. l.root) o p)
    (option_map_or (λ l. l.ty) o Byte)
    ds
    (read (places_of ds (option_map_or (λ l. l.dims) o []) (source t (option_map_or (λ l. l.dims) o []))) (option_map_or (λ l. read l.places (root_elements w l.root)) o []))
view_seen w k p t ds None e h c = absurd h
view_seen w k p t ds (Some l) e h c =
    let new : World = (k, view p t) ∷ w in
    let is : List (Option ℕ) = places_of ds l.dims (source t l.dims) in
    let m : Look = record { root = l.root; ty = l.ty; dims = ds; places = through_places is l.places } in
    let here : look new k ≡ option_and_then (through t) (look w p) = rw (eq-eqb k k refl) refl in
    let seen : look new k ≡ Some m = here ∙ ap (option_and_then (through t)) e ∙ through_ok t l ds c in
    record {
      root_is = ap (λ o. option_map_or (λ (x : Look). x.root) o k) seen;
      ty_is = ap (λ o. option_map_or (λ (x : Look). x.ty) o Byte) seen;
      dims_are = ap (λ o. option_map_or (λ (x : Look). x.dims) o []) seen;
      elems_are = ap (λ o. option_map_or (λ (x : Look). read x.places (root_elements w x.root)) o []) seen ∙ read_through is l.places (root_elements w l.root);
    }

pub new_view_is_seen : NewViewIsSeen
new_view_is_seen = λ w k p t ds l c. view_seen w k p t ds (look w p) refl l c

pub new_view_has_path : NewViewHasPath
new_view_has_path = λ w k p t. rw (eq-eqb k k refl) refl
