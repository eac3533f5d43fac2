-- How arrays are shown over their bases.
use Rattle.std.proofs.Common.{◌≡◌, ◌⊎◌, ℕ, ℤ, pos, ◌<◌, ◌≤◌, List, [], ◌∷◌, length, Option, Some, None, option_and_then, IsOk, IsSomeAnd, Result, Ok, Err, inl, inr, refl, sym, ◌∙◌, ap, subst, arith}
use Rattle.std.specs.Option.{option_map_or}
use Rattle.std.proofs.lemmas.Bool.{cases_lt, eq-eqb, ne_eqb}
use Rattle.std.proofs.lemmas.Bool.Decides.{eqb_tells}
use Rattle.std.proofs.lemmas.List.{get_or-map}
use Rattle.std.proofs.lemmas.List.FromFn.{length-map-range_with_len, get_or-map-range_with_len}
use Rattle.pdl_lemmas.specs.Numbers.{pos-lt}
use Rattle.pdl_shape.specs.Laws.{PositionLaws, SizeLaws, WholesAreInOrder, WholesAreTriples}
use Rattle.pdl_shape.specs.Places.{place_in, places_of}
use Rattle.pdl_shape.specs.Refusals.{Refusal}
use Rattle.pdl_shape.specs.Shape.{IsDims, IsWithin, position_of, size_of}
use Rattle.pdl_shape.specs.Triple.{IsTriple, Reaches, Triple, place_of, whole_triple}
use Rattle.pdl_affine.specs.declared.Affine.{Affine}
use Rattle.pdl_affine.specs.Laws.{ComposedShowViews, IsViewOver, SourcesLieWithin}
use Rattle.pdl_affine.specs.Views.{dims as affine_dims, source as affine_source}
use Rattle.pdl_affine.specs.Windows.{composed}
use Rattle.pdl_world.specs.declared.Trans.{Trans}
use Rattle.pdl_world.specs.declared.Trans.TheVariants.{Affine as AffineView, Index, Where, Range}
use Rattle.pdl_world.specs.Formula.{child_dims, source}
use Rattle.pdl_elem.specs.declared.Ty.{Ty}
use Rattle.pdl_world.specs.Paths.{path}
use Rattle.pdl_world.specs.Sound.{NumbersBelow, IsLive, IsSound}
use Rattle.pdl_world.specs.Windows.{Window, narrowed, over, own_window, window, window_over}
use Rattle.pdl_world.specs.WindowLaws.{LiveHaveWindows, WindowsShowArrays}
use Rattle.pdl_world.specs.World.{World, ArrayDef, root, view, Look, look_of_root, look, entry, through, through_places}
use Rattle.pdl_world.proofs.SoundDimensions.{IsThrough, look_dims, through_is}
use Rattle.pdl_world.proofs.WorldLawsProved.{new_live, ok_of}
use Rattle.pdl_world.proofs.WorldLooks.{HasRoot, IsShown, look_older, look_view, through_root}

-- what these proofs take from the layers below
pub record Facts : Type 0 where
  pub positions : PositionLaws
  pub sizes : SizeLaws
  pub wholes : WholesAreInOrder
  pub triples : WholesAreTriples
  pub sources : SourcesLieWithin
  pub composed : ComposedShowViews

-- an array and its base, by what is seen of both
pub record ShownAs (v : ℕ) (x : Window) (seen below : Option Look) (own : Option Window) : Type 0 where
  pub root_is : option_map_or (λ a. a.root) below x.base ≡ option_map_or (λ a. a.root) seen v
  pub own_is : own ≡ Some (record { base = x.base; triple = whole_triple (option_map_or (λ a. a.dims) below []) })
  pub dims_are : option_map_or (λ a. a.dims) seen [] ≡ x.triple.dims
  pub is_triple : IsTriple x.triple
  pub reaches : Reaches x.triple (size_of (option_map_or (λ a. a.dims) below []))
  pub places : (cs : List ℕ) (i : ℕ) → IsWithin x.triple.dims cs → place_of x.triple cs ≡ pos i
      → entry (option_map_or (λ a. a.places) seen []) (position_of x.triple.dims cs) ≡ entry (option_map_or (λ a. a.places) below []) i

abbrev ShownIn : World → ℕ → Window → Type 0
ShownIn w v x = ShownAs v x (look w v) (look w x.base) (window w x.base)

-- no number that an array can't have has a window
window_past : (w : World) (n v : ℕ) → NumbersBelow n w → n ≤ v → window w v ≡ None
window_past [] n v b h = refl
window_past ((k, root ty ds es) ∷ w) n v b h = rw (ne_eqb k v (omega arith)) (window_past w n v b.1 h)
window_past ((k, view p t) ∷ w) n v b h = rw (ne_eqb k v (omega arith)) (window_past w n v b.1 h)

window_low : (w : World) (n v : ℕ) (x : Window) → NumbersBelow n w → window w v ≡ Some x → v < n
window_low w n v x b h = elim (cases_lt v n) [
  | inl low ↦ low
  | inr past ↦ (let e : None ≡ Some x = sym (window_past w n v b past) ∙ h in cc)
]

pub window_older : (k : ℕ) (d : ArrayDef) (w : World) (v : ℕ) → (k ≡ v → ⊥) → window ((k, d) ∷ w) v ≡ window w v
window_older k (root ty ds es) w v h = rw (ne_eqb k v h) refl
window_older k (view p t) w v h = rw (ne_eqb k v h) refl

-- a newer array changes nothing of it
older : (k : ℕ) (d : ArrayDef) (w : World) (v : ℕ) (x : Window) → NumbersBelow k w → (k ≡ v → ⊥) → ShownIn w v x → ShownIn ((k, d) ∷ w) v x
older k d w v x b n s =
    let low : x.base < k = window_low w k x.base (record { base = x.base; triple = whole_triple (option_map_or (λ a. a.dims) (look w x.base) []) }) b s.own_is in
    let m : k ≡ x.base → ⊥ = λ e. absurd (omega (arith, low, e)) in
    rw (look_older k d w v n, look_older k d w x.base m, window_older k d w x.base m) s

-- an array over itself
own_array : Facts → (v : ℕ) (l : Look) → IsDims l.dims → ShownAs v (record { base = v; triple = whole_triple l.dims }) (Some l) (Some l) (Some (record { base = v; triple = whole_triple l.dims }))
own_array f v l d = record {
  root_is = refl;
  own_is = refl;
  dims_are = refl;
  is_triple = f.triples l.dims d;
  reaches = λ cs h. rw (f.wholes l.dims cs h) (pos-lt (position_of l.dims cs) (size_of l.dims) (f.positions.position_below l.dims cs h));
  places = λ cs i h e. (let same : pos (position_of l.dims cs) ≡ pos i = sym (f.wholes l.dims cs h) ∙ e in
      let z : position_of l.dims cs ≡ i = cc in ap (entry l.places) z);
}

-- the place of a view at coordinates is its parent's at their source
through_at : Facts → (a : Affine) (parent ds cs : List ℕ) (ps : List (Option ℕ)) → IsWithin ds cs
    → entry (through_places (places_of ds parent (source (AffineView a) parent)) ps) (position_of ds cs) ≡ entry ps (position_of parent (affine_source a parent cs))
through_at f a parent ds cs ps h =
    let q : ℕ = position_of ds cs in
    let is : List (Option ℕ) = places_of ds parent (source (AffineView a) parent) in
    let low : position_of ds cs < size_of ds = f.positions.position_below ds cs h in
    let in_list : position_of ds cs < length (places_of ds parent (source (AffineView a) parent)) = omega (arith, low, length-map-range_with_len (place_in ds parent (source (AffineView a) parent)) 0 (size_of ds)) in
    get_or-map (option_and_then (entry ps)) is (position_of ds cs) None None in_list
    ∙ ap (option_and_then (entry ps)) (get_or-map-range_with_len (place_in ds parent (source (AffineView a) parent)) 0 (size_of ds) (position_of ds cs) (position_of ds cs) None low (omega arith))
    ∙ ap (λ at. entry ps (position_of parent (affine_source a parent at))) (f.positions.coordinates_again ds cs h)

-- a view over its parent's base
over_base : Facts → (k : ℕ) (a : Affine) (l m : Look) (p : ℕ) (above : Window) (u : Triple) (below : Option Look) (own : Option Window) → ShownAs p above (Some l) below own → through (AffineView a) l ≡ Some m → composed a above.triple ≡ Some u
    → ShownAs k (record { base = above.base; triple = u }) (Some m) below own
over_base f k a l m p above u below own s e c =
    let t : IsThrough (AffineView a) l m = through_is (AffineView a) l m e in
    let r : HasRoot l m = through_root (AffineView a) l m e in
    let fits : affine_dims a above.triple.dims ≡ Ok m.dims = ap (affine_dims a) (sym s.dims_are) ∙ t.dims_are in
    let y : IsViewOver a above.triple u = f.composed a above.triple u m.dims s.is_triple fits c in
    let same : m.dims ≡ u.dims = (let z : Ok m.dims ≡ Ok u.dims = sym fits ∙ y.fits in cc) in
    record {
      root_is = s.root_is ∙ r.root_is;
      own_is = s.own_is;
      dims_are = same;
      is_triple = y.triple;
      reaches = λ cs h. (let there : IsWithin above.triple.dims (affine_source a above.triple.dims cs) = f.sources a above.triple.dims u.dims cs y.fits h in
          rw (y.shows cs h) (s.reaches (affine_source a above.triple.dims cs) there));
      places = λ cs i h e2. (let there : IsWithin above.triple.dims (affine_source a above.triple.dims cs) = f.sources a above.triple.dims u.dims cs y.fits h in
          let at : IsWithin m.dims cs = subst (λ ds. IsWithin ds cs) (sym same) h in
          ap (λ ds. entry m.places (position_of ds cs)) (sym same)
          ∙ ap (λ ps. entry ps (position_of m.dims cs)) t.places_are
          ∙ through_at f a l.dims m.dims cs l.places at
          ∙ ap (λ ds. entry l.places (position_of ds (affine_source a ds cs))) s.dims_are
          ∙ s.places (affine_source a above.triple.dims cs) i there (sym (y.shows cs h) ∙ e2));
    }

-- the window of the newest view, by what its parent is shown by
by_base : Facts → (k : ℕ) (t : Trans) (l m : Look) (p : ℕ) (above x : Window) (below : Option Look) (own : Option Window) → IsDims m.dims → ShownAs p above (Some l) below own → through t l ≡ Some m → (o : Option Triple) → over t above.triple ≡ o → window_over k t above o ≡ Some x
    → ((x.base ≡ k) × ShownAs k x (Some m) (Some m) (Some x)) ⊎ ((x.base ≡ above.base) × ShownAs k x (Some m) below own)
by_base f k t l m p above x below own d s e None n h =
    let y : IsThrough t l m = through_is t l m e in
    let fits : child_dims t above.triple.dims ≡ Ok m.dims = ap (child_dims t) (sym s.dims_are) ∙ y.dims_are in
    let z : Some (record { base = k; triple = whole_triple m.dims }) ≡ Some x = sym (ap (own_window k) fits) ∙ h in
    let same : record { base = k; triple = whole_triple m.dims } ≡ x = cc in
    inl (subst (λ y. (y.base ≡ k) × ShownAs k y (Some m) (Some m) (Some y)) same (refl, own_array f k m d))
by_base f k (AffineView a) l m p above x below own d s e (Some u) c h =
    let same : record { base = above.base; triple = u } ≡ x = cc in
    inr (subst (λ z. (z.base ≡ above.base) × ShownAs k z (Some m) below own) same (refl, over_base f k a l m p above u below own s e c))
by_base f k (Index ds ind) l m p above x below own d s e (Some u) c h = cc
by_base f k (Where ds ps) l m p above x below own d s e (Some u) c h = cc
by_base f k (Range ds ind ss edge) l m p above x below own d s e (Some u) c h = cc

-- what the newest view is shown through
pub record IsNarrowed (w : World) (k p : ℕ) (t : Trans) (x : Window) : Type 0 where
  pub above : Window
  pub parent : window w p ≡ Some above
  pub narrow : narrowed k t above ≡ Some x

pub is_narrowed : (w : World) (k p : ℕ) (t : Trans) (x : Window) (o : Option Window) → window w p ≡ o → option_and_then (narrowed k t) o ≡ Some x → IsNarrowed w k p t x
is_narrowed w k p t x (Some m) e h = record { above = m; parent = e; narrow = h }
is_narrowed w k p t x None e h = cc

newest_view : Facts → (w : World) (k p : ℕ) (t : Trans) (m : Look) (x : Window) (n : IsNarrowed w k p t x) → IsSound ((k, view p t) ∷ w) → IsShown w p t m → look ((k, view p t) ∷ w) k ≡ Some m → window ((k, view p t) ∷ w) k ≡ Some x → ShownIn w p n.above
    → ShownIn ((k, view p t) ∷ w) k x
newest_view f w k p t m x n s shows seen kept up =
    let d : IsDims m.dims = look_dims f.sizes ((k, view p t) ∷ w) k m s seen in
    let at : ShownAs p n.above (Some shows.above) (look w n.above.base) (window w n.above.base) = subst (λ o. ShownAs p n.above o (look w n.above.base) (window w n.above.base)) shows.parent up in
    let low : n.above.base < k = window_low w k n.above.base (record { base = n.above.base; triple = whole_triple (option_map_or (λ a. a.dims) (look w n.above.base) []) }) s.0 up.own_is in
    elim (by_base f k t shows.above m p n.above x (look w n.above.base) (window w n.above.base) d at shows.shows (over t n.above.triple) refl n.narrow) [
      | inl e ↦ (let i : ShownAs k x (look ((k, view p t) ∷ w) k) (look ((k, view p t) ∷ w) k) (window ((k, view p t) ∷ w) k) = rw (seen, kept) e.1 in
          subst (λ b. ShownAs k x (look ((k, view p t) ∷ w) k) (look ((k, view p t) ∷ w) b) (window ((k, view p t) ∷ w) b)) (sym e.0) i)
      | inr e ↦ (let differs : k ≡ n.above.base → ⊥ = λ z. absurd (omega (arith, low, z)) in
          let i : ShownAs k x (look ((k, view p t) ∷ w) k) (look ((k, view p t) ∷ w) n.above.base) (window ((k, view p t) ∷ w) n.above.base) = rw (seen, look_older k (view p t) w n.above.base differs, window_older k (view p t) w n.above.base differs) e.1 in
          subst (λ b. ShownAs k x (look ((k, view p t) ∷ w) k) (look ((k, view p t) ∷ w) b) (window ((k, view p t) ∷ w) b)) (sym e.0) i)
    ]

newest_root : Facts → (w : World) (k : ℕ) (ty : Ty) (ds : List ℕ) (es : List ℤ) → IsDims ds → ShownIn ((k, root ty ds es) ∷ w) k (record { base = k; triple = whole_triple ds })
newest_root f w k ty ds es d = rw (eq-eqb k k refl) (own_array f k (look_of_root k ty ds) d)

-- what is seen of a live array
seen_of : (w : World) (v : ℕ) (o : Option Look) → look w v ≡ o → IsSomeAnd o (λ l. Unit {0}) → (l : Look) × (look w v ≡ Some l)
seen_of w v (Some l) e h = (l, e)
seen_of w v None e h = absurd h

-- the newest view is seen through its parent
shown_through : (w : World) (k p : ℕ) (t : Trans) (m : Look) → look ((k, view p t) ∷ w) k ≡ Some m → IsShown w p t m
shown_through w k p t m h = elim (look_view k p t w k m h) [ inl e ↦ e.1 | inr e ↦ absurd (e.0 refl) ]

shown_in : Facts → (w : World) (v : ℕ) (x : Window) → IsSound w → window w v ≡ Some x → ShownIn w v x
shown_in f [] v x s h = cc
shown_in f ((k, root ty ds es) ∷ w) v x s h = elim (eqb_tells k v) [
  | inl t ↦ (let e : Some (record { base = k; triple = whole_triple ds }) ≡ Some x = rw t.0 at h in
      let same : record { base = k; triple = whole_triple ds } ≡ x = cc in
      subst (λ u. ShownIn ((k, root ty ds es) ∷ w) u x) t.1 (subst (λ y. ShownIn ((k, root ty ds es) ∷ w) k y) same (newest_root f w k ty ds es s.1.0)))
  | inr t ↦ (let e : window w v ≡ Some x = rw t.0 at h in older k (root ty ds es) w v x s.0 t.1 (shown_in f w v x s.2 e))
]
shown_in f ((k, view p t) ∷ w) v x s h = elim (eqb_tells k v) [
  | inl e ↦ (let z : option_and_then (narrowed k t) (window w p) ≡ Some x = rw e.0 at h in
      let n : IsNarrowed w k p t x = is_narrowed w k p t x (window w p) refl z in
      let live : IsLive ((k, view p t) ∷ w) k = new_live w k (view p t) s.1 in
      let m = seen_of ((k, view p t) ∷ w) k (look ((k, view p t) ∷ w) k) refl live in
      let kept : window ((k, view p t) ∷ w) k ≡ Some x = subst (λ u. window ((k, view p t) ∷ w) u ≡ Some x) (sym e.1) h in
      subst (λ u. ShownIn ((k, view p t) ∷ w) u x) e.1
      (newest_view f w k p t m.0 x n s (shown_through w k p t m.0 m.1) m.1 kept (shown_in f w p n.above s.2 n.parent)))
  | inr e ↦ (let z : window w v ≡ Some x = rw e.0 at h in older k (view p t) w v x s.0 e.1 (shown_in f w v x s.2 z))
]

pub windows_show_arrays : Facts → WindowsShowArrays
windows_show_arrays f = λ w v x s h.
    let y : ShownIn w v x = shown_in f w v x s h in
    record { root_is = y.root_is; own = y.own_is; dims_are = y.dims_are; is_triple = y.is_triple; reaches = y.reaches; places = y.places }

-- a window for each live array
own_some : (k : ℕ) (r : Result (List ℕ) Refusal) → IsOk r → IsSomeAnd (own_window k r) (λ x. Unit {0})
own_some k (Ok ds) h = tt
own_some k (Err e) h = cc

over_some : (k : ℕ) (t : Trans) (above : Window) (o : Option Triple) → IsOk (child_dims t above.triple.dims) → IsSomeAnd (window_over k t above o) (λ x. Unit {0})
over_some k t above (Some u) h = tt
over_some k t above None h = own_some k (child_dims t above.triple.dims) h

narrow_some : (w : World) (k p : ℕ) (t : Trans) (o : Option Window) → window w p ≡ o → IsSomeAnd o (λ x. Unit {0}) → ((above : Window) → window w p ≡ Some above → IsOk (child_dims t above.triple.dims)) → IsSomeAnd (option_and_then (narrowed k t) o) (λ x. Unit {0})
narrow_some w k p t None e h ok = absurd h
narrow_some w k p t (Some above) e h ok = over_some k t above (over t above.triple) (ok above e)

has_window : Facts → (w : World) (v : ℕ) → IsSound w → IsLive w v → IsSomeAnd (window w v) (λ x. Unit {0})
has_window f [] v s h = h
has_window f ((k, root ty ds es) ∷ w) v s h = elim (eqb_tells k v) [
  | inl t ↦ rw t.0 tt
  | inr t ↦ (let l : IsLive w v = rw t.0 at h in rw t.0 (has_window f w v s.2 l))
]
has_window f ((k, view p t) ∷ w) v s h = elim (eqb_tells k v) [
  | inl e ↦ (let above : IsSomeAnd (window w p) (λ x. Unit {0}) = has_window f w p s.2 s.1.live in
      rw e.0 (narrow_some w k p t (window w p) refl above (λ x y. (let z : ShownIn w p x = shown_in f w p x s.2 y in
      subst (λ ds. IsOk (child_dims t ds)) z.dims_are (ok_of (path w p) (child_dims t (option_map_or (λ a. a.dims) (look w p) [])) s.1.allowed)))))
  | inr e ↦ (let l : IsLive w v = rw e.0 at h in rw e.0 (has_window f w v s.2 l))
]

pub live_have_windows : Facts → LiveHaveWindows
live_have_windows f = λ w v s l. has_window f w v s l
