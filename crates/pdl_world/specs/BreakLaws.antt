-- What holds of every reshape, where the array may have views.
use Rattle.std.specs.Prelude.{◌≡◌, ◌≢◌, ◌≤◌, ℕ, ℤ, option_and_then, true, false, List, Some, Ok, Err}
use Rattle.pdl_elem.specs.declared.Ty.{Ty}
use Rattle.pdl_shape.specs.Places.{places_of, read}
use Rattle.pdl_shape.specs.Refusals.{Refusal}
use Rattle.pdl_shape.specs.Shape.{IsDims}
use Rattle.pdl_world.specs.declared.Trans.{Trans}
use Rattle.pdl_world.specs.Cut.{reshape, breaks}
use Rattle.pdl_world.specs.CutLaws.{HasSameNumbers}
use Rattle.pdl_world.specs.Formula.{child_dims, source}
use Rattle.pdl_world.specs.Laws.{IsSeenAs}
use Rattle.pdl_world.specs.Paths.{path, root_of}
use Rattle.pdl_world.specs.Sound.{IsLive, IsSound}
use Rattle.pdl_world.specs.SweepLaws.{IsSeenAsBefore}
use Rattle.pdl_world.specs.Swept.{is_listed, Has}
use Rattle.pdl_world.specs.World.{World, root, view, Look, look, through, dims_in, ty_in, elements}

-- the new world is sound exactly where nothing breaks
pub record IsDecided (w : World) (v : ℕ) (ds : List ℕ) : Type 0 where
  pub stays : breaks w v ds ≡ false → IsSound (reshape w v ds)
  pub sound : IsSound (reshape w v ds) → breaks w v ds ≡ false

abbrev pub SoundnessDecides : Type 0
SoundnessDecides =
    (w : World) (v : ℕ) (ds : List ℕ) → IsSound w → IsDims ds → IsDecided w v ds

-- the formula refuses the view u of an array that is seen in the new world, and that reached v
pub record IsBroken (w : World) (v : ℕ) (ds : List ℕ) (u : ℕ) : Type 0 where
  pub parent : ℕ
  pub trans : Trans
  pub seen : Look
  pub refusal : Refusal
  pub there : Has w u (view parent trans)
  pub below : is_listed (path w parent) v ≡ true
  pub look_is : look (reshape w v ds) parent ≡ Some seen
  pub refused : child_dims trans seen.dims ≡ Err refusal

-- where something breaks, the formula refuses some view
abbrev pub FormulasBreak : Type 0
FormulasBreak =
    (w : World) (v : ℕ) (ds : List ℕ) → IsSound w → breaks w v ds ≡ true
    → (u : ℕ) × IsBroken w v ds u

-- and where the formula refuses a view over a parent that is seen in the new world, it breaks
abbrev pub RefusedBreak : Type 0
RefusedBreak =
    (w : World) (v : ℕ) (ds : List ℕ) (k p : ℕ) (t : Trans) (m : Look) (e : Refusal) → IsSound w
    → Has w k (view p t) → look (reshape w v ds) p ≡ Some m → k ≢ v → child_dims t m.dims ≡ Err e
    → breaks w v ds ≡ true

-- an array that isn't shown through the one that was reshaped is seen as before
abbrev pub ReshapesLeaveOthers : Type 0
ReshapesLeaveOthers =
    (w : World) (v u : ℕ) (ds : List ℕ) → IsSound w → is_listed (path w u) v ≡ false
    → IsSeenAsBefore w (reshape w v ds) u

-- the same arrays are there
abbrev pub ReshapesLeaveNumbers : Type 0
ReshapesLeaveNumbers =
    (w : World) (v : ℕ) (ds : List ℕ) → IsSound w → breaks w v ds ≡ false
    → HasSameNumbers w (reshape w v ds)

-- each view has at each position its parent's element at the source of the position, and 0
-- where that is nothing
abbrev pub ViewsAreSeen : Type 0
ViewsAreSeen =
    (w : World) (k p : ℕ) (t : Trans) (ds : List ℕ) → IsSound w → Has w k (view p t)
    → child_dims t (dims_in w p) ≡ Ok ds
    → IsSeenAs
    w
    k
    (root_of w p)
    (ty_in w p)
    ds
    (read (places_of ds (dims_in w p) (source t (dims_in w p))) (elements w p))

-- a view but v is seen through its parent, as both are in the new world
abbrev pub LooksFollow : Type 0
LooksFollow =
    (w : World) (v : ℕ) (ds : List ℕ) (k p : ℕ) (t : Trans) → IsSound w → Has w k (view p t) → k ≢ v
    → look (reshape w v ds) k ≡ option_and_then (through t) (look (reshape w v ds) p)

-- the array is v or reaches it by parents, and has these dimensions in the new world
pub record IsDerivedBelow (w : World) (v : ℕ) (ds : List ℕ) (k : ℕ) (dims : List ℕ) : Type 0 where
  pub reaches : is_listed (path w k) v ≡ true
  pub seen : Look
  pub look_is : look (reshape w v ds) k ≡ Some seen
  pub dims_are : seen.dims ≡ dims

-- how arrays below v are found, the oldest first: v itself, a view of one, and no other; none of
-- them is older
pub record BelowLaws : Type 0 where
  pub begins :
      (w : World) (v : ℕ) (ds : List ℕ) → IsSound w → IsLive w v → IsDerivedBelow w v ds v ds
  pub goes_on :
      (w : World) (v : ℕ) (ds : List ℕ) (k p : ℕ) (t : Trans) (es fs : List ℕ) → IsSound w
      → Has w k (view p t) → k ≢ v → IsDerivedBelow w v ds p es → child_dims t es ≡ Ok fs
      → IsDerivedBelow w v ds k fs
  pub breaks :
      (w : World) (v : ℕ) (ds : List ℕ) (k p : ℕ) (t : Trans) (es : List ℕ) (e : Refusal)
      → IsSound w → Has w k (view p t) → k ≢ v → IsDerivedBelow w v ds p es → child_dims t es ≡ Err e
      → breaks w v ds ≡ true
  pub not_on :
      (w : World) (v k p : ℕ) (t : Trans) → IsSound w → Has w k (view p t) → k ≢ v
      → is_listed (path w k) v ≡ is_listed (path w p) v
  pub not_root :
      (w : World) (v k : ℕ) (ty : Ty) (es : List ℕ) (fs : List ℤ) → IsSound w
      → Has w k (root ty es fs) → k ≢ v → is_listed (path w k) v ≡ false
  pub not_older : (w : World) (v u : ℕ) → IsSound w → is_listed (path w u) v ≡ true → v ≤ u
