-- Windows (PDL::API, affine transformations): how an array is shown over the elements of its base.
use Rattle.std.specs.Prelude.{ℕ, ◌==◌, if◌then◌else◌, List, [], ◌∷◌, Option, Some, None, option_and_then, Result, Ok, Err}
use Rattle.std.specs.Option.{option_map_or}
use Rattle.pdl_shape.specs.Triple.{Triple, whole_triple}
use Rattle.pdl_affine.specs.Windows.{composed}
use Rattle.pdl_world.specs.declared.Trans.{Trans}
use Rattle.pdl_world.specs.declared.Trans.TheVariants.{Affine, Index, Where, Range}
use Rattle.pdl_shape.specs.Refusals.{Refusal}
use Rattle.pdl_world.specs.Formula.{child_dims}
use Rattle.pdl_world.specs.World.{World, root, view}

-- an array that keeps elements, and the triple over these that shows the array
pub record Window : Type 0 where
  pub base : ℕ
  pub triple : Triple

-- the triple of a view over the base that its parent is shown over, if it can be shown over that:
-- an affine view, unless it is a clump of dimensions that don't join
abbrev pub over : Trans → Triple → Option Triple
over (Affine t) above = composed t above
over (Index ds ind) above = None
over (Where ds ps) above = None
over (Range ds ind sizes edge) above = None

abbrev pub own_window : ℕ → Result (List ℕ) Refusal → Option Window
own_window k (Ok ds) = Some (record { base = k; triple = whole_triple ds })
own_window k (Err refusal) = None

abbrev pub window_over : (k : ℕ) → Trans → (above : Window) → Option Triple → Option Window
window_over k t above (Some triple) = Some (record { base = above.base; triple = triple })
window_over k t above None = own_window k (child_dims t above.triple.dims)

-- the window of the view k on what its parent is shown by: over the parent's base, or else its own
abbrev pub narrowed : ℕ → Trans → Window → Option Window
narrowed k t above = window_over k t above (over t above.triple)

-- the base of an array and the triple over it
abbrev pub window : World → ℕ → Option Window
window [] v = None
window ((k, root ty ds es) ∷ w) v = if k == v
    then Some (record { base = k; triple = whole_triple ds })
    else window w v
window ((k, view p t) ∷ w) v =
    let below = window w (if k == v then p else v) in
    if k == v then option_and_then (narrowed k t) below else below

-- the array whose elements show this one; one that isn't there is its own
abbrev pub base : World → ℕ → ℕ
base w v = option_map_or (λ x. x.base) (window w v) v
