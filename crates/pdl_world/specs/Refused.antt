-- Why there is no such view of an array.
use Rattle.std.specs.Prelude.{ℕ, nat_lt, if◌then◌else◌, List, length, Option, Some, None, Result, Ok, Err}
use Rattle.pdl_shape.specs.Refusals.{Refusal}
use Rattle.pdl_world.specs.declared.Trans.{Trans}
use Rattle.pdl_world.specs.Formula.{child_dims}
use Rattle.pdl_world.specs.Paths.{depth_limit, path}
use Rattle.pdl_world.specs.World.{World, dims_in}

-- The formula refuses it, or its path to the root would have too many views.
pub data NoView : Type 0 where
  refused : (refusal : Refusal) → NoView
  too_deep : NoView

abbrev pub refusal_at : (path : List ℕ) → Result (List ℕ) Refusal → Option NoView
refusal_at path (Err refusal) = Some (refused refusal)
refusal_at path (Ok dims) = if nat_lt depth_limit (length path) then Some too_deep else None

-- the first refusal of the formula, or else that of a parent with as many views as there may be
abbrev pub view_refusal : World → (parent : ℕ) → Trans → Option NoView
view_refusal w parent t = refusal_at (path w parent) (child_dims t (dims_in w parent))
