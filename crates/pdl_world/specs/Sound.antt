-- Which worlds are sound.
use Rattle.std.specs.Prelude.{◌≡◌, ◌<◌, ℕ, List, [], ◌∷◌, None, IsTrue, IsSomeAnd}
use Rattle.pdl_shape.specs.Shape.{IsDims}
use Rattle.pdl_buf.specs.Made.{IsMade}
use Rattle.pdl_world.specs.declared.Trans.{Trans}
use Rattle.pdl_world.specs.Formula.{is_well_formed}
use Rattle.pdl_world.specs.Refused.{view_refusal}
use Rattle.pdl_world.specs.World.{World, ArrayDef, root, view, look}

-- each of these numbers, as those of a world's arrays, is below n
abbrev pub NumbersBelow : {A : Type 0} → (n : ℕ) → List (ℕ × A) → Type 0
NumbersBelow n [] = Unit {0}
NumbersBelow n ((k, a) ∷ rest) = (k < n) × NumbersBelow n rest

-- the array is in the world
abbrev pub IsLive : World → ℕ → Type 0
IsLive w v = IsSomeAnd (look w v) (λ l. Unit {0})

-- the array can be shown so: the transformation is well formed, and nothing refuses such a view
pub record IsShowable (w : World) (p : ℕ) (t : Trans) : Type 0 where
  pub well_formed : IsTrue (is_well_formed t)
  pub live : IsLive w p
  pub allowed : view_refusal w p t ≡ None

-- the array may join this world: a root has its elements, and a view has a parent that it can show
abbrev pub IsAllowed : World → ArrayDef → Type 0
IsAllowed w (root ty ds es) = IsDims ds × IsMade ty ds es
IsAllowed w (view p t) = IsShowable w p t

-- numbers rise, and each array was allowed in the world of the older ones
abbrev pub IsSound : World → Type 0
IsSound [] = Unit {0}
IsSound ((k, d) ∷ w) = NumbersBelow k w × IsAllowed w d × IsSound w
