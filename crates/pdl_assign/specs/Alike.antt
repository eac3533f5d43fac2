-- Assignments that set elements as they are.
use Rattle.std.specs.Prelude.{◌≡◌, ◌≢◌, ℕ}
use Rattle.pdl_lexemes.specs.declared.AssignOp.{AssignOp}
use Rattle.pdl_lexemes.specs.declared.AssignOp.TheVariants.{Set}
use Rattle.pdl_world.specs.Paths.{root_of}
use Rattle.pdl_world.specs.World.{World, dims_in, ty_in}

-- An assignment of u to v sets elements as they are: the sign is `.=`, and u is of another root, and
-- of the type and the dimensions of v. So the elements of u are the values, and none of v is read.
pub record SetsAlike (sign : AssignOp) (w : World) (v u : ℕ) : Type 0 where
  pub set : sign ≡ Set
  pub apart : root_of w u ≢ root_of w v
  pub same_type : ty_in w u ≡ ty_in w v
  pub same_dims : dims_in w u ≡ dims_in w v
