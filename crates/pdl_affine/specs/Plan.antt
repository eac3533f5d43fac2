-- What a plan is seen as.
use Rattle.std.specs.Prelude.{ℕ, List}
use Rattle.pdl_affine.specs.declared.Affine.{Affine}

-- a transformation, and the dimensions of the parent that it is planned for
pub record Plan : Type 0 where
  pub trans : Affine
  pub parent : List ℕ
