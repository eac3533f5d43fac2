-- Assignments that copy elements.
use Rattle.std.specs.Prelude.{◌≡◌, ℕ}
use Rattle.pdl_lexemes.specs.declared.AssignOp.{AssignOp}
use Rattle.pdl_world.specs.Paths.{root_of}
use Rattle.pdl_world.specs.Windows.{base}
use Rattle.pdl_world.specs.World.{World}
use Rattle.pdl_assign.specs.Alike.{SetsAlike}

-- An assignment of u to v copies elements: it sets those of u as they are, and those of v stand in
-- its root.
pub record IsCopy (sign : AssignOp) (w : World) (v u : ℕ) : Type 0 where
  pub alike : SetsAlike sign w v u
  pub over_root : base w v ≡ root_of w v
