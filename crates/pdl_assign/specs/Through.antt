-- Assignments that go through the places of a view, past its own elements.
use Rattle.std.specs.Prelude.{◌≡◌, ◌≢◌, ℕ, false}
use Rattle.pdl_lexemes.specs.declared.AssignOp.{AssignOp}
use Rattle.pdl_world.specs.Paths.{root_of}
use Rattle.pdl_world.specs.Windows.{base}
use Rattle.pdl_engine.specs.State.{State, is_fresh}
use Rattle.pdl_assign.specs.Alike.{SetsAlike}

-- An assignment of u to v goes through the places of v: it sets the elements of u as they are, and v
-- is a view that is its own base and can't be lent.
pub record GoesThrough (sign : AssignOp) (s : State) (v u : ℕ) : Type 0 where
  pub alike : SetsAlike sign s.world v u
  pub own : base s.world v ≡ v
  pub view : root_of s.world v ≢ v
  pub stale : is_fresh s v ≡ false
