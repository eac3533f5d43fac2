-- Assignments that can be made at once, and those that are made block by block.
use Rattle.std.specs.Prelude.{◌≡◌, ℕ, ℤ, true, List, [], length, All, Result, Ok}
use Rattle.pdl_elem.specs.Types.{InRange}
use Rattle.pdl_shape.specs.Shape.{size_of}
use Rattle.pdl_lexemes.specs.declared.AssignOp.{AssignOp}
use Rattle.pdl_world.specs.Sound.{IsLive}
use Rattle.pdl_world.specs.World.{dims_in, ty_in}
use Rattle.pdl_engine.specs.State.{State as Engine, is_fresh}
use Rattle.pdl_assign.specs.Blocks.{CanBlock}
use Rattle.pdl_machine.specs.State.{with_arrays}
use Rattle.pdl_machine.specs.Flows.{followers}
use Rattle.pdl_machine.specs.Step.{assigned, flowed}
use Rattle.pdl_machine.specs.Then.{and_then}
use Rattle.pdl_scope.specs.Answers.{Runs}
use Rattle.pdl_scope.specs.Scope.{Scope, engine_of, machine}
use Rattle.pdl_scope.specs.declared.fault.ScopeFault.{ScopeFault}

-- the target is there and can be lent, and the values are as many as its elements, and of its type
pub record CanAssign (e : Engine) (target : ℕ) (values : List ℤ) : Type 0 where
  pub live : IsLive e.world target
  pub fresh : is_fresh e target ≡ true
  pub count : length values ≡ size_of (dims_in e.world target)
  pub in_range : All (InRange (ty_in e.world target)) values

-- u was assigned to v by a sign, after which flows followed, or what refuses it kept all as it was;
-- nothing is printed
abbrev pub Assigns : {T : Type 0} → AssignOp → (v u : ℕ) → (old new : Scope)
    → Result T ScopeFault → Type 0
Assigns sign v u old new result =
    let values = assigned sign old.arrays v u in
    let wanted = and_then values (λ a. Ok (flowed (with_arrays (machine old) a), [])) in
    Runs wanted old new [] [] result

-- Nothing but the values is to be found of an assignment to v: no slot is attached, and no flow
-- follows.
pub record IsAlone (s : Scope) (v : ℕ) : Type 0 where
  pub unwatched : s.watches ≡ []
  pub unfollowed : followers s.arrays.world s.flows v ≡ []

-- an assignment of u to v can be made block by block: both can be lent, and no block reads what one
-- before it wrote
pub record GoesInBlocks (sign : AssignOp) (s : Scope) (v u : ℕ) : Type 0 where
  pub target_fresh : is_fresh (engine_of s) v ≡ true
  pub source_fresh : is_fresh (engine_of s) u ≡ true
  pub can : CanBlock sign s.arrays.world v u
