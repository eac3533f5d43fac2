-- A session keeps just the arrays and the flows that are needed.
use Rattle.std.proofs.Common.{◌≡◌, suc, [], ◌∷◌, length, refl, sym, ap, subst, ◌∙◌}
use Rattle.pdl_world.specs.SweepLaws.{ReachedAreSeenAsBefore}
use Rattle.pdl_world.specs.World.{World}
use Rattle.pdl_machine.specs.Laws.{SweepsByFewer}
use Rattle.pdl_machine.specs.State.{State, kept, with_world, IsSwept, IsWhole}
use Rattle.pdl_machine.specs.Tidy.{renumber, settled, tidy}
use Rattle.pdl_session.proofs.FlowNeeds.{settled_swept}

renumber_length : (w : World) → length (renumber w) ≡ length w
renumber_length [] = refl
renumber_length (a ∷ w) = ap suc (renumber_length w)

-- as many as are seen
pub live_is : (s : State) → IsSwept s → length s.arrays.world ≡ length (tidy s).arrays.world
live_is s all = sym (renumber_length (kept s) ∙ ap length all.arrays)

-- after the others went
pub tidied_after : (old new : State) → ReachedAreSeenAsBefore → SweepsByFewer → IsWhole old → new ≡ with_world (settled old) (kept old) → IsSwept new
tidied_after old new seen again whole is = let P : State → Type 0 = IsSwept in subst P (sym is) (settled_swept seen again old whole)
