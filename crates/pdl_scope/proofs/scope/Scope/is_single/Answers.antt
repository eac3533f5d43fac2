use Rattle.std.proofs.Common.{◌≡◌, sym, subst}
use Rattle.std.specs.Prelude.{◌==◌, is_some}
use Rattle.pdl_world.specs.Sound.{IsLive}
use Rattle.pdl_scope.specs.Scope.{Scope as Seen}
use Rattle.pdl_world.specs.World.{elements}
use Rattle.pdl_machine.specs.Fills.{only}
use Rattle.pdl_scope.proofs.WorldCounts.{single}
use Rattle.pdl_scope.proofs.scope.Scope.is_single.Goals as goal

pub returns : goal.returns
returns c =
    let P : Seen → Type 0 = λ s. IsLive s.arrays.world c.args.id in
    let live : IsLive c.self.inside.engine.world c.args.id = subst P (sym c.self.view_is) c.requires in
    let Q : Seen → Type 0 = λ s. (c.elements_of.result == 1) ≡ is_some (only (elements s.arrays.world c.args.id)) in
    subst Q c.self.view_is (single c.self.inside.engine.world c.args.id c.dims.result.now c.elements_of.result live c.dims.ensures.now c.elements_of.ensures.count)
