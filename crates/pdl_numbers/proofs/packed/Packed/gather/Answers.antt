-- All numbers are those at their positions.
use Rattle.pdl_numbers.specs.Shown.{shown_through}
use Rattle.pdl_numbers.proofs.PlaceLists.{read_is}
use Rattle.pdl_numbers.proofs.packed.Packed.gather.Goals as goal

pub returns : goal.returns
returns g c =
    read_is c.args.positions.now (shown_through c.args.placement.now c.args.from.now) c.loop-i.self c.loop-i.i c.loop-i-test.false c.loop-i.invariant.count c.loop-i.invariant.done
