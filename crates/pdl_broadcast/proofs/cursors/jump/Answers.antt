use Rattle.std.proofs.Common.{◌<◌, length, arith}
use Rattle.std.proofs.lemmas.List.{get_or_default}
use Rattle.std.proofs.lemmas.List.Edits.{map_over_more}
use Rattle.pdl_broadcast.specs.Cursor.{jumped}
use Rattle.pdl_broadcast.proofs.cursors.jump.Goals as goal

pub loop-cursor-preserved : goal.loop-cursor-preserved
loop-cursor-preserved c =
    let inside : c.loop-cursor.cursor-index < length c.loop-cursor.cursor-items = omega (arith, c.loop-cursor.auto.cursor-items) in
    rw c.landed-cursor.ensures
    (map_over_more (jumped c.args.dimension) c.args.cursors.now c.loop-cursor.cursor-items c.loop-cursor.cursor-index _ c.loop-cursor-test.true c.loop-cursor.invariant
    (get_or_default _ _ _ _ inside))
