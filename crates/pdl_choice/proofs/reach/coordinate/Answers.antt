use Rattle.std.proofs.Common.{unsigned_abs, ◌≡◌, ◌<◌, of_z, to_z, w64, pos, ◌+ℤ◌, arith}
use Rattle.std.proofs.lemmas.Int.{ints}
use Rattle.pdl_choice.proofs.EdgeLemmas.{inside_edge}
use Rattle.pdl_choice.proofs.reach.coordinate.Goals as goal

pub returns-then-number-from-clause-value : goal.returns-then-number-from-clause-value
returns-then-number-from-clause-value c =
    let number = unsigned_abs (to_z w64 (of_z w64 c.saturating_add-number.result)) in
    let below : number < c.args.size = grind (arith, ints) in
    let same : c.args.value +ℤ pos c.args.offset ≡ pos number = grind (arith, ints) in
    inside_edge c.args.edge c.args.size (c.args.value +ℤ pos c.args.offset) number same below
