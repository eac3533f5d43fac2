use Rattle.std.proofs.Common.{◌≡◌, pos, arith, ap, sym, ◌∙◌, to_z}
use Rattle.std.proofs.lemmas.Int.{to_z-of_z}
use Rattle.std.specs.Int.{w32}
use Rattle.pdl_numbers.proofs.WriteRuns.{neighbours_written}
use Rattle.pdl_numbers.proofs.writes.write_run.Goals as goal

pub returns-then-start-values : goal.returns-then-start-values
returns-then-start-values g c =
    let one : c.args.inc ≡ pos 1 = sym (to_z-of_z w32 c.args.inc c.ranges.inc) ∙ ap (to_z w32) c.if-inc-eq1.true in
    c.write_from.ensures ∙ neighbours_written c.args.place c.args.inc c.args.values.now c.args.numbers.now one (omega arith)
