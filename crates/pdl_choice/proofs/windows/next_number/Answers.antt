use Rattle.std.proofs.Common.{sym}
use Rattle.std.proofs.Math.Nat.{mod-eq_of_lt}
use Rattle.pdl_choice.proofs.ShapeSteps.{last_remainder}
use Rattle.pdl_choice.proofs.windows.next_number.Goals as goal

pub returns-then-number-count : goal.returns-then-number-count
returns-then-number-count c = sym (mod-eq_of_lt c.if-number-count.true)

pub returns-else-number-count : goal.returns-else-number-count
returns-else-number-count c = last_remainder c.args.number c.args.count c.requires c.if-number-count.false
