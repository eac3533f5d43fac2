use Rattle.std.proofs.Common.{arith}
use Rattle.pdl_code.proofs.LexingWalks.{at_start, at_end}
use Rattle.pdl_code.proofs.lexing.read_lexemes.Goals as goal

pub loop-at-init : goal.loop-at-init
loop-at-init c = record {
  read = at_start c.args.text.now c.new-lexemes.result.items c.new-lexemes.ensures.items;
  within = omega arith;
}

pub returns-clause-read : goal.returns-clause-read
returns-clause-read c = at_end c.args.text.now c.loop-at.at c.loop-at.lexemes.items (omega arith) c.loop-at.invariant.read
