use Rattle.std.proofs.Common.{◌∙◌, arith}
use Rattle.pdl_lex.proofs.TokenWalks.{at-start, at-end}
use Rattle.pdl_lex.proofs.TokenSpans.{toks-spans}
use Rattle.pdl_lex.proofs.lexer.read_tokens.Goals as goal

pub loop-at-init : goal.loop-at-init
loop-at-init c = record {
  read = at-start c.args.text.now _ (c.reserve.ensures.items ∙ c.clear.ensures.items);
  within = omega arith;
}

pub returns-clause-exact : goal.returns-clause-exact
returns-clause-exact c = at-end c.args.text.now c.loop-at.at c.loop-at.found.items (omega arith) c.loop-at.invariant.read

pub returns-clause-spans : goal.returns-clause-spans
returns-clause-spans c = toks-spans c.args.text.now c.loop-at.found.items (at-end c.args.text.now c.loop-at.at c.loop-at.found.items (omega arith) c.loop-at.invariant.read)
