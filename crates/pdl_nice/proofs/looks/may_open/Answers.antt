use Rattle.std.proofs.Common.{arith}
use Rattle.pdl_nice.proofs.LookTokens.{other_byte}
use Rattle.pdl_nice.proofs.looks.may_open.Goals as goal

pub returns-then-at-text : goal.returns-then-at-text
returns-then-at-text c = λ _ to. let none = c.if-at-text.true in other_byte c.args.text.now c.args.at to (λ lt. absurd (omega (arith, lt, none)))

pub returns : goal.returns
returns c = λ other to. other_byte c.args.text.now c.args.at to (λ _. other)
