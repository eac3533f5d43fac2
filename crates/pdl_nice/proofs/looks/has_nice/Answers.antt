use Rattle.std.proofs.Common.{sym, ◌∙◌, ap}
use Rattle.pdl_lex.specs.Written.{written}
use Rattle.pdl_nice.specs.declared.looks.Before.TheVariants.{Other as another}
use Rattle.pdl_nice.specs.Ends.{looks_nice}
use Rattle.pdl_nice.proofs.LookTokens.{looks_are, nice_looks}
use Rattle.pdl_nice.proofs.looks.has_nice.Goals as goal

pub returns : goal.returns
returns c =
    c.looks_nice.ensures ∙ (ap (looks_nice another) (sym (looks_are c.args.text.now 0 c.args.tokens.now))
    ∙ sym (nice_looks another (written c.args.text.now 0 c.args.tokens.now)))
