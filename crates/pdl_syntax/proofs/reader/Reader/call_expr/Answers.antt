use Rattle.std.proofs.Common.{◌∙◌, ap}
use Rattle.pdl_syntax.specs.Tree.{call, none}
use Rattle.pdl_syntax.specs.TreeOf.{args_of}
use Rattle.pdl_syntax.proofs.TreeLemmas.{tree_of_call}
use Rattle.pdl_syntax.proofs.reader.Reader.call_expr.Goals as goal

pub returns-clause-ok : goal.returns-clause-ok
returns-clause-ok c =
    tree_of_call c.in_ok-name_of.field-0 c.args.args ∙ ap (λ n. call n (args_of c.args.args.items none)) c.in_ok-name_of.ensures
