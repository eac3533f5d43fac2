use Rattle.std.specs.Prelude.{IsSomeAnd}
use Rattle.pdl_ops.specs.Laws.{IsArray}
use Rattle.pdl_flow.specs.Formula.{arrays_in, tree_of}
use Rattle.pdl_flow.specs.Inputs.{input_of}
use Rattle.pdl_flow.proofs.MeaningLemmas.{all_left, all_right}
use Rattle.pdl_flow.proofs.evaluation.both_have_inputs.Goals as goal

pub returns-clause-left : goal.returns-clause-left
returns-clause-left c =
    all_left (λ k. IsSomeAnd (input_of c.args.inputs.now k) IsArray) (arrays_in (tree_of c.args.left.now)) (arrays_in (tree_of c.args.right.now)) c.requires

pub returns-clause-right : goal.returns-clause-right
returns-clause-right c =
    all_right (λ k. IsSomeAnd (input_of c.args.inputs.now k) IsArray) (arrays_in (tree_of c.args.left.now)) (arrays_in (tree_of c.args.right.now)) c.requires
