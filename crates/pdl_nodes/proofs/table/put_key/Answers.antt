use Rattle.pdl_nodes.proofs.table.put_key.Goals as goal
use Rattle.pdl_nodes.proofs.ChildrenCounted.{added, taken_back}

pub take-requires : goal.take-requires
take-requires c = record { noted = λ v. added c.args.children.now c.add.new.self c.args.parent c.args.id v c.in_ok-add.ensures.ok }

pub returns-in-Err-clause-same : goal.returns-in-Err-clause-same
returns-in-Err-clause-same c = taken_back c.args.children.now c.add.new.self c.take.new.self c.args.parent c.args.id c.in_ok-add.ensures.ok c.take.ensures
