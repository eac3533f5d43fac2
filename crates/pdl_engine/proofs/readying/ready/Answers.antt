use Rattle.std.proofs.Common.{◌≤◌, ◌∙◌, ap, arith}
use Rattle.pdl_pull.specs.Outdated.{outdated}
use Rattle.pdl_nodes.specs.Rows.{row_at}
use Rattle.pdl_engine.proofs.SeveredReadied.{ready_then, less_path}
use Rattle.pdl_engine.proofs.readying.ready.Goals as goal

pub refresh-requires-clause-order : goal.refresh-requires-clause-order
refresh-requires-clause-order g c = c.settle.ensures.settled.ready.order

pub refresh-requires-clause-known : goal.refresh-requires-clause-known
refresh-requires-clause-known g c = c.settle.ensures.settled.ready.known

pub refresh-requires-clause-live : goal.refresh-requires-clause-live
refresh-requires-clause-live g c = c.settle.ensures.settled.ready.alike.has_is c.args.id ∙ c.requires.live

pub refresh-requires-clause-settled : goal.refresh-requires-clause-settled
refresh-requires-clause-settled g c = c.settle.ensures.settled.nothing

pub returns-clause-ready : goal.returns-clause-ready
returns-clause-ready g c = ready_then c.row_laws.ensures c.args.table.now c.settle.new.table c.refresh.new.table c.settle.ensures.settled.ready c.refresh.ensures.kept

pub returns-clause-counted : goal.returns-clause-counted
returns-clause-counted g c =
    let l : outdated c.settle.new.table c.args.id ≤ outdated c.args.table.now c.args.id = less_path c.row_laws.ensures c.args.table.now c.settle.new.table c.args.id c.settle.ensures.settled.ready.alike c.settle.ensures.settled.ready.marks in
    omega (arith, l, c.settle.ensures.counted, c.refresh.ensures.counted)

pub returns-clause-settled : goal.returns-clause-settled
returns-clause-settled g c = ap (λ r. (row_at c.refresh.new.table r).waiting) (c.refresh.ensures.kept.alike.root_is c.args.id) ∙ c.refresh.ensures.kept.waits _ ∙ c.settle.ensures.settled.nothing

pub returns-clause-others : goal.returns-clause-others
returns-clause-others g c = λ r h n. c.refresh.ensures.kept.waits r ∙ c.settle.ensures.settled.others r h n
