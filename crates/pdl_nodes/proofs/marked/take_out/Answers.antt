use Rattle.std.proofs.Common.{arith}
use Rattle.pdl_nodes.proofs.marked.take_out.Goals as goal
use Rattle.pdl_nodes.proofs.MarkedListing.{pulled}

pub returns-then-at-len-2 : goal.returns-then-at-len-2
returns-then-at-len-2 c = λ v n h.
    pulled c.args.views.now.items c.swap_remove.new.self.items c.in-Some.at c.swap_remove.result c.index.result.now c.args.id v (omega (arith, c.if-at-len.false, c.len.ensures)) c.swap_remove.ensures.value c.index.ensures (omega (arith, c.if-index-id.false))
    c.swap_remove.ensures.items n h
