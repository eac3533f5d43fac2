use Rattle.std.proofs.Common.{sym, ◌∙◌, ap, arith}
use Rattle.pdl_nodes.specs.Row.{parent_of}
use Rattle.pdl_engine.proofs.PathHolds.{reach_first, reach_last, reach_next}
use Rattle.pdl_engine.proofs.reaching.+reaches.Goals as goal

pub returns-then-below-above : goal.returns-then-below-above
returns-then-below-above t c = reach_first c.row_laws.ensures c.args.table.now c.args.below c.args.above c.requires.still c.requires.live c.if-below-above.true

pub reaches-requires : goal.reaches-requires
reaches-requires t c =
    let up = c.row_laws.ensures.seen.parent_live c.args.table.now c.args.below c.in-Some.parent c.requires.still c.requires.live (sym (c.parent.ensures ∙ ap parent_of c.node.ensures) ∙ c.in-Some.is) in
    (omega (arith, up.1), (c.requires.still, up.0))

pub returns-in-Some : goal.returns-in-Some
returns-in-Some t c = reach_next c.row_laws.ensures c.args.table.now c.args.below c.in-Some.parent c.args.above c.reaches.result c.requires.still c.requires.live c.if-below-above.false (sym (c.parent.ensures ∙ ap parent_of c.node.ensures) ∙ c.in-Some.is) c.reaches.ensures

pub returns-in-None : goal.returns-in-None
returns-in-None t c = reach_last c.row_laws.ensures c.args.table.now c.args.below c.args.above c.requires.still c.requires.live c.if-below-above.false (sym (c.parent.ensures ∙ ap parent_of c.node.ensures) ∙ c.in-None.is)
