use Rattle.std.proofs.Common.{sym, ◌∙◌, ap, arith}
use Rattle.pdl_nodes.specs.Row.{parent_of}
use Rattle.pdl_engine.proofs.PathDepths.{deeper_first, deeper_last, deeper_next}
use Rattle.pdl_engine.proofs.depth.+is_deeper.Goals as goal

pub returns-then-count-eq0 : goal.returns-then-count-eq0
returns-then-count-eq0 t c = deeper_first c.row_laws.ensures c.args.table.now c.args.id c.args.count c.requires.still c.requires.live c.if-count-eq0.true

pub is_deeper-requires : goal.is_deeper-requires
is_deeper-requires t c = (omega arith, (c.requires.still, (c.row_laws.ensures.seen.parent_live c.args.table.now c.args.id c.in-Some.parent c.requires.still c.requires.live (sym (c.parent.ensures ∙ ap parent_of c.node.ensures) ∙ c.in-Some.is)).0))

pub returns-in-Some : goal.returns-in-Some
returns-in-Some t c = deeper_next c.row_laws.ensures c.args.table.now c.args.id c.in-Some.parent c.args.count c.is_deeper.result c.requires.still c.requires.live c.if-count-eq0.false (sym (c.parent.ensures ∙ ap parent_of c.node.ensures) ∙ c.in-Some.is) c.is_deeper.ensures

pub returns-in-None : goal.returns-in-None
returns-in-None t c = deeper_last c.row_laws.ensures c.args.table.now c.args.id c.args.count c.requires.still c.requires.live c.if-count-eq0.false (sym (c.parent.ensures ∙ ap parent_of c.node.ensures) ∙ c.in-None.is)
