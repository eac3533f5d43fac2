use Rattle.std.proofs.Common.{◌∙◌, sym, ap}
use Rattle.pdl_nodes.specs.Row.{Row}
use Rattle.pdl_push.proofs.LateAtRoot.{settled_back}
use Rattle.pdl_push.proofs.settling.settle.Goals as goal

pub node-requires-2 : goal.node-requires-2
node-requires-2 g c = record { live = (c.row_laws.ensures.seen.root_live c.args.table.now c.root-root.result c.args.id c.requires.order.still c.requires.live (sym (c.root-root.ensures ∙ ap (λ (r : Row). r.root) c.node.ensures))).0 }

pub write_back-requires-clause-root : goal.write_back-requires-clause-root
write_back-requires-clause-root g c = c.row_laws.ensures.seen.root_live c.args.table.now c.root-root.result c.args.id c.requires.order.still c.requires.live (sym (c.root-root.ensures ∙ ap (λ (r : Row). r.root) c.node.ensures))

pub returns-in-Some-clause-settled : goal.returns-in-Some-clause-settled
returns-in-Some-clause-settled g c = settled_back c.row_laws.ensures c.args.table.now c.write_back.new.table c.root-root.result c.in-Some.waiting c.args.id c.requires.order c.requires.known c.requires.live (sym (c.root-root.ensures ∙ ap (λ (r : Row). r.root) c.node.ensures)) (sym (c.waiting.ensures ∙ ap (λ (r : Row). r.waiting) c.node-2.ensures) ∙ c.in-Some.is) c.write_back.ensures.settled
