use Rattle.std.proofs.Common.{◌≡◌, ◌+◌, sym, ◌∙◌, ap, subst}
use Rattle.pdl_nodes.specs.Going.{going_size}
use Rattle.pdl_nodes.specs.Holds.{stands}
use Rattle.pdl_nodes.specs.Row.{Row}
use Rattle.pdl_nodes.specs.Rows.{row_at}
use Rattle.pdl_push.specs.Settled.{IsSettledAt}
use Rattle.pdl_push.proofs.LateGoings.{settled_none, size_none, size_some, settled_some}
use Rattle.pdl_push.proofs.settling.settle_going.Goals as goal

pub going-requires : goal.going-requires
going-requires g c = record { live = c.row_laws.ensures.seen.root_live c.args.table.now c.root-root.result c.args.id c.requires.order.still c.requires.live (sym (c.root-root.ensures ∙ ap (λ (r : Row). r.root) c.node.ensures)) }

pub write_back-requires-clause-root : goal.write_back-requires-clause-root
write_back-requires-clause-root g c = c.row_laws.ensures.seen.root_live c.args.table.now c.root-root.result c.args.id c.requires.order.still c.requires.live (sym (c.root-root.ensures ∙ ap (λ (r : Row). r.root) c.node.ensures))

pub returns-in-Some-clause-settled : goal.returns-in-Some-clause-settled
returns-in-Some-clause-settled g c =
    let e : c.root-root.result ≡ (row_at c.args.table.now c.args.id).root = c.root-root.ensures ∙ ap (λ (r : Row). r.root) c.node.ensures in
    subst (λ r. IsSettledAt (stands c.args.holds.now) c.args.table.now c.write_back.new.table r) e
    (settled_some c.row_laws.ensures c.args.table.now c.write_back.new.table (stands c.args.holds.now) c.root-root.result c.in-Some.view c.requires.order c.requires.known (c.row_laws.ensures.seen.root_live c.args.table.now c.root-root.result c.args.id c.requires.order.still c.requires.live (sym e)).0
    (sym c.going.ensures ∙ c.in-Some.is) c.write_back.ensures.settled)

pub returns-in-Some-clause-counted : goal.returns-in-Some-clause-counted
returns-in-Some-clause-counted g c =
    let e : c.root-root.result ≡ (row_at c.args.table.now c.args.id).root = c.root-root.ensures ∙ ap (λ (r : Row). r.root) c.node.ensures in
    subst (λ r. c.write_back.new.steps ≡ c.args.steps.now + going_size c.args.table.now (stands c.args.holds.now) r) e
    (size_some c.args.table.now (stands c.args.holds.now) c.root-root.result c.in-Some.view c.args.steps.now c.write_back.new.steps (sym c.going.ensures ∙ c.in-Some.is) c.write_back.ensures.counted)

pub returns-in-None-clause-settled : goal.returns-in-None-clause-settled
returns-in-None-clause-settled g c =
    let e : c.root-root.result ≡ (row_at c.args.table.now c.args.id).root = c.root-root.ensures ∙ ap (λ (r : Row). r.root) c.node.ensures in
    subst (λ r. IsSettledAt (stands c.args.holds.now) c.args.table.now c.args.table.now r) e
    (settled_none c.row_laws.ensures c.args.table.now (stands c.args.holds.now) c.root-root.result c.requires.order c.requires.known (sym c.going.ensures ∙ c.in-None.is))

pub returns-in-None-clause-counted : goal.returns-in-None-clause-counted
returns-in-None-clause-counted g c =
    let e : c.root-root.result ≡ (row_at c.args.table.now c.args.id).root = c.root-root.ensures ∙ ap (λ (r : Row). r.root) c.node.ensures in
    subst (λ r. c.args.steps.now ≡ c.args.steps.now + going_size c.args.table.now (stands c.args.holds.now) r) e
    (size_none c.args.table.now (stands c.args.holds.now) c.root-root.result c.args.steps.now (sym c.going.ensures ∙ c.in-None.is))
