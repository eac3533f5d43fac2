use Rattle.std.proofs.Common.{◌≡◌, ◌+◌, sym, ◌∙◌, ap, subst, arith}
use Rattle.pdl_nodes.specs.Outcomes.{outdated_at}
use Rattle.pdl_nodes.specs.Row.{parent_of}
use Rattle.pdl_nodes.specs.Seen.{path_from}
use Rattle.pdl_pull.specs.Filled.{FillsOnly}
use Rattle.pdl_pull.specs.Outdated.{outdated}
use Rattle.pdl_pull.proofs.FilledPaths.{parent_fresh, outdated_more}
use Rattle.pdl_pull.proofs.finding.find.Goals as goal

pub returns-in_err-refresh-clause-only : goal.returns-in_err-refresh-clause-only
returns-in_err-refresh-clause-only g c = subst (λ vs. FillsOnly vs c.args.table.now c.refresh.new.table) (ap (path_from c.args.table.now) (sym (sym (c.parent.ensures ∙ ap parent_of c.node.ensures) ∙ c.in-Some.is))) c.refresh.ensures.only

pub returns-in_err-refresh-clause-counted : goal.returns-in_err-refresh-clause-counted
returns-in_err-refresh-clause-counted g c =
    let s : outdated c.args.table.now c.args.id ≡ outdated_at c.args.table.now c.args.id + outdated c.args.table.now c.in-Some.parent = outdated_more c.row_laws.ensures c.args.table.now c.args.id c.in-Some.parent c.requires.order.still c.requires.live (sym (c.parent.ensures ∙ ap parent_of c.node.ensures) ∙ c.in-Some.is) in
    omega (arith, s, c.refresh.ensures.counted)

pub find_places-requires-clause-parent : goal.find_places-requires-clause-parent
find_places-requires-clause-parent g c = parent_fresh c.row_laws.ensures c.args.table.now c.refresh.new.table c.args.id c.in-Some.parent c.requires.order.still c.refresh.ensures.kept.order.still c.refresh.ensures.kept.alike c.requires.live (sym (c.parent.ensures ∙ ap parent_of c.node.ensures) ∙ c.in-Some.is) c.in_ok-refresh.ensures.fresh

pub returns-clause-only : goal.returns-clause-only
returns-clause-only g c = subst (λ vs. FillsOnly vs c.args.table.now c.refresh.new.table) (ap (path_from c.args.table.now) (sym (sym (c.parent.ensures ∙ ap parent_of c.node.ensures) ∙ c.in-Some.is))) c.refresh.ensures.only

pub returns-clause-counted : goal.returns-clause-counted
returns-clause-counted g c =
    let s : outdated c.args.table.now c.args.id ≡ outdated_at c.args.table.now c.args.id + outdated c.args.table.now c.in-Some.parent = outdated_more c.row_laws.ensures c.args.table.now c.args.id c.in-Some.parent c.requires.order.still c.requires.live (sym (c.parent.ensures ∙ ap parent_of c.node.ensures) ∙ c.in-Some.is) in
    omega (arith, s, c.refresh.ensures.counted)
