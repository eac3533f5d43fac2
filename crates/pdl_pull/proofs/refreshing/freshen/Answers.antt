use Rattle.std.proofs.Common.{◌≡◌, ◌∙◌, sym, arith}
use Rattle.std.proofs.lemmas.Result.{on_ok_weaker}
use Rattle.pdl_shape.specs.Shape.{size_of}
use Rattle.pdl_nodes.specs.Outcomes.{outdated_at}
use Rattle.pdl_nodes.specs.Rows.{row_at}
use Rattle.pdl_pull.proofs.FilledPaths.{is_stale, is_outdated, stale_cost, filled_fresh}
use Rattle.pdl_pull.proofs.FilledElsewhere.{kept_so}
use Rattle.pdl_pull.proofs.refreshing.freshen.Goals as goal

pub fill-requires-clause-outdated : goal.fill-requires-clause-outdated
fill-requires-clause-outdated g c = is_outdated c.row_laws.ensures c.args.table.now c.args.id c.requires.order c.requires.live c.requires.settled (is_stale c.row_laws.ensures c.args.table.now c.args.id c.requires.order c.requires.live c.requires.parent c.requires.settled (sym c.is_fresh.ensures ∙ c.if-is_fresh.false))

pub returns-clause-fresh : goal.returns-clause-fresh
returns-clause-fresh g c = on_ok_weaker c.fill.result (filled_fresh c.args.table.now c.fill.new.table c.args.id (is_stale c.row_laws.ensures c.args.table.now c.args.id c.requires.order c.requires.live c.requires.parent c.requires.settled (sym c.is_fresh.ensures ∙ c.if-is_fresh.false))) c.fill.ensures.ok

pub returns-clause-counted : goal.returns-clause-counted
returns-clause-counted g c =
    let s : outdated_at c.args.table.now c.args.id ≡ size_of (row_at c.args.table.now c.args.id).triple.dims = stale_cost c.args.table.now c.args.id (is_stale c.row_laws.ensures c.args.table.now c.args.id c.requires.order c.requires.live c.requires.parent c.requires.settled (sym c.is_fresh.ensures ∙ c.if-is_fresh.false)) in
    omega (arith, s, c.fill.ensures.counted)

pub returns-clause-kept : goal.returns-clause-kept
returns-clause-kept g c = kept_so c.fill.result c.row_laws.ensures c.args.table.now c.fill.new.table c.args.id c.requires.order c.requires.known c.fill.ensures.ok c.fill.ensures.err
