use Rattle.std.proofs.Common.{◌+◌, [], ◌∷◌, ◌∙◌, ap}
use Rattle.pdl_nodes.specs.Holds.{is_held, stands}
use Rattle.pdl_nodes.specs.Rows.{reached}
use Rattle.pdl_engine.proofs.TakenAlone.{start_live}
use Rattle.pdl_engine.proofs.TakenGone.{comes_ready, going_sums}
use Rattle.pdl_engine.proofs.releases.let_view_go.Goals as goal

pub settle_all-requires-clause-live : goal.settle_all-requires-clause-live
settle_all-requires-clause-live g c = start_live c.args.table.now c.args.id c.requires.forgotten.live

pub settle_all-requires-clause-from : goal.settle_all-requires-clause-from
settle_all-requires-clause-from g c = c.let_parent_up.ensures.from

pub remove_all-requires-clause-still : goal.remove_all-requires-clause-still
remove_all-requires-clause-still g c = c.settle_all.ensures.kept.order.still

pub remove_all-requires-clause-numbers : goal.remove_all-requires-clause-numbers
remove_all-requires-clause-numbers g c = λ v y. c.settle_all.ensures.kept.alike.has_is v ∙ c.let_parent_up.ensures.numbers v y

pub remove_all-requires-clause-noted : goal.remove_all-requires-clause-noted
remove_all-requires-clause-noted g c = c.row_laws.ensures.leaving.noted_ready c.args.table.now c.settle_all.new.table c.let_parent_up.new.holds c.settle_all.ensures.kept c.let_parent_up.ensures.noted

pub remove_all-requires-clause-from : goal.remove_all-requires-clause-from
remove_all-requires-clause-from g c = comes_ready (c.args.id ∷ []) c.args.table.now c.settle_all.new.table c.let_parent_up.new.holds c.settle_all.ensures.kept c.let_parent_up.ensures.from

pub returns-in-Some-clause-gone : goal.returns-in-Some-clause-gone
returns-in-Some-clause-gone g c =
    c.row_laws.ensures.leaving.let_go_is c.args.table.now c.settle_all.new.table c.remove_all.new.table c.args.holds.now c.let_parent_up.new.holds c.remove_all.new.holds c.requires.order c.let_parent_up.ensures.counts c.let_parent_up.ensures.tells
    (record { kept = c.settle_all.ensures.kept; sized = c.settle_all.ensures.sized; waits = c.settle_all.ensures.waits; leaves = c.settle_all.ensures.left })
    c.remove_all.ensures.rows c.remove_all.ensures.beside c.remove_all.ensures.counts

pub returns-in-Some-clause-counted : goal.returns-in-Some-clause-counted
returns-in-Some-clause-counted g c =
    c.settle_all.ensures.counted
    ∙ ap (λ n. c.args.steps.now + n)
    (going_sums c.args.table.now (stands c.let_parent_up.new.holds) (reached c.args.table.now (is_held c.args.holds.now)) c.requires.order c.let_parent_up.ensures.tells)

pub settle_all-requires-in-None-clause-from : goal.settle_all-requires-in-None-clause-from
settle_all-requires-in-None-clause-from g c = c.row_laws.ensures.leaving.alone_from c.args.table.now c.args.holds.now c.args.id c.requires.forgotten.beside

pub returns-in-None-clause-gone : goal.returns-in-None-clause-gone
returns-in-None-clause-gone g c =
    c.row_laws.ensures.leaving.alone_let_go c.args.table.now c.settle_all-in-None.new.table c.remove.new.self c.args.holds.now c.args.id c.requires.order c.requires.forgotten (rw c.in-None.is at c.goes_with.ensures.alone)
    (record { kept = c.settle_all-in-None.ensures.kept; sized = c.settle_all-in-None.ensures.sized; waits = c.settle_all-in-None.ensures.waits; leaves = c.settle_all-in-None.ensures.left })
    c.remove.ensures.rows

pub returns-in-None-clause-counted : goal.returns-in-None-clause-counted
returns-in-None-clause-counted g c =
    c.settle_all-in-None.ensures.counted
    ∙ ap (λ n. c.args.steps.now + n)
    (going_sums c.args.table.now (stands c.args.holds.now) (reached c.args.table.now (is_held c.args.holds.now)) c.requires.order
    (c.row_laws.ensures.leaving.alone_tells c.args.table.now c.args.holds.now c.args.id c.requires.forgotten (rw c.in-None.is at c.goes_with.ensures.alone)))
