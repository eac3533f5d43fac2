use Rattle.std.proofs.Common.{◌+◌, ◌∷◌, ◌∙◌, ap}
use Rattle.pdl_nodes.specs.Holds.{is_held, stands}
use Rattle.pdl_nodes.specs.Rows.{reached}
use Rattle.pdl_engine.proofs.TakenGone.{comes_ready, going_sums}
use Rattle.pdl_engine.proofs.releases.let_go.Goals as goal

pub settle_all-requires-clause-from : goal.settle_all-requires-clause-from
settle_all-requires-clause-from g c = c.let_all.ensures.from

pub remove_all-requires-clause-still : goal.remove_all-requires-clause-still
remove_all-requires-clause-still g c = c.settle_all.ensures.kept.order.still

pub remove_all-requires-clause-numbers : goal.remove_all-requires-clause-numbers
remove_all-requires-clause-numbers g c = λ v y. c.settle_all.ensures.kept.alike.has_is v ∙ c.let_all.ensures.numbers v y

pub remove_all-requires-clause-noted : goal.remove_all-requires-clause-noted
remove_all-requires-clause-noted g c = c.row_laws.ensures.leaving.noted_ready c.args.table.now c.settle_all.new.table c.let_all.new.holds c.settle_all.ensures.kept c.let_all.ensures.noted

pub remove_all-requires-clause-from : goal.remove_all-requires-clause-from
remove_all-requires-clause-from g c = comes_ready (c.args.id ∷ c.args.loose.now) c.args.table.now c.settle_all.new.table c.let_all.new.holds c.settle_all.ensures.kept c.let_all.ensures.from

pub returns-clause-gone : goal.returns-clause-gone
returns-clause-gone g c =
    c.row_laws.ensures.leaving.let_go_is c.args.table.now c.settle_all.new.table c.remove_all.new.table c.args.holds.now c.let_all.new.holds c.remove_all.new.holds c.requires.order c.let_all.ensures.counts c.let_all.ensures.tells
    (record { kept = c.settle_all.ensures.kept; sized = c.settle_all.ensures.sized; waits = c.settle_all.ensures.waits; leaves = c.settle_all.ensures.left })
    c.remove_all.ensures.rows c.remove_all.ensures.beside c.remove_all.ensures.counts

pub returns-clause-counted : goal.returns-clause-counted
returns-clause-counted g c =
    c.settle_all.ensures.counted
    ∙ ap (λ n. c.args.steps.now + n)
    (going_sums c.args.table.now (stands c.let_all.new.holds) (reached c.args.table.now (is_held c.args.holds.now)) c.requires.order c.let_all.ensures.tells)
