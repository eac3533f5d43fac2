use Rattle.std.proofs.Common.{◌+◌, ◌∙◌, ap}
use Rattle.pdl_nodes.specs.Holds.{count, is_held}
use Rattle.pdl_nodes.specs.Rows.{reached}
use Rattle.pdl_engine.specs.Taken.{count_after, after_release}
use Rattle.pdl_engine.proofs.TakenGone.{beside_taken, let_go_as, starts_live, starts_tight, going_sums, count_taken, taken}
use Rattle.pdl_engine.proofs.releases.release_with.Goals as goal

pub let_go-requires-clause-beside : goal.let_go-requires-clause-beside
let_go-requires-clause-beside g c = beside_taken c.args.table.now c.args.holds.now c.take.new.self c.args.id c.requires.beside c.take.ensures.here c.take.ensures.others

pub let_go-requires-clause-live : goal.let_go-requires-clause-live
let_go-requires-clause-live g c = starts_live c.args.table.now c.args.holds.now c.args.loose.now c.args.id c.requires.beside c.requires.held c.requires.tight

pub let_go-requires-clause-tight : goal.let_go-requires-clause-tight
let_go-requires-clause-tight g c = starts_tight c.args.table.now c.args.holds.now c.take.new.self c.args.loose.now c.args.id c.take.ensures.others c.requires.tight

pub returns-clause-gone : goal.returns-clause-gone
returns-clause-gone g c =
    let_go_as c.args.table.now (count c.take.new.self) (count_after c.args.id c.args.holds.now) c.let_go.new.table c.let_go.new.holds
    (λ v. count_taken c.args.holds.now c.take.new.self c.args.id v c.take.ensures.here c.take.ensures.others) c.let_go.ensures.gone

pub returns-clause-counted : goal.returns-clause-counted
returns-clause-counted g c =
    c.let_go.ensures.counted
    ∙ ap (λ n. c.args.steps.now + n) (going_sums c.args.table.now (reached c.args.table.now (is_held c.take.new.self)) (reached c.args.table.now (after_release c.args.id c.args.holds.now)) c.requires.order
    (λ v h. taken c.args.table.now c.args.holds.now c.take.new.self c.args.id v c.take.ensures.here c.take.ensures.others))
