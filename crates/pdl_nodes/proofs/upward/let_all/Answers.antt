use Rattle.std.proofs.Common.{◌+◌, drop, arith}
use Rattle.pdl_nodes.proofs.upward.let_all.Goals as goal
use Rattle.pdl_nodes.proofs.HoldsGone.{under_first, under_listed}
use Rattle.pdl_nodes.proofs.HoldsLetGo.{holds_end, holds_next, letting_last, letting_more, letting_none}

pub loop-start-init : goal.loop-start-init
loop-start-init c = letting_none c.args.table.now c.args.holds.now c.args.loose.now c.args.id c.requires.beside c.requires.tight

pub let_up-requires-clause-live : goal.let_up-requires-clause-live
let_up-requires-clause-live c = c.requires.live _ (under_listed c.args.loose.now c.loop-start.start-index 0 c.args.id (omega (arith, c.loop-start-test.true)))

pub let_up-requires-clause-marked : goal.let_up-requires-clause-marked
let_up-requires-clause-marked c = c.loop-start.invariant.marked

pub loop-start-preserved : goal.loop-start-preserved
loop-start-preserved c =
    letting_more c.args.table.now c.args.holds.now c.loop-start.holds c.let_up.new.holds (drop c.loop-start.start-index c.args.loose.now) (drop (c.loop-start.start-index + 1) c.args.loose.now) c.args.id _ c.loop-start.invariant
    (λ v. holds_next c.args.loose.now c.loop-start.start-index 0 v (omega (arith, c.loop-start-test.true))) c.let_up.ensures.marked c.let_up.ensures.fewer c.let_up.ensures.loose

pub let_up-requires-2-clause-live : goal.let_up-requires-2-clause-live
let_up-requires-2-clause-live c = c.requires.live c.args.id (under_first c.args.id c.args.loose.now)

pub let_up-requires-2-clause-marked : goal.let_up-requires-2-clause-marked
let_up-requires-2-clause-marked c = c.loop-start.invariant.marked

pub returns : goal.returns
returns c =
    letting_last c.args.table.now c.args.holds.now c.loop-start.holds c.let_up-2.new.holds c.args.loose.now (drop c.loop-start.start-index c.args.loose.now) c.args.id c.requires.still c.requires.beside c.requires.tight c.loop-start.invariant
    (λ v. holds_end c.args.loose.now c.loop-start.start-index v (omega (arith, c.loop-start-test.false))) c.let_up-2.ensures.marked c.let_up-2.ensures.fewer c.let_up-2.ensures.loose
