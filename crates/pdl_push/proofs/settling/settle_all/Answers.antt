use Rattle.std.proofs.Common.{◌+◌, ◌∷◌, drop, ◌∙◌, arith}
use Rattle.pdl_nodes.specs.Holds.{stands}
use Rattle.pdl_push.proofs.SettledAll.{settling_none, settling_more, settled_last}
use Rattle.pdl_push.proofs.settling.settle_all.Goals as goal

pub loop-start-init : goal.loop-start-init
loop-start-init g c = settling_none c.row_laws.ensures (stands c.args.holds.now) c.args.table.now (c.args.id ∷ c.args.loose.now) c.args.steps.now c.requires.order c.requires.known

pub settle_going-requires-clause-order : goal.settle_going-requires-clause-order
settle_going-requires-clause-order g c = c.loop-start.invariant.kept.order

pub settle_going-requires-clause-known : goal.settle_going-requires-clause-known
settle_going-requires-clause-known g c = c.loop-start.invariant.kept.known

pub settle_going-requires-clause-live : goal.settle_going-requires-clause-live
settle_going-requires-clause-live g c = c.loop-start.invariant.kept.alike.has_is _ ∙ c.requires.live _ (c.row_laws.ensures.leaving.under_listed c.args.loose.now c.loop-start.start-index 0 c.args.id (omega (arith, c.loop-start-test.true)))

pub loop-start-preserved : goal.loop-start-preserved
loop-start-preserved g c =
    settling_more c.row_laws.ensures (stands c.args.holds.now) c.args.table.now c.loop-start.table c.settle_going.new.table (c.args.id ∷ drop c.loop-start.start-index c.args.loose.now) (c.args.id ∷ drop (c.loop-start.start-index + 1) c.args.loose.now) (c.args.id ∷ c.args.loose.now)
    c.args.steps.now c.loop-start.steps c.settle_going.new.steps _ c.loop-start.invariant
    (λ v. c.row_laws.ensures.leaving.under_next c.args.loose.now c.loop-start.start-index 0 c.args.id v (omega (arith, c.loop-start-test.true)))
    (c.requires.live _ (c.row_laws.ensures.leaving.under_listed c.args.loose.now c.loop-start.start-index 0 c.args.id (omega (arith, c.loop-start-test.true)))) c.settle_going.ensures.settled c.settle_going.ensures.counted

pub settle_going-requires-2-clause-order : goal.settle_going-requires-2-clause-order
settle_going-requires-2-clause-order g c = c.loop-start.invariant.kept.order

pub settle_going-requires-2-clause-known : goal.settle_going-requires-2-clause-known
settle_going-requires-2-clause-known g c = c.loop-start.invariant.kept.known

pub settle_going-requires-2-clause-live : goal.settle_going-requires-2-clause-live
settle_going-requires-2-clause-live g c = c.loop-start.invariant.kept.alike.has_is c.args.id ∙ c.requires.live c.args.id (c.row_laws.ensures.leaving.under_first c.args.id c.args.loose.now)

pub returns-clause-kept : goal.returns-clause-kept
returns-clause-kept g c =
    (settled_last c.row_laws.ensures c.args.table.now c.loop-start.table c.settle_going-2.new.table c.args.holds.now (c.args.id ∷ drop c.loop-start.start-index c.args.loose.now) (c.args.id ∷ c.args.loose.now) c.args.steps.now c.loop-start.steps c.settle_going-2.new.steps c.args.id c.requires.order c.requires.from c.loop-start.invariant
    (λ v. c.row_laws.ensures.leaving.under_end c.args.loose.now c.loop-start.start-index c.args.id v (omega (arith, c.loop-start-test.false)))
    (c.requires.live c.args.id (c.row_laws.ensures.leaving.under_first c.args.id c.args.loose.now)) c.settle_going-2.ensures.settled c.settle_going-2.ensures.counted).kept

pub returns-clause-sized : goal.returns-clause-sized
returns-clause-sized g c =
    (settled_last c.row_laws.ensures c.args.table.now c.loop-start.table c.settle_going-2.new.table c.args.holds.now (c.args.id ∷ drop c.loop-start.start-index c.args.loose.now) (c.args.id ∷ c.args.loose.now) c.args.steps.now c.loop-start.steps c.settle_going-2.new.steps c.args.id c.requires.order c.requires.from c.loop-start.invariant
    (λ v. c.row_laws.ensures.leaving.under_end c.args.loose.now c.loop-start.start-index c.args.id v (omega (arith, c.loop-start-test.false)))
    (c.requires.live c.args.id (c.row_laws.ensures.leaving.under_first c.args.id c.args.loose.now)) c.settle_going-2.ensures.settled c.settle_going-2.ensures.counted).sized

pub returns-clause-waits : goal.returns-clause-waits
returns-clause-waits g c =
    (settled_last c.row_laws.ensures c.args.table.now c.loop-start.table c.settle_going-2.new.table c.args.holds.now (c.args.id ∷ drop c.loop-start.start-index c.args.loose.now) (c.args.id ∷ c.args.loose.now) c.args.steps.now c.loop-start.steps c.settle_going-2.new.steps c.args.id c.requires.order c.requires.from c.loop-start.invariant
    (λ v. c.row_laws.ensures.leaving.under_end c.args.loose.now c.loop-start.start-index c.args.id v (omega (arith, c.loop-start-test.false)))
    (c.requires.live c.args.id (c.row_laws.ensures.leaving.under_first c.args.id c.args.loose.now)) c.settle_going-2.ensures.settled c.settle_going-2.ensures.counted).waits

pub returns-clause-left : goal.returns-clause-left
returns-clause-left g c =
    (settled_last c.row_laws.ensures c.args.table.now c.loop-start.table c.settle_going-2.new.table c.args.holds.now (c.args.id ∷ drop c.loop-start.start-index c.args.loose.now) (c.args.id ∷ c.args.loose.now) c.args.steps.now c.loop-start.steps c.settle_going-2.new.steps c.args.id c.requires.order c.requires.from c.loop-start.invariant
    (λ v. c.row_laws.ensures.leaving.under_end c.args.loose.now c.loop-start.start-index c.args.id v (omega (arith, c.loop-start-test.false)))
    (c.requires.live c.args.id (c.row_laws.ensures.leaving.under_first c.args.id c.args.loose.now)) c.settle_going-2.ensures.settled c.settle_going-2.ensures.counted).leaves

pub returns-clause-counted : goal.returns-clause-counted
returns-clause-counted g c =
    (settled_last c.row_laws.ensures c.args.table.now c.loop-start.table c.settle_going-2.new.table c.args.holds.now (c.args.id ∷ drop c.loop-start.start-index c.args.loose.now) (c.args.id ∷ c.args.loose.now) c.args.steps.now c.loop-start.steps c.settle_going-2.new.steps c.args.id c.requires.order c.requires.from c.loop-start.invariant
    (λ v. c.row_laws.ensures.leaving.under_end c.args.loose.now c.loop-start.start-index c.args.id v (omega (arith, c.loop-start-test.false)))
    (c.requires.live c.args.id (c.row_laws.ensures.leaving.under_first c.args.id c.args.loose.now)) c.settle_going-2.ensures.settled c.settle_going-2.ensures.counted).counted
