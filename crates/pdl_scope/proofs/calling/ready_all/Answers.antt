use Rattle.std.proofs.Common.{◌+◌}
use Rattle.pdl_scope.proofs.CostLemmas.{never_dearer, read_first, read_more}
use Rattle.pdl_scope.proofs.ScopeKernels.{ready_all, ready_more}
use Rattle.pdl_scope.proofs.calling.ready_all.Goals as goal

pub loop-id-preserved : goal.loop-id-preserved
loop-id-preserved g c =
    let e = c.args.engine.now in
    let t = c.loop-id.engine in
    let n = c.ready.new.engine in
    let ids = c.args.ids.now in
    let i = c.loop-id.id-index in
    let r = ready_more e t n ids i c.loop-id-test.true
    (record { same = c.loop-id.invariant.same; fresh = c.loop-id.invariant.fresh }) c.ready.ensures.same c.ready.ensures.stay c.in_ok-ready.ensures.itself in
    record {
      same = r.same;
      stay = λ v is. c.ready.ensures.stay v (c.loop-id.invariant.stay v is);
      fresh = r.fresh;
      costs = never_dearer e t n c.loop-id.invariant.same c.loop-id.invariant.costs c.ready.ensures.costs;
      counted = read_more e t ids i c.args.steps.now c.loop-id.steps c.ready.new.steps c.loop-id-test.true (c.requires i 0 c.loop-id-test.true) c.loop-id.invariant.costs c.loop-id.invariant.counted c.ready.ensures.counted;
    }

pub returns-in_err-ready-clause-counted : goal.returns-in_err-ready-clause-counted
returns-in_err-ready-clause-counted g c =
    let e = c.args.engine.now in
    let ids = c.args.ids.now in
    let i = c.loop-id.id-index in
    read_first e ids (i + 1) c.args.steps.now c.ready.new.steps
    (read_more e c.loop-id.engine ids i c.args.steps.now c.loop-id.steps c.ready.new.steps c.loop-id-test.true (c.requires i 0 c.loop-id-test.true) c.loop-id.invariant.costs c.loop-id.invariant.counted c.ready.ensures.counted)

pub returns-clause-fresh : goal.returns-clause-fresh
returns-clause-fresh g c = ready_all c.loop-id.engine c.args.ids.now c.loop-id.id-index c.loop-id-test.false c.loop-id.invariant.fresh

pub returns-clause-counted : goal.returns-clause-counted
returns-clause-counted g c = read_first c.args.engine.now c.args.ids.now c.loop-id.id-index c.args.steps.now c.loop-id.steps c.loop-id.invariant.counted
