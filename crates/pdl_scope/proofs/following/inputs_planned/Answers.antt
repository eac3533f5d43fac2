use Rattle.std.proofs.Common.{◌≡◌, ◌+◌, ◌≤◌, ℕ, [], get_or, List, sym, subst, ◌∙◌, arith}
use Rattle.std.specs.Prelude.{sum_by}
use Rattle.pdl_flow.specs.Inputs.{Given}
use Rattle.pdl_machine.specs.Arrays.{Arrays}
use Rattle.pdl_scope.specs.FlowCosts.{input_steps, once}
use Rattle.pdl_scope.specs.Plans.{AreShown, met_by, planned}
use Rattle.pdl_scope.specs.Scope.{arrays_of}
use Rattle.pdl_scope.proofs.FlowCostLemmas.{input_less, input_more, input_short}
use Rattle.pdl_scope.proofs.ScopeGrowing.{readied_arrays}
use Rattle.pdl_scope.proofs.PlanInputs.{inputs_more, inputs_shown}
use Rattle.pdl_world.specs.Sound.{IsLive}
use Rattle.pdl_world.specs.World.{World}
use Rattle.pdl_scope.proofs.ScopeFlows.{live_at}
use Rattle.pdl_scope.proofs.PlanLemmas.{planned_kept}
use Rattle.pdl_scope.proofs.following.inputs_planned.Goals as goal

pub add_input-requires-clause-live : goal.add_input-requires-clause-live
add_input-requires-clause-live g c =
    let i = c.loop-read.read-index in
    subst (λ (w : World). IsLive w (get_or c.args.reads.now i 0)) (sym c.loop-read.invariant.same.world) (live_at c.args.engine.now.world c.args.reads.now i c.requires.live c.loop-read-test.true)

pub add_input-requires-clause-plan : goal.add_input-requires-clause-plan
add_input-requires-clause-plan g c = planned_kept c.args.engine.now c.loop-read.engine c.loop-read.invariant.same c.loop-read.invariant.stay c.args.plan.now c.requires.plan

pub add_input-requires-clause-shown : goal.add_input-requires-clause-shown
add_input-requires-clause-shown g c =
    subst (λ (a : Arrays). AreShown (planned a c.args.plan.now) c.loop-read.inputs.items) (sym (readied_arrays c.args.engine.now c.loop-read.engine c.loop-read.invariant.same)) c.loop-read.invariant.shown

pub loop-read-preserved : goal.loop-read-preserved
loop-read-preserved g c =
    let e = c.args.engine.now in
    let t = c.loop-read.engine in
    let same = c.add_input.ensures.same in
    let before = c.loop-read.invariant.same in
    record {
      shown = subst (λ (a : Arrays). AreShown (planned a c.args.plan.now) c.add_input.new.inputs.items) (readied_arrays e t before) c.in_ok-add_input.ensures.shown;
      found = inputs_more c.loop-read.inputs.items c.add_input.new.inputs.items c.args.reads.now c.loop-read.read-index c.loop-read-test.true c.in_ok-add_input.ensures.kept c.in_ok-add_input.ensures.here c.loop-read.invariant.found;
      single = c.in_ok-add_input.ensures.single;
      same = record { world = same.world ∙ before.world; holds = same.holds ∙ before.holds; next = same.next ∙ before.next };
      stay = λ v fresh. c.add_input.ensures.stay v (c.loop-read.invariant.stay v fresh);
      counted =
          (let ks = c.args.reads.now in
          let i = c.loop-read.read-index in
          let lt = c.loop-read-test.true in
          let cs = c.args.plan.now in
          let k = get_or ks i 0 in
          let less = input_less e t cs k c.resting_law.ensures c.resting_law-in-loop-read.ensures before c.loop-read.invariant.stay (live_at e.world ks i c.requires.live lt) in
          input_more (input_steps e (planned (arrays_of e) cs)) (met_by c.loop-read.inputs.items) (met_by c.add_input.new.inputs.items) ks i c.loop-read.steps c.add_input.new.steps
          (c.args.steps.now + sum_by (input_steps e (planned (arrays_of e) cs)) (once [] ks)) (input_steps t (planned (arrays_of t) cs) k) lt c.loop-read.invariant.counted less c.add_input.ensures.counted c.in_ok-add_input.ensures.met);
    }

pub returns-in_err-add_input-clause-counted : goal.returns-in_err-add_input-clause-counted
returns-in_err-add_input-clause-counted g c =
    let e = c.args.engine.now in
    let t = c.loop-read.engine in
    let ks = c.args.reads.now in
    let i = c.loop-read.read-index in
    let lt = c.loop-read-test.true in
    let cs = c.args.plan.now in
    let k = get_or ks i 0 in
    let less = input_less e t cs k c.resting_law.ensures c.resting_law-in-loop-read.ensures c.loop-read.invariant.same c.loop-read.invariant.stay (live_at e.world ks i c.requires.live lt) in
    input_short (input_steps e (planned (arrays_of e) cs)) (met_by c.loop-read.inputs.items) ks i c.loop-read.steps c.add_input.new.steps
    (c.args.steps.now + sum_by (input_steps e (planned (arrays_of e) cs)) (once [] ks)) (input_steps t (planned (arrays_of t) cs) k) lt c.loop-read.invariant.counted less c.add_input.ensures.counted

pub returns-clause-inputs : goal.returns-clause-inputs
returns-clause-inputs g c =
    inputs_shown (planned (arrays_of c.args.engine.now) c.args.plan.now) c.loop-read.inputs.items c.args.reads.now c.loop-read.read-index (omega arith) c.loop-read.invariant.shown c.loop-read.invariant.found
