use Rattle.std.proofs.Common.{◌≡◌, ℕ, ◌+◌, ◌≤◌, [], true, false, List, drop, length, refl, sym, ap, subst, ◌∙◌, arith}
use Rattle.std.proofs.lemmas.List.{drop_all}
use Rattle.pdl_flow.specs.Formula.{arrays_in}
use Rattle.pdl_world.specs.World.{World}
use Rattle.pdl_engine.specs.State.{State as Engine}
use Rattle.pdl_machine.specs.Arrays.{Arrays}
use Rattle.pdl_machine.specs.Flows.{Flows, affected, reads_from}
use Rattle.pdl_machine.specs.Following.{IsFlow, followed}
use Rattle.pdl_machine.specs.State.{AreLive}
use Rattle.pdl_scope.specs.Costs.{ReadsNoDearer}
use Rattle.pdl_scope.specs.Plans.{planned, roots_in, values_in}
use Rattle.pdl_scope.specs.Scope.{arrays_of}
use Rattle.pdl_scope.specs.declared.following.Change.{Change}
use Rattle.pdl_scope.proofs.CostLemmas.{never_dearer}
use Rattle.pdl_scope.proofs.FlowCostLemmas.{paid_first}
use Rattle.pdl_scope.proofs.FlowFollowers.{flow_at, older_live}
use Rattle.pdl_scope.proofs.ScopeGrowing.{readied_arrays}
use Rattle.pdl_scope.proofs.PlanFlows.{IsAdded, IsOn, none_added, on_added, on_first, on_past, paid_added, paid_past, paid_short, root_apart, steps_from}
use Rattle.pdl_scope.proofs.following.plan_flows.Goals as goal
use Rattle.pdl_scope.proofs.following.plan_flows.Goals.{then-reads_changed+in_ok-plan_flow, else-reads_changed}

pub loop-flow-init : goal.loop-flow-init
loop-flow-init g c = record {
  on = on_first c.args.engine.now c.args.flows.now c.args.plan.now.items c.args.runs.now c.requires.plan c.requires.apart;
  paid = omega arith;
  costs = λ v live. omega arith;
  alone = λ none. (refl, refl, refl);
}

pub reads_changed-requires : goal.reads_changed-requires
reads_changed-requires g c =
    let w = c.args.engine.now.world in
    let f = c.flow-item.result in
    let ks = arrays_in f.formula in
    subst (λ (x : World). AreLive x ks) (sym c.loop-flow.invariant.on.same.world)
    (older_live w f.root ks (flow_at (arrays_of c.args.engine.now) c.args.flows.now c.loop-flow.flow-index f c.requires.flows c.loop-flow-test.true c.flow-item.is).flow.older)

pub plan_flow-requires : goal.plan_flow-requires
plan_flow-requires g c =
    let f = c.flow-item.result in record {
      flow = subst (λ (a : Arrays). IsFlow a f) (sym (readied_arrays c.args.engine.now c.loop-flow.engine c.loop-flow.invariant.on.same))
          (flow_at (arrays_of c.args.engine.now) c.args.flows.now c.loop-flow.flow-index f c.requires.flows c.loop-flow-test.true c.flow-item.is).flow;
      plan = c.loop-flow.invariant.on.made;
      apart = root_apart c.args.engine.now c.loop-flow.engine c.args.flows.now c.args.plan.now.items c.loop-flow.plan.items c.args.runs.now c.loop-flow.flow-index c.loop-flow.runs f c.loop-flow.invariant.on c.loop-flow-test.true c.flow-item.is;
    }

pub loop-flow-preserved : goal.loop-flow-preserved
loop-flow-preserved g c =
    let e0 = c.args.engine.now in
    let flows = c.args.flows.now in
    let cs0 = c.args.plan.now.items in
    let start = c.args.runs.now in
    let i = c.loop-flow.flow-index in
    let e = c.loop-flow.engine in
    let cs = c.loop-flow.plan.items in
    let f = c.flow-item.result in
    let h = c.loop-flow.invariant.on in
    let most = c.args.steps.now + values_in cs0 + steps_from e0 flows 0 cs0 in
    let asked : c.reads_changed.result ≡ reads_from e.world f (roots_in cs) = c.reads_changed.ensures ∙ ap (λ (ds : List Change). reads_from e.world f (roots_in ds)) c.deref.ensures.value in
    elim c.if-reads_changed.branch [
      | then-reads_changed+in_ok-plan_flow w ↦
          (let reads : reads_from e.world f (roots_in cs) ≡ true = sym asked ∙ w.if-reads_changed.true in
          let more : IsAdded e cs f c.loop-flow.runs w.plan_flow.new.engine w.plan_flow.new.plan.items w.plan_flow.new.runs = record {
            made = w.in_ok-plan_flow.ensures.planned;
            follows = w.in_ok-plan_flow.ensures.follows;
            roots = w.in_ok-plan_flow.ensures.roots;
            behind = w.in_ok-plan_flow.ensures.behind;
            same = w.plan_flow.ensures.same;
            stay = w.plan_flow.ensures.stay;
            run = w.plan_flow.ensures.run;
          } in
          let done = on_added e0 e w.plan_flow.new.engine flows cs0 cs w.plan_flow.new.plan.items start i c.loop-flow.runs w.plan_flow.new.runs f c.requires.flows h c.loop-flow-test.true c.flow-item.is reads more in
          let paid = paid_added e0 e w.plan_flow.new.engine flows cs0 cs w.plan_flow.new.plan.items start i c.loop-flow.runs w.plan_flow.new.runs c.args.steps.now c.loop-flow.steps w.plan_flow.new.steps f c.requires.flows c.loop-flow.invariant.costs h c.loop-flow-test.true c.flow-item.is reads more c.loop-flow.invariant.paid w.in_ok-plan_flow.ensures.paid in
          record {
            on = subst (λ (t : Engine). IsOn e0 flows cs0 start (i + 1) t c.if-reads_changed.plan.items c.if-reads_changed.runs) (sym w.engine-is)
                (subst (λ (ds : List Change). IsOn e0 flows cs0 start (i + 1) w.plan_flow.new.engine ds c.if-reads_changed.runs) (sym (ap (λ p. p.items) w.plan-is))
                (subst (λ (n : ℕ). IsOn e0 flows cs0 start (i + 1) w.plan_flow.new.engine w.plan_flow.new.plan.items n) (sym w.runs-is) done));
            paid = subst (λ (bs : List Change). c.if-reads_changed.steps + values_in bs + steps_from e0 flows (i + 1) bs ≤ most) (sym (ap (λ p. p.items) w.plan-is))
                (subst (λ (n : ℕ). n + values_in w.plan_flow.new.plan.items + steps_from e0 flows (i + 1) w.plan_flow.new.plan.items ≤ most) (sym w.steps-is) paid);
            costs = subst (λ (t : Engine). ReadsNoDearer e0 t) (sym w.engine-is) (never_dearer e0 e w.plan_flow.new.engine h.same c.loop-flow.invariant.costs w.in_ok-plan_flow.ensures.costs);
            alone = λ none. absurd (none_added e0 e flows cs0 cs start i c.loop-flow.runs f h c.loop-flow-test.true c.flow-item.is reads none);
          })
      | else-reads_changed w ↦
          (let done = on_past e0 e flows cs0 cs start i c.loop-flow.runs f h c.loop-flow-test.true c.flow-item.is (sym asked ∙ w.if-reads_changed.false) in
          record {
            on = subst (λ (t : Engine). IsOn e0 flows cs0 start (i + 1) t c.if-reads_changed.plan.items c.if-reads_changed.runs) (sym w.engine-is)
                (subst (λ (ds : List Change). IsOn e0 flows cs0 start (i + 1) e ds c.if-reads_changed.runs) (sym (ap (λ p. p.items) w.plan-is))
                (subst (λ (n : ℕ). IsOn e0 flows cs0 start (i + 1) e cs n) (sym w.runs-is) done));
            paid = subst (λ (bs : List Change). c.if-reads_changed.steps + values_in bs + steps_from e0 flows (i + 1) bs ≤ most) (sym (ap (λ p. p.items) w.plan-is))
                (subst (λ (n : ℕ). n + values_in cs + steps_from e0 flows (i + 1) cs ≤ most) (sym w.steps-is) (paid_past e0 e flows cs0 cs start i c.loop-flow.runs c.loop-flow.steps (c.args.steps.now + values_in cs0 + steps_from e0 flows 0 cs0) f h c.loop-flow-test.true c.flow-item.is (sym asked ∙ w.if-reads_changed.false) c.loop-flow.invariant.paid));
            costs = subst (λ (t : Engine). ReadsNoDearer e0 t) (sym w.engine-is) c.loop-flow.invariant.costs;
            alone = λ none. (let was = c.loop-flow.invariant.alone none in (w.plan-is ∙ was.0, w.engine-is ∙ was.1, w.steps-is ∙ was.2));
          })
    ]

-- no flow is left
pub returns-clause-follow : goal.returns-clause-follow
returns-clause-follow g c =
    let a = arrays_of c.args.engine.now in
    let cs = c.loop-flow.plan.items in
    ap (λ (fs : Flows). followed (planned a cs) (affected a.world fs (roots_in cs))) (sym (drop_all c.loop-flow.flow-index c.args.flows.now (omega arith)))
    ∙ c.loop-flow.invariant.on.follow

pub returns-clause-counted : goal.returns-clause-counted
returns-clause-counted g c =
    let e0 = c.args.engine.now in
    let flows = c.args.flows.now in
    let cs0 = c.args.plan.now.items in
    let cs = c.loop-flow.plan.items in
    let plain = paid_first cs0 cs c.args.steps.now c.loop-flow.steps (steps_from e0 flows c.loop-flow.flow-index cs) (steps_from e0 flows 0 cs0) c.loop-flow.invariant.on.behind c.loop-flow.invariant.paid in
    omega (arith, plain)

pub returns-clause-paid : goal.returns-clause-paid
returns-clause-paid g c = (let paid = c.loop-flow.invariant.paid in omega (arith, paid))

pub returns-in_err-plan_flow-clause-counted : goal.returns-in_err-plan_flow-clause-counted
returns-in_err-plan_flow-clause-counted g c =
    let e0 = c.args.engine.now in
    let e = c.loop-flow.engine in
    let f = c.flow-item.result in
    let cs = c.loop-flow.plan.items in
    let asked : c.reads_changed.result ≡ reads_from e.world f (roots_in cs) = c.reads_changed.ensures ∙ ap (λ (ds : List Change). reads_from e.world f (roots_in ds)) c.deref.ensures.value in
    paid_short e0 e c.args.flows.now c.args.plan.now.items cs c.args.runs.now c.loop-flow.flow-index c.loop-flow.runs c.args.steps.now c.loop-flow.steps c.plan_flow.new.steps f c.requires.flows c.loop-flow.invariant.costs c.loop-flow.invariant.on c.loop-flow-test.true c.flow-item.is
    (sym asked ∙ c.if-reads_changed.true) c.loop-flow.invariant.paid c.plan_flow.ensures.counted
