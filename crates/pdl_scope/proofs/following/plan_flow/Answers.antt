use Rattle.std.proofs.Common.{◌≡◌, ◌+◌, ◌≤◌, ℕ, ℤ, false, List, [], ◌∷◌, ◌++◌, length, Option, sym, ap, subst, ◌∙◌, arith}
use Rattle.std.specs.Option.{option_map_or}
use Rattle.pdl_world.specs.Paths.{root_of}
use Rattle.pdl_world.specs.Swept.{is_listed}
use Rattle.pdl_world.specs.World.{World, Look, assign}
use Rattle.pdl_engine.specs.Reading.{read_steps}
use Rattle.pdl_machine.specs.Arrays.{Arrays}
use Rattle.pdl_machine.specs.Following.{follow}
use Rattle.pdl_scope.specs.FlowCosts.{find_steps}
use Rattle.pdl_scope.specs.Plans.{ArePlanned, all_assigned, listed, planned, roots_in, values_in}
use Rattle.pdl_scope.specs.Scope.{arrays_of}
use Rattle.pdl_scope.specs.declared.following.Change.{Change}
use Rattle.pdl_scope.proofs.CostLemmas.{never_dearer}
use Rattle.pdl_scope.proofs.FlowCostLemmas.{flow_paid, values_more}
use Rattle.pdl_scope.proofs.FlowingStays.{flow_live}
use Rattle.pdl_scope.proofs.PlanLemmas.{planned_kept, planned_more}
use Rattle.pdl_scope.proofs.PlanAssignments.{assigned_more}
use Rattle.pdl_scope.proofs.following.plan_flow.Goals as goal

pub returns-clause-planned : goal.returns-clause-planned
returns-clause-planned g c =
    let w = c.args.engine.now.world in
    let e = c.elements_of_flow.new.engine in
    let t = c.ready.new.engine in
    let plan = c.args.plan.now.items in
    let d = c.in_ok-change.change in
    let r = c.args.flow.now.root in
    let worlds : t.world ≡ w = c.ready.ensures.same.world ∙ c.elements_of_flow.ensures.same.world in
    let own : root_of w r ≡ r = ap (λ (o : Option Look). option_map_or (λ l. l.root) o r) c.requires.flow.is_root.look_is in
    let at : d.root ≡ r =
    c.in_ok-change.ensures.made.root ∙ ap (λ (x : World). root_of x d.target) worlds ∙ ap (root_of w) (c.in_ok-change.ensures.target ∙ c.root-root.ensures) ∙ own in
    let before : ArePlanned t plan = planned_kept e t c.ready.ensures.same c.ready.ensures.stay plan (planned_kept c.args.engine.now e c.elements_of_flow.ensures.same c.elements_of_flow.ensures.stay plan c.requires.plan) in
    subst (ArePlanned t) (sym c.in_ok-push.ensures.items) (planned_more t plan d before c.in_ok-change.ensures.made (ap (is_listed (roots_in plan)) at ∙ c.requires.apart))

abbrev with_world : Arrays → World → Arrays
with_world a y = record a { world = y }

pub returns-clause-follows : goal.returns-clause-follows
returns-clause-follows g c =
    let a : Arrays = arrays_of c.args.engine.now in
    let w = a.world in
    let plan = c.args.plan.now.items in
    let d = c.in_ok-change.change in
    let f = c.args.flow.now in
    let x : World = all_assigned w plan in
    ap (planned a) c.in_ok-push.ensures.items
    ∙ ap (λ (y : World). with_world a y) (assigned_more w plan d ∙ ap (λ (v : ℕ). assign x v (listed d.values)) (c.in_ok-change.ensures.target ∙ c.root-root.ensures) ∙ ap (assign x c.args.flow.now.root) (ap listed c.in_ok-change.ensures.values ∙ c.in_ok-values.ensures.listed))
    ∙ sym (subst (λ (cs : List Change). follow (planned a cs) f ≡ with_world a (assign (all_assigned w cs) f.root c.in_ok-elems.elems)) c.deref.ensures.value c.in_ok-elems.ensures.follows)

pub returns-clause-paid : goal.returns-clause-paid
returns-clause-paid g c =
    let e0 = c.args.engine.now in
    let e = c.elements_of_flow.new.engine in
    let f = c.args.flow.now in
    let d = c.in_ok-change.change in
    let es = c.in_ok-elems.elems in
    let plan = c.args.plan.now.items in
    let b : Arrays = planned (arrays_of e0) plan in
    let found = subst (λ (cs : List Change). c.elements_of_flow.new.steps ≤ c.args.steps.now + find_steps e0 (planned (arrays_of e0) cs) f) c.deref.ensures.value c.elements_of_flow.ensures.counted in
    let less = c.in_ok-elems.ensures.costs f.root (flow_live (arrays_of e0) f c.requires.flow) in
    let read = subst (λ (r : ℕ). c.ready.new.steps ≤ c.elements_of_flow.new.steps + read_steps e r) c.root-root.ensures c.ready.ensures.counted in
    let paid = flow_paid e0 e b f es c.args.steps.now c.elements_of_flow.new.steps c.ready.new.steps c.new.new.steps less c.in_ok-elems.ensures.made.count found read c.new.ensures.counted in
    let more : values_in c.push.new.self.items ≡ values_in plan + length (listed d.values) = ap values_in c.in_ok-push.ensures.items ∙ values_more plan d in
    let long : length (listed d.values) ≡ length es = ap length (ap listed c.in_ok-change.ensures.values ∙ c.in_ok-values.ensures.listed) in
    omega (arith, paid, more, long)

pub returns-clause-counted : goal.returns-clause-counted
returns-clause-counted g c =
    let e0 = c.args.engine.now in
    let e = c.elements_of_flow.new.engine in
    let f = c.args.flow.now in
    let es = c.in_ok-elems.elems in
    let found = subst (λ (cs : List Change). c.elements_of_flow.new.steps ≤ c.args.steps.now + find_steps e0 (planned (arrays_of e0) cs) f) c.deref.ensures.value c.elements_of_flow.ensures.counted in
    let less = c.in_ok-elems.ensures.costs f.root (flow_live (arrays_of e0) f c.requires.flow) in
    let read = subst (λ (r : ℕ). c.ready.new.steps ≤ c.elements_of_flow.new.steps + read_steps e r) c.root-root.ensures c.ready.ensures.counted in
    let paid = flow_paid e0 e (planned (arrays_of e0) c.args.plan.now.items) f es c.args.steps.now c.elements_of_flow.new.steps c.ready.new.steps c.new.new.steps less c.in_ok-elems.ensures.made.count found read c.new.ensures.counted in
    omega (arith, paid)

pub returns-in_err-push-clause-counted : goal.returns-in_err-push-clause-counted
returns-in_err-push-clause-counted g c =
    let e0 = c.args.engine.now in
    let e = c.elements_of_flow.new.engine in
    let f = c.args.flow.now in
    let es = c.in_ok-elems.elems in
    let found = subst (λ (cs : List Change). c.elements_of_flow.new.steps ≤ c.args.steps.now + find_steps e0 (planned (arrays_of e0) cs) f) c.deref.ensures.value c.elements_of_flow.ensures.counted in
    let less = c.in_ok-elems.ensures.costs f.root (flow_live (arrays_of e0) f c.requires.flow) in
    let read = subst (λ (r : ℕ). c.ready.new.steps ≤ c.elements_of_flow.new.steps + read_steps e r) c.root-root.ensures c.ready.ensures.counted in
    let paid = flow_paid e0 e (planned (arrays_of e0) c.args.plan.now.items) f es c.args.steps.now c.elements_of_flow.new.steps c.ready.new.steps c.new.new.steps less c.in_ok-elems.ensures.made.count found read c.new.ensures.counted in
    omega (arith, paid)

pub returns-in_err-change-clause-counted : goal.returns-in_err-change-clause-counted
returns-in_err-change-clause-counted g c =
    let e0 = c.args.engine.now in
    let e = c.elements_of_flow.new.engine in
    let f = c.args.flow.now in
    let es = c.in_ok-elems.elems in
    let found = subst (λ (cs : List Change). c.elements_of_flow.new.steps ≤ c.args.steps.now + find_steps e0 (planned (arrays_of e0) cs) f) c.deref.ensures.value c.elements_of_flow.ensures.counted in
    let less = c.in_ok-elems.ensures.costs f.root (flow_live (arrays_of e0) f c.requires.flow) in
    let read = subst (λ (r : ℕ). c.ready.new.steps ≤ c.elements_of_flow.new.steps + read_steps e r) c.root-root.ensures c.ready.ensures.counted in
    let paid = flow_paid e0 e (planned (arrays_of e0) c.args.plan.now.items) f es c.args.steps.now c.elements_of_flow.new.steps c.ready.new.steps c.new.new.steps less c.in_ok-elems.ensures.made.count found read c.new.ensures.counted in
    omega (arith, paid)

pub returns-in_err-values-clause-counted : goal.returns-in_err-values-clause-counted
returns-in_err-values-clause-counted g c =
    let e0 = c.args.engine.now in
    let e = c.elements_of_flow.new.engine in
    let f = c.args.flow.now in
    let es = c.in_ok-elems.elems in
    let found = subst (λ (cs : List Change). c.elements_of_flow.new.steps ≤ c.args.steps.now + find_steps e0 (planned (arrays_of e0) cs) f) c.deref.ensures.value c.elements_of_flow.ensures.counted in
    let less = c.in_ok-elems.ensures.costs f.root (flow_live (arrays_of e0) f c.requires.flow) in
    let read = subst (λ (r : ℕ). c.ready.new.steps ≤ c.elements_of_flow.new.steps + read_steps e r) c.root-root.ensures c.ready.ensures.counted in
    let paid = flow_paid e0 e (planned (arrays_of e0) c.args.plan.now.items) f es c.args.steps.now c.elements_of_flow.new.steps c.ready.new.steps c.new.new.steps less c.in_ok-elems.ensures.made.count found read c.new.ensures.counted in
    omega (arith, paid)

pub returns-in_err-ready-clause-counted : goal.returns-in_err-ready-clause-counted
returns-in_err-ready-clause-counted g c =
    let e0 = c.args.engine.now in
    let e = c.elements_of_flow.new.engine in
    let f = c.args.flow.now in
    let found = subst (λ (cs : List Change). c.elements_of_flow.new.steps ≤ c.args.steps.now + find_steps e0 (planned (arrays_of e0) cs) f) c.deref.ensures.value c.elements_of_flow.ensures.counted in
    let less = c.in_ok-elems.ensures.costs f.root (flow_live (arrays_of e0) f c.requires.flow) in
    let read = subst (λ (r : ℕ). c.ready.new.steps ≤ c.elements_of_flow.new.steps + read_steps e r) c.root-root.ensures c.ready.ensures.counted in
    omega (arith, found, less, read)

pub returns-in_err-elems-clause-counted : goal.returns-in_err-elems-clause-counted
returns-in_err-elems-clause-counted g c =
    let e0 = c.args.engine.now in
    let f = c.args.flow.now in
    let found = subst (λ (cs : List Change). c.elements_of_flow.new.steps ≤ c.args.steps.now + find_steps e0 (planned (arrays_of e0) cs) f) c.deref.ensures.value c.elements_of_flow.ensures.counted in
    omega (arith, found)

pub returns-clause-costs : goal.returns-clause-costs
returns-clause-costs g c =
    never_dearer c.args.engine.now c.elements_of_flow.new.engine c.ready.new.engine c.elements_of_flow.ensures.same c.in_ok-elems.ensures.costs c.ready.ensures.costs
