use Rattle.std.proofs.Common.{◌≡◌, ◌+◌, ℕ, ℤ, List, [], ◌∷◌, ◌++◌, length, sym, ap, ◌∙◌, arith}
use Rattle.pdl_shape.specs.Shape.{size_of}
use Rattle.pdl_world.specs.Paths.{root_of}
use Rattle.pdl_world.specs.World.{dims_in}
use Rattle.pdl_engine.specs.State.{State as Engine}
use Rattle.pdl_machine.specs.Flows.{Flows, affected}
use Rattle.pdl_machine.specs.Following.{followed}
use Rattle.pdl_scope.specs.FlowCosts.{followed_steps}
use Rattle.pdl_scope.specs.Plans.{listed, planned, roots_in, values_in}
use Rattle.pdl_scope.specs.Scope.{arrays_of}
use Rattle.pdl_scope.specs.declared.following.Change.{Change}
use Rattle.pdl_scope.proofs.FlowCostLemmas.{kept_and_followed, kept_and_followed_and, moved_few}
use Rattle.pdl_scope.proofs.ScopeFlowed.{written_in}
use Rattle.pdl_scope.proofs.FlowingStays.{reads_live}
use Rattle.pdl_scope.proofs.assigning.planned.Goals as goal

pub lookups-many-requires-clause-read : goal.lookups-many-requires-clause-read
lookups-many-requires-clause-read g c = reads_live (arrays_of c.args.engine.now) c.args.flows.now c.requires.flows

no_rest : (d : Change) (ds : List Change) → d ∷ ds ≡ d ∷ [] → ds ≡ []
no_rest d ds is = cc

pub returns-clause-plan : goal.returns-clause-plan
returns-clause-plan g c =
    let a = arrays_of c.args.engine.now in
    let w = a.world in
    let fs = c.args.flows.now in
    let v = c.args.target in
    let vs = c.args.values in
    let d = c.in_ok-change.change in
    let new = c.plan_flows.new.plan.items in
    let behind = c.in_ok-plan_flows.ensures.behind in
    let one : c.in_ok-plan.plan.items ≡ d ∷ [] = c.in_ok-plan.ensures.items in
    let own : d.root ≡ root_of w v = c.in_ok-change.ensures.made.root ∙ ap (root_of w) c.in_ok-change.ensures.target in
    let starts : new ≡ d ∷ behind.0 = behind.1 ∙ ap (λ (ds : List Change). ds ++ behind.0) one in
    let after : Flows = affected w fs (d.root ∷ []) in
    record {
      own = d;
      rest = behind.0;
      starts = starts;
      target_is = c.in_ok-change.ensures.target;
      values_are = ap listed c.in_ok-change.ensures.values ∙ c.in_ok-values.ensures.listed;
      made = c.in_ok-plan_flows.ensures.planned;
      follows = c.in_ok-plan_flows.ensures.follow
          ∙ ap (λ (ds : List Change). followed (planned a ds) (affected w fs (roots_in ds))) one
          ∙ ap (λ (t : ℕ). followed (written_in a t (listed d.values)) after) c.in_ok-change.ensures.target
          ∙ ap (λ (xs : List ℤ). followed (written_in a v xs) after) (ap listed c.in_ok-change.ensures.values ∙ c.in_ok-values.ensures.listed)
          ∙ ap (λ (r : ℕ). followed (written_in a v vs) (affected w fs (r ∷ []))) own;
      alone = λ none.
          (let all = ap (λ (ds : List Change). affected w fs (roots_in ds)) one ∙ ap (λ (r : ℕ). affected w fs (r ∷ [])) own ∙ none in
          no_rest d behind.0 (sym starts ∙ ap (λ p. p.items) (c.plan_flows.ensures.alone all).0 ∙ one));
    }

pub reads_views-is_looked_at-requires : goal.reads_views-is_looked_at-requires
reads_views-is_looked_at-requires g c = reads_live (arrays_of c.args.engine.now) c.args.flows.now c.requires.flows

-- what the flows take that follow a plan of one assignment
one_followed : (e : Engine) (fs : Flows) (v : ℕ) (vs : List ℤ) (cs : List Change) (d : Change) → cs ≡ d ∷ [] → d.root ≡ root_of e.world v → d.target ≡ v → listed d.values ≡ vs
    → followed_steps e (planned (arrays_of e) cs) (affected e.world fs (roots_in cs)) ≡ followed_steps e (written_in (arrays_of e) v vs) (affected e.world fs (root_of e.world v ∷ []))
one_followed e fs v vs cs d one own target values =
    let a = arrays_of e in
    let after : Flows = affected a.world fs (d.root ∷ []) in
    ap (λ (ds : List Change). followed_steps e (planned a ds) (affected a.world fs (roots_in ds))) one
    ∙ ap (λ (t : ℕ). followed_steps e (written_in a t (listed d.values)) after) target
    ∙ ap (λ (xs : List ℤ). followed_steps e (written_in a v xs) after) values
    ∙ ap (λ (r : ℕ). followed_steps e (written_in a v vs) (affected a.world fs (r ∷ []))) own

pub returns-clause-counted : goal.returns-clause-counted
returns-clause-counted g c =
    let e = c.args.engine.now in
    let v = c.args.target in
    let vs = c.args.values in
    let fs = c.args.flows.now in
    let d = c.in_ok-change.change in
    let own : d.root ≡ root_of e.world v = c.in_ok-change.ensures.made.root ∙ ap (root_of e.world) c.in_ok-change.ensures.target in
    let took = one_followed e fs v vs c.in_ok-plan.plan.items d c.in_ok-plan.ensures.items own c.in_ok-change.ensures.target (ap listed c.in_ok-change.ensures.values ∙ c.in_ok-values.ensures.listed) in
    let few = moved_few vs in
    let count = c.requires.can.count in
    let kept = c.new.ensures.counted in
    let followed = c.plan_flows.ensures.counted in
    kept_and_followed e (affected e.world fs (root_of e.world v ∷ [])) (written_in (arrays_of e) v vs) c.args.is_read (size_of (dims_in e.world v)) c.args.steps.now c.new.new.steps c.plan_flows.new.steps c.requires.read c.new.ensures.unread (omega (arith, few, count, kept)) (omega (arith, took, followed))

pub returns-in_err-plan_flows-clause-counted : goal.returns-in_err-plan_flows-clause-counted
returns-in_err-plan_flows-clause-counted g c =
    let e = c.args.engine.now in
    let v = c.args.target in
    let vs = c.args.values in
    let fs = c.args.flows.now in
    let d = c.in_ok-change.change in
    let own : d.root ≡ root_of e.world v = c.in_ok-change.ensures.made.root ∙ ap (root_of e.world) c.in_ok-change.ensures.target in
    let took = one_followed e fs v vs c.in_ok-plan.plan.items d c.in_ok-plan.ensures.items own c.in_ok-change.ensures.target (ap listed c.in_ok-change.ensures.values ∙ c.in_ok-values.ensures.listed) in
    let few = moved_few vs in
    let count = c.requires.can.count in
    let kept = c.new.ensures.counted in
    let followed = c.plan_flows.ensures.counted in
    kept_and_followed e (affected e.world fs (root_of e.world v ∷ [])) (written_in (arrays_of e) v vs) c.args.is_read (size_of (dims_in e.world v)) c.args.steps.now c.new.new.steps c.plan_flows.new.steps c.requires.read c.new.ensures.unread (omega (arith, few, count, kept)) (omega (arith, took, followed))

pub returns-in_err-values-clause-counted : goal.returns-in_err-values-clause-counted
returns-in_err-values-clause-counted g c =
    let e = c.args.engine.now in
    let v = c.args.target in
    let vs = c.args.values in
    let few = moved_few vs in
    let count = c.requires.can.count in
    let kept = c.new.ensures.counted in
    kept_and_followed e (affected e.world c.args.flows.now (root_of e.world v ∷ [])) (written_in (arrays_of e) v vs) c.args.is_read (size_of (dims_in e.world v)) c.args.steps.now c.new.new.steps c.new.new.steps c.requires.read c.new.ensures.unread (omega (arith, few, count, kept)) (omega arith)

pub returns-in_err-change-clause-counted : goal.returns-in_err-change-clause-counted
returns-in_err-change-clause-counted g c =
    let e = c.args.engine.now in
    let v = c.args.target in
    let vs = c.args.values in
    let few = moved_few vs in
    let count = c.requires.can.count in
    let kept = c.new.ensures.counted in
    kept_and_followed e (affected e.world c.args.flows.now (root_of e.world v ∷ [])) (written_in (arrays_of e) v vs) c.args.is_read (size_of (dims_in e.world v)) c.args.steps.now c.new.new.steps c.new.new.steps c.requires.read c.new.ensures.unread (omega (arith, few, count, kept)) (omega arith)

pub returns-in_err-plan-clause-counted : goal.returns-in_err-plan-clause-counted
returns-in_err-plan-clause-counted g c =
    let e = c.args.engine.now in
    let v = c.args.target in
    let vs = c.args.values in
    let few = moved_few vs in
    let count = c.requires.can.count in
    let kept = c.new.ensures.counted in
    kept_and_followed e (affected e.world c.args.flows.now (root_of e.world v ∷ [])) (written_in (arrays_of e) v vs) c.args.is_read (size_of (dims_in e.world v)) c.args.steps.now c.new.new.steps c.new.new.steps c.requires.read c.new.ensures.unread (omega (arith, few, count, kept)) (omega arith)

pub returns-clause-paid : goal.returns-clause-paid
returns-clause-paid g c =
    let e = c.args.engine.now in
    let v = c.args.target in
    let vs = c.args.values in
    let fs = c.args.flows.now in
    let d = c.in_ok-change.change in
    let cs = c.in_ok-plan.plan.items in
    let all = c.plan_flows.new.plan.items in
    let values = ap listed c.in_ok-change.ensures.values ∙ c.in_ok-values.ensures.listed in
    let own : d.root ≡ root_of e.world v = c.in_ok-change.ensures.made.root ∙ ap (root_of e.world) c.in_ok-change.ensures.target in
    let took = one_followed e fs v vs cs d c.in_ok-plan.ensures.items own c.in_ok-change.ensures.target values in
    let one : values_in cs ≡ 0 + length (listed d.values) = ap values_in c.in_ok-plan.ensures.items in
    let long : length (listed d.values) ≡ length vs = ap length values in
    let few = moved_few vs in
    let count = c.requires.can.count in
    let kept = c.new.ensures.counted in
    let followed = c.in_ok-plan_flows.ensures.paid in
    kept_and_followed_and e (affected e.world fs (root_of e.world v ∷ [])) (written_in (arrays_of e) v vs) c.args.is_read (size_of (dims_in e.world v)) c.args.steps.now c.new.new.steps c.plan_flows.new.steps (values_in all) c.requires.read c.new.ensures.unread (omega (arith, few, count, kept)) (omega (arith, took, followed, one, long, count))
