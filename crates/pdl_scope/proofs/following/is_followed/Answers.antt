use Rattle.std.proofs.Common.{◌≡◌, ◌≢◌, ◌+◌, ◌∷◌, [], List, drop, sym, ap, ◌∙◌, arith}
use Rattle.std.proofs.lemmas.List.{drop_all}
use Rattle.pdl_flow.specs.Formula.{arrays_in}
use Rattle.pdl_machine.specs.Flows.{Flow, Flows, affected}
use Rattle.pdl_scope.specs.Scope.{arrays_of}
use Rattle.pdl_scope.proofs.FlowFollowers.{affected_by, affected_past, flow_at, older_live}
use Rattle.pdl_scope.proofs.following.is_followed.Goals as goal

pub reads_root-requires-clause-live : goal.reads_root-requires-clause-live
reads_root-requires-clause-live c =
    let e = c.args.engine.now in
    let f = c.flow-item.result in
    older_live e.world f.root (arrays_in f.formula) (flow_at (arrays_of e) c.args.flows.now c.loop-flow.flow-index f c.requires c.loop-flow-test.true c.flow-item.is).flow.older

-- a list with a first flow has some
some_flows : (f : Flow) (fs gs : Flows) → gs ≡ f ∷ fs → gs ≢ []
some_flows f fs gs is none = (let e : f ∷ fs ≡ [] = sym is ∙ none in cc)

pub returns-then-reads_root-clause-followed : goal.returns-then-reads_root-clause-followed
returns-then-reads_root-clause-followed c = λ t.
    let w = c.args.engine.now.world in
    let f = c.flow-item.result in
    some_flows f (affected w (drop (c.loop-flow.flow-index + 1) c.args.flows.now) (c.args.root ∷ f.root ∷ [])) (affected w c.args.flows.now (c.args.root ∷ []))
    (sym c.loop-flow.invariant.before ∙ affected_by w c.args.flows.now c.loop-flow.flow-index (c.args.root ∷ []) f c.loop-flow-test.true c.flow-item.is (sym c.reads_root.ensures.reads ∙ c.if-reads_root.true))

pub loop-flow-preserved : goal.loop-flow-preserved
loop-flow-preserved c = record {
  before = sym (affected_past c.args.engine.now.world c.args.flows.now c.loop-flow.flow-index (c.args.root ∷ []) c.flow-item.result c.loop-flow-test.true c.flow-item.is (sym c.reads_root.ensures.reads ∙ c.if-reads_root.false)) ∙ c.loop-flow.invariant.before;
  apart = c.reads_root.ensures.apart;
}

pub returns-clause-alone : goal.returns-clause-alone
returns-clause-alone c = λ t.
    sym c.loop-flow.invariant.before ∙ ap (λ (fs : Flows). affected c.args.engine.now.world fs (c.args.root ∷ [])) (drop_all c.loop-flow.flow-index c.args.flows.now (omega arith))
