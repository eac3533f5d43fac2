use Rattle.std.proofs.Common.{◌≡◌, ◌++◌, false, sym, ap, subst, ◌∙◌}
use Rattle.pdl_machine.specs.Flows.{Flows, all_read}
use Rattle.pdl_scope.specs.Flowing.{RootsRise, have_flow}
use Rattle.pdl_scope.specs.LetGo.{HasFlows}
use Rattle.pdl_scope.specs.Scope.{arrays_of}
use Rattle.pdl_scope.proofs.FlowingStays.{roots_rise}
use Rattle.pdl_scope.proofs.LetGoLeaving.{all_stay, leaving_live}
use Rattle.pdl_scope.proofs.LetGoNeeds.{Laws}
use Rattle.pdl_scope.proofs.flowing.let_all_go.Goals as goal

pub have_flow-may_go-requires-clause-rising : goal.have_flow-may_go-requires-clause-rising
have_flow-may_go-requires-clause-rising g c =
    subst RootsRise (sym c.deref.ensures.value) (roots_rise (arrays_of c.args.engine.now) c.args.flows.now.items c.requires.flows)

pub have_flow-may_go-requires-clause-live : goal.have_flow-may_go-requires-clause-live
have_flow-may_go-requires-clause-live g c =
    let h = c.requires.held in
    leaving_live c.leaving_laws.ensures.others c.args.engine.now (h.staying ++ all_read c.args.flows.now.items) c.args.leaving.now c.holds_law.ensures.each h.held

pub release_all-requires : goal.release_all-requires
release_all-requires g c = record { staying = c.requires.held.staying ++ all_read c.args.flows.now.items; held = c.requires.held.held }

pub let_flows_go-requires : goal.let_flows_go-requires
let_flows_go-requires g c =
    let h = c.requires.held in
    record {
      staying = h.staying;
      first = c.args.engine.now;
      had = record { sound = h.held.sound; flows = c.requires.flows; lets_go = c.release_all.ensures.lets_go (h.staying ++ all_read c.args.flows.now.items) h.held };
    }

pub returns-then-may_go-clause-needed : goal.returns-then-may_go-clause-needed
returns-then-may_go-clause-needed g c = λ staying held.
    c.let_flows_go.ensures.needed staying c.args.engine.now
    (record { sound = held.sound; flows = c.requires.flows; lets_go = c.release_all.ensures.lets_go (staying ++ all_read c.args.flows.now.items) held })

pub returns-then-may_go-clause-goes_on : goal.returns-then-may_go-clause-goes_on
returns-then-may_go-clause-goes_on g c = λ first start sound h. c.let_flows_go.ensures.goes_on first start sound (c.release_all.ensures.goes_on first start sound h)

pub returns-else-may_go-clause-needed : goal.returns-else-may_go-clause-needed
returns-else-may_go-clause-needed g c = λ staying held.
    let e = c.args.engine.now in
    let fs = c.args.flows.now.items in
    let laws : Laws = record {
      below = c.leaving_laws.ensures.below;
      paths = c.leaving_laws.ensures.paths;
      kept = c.leaving_laws.ensures.kept;
      reached = c.leaving_laws.ensures.seen;
      again = c.leaving_laws.ensures.again;
    } in
    let had : HasFlows c.release_all.new.engine fs staying e =
    record { sound = held.sound; flows = c.requires.flows; lets_go = c.release_all.ensures.lets_go (staying ++ all_read fs) held } in
    let none : have_flow e.world fs c.args.leaving.now ≡ false = ap (λ (hs : Flows). have_flow e.world hs c.args.leaving.now) (sym c.deref.ensures.value) ∙ sym c.have_flow-may_go.ensures ∙ c.if-may_go.false in
    all_stay laws staying c.args.leaving.now e c.release_all.new.engine fs c.requires.flows held none had

pub returns-else-may_go-clause-goes_on : goal.returns-else-may_go-clause-goes_on
returns-else-may_go-clause-goes_on g c = c.release_all.ensures.goes_on
