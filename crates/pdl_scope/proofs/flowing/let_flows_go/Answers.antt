use Rattle.std.proofs.Common.{◌≡◌, ◌+◌, ◌-◌, ◌≤◌, ◌<◌, ℕ, length, subst, arith}
use Rattle.pdl_scope.proofs.LetGoNeeds.{AreAsked, Laws, all_asked, asked_more, asked_within, none_asked}
use Rattle.pdl_scope.proofs.flowing.let_flows_go.Goals as goal

pub going-init : goal.going-init
going-init g c = record {
  within = omega arith;
  asked = λ staying first had. none_asked staying c.args.engine.now c.args.flows.now.items first c.len-left.result (omega arith) had;
  goes_on = λ first start sound h. h;
}

pub let_flow_go-requires-clause-within : goal.let_flow_go-requires-clause-within
let_flow_go-requires-clause-within g c =
    let fs = c.args.flows.now.items in
    let i : ℕ = c.going.left - 1 in
    let some : 0 < c.going.left = omega arith in
    let next : c.going.left ≡ i + 1 = omega (arith, some) in
    let has = c.requires.had in
    let A : ℕ → Type 0 = λ n. AreAsked c.requires.staying c.requires.first fs n c.going.engine c.going.flows.items in
    let le : i + 1 ≤ length fs = omega (arith, some, c.going.invariant.within) in
    asked_within c.requires.staying c.requires.first fs i c.going.engine c.going.flows.items le (subst A next (c.going.invariant.asked c.requires.staying c.requires.first has))

pub let_flow_go-requires-clause-held : goal.let_flow_go-requires-clause-held
let_flow_go-requires-clause-held g c =
    record { staying = c.requires.staying; held = (c.going.invariant.asked c.requires.staying c.requires.first c.requires.had).lets_go.is_held }

pub going-preserved : goal.going-preserved
going-preserved g c =
    let fs = c.args.flows.now.items in
    let i : ℕ = c.going.left - 1 in
    let some : 0 < c.going.left = omega arith in
    let next : c.going.left ≡ i + 1 = omega (arith, some) in
    let lt : i < length fs = omega (arith, some, c.going.invariant.within) in
    let laws : Laws = record { below = c.leaving_laws.ensures.below; paths = c.leaving_laws.ensures.paths; kept = c.leaving_laws.ensures.kept; reached = c.leaving_laws.ensures.seen; again = c.leaving_laws.ensures.again } in
    record {
      within = omega (arith, lt);
      asked = λ staying first had.
          (let A : ℕ → Type 0 = λ n. AreAsked staying first fs n c.going.engine c.going.flows.items in
          let so_far = c.going.invariant.asked staying first had in
          asked_more laws staying first fs i c.going.engine c.let_flow_go.new.engine c.going.flows.items c.let_flow_go.new.flows.items had.sound had.flows lt
          (subst A next so_far) c.let_flow_go.ensures.flows (c.let_flow_go.ensures.lets_go staying so_far.lets_go.is_held));
      goes_on = λ first start sound h. c.let_flow_go.ensures.goes_on first start sound (c.going.invariant.goes_on first start sound h);
    }

pub returns-clause-needed : goal.returns-clause-needed
returns-clause-needed g c = λ staying first had.
    let none : c.going.left ≡ 0 = omega arith in
    all_asked staying first c.args.flows.now.items c.going.left c.going.engine c.going.flows.items none (c.going.invariant.asked staying first had)
