use Rattle.std.proofs.Common.{◌≡◌, ℕ, ◌+◌, ◌≤◌, List, Option, Some, IfSome, sym, ap, subst, ◌∙◌, arith}
use Rattle.pdl_world.specs.Sound.{IsLive}
use Rattle.pdl_engine.specs.Reading.{read_steps}
use Rattle.pdl_scope.specs.Scope.{engine_of}
use Rattle.pdl_session.specs.declared.given.Given.{Given}
use Rattle.pdl_session.specs.Arguments.{few_arrays}
use Rattle.pdl_session.specs.Costs.{all_steps}
use Rattle.pdl_session.proofs.CostCalls.{few_two, reads_cost}
use Rattle.pdl_session.proofs.views.choices.window_parts.Goals as goal

few_both : (f : ℕ → ℕ) (given : List Given) (o p : Option ℕ) (v u : ℕ) → Some (o, p) ≡ few_arrays given → o ≡ Some v → p ≡ Some u → f v + f u ≤ all_steps f given
few_both f given o p v u shape front back =
    let pair : Option ℕ → Option ℕ → Option (Option ℕ × Option ℕ) = λ x y. Some (x, y) in
    few_two f given v u (sym shape ∙ ap (λ (x : Option ℕ). pair x p) front ∙ ap (λ (y : Option ℕ). pair (Some v) y) back)

pub returns-in_err-numbers-in-Some-edge_of-clause-counted : goal.returns-in_err-numbers-in-Some-edge_of-clause-counted
returns-in_err-numbers-in-Some-edge_of-clause-counted g c =
    let s = c.args.scope.now in
    let mid = c.only_number.new.self in
    let arm = c.in-Some-Some-Some in
    let both = few_both (read_steps (engine_of s)) c.args.rest.now arm.field-0-0 arm.field-0-1 arm.sizes arm.edge arm.ensures.shape arm.field-0-0-is arm.field-0-1-is in
    let live : IsLive s.arrays.world arm.sizes = subst (λ (o : Option ℕ). IfSome o (IsLive s.arrays.world)) arm.field-0-0-is (arm.ensures.live s.arrays.world c.requires).0 in
    let costs = reads_cost c.cost_laws.ensures.older s mid c.in_order.ensures c.in_order-in-Some-edge_of.ensures c.only_number.ensures.same in
    let less = costs.reads arm.sizes live in
    omega (arith, both, less, c.only_number.ensures.counted, c.numbers-in-Some-edge_of.ensures.counted)

pub returns-in_ok-numbers-in-Some-edge_of-clause-counted : goal.returns-in_ok-numbers-in-Some-edge_of-clause-counted
returns-in_ok-numbers-in-Some-edge_of-clause-counted g c =
    let s = c.args.scope.now in
    let mid = c.only_number.new.self in
    let arm = c.in-Some-Some-Some in
    let both = few_both (read_steps (engine_of s)) c.args.rest.now arm.field-0-0 arm.field-0-1 arm.sizes arm.edge arm.ensures.shape arm.field-0-0-is arm.field-0-1-is in
    let live : IsLive s.arrays.world arm.sizes = subst (λ (o : Option ℕ). IfSome o (IsLive s.arrays.world)) arm.field-0-0-is (arm.ensures.live s.arrays.world c.requires).0 in
    let costs = reads_cost c.cost_laws.ensures.older s mid c.in_order.ensures c.in_order-in-Some-edge_of.ensures c.only_number.ensures.same in
    let less = costs.reads arm.sizes live in
    omega (arith, both, less, c.only_number.ensures.counted, c.numbers-in-Some-edge_of.ensures.counted)
