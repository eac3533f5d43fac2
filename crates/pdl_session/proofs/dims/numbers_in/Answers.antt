use Rattle.std.proofs.Common.{rules, ◌≡◌, ◌+◌, refl, arith, ℤ, FitsSigned, w64, [], ◌∷◌, ◌++◌, Some, None, get_or, sym, ap, subst, ◌∙◌}
use Rattle.std.proofs.lemmas.Int.{to_z-of_z}
use Rattle.pdl_machine.specs.declared.fault.Fault.TheVariants.{WrongArguments}
use Rattle.pdl_machine.specs.Then.{or_fault}
use Rattle.pdl_machine.specs.Fills.{number_in}
use Rattle.pdl_machine.specs.Arrays.{Arrays}
use Rattle.pdl_scope.specs.Growth.{reads_refl}
use Rattle.pdl_session.specs.declared.given.Given.TheVariants.{Array}
use Rattle.pdl_session.specs.Arguments.{seen_of}
use Rattle.pdl_session.proofs.ArgumentsGathered.{front_none, front_more, front_stops, front_all, live_next, numbers_seen}
use Rattle.pdl_session.proofs.ScopeFacts.{reads_trans}
use Rattle.pdl_session.proofs.CostCalls.{read_first, read_next, reads_cost}
use Rattle.pdl_session.proofs.dims.numbers_in.Goals as goal

pub returns-in-None-clause-value : goal.returns-in-None-clause-value
returns-in-None-clause-value g c =
    let given = c.args.given.now in
    let i = c.loop-one.one-index in
    let P : Arrays → Type 0 = λ a. number_in (seen_of a (get_or given i (Array 0))) ≡ None in
    let none : P c.args.scope.now.arrays = subst P c.loop-one.invariant.same.arrays (sym c.in_ok-number.ensures.number ∙ c.in-None.is) in
    ap (or_fault WrongArguments)
    (numbers_seen c.args.scope.now.arrays given ∙ front_stops _ given c.loop-one.found.items i (Array 0) c.loop-one-test.true none c.loop-one.invariant.found)

pub returns-clause-value : goal.returns-clause-value
returns-clause-value g c =
    ap (or_fault WrongArguments)
    (numbers_seen c.args.scope.now.arrays c.args.given.now ∙ front_all _ c.args.given.now c.loop-one.found.items c.loop-one.one-index c.loop-one-test.false c.loop-one.invariant.found)

pub loop-one-init : goal.loop-one-init
loop-one-init g c = record {
  found = front_none (λ x. number_in (seen_of c.args.scope.now.arrays x)) c.args.given.now c.new-found.result.items c.new-found.ensures.items;
  live = c.requires;
  same = reads_refl c.args.scope.now;
  counted = omega arith;
}

pub number_in-requires : goal.number_in-requires
number_in-requires g c =
    (live_next c.args.scope.now.arrays.world c.loop-one.scope.arrays.world c.args.given.now c.loop-one.one-index (Array 0) c.loop-one-test.true
    (ap (λ (a : Arrays). a.world) c.loop-one.invariant.same.arrays) c.loop-one.invariant.live).0

pub loop-one-preserved : goal.loop-one-preserved
loop-one-preserved g c =
    let given = c.args.given.now in
    let i = c.loop-one.one-index in
    let P : Arrays → Type 0 = λ a. number_in (seen_of a (get_or given i (Array 0))) ≡ Some c.in-Some.number in
    let some : P c.args.scope.now.arrays = subst P c.loop-one.invariant.same.arrays (sym c.in_ok-number.ensures.number ∙ c.in-Some.is) in
    let fits : FitsSigned w64 c.in-Some.number = search rules in
    record {
      found = front_more (λ x. number_in (seen_of c.args.scope.now.arrays x)) given c.loop-one.found.items c.push.new.self.items i (Array 0) c.in-Some.number
          c.loop-one-test.true some (c.in_ok-push-in-Some.ensures.items ∙ ap (λ (n : ℤ). c.loop-one.found.items ++ n ∷ []) (to_z-of_z w64 c.in-Some.number fits)) c.loop-one.invariant.found;
      live = (live_next c.args.scope.now.arrays.world c.loop-one.scope.arrays.world given i (Array 0) c.loop-one-test.true
          (ap (λ (a : Arrays). a.world) c.loop-one.invariant.same.arrays) c.loop-one.invariant.live).1;
      same = reads_trans c.args.scope.now c.loop-one.scope c.number_in.new.scope c.loop-one.invariant.same c.in_ok-number.ensures.same;
      counted = read_next c.args.scope.now c.loop-one.scope c.args.given.now c.loop-one.one-index c.args.steps.now c.loop-one.steps c.number_in.new.steps (Array 0) (get_or c.args.given.now c.loop-one.one-index (Array 0)) c.loop-one-test.true refl c.requires
          (reads_cost c.cost_laws.ensures.older c.args.scope.now c.loop-one.scope c.in_order.ensures c.in_order-in-loop-one.ensures c.loop-one.invariant.same) c.loop-one.invariant.counted c.number_in.ensures.counted;
    }

pub returns-in_err-number-clause-same : goal.returns-in_err-number-clause-same
returns-in_err-number-clause-same g c = reads_trans c.args.scope.now c.loop-one.scope c.number_in.new.scope c.loop-one.invariant.same c.in_err-number.ensures.same

pub returns-in_err-push-in-Some-clause-same : goal.returns-in_err-push-in-Some-clause-same
returns-in_err-push-in-Some-clause-same g c = reads_trans c.args.scope.now c.loop-one.scope c.number_in.new.scope c.loop-one.invariant.same c.in_ok-number.ensures.same

pub returns-in-None-clause-same : goal.returns-in-None-clause-same
returns-in-None-clause-same g c = reads_trans c.args.scope.now c.loop-one.scope c.number_in.new.scope c.loop-one.invariant.same c.in_ok-number.ensures.same

pub returns-clause-same : goal.returns-clause-same
returns-clause-same g c = c.loop-one.invariant.same

pub returns-in_err-number-clause-counted : goal.returns-in_err-number-clause-counted
returns-in_err-number-clause-counted g c = read_first c.args.scope.now c.args.given.now (c.loop-one.one-index + 1) c.args.steps.now c.number_in.new.steps (read_next c.args.scope.now c.loop-one.scope c.args.given.now c.loop-one.one-index c.args.steps.now c.loop-one.steps c.number_in.new.steps (Array 0) (get_or c.args.given.now c.loop-one.one-index (Array 0)) c.loop-one-test.true refl c.requires
    (reads_cost c.cost_laws.ensures.older c.args.scope.now c.loop-one.scope c.in_order.ensures c.in_order-in-loop-one.ensures c.loop-one.invariant.same) c.loop-one.invariant.counted c.number_in.ensures.counted)

pub returns-in_err-push-in-Some-clause-counted : goal.returns-in_err-push-in-Some-clause-counted
returns-in_err-push-in-Some-clause-counted g c = read_first c.args.scope.now c.args.given.now (c.loop-one.one-index + 1) c.args.steps.now c.number_in.new.steps (read_next c.args.scope.now c.loop-one.scope c.args.given.now c.loop-one.one-index c.args.steps.now c.loop-one.steps c.number_in.new.steps (Array 0) (get_or c.args.given.now c.loop-one.one-index (Array 0)) c.loop-one-test.true refl c.requires
    (reads_cost c.cost_laws.ensures.older c.args.scope.now c.loop-one.scope c.in_order.ensures c.in_order-in-loop-one.ensures c.loop-one.invariant.same) c.loop-one.invariant.counted c.number_in.ensures.counted)

pub returns-in-None-clause-counted : goal.returns-in-None-clause-counted
returns-in-None-clause-counted g c = read_first c.args.scope.now c.args.given.now (c.loop-one.one-index + 1) c.args.steps.now c.number_in.new.steps (read_next c.args.scope.now c.loop-one.scope c.args.given.now c.loop-one.one-index c.args.steps.now c.loop-one.steps c.number_in.new.steps (Array 0) (get_or c.args.given.now c.loop-one.one-index (Array 0)) c.loop-one-test.true refl c.requires
    (reads_cost c.cost_laws.ensures.older c.args.scope.now c.loop-one.scope c.in_order.ensures c.in_order-in-loop-one.ensures c.loop-one.invariant.same) c.loop-one.invariant.counted c.number_in.ensures.counted)

pub returns-clause-counted : goal.returns-clause-counted
returns-clause-counted g c = read_first c.args.scope.now c.args.given.now c.loop-one.one-index c.args.steps.now c.loop-one.steps c.loop-one.invariant.counted
