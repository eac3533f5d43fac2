use Rattle.std.proofs.Common.{arith, Ok, sym, ap, ◌∙◌, ◌≡◌}
use Rattle.pdl_machine.specs.Cuts.{dims_given}
use Rattle.pdl_machine.specs.Fills.{dims_for, numbers_in}
use Rattle.pdl_machine.specs.Then.{and_then}
use Rattle.pdl_session.specs.Arguments.{all_seen_of, arguments}
use Rattle.pdl_scope.specs.Growth.{reads_grow}
use Rattle.pdl_session.proofs.ArgumentCuts.{sizes_refused, dims_refused, runs_resized}
use Rattle.pdl_session.specs.Costs.{read_all}
use Rattle.pdl_session.proofs.ScopeFacts.{ends_at}
use Rattle.pdl_session.proofs.MoveLemmas.{resized_counted}
use Rattle.pdl_session.proofs.resizing.resized.Goals as goal

pub returns-in_err-numbers-clause-runs : goal.returns-in_err-numbers-clause-runs
returns-in_err-numbers-clause-runs g c =
    let s = c.args.scope.now in
    let f = c.in_err-numbers.field-0.0 in
    ends_at _ _ _ _ f c.from_residual.result c.from_residual.ensures.1 (sizes_refused s c.args.id c.args.sizes.now f c.in_err-numbers.ensures.value) (reads_grow s c.numbers_in.new.scope c.numbers_in.ensures.same)

pub returns-in_err-dims-clause-runs : goal.returns-in_err-dims-clause-runs
returns-in_err-dims-clause-runs g c =
    let s = c.args.scope.now in
    let f = c.in_err-dims.field-0.0 in
    let numbers : numbers_in (all_seen_of s.arrays c.args.sizes.now) ≡ Ok c.deref.result.now = c.in_ok-numbers.ensures.value ∙ ap Ok (sym c.deref.ensures.value) in
    ends_at _ _ _ _ f c.from_residual-in_err-dims.result c.from_residual-in_err-dims.ensures.1 (dims_refused s c.args.id c.args.sizes.now c.deref.result.now f numbers c.in_err-dims.ensures) (reads_grow s c.numbers_in.new.scope c.numbers_in.ensures.same)

pub returns-clause-runs : goal.returns-clause-runs
returns-clause-runs g c =
    let s = c.args.scope.now in
    let numbers : numbers_in (all_seen_of s.arrays c.args.sizes.now) ≡ Ok c.deref.result.now = c.in_ok-numbers.ensures.value ∙ ap Ok (sym c.deref.ensures.value) in
    runs_resized c.reshape.result s c.numbers_in.new.scope c.reshape.new.self c.args.id c.args.sizes.now c.deref.result.now c.in_ok-dims.dims numbers c.in_ok-dims.ensures c.numbers_in.ensures.same c.reshape.ensures.runs

pub returns-in_err-numbers-clause-counted : goal.returns-in_err-numbers-clause-counted
returns-in_err-numbers-clause-counted g c = omega (arith, c.numbers_in.ensures.counted)

pub returns-in_err-dims-clause-counted : goal.returns-in_err-dims-clause-counted
returns-in_err-dims-clause-counted g c = omega (arith, c.numbers_in.ensures.counted)

pub returns-clause-counted : goal.returns-clause-counted
returns-clause-counted g c =
    let s = c.args.scope.now in
    let mid = c.numbers_in.new.scope in
    let numbers : numbers_in (all_seen_of s.arrays c.args.sizes.now) ≡ Ok c.deref.result.now = c.in_ok-numbers.ensures.value ∙ ap Ok (sym c.deref.ensures.value) in
    let is : dims_given (s.arrays, arguments c.args.sizes.now) ≡ Ok c.in_ok-dims.dims = ap (λ x. and_then x dims_for) numbers ∙ c.in_ok-dims.ensures in
    let costs = c.cost_laws.ensures.older s mid c.in_order.ensures c.in_order-2.ensures (reads_grow s mid c.numbers_in.ensures.same) in
    resized_counted s mid (dims_given (s.arrays, arguments c.args.sizes.now)) c.args.id (read_all s c.args.sizes.now) c.args.steps.now c.numbers_in.new.steps c.reshape.new.steps c.in_ok-dims.dims is costs c.requires.live c.numbers_in.ensures.counted c.reshape.ensures.counted
