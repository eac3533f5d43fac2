use Rattle.std.proofs.Common.{◌≡◌, ◌+◌, ◌≤◌, List, [], arith, sym, ap, subst, ◌∙◌}
use Rattle.pdl_syntax.specs.Tree.{none}
use Rattle.pdl_syntax.specs.TreeOf.{args_of}
use Rattle.pdl_session.specs.Arguments.{arguments}
use Rattle.pdl_engine.specs.State.{ready_steps}
use Rattle.pdl_machine.specs.Cuts.{dims_given}
use Rattle.pdl_scope.specs.Costs.{total_size}
use Rattle.pdl_scope.specs.Growth.{grows_refl}
use Rattle.pdl_scope.specs.declared.fault.ScopeFault.TheVariants.{NoMemory}
use Rattle.pdl_scope.specs.Scope.{engine_of, machine}
use Rattle.pdl_session.specs.declared.given.Given.{Given}
use Rattle.pdl_session.specs.Costs.{argued_steps, read_all, ready_all}
use Rattle.pdl_session.specs.Moves.{wanted_size}
use Rattle.pdl_session.proofs.MoveLemmas.{reshaped_within, sizes_refused, sizes_unknown}
use Rattle.pdl_session.proofs.ArgumentCuts.{runs_reshaped, reshape_refused}
use Rattle.pdl_session.proofs.ArgumentEvals.{with_given}
use Rattle.pdl_session.proofs.CameGained.{args_start}
use Rattle.pdl_session.proofs.ScopeFacts.{ends_at}
use Rattle.pdl_session.proofs.resizing.reshape.Goals as goal

pub returns-in_ok-given-in-Some-clause-runs : goal.returns-in_ok-given-in-Some-clause-runs
returns-in_ok-given-in-Some-clause-runs g c =
    let a = c.args.scope.now.arrays in
    runs_reshaped c.resized.result c.args.scope.now c.take.new.scope c.resized.new.scope c.args.name.now (args_of c.args.sizes.now none) (arguments c.in_ok-given-in-Some.given.items) (arguments c.deref.result.now) c.in-Some.id
    (sym c.number_of.ensures.number ∙ c.in-Some.is) (c.in_ok-given-in-Some.ensures.value a none (ap (λ gs. with_given a (arguments gs)) (sym c.in_ok-none-in-Some.ensures.items))) (ap arguments c.deref.ensures.value) c.take.ensures.grown c.resized.ensures.runs

pub returns-in_err-none-in-Some-clause-runs : goal.returns-in_err-none-in-Some-clause-runs
returns-in_err-none-in-Some-clause-runs g c = ends_at _ _ _ _ NoMemory c.from_residual.result c.from_residual.ensures.1 tt (grows_refl c.args.scope.now)

pub returns-in_err-given-in-Some-clause-runs : goal.returns-in_err-given-in-Some-clause-runs
returns-in_err-given-in-Some-clause-runs g c =
    let s = c.args.scope.now in
    let f = c.in_err-given-in-Some.field-0.0 in
    ends_at _ _ _ _ f c.from_residual-in_err-given-in-Some.result c.from_residual-in_err-given-in-Some.ensures.1
    (reshape_refused (machine s) c.args.name.now (args_of c.args.sizes.now none) c.in-Some.id f (sym c.number_of.ensures.number ∙ c.in-Some.is)
    (c.in_err-given-in-Some.ensures.value s.arrays none (ap (λ gs. with_given s.arrays (arguments gs)) (sym c.in_ok-none-in-Some.ensures.items)))) c.take.ensures.grown

pub returns-in-None-clause-within : goal.returns-in-None-clause-within
returns-in-None-clause-within g c = sizes_unknown c.args.scope.now c.args.name.now (args_of c.args.sizes.now none) (argued_steps c.args.scope.now (args_of c.args.sizes.now none)) c.args.steps.now (sym c.number_of.ensures.number ∙ c.in-None.is)

pub returns-in_ok-given-in-Some-clause-within : goal.returns-in_ok-given-in-Some-clause-within
returns-in_ok-given-in-Some-clause-within g c =
    let s = c.args.scope.now in
    let mid = c.take.new.scope in
    let args = args_of c.args.sizes.now none in
    let id = c.in-Some.id in
    let gs = c.in_ok-given-in-Some.given.items in
    let G : List Given → Type 0 = λ hs. c.take.new.steps + ready_all mid gs + total_size s.arrays.world ≤ c.args.steps.now + total_size mid.arrays.world + (argued_steps s args + ready_all s hs) in
    let taken : G [] = subst G c.in_ok-none-in-Some.ensures.items (c.in_ok-given-in-Some.ensures.within s.arrays none (ap (λ hs. with_given s.arrays (arguments hs)) (sym c.in_ok-none-in-Some.ensures.items))) in
    let H : List Given → Type 0 = λ hs. c.resized.new.steps ≤ c.take.new.steps + (read_all mid hs + (ready_steps (engine_of mid) id + wanted_size (dims_given (mid.arrays, arguments hs)))) in
    let counted : H gs = subst H c.deref.ensures.value c.resized.ensures.counted in
    let costs = c.cost_laws.ensures.older s mid c.in_order.ensures c.in_order-in-Some.ensures c.take.ensures.grown in
    reshaped_within s mid c.args.name.now args gs (argued_steps s args) c.args.steps.now c.take.new.steps c.resized.new.steps id
    (sym c.number_of.ensures.number ∙ c.in-Some.is) (c.in_ok-given-in-Some.ensures.value s.arrays none (ap (λ hs. with_given s.arrays (arguments hs)) (sym c.in_ok-none-in-Some.ensures.items))) costs c.in-Some.ensures.live (omega (arith, taken)) counted

pub returns-in_err-none-in-Some-clause-within : goal.returns-in_err-none-in-Some-clause-within
returns-in_err-none-in-Some-clause-within g c =
    let s = c.args.scope.now in
    let args = args_of c.args.sizes.now none in
    sizes_refused s c.args.name.now args (argued_steps s args) c.args.steps.now c.args.steps.now c.in-Some.id (sym c.number_of.ensures.number ∙ c.in-Some.is) (omega (arith, args_start s.names s.arrays args))

pub returns-in_err-given-in-Some-clause-within : goal.returns-in_err-given-in-Some-clause-within
returns-in_err-given-in-Some-clause-within g c =
    let s = c.args.scope.now in
    let args = args_of c.args.sizes.now none in
    let none_given : ready_all s c.in_ok-none-in-Some.none.items ≡ 0 = ap (ready_all s) c.in_ok-none-in-Some.ensures.items in
    let within = c.in_err-given-in-Some.ensures.within s.arrays none (ap (λ hs. with_given s.arrays (arguments hs)) (sym c.in_ok-none-in-Some.ensures.items)) in
    sizes_refused s c.args.name.now args (argued_steps s args) c.args.steps.now c.take.new.steps c.in-Some.id (sym c.number_of.ensures.number ∙ c.in-Some.is) (omega (arith, none_given, within))
