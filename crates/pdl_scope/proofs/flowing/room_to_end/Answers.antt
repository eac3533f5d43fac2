use Rattle.std.proofs.Common.{◌≡◌, ◌+◌, ℕ, List, length, Option, Some, sym, ap, ◌∙◌, arith}
use Rattle.std.proofs.lemmas.Option.{slice_get_within}
use Rattle.pdl_flow.specs.Formula.{arrays_in}
use Rattle.pdl_machine.specs.Flows.{Flow}
use Rattle.pdl_scope.specs.Flowing.{read_by}
use Rattle.pdl_scope.proofs.FlowingEnds.{ended_at, none_ended, same_place}
use Rattle.pdl_scope.proofs.flowing.room_to_end.Goals as goal

pub returns-in-Some-clause-room : goal.returns-in-Some-clause-room
returns-in-Some-clause-room c =
    let at = c.in-Some.ensures.here in
    let fs = c.args.flows.now in
    let ended = ended_at fs c.in-Some.place c.args.root at.flow c.requires at.is at.root in
    let same : at.flow ≡ c.index-flows-place.result = same_place fs c.in-Some.place at.flow c.index-flows-place.result (slice_get_within fs c.in-Some.place at.flow at.is) at.is c.index-flows-place.is in
    ap (λ n. n + 1) (ap length (c.reads.ensures ∙ ap (λ (f : Flow). arrays_in f.formula) (sym same) ∙ sym ended.1))

pub returns-in-None-clause-room : goal.returns-in-None-clause-room
returns-in-None-clause-room c =
    let none = (none_ended c.args.flows.now c.args.root c.in-None.ensures.none).1 in
    let l : length (read_by c.args.flows.now c.args.root) ≡ 0 = ap length none in
    omega (arith, l)
