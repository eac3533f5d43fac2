use Rattle.std.proofs.Common.{◌+◌, ◌≤◌, subst}
use Rattle.pdl_engine.specs.Reading.{read_steps}
use Rattle.pdl_scope.specs.Scope.{Scope as Seen, engine_of}
use Rattle.pdl_scope.proofs.scope.Scope.goes_in_blocks.Goals as goal

pub returns-in_err-ready_two-clause-counted : goal.returns-in_err-ready_two-clause-counted
returns-in_err-ready_two-clause-counted g c =
    let P : Seen → Type 0 = λ s. c.ready_two.new.steps ≤ c.args.steps.now + (read_steps (engine_of s) c.args.target + read_steps (engine_of s) c.args.value) in
    subst P c.self.view_is c.ready_two.ensures.counted
