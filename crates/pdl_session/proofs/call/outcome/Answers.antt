use Rattle.std.proofs.Common.{sym, subst}
use Rattle.pdl_machine.specs.declared.builtin.Builtin.{Builtin}
use Rattle.pdl_machine.specs.Calls.{outcome}
use Rattle.pdl_scope.specs.Answers.{AnswersAs}
use Rattle.pdl_session.specs.Arguments.{all_seen_of, outcome_of}
use Rattle.pdl_session.proofs.call.outcome.Goals as goal

pub returns-in-Slice-clause-value : goal.returns-in-Slice-clause-value
returns-in-Slice-clause-value g c =
    subst (λ (b : Builtin). AnswersAs outcome_of (outcome b (all_seen_of c.args.scope.now.arrays c.args.given.now)) c.slice.result) (sym c.in-Slice.is) (c.slice.ensures.value c.args.scope.now.arrays)
