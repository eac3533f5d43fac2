use Rattle.std.proofs.Common.{Result, Ok, subst}
use Rattle.pdl_buf.specs.declared.made.Made.{Made}
use Rattle.pdl_machine.specs.Outcome.{made}
use Rattle.pdl_scope.specs.declared.fault.ScopeFault.{ScopeFault}
use Rattle.pdl_scope.specs.Answers.{Answers}
use Rattle.pdl_session.proofs.ScopeFacts.{first_fault}
use Rattle.pdl_session.proofs.reducing.new_array.Goals as goal

pub returns-in-Err-clause-value : goal.returns-in-Err-clause-value
returns-in-Err-clause-value c = λ wanted h.
    first_fault wanted (λ m. Ok (made m)) c.in-Err.fault (subst (λ (r : Result Made ScopeFault). Answers wanted r) c.in-Err.is h)
