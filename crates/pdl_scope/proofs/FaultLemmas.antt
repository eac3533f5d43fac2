-- What operators give, with the faults of statements.
use Rattle.std.proofs.Common.{◌≡◌, Result, Ok, Err, ap}
use Rattle.std.specs.Prelude.{Option, Some, None, IfOk, IfSome, option_map}
use Rattle.pdl_buf.specs.declared.made.Made.{Made}
use Rattle.pdl_ops.specs.Answers as operator
use Rattle.pdl_ops.specs.Answers.{IsRefused, refusal_named}
use Rattle.pdl_ops.specs.Elementwise.{OpRefusal}
use Rattle.pdl_ops.specs.declared.OpFault.{OpFault}
use Rattle.pdl_machine.specs.Arrays.{Arrays}
use Rattle.pdl_machine.specs.Outcome.{new_root}
use Rattle.pdl_machine.specs.Refused.{operator_fault, or_named}
use Rattle.pdl_machine.specs.declared.fault.Fault.{Fault}
use Rattle.pdl_scope.specs.declared.fault.ScopeFault.{ScopeFault}
use Rattle.pdl_machine.specs.Then.{and_then}
use Rattle.pdl_scope.specs.declared.fault.ScopeFault.TheVariants as fault
use Rattle.pdl_scope.specs.Answers.{AnswersAs, IsFault}
use Rattle.pdl_scope.specs.Faults.{operator_named, scope_fault}

-- what a fault names refuses a statement, by its name in the machine
pub named_fault : {A E : Type 0} (name : E → Fault) (wanted : Result A E) (reason : Option E) → IfSome reason (λ e. wanted ≡ Err e) → IsFault (or_named name wanted) (scope_fault (option_map name reason))
named_fault name wanted None h = tt
named_fault name wanted (Some e) h = ap (or_named name) h

-- no new array comes of a fault
pub not_made : (wanted : Result Made Fault) (a : Arrays) (e : ScopeFault) → IsFault wanted e → IsFault (and_then wanted (new_root a)) e
not_made wanted a (fault.Script e) h = ap (λ x. and_then x (new_root a)) h
not_made wanted a fault.NoMemory h = tt

refused : {A : Type 0} (wanted : Result A OpRefusal) (named : Option OpRefusal) → IsRefused wanted named → IsFault (or_named operator_fault wanted) (scope_fault (option_map operator_fault named))
refused wanted (Some refusal) h = ap (or_named operator_fault) h
refused wanted None h = tt

-- what an operator answers is what a statement does
pub answers_named : {A B : Type 0} (seen : A → B) (wanted : Result B OpRefusal) (found : Result A OpFault) → operator.Answers seen wanted found → AnswersAs seen (or_named operator_fault wanted) (operator_named found)
answers_named seen wanted (Ok x) h = ap (or_named operator_fault) h
answers_named seen wanted (Err f) h = refused wanted (refusal_named f) h

pub holds_named : {A : Type 0} (P : A → Type 0) (found : Result A OpFault) → IfOk found P → IfOk (operator_named found) P
holds_named P (Ok x) h = h
holds_named P (Err f) h = tt
