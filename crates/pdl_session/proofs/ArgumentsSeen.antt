-- How the outcomes of calls join the arrays.
use Rattle.std.proofs.Common.{◌≡◌, ℕ, List, Result, Ok, sym, ap, subst}
use Rattle.pdl_machine.specs.declared.fault.Fault.{Fault}
use Rattle.pdl_machine.specs.declared.builtin.Builtin.{Builtin}
use Rattle.pdl_machine.specs.Arrays.{Arrays}
use Rattle.pdl_scope.specs.Scope.{Scope}
use Rattle.pdl_machine.specs.Outcome.{Outcome as Placed, placed}
use Rattle.pdl_machine.specs.Calls.{outcome, builtin_value}
use Rattle.pdl_scope.specs.declared.fault.ScopeFault.{ScopeFault}
use Rattle.pdl_scope.specs.declared.fault.ScopeFault.TheVariants.{Script, NoMemory}
use Rattle.pdl_session.specs.declared.given.Given.{Given}
use Rattle.pdl_scope.specs.Answers.{IsFault, Evaluates}
use Rattle.pdl_session.specs.Arguments.{arguments, all_seen_of}

-- a call's value, from its outcome
pub value_is : (b : Builtin) (a : Arrays) (given : List Given) (o : Placed) → outcome b (all_seen_of a given) ≡ Ok o → builtin_value b a (arguments given) ≡ placed a (arguments given) (Ok o)
value_is b a given o e = ap (placed a (arguments given)) e

pub evaluates : (b : Builtin) (a : Arrays) (given : List Given) (o : Placed) (new : Scope) (r : Result ℕ ScopeFault) → outcome b (all_seen_of a given) ≡ Ok o
    → Evaluates (placed a (arguments given) (Ok o)) new r → Evaluates (builtin_value b a (arguments given)) new r
evaluates b a given o new r e h = let P : Result (Arrays × ℕ) Fault → Type 0 = λ x. Evaluates x new r in subst P (sym (value_is b a given o e)) h

pub call_fault : (b : Builtin) (a : Arrays) (given : List Given) (e : ScopeFault) → IsFault (outcome b (all_seen_of a given)) e → IsFault (builtin_value b a (arguments given)) e
call_fault b a given (Script f) h = ap (placed a (arguments given)) h
call_fault b a given NoMemory h = tt
