-- What the faults of a scope are to a session.
use Rattle.std.specs.Prelude.{Result, Ok, Err}
use Rattle.pdl_scope.specs.declared.fault.ScopeFault.{ScopeFault}
use Rattle.pdl_scope.specs.declared.fault.ScopeFault.TheVariants as scope
use Rattle.pdl_session.specs.declared.fault.StepFault.{StepFault}
use Rattle.pdl_session.specs.declared.fault.StepFault.TheVariants.{Script, Watcher, NoMemory}

abbrev pub of_scope : ScopeFault → StepFault
of_scope (scope.Script f) = Script f
of_scope scope.NoMemory = NoMemory

-- where a fault of the script refused the statement
abbrev pub IfFaulted : StepFault → Type 0 → Type 0
IfFaulted (Script f) P = P
IfFaulted _ P = Unit {0}

-- how a statement ended: it ran, or why it didn't
abbrev pub ending : {T : Type 0} → Result T ScopeFault → Result (Unit {0}) ScopeFault
ending (Ok x) = Ok tt
ending (Err e) = Err e

-- how the statement of a step ended: where a watcher failed, it ran
abbrev pub step_ending : Result (Unit {0}) StepFault → Result (Unit {0}) ScopeFault
step_ending (Ok x) = Ok tt
step_ending (Err (Script f)) = Err (scope.Script f)
step_ending (Err Watcher) = Ok tt
step_ending (Err NoMemory) = Err scope.NoMemory

-- where a watcher failed
abbrev pub IfWatcher : StepFault → Type 0 → Type 0
IfWatcher Watcher P = P
IfWatcher _ P = Unit {0}

-- unless a watcher failed
abbrev pub UnlessWatcher : StepFault → Type 0 → Type 0
UnlessWatcher Watcher P = Unit {0}
UnlessWatcher _ P = P
