-- What follows at once of the words of a scope's contracts.
use Rattle.std.proofs.Common.{◌≡◌, ℕ, List, Result, Ok, Err, refl, sym, ap, subst, ◌∙◌}
use Rattle.std.specs.Result.{IsErrAnd}
use Rattle.pdl_machine.specs.declared.fault.Fault.{Fault}
use Rattle.pdl_machine.specs.Flows.{Flows}
use Rattle.pdl_machine.specs.Names.{Names}
use Rattle.pdl_machine.specs.State.{State, with_arrays}
use Rattle.pdl_machine.specs.Outcome.{Valued}
use Rattle.pdl_machine.specs.Step.{Stepped}
use Rattle.pdl_machine.specs.Watches.{Watches}
use Rattle.pdl_machine.specs.Then.{and_then}
use Rattle.pdl_scope.specs.declared.fault.ScopeFault.{ScopeFault}
use Rattle.pdl_scope.specs.declared.fault.ScopeFault.TheVariants.{Script, NoMemory}
use Rattle.pdl_scope.specs.Answers.{IsFault, AnswersAs, Evaluates, Runs}
use Rattle.pdl_scope.specs.Scope.{Scope, machine, OnlyReads, Grows}
use Rattle.pdl_scope.specs.Growth as growth

-- arrays came, and then others
pub grows_trans : (a b c : Scope) → Grows a b → Grows b c → Grows a c
grows_trans a b c g h = growth.grows_trans a b c g h

-- arrays were read, and then others
pub reads_trans : (a b c : Scope) → OnlyReads a b → OnlyReads b c → OnlyReads a c
reads_trans a b c g h = growth.reads_trans a b c g h

-- the arrays are all that differs
pub state_is : (old new : Scope) → Grows old new → machine new ≡ with_arrays (machine old) new.arrays
state_is old new g =
    let named : Names → State = λ names. record { names = names; arrays = new.arrays; watches = new.watches; flows = new.flows } in
    let watched : Watches → State = λ watches. record { names = old.names; arrays = new.arrays; watches = watches; flows = new.flows } in
    let flowing : Flows → State = λ flows. record { names = old.names; arrays = new.arrays; watches = old.watches; flows = flows } in
    ap named g.names ∙ ap watched g.watches ∙ ap flowing g.flows

-- the fault of a first step is that of both
pub first_fault : {A B : Type 0} (x : Result A Fault) (f : A → Result B Fault) (e : ScopeFault)
    → IsFault x e → IsFault (and_then x f) e
first_fault x f (Script e) h = ap (λ y. and_then y f) h
first_fault x f NoMemory h = tt

-- it answers as the fault does
pub handed_on : {T U : Type 0} (seen : T → U) (wanted : Result U Fault) (f : ScopeFault)
    (r : Result T ScopeFault) → IsErrAnd r (λ e. e ≡ f) → IsFault wanted f
    → AnswersAs seen wanted r
handed_on seen wanted f (Ok x) e h = absurd e
handed_on seen wanted f (Err g) e h = subst (λ x. IsFault wanted x) (sym e) h

pub hands_on : (wanted : Valued) (new : Scope) (f : ScopeFault) (r : Result ℕ ScopeFault) → IsErrAnd r (λ e. e ≡ f) → IsFault wanted f → Evaluates wanted new r
hands_on wanted new f (Ok x) e h = absurd e
hands_on wanted new f (Err g) e h = subst (λ x. IsFault wanted x) (sym e) h

-- and as the statement's, which keeps all as it was but for new arrays
pub ends_at : {T : Type 0} (wanted : Stepped) (old new : Scope) (out : List ℕ) (f : ScopeFault) (r : Result T ScopeFault) → IsErrAnd r (λ e. e ≡ f) → IsFault wanted f → Grows old new → Runs wanted old new out out r
ends_at wanted old new out f (Ok x) e h g = absurd e
ends_at wanted old new out f (Err x) e h g = (subst (λ y. IsFault wanted y) (sym e) h, record { grown = g; printed = refl })
