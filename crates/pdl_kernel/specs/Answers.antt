-- What an answer says of the definition.
use Rattle.std.specs.Prelude.{◌≡◌, IfSome, List, Result, Ok, Err, Vec}
use Rattle.std.specs.Global.{Global}
use Rattle.pdl_buf.specs.declared.made.Made.{Made}
use Rattle.pdl_kernel.specs.declared.faults.Fault.{Fault}
use Rattle.pdl_kernel.specs.declared.faults.RunFault.{RunFault}
use Rattle.pdl_kernel.specs.Call.{PlacedFault, fault_named}

-- the answer is what is wanted; `NoMemory` says nothing
abbrev pub Answers : (wanted : Result (List Made) PlacedFault) →
    Result (Vec Made Global) RunFault → Type 0
Answers wanted (Ok outputs) = wanted ≡ Ok outputs.items
Answers wanted (Err fault) = IfSome (fault_named fault) (λ placed. wanted ≡ Err placed)

-- what a call that may change something did: an answer and the new value, or the fault
abbrev pub Becomes : {A B : Type 0} → Result B Fault → (now : A) → Result A Fault → Type 0
Becomes (Ok b) now wanted = wanted ≡ Ok now
Becomes (Err e) now wanted = wanted ≡ Err e
