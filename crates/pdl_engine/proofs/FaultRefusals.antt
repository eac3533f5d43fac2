-- Which fault names why there is no view.
use Rattle.std.proofs.Common.{◌≡◌, Option, Some, None, ℕ, List, [], true, false, length, refl}
use Rattle.std.specs.Prelude.{Result, Ok, Err, nat_lt, IsOk}
use Rattle.pdl_shape.specs.Refusals.{Refusal}
use Rattle.pdl_world.specs.Refused.{NoView, refusal_at, too_deep}
use Rattle.pdl_nodes.specs.Faults.{NamesReason, Names, reason_of}
use Rattle.pdl_nodes.specs.declared.faults.ViewFault.{ViewFault}

reason_none : (o : Option NoView) (there : Option NoView) → NamesReason o None → NamesReason o there
reason_none None there h = tt
reason_none (Some r) there h = let x : None ≡ Some r = h in absurd (cc)

-- a fault that names the formula's refusal names why there is no view
pub names_at : (f : ViewFault) (ps : List ℕ) (d : Result (List ℕ) Refusal) → Names f (refusal_at [] d) → Names f (refusal_at ps d)
names_at f ps (Ok ds) h = reason_none (reason_of f) (refusal_at ps (Ok ds)) h
names_at f ps (Err r) h = h

pub deep_at : (ps : List ℕ) (d : Result (List ℕ) Refusal) → IsOk d → nat_lt 64 (length ps) ≡ true → refusal_at ps d ≡ Some too_deep
deep_at ps (Ok ds) h e = rw e refl
deep_at ps (Err r) h e = let x : false ≡ true = h in absurd (cc)
