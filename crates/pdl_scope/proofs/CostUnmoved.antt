-- Where nothing is moved.
use Rattle.std.proofs.Common.{◌≡◌, ℕ, ◌+◌, ◌≤◌, Result, Ok, Err, refl, sym, ap, subst, ◌∙◌}
use Rattle.std.specs.Prelude.{IfErr}
use Rattle.std.specs.Result.{IsErrAnd}
use Rattle.pdl_nodes.specs.declared.relaid.RelayFault.{RelayFault}
use Rattle.pdl_nodes.specs.declared.relaid.RelayFault.TheVariants as relay
use Rattle.pdl_engine.specs.State.{State as Engine}
use Rattle.pdl_machine.specs.declared.fault.Fault.{Fault}
use Rattle.pdl_scope.specs.Answers.{IfScript}
use Rattle.pdl_scope.specs.Costs.{MovesNothing}
use Rattle.pdl_scope.specs.Faults.{of_reshape}
use Rattle.pdl_scope.specs.Holding.{SameButHolds}
use Rattle.pdl_scope.specs.declared.fault.ScopeFault.{ScopeFault}
use Rattle.pdl_scope.specs.declared.fault.ScopeFault.TheVariants.{Script, NoMemory}

-- also once nothing was moved before
pub nothing_then_holds : (e t n : Engine) (before after : ℕ) → MovesNothing e t before after → SameButHolds t n → MovesNothing e n before after
nothing_then_holds e t n before after m same = record {
  unmoved = m.unmoved;
  fresh = ap (λ (x : Engine). x.fresh) same ∙ m.fresh;
  pending = ap (λ (x : Engine). x.pending) same ∙ m.pending;
}

-- where the engine is as it was once arrays were held
pub unchanged_held : (e t n : Engine) (before after : ℕ) → SameButHolds e t → n ≡ t → after ≡ before → MovesNothing e n before after
unchanged_held e t n before after same is steps = record {
  unmoved = steps;
  fresh = ap (λ (x : Engine). x.fresh) (is ∙ same);
  pending = ap (λ (x : Engine). x.pending) (is ∙ same);
}

-- a refused reshape, once the parent is held
pub unbroken : {T : Type 0} (r : Result T RelayFault) (e t n : Engine) (before after : ℕ) → SameButHolds e t → IfErr r (λ f. f ≡ relay.Breaks → (n ≡ t) × (after ≡ before))
    → IfErr r (λ f. f ≡ relay.Breaks → MovesNothing e n before after)
unbroken (Ok x) e t n before after same h = tt
unbroken (Err f) e t n before after same h = λ is. unchanged_held e t n before after same (h is).0 (h is).1

-- nor is it that of a reshape
pub relaid : {T : Type 0} (P : Type 0) (r : Result T ScopeFault) (f : RelayFault) → IsErrAnd r (λ e. e ≡ of_reshape f) → (f ≡ relay.Breaks → P) → IfScript r P
relaid P (Ok x) f is h = tt
relaid P (Err NoMemory) f is h = tt
relaid P (Err (Script e)) relay.Breaks is h = h refl
relaid P (Err (Script e)) relay.NoMemory is h = absurd (cc)
