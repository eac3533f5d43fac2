use Rattle.std.proofs.Common.{◌≡◌, ◌≢◌, ℕ, ℤ, List, Option, Some, None, Result, Ok, Err, true, true≢false, sym, subst}
use Rattle.std.specs.Prelude.{IfOk, IfSome, is_some}
use Rattle.pdl_world.specs.Paths.{root_of}
use Rattle.pdl_engine.specs.Foresights.{Foretells}
use Rattle.pdl_engine.specs.declared.foreseeing.Foreseen.{Foreseen}
use Rattle.pdl_engine.specs.declared.foreseeing.Foresight.{Foresight}
use Rattle.pdl_scope.specs.Plans.{listed}
use Rattle.pdl_scope.proofs.following.Change.foresee.Goals as goal

pub returns-in-Some-clause-value : goal.returns-in-Some-clause-value
returns-in-Some-clause-value g c =
    let w = c.args.engine.now.world in
    let d = c.args.self.now in
    c.foresee.ensures.value d.target (listed d.values)
    (subst (λ (o : Option Foresight). IfSome o (Foretells w d.target (listed d.values))) c.in-Some.is c.requires.own.foretells)

pub returns-in_ok-foresight-in-None-clause-value : goal.returns-in_ok-foresight-in-None-clause-value
returns-in_ok-foresight-in-None-clause-value g c =
    let w = c.args.engine.now.world in
    let d = c.args.self.now in
    c.foresee-in-None.ensures.value d.target (listed d.values)
    c.in_ok-foresight-in-None.ensures

-- nothing is answered only of an array that has another root
other_root : {E : Type 0} (r : Result (Option Foreseen) E) (seen root : ℕ) (P : Type 0) → (seen ≡ root → IfOk r (λ o. is_some o ≡ true)) → (seen ≢ root → P) → IfOk r (λ o. o ≡ None → P)
other_root (Err e) seen root P both apart = tt
other_root (Ok None) seen root P both apart = λ none. apart (λ same. true≢false (sym (both same)))
other_root (Ok (Some f)) seen root P both apart = λ none. cc

pub returns-in-Some-clause-apart : goal.returns-in-Some-clause-apart
returns-in-Some-clause-apart g c =
    other_root c.foresee.result (root_of c.args.engine.now.world c.args.seen) c.in-Some.foresight.root _ c.foresee.ensures.both c.foresee.ensures.apart

pub returns-in_ok-foresight-in-None-clause-apart : goal.returns-in_ok-foresight-in-None-clause-apart
returns-in_ok-foresight-in-None-clause-apart g c =
    other_root c.foresee-in-None.result (root_of c.args.engine.now.world c.args.seen) c.in_ok-foresight-in-None.foresight.root _ c.foresee-in-None.ensures.both c.foresee-in-None.ensures.apart
