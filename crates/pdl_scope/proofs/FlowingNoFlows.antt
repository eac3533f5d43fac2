-- Where there are no flows.
use Rattle.std.proofs.Common.{◌≡◌, ℕ, List, [], ◌∷◌, true, false, length, refl, subst, sym}
use Rattle.std.specs.Prelude.{◌==◌}
use Rattle.std.proofs.lemmas.Bool.{eqb-true}
use Rattle.std.proofs.lemmas.List.{nil_from_length}
use Rattle.pdl_world.specs.World.{World}
use Rattle.pdl_machine.specs.Flows.{Flows}
use Rattle.pdl_scope.specs.Flowing.{have_flow}

-- no array has the root of one
no_roots : (w : World) (vs : List ℕ) → have_flow w [] vs ≡ false
no_roots w [] = refl
no_roots w (v ∷ vs) = no_roots w vs

pub no_flow : (w : World) (flows : Flows) (vs : List ℕ) → (length flows == 0) ≡ true → have_flow w flows vs ≡ false
no_flow w flows vs none =
    subst (λ (fs : Flows). have_flow w fs vs ≡ false) (sym (nil_from_length flows (eqb-true (length flows) 0 none))) (no_roots w vs)
