-- Repeats among places.
use Rattle.std.proofs.Common.{◌≡◌, ℕ, suc, zero, ◌<◌, true, List, [], ◌∷◌, length, get_or, Option, Some, None, inl, inr, refl, arith}
use Rattle.std.proofs.lemmas.Bool.{cases_Bool}
use Rattle.std.proofs.lemmas.Bool.Decides.{eqb_tells}
use Rattle.pdl_world.specs.World.{has_repeats, is_among}
use Rattle.pdl_world.specs.WindowLaws.{IsRepeated, PositionsRepeat, RepeatsHavePositions}
use Rattle.pdl_world.proofs.WorldLawsProved.{apart}

pub positions_repeat : PositionsRepeat
positions_repeat = λ ps j k i r. elim (cases_Bool (has_repeats ps)) [
  | inl y ↦ y
  | inr n ↦ absurd (apart ps n j k i r.order r.inside r.first r.second)
]

-- where a place is among places
among_found : (i : ℕ) (ps : List (Option ℕ)) → is_among i ps ≡ true → (k : ℕ) × (k < length ps) × (get_or ps k None ≡ Some i)
among_found i [] h = cc
among_found i (None ∷ ps) h = let r = among_found i ps h in (suc r.0, omega (arith, r.1), r.2)
among_found i (Some j ∷ ps) h = elim (eqb_tells i j) [
  | inl t ↦ (zero, omega arith, (let e : Some j ≡ Some i = cc in e))
  | inr t ↦ (let z : is_among i ps ≡ true = rw t.0 at h in
      let r = among_found i ps z in (suc r.0, omega (arith, r.1), r.2))
]

later : (p : Option ℕ) (ps : List (Option ℕ)) → ((j : ℕ) × (k : ℕ) × (i : ℕ) × IsRepeated ps j k i) → (j : ℕ) × (k : ℕ) × (i : ℕ) × IsRepeated (p ∷ ps) j k i
later p ps r = (suc r.0, suc r.1, r.2, record { order = omega (arith, r.3.order); inside = omega (arith, r.3.inside); first = r.3.first; second = r.3.second })

found : (ps : List (Option ℕ)) → has_repeats ps ≡ true → (j : ℕ) × (k : ℕ) × (i : ℕ) × IsRepeated ps j k i
found [] h = cc
found (None ∷ ps) h = later None ps (found ps h)
found (Some i ∷ ps) h = elim (cases_Bool (is_among i ps)) [
  | inl y ↦ (let r = among_found i ps y in (zero, suc r.0, i, record { order = omega arith; inside = omega (arith, r.1); first = refl; second = r.2 }))
  | inr n ↦ (let z : has_repeats ps ≡ true = rw n at h in later (Some i) ps (found ps z))
]

pub repeats_have_positions : RepeatsHavePositions
repeats_have_positions = λ ps h. found ps h
