use Rattle.std.proofs.Common.{◌<◌, ◌≤◌, length, All, IsTrue, ℕ, List, refl, sym, ◌∙◌, subst, arith}
use Rattle.pdl_choice.specs.Where.{rises, which}
use Rattle.pdl_choice.proofs.WhereRising.{which_rises, rising_few, rising_all}
use Rattle.pdl_choice.proofs.masks.which_places.Goals as goal

pub returns-clause-rises : goal.returns-clause-rises
returns-clause-rises c =
    let n = length c.args.mask.now in
    let P : List ℕ → Type 0 = λ ps. IsTrue (rises 0 n ps) in
    subst P (sym (c.new.ensures ∙ c.in_ok-set_positions.ensures)) (which_rises c.args.mask.now n refl)

pub returns-clause-few : goal.returns-clause-few
returns-clause-few c =
    let n = length c.args.mask.now in
    let P : List ℕ → Type 0 = λ ps. length ps ≤ n in
    let few : length (which c.args.mask.now) ≤ n = omega (arith, rising_few 0 n (which c.args.mask.now) (omega arith) (which_rises c.args.mask.now n refl)) in
    subst P (sym (c.new.ensures ∙ c.in_ok-set_positions.ensures)) few

pub returns-clause-below : goal.returns-clause-below
returns-clause-below c =
    let n = length c.args.mask.now in
    let P : List ℕ → Type 0 = λ ps. All (λ p. p < n) ps in
    subst P (sym (c.new.ensures ∙ c.in_ok-set_positions.ensures)) (rising_all 0 n (which c.args.mask.now) (which_rises c.args.mask.now n refl))
