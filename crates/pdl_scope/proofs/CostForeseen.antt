-- What it takes to foresee what slots are told.
use Rattle.std.proofs.Common.{◌≡◌, ℕ, zero, suc, ◌+◌, ◌≤◌, ◌<◌, List, [], ◌∷◌, ◌++◌, drop, take, get_or, length, Option, Some, None, refl, sym, ap, subst, ◌∙◌, arith}
use Rattle.std.specs.Option.{option_map_or}
use Rattle.std.proofs.lemmas.List.{take-append-drop, take_more}
use Rattle.std.proofs.lemmas.List.Sums.{sum_by-append}
use Rattle.std.specs.Prelude.{IfSome, sum_by}
use Rattle.pdl_world.specs.Sound.{IsLive, IsSound}
use Rattle.pdl_engine.specs.Reading.{read_steps}
use Rattle.pdl_engine.specs.Resting.{IsResting}
use Rattle.pdl_engine.specs.State.{State as Engine, SameArrays, StayFresh}
use Rattle.pdl_machine.specs.Watches.{Watches, attached}
use Rattle.pdl_scope.specs.Costs.{CostsNoMore}
use Rattle.pdl_scope.proofs.CostsDearer.{none_dearer}
use Rattle.pdl_scope.proofs.ScopeWatches.{attached_front}

attached_both : (f : ℕ → ℕ) (ws more : Watches) → sum_by f (attached (ws ++ more)) ≡ sum_by f (attached ws) + sum_by f (attached more)
attached_both f ws more = ap (sum_by f) (attached_front ws more) ∙ sum_by-append f (attached ws) (attached more)

attached_one : (f : ℕ → ℕ) (o : Option ℕ) → sum_by f (attached (o ∷ [])) ≡ option_map_or f o 0
attached_one f None = refl
attached_one f (Some v) = omega arith

-- the sum over attached arrays, with one slot more
attached_more : (f : ℕ → ℕ) (ws : Watches) (i : ℕ) → i < length ws → sum_by f (attached (take (i + 1) ws)) ≡ sum_by f (attached (take i ws)) + option_map_or f (get_or ws i None) 0
attached_more f ws i lt =
    let both = attached_both f (take i ws) (get_or ws i None ∷ []) in
    let one = attached_one f (get_or ws i None) in
    let all : sum_by f (attached (take (i + 1) ws)) ≡ sum_by f (attached (take i ws ++ get_or ws i None ∷ [])) = ap (λ us. sum_by f (attached us)) (take_more ws i None lt) in
    omega (arith, both, one, all)

attached_first : (f : ℕ → ℕ) (ws : Watches) (i : ℕ) → sum_by f (attached (take i ws)) ≤ sum_by f (attached ws)
attached_first f ws i =
    let both = attached_both f (take i ws) (drop i ws) in
    let all : sum_by f (attached (take i ws ++ drop i ws)) ≡ sum_by f (attached ws) = ap (λ us. sum_by f (attached us)) (take-append-drop i ws) in
    omega (arith, both, all)

-- arrays that are made ready make none dearer
pub rested : (e t : Engine) → IsResting e → IsResting t → SameArrays e t → StayFresh e t → CostsNoMore e t
rested e t old new same stay = none_dearer e t [] same.world new.sound old.sound old.lazy new.lazy stay

one_slot : (e t : Engine) (o : Option ℕ) → CostsNoMore e t → IfSome o (IsLive e.world) → option_map_or (read_steps t) o 0 ≤ option_map_or (read_steps e) o 0
one_slot e t None costs live = omega arith
one_slot e t (Some v) costs live = costs.reads v live

-- one slot more is foreseen
pub foreseen_more : (e t : Engine) (ws : Watches) (i before now after : ℕ) → i < length ws → IfSome (get_or ws i None) (IsLive e.world) → IsResting e → IsResting t → SameArrays e t → StayFresh e t
    → now ≤ before + sum_by (read_steps e) (attached (take i ws)) → after ≤ now + option_map_or (read_steps t) (get_or ws i None) 0 → after ≤ before + sum_by (read_steps e) (attached (take (i + 1) ws))
foreseen_more e t ws i before now after lt live old new same stay so_far next =
    let all = attached_more (read_steps e) ws i lt in
    let less = one_slot e t (get_or ws i None) (rested e t old new same stay) live in
    omega (arith, so_far, next, all, less)

pub foreseen_first : (e : Engine) (ws : Watches) (i before after : ℕ) → after ≤ before + sum_by (read_steps e) (attached (take i ws)) → after ≤ before + sum_by (read_steps e) (attached ws)
foreseen_first e ws i before after so_far = (let part = attached_first (read_steps e) ws i in omega (arith, so_far, part))
