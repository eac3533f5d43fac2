-- What is seen of an array where others came.
use Rattle.std.proofs.Common.{◌≡◌, ℕ, [], ◌∷◌, ◌++◌, refl, sym, ap, subst, ◌∙◌}
use Rattle.std.specs.Prelude.{IsSomeAnd}
use Rattle.pdl_world.specs.Laws.{OlderStay}
use Rattle.pdl_world.specs.Sound.{IsLive, IsSound}
use Rattle.pdl_world.specs.World.{World, look}
use Rattle.pdl_machine.specs.Arrays.{Arrays}
use Rattle.pdl_machine.specs.Laws.{AreGrown}

-- an older array is seen as before new ones came
pub grown_look : OlderStay → (more w : World) (v : ℕ) → IsSound (more ++ w) → IsLive w v → look (more ++ w) v ≡ look w v
grown_look older [] w v sound live = refl
grown_look older ((k, d) ∷ more) w v sound live =
    let seen : look (more ++ w) v ≡ look w v = grown_look older more w v sound.2 live in
    let there : IsLive (more ++ w) v = subst (λ o. IsSomeAnd o (λ l. Unit {0})) (sym seen) live in
    older (more ++ w) k v d sound.0 there ∙ seen

pub grown_seen : OlderStay → (old new : Arrays) (v : ℕ) → AreGrown old new → IsSound new.world → IsLive old.world v → look new.world v ≡ look old.world v
grown_seen older old new v grown sound live =
    ap (λ w. look w v) grown.is ∙ grown_look older grown.more old.world v (subst IsSound grown.is sound) live
