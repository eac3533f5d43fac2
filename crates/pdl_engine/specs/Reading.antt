-- What it costs to read an array, and where nothing that waits is lost.
use Rattle.std.proofs.Common.{◌∙◌, ap, subst}
use Rattle.std.specs.Option.{option_map_or}
use Rattle.std.specs.Prelude.{◌≡◌, ◌≢◌, ℕ, if◌then◌else◌, true, false, IsSomeAnd}
use Rattle.pdl_world.specs.Paths.{root_of}
use Rattle.pdl_world.specs.Sound.{IsLive}
use Rattle.pdl_world.specs.World.{World, Look, has_repeats, look, places_in}
use Rattle.pdl_engine.specs.State.{State, base, is_fresh, ready_steps}

-- the most steps that it takes to read v: none where it can be lent, else those that make it so
abbrev pub read_steps : State → ℕ → ℕ
read_steps s v = if is_fresh s v then 0 else ready_steps s v

-- v can be lent, if its base has no repeats
abbrev pub IsWarm : State → ℕ → Type 0
IsWarm s v = has_repeats (places_in s.world (base s.world v)) ≡ false → is_fresh s v ≡ true

-- v is a view: it is there, and its root is another array
pub record IsView (w : World) (v : ℕ) : Type 0 where
  pub live : IsLive w v
  pub rooted : root_of w v ≢ v

-- each view of the first world is one of the second
abbrev pub KeepsViews : World → World → Type 0
KeepsViews w u = (v : ℕ) → IsView w v → IsView u v

-- a view that is seen so in another world is one there
pub view_as : (w u : World) (v : ℕ) → look w v ≡ look u v → IsView w v → IsView u v
view_as w u v same is = record {
  live = subst (λ o. IsSomeAnd o (λ l. Unit {0})) same is.live;
  rooted = λ e. is.rooted (ap (λ o. option_map_or (λ (l : Look). l.root) o v) same ∙ e);
}
