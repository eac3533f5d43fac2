-- What is so of an engine between any two calls.
use Rattle.std.specs.Prelude.{◌≡◌, ℕ, true, map}
use Rattle.pdl_world.specs.Sound.{IsLive, IsSound}
use Rattle.pdl_engine.specs.Held.{AllHaveHolds, AreApart}
use Rattle.pdl_engine.specs.State.{State, IsLazy, is_fresh}

-- its world is sound, views are lazy, each array has its holds and nothing else has, arrays alone
-- can be lent, and in each family one view waits at most
pub record IsResting (s : State) : Type 0 where
  pub sound : IsSound s.world
  pub lazy : IsLazy s
  pub holders : AllHaveHolds s
  pub live : (v : ℕ) → is_fresh s v ≡ true → IsLive s.world v
  pub once : AreApart (map (λ p. p.0) s.pending)
