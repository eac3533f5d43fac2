-- What letting go leaves: what is seen, what can be lent, what waits, and how many steps it takes.
use Rattle.std.specs.Prelude.{◌≡◌, ℕ, ◌+◌, ◌≤◌, if◌then◌else◌, true, List, [], ◌∷◌, ◌++◌, take, drop, is_some}
use Rattle.pdl_world.specs.Sound.{IsLive, IsSound}
use Rattle.pdl_world.specs.World.{World, look, root, view}
use Rattle.pdl_engine.specs.Held.{gone_from, left_from, written_back}
use Rattle.pdl_engine.specs.Reading.{KeepsViews}
use Rattle.pdl_engine.specs.State.{State as Engine, is_fresh, waiting, waiting_at, waiting_size}
use Rattle.pdl_machine.specs.Flows.{Flows, all_read, needs_of}
use Rattle.pdl_machine.specs.Following.{AreFlows}
use Rattle.pdl_scope.specs.Holding.{AreHeld, LetsGo}
use Rattle.pdl_scope.specs.Scope.{arrays_of}

-- how much waits in views that go from the new world, in the families of those roots of a part that
-- are there in another world
abbrev pub gone_among : Engine → (new alive part : World) → ℕ
gone_among s new alive [] = 0
gone_among s new alive ((k, root ty ds es) ∷ w) =
    (if is_some (look alive k) then waiting_size s (gone_from new (waiting_at s.pending k)) else 0)
    + gone_among s new alive w
gone_among s new alive ((k, view p t) ∷ w) = gone_among s new alive w

-- wherever views go, no more waits in the families of one world than in those of the other
abbrev pub HasNoMore : (new old : World) → Type 0
HasNoMore new old =
    (s : Engine) (n alive : World) → gone_among s n alive new ≤ gone_among s n alive old

-- Arrays were let go: those that are left are seen as before, and can be lent as before.
pub record IsLeft (old new : Engine) : Type 0 where
  pub seen : (v : ℕ) → IsLive new.world v → look new.world v ≡ look old.world v
  pub stay : (v : ℕ) → IsLive new.world v → is_fresh old v ≡ true → is_fresh new v ≡ true

-- What waits while arrays are let go, one after another.
pub record StillWaits (old new : Engine) : Type 0 where
  pub waits : (v : ℕ) → IsLive new.world v → waiting new v ≡ left_from new.world (waiting old v)
  pub fewer : HasNoMore new.world old.world

-- Since an engine was the first one, arrays were let go. No step was taken where no view went, and
-- at most one for each element that waited in a view that went.
pub record HasLetGo (first now : Engine) (before after : ℕ) : Type 0 where
  pub left : IsLeft first now
  pub waits : StillWaits first now
  pub risen : before ≤ after
  pub counted : KeepsViews first.world now.world → after ≡ before
  pub written : after ≤ before + written_back first now.world first.world

-- a call lets go, whatever was let go before it
abbrev pub GoesOn : (old new : Engine) (before after : ℕ) → Type 0
GoesOn old new before after =
    (first : Engine) (start : ℕ) → IsSound first.world → HasLetGo first old start before
    → HasLetGo first new start after

-- Since the first engine arrays were let go that neither these nor formulas need, and each root
-- equalled its formula then.
pub record HasFlows (e : Engine) (all : Flows) (staying : List ℕ) (first : Engine) : Type 0 where
  pub sound : IsSound first.world
  pub flows : AreFlows (arrays_of first) all
  pub lets_go : LetsGo (staying ++ all_read all) first e []

-- the arrays are held that formulas name, and others, beside those that leave
pub record IsHeldByFlows (e : Engine) (flows : Flows) (leaving : List ℕ) : Type 0 where
  pub staying : List ℕ
  pub held : AreHeld e (staying ++ all_read flows) leaving

-- there was such an engine
pub record HadFlows (e : Engine) (flows : Flows) : Type 0 where
  pub staying : List ℕ
  pub first : Engine
  pub had : HasFlows e flows staying first

-- The flows stay that are needed, and only what the others need is there.
pub record KeepsNeeded (staying : List ℕ) (first : Engine) (all : Flows) (new : Engine)
    (left : Flows) : Type 0
  where
    pub flows : left ≡ (needs_of first.world all staying).flows
    pub lets_go : LetsGo (staying ++ all_read left) first new []

-- flows without the one at a place
abbrev pub without_at : ℕ → Flows → Flows
without_at at flows = take at flows ++ drop (at + 1) flows
