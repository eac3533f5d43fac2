-- The state that rows, their holds and the next number mean, and what an engine keeps of them.
use Rattle.std.specs.Prelude.{ℕ, ◌<◌, ◌^◌, if◌then◌else◌, List, [], ◌∷◌, Option, Some, None}
use Rattle.pdl_world.specs.Sound.{IsSound}
use Rattle.pdl_nodes.specs.Families.{InOrder}
use Rattle.pdl_nodes.specs.Holds.{Counts, Beside, count}
use Rattle.pdl_nodes.specs.Known.{AreKnown}
use Rattle.pdl_nodes.specs.Rows.{Rows, row_at, NumbersBelow}
use Rattle.pdl_nodes.specs.Sized.{AreSized}
use Rattle.pdl_nodes.specs.Worlds.{world_of}
use Rattle.pdl_engine.specs.State.{State}

-- the numbers of rows whose base is marked in the table
abbrev pub fresh_among : (all : Rows) → Rows → List ℕ
fresh_among all [] = []
fresh_among all ((k, r) ∷ rs) =
    if (row_at all r.base).mark then k ∷ fresh_among all rs else fresh_among all rs

-- with what waits in the family of root k, if anything does
abbrev pub pending_onto : ℕ → Option ℕ → List (ℕ × ℕ) → List (ℕ × ℕ)
pending_onto k None ps = ps
pending_onto k (Some v) ps = (k, v) ∷ ps

-- the roots in whose families something waits
abbrev pub pending_in : Rows → List (ℕ × ℕ)
pending_in [] = []
pending_in ((k, r) ∷ rs) = pending_onto k r.waiting (pending_in rs)

-- how often each is held
abbrev pub holds_in : Rows → Counts → List (ℕ × ℕ)
holds_in [] hs = []
holds_in ((k, r) ∷ rs) hs = (k, count hs k) ∷ holds_in rs hs

-- they are seen as this state
abbrev pub state_of : Rows → Counts → ℕ → State
state_of rs hs next = record {
  world = world_of rs;
  fresh = fresh_among rs rs;
  pending = pending_in rs;
  holds = holds_in rs hs;
  next = next;
}

-- between calls: all is in order, each row has its holds, and the next number is above all and a
-- number of 64 bits
pub record IsEngine (rs : Rows) (hs : Counts) (next : ℕ) : Type 0 where
  pub order : InOrder rs
  pub known : AreKnown rs
  pub sized : AreSized rs
  pub sound : IsSound (world_of rs)
  pub beside : Beside rs hs
  pub below : NumbersBelow next rs
  pub room : next < 2 ^ 64
