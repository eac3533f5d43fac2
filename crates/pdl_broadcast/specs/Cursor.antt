-- What a walk keeps for each argument, so that it can move on without a division.
use Rattle.std.specs.Prelude.{◌≡◌, ℕ, suc, ◌+◌, ◌<◌, nat_lt, if◌then◌else◌, ℤ, pos, unsigned_abs, ◌+ℤ◌, List, [], ◌∷◌, length, slice_index_or}
use Rattle.pdl_broadcast.specs.declared.cursors.Cursor.{Cursor}
use Rattle.pdl_shape.specs.Broadcast.{BroadcastsTo, cut_to}
use Rattle.pdl_shape.specs.Shape.{IsWithin, extent_limit}
use Rattle.pdl_shape.specs.Triple.{Triple, IsPlace, IsTriple, moved, place_of}

-- the coordinates after some, dimension 0 fastest: a dimension at its end rolls over to 0
abbrev pub next_of : List ℕ → List ℕ → List ℕ
next_of [] cs = []
next_of (d ∷ ds) [] = []
next_of (d ∷ ds) (c ∷ cs) = (if nat_lt (c + 1) d then (c + 1) ∷ cs else 0 ∷ next_of ds cs)

-- how many dimensions roll over then, which is also the one that moves on
abbrev pub rolled_of : List ℕ → List ℕ → ℕ
rolled_of [] cs = 0
rolled_of (d ∷ ds) [] = 0
rolled_of (d ∷ ds) (c ∷ cs) = (if nat_lt (c + 1) d then 0 else suc (rolled_of ds cs))

-- how far one step along a dimension goes: 0 along a size of 0 or 1, and along a
-- dimension that is missing
abbrev pub step_of : List ℤ → List ℕ → ℕ → ℤ
step_of is ds k = (if nat_lt 1 (slice_index_or ds k 1) then slice_index_or is k (pos 0) else pos 0)

-- where one dimension of a walk moves on and those before it roll over, these jumps take
-- what the increments of an argument add up to to that of the next coordinates
abbrev pub Jumps : (walk : List ℕ) → (increments : List ℤ) → (dims : List ℕ) → (jumps : List ℤ)
    → Type 0
Jumps walk is ds jumps =
    (cs : List ℕ) → IsWithin walk cs → rolled_of walk cs < length walk →
    moved is (cut_to ds (next_of walk cs)) ≡ moved is (cut_to ds cs)
    +ℤ slice_index_or jumps (rolled_of walk cs) (pos 0)

-- the place after a jump
abbrev pub landing : ℕ → Cursor → ℤ
landing k cursor = pos cursor.place +ℤ slice_index_or cursor.jumps k (pos 0)

-- a jump stays within the largest buffer
abbrev pub CanJump : ℕ → Cursor → Type 0
CanJump k cursor = (cursor.place < extent_limit) × IsPlace (landing k cursor)

-- the cursor after a jump
abbrev pub jumped : ℕ → Cursor → Cursor
jumped k cursor = record cursor { place = unsigned_abs (landing k cursor) }

-- the argument stretches to the sizes of the walk, and its cursor has its jumps
pub record Follows (walk : List ℕ) (t : Triple) (cursor : Cursor) : Type 0 where
  pub stretched : BroadcastsTo t.dims walk
  pub sound : IsTriple t
  pub jumping : Jumps walk t.incs t.dims cursor.jumps

-- the cursor is at the argument's place at these coordinates
abbrev pub Stands : List ℕ → Triple → Cursor → Type 0
Stands cs t cursor = pos cursor.place ≡ place_of t (cut_to t.dims cs)
