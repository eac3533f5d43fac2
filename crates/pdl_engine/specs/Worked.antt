-- Scripts of calls worked by hand: after each call the arrays that can be lent, what waits, and
-- the steps that the call took. All three are as the clauses of the calls say: the fewest arrays
-- that can be lent, and of `ready`, `sever` and `reshape`, which take "at most" so many steps, the
-- most. Each script is also a line of crates/pdl_cases/data/engine.txt, which is run, and shows
-- that the engine can lend these arrays and no others: first the "Twelve tables of marks", in their
-- order. The arrays are numbered as they are made, from 0.
use Rattle.std.specs.Prelude.{◌≡◌, ◌≢◌, ◌⊎◌, ℕ, ◌+◌, ◌<◌, ◌≤◌, ◌==◌, true, false, not, if◌then◌else◌, Bool, List, [], ◌∷◌, ◌++◌, length, map, filter, ℤ, pos, negsuc, Some, None, is_some, is_none}
use Rattle.std.specs.List.{range_with_len}
use Rattle.pdl_elem.specs.declared.Ty.TheVariants.{Long}
use Rattle.pdl_numbers.specs.Typed.{count_moved}
use Rattle.pdl_shape.specs.Shape.{size_of}
use Rattle.pdl_slices.specs.declared.SliceArg.TheVariants.{One, Span}
use Rattle.pdl_affine.specs.declared.Affine.TheVariants.{Slice, Xchg, Clump}
use Rattle.pdl_choice.specs.declared.edges.Edge.TheVariants.{Zero}
use Rattle.pdl_world.specs.declared.Trans.{Trans}
use Rattle.pdl_world.specs.declared.Trans.TheVariants.{Affine, Index, Range}
use Rattle.pdl_world.specs.World as world
use Rattle.pdl_world.specs.World.{World, ArrayDef, dims_in, elements, look}
use Rattle.pdl_world.specs.Cut as cut
use Rattle.pdl_world.specs.Paths.{path, root_of}
use Rattle.pdl_world.specs.Sound.{IsLive}
use Rattle.pdl_world.specs.Swept.{is_listed, sweep}
use Rattle.pdl_engine.specs.Held.{AreApart, count_at, one_less_at, held_among, holds_left, written_back}
use Rattle.pdl_engine.specs.Looks.{array_numbers}
use Rattle.pdl_engine.specs.State.{State, no_arrays, is_fresh, base, target, waiting, ready_steps, kept_back}
use Rattle.pdl_engine.specs.StateOf.{pending_onto}

pub data Call : Type 0 where
  make : (dims : List ℕ) (elems : List ℤ) → Call
  view : (parent : ℕ) (trans : Trans) → Call
  ready : (id : ℕ) → Call
  assign : (id : ℕ) (values : List ℤ) → Call
  sever : (id : ℕ) → Call
  reshape : (id : ℕ) (dims : List ℕ) → Call
  release : (id : ℕ) → Call

-- a call, and after it the arrays that can be lent, the views that wait, each with its root, and
-- the steps of the call; or the elements of an array that is lent, for which nothing moves
pub data Line : Type 0 where
  after : Call → (lent : List ℕ) (waits : List (ℕ × ℕ)) (steps : ℕ) → Line
  shows : (id : ℕ) (elems : List ℤ) → Line

-- what waits, but in the family of r
abbrev pub but_of : ℕ → List (ℕ × ℕ) → List (ℕ × ℕ)
but_of r ps = filter (λ p. not (p.0 == r)) ps

-- one array more, held once
abbrev pub with_array : State → ArrayDef → State
with_array s d = record s {
  world = (s.next, d) ∷ s.world;
  holds = (s.next, 1) ∷ s.holds;
  next = s.next + 1;
}

-- nothing waits in the family of v
abbrev pub with_settled : State → ℕ → State
with_settled s v = record s { pending = but_of (root_of s.world v) s.pending }

-- v is a root in this world: wherever the arrays of its family are then, nothing waits
abbrev pub with_root : State → ℕ → World → State
with_root s v w = record (with_settled s v) {
  world = w;
  pending = but_of v (with_settled s v).pending;
}

-- the arrays of a smaller world, held as said
abbrev pub with_left : State → World → List (ℕ × ℕ) → State
with_left s w holding = record s {
  world = w;
  holds = holds_left w holding;
  pending = filter (λ p. is_some (look w p.1)) s.pending;
}

-- the state after a call, but for what can be lent
abbrev pub state_after : State → Call → State
state_after s (make ds es) = record (with_array s (world.root Long ds es)) {
  pending = but_of s.next s.pending;
}
state_after s (view p t) = with_array s (world.view p t)
state_after s (ready v) = with_settled s v
state_after s (assign v vs) = record s {
  world = world.assign s.world v vs;
  pending = pending_onto (root_of s.world v) (kept_back s.world v) (with_settled s v).pending;
}
state_after s (sever v) = if root_of s.world v == v then s
    else with_root s v (cut.sever s.world v)
state_after s (reshape v ds) = with_root s v (cut.reshape s.world v ds)
state_after s (release v) =
    with_left s (sweep s.world (held_among (one_less_at s.holds v))) (one_less_at s.holds v)

-- the steps that a call takes, or the most that it may
abbrev pub steps_of : State → Call → ℕ
steps_of s (make ds es) = count_moved es
steps_of s (view p t) = 0
steps_of s (ready v) = ready_steps s v
steps_of s (assign v vs) = length vs
steps_of s (sever v) =
    if root_of s.world v == v then 0 else ready_steps s v + size_of (dims_in s.world v)
steps_of s (reshape v ds) = ready_steps s v + size_of ds
steps_of s (release v) =
    let left = (state_after s (release v)).world in
    written_back s left left

-- those that can be lent and have another root than r in this world
abbrev pub lent_beside : State → World → (r : ℕ) → List ℕ
lent_beside s w r = filter (λ u. not (root_of w u == r)) s.fresh

-- the arrays that a call leaves or makes so that they can be lent
abbrev pub stay_fresh : State → Call → List ℕ
stay_fresh s (make ds es) = s.fresh
stay_fresh s (view p t) = s.fresh
stay_fresh s (ready v) = path s.world v ++ s.fresh
stay_fresh s (assign v vs) = target s.world v ∷ lent_beside s s.world (root_of s.world v)
stay_fresh s (sever v) =
    if root_of s.world v == v then s.fresh else lent_beside s (cut.sever s.world v) v
stay_fresh s (reshape v ds) = lent_beside s (cut.reshape s.world v ds) v
stay_fresh s (release v) = s.fresh

-- an array can be lent where its base can: a root where nothing waits in its family, and a view
-- where a call leaves or makes it so
abbrev pub is_lent : (stay : List ℕ) → State → ℕ → Bool
is_lent stay s v =
    let b = base s.world v in
    if b == root_of s.world v then is_none (waiting s v) else is_listed stay b

-- the arrays that can be lent in a state that a call left, oldest first
abbrev pub lent_in : (stay : List ℕ) → State → List ℕ
lent_in stay s = filter (is_lent stay s) (array_numbers s.world)

-- the state after a call
abbrev pub state_then : State → Call → State
state_then s c =
    let left = state_after s c in record left { fresh = lent_in (stay_fresh s c) left }

-- what a call asks of the array that it names
abbrev pub Asks : State → Call → Type 0
Asks s (make ds es) = Unit {0}
Asks s (view p t) = IsLive s.world p
Asks s (ready v) = IsLive s.world v
Asks s (assign v vs) = IsLive s.world v
Asks s (sever v) = IsLive s.world v
Asks s (reshape v ds) = IsLive s.world v
Asks s (release v) = 0 < count_at s.holds v

-- an engine is as the scripts have it: the same arrays are there and held, the same waits in each
-- family, and those can be lent that the scripts lend
pub record IsAs (script engine : State) : Type 0 where
  pub world_is : engine.world ≡ script.world
  pub holds_are : engine.holds ≡ script.holds
  pub next_is : engine.next ≡ script.next
  pub once : AreApart (map (λ p. p.0) script.pending)
  pub waits : (v : ℕ) → IsLive engine.world v → waiting engine v ≡ waiting script v
  pub lent : (v : ℕ) → is_fresh script v ≡ true → is_fresh engine v ≡ true

-- v keeps elements of its own, and nothing waits in its family: then more may be lent of it
abbrev pub IsSpare : State → ℕ → Type 0
IsSpare s v = (base s.world v ≢ root_of s.world v) × (waiting s v ≡ None)

-- but for an array that becomes a root, by a cut or by other dimensions, and its views, of which no
-- more can be
abbrev pub MayBeLent : State → Call → ℕ → Type 0
MayBeLent s (sever v) u =
    let left = state_after s (sever v) in
    IsSpare left u × (root_of s.world v ≢ v → root_of left.world u ≢ v)
MayBeLent s (reshape v ds) u =
    let left = state_after s (reshape v ds) in IsSpare left u × (root_of left.world u ≢ v)
MayBeLent s c u = IsSpare (state_after s c) u

-- the steps of a call are said exactly; of making ready, of a cut and of other dimensions only how
-- many they may be, but that a cut of a root takes none
abbrev pub is_exact : State → Call → Bool
is_exact s (ready v) = false
is_exact s (sever v) = root_of s.world v == v
is_exact s (reshape v ds) = false
is_exact s c = true

-- the call left the engine as the scripts have it, with so many steps in all: others can be lent
-- only where that may be, and it took no other number of steps where that is said
pub record IsWorked (old : State) (c : Call) (new : State) (before steps : ℕ) : Type 0 where
  pub asked : Asks old c
  pub left : IsAs (state_then old c) new
  pub only :
      (v : ℕ) → IsLive new.world v → is_fresh new v ≡ true
      → (is_fresh (state_then old c) v ≡ true) ⊎ MayBeLent old c v
  pub counted : steps ≤ before + steps_of old c
  pub exact : is_exact old c ≡ true → steps ≡ before + steps_of old c

-- the elements of an array that can be lent
abbrev pub shown : State → ℕ → List ℤ
shown s v = if is_fresh s v then elements s.world v else []

-- the lines from a state on as the clauses say
abbrev pub worked_from : State → List Line → List Line
worked_from s [] = []
worked_from s (after c lent waits steps ∷ rest) =
    let next = state_then s c in
    after c next.fresh next.pending (steps_of s c) ∷ worked_from next rest
worked_from s (shows v es ∷ rest) = shows v (shown s v) ∷ worked_from s rest

-- 0 1 2 3 4 5, of which five aren't 0
abbrev pub to_five : List ℤ
to_five = pos 0 ∷ pos 1 ∷ pos 2 ∷ pos 3 ∷ pos 4 ∷ pos 5 ∷ []

abbrev pub index_at : List ℕ → Trans
index_at is = Index (length is ∷ []) (map pos is)

abbrev pub span_of : (from to step : ℕ) → Trans
span_of from to step =
    Affine (Slice (Span (Some (pos from)) (Some (pos to)) (Some (pos step)) ∷ []))

abbrev pub whole_numbers : List ℕ → List ℤ
whole_numbers vs = map pos vs

-- x = 0 .. 5; b = x index 4 1 2; s = x index 0 5
abbrev pub sibling_is_read : List Line
sibling_is_read =
    after (make (6 ∷ []) to_five) (0 ∷ []) [] 5
    ∷ after (view 0 (index_at (4 ∷ 1 ∷ 2 ∷ []))) (0 ∷ []) [] 0
    ∷ after (ready 1) (0 ∷ 1 ∷ []) [] 3
    ∷ after (view 0 (index_at (0 ∷ 5 ∷ []))) (0 ∷ 1 ∷ []) [] 0
    ∷ after (ready 2) (0 ∷ 1 ∷ 2 ∷ []) [] 2
    ∷ after (assign 1 (whole_numbers (7 ∷ 8 ∷ 9 ∷ []))) (1 ∷ []) ((0, 1) ∷ []) 3
    ∷ after (ready 2) (0 ∷ 1 ∷ 2 ∷ []) [] 5
    ∷ after (ready 0) (0 ∷ 1 ∷ 2 ∷ []) [] 0 ∷ []

-- the same views, written one after the other
abbrev pub siblings_are_written : List Line
siblings_are_written =
    after (make (6 ∷ []) to_five) (0 ∷ []) [] 5
    ∷ after (view 0 (index_at (4 ∷ 1 ∷ 2 ∷ []))) (0 ∷ []) [] 0
    ∷ after (view 0 (index_at (0 ∷ 5 ∷ []))) (0 ∷ []) [] 0
    ∷ after (ready 1) (0 ∷ 1 ∷ []) [] 3
    ∷ after (ready 2) (0 ∷ 1 ∷ 2 ∷ []) [] 2
    ∷ after (assign 1 (whole_numbers (7 ∷ 8 ∷ 9 ∷ []))) (1 ∷ []) ((0, 1) ∷ []) 3
    ∷ after (ready 2) (0 ∷ 1 ∷ 2 ∷ []) [] 5
    ∷ after (assign 2 (whole_numbers (5 ∷ 6 ∷ []))) (2 ∷ []) ((0, 2) ∷ []) 2
    ∷ after (ready 1) (0 ∷ 1 ∷ 2 ∷ []) [] 5
    ∷ after (ready 0) (0 ∷ 1 ∷ 2 ∷ []) [] 0 ∷ []

-- y = x slice 0:4:2; b = x index 4 1 2; o = b slice 0:2:2, whose values wait in b
abbrev pub slice_of_choice_is_written : List Line
slice_of_choice_is_written =
    after (make (6 ∷ []) to_five) (0 ∷ []) [] 5
    ∷ after (view 0 (span_of 0 4 2)) (0 ∷ 1 ∷ []) [] 0
    ∷ after (view 0 (index_at (4 ∷ 1 ∷ 2 ∷ []))) (0 ∷ 1 ∷ []) [] 0
    ∷ after (view 2 (span_of 0 2 2)) (0 ∷ 1 ∷ []) [] 0
    ∷ after (ready 3) (0 ∷ 1 ∷ 2 ∷ 3 ∷ []) [] 3
    ∷ after (assign 3 (whole_numbers (5 ∷ 6 ∷ []))) (2 ∷ 3 ∷ []) ((0, 2) ∷ []) 2
    ∷ after (ready 1) (0 ∷ 1 ∷ 2 ∷ 3 ∷ []) [] 3
    ∷ after (ready 2) (0 ∷ 1 ∷ 2 ∷ 3 ∷ []) [] 0 ∷ []

-- b = x index 4 1 2
abbrev pub root_is_written : List Line
root_is_written =
    after (make (6 ∷ []) to_five) (0 ∷ []) [] 5
    ∷ after (view 0 (index_at (4 ∷ 1 ∷ 2 ∷ []))) (0 ∷ []) [] 0
    ∷ after (ready 1) (0 ∷ 1 ∷ []) [] 3
    ∷ after (assign 0 (whole_numbers (9 ∷ 8 ∷ 7 ∷ 6 ∷ 5 ∷ 4 ∷ []))) (0 ∷ []) [] 6
    ∷ after (ready 1) (0 ∷ 1 ∷ []) [] 3 ∷ []

-- y = x slice 0:4:2; b = x index 4 1 2
abbrev pub slice_is_written : List Line
slice_is_written =
    after (make (6 ∷ []) to_five) (0 ∷ []) [] 5
    ∷ after (view 0 (span_of 0 4 2)) (0 ∷ 1 ∷ []) [] 0
    ∷ after (view 0 (index_at (4 ∷ 1 ∷ 2 ∷ []))) (0 ∷ 1 ∷ []) [] 0
    ∷ after (ready 2) (0 ∷ 1 ∷ 2 ∷ []) [] 3
    ∷ after (assign 1 (whole_numbers (1 ∷ 2 ∷ 3 ∷ []))) (0 ∷ 1 ∷ []) [] 3
    ∷ after (ready 2) (0 ∷ 1 ∷ 2 ∷ []) [] 3
    ∷ after (ready 0) (0 ∷ 1 ∷ 2 ∷ []) [] 0 ∷ []

-- d = x index 4 1 4, which has a place twice
abbrev pub place_is_twice : List Line
place_is_twice =
    after (make (6 ∷ []) to_five) (0 ∷ []) [] 5
    ∷ after (view 0 (index_at (4 ∷ 1 ∷ 4 ∷ []))) (0 ∷ []) [] 0
    ∷ after (ready 1) (0 ∷ 1 ∷ []) [] 3
    ∷ after (assign 1 (whole_numbers (7 ∷ 8 ∷ 9 ∷ []))) (0 ∷ []) [] 3
    ∷ after (ready 1) (0 ∷ 1 ∷ []) [] 3
    ∷ after (ready 0) (0 ∷ 1 ∷ []) [] 0 ∷ []

-- b = x index 4 1 2; d = b index 1 1
abbrev pub place_of_choice_is_twice : List Line
place_of_choice_is_twice =
    after (make (6 ∷ []) to_five) (0 ∷ []) [] 5
    ∷ after (view 0 (index_at (4 ∷ 1 ∷ 2 ∷ []))) (0 ∷ []) [] 0
    ∷ after (view 1 (index_at (1 ∷ 1 ∷ []))) (0 ∷ []) [] 0
    ∷ after (ready 2) (0 ∷ 1 ∷ 2 ∷ []) [] 5
    ∷ after (assign 1 (whole_numbers (7 ∷ 8 ∷ 9 ∷ []))) (1 ∷ []) ((0, 1) ∷ []) 3
    ∷ after (ready 2) (0 ∷ 1 ∷ 2 ∷ []) [] 5
    ∷ after (assign 2 (whole_numbers (5 ∷ 6 ∷ []))) (0 ∷ []) [] 2
    ∷ after (ready 1) (0 ∷ 1 ∷ []) [] 3
    ∷ after (ready 2) (0 ∷ 1 ∷ 2 ∷ []) [] 2 ∷ []

-- v = x range -1 sizes 3 edge Zero, whose first place is missing
abbrev pub place_is_missing : List Line
place_is_missing =
    after (make (6 ∷ []) to_five) (0 ∷ []) [] 5
    ∷ after (view 0 (Range (1 ∷ []) (negsuc 0 ∷ []) (pos 3 ∷ []) Zero)) (0 ∷ []) [] 0
    ∷ after (ready 1) (0 ∷ 1 ∷ []) [] 3
    ∷ after (assign 1 (whole_numbers (7 ∷ 8 ∷ 9 ∷ []))) (1 ∷ []) ((0, 1) ∷ []) 3
    ∷ after (ready 0) (0 ∷ 1 ∷ []) [] 3
    ∷ after (ready 1) (0 ∷ 1 ∷ []) [] 0 ∷ []

-- b = x index 4 1 2; c = b index 2 0
abbrev pub choice_of_choice_is_written : List Line
choice_of_choice_is_written =
    after (make (6 ∷ []) to_five) (0 ∷ []) [] 5
    ∷ after (view 0 (index_at (4 ∷ 1 ∷ 2 ∷ []))) (0 ∷ []) [] 0
    ∷ after (view 1 (index_at (2 ∷ 0 ∷ []))) (0 ∷ []) [] 0
    ∷ after (ready 2) (0 ∷ 1 ∷ 2 ∷ []) [] 5
    ∷ after (assign 2 (whole_numbers (5 ∷ 6 ∷ []))) (2 ∷ []) ((0, 2) ∷ []) 2
    ∷ after (ready 1) (0 ∷ 1 ∷ 2 ∷ []) [] 5
    ∷ after (ready 0) (0 ∷ 1 ∷ 2 ∷ []) [] 0 ∷ []

-- b = x index 4 1 2; z = 1 2, another root; e = z index 1 0
abbrev pub two_families : List Line
two_families =
    after (make (6 ∷ []) to_five) (0 ∷ []) [] 5
    ∷ after (view 0 (index_at (4 ∷ 1 ∷ 2 ∷ []))) (0 ∷ []) [] 0
    ∷ after (make (2 ∷ []) (whole_numbers (1 ∷ 2 ∷ []))) (0 ∷ 2 ∷ []) [] 2
    ∷ after (view 2 (index_at (1 ∷ 0 ∷ []))) (0 ∷ 2 ∷ []) [] 0
    ∷ after (ready 1) (0 ∷ 1 ∷ 2 ∷ []) [] 3
    ∷ after (ready 3) (0 ∷ 1 ∷ 2 ∷ 3 ∷ []) [] 2
    ∷ after (assign 1 (whole_numbers (7 ∷ 8 ∷ 9 ∷ []))) (1 ∷ 2 ∷ 3 ∷ []) ((0, 1) ∷ []) 3
    ∷ after (assign 3 (whole_numbers (3 ∷ 4 ∷ []))) (1 ∷ 3 ∷ []) ((2, 3) ∷ (0, 1) ∷ []) 2
    ∷ after (ready 2) (1 ∷ 2 ∷ 3 ∷ []) ((0, 1) ∷ []) 2
    ∷ after (ready 0) (0 ∷ 1 ∷ 2 ∷ 3 ∷ []) [] 3 ∷ []

-- x of sizes 2 and 3; y = x xchg 0 1; c = y clump -1, whose dimensions don't join
abbrev pub clump_is_written : List Line
clump_is_written =
    after (make (2 ∷ 3 ∷ []) to_five) (0 ∷ []) [] 5
    ∷ after (view 0 (Affine (Xchg (pos 0) (pos 1)))) (0 ∷ 1 ∷ []) [] 0
    ∷ after (view 1 (Affine (Clump (negsuc 0)))) (0 ∷ 1 ∷ []) [] 0
    ∷ after (ready 2) (0 ∷ 1 ∷ 2 ∷ []) [] 6
    ∷ after (assign 2 (whole_numbers (9 ∷ 8 ∷ 7 ∷ 6 ∷ 5 ∷ 4 ∷ []))) (2 ∷ []) ((0, 2) ∷ []) 6
    ∷ after (ready 1) (0 ∷ 1 ∷ 2 ∷ []) [] 6
    ∷ after (ready 0) (0 ∷ 1 ∷ 2 ∷ []) [] 0 ∷ []

-- x = 0 .. 5; b = x index 4 1 2, in which 7 8 9 wait; and then these calls
abbrev pub in_b_waits : List Line → List Line
in_b_waits rest =
    after (make (6 ∷ []) to_five) (0 ∷ []) [] 5
    ∷ after (view 0 (index_at (4 ∷ 1 ∷ 2 ∷ []))) (0 ∷ []) [] 0
    ∷ after (ready 1) (0 ∷ 1 ∷ []) [] 3
    ∷ after (assign 1 (whole_numbers (7 ∷ 8 ∷ 9 ∷ []))) (1 ∷ []) ((0, 1) ∷ []) 3
    ∷ rest

-- o = b slice 0:1; y = x slice 0:2; f = b index 0
abbrev pub views_come_late : List Line
views_come_late =
    in_b_waits (
    after (view 1 (span_of 0 1 1)) (1 ∷ 2 ∷ []) ((0, 1) ∷ []) 0
    ∷ after (view 0 (span_of 0 2 1)) (1 ∷ 2 ∷ []) ((0, 1) ∷ []) 0
    ∷ after (view 1 (index_at (0 ∷ []))) (1 ∷ 2 ∷ []) ((0, 1) ∷ []) 0
    ∷ after (ready 4) (0 ∷ 1 ∷ 2 ∷ 3 ∷ 4 ∷ []) [] 4 ∷ [])

-- b is cut
abbrev pub waiting_is_cut : List Line
waiting_is_cut =
    in_b_waits (
    after (sever 1) (0 ∷ 1 ∷ []) [] 6
    ∷ after (assign 1 (whole_numbers (1 ∷ 2 ∷ 3 ∷ []))) (0 ∷ 1 ∷ []) [] 3 ∷ [])

-- b gets four elements, and then x two
abbrev pub waiting_is_reshaped : List Line
waiting_is_reshaped =
    in_b_waits (
    after (reshape 1 (2 ∷ 2 ∷ [])) (0 ∷ 1 ∷ []) [] 7
    ∷ after (reshape 0 (2 ∷ [])) (0 ∷ 1 ∷ []) [] 2 ∷ [])

-- b goes
abbrev pub waiting_goes : List Line
waiting_goes =
    in_b_waits (
    after (release 1) (0 ∷ []) [] 3 ∷ [])

-- x = 0 .. 3; b = x slice 0:2; c = x slice 1:2, which keep no elements and so owe none
abbrev pub slices_overlap : List Line
slices_overlap =
    after (make (4 ∷ []) (whole_numbers (0 ∷ 1 ∷ 2 ∷ 3 ∷ []))) (0 ∷ []) [] 3
    ∷ after (view 0 (span_of 0 2 1)) (0 ∷ 1 ∷ []) [] 0
    ∷ after (view 0 (span_of 1 2 1)) (0 ∷ 1 ∷ 2 ∷ []) [] 0
    ∷ after (ready 1) (0 ∷ 1 ∷ 2 ∷ []) [] 0
    ∷ after (ready 2) (0 ∷ 1 ∷ 2 ∷ []) [] 0
    ∷ after (assign 1 (whole_numbers (9 ∷ 9 ∷ 9 ∷ []))) (0 ∷ 1 ∷ 2 ∷ []) [] 3
    ∷ after (ready 2) (0 ∷ 1 ∷ 2 ∷ []) [] 0
    ∷ shows 2 (whole_numbers (9 ∷ 9 ∷ []))
    ∷ after (ready 2) (0 ∷ 1 ∷ 2 ∷ []) [] 0 ∷ []

-- b = x index 0 1 2; c = x index 1 2, the same places
abbrev pub indexes_overlap : List Line
indexes_overlap =
    after (make (4 ∷ []) (whole_numbers (0 ∷ 1 ∷ 2 ∷ 3 ∷ []))) (0 ∷ []) [] 3
    ∷ after (view 0 (index_at (0 ∷ 1 ∷ 2 ∷ []))) (0 ∷ []) [] 0
    ∷ after (view 0 (index_at (1 ∷ 2 ∷ []))) (0 ∷ []) [] 0
    ∷ after (ready 1) (0 ∷ 1 ∷ []) [] 3
    ∷ after (ready 2) (0 ∷ 1 ∷ 2 ∷ []) [] 2
    ∷ after (assign 1 (whole_numbers (9 ∷ 9 ∷ 9 ∷ []))) (1 ∷ []) ((0, 1) ∷ []) 3
    ∷ after (ready 2) (0 ∷ 1 ∷ 2 ∷ []) [] 5
    ∷ shows 2 (whole_numbers (9 ∷ 9 ∷ []))
    ∷ after (ready 2) (0 ∷ 1 ∷ 2 ∷ []) [] 0 ∷ []

-- y = x slice 0:3; z = y slice 1:2, which is lent as it is
abbrev pub slice_of_slice_is_lent : List Line
slice_of_slice_is_lent =
    after (make (6 ∷ []) to_five) (0 ∷ []) [] 5
    ∷ after (view 0 (span_of 0 3 1)) (0 ∷ 1 ∷ []) [] 0
    ∷ after (view 1 (span_of 1 2 1)) (0 ∷ 1 ∷ 2 ∷ []) [] 0
    ∷ shows 2 (whole_numbers (1 ∷ 2 ∷ []))
    ∷ after (ready 2) (0 ∷ 1 ∷ 2 ∷ []) [] 0 ∷ []

-- the three numbers from k on are assigned to b, and wait
abbrev pub three_wait : ℕ → Line
three_wait k = after (assign 1 (whole_numbers (range_with_len k 3))) (1 ∷ []) ((0, 1) ∷ []) 3

-- x = 0 .. 9; b = x index 0 2 4, which is assigned to ten times before x is read
abbrev pub choice_is_written_often : List Line
choice_is_written_often =
    after (make (10 ∷ []) (whole_numbers (range_with_len 0 10))) (0 ∷ []) [] 9
    ∷ after (view 0 (index_at (0 ∷ 2 ∷ 4 ∷ []))) (0 ∷ []) [] 0
    ∷ after (ready 1) (0 ∷ 1 ∷ []) [] 3
    ∷ map three_wait (range_with_len 1 10) ++ (
    after (ready 0) (0 ∷ 1 ∷ []) [] 3
    ∷ after (ready 0) (0 ∷ 1 ∷ []) [] 0
    ∷ shows 0 (whole_numbers (10 ∷ 1 ∷ 11 ∷ 3 ∷ 12 ∷ 5 ∷ 6 ∷ 7 ∷ 8 ∷ 9 ∷ []))
    ∷ shows 1 (whole_numbers (10 ∷ 11 ∷ 12 ∷ [])) ∷ [])

-- x = 0 1 2; v = x range -1 sizes 2 edge Zero; b = v index 0 0: both places of b are missing before
-- v is cut, and are one place after it
abbrev pub repeat_comes_by_cut : List Line
repeat_comes_by_cut =
    after (make (3 ∷ []) (whole_numbers (0 ∷ 1 ∷ 2 ∷ []))) (0 ∷ []) [] 2
    ∷ after (view 0 (Range (1 ∷ []) (negsuc 0 ∷ []) (pos 2 ∷ []) Zero)) (0 ∷ []) [] 0
    ∷ after (view 1 (index_at (0 ∷ 0 ∷ []))) (0 ∷ []) [] 0
    ∷ after (ready 2) (0 ∷ 1 ∷ 2 ∷ []) [] 4
    ∷ shows 2 (whole_numbers (0 ∷ 0 ∷ []))
    ∷ after (sever 1) (0 ∷ 1 ∷ []) [] 2
    ∷ after (ready 2) (0 ∷ 1 ∷ 2 ∷ []) [] 2
    ∷ after (assign 2 (whole_numbers (5 ∷ 6 ∷ []))) (0 ∷ 1 ∷ []) [] 2
    ∷ after (ready 1) (0 ∷ 1 ∷ []) [] 0
    ∷ shows 1 (whole_numbers (6 ∷ 0 ∷ []))
    ∷ after (ready 2) (0 ∷ 1 ∷ 2 ∷ []) [] 2
    ∷ shows 2 (whole_numbers (6 ∷ 6 ∷ [])) ∷ []

-- r of sizes 2 and 3; y = r xchg 0 1; u = y xchg 0 1; c = u clump -1; d = c slice 1: the clump
-- joins before y is cut, and doesn't after it
abbrev pub clump_parts_by_cut : List Line
clump_parts_by_cut =
    after (make (2 ∷ 3 ∷ []) to_five) (0 ∷ []) [] 5
    ∷ after (view 0 (Affine (Xchg (pos 0) (pos 1)))) (0 ∷ 1 ∷ []) [] 0
    ∷ after (view 1 (Affine (Xchg (pos 0) (pos 1)))) (0 ∷ 1 ∷ 2 ∷ []) [] 0
    ∷ after (view 2 (Affine (Clump (negsuc 0)))) (0 ∷ 1 ∷ 2 ∷ 3 ∷ []) [] 0
    ∷ after (sever 1) (0 ∷ 1 ∷ 2 ∷ []) [] 6
    ∷ after (view 3 (Affine (Slice (One (pos 1) ∷ [])))) (0 ∷ 1 ∷ 2 ∷ []) [] 0
    ∷ after (ready 4) (0 ∷ 1 ∷ 2 ∷ 3 ∷ 4 ∷ []) [] 6
    ∷ after (assign 4 (whole_numbers (9 ∷ []))) (0 ∷ 3 ∷ 4 ∷ []) ((1, 3) ∷ []) 1
    ∷ after (ready 1) (0 ∷ 1 ∷ 2 ∷ 3 ∷ 4 ∷ []) [] 6
    ∷ shows 1 (whole_numbers (0 ∷ 2 ∷ 4 ∷ 9 ∷ 3 ∷ 5 ∷ []))
    ∷ shows 0 to_five ∷ []

-- b = x index 4 1 2, s = x index 0 5, c = x index 1 3, which are read; b is cut, and c gets two
-- elements more: s can be lent all along
abbrev pub siblings_stay : List Line
siblings_stay =
    after (make (6 ∷ []) to_five) (0 ∷ []) [] 5
    ∷ after (view 0 (index_at (4 ∷ 1 ∷ 2 ∷ []))) (0 ∷ []) [] 0
    ∷ after (view 0 (index_at (0 ∷ 5 ∷ []))) (0 ∷ []) [] 0
    ∷ after (view 0 (index_at (1 ∷ 3 ∷ []))) (0 ∷ []) [] 0
    ∷ after (ready 1) (0 ∷ 1 ∷ []) [] 3
    ∷ after (ready 2) (0 ∷ 1 ∷ 2 ∷ []) [] 2
    ∷ after (ready 3) (0 ∷ 1 ∷ 2 ∷ 3 ∷ []) [] 2
    ∷ after (sever 1) (0 ∷ 1 ∷ 2 ∷ 3 ∷ []) [] 3
    ∷ after (ready 2) (0 ∷ 1 ∷ 2 ∷ 3 ∷ []) [] 0
    ∷ after (reshape 3 (4 ∷ [])) (0 ∷ 1 ∷ 2 ∷ 3 ∷ []) [] 4
    ∷ after (ready 2) (0 ∷ 1 ∷ 2 ∷ 3 ∷ []) [] 0
    ∷ shows 2 (whole_numbers (0 ∷ 5 ∷ []))
    ∷ shows 3 (whole_numbers (1 ∷ 3 ∷ 0 ∷ 0 ∷ [])) ∷ []

abbrev pub scripts : List (List Line)
scripts =
    sibling_is_read ∷ siblings_are_written ∷ slice_of_choice_is_written ∷ root_is_written
    ∷ slice_is_written ∷ place_is_twice ∷ place_of_choice_is_twice ∷ place_is_missing
    ∷ choice_of_choice_is_written ∷ two_families ∷ clump_is_written ∷ views_come_late
    ∷ waiting_is_cut ∷ waiting_is_reshaped ∷ waiting_goes ∷ slices_overlap ∷ indexes_overlap
    ∷ slice_of_slice_is_lent ∷ choice_is_written_often ∷ repeat_comes_by_cut ∷ clump_parts_by_cut
    ∷ siblings_stay ∷ []

-- each line of each script is as the clauses say
abbrev pub ScriptsAreWorked : Type 0
ScriptsAreWorked = map (worked_from no_arrays) scripts ≡ scripts
