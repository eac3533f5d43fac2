-- Which arrays the slots of watchers are attached to, and what a statement changed of these.
use Rattle.std.specs.Prelude.{◌≡◌, ℕ, ◌+◌, ◌-◌, List, [], ◌∷◌, ◌++◌, map, length, get_or, slice_set, replicate, Bool, true, false, ◌&&◌, Option, Some, None, is_none, IsSome, if◌then◌else◌, Result, Ok, Err}
use Rattle.pdl_world.specs.World.{World, elements}
use Rattle.pdl_watch.specs.declared.notice.Notice.{Notice}
use Rattle.pdl_watch.specs.Changes.{changes}
use Rattle.pdl_machine.specs.declared.fault.Fault.{Fault}
use Rattle.pdl_machine.specs.declared.fault.Fault.TheVariants.{BadWatcher}

-- the array of each slot that is attached, by slots; slots behind the last entry aren't attached
abbrev pub Watches : Type 0
Watches = List (Option ℕ)

-- the array that a slot is attached to
abbrev pub watch_of : Watches → (k : ℕ) → Option ℕ
watch_of ws k = get_or ws k None

-- the arrays of the attached slots, in order
abbrev pub attached : Watches → List ℕ
attached [] = []
attached (None ∷ ws) = attached ws
attached (Some v ∷ ws) = v ∷ attached ws

-- with an entry for each of the first slots
abbrev pub padded : Watches → (count : ℕ) → Watches
padded ws count = ws ++ replicate (count - length ws) None

-- with slot k attached to array v
abbrev pub attach : Watches → (k v : ℕ) → Watches
attach ws k v = slice_set (padded ws (k + 1)) k (Some v)

-- without an entry that attaches nothing and stands last
abbrev pub entry_onto : Option ℕ → Watches → Watches
entry_onto None [] = []
entry_onto w ws = w ∷ ws

-- without the entries behind the last slot that is attached
abbrev pub trimmed : Watches → Watches
trimmed [] = []
trimmed (w ∷ ws) = entry_onto w (trimmed ws)

-- with slot k not attached
abbrev pub detach : Watches → (k : ℕ) → Watches
detach ws k = trimmed (slice_set ws k None)

-- whether a slot has a watcher, where `present` says it of each
abbrev pub is_present : (present : List Bool) → (k : ℕ) → Bool
is_present present k = get_or present k false

-- slot k attached to array v, which a slot without a watcher and one that is attached are refused
abbrev pub attaching : (present : List Bool) → Watches → (k v : ℕ) → Result Watches Fault
attaching present ws k v =
    if is_present present k && is_none (watch_of ws k) then Ok (attach ws k v) else Err BadWatcher

-- slot k not attached any more, which one that isn't attached is refused
abbrev pub detaching : Watches → (k : ℕ) → Result Watches Fault
detaching ws k = if is_none (watch_of ws k) then Err BadWatcher else Ok (detach ws k)

-- each slot that is attached has a watcher
abbrev pub AreThere : (present : List Bool) → Watches → Type 0
AreThere present ws = (k : ℕ) → IsSome (watch_of ws k) → is_present present k ≡ true

-- the notices of a slot: one for each position at which the elements of its array differ
-- between two worlds, in rising order
abbrev pub slot_notices : (number : ℕ) → (before after : World) → Option ℕ → List Notice
slot_notices number before after None = []
slot_notices number before after (Some v) =
    changes number (elements before v) (elements after v)

-- the notices of each slot by the statement of this number
abbrev pub notices : (number : ℕ) → (before after : World) → Watches → List (List Notice)
notices number before after ws = map (slot_notices number before after) ws
