-- What watchers hear of a statement that has run, and what that does to their slots.
use Rattle.std.specs.Prelude.{◌≡◌, ℕ, ◌<◌, List, slice_set, None}
use Rattle.pdl_syntax.specs.StatementTree.{StatementTree, assign, unwatch}
use Rattle.pdl_watch.specs.declared.notice.Notice.{Notice}
use Rattle.pdl_watch.specs.Slots.{Slots, lists_of, all_told, StopsInTurn, EndsShort}
use Rattle.pdl_session.specs.declared.news.News.{News}
use Rattle.pdl_session.specs.declared.news.News.TheVariants.{Notices, End, Nothing}

-- these notices, by slots
abbrev pub IsNotices : List (List Notice) → News → Type 0
IsNotices told (Notices all) = lists_of all.items ≡ told
IsNotices told _ = ⊥

-- the news of a statement whose notices are these: of an assignment the notices, of `unwatch` the
-- end of its slot's watcher, of any other statement nothing
abbrev pub IsNewsOf : StatementTree → List (List Notice) → News → Type 0
IsNewsOf (assign x views sign e) told news = IsNotices told news
IsNewsOf (unwatch slot) told news = news ≡ End slot
IsNewsOf _ told news = news ≡ Nothing

-- the slots after their watchers heard it
abbrev pub heard : Slots → News → Slots
heard ss (Notices all) = all_told ss (lists_of all.items)
heard ss (End k) = slice_set ss k None
heard ss Nothing = ss

-- the slots after a watcher failed
abbrev pub IsHeardShort : Slots → News → Slots → Type 0
IsHeardShort ss (Notices all) now = StopsInTurn ss (lists_of all.items) now
IsHeardShort ss (End k) now = EndsShort ss k now
IsHeardShort ss Nothing now = ⊥

-- the slot whose watcher ends is one of so many
abbrev pub IsInside : News → ℕ → Type 0
IsInside (End k) count = k < count
IsInside _ count = Unit {0}
