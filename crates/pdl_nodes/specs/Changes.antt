-- What the calls do to each row. The choice stands in the field, so that all else of a row is seen
-- to stay.
use Rattle.std.specs.Prelude.{ℕ, ℤ, ◌==◌, ◌&&◌, not, if◌then◌else◌, Bool, true, false, List, [], Option, Some, None}
use Rattle.pdl_world.specs.Swept.{is_listed}
use Rattle.pdl_nodes.specs.Row.{Row}

-- b keeps these elements
abbrev pub kept_in : (base : ℕ) → (elems : List ℤ) → (k : ℕ) → Row → Row
kept_in b ks k r = record r { kept = (if k == b then ks else r.kept) }

-- in the family of the root rt this waits
abbrev pub wait_in : (root : ℕ) → (waiting : Option ℕ) → (k : ℕ) → Row → Row
wait_in rt o k r = record r { waiting = (if k == rt then o else r.waiting) }

-- the places that were found, or else those that were known
abbrev pub or_known : Option (List (Option ℕ)) → Option (List (Option ℕ)) → Option (List (Option ℕ))
or_known None known = known
or_known (Some ps) known = Some ps

-- b keeps these elements, is marked, and has repeats or not; its places are known, if they were
-- found now
abbrev pub fill_in : (base : ℕ) → (elems : List ℤ) → (repeats : Bool)
    → (places : Option (List (Option ℕ))) → (k : ℕ) → Row → Row
fill_in b ks f o k r = record r {
  kept = (if k == b then ks else r.kept);
  mark = (if k == b then true else r.mark);
  repeats = (if k == b then f else r.repeats);
  places = (if k == b then or_known o r.places else r.places);
}

-- b keeps nothing, is not marked, and its places aren't known
abbrev pub lift_in : ℕ → ℕ → Row → Row
lift_in b k r = record r {
  kept = (if k == b then [] else r.kept);
  mark = (if k == b then false else r.mark);
  places = (if k == b then None else r.places);
}

-- b is marked
abbrev pub marked_in : ℕ → ℕ → Row → Row
marked_in b k r = record r { mark = (if k == b then true else r.mark) }

-- b is marked, and of the other bases of the family of rt none
abbrev pub mark_in : (rt b k : ℕ) → Row → Row
mark_in rt b k r =
    record r { mark = (if k == b then true else (if r.root == rt then false else r.mark)) }

-- of the family of rt none of these but b is marked
abbrev pub unmark_in : (these : List ℕ) → (rt b k : ℕ) → Row → Row
unmark_in vs rt b k r =
    record r { mark = (if not (k == b) && (is_listed vs k && (r.root == rt)) then false else r.mark) }
