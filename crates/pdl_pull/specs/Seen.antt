-- Flags of the places that were seen.
use Rattle.std.specs.Prelude.{◌≡◌, ◌<◌, ℕ, Bool, false, List, Option, length, slice_index_or}
use Rattle.pdl_nodes.specs.Families.{is_among}

-- each place that has a flag is flagged if it is among these, and else isn't
abbrev pub AreFlagsOf : (places : List (Option ℕ)) (flags : List Bool) → Type 0
AreFlagsOf places flags = (q : ℕ) → q < length flags
    → slice_index_or flags q false ≡ is_among q places
