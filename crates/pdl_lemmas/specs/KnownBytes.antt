-- Bytes that are known, or not, and how they grow.
use Rattle.std.specs.Prelude.{ℕ, List, Option, Some, None}
use Rattle.std.specs.Io.KnownBytes.{Appends, Keeps}
use Rattle.std.proofs.Common.{◌∙◌}

-- bytes that were appended stay appended
pub appends_kept : (old mid new : Option (List ℕ)) (bs : List ℕ) → Appends old mid bs → Keeps mid new → Appends old new bs
appends_kept None mid new bs before kept = tt
appends_kept (Some xs) None new bs before kept = absurd before
appends_kept (Some xs) (Some ys) None bs before kept = absurd kept
appends_kept (Some xs) (Some ys) (Some zs) bs before kept = kept ∙ before
