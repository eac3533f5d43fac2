use Rattle.std.proofs.Common.{◌≡◌, ◌-◌, length}
use Rattle.pdl_image.specs.Stems.{least_free, least_from}
use Rattle.pdl_image.proofs.stems.least_free.Given as goal

-- the search goes on at this count
abbrev pub invariant-loop-k : goal.invariant-loop-k
invariant-loop-k l = least_free l.counts ≡ least_from (length l.counts - l.k) l.k l.counts
