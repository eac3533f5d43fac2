use Rattle.std.proofs.Common.{◌≡◌, ℕ, ◌<◌, ◌≤◌, length, get_or, None}
use Rattle.pdl_scope.proofs.watching.attached_count.Given as goal

-- the entries from here on attach nothing
abbrev pub invariant-trimming : goal.invariant-trimming
invariant-trimming l = record {
  few : l.count ≤ length l.watches;
  none : (k : ℕ) → l.count ≤ k → k < length l.watches → get_or l.watches k None ≡ None;
}

abbrev pub decreases-trimming : goal.decreases-trimming
decreases-trimming l = l.count
