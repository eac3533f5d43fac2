use Rattle.std.proofs.Common.{◌≡◌, false}
use Rattle.pdl_cases.proofs.tokens.cut_bytes.Given as goal

-- each byte so far was taken, and there was memory for it
abbrev pub invariant-loop-byte : goal.invariant-loop-byte
invariant-loop-byte l = record { taken : l.cutter.taken ≡ l.byte-index; works : l.cutter.failed ≡ false }
