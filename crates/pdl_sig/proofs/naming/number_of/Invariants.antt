use Rattle.std.proofs.Common.{◌≡◌, ◌+◌, drop}
use Rattle.std.specs.Prelude.{bytes_eq}
use Rattle.std.specs.List.{position_or_len}
use Rattle.pdl_sig.proofs.naming.number_of.Given as goal

abbrev pub invariant-loop-number : goal.invariant-loop-number
invariant-loop-number l = position_or_len (bytes_eq l.word) l.names ≡ l.number + position_or_len (bytes_eq l.word) (drop l.number l.names)
