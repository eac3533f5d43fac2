-- The rows before this one are read.
use Rattle.std.proofs.Common.{◌*◌, get_or}
use Rattle.pdl_numbers.specs.Reads.{HasRead}
use Rattle.pdl_numbers.proofs.reads.read_rows.Given as goal

abbrev pub invariant-loop-row : goal.invariant-loop-row
invariant-loop-row g l = HasRead l.triple l.numbers l.position (l.row * get_or l.triple.dims 0 1) l.into
