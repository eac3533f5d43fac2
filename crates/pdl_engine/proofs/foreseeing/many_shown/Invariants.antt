-- The elements before the next ones are read.
use Rattle.std.proofs.Common.{◌≡◌, ◌≤◌, ◌-◌, All, length, take, vec_len}
use Rattle.pdl_elem.specs.Types.{InRange}
use Rattle.pdl_engine.proofs.foreseeing.many_shown.Given as goal

abbrev pub invariant-loop-numbers : goal.invariant-loop-numbers
invariant-loop-numbers l = record {
  inside : vec_len l.numbers ≤ l.count;
  read : l.numbers.items ≡ take (length l.numbers.items) l.window.elems;
  in_range : All (InRange l.window.ty) l.numbers.items;
}

abbrev pub decreases-loop-numbers : goal.decreases-loop-numbers
decreases-loop-numbers l = l.count - vec_len l.numbers
