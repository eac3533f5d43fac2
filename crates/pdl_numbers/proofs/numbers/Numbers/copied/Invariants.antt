-- The numbers before the next block are copied.
use Rattle.std.proofs.Common.{◌≡◌, ◌<◌, ◌≤◌, ◌-◌, length, take}
use Rattle.pdl_numbers.specs.Numbers.{elements_in}
use Rattle.pdl_numbers.proofs.numbers.Numbers.copied.Given as goal

abbrev pub invariant-loop-done : goal.invariant-loop-done
invariant-loop-done l = record {
  inside : l.done ≤ l.count;
  some : l.done < l.count → 0 < length l.block.items;
  kept : elements_in l.numbers ≡ record { ty = l.fn.ty; elems = take l.done (elements_in l.self).elems };
}

abbrev pub decreases-loop-done : goal.decreases-loop-done
decreases-loop-done l = l.count - l.done
