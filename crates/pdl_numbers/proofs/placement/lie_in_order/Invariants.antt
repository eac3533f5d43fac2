use Rattle.pdl_numbers.proofs.ShownInOrder.{Ordering}
use Rattle.pdl_numbers.proofs.placement.lie_in_order.Given as goal

-- the dimensions before i lie in order
abbrev pub invariant-loop-i : goal.invariant-loop-i
invariant-loop-i l = Ordering l.incs l.sizes l.i l.step
