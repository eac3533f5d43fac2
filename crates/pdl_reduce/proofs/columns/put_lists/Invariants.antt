-- The elements of each list before this one are taken in.
use Rattle.std.proofs.Common.{◌≡◌}
use Rattle.pdl_numbers.specs.Numbers.{elements_in}
use Rattle.pdl_reduce.proofs.AcrossLemmas.{HaveCome}
use Rattle.pdl_reduce.proofs.columns.put_lists.Given as goal

abbrev pub invariant-loop-i : goal.invariant-loop-i
invariant-loop-i g l = record {
  typed : (elements_in l.made).ty ≡ (elements_in l.fn.made).ty;
  come : HaveCome (elements_in l.fn.made).ty g.F.Folding.taken l.start l.size l.a.elems l.first l.before l.count l.i (elements_in l.fn.made).elems (elements_in l.made).elems;
}
