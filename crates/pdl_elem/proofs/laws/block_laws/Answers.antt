use Rattle.std.proofs.Common.{pos, arith}
use Rattle.pdl_elem.specs.Operators.{binary_whole, value_of}
use Rattle.pdl_elem.specs.Types.{InRange}
use Rattle.pdl_elem.proofs.BlockLists.{all_pairs, pairwise_at, pairwise_length}
use Rattle.pdl_elem.proofs.NumbersWrapped.{wraps}
use Rattle.pdl_elem.proofs.laws.block_laws.Goals as goal

pub returns : goal.returns
returns c = record {
  as_many = pairwise_length;
  at = λ f xs ys i e h. pairwise_at f xs ys i (pos 0) (pos 0) (pos 0) h (omega (arith, e, h));
  in_range = λ op t. all_pairs (InRange t) (value_of op t) (λ x y. (wraps t (binary_whole op t x y)).in_range);
}
