-- Four depths more, and all at the end.
use Rattle.std.proofs.Common.{◌≡◌, ◌+◌, ◌*◌, ℕ, arith, ap, ◌∙◌}
use Rattle.std.specs.Int.{int_wrap, w64}
use Rattle.pdl_reduce.specs.Blocks.{sum_at}
use Rattle.pdl_reduce.proofs.BlockProducts.{sums_at}
use Rattle.pdl_reduce.proofs.matrices.add_depths.Goals as goal

pub loop-q-preserved : goal.loop-q-preserved
loop-q-preserved c = sums_at c.args.sizes c.args.left.now c.args.right.now _ c.args.i (4 * c.loop-q.q + 4) (4 * (c.loop-q.q + 1)) (omega arith) c.add_four_depths.ensures

pub returns : goal.returns
returns c = λ j h.
    let s = c.args.sizes in
    let all : c.loop-k.k ≡ s.depth = omega arith in
    c.loop-k.invariant.sums j h ∙ ap (λ (n : ℕ). int_wrap w64 (sum_at s c.args.left.now c.args.right.now n c.args.i j)) all
