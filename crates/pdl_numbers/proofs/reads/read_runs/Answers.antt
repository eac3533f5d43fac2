-- One part more.
use Rattle.std.proofs.Common.{ℤ, arith, length, length-drop}
use Rattle.pdl_numbers.proofs.ReadRuns.{read_more, block_in_range}
use Rattle.pdl_numbers.proofs.reads.read_runs.Goals as goal

pub overflow_cast-position : goal.overflow_cast-position
overflow_cast-position g c = record { fits = omega (arith, c.size_along.ensures.small) }

pub overflow_add-position : goal.overflow_add-position
overflow_add-position g c = record { fits = omega (arith, c.size_along.ensures.small) }

pub loop-done-preserved : goal.loop-done-preserved
loop-done-preserved g c = record {
  inside = omega (arith, length-drop {A = ℤ});
  read = read_more c.args.triple.now c.args.numbers.now c.loop-done.into c.read_part-done.new.into c.args.first c.loop-done.done c.read_part-done.result _ (omega (arith, length-drop {A = ℤ})) (omega arith) (omega (arith, length-drop {A = ℤ})) c.loop-done.invariant.read c.read_part-done.ensures.value;
}

pub returns-clause-in_range : goal.returns-clause-in_range
returns-clause-in_range g c =
    block_in_range c.shape_laws.ensures.positions g.T.PackedType.ty c.args.triple.now c.args.numbers.now c.loop-done.into c.args.first (length c.args.into.now) c.size_along.ensures.sound c.requires.reaches c.requires.within (omega arith) c.are_in_range.ensures (λ k h. c.loop-done.invariant.read k (omega arith))
