-- A block of neighbours.
use Rattle.std.proofs.Common.{ℕ, pos, get_or, arith, length, ap, ◌∙◌}
use Rattle.pdl_numbers.proofs.PlaceLists.{block_at}
use Rattle.pdl_numbers.proofs.ReadRuns.{Neighbours, neighbours, block_in_range}
use Rattle.pdl_numbers.proofs.reads.read_in_order.Goals as goal

pub read_from-requires : goal.read_from-requires
read_from-requires g c =
    let n : Neighbours c.args.triple.now c.args.numbers.now c.args.first c.place_in_order-start.result (length c.args.into.now) =
    neighbours c.shape_laws.ensures.positions _ _ _ _ _ c.place_in_order-start.ensures.sound c.requires.reaches c.requires.ordered c.requires.within (omega arith) c.place_in_order-start.ensures.place in
    (omega arith, n.inside)

pub returns-then-into-gt0-clause-value : goal.returns-then-into-gt0-clause-value
returns-then-into-gt0-clause-value g c =
    let n : Neighbours c.args.triple.now c.args.numbers.now c.args.first c.place_in_order-start.result (length c.args.into.now) =
    neighbours c.shape_laws.ensures.positions _ _ _ _ _ c.place_in_order-start.ensures.sound c.requires.reaches c.requires.ordered c.requires.within (omega arith) c.place_in_order-start.ensures.place in
    λ k h. block_at c.args.numbers.now c.read_from.new.into c.place_in_order-start.result (length c.args.into.now) k c.read_from.ensures h ∙ ap (λ (p : ℕ). get_or c.args.numbers.now p (pos 0)) (n.here k h)

pub returns-then-into-gt0-clause-in_range : goal.returns-then-into-gt0-clause-in_range
returns-then-into-gt0-clause-in_range g c =
    let n : Neighbours c.args.triple.now c.args.numbers.now c.args.first c.place_in_order-start.result (length c.args.into.now) =
    neighbours c.shape_laws.ensures.positions _ _ _ _ _ c.place_in_order-start.ensures.sound c.requires.reaches c.requires.ordered c.requires.within (omega arith) c.place_in_order-start.ensures.place in
    block_in_range c.shape_laws.ensures.positions g.T.PackedType.ty c.args.triple.now c.args.numbers.now c.read_from.new.into c.args.first (length c.args.into.now) c.place_in_order-start.ensures.sound c.requires.reaches c.requires.within (omega arith) c.are_in_range.ensures
    (λ k h. block_at c.args.numbers.now c.read_from.new.into c.place_in_order-start.result (length c.args.into.now) k c.read_from.ensures h ∙ ap (λ (p : ℕ). get_or c.args.numbers.now p (pos 0)) (n.here k h))
