use Rattle.std.proofs.Common.{ℕ, ◌<◌, ◌^◌, length, subst, ap, ◌∙◌}
use Rattle.pdl_image.specs.Dump.{piece_count}
use Rattle.pdl_image.proofs.DumpFilling.{piece_added, piece_refused, piece_small, passed_on}
use Rattle.pdl_image.proofs.pieces.add_root.Goals as goal

pub add_piece-requires : goal.add_piece-requires
add_piece-requires c =
    let ns = c.args.numbers.now in
    let below : c.loop-k.k < piece_count (length ns) = subst (λ (n : ℕ). c.loop-k.k < n) (c.piece_count-k-end.ensures ∙ ap piece_count c.len.ensures.count) c.loop-k-test.true in
    piece_small ns _ c.loop-k.k c.cut.ensures below (subst (λ (n : ℕ). n < 2 ^ 31) c.len.ensures.count c.len.ensures.small)

pub returns-in_err-add_piece : goal.returns-in_err-add_piece
returns-in_err-add_piece c =
    let ns = c.args.numbers.now in
    let below : c.loop-k.k < piece_count (length ns) = subst (λ (n : ℕ). c.loop-k.k < n) (c.piece_count-k-end.ensures ∙ ap piece_count c.len.ensures.count) c.loop-k-test.true in
    passed_on _ _ _ c.from_residual-in_err-add_piece.result c.in_err-add_piece.field-0.0 c.from_residual-in_err-add_piece.ensures.1
    (piece_refused _ _ _ c.args.name.now _ c.args.dims.now ns c.loop-k.k _ _ below c.cut.ensures c.loop-k.invariant c.in_err-add_piece.ensures)

pub loop-k-preserved : goal.loop-k-preserved
loop-k-preserved c =
    piece_added _ _ _ c.args.name.now _ c.args.dims.now c.args.numbers.now c.loop-k.k _ _ c.cut.ensures c.loop-k.invariant c.in_ok-add_piece.ensures
