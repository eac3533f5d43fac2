use Rattle.std.proofs.Common.{◌∷◌, Ok}
use Rattle.std.specs.Prelude.{flat_map}
use Rattle.std.specs.List.{range_with_len}
use Rattle.pdl_image.specs.Adding.{Adds}
use Rattle.pdl_image.specs.Dump.{piece_lines}
use Rattle.pdl_image.specs.Lines.{root_line}
use Rattle.pdl_image.proofs.pieces.add_root.Given as goal

-- the pieces before this one
abbrev pub invariant-loop-k : goal.invariant-loop-k
invariant-loop-k l =
    Adds l.fn.draft l.draft
    (root_line l.name l.fn.ty l.dims ∷ flat_map (piece_lines l.name l.numbers) (range_with_len 0 l.k)) (Ok tt)
