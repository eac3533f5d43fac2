-- One cell more is copied, and all are at the end.
use Rattle.std.proofs.Common.{◌≡◌, ℕ, ℤ, pos, List, length, map, get_or, rules, refl, arith, ap, sym, subst, ◌∙◌}
use Rattle.std.proofs.lemmas.List.{get_or-map, length-map}
use Rattle.std.proofs.lemmas.List.Elements.{All-get_or}
use Rattle.std.specs.Prelude.{Option, None}
use Rattle.pdl_elem.specs.declared.Ty.{Ty}
use Rattle.pdl_numbers.specs.Bytes.{IsPacked, number_of}
use Rattle.pdl_numbers.proofs.PlaceLists.{put_more, write_done}
use Rattle.pdl_numbers.proofs.packed.copy_cells.Goals as goal

pub put_cell-requires : goal.put_cell-requires
put_cell-requires g c =
    let t : Ty = g.T.PackedType.ty in
    let cell : IsPacked t c.index-from-i.result = subst (IsPacked t) (sym c.index-from-i.is) (All-get_or (IsPacked t) c.args.from.now c.loop-i.i c.index-from-i.result (omega arith) c.requires.from_packed) in
    (search rules, (cell, c.loop-i.invariant.packed))

pub loop-i-preserved : goal.loop-i-preserved
loop-i-preserved g c =
    let t : Ty = g.T.PackedType.ty in
    let ps : List (Option ℕ) = c.args.places.now in
    let ns : List ℤ = map (number_of t) c.args.from.now in
    let many : length ns ≡ length c.args.from.now = length-map c.args.from.now (number_of t) in
    let here : number_of t c.index-from-i.result ≡ get_or ns c.loop-i.i (pos 0) = ap (number_of t) c.index-from-i.is ∙ sym (get_or-map (number_of t) c.args.from.now c.loop-i.i c.index-from-i.result (pos 0) (omega arith)) in
    record {
      packed = c.put_cell.ensures.packed;
      left = put_more ps ns (map (number_of t) c.loop-i.cells) (map (number_of t) c.put_cell.new.cells) c.loop-i.i (get_or ps c.loop-i.i None) (number_of t c.index-from-i.result) _ (omega arith) (omega (arith, many)) refl here c.put_cell.ensures.value c.loop-i.invariant.left;
    }

pub returns-clause-value : goal.returns-clause-value
returns-clause-value g c =
    let t : Ty = g.T.PackedType.ty in
    sym (write_done c.args.places.now (map (number_of t) c.args.from.now) (map (number_of t) c.loop-i.cells) c.loop-i.i (omega arith)) ∙ c.loop-i.invariant.left
