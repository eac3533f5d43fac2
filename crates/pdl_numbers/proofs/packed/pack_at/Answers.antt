-- One value more is put, and all are put at the end.
use Rattle.std.proofs.Common.{◌≡◌, ℕ, ℤ, pos, List, map, get_or, rules, refl, arith, ap, sym, ◌∙◌, FitsSigned}
use Rattle.std.proofs.lemmas.Int.{to_z-of_z}
use Rattle.std.proofs.lemmas.List.Elements.{All-get_or}
use Rattle.std.specs.Int.{w64}
use Rattle.std.specs.Prelude.{Option, None}
use Rattle.pdl_elem.specs.declared.Ty.{Ty}
use Rattle.pdl_elem.specs.Types.{InRange}
use Rattle.pdl_numbers.specs.Bytes.{bytes_of, number_of}
use Rattle.pdl_numbers.proofs.ByteLemmas.{number_again, packed_again}
use Rattle.pdl_numbers.proofs.PlaceLists.{put_more, write_done}
use Rattle.pdl_numbers.proofs.packed.pack_at.Goals as goal

pub put_cell-requires : goal.put_cell-requires
put_cell-requires g c =
    let t : Ty = g.T.PackedType.ty in
    let z : ℤ = get_or c.args.values.now c.loop-i.i (pos 0) in
    let f : FitsSigned w64 z = search rules in
    let r : InRange t z = All-get_or (InRange t) c.args.values.now c.loop-i.i (pos 0) (omega arith) c.requires.in_range in
    (search rules, (packed_again t z c.pack.result r (c.pack.ensures ∙ ap (bytes_of t) (to_z-of_z w64 z f)), c.loop-i.invariant.packed))

pub loop-i-preserved : goal.loop-i-preserved
loop-i-preserved g c =
    let t : Ty = g.T.PackedType.ty in
    let vs : List ℤ = c.args.values.now in
    let ps : List (Option ℕ) = c.args.places.now in
    let z : ℤ = get_or vs c.loop-i.i (pos 0) in
    let f : FitsSigned w64 z = search rules in
    let r : InRange t z = All-get_or (InRange t) vs c.loop-i.i (pos 0) (omega arith) c.requires.in_range in
    let value : number_of t c.pack.result ≡ z = ap (number_of t) (c.pack.ensures ∙ ap (bytes_of t) (to_z-of_z w64 z f)) ∙ number_again t z r in
    record {
      packed = c.put_cell.ensures.packed;
      left = put_more ps vs (map (number_of t) c.loop-i.cells) (map (number_of t) c.put_cell.new.cells) c.loop-i.i (get_or ps c.loop-i.i None) (number_of t c.pack.result) _ (omega arith) (omega arith) refl value c.put_cell.ensures.value c.loop-i.invariant.left;
    }

pub returns-clause-value : goal.returns-clause-value
returns-clause-value g c =
    let t : Ty = g.T.PackedType.ty in
    sym (write_done c.args.places.now c.args.values.now (map (number_of t) c.loop-i.cells) c.loop-i.i (omega arith)) ∙ c.loop-i.invariant.left
