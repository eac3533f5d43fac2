-- One value more is put, and all are put at the end.
use Rattle.std.proofs.Common.{◌≡◌, ℕ, ℤ, pos, List, length, map, get_or, rules, arith, ap, sym, ◌∙◌, FitsSigned}
use Rattle.std.proofs.lemmas.Int.{to_z-of_z}
use Rattle.std.proofs.lemmas.List.Elements.{All-get_or}
use Rattle.std.proofs.lemmas.List.FromFn.{length-map-range_with_len, get_or-map-range_with_len}
use Rattle.std.specs.Int.{w64}
use Rattle.std.specs.List.{range_with_len}
use Rattle.std.specs.Prelude.{Option, None}
use Rattle.pdl_elem.specs.declared.Ty.{Ty}
use Rattle.pdl_elem.specs.Types.{InRange}
use Rattle.pdl_numbers.specs.Bytes.{bytes_of, number_of}
use Rattle.pdl_numbers.proofs.ByteLemmas.{number_again, packed_again}
use Rattle.pdl_numbers.proofs.PlaceLists.{put_more, write_done}
use Rattle.pdl_numbers.proofs.packed.pack_by.Goals as goal

pub put_cell-requires : goal.put_cell-requires
put_cell-requires g c =
    let t : Ty = g.T.PackedType.ty in
    let z : ℤ = get_or c.args.values.now c.loop-i.i (pos 0) in
    let f : FitsSigned w64 z = search rules in
    let r : InRange t z = All-get_or (InRange t) c.args.values.now c.loop-i.i (pos 0) (omega arith) c.requires.in_range in
    (search rules, (packed_again t z c.pack.result r (c.pack.ensures ∙ ap (bytes_of t) (to_z-of_z w64 z f)), c.loop-i.invariant.packed))

pub loop-i-preserved : goal.loop-i-preserved
loop-i-preserved g c =
    let t : Ty = g.T.PackedType.ty in
    let vs : List ℤ = c.args.values.now in
    let n : ℕ = length vs in
    let ps : List (Option ℕ) = map (g.R.Route.goes_to c.args.route.now) (range_with_len 0 n) in
    let l : length ps ≡ n = length-map-range_with_len (g.R.Route.goes_to c.args.route.now) 0 n in
    let z : ℤ = get_or vs c.loop-i.i (pos 0) in
    let f : FitsSigned w64 z = search rules in
    let r : InRange t z = All-get_or (InRange t) vs c.loop-i.i (pos 0) (omega arith) c.requires.in_range in
    let value : number_of t c.pack.result ≡ z = ap (number_of t) (c.pack.ensures ∙ ap (bytes_of t) (to_z-of_z w64 z f)) ∙ number_again t z r in
    let at : c.place.result ≡ get_or ps c.loop-i.i None = c.place.ensures ∙ sym (get_or-map-range_with_len (g.R.Route.goes_to c.args.route.now) 0 n c.loop-i.i c.loop-i.i None (omega arith) (omega arith)) in
    record {
      packed = c.put_cell.ensures.packed;
      left = put_more ps vs (map (number_of t) c.loop-i.cells) (map (number_of t) c.put_cell.new.cells) c.loop-i.i c.place.result (number_of t c.pack.result) _ (omega (arith, l)) (omega arith) at value c.put_cell.ensures.value c.loop-i.invariant.left;
    }

pub returns-clause-value : goal.returns-clause-value
returns-clause-value g c =
    let t : Ty = g.T.PackedType.ty in
    let n : ℕ = length c.args.values.now in
    let ps : List (Option ℕ) = map (g.R.Route.goes_to c.args.route.now) (range_with_len 0 n) in
    let l : length ps ≡ n = length-map-range_with_len (g.R.Route.goes_to c.args.route.now) 0 n in
    sym (write_done ps c.args.values.now (map (number_of t) c.loop-i.cells) c.loop-i.i (omega (arith, l))) ∙ c.loop-i.invariant.left
