-- All cells are those at their places.
use Rattle.std.proofs.Common.{◌≡◌, ℕ, ℤ, pos, List, [], length, map, set, get_or, rules, refl, arith, ap, sym, ◌∙◌}
use Rattle.std.proofs.lemmas.List.{get_or-map, get_or-set_other, length-map, length-set}
use Rattle.std.proofs.lemmas.List.Elements.{All-get_or}
use Rattle.std.specs.Prelude.{Option, None}
use Rattle.pdl_elem.specs.declared.Ty.{Ty}
use Rattle.pdl_shape.specs.Places.{element_at, read}
use Rattle.pdl_numbers.specs.Bytes.{bytes_of, number_of}
use Rattle.pdl_numbers.proofs.ByteLemmas.{set_more, set_all}
use Rattle.pdl_numbers.proofs.packed.gather_part.Goals as goal

pub loop-i-init : goal.loop-i-init
loop-i-init g c = record {
  count = c.requires.paired;
  done = refl;
  zeros = λ k after low. All-get_or (λ (cell : List ℕ). cell ≡ bytes_of g.T.PackedType.ty (pos 0)) c.args.cells.now k [] low c.requires.zeros;
}

pub fetch_cell-requires : goal.fetch_cell-requires
fetch_cell-requires g c = (search rules, (c.loop-i.invariant.zeros c.loop-i.i (omega arith) (omega arith), c.requires.packed))

pub loop-i-preserved : goal.loop-i-preserved
loop-i-preserved g c =
    let t : Ty = g.T.PackedType.ty in
    let es : List ℤ = map (number_of t) c.args.from.now in
    let ps : List (Option ℕ) = c.args.places.now in
    let long : length (read ps es) ≡ length ps = length-map ps (element_at es) in
    let here : get_or (read ps es) c.loop-i.i (pos 0) ≡ element_at es (get_or ps c.loop-i.i None) = get_or-map (element_at es) ps c.loop-i.i None (pos 0) (omega arith) in
    let many : length (set c.loop-i.cells c.loop-i.i c.fetch_cell.new.cell) ≡ length c.loop-i.cells = length-set c.loop-i.cells c.loop-i.i c.fetch_cell.new.cell in
    record {
      count = many ∙ c.loop-i.invariant.count;
      done = set_more (bytes_of t) c.loop-i.cells (read ps es) c.loop-i.i (pos 0) c.fetch_cell.new.cell (omega (arith, long)) (c.loop-i.invariant.count ∙ sym long) (c.fetch_cell.ensures ∙ ap (bytes_of t) (sym here)) c.loop-i.invariant.done;
      zeros = λ k after low. get_or-set_other c.loop-i.cells c.loop-i.i k c.fetch_cell.new.cell [] (omega (arith, after)) ∙ c.loop-i.invariant.zeros k (omega (arith, after)) (omega (arith, low, many));
    }

pub returns : goal.returns
returns g c =
    let t : Ty = g.T.PackedType.ty in
    let es : List ℤ = map (number_of t) c.args.from.now in
    let ps : List (Option ℕ) = c.args.places.now in
    let long : length (read ps es) ≡ length ps = length-map ps (element_at es) in
    set_all (bytes_of t) c.loop-i.cells (read ps es) c.loop-i.i (omega (arith, long)) (c.loop-i.invariant.count ∙ sym long) c.loop-i.invariant.done
