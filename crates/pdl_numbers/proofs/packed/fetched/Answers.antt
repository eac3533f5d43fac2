-- The cell at one place more is put, and all are at the end.
use Rattle.std.proofs.Common.{◌≡◌, ℕ, ℤ, pos, List, [], ◌∷◌, ◌++◌, length, map, take, get_or, arith, ap, ap₂, sym, ◌∙◌}
use Rattle.std.specs.Prelude.{Option, None}
use Rattle.std.proofs.lemmas.List.{get_or-map, length-map, length-take-le, map_more, take_all}
use Rattle.pdl_elem.specs.declared.Ty.{Ty}
use Rattle.pdl_shape.specs.Places.{element_at, read}
use Rattle.pdl_numbers.specs.Bytes.{bytes_of, number_of}
use Rattle.pdl_numbers.proofs.packed.fetched.Goals as goal

pub push_reserved-requires : goal.push_reserved-requires
push_reserved-requires g c =
    let t : Ty = g.T.PackedType.ty in
    let i : ℕ = c.loop-place.place-index in
    let values : List ℤ = read c.args.places.now (map (number_of t) c.args.from.now) in
    let many : length values ≡ length c.args.places.now = length-map c.args.places.now (element_at (map (number_of t) c.args.from.now)) in
    let put : length c.loop-place.cells.items ≡ i =
    ap length c.loop-place.invariant.put ∙ length-map (take i values) (bytes_of t) ∙ length-take-le i values (omega (arith, many, c.loop-place-test.true)) in
    omega (arith, put, c.loop-place.invariant.room, c.loop-place-test.true)

pub loop-place-preserved : goal.loop-place-preserved
loop-place-preserved g c =
    let t : Ty = g.T.PackedType.ty in
    let es : List ℤ = map (number_of t) c.args.from.now in
    let ps : List (Option ℕ) = c.args.places.now in
    let i : ℕ = c.loop-place.place-index in
    let here : c.fetch_cell.new.cell ≡ bytes_of t (element_at es (get_or ps i None)) = c.fetch_cell.ensures in
    record {
      put = c.push_reserved.ensures.items
          ∙ ap₂ (λ (front : List (List ℕ)) (cell : List ℕ). front ++ cell ∷ []) c.loop-place.invariant.put
          (here ∙ ap (bytes_of t) (sym (get_or-map (element_at es) ps i None (pos 0) c.loop-place-test.true)))
          ∙ sym (map_more (bytes_of t) (read ps es) i (pos 0) (omega (arith, length-map ps (element_at es), c.loop-place-test.true)));
      room = omega (arith, c.push_reserved.ensures.capacity, c.loop-place.invariant.room);
    }

pub returns : goal.returns
returns g c =
    let t : Ty = g.T.PackedType.ty in
    let es : List ℤ = map (number_of t) c.args.from.now in
    let ps : List (Option ℕ) = c.args.places.now in
    c.loop-place.invariant.put ∙ ap (map (bytes_of t)) (take_all c.loop-place.place-index (read ps es) (omega (arith, length-map ps (element_at es), c.loop-place-test.false)))
