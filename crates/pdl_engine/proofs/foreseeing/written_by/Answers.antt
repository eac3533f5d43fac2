use Rattle.std.proofs.Common.{◌≡◌, ℕ, ℤ, pos, List, length, take, get_or, rules, arith, add-one, ap, sym, subst, ◌∙◌, to_z, of_z}
use Rattle.std.specs.Int.{w64}
use Rattle.std.specs.Prelude.{Option, None}
use Rattle.std.proofs.lemmas.Int.{to_z-of_z}
use Rattle.std.proofs.lemmas.List.{take_all}
use Rattle.pdl_shape.specs.Shape.{size_of}
use Rattle.pdl_shape.specs.Triple.{Triple}
use Rattle.pdl_world.specs.World.{root_elements}
use Rattle.pdl_nodes.specs.Placed.{placed_by}
use Rattle.pdl_nodes.specs.Rows.{row_at}
use Rattle.pdl_nodes.specs.Worlds.{world_of}
use Rattle.pdl_engine.specs.Foresights.{Tells, put_at, written_at}
use Rattle.pdl_engine.proofs.ForesightLemmas.{tells_more}
use Rattle.pdl_engine.proofs.PlacedByTriples.{count_places}
use Rattle.pdl_engine.proofs.foreseeing.written_by.Goals as goal

pub writing-init : goal.writing-init
writing-init c = record {
  room = c.in_ok-written.ensures.room;
  tells = c.in_ok-written.ensures.tells;
}

pub writing-preserved : goal.writing-preserved
writing-preserved c =
    let es : List ℤ = root_elements (world_of c.args.table.now) (row_at c.args.table.now c.args.id).root in
    let ps : List (Option ℕ) = placed_by c.args.known.now c.args.triple.now in
    let vs : List ℤ = c.args.values.now in
    let i : ℕ = c.writing.position in
    let n : length ps ≡ size_of c.args.triple.now.dims = count_places c.args.known.now c.args.triple.now in
    let count : c.elements_of-count.result ≡ size_of c.args.triple.now.dims = c.elements_of-count.ensures.count ∙ ap (λ (t : Triple). size_of t.dims) c.triple.view_is in
    let place : c.root_place-place.result ≡ get_or ps i None = c.root_place-place.ensures ∙ ap (λ (t : Triple). get_or (placed_by c.args.known.now t) i None) c.of-placement.ensures in
    let z : ℤ = get_or vs i (pos 0) in
    let value : to_z w64 (of_z w64 z) ≡ z = search (rules, to_z-of_z) in
    record {
      room = λ p below. c.put.ensures.room p (c.writing.invariant.room p below);
      tells = subst (λ (k : ℕ). Tells es c.put.new.self (take k ps) (take k vs)) (sym (add-one i))
          (tells_more es c.writing.written c.put.new.self ps vs i (omega (arith, n, count)) (omega (arith, count))
          (λ p below. c.in_ok-put.ensures.ok p (c.writing.invariant.room p below)
          ∙ ap (λ (x : ℤ). put_at c.root_place-place.result x p (written_at c.writing.written p)) value
          ∙ ap (λ (o : Option ℕ). put_at o z p (written_at c.writing.written p)) place)
          c.writing.invariant.tells);
    }

pub returns : goal.returns
returns c =
    let es : List ℤ = root_elements (world_of c.args.table.now) (row_at c.args.table.now c.args.id).root in
    let ps : List (Option ℕ) = placed_by c.args.known.now c.args.triple.now in
    let vs : List ℤ = c.args.values.now in
    let k : ℕ = c.writing.position in
    let n : length ps ≡ size_of c.args.triple.now.dims = count_places c.args.known.now c.args.triple.now in
    let count : c.elements_of-count.result ≡ size_of c.args.triple.now.dims = c.elements_of-count.ensures.count ∙ ap (λ (t : Triple). size_of t.dims) c.triple.view_is in
    subst (λ (qs : List (Option ℕ)). Tells es c.writing.written qs vs) (take_all k ps (omega (arith, n, count)))
    (subst (λ (us : List ℤ). Tells es c.writing.written (take k ps) us) (take_all k vs (omega (arith, count))) c.writing.invariant.tells)
