use Rattle.std.proofs.Common.{◌≡◌, ℕ, ◌+◌, ℤ, pos, List, [], ◌∷◌, ◌++◌, length, drop, get_or, rules, arith, ap, sym, ◌∙◌, to_z, of_z}
use Rattle.std.specs.Int.{w64}
use Rattle.std.specs.Prelude.{Option, None}
use Rattle.std.proofs.lemmas.Int.{to_z-of_z}
use Rattle.std.proofs.lemmas.List.{at_drop_all}
use Rattle.pdl_shape.specs.Shape.{size_of}
use Rattle.pdl_shape.specs.Triple.{Triple}
use Rattle.pdl_nodes.specs.Placed.{placed_by}
use Rattle.pdl_engine.specs.Foresights.{element_after, elements_after}
use Rattle.pdl_engine.proofs.ForesightLemmas.{after_more}
use Rattle.pdl_engine.proofs.PlacedByTriples.{count_places, found_more, nothing_left}
use Rattle.pdl_engine.proofs.foreseeing.shown_after.Goals as goal

pub reading-preserved : goal.reading-preserved
reading-preserved c =
    let ps : List (Option ℕ) = placed_by c.args.known.now c.args.triple.now in
    let xs : List ℤ = c.args.before.now in
    let w = c.args.written.now in
    let i : ℕ = c.reading.position in
    let n : length ps ≡ size_of c.args.triple.now.dims = count_places c.args.known.now c.args.triple.now in
    let count : c.elements_of-count.result ≡ size_of c.args.triple.now.dims = c.elements_of-count.ensures.count ∙ ap (λ (t : Triple). size_of t.dims) c.triple.view_is in
    let place : c.root_place-place.result ≡ get_or ps i None = c.root_place-place.ensures ∙ ap (λ (t : Triple). get_or (placed_by c.args.known.now t) i None) c.of-placement.ensures in
    let z : ℤ = get_or xs i (pos 0) in
    let value : to_z w64 (of_z w64 z) ≡ z = search (rules, to_z-of_z) in
    let pushed : to_z w64 (of_z w64 c.element_after.result) ≡ c.element_after.result = search (rules, to_z-of_z) in
    found_more (elements_after w ps xs) (elements_after w (drop i ps) (drop i xs)) (elements_after w (drop (i + 1) ps) (drop (i + 1) xs)) c.reading.numbers.items c.push.new.self.items c.element_after.result c.reading.invariant
    (after_more w ps xs i (omega (arith, n, count)) (omega (arith, count))
    ∙ ap (λ (x : ℤ). x ∷ elements_after w (drop (i + 1) ps) (drop (i + 1) xs))
    (sym (c.element_after.ensures ∙ ap (λ (x : ℤ). element_after w c.root_place-place.result x) value ∙ ap (λ (o : Option ℕ). element_after w o z) place)))
    (c.in_ok-push.ensures.items ∙ ap (λ (x : ℤ). c.reading.numbers.items ++ (x ∷ [])) pushed)

pub returns : goal.returns
returns c =
    let ps : List (Option ℕ) = placed_by c.args.known.now c.args.triple.now in
    let xs : List ℤ = c.args.before.now in
    let w = c.args.written.now in
    let n : length ps ≡ size_of c.args.triple.now.dims = count_places c.args.known.now c.args.triple.now in
    let count : c.elements_of-count.result ≡ size_of c.args.triple.now.dims = c.elements_of-count.ensures.count ∙ ap (λ (t : Triple). size_of t.dims) c.triple.view_is in
    nothing_left (elements_after w ps xs) (elements_after w (drop c.reading.position ps) (drop c.reading.position xs)) c.reading.numbers.items c.reading.invariant
    (at_drop_all (λ (qs : List (Option ℕ)). elements_after w qs (drop c.reading.position xs)) ps c.reading.position (omega (arith, n, count)))
