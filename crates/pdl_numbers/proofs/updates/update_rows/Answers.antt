-- One row more.
use Rattle.std.proofs.Common.{◌≡◌, ◌+◌, ℕ, ℤ, List, length, arith, ap, sym, ◌∙◌}
use Rattle.std.proofs.lemmas.List.FromFn.{length-map-range_with_len}
use Rattle.std.specs.Prelude.{Some}
use Rattle.pdl_shape.specs.Shape.{size_of}
use Rattle.pdl_shape.specs.Triple.{Triple}
use Rattle.pdl_numbers.specs.Shown.{place_at}
use Rattle.pdl_numbers.specs.Updates.{updated}
use Rattle.pdl_numbers.specs.Writes.{placed_from}
use Rattle.pdl_numbers.proofs.UpdateLemmas.{change_done, length_change, run_changed}
use Rattle.pdl_numbers.proofs.updates.update_rows.Goals as goal

pub loop-done-preserved : goal.loop-done-preserved
loop-done-preserved g c =
    let f : ℤ → ℤ = updated g.T.PackedType.ty c.args.update in
    let t : Triple = c.args.triple.now in
    let all : c.elements_of-count.result ≡ size_of t.dims = c.elements_of-count.ensures.count ∙ ap (λ (u : Triple). size_of u.dims) c.triple.view_is in
    let d : ℕ = c.loop-done.done in
    let r : ℕ = c.run_length-run.result in
    record {
      inside = omega arith;
      many = ap (λ (es : List ℤ). length es) c.update_row.ensures ∙ length_change f (placed_from t d r) c.loop-done.numbers ∙ c.loop-done.invariant.many;
      left = run_changed f t 0 d r (size_of t.dims) d c.loop-done.numbers c.update_row.new.numbers _ (omega (arith, all)) (omega arith) c.update_row.ensures c.loop-done.invariant.left;
    }

pub returns : goal.returns
returns g c =
    let t : Triple = c.args.triple.now in
    let all : c.elements_of-count.result ≡ size_of t.dims = c.elements_of-count.ensures.count ∙ ap (λ (u : Triple). size_of u.dims) c.triple.view_is in
    let n : ℕ = size_of t.dims in
    let l : length (placed_from t 0 n) ≡ n = length-map-range_with_len (λ p. Some (place_at t (0 + p))) 0 n in
    sym (change_done (updated g.T.PackedType.ty c.args.update) (placed_from t 0 n) c.loop-done.numbers c.loop-done.done (omega (arith, l, all))) ∙ c.loop-done.invariant.left
