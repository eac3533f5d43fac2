-- One row more.
use Rattle.std.proofs.Common.{◌≡◌, ◌+◌, ℕ, ℤ, List, length, arith, refl, ap, sym, ◌∙◌}
use Rattle.std.proofs.lemmas.List.FromFn.{length-map-range_with_len}
use Rattle.std.specs.Prelude.{Some}
use Rattle.pdl_shape.specs.Places.{read}
use Rattle.pdl_shape.specs.Shape.{size_of}
use Rattle.pdl_shape.specs.Triple.{Triple}
use Rattle.pdl_numbers.specs.Shown.{place_at}
use Rattle.pdl_numbers.specs.Writes.{placed_from}
use Rattle.pdl_numbers.proofs.CopyLemmas.{row_copied}
use Rattle.pdl_numbers.proofs.PlaceLists.{write_done}
use Rattle.pdl_numbers.proofs.copies.copy_rows.Goals as goal

pub loop-done-preserved : goal.loop-done-preserved
loop-done-preserved g c =
    let to : Triple = c.args.to.now in
    let shown : Triple = c.args.shown.now in
    let from : List ℤ = c.args.from.now in
    let all : c.elements_of-count.result ≡ size_of to.dims = c.elements_of-count.ensures.count ∙ ap (λ (u : Triple). size_of u.dims) c.to.view_is in
    let d : ℕ = c.loop-done.done in
    let r : ℕ = c.run_length-run.result in
    record {
      inside = omega arith;
      many = ap (λ (es : List ℤ). length es) c.copy_row.ensures ∙ c.shape_laws.ensures.writes.as_many (placed_from to d r) (read (placed_from shown d r) from) c.loop-done.numbers ∙ c.loop-done.invariant.many;
      left = row_copied to shown d r (size_of to.dims) d from c.loop-done.numbers c.copy_row.new.numbers _ (omega (arith, all)) refl c.copy_row.ensures c.loop-done.invariant.left;
    }

pub returns : goal.returns
returns g c =
    let to : Triple = c.args.to.now in
    let from : List ℤ = c.args.from.now in
    let all : c.elements_of-count.result ≡ size_of to.dims = c.elements_of-count.ensures.count ∙ ap (λ (u : Triple). size_of u.dims) c.to.view_is in
    let n : ℕ = size_of to.dims in
    let l : length (placed_from to 0 n) ≡ n = length-map-range_with_len (λ p. Some (place_at to (0 + p))) 0 n in
    sym (write_done (placed_from to 0 n) (read (placed_from c.args.shown.now 0 n) from) c.loop-done.numbers c.loop-done.done (omega (arith, l, all))) ∙ c.loop-done.invariant.left
