use Rattle.std.proofs.Common.{◌≡◌, ◌+◌, ◌-◌, ℕ, ℤ, List, length, take, drop, arith, refl, ap, sym, ◌∙◌}
use Rattle.std.proofs.lemmas.List.{length-drop, length-take-le}
use Rattle.std.proofs.lemmas.List.FromFn.{length-map-range_with_len}
use Rattle.std.specs.Prelude.{Some}
use Rattle.pdl_numbers.specs.Shown.{place_at}
use Rattle.pdl_numbers.specs.Writes.{placed_from}
use Rattle.pdl_numbers.proofs.PlaceLists.{write_done}
use Rattle.pdl_numbers.proofs.WriteRuns.{run_more}
use Rattle.pdl_numbers.proofs.writes.write_rows.Goals as goal

pub loop-done-preserved : goal.loop-done-preserved
loop-done-preserved g c =
    let d : ℕ = c.loop-done.done in
    let r : ℕ = c.run_length.result in
    let vs : List ℤ = c.args.values.now in
    let many : d + r - d ≡ r = omega arith in
    let part : take (d + r - d) (drop d vs) ≡ take r (drop d vs) = ap (λ k. take k (drop d vs)) many in
    let long : length (take (d + r - d) (drop d vs)) ≡ r = ap length part ∙ length-take-le r (drop d vs) (omega (arith, length-drop d vs)) in
    record {
      inside = omega arith;
      left = run_more c.args.triple.now c.args.first d r (length vs) vs c.loop-done.numbers c.write_row.new.numbers (take (d + r - d) (drop d vs)) _ refl (omega arith) long part c.write_row.ensures c.loop-done.invariant.left;
    }

pub returns : goal.returns
returns g c =
    let n : ℕ = length c.args.values.now in
    let l : length (placed_from c.args.triple.now c.args.first n) ≡ n = length-map-range_with_len (λ p. Some (place_at c.args.triple.now (c.args.first + p))) 0 n in
    sym (write_done (placed_from c.args.triple.now c.args.first n) c.args.values.now c.loop-done.numbers c.loop-done.done (omega (arith, l))) ∙ c.loop-done.invariant.left
