-- One number more.
use Rattle.std.proofs.Common.{rules, ◌≡◌, ◌≢◌, ℕ, ℤ, List, pos, ◌+ℤ◌, ◌*ℤ◌, get_or, set, arith, to_z, of_z, FitsSigned, ap, ap₂, ◌∙◌}
use Rattle.std.proofs.lemmas.Int.{to_z-of_z}
use Rattle.std.proofs.lemmas.List.{get_or-set_other}
use Rattle.std.proofs.lemmas.List.Edits.{fill_by_more}
use Rattle.std.specs.Int.{w32, w64}
use Rattle.std.specs.Int.RustNames.{unsigned_abs}
use Rattle.pdl_numbers.proofs.across.take_steps.Goals as goal

pub loop-j-preserved : goal.loop-j-preserved
loop-j-preserved g c =
    let j : ℕ = c.loop-j.j in
    let t : ℤ → ℤ → ℤ = g.F.Folding.taken in
    let inc : ℤ = to_z w32 (of_z w32 c.args.inc) in
    let number : ℕ → ℤ = λ m. get_or c.args.numbers.now (unsigned_abs (pos c.args.place +ℤ inc *ℤ pos m)) (pos 0) in
    let f : ℕ → ℤ = λ m. t (get_or c.args.so_far.now m (pos 0)) (number m) in
    let y : ℤ = to_z w64 (of_z w64 c.take.result) in
    let fits : FitsSigned w64 c.take.result = record { sfits = c.take.type_inv } in
    let old : FitsSigned w64 (get_or c.loop-j.so_far j (pos 0)) = search rules in
    let stands : get_or c.loop-j.so_far j (pos 0) ≡ get_or c.args.so_far.now j (pos 0) = c.loop-j.invariant.ahead j (omega arith) in
    let here : to_z w64 (of_z w64 c.number_after.result) ≡ number j =
    to_z-of_z w64 c.number_after.result (record { sfits = c.number_after.type_inv }) ∙ c.number_after.ensures
    ∙ ap (λ (xs : List ℤ). get_or xs (unsigned_abs (pos c.args.place +ℤ inc *ℤ pos j)) (pos 0)) c.cells-cells.ensures in
    let value : y ≡ f j =
    to_z-of_z w64 c.take.result fits ∙ c.take.ensures
    ∙ ap₂ t (to_z-of_z w64 (get_or c.loop-j.so_far j (pos 0)) old ∙ stands) here in
    record {
      taken = λ m h. ap (λ (z : ℤ). get_or (set c.loop-j.so_far j z) m (pos 0)) value ∙ fill_by_more f c.loop-j.so_far j (pos 0) (omega arith) c.loop-j.invariant.taken m h;
      ahead = λ m h. let other : m ≢ j = λ e. omega (arith, e, h) in get_or-set_other c.loop-j.so_far j m y (pos 0) other ∙ c.loop-j.invariant.ahead m (omega (arith, h));
    }

pub returns : goal.returns
returns g c = λ j h.
    c.loop-j.invariant.taken j (omega (arith, h))
    ∙ ap (λ (z : ℤ). g.F.Folding.taken (get_or c.args.so_far.now j (pos 0)) (get_or c.args.numbers.now (unsigned_abs (pos c.args.place +ℤ z *ℤ pos j)) (pos 0))) (to_z-of_z w32 c.args.inc c.ranges.inc)
