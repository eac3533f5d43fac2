-- One number more.
use Rattle.std.proofs.Common.{rules, ◌≡◌, ◌≢◌, ℕ, ℤ, pos, List, get_or, set, arith, to_z, of_z, FitsSigned, ap, ◌∙◌}
use Rattle.std.proofs.lemmas.Int.{to_z-of_z}
use Rattle.std.proofs.lemmas.List.{get_or-set_other}
use Rattle.std.proofs.lemmas.List.Edits.{fill_by_more}
use Rattle.std.specs.Int.{w64}
use Rattle.pdl_reduce.specs.Blocks.{plus_four_scaled}
use Rattle.pdl_reduce.proofs.matrices.add_four_scaled.Goals as goal

pub loop-j-preserved : goal.loop-j-preserved
loop-j-preserved c =
    let j : ℕ = c.loop-j.j in
    let row : List ℤ = c.args.row.now in
    let first : ℤ = to_z w64 (of_z w64 c.args.first) in
    let second : ℤ = to_z w64 (of_z w64 c.args.second) in
    let third : ℤ = to_z w64 (of_z w64 c.args.third) in
    let fourth : ℤ = to_z w64 (of_z w64 c.args.fourth) in
    let a : ℕ → ℤ = λ m. get_or c.args.a.now m (pos 0) in
    let b : ℕ → ℤ = λ m. get_or c.args.b.now m (pos 0) in
    let d : ℕ → ℤ = λ m. get_or c.args.c.now m (pos 0) in
    let e : ℕ → ℤ = λ m. get_or c.args.d.now m (pos 0) in
    let f : ℕ → ℤ = λ m. plus_four_scaled (get_or row m (pos 0)) first (a m) second (b m) third (d m) fourth (e m) in
    let y : ℤ = to_z w64 (of_z w64 c.add_four_to.result) in
    let kept : ℤ → ℤ = λ z. to_z w64 (of_z w64 z) in
    let fits : FitsSigned w64 c.add_four_to.result = record { sfits = c.add_four_to.type_inv } in
    let old_fits : FitsSigned w64 (get_or c.loop-j.row j (pos 0)) = search rules in
    let a_fits : FitsSigned w64 (get_or c.args.a.now j (pos 0)) = search rules in
    let b_fits : FitsSigned w64 (get_or c.args.b.now j (pos 0)) = search rules in
    let d_fits : FitsSigned w64 (get_or c.args.c.now j (pos 0)) = search rules in
    let e_fits : FitsSigned w64 (get_or c.args.d.now j (pos 0)) = search rules in
    let old : kept (get_or c.loop-j.row j (pos 0)) ≡ get_or row j (pos 0) = to_z-of_z w64 (get_or c.loop-j.row j (pos 0)) old_fits ∙ c.loop-j.invariant.ahead j (omega arith) in
    let value : y ≡ f j =
    to_z-of_z w64 c.add_four_to.result fits ∙ c.add_four_to.ensures
    ∙ ap (λ (z : ℤ). plus_four_scaled z first (kept (a j)) second (kept (b j)) third (kept (d j)) fourth (kept (e j))) old
    ∙ ap (λ (z : ℤ). plus_four_scaled (get_or row j (pos 0)) first z second (kept (b j)) third (kept (d j)) fourth (kept (e j))) (to_z-of_z w64 (a j) a_fits)
    ∙ ap (λ (z : ℤ). plus_four_scaled (get_or row j (pos 0)) first (a j) second z third (kept (d j)) fourth (kept (e j))) (to_z-of_z w64 (b j) b_fits)
    ∙ ap (λ (z : ℤ). plus_four_scaled (get_or row j (pos 0)) first (a j) second (b j) third z fourth (kept (e j))) (to_z-of_z w64 (d j) d_fits)
    ∙ ap (λ (z : ℤ). plus_four_scaled (get_or row j (pos 0)) first (a j) second (b j) third (d j) fourth z) (to_z-of_z w64 (e j) e_fits) in
    record {
      added = λ m h. ap (λ (z : ℤ). get_or (set c.loop-j.row j z) m (pos 0)) value ∙ fill_by_more f c.loop-j.row j (pos 0) (omega arith) c.loop-j.invariant.added m h;
      ahead = λ m h. let other : m ≢ j = λ same. omega (arith, same, h) in get_or-set_other c.loop-j.row j m y (pos 0) other ∙ c.loop-j.invariant.ahead m (omega (arith, h));
    }
