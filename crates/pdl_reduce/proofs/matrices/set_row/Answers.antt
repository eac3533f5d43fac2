-- A column of one number.
use Rattle.std.proofs.Common.{◌≤◌, ◌+◌, ◌-◌, ◌*◌, ℕ, ℤ, List, length, arith, to_z, of_z, FitsSigned, ap, ◌∙◌}
use Rattle.std.proofs.lemmas.Int.{to_z-of_z}
use Rattle.std.proofs.Math.Nat.{mul-le-mul}
use Rattle.std.specs.Int.{int_wrap, w64}
use Rattle.pdl_reduce.proofs.BlockProducts.{first_set, single_column}
use Rattle.pdl_reduce.proofs.matrices.set_row.Goals as goal

pub returns-then-sizes-depth-2 : goal.returns-then-sizes-depth-2
returns-then-sizes-depth-2 c = λ j h.
    let s = c.args.sizes in
    let left : List ℤ = c.args.left.now in
    let right : List ℤ = c.args.right.now in
    let start : ℕ = s.depth * c.args.i in
    let fits : FitsSigned w64 c.sum_of_products.result = record { sfits = c.sum_of_products.type_inv } in
    let within : start + (start + s.depth - start) ≤ length left =
    omega (arith, c.requires.fit.left_count, c.if-sizes-depth.true, c.requires.inside, ap (λ (m : ℕ). m * s.height) c.if-sizes-depth.true, mul-le-mul {n₁ = s.depth} {m₁ = c.args.i + 1} {n₂ = s.depth} {m₂ = s.height} (omega arith) (omega (arith, c.requires.inside))) in
    first_set c.args.row.now (to_z w64 (of_z w64 c.sum_of_products.result)) j (omega (arith, c.if-sizes-eq1.true, h)) (omega (arith, c.requires.width, h))
    ∙ to_z-of_z w64 c.sum_of_products.result fits ∙ c.sum_of_products.ensures
    ∙ ap (int_wrap w64) (single_column s left right c.args.i j (start + s.depth - start) c.if-sizes-eq1.true c.if-sizes-depth.true c.if-sizes-depth-2.true h (omega arith) within)
