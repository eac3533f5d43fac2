-- One product more.
use Rattle.std.proofs.Common.{rules, ◌*ℤ◌, ℕ, ℤ, pos, List, get_or, FitsSigned, ap₂, ◌∙◌}
use Rattle.std.proofs.lemmas.Int.{to_z-of_z}
use Rattle.std.specs.Int.{w64}
use Rattle.pdl_reduce.proofs.BlockProducts.{wrapped_more}
use Rattle.pdl_reduce.proofs.matrices.sum_of_products.Goals as goal

pub loop-k-preserved : goal.loop-k-preserved
loop-k-preserved c =
    let k : ℕ = c.loop-k.k in
    let left : List ℤ = c.args.left.now in
    let right : List ℤ = c.args.right.now in
    let f : ℕ → ℤ = λ m. get_or left m (pos 0) *ℤ get_or right m (pos 0) in
    let fits : FitsSigned w64 c.add_scaled_to-sum.result = record { sfits = c.add_scaled_to-sum.type_inv } in
    let factor : FitsSigned w64 (get_or left k (pos 0)) = search rules in
    let number : FitsSigned w64 (get_or right k (pos 0)) = search rules in
    to_z-of_z w64 c.add_scaled_to-sum.result fits ∙ c.add_scaled_to-sum.ensures
    ∙ wrapped_more f k _ _ c.loop-k.invariant (ap₂ (λ (u v : ℤ). u *ℤ v) (to_z-of_z w64 (get_or left k (pos 0)) factor) (to_z-of_z w64 (get_or right k (pos 0)) number))
