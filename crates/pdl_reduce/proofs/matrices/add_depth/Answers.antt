-- One depth more.
use Rattle.std.proofs.Common.{◌≡◌, ◌*ℤ◌, ℕ, ℤ, pos, List, get_or, arith, to_z, of_z, FitsSigned, ap₂, ◌∙◌}
use Rattle.std.proofs.lemmas.Int.{to_z-of_z}
use Rattle.std.specs.Int.{w64}
use Rattle.pdl_reduce.specs.Blocks.{left_at, right_at}
use Rattle.pdl_reduce.proofs.BlockProducts.{wrapped_more}
use Rattle.pdl_reduce.proofs.matrices.add_depth.Goals as goal

pub returns : goal.returns
returns c =
    let s = c.args.sizes in
    let i : ℕ = c.args.i in
    let k : ℕ = c.args.k in
    let left : List ℤ = c.args.left.now in
    let right : List ℤ = c.args.right.now in
    let fits : FitsSigned w64 c.left_at.result = record { sfits = c.left_at.type_inv } in
    let factor : to_z w64 (of_z w64 c.left_at.result) ≡ left_at s left i k = to_z-of_z w64 c.left_at.result fits ∙ c.left_at.ensures in
    record {
      width = omega (arith, c.requires.summed.width);
      sums = λ j h.
          let f : ℕ → ℤ = λ k. left_at s left i k *ℤ right_at s right k j in
          c.add_scaled.ensures j (omega (arith, c.requires.summed.width, h))
          ∙ wrapped_more f k (get_or c.args.row.now j (pos 0)) _ (c.requires.summed.sums j h) (ap₂ (λ (u v : ℤ). u *ℤ v) factor (c.right_at.ensures.numbers j h));
    }
