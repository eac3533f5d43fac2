-- Four depths more.
use Rattle.std.proofs.Common.{◌*ℤ◌, ℕ, ℤ, pos, List, get_or, arith, FitsSigned, ap₂, ◌∙◌}
use Rattle.std.proofs.lemmas.Int.{to_z-of_z}
use Rattle.std.specs.Int.{w64}
use Rattle.pdl_reduce.specs.Blocks.{left_at, right_at}
use Rattle.pdl_reduce.proofs.BlockProducts.{wrapped_four_more}
use Rattle.pdl_reduce.proofs.matrices.add_four_depths.Goals as goal

pub returns : goal.returns
returns c =
    let s = c.args.sizes in
    let i : ℕ = c.args.i in
    let k : ℕ = c.args.k in
    let left : List ℤ = c.args.left.now in
    let right : List ℤ = c.args.right.now in
    let first : FitsSigned w64 c.left_at-first.result = record { sfits = c.left_at-first.type_inv } in
    let second : FitsSigned w64 c.left_at-second.result = record { sfits = c.left_at-second.type_inv } in
    let third : FitsSigned w64 c.left_at-third.result = record { sfits = c.left_at-third.type_inv } in
    let fourth : FitsSigned w64 c.left_at-fourth.result = record { sfits = c.left_at-fourth.type_inv } in
    record {
      width = omega (arith, c.requires.summed.width);
      sums = λ j h.
          let f : ℕ → ℤ = λ k. left_at s left i k *ℤ right_at s right k j in
          c.add_four_scaled.ensures j (omega (arith, c.requires.summed.width, h))
          ∙ wrapped_four_more f k (get_or c.args.row.now j (pos 0)) _ _ _ _ (c.requires.summed.sums j h)
          (ap₂ (λ (u v : ℤ). u *ℤ v) (to_z-of_z w64 c.left_at-first.result first ∙ c.left_at-first.ensures) (c.right_at-a.ensures.numbers j h))
          (ap₂ (λ (u v : ℤ). u *ℤ v) (to_z-of_z w64 c.left_at-second.result second ∙ c.left_at-second.ensures) (c.right_at-b.ensures.numbers j h))
          (ap₂ (λ (u v : ℤ). u *ℤ v) (to_z-of_z w64 c.left_at-third.result third ∙ c.left_at-third.ensures) (c.right_at-c.ensures.numbers j h))
          (ap₂ (λ (u v : ℤ). u *ℤ v) (to_z-of_z w64 c.left_at-fourth.result fourth ∙ c.left_at-fourth.ensures) (c.right_at-d.ensures.numbers j h));
    }
