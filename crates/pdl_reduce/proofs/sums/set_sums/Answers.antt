-- One sum more.
use Rattle.std.proofs.Common.{◌≡◌, ℕ, ◌+◌, ◌-◌, ◌*◌, ℤ, pos, List, length, take, drop, get_or, arith, ap₂, ◌∙◌, length-take, length-drop}
use Rattle.std.specs.Int.{int_wrap, w64}
use Rattle.pdl_reduce.specs.Blocks.{sum_at}
use Rattle.pdl_reduce.proofs.BlockShortRows.{put_length, sums_more}
use Rattle.pdl_reduce.proofs.sums.set_sums.Goals as goal

pub loop-j-preserved : goal.loop-j-preserved
loop-j-preserved c =
    let s = c.args.sizes in
    let j : ℕ = c.loop-j.j in
    let n : ℕ = j + 1 - j in
    let sums : List ℤ = c.loop-j.sums in
    let row : List ℤ = c.set_row.new.row in
    let left : List ℤ = drop (j * c.args.left_step) c.args.left.now in
    let right : List ℤ = drop (j * c.args.right_step) c.args.right.now in
    let P : ℕ → ℤ = λ k. int_wrap w64 (sum_at s (take s.left_depth (drop (k * c.args.left_step) c.args.left.now)) (take s.right_depth (drop (k * c.args.right_step) c.args.right.now)) s.depth 0 0) in
    let long : length row ≡ n = omega (arith, length-take {A = ℤ}, length-drop {A = ℤ}) in
    let few : j * c.args.left_step + s.left_depth - j * c.args.left_step ≡ s.left_depth = omega arith in
    let many : j * c.args.right_step + s.right_depth - j * c.args.right_step ≡ s.right_depth = omega arith in
    let here : get_or row 0 (pos 0) ≡ P j =
    c.set_row.ensures 0 (omega (arith, c.requires.width)) ∙ ap₂ (λ (k m : ℕ). int_wrap w64 (sum_at s (take k left) (take m right) s.depth 0 0)) few many in
    record {
      count = put_length j n sums row (omega arith) long ∙ c.loop-j.invariant.count;
      set = sums_more P sums row j n (omega arith) (omega arith) long c.loop-j.invariant.set here;
    }
