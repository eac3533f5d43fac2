use Rattle.std.proofs.Common.{◌≤◌, ◌*◌, arith}
use Rattle.std.proofs.Math.Nat.{mul-le-mul_right}
use Rattle.pdl_reduce.proofs.sums.places_at_once.Goals as goal

pub returns-clause-left : goal.returns-clause-left
returns-clause-left c =
    let few : c.min.result * c.args.left ≤ c.rows_of_block.result * c.args.left = mul-le-mul_right c.args.left (omega (arith, c.min.ensures)) in
    omega (arith, few, c.rows_of_block.ensures.left)

pub returns-clause-right : goal.returns-clause-right
returns-clause-right c =
    let few : c.min.result * c.args.right ≤ c.rows_of_block.result * c.args.right = mul-le-mul_right c.args.right (omega (arith, c.min.ensures)) in
    omega (arith, few, c.rows_of_block.ensures.right)
