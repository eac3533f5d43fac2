-- The next position is in the same row, in the next one, or in row 0.
use Rattle.std.proofs.Common.{◌≡◌, ℕ, ◌+◌, ◌/◌, ◌%◌, ◌<◌, arith, ap, sym, ◌∙◌}
use Rattle.pdl_ops.proofs.FillCoordinates.{rest_more, rest_none, rows_more, rows_same}
use Rattle.pdl_ops.proofs.fills.next_coordinates.Goals as goal

pub returns-then-x-width-clause-y : goal.returns-then-x-width-clause-y
returns-then-x-width-clause-y c p x y =
    let inside : p % c.args.width + 1 < c.args.width = omega (arith, c.if-x-width.true, x) in
    y ∙ sym (ap (λ (n : ℕ). n % c.args.height) (rows_same p c.args.width inside))

pub returns-then-y-height-clause-y : goal.returns-then-y-height-clause-y
returns-then-y-height-clause-y c p x y =
    let some : 0 < c.args.width = omega (arith, c.requires.x) in
    let last : p % c.args.width + 1 ≡ c.args.width = omega (arith, c.if-x-width.false, c.requires.x, x) in
    let inside : p / c.args.width % c.args.height + 1 < c.args.height = omega (arith, c.if-y-height.true, y) in
    ap (λ (n : ℕ). n + 1) y ∙ sym (rest_more (p / c.args.width) c.args.height inside)
    ∙ sym (ap (λ (n : ℕ). n % c.args.height) (rows_more p c.args.width some last))

pub returns-else-y-height-clause-y : goal.returns-else-y-height-clause-y
returns-else-y-height-clause-y c p x y =
    let some : 0 < c.args.width = omega (arith, c.requires.x) in
    let last : p % c.args.width + 1 ≡ c.args.width = omega (arith, c.if-x-width.false, c.requires.x, x) in
    let end : p / c.args.width % c.args.height + 1 ≡ c.args.height = omega (arith, c.if-y-height.false, c.requires.y, y) in
    sym (rest_none (p / c.args.width) c.args.height end)
    ∙ sym (ap (λ (n : ℕ). n % c.args.height) (rows_more p c.args.width some last))
