-- The product of what the arguments stand for is within its bounds.
use Rattle.std.proofs.Common.{◌≡◌, ◌≤◌, ◌<◌, ℤ, pos, negsuc, ◌*ℤ◌, unsigned_abs, arith, sym, subst, ap₂, ◌∙◌, mul-le-mul, to_z, of_z, w32, w64}
use mir.Syntax.{w128}
use mir.Val.{SFits}
use Rattle.std.proofs.lemmas.Int.{fits_signed_from_abs, to_z-of_z, unsigned_abs-mul}
use Rattle.pdl_affine.proofs.composing.times.Goals as goal

small : (z : ℤ) → SFits w32 z → unsigned_abs z ≤ 2147483648
small (pos n) f = omega (arith, f.sfits)
small (negsuc n) f = omega (arith, f.sfits)

product_small : (a b : ℤ) → SFits w32 a → unsigned_abs b < 4294967296 → unsigned_abs (a *ℤ b) ≤ 9223372036854775808
product_small a b f lt = let most : unsigned_abs b ≤ 4294967296 = omega (arith, lt) in omega (arith, unsigned_abs-mul a b, mul-le-mul (small a f) most)

are_arguments : (c : goal.After-from-2) → to_z w128 (of_z w128 c.from.result) *ℤ to_z w128 (of_z w128 c.from-2.result) ≡ c.args.inc *ℤ c.args.count
are_arguments c =
    ap₂ (λ a b. a *ℤ b)
    (to_z-of_z w128 _ (record { sfits = c.from.type_inv }) ∙ c.from.ensures ∙ to_z-of_z w32 _ c.ranges.inc)
    (to_z-of_z w128 _ (record { sfits = c.from-2.type_inv }) ∙ c.from-2.ensures ∙ to_z-of_z w64 _ c.ranges.count)

fits : (c : goal.After-from-2) → SFits w128 (to_z w128 (of_z w128 c.from.result) *ℤ to_z w128 (of_z w128 c.from-2.result))
fits c = subst (SFits w128) (sym (are_arguments c)) (fits_signed_from_abs w128 _ (omega (arith, product_small c.args.inc c.args.count c.ranges.inc c.requires)))

pub overflow_mul-result : goal.overflow_mul-result
overflow_mul-result c = fits c

pub returns-clause-value : goal.returns-clause-value
returns-clause-value c = to_z-of_z w128 _ (fits c) ∙ are_arguments c

pub returns-clause-small : goal.returns-clause-small
returns-clause-small c =
    subst (λ z. unsigned_abs z ≤ 9223372036854775808) (sym (to_z-of_z w128 _ (fits c) ∙ are_arguments c)) (product_small c.args.inc c.args.count c.ranges.inc c.requires)
