use Rattle.std.proofs.Common.{arith}
use Rattle.pdl_session.proofs.fill.filled.Goals as goal

pub numbers_in-requires : goal.numbers_in-requires
numbers_in-requires g c = c.typed-ty.ensures.live c.args.scope.now.arrays.world c.requires

-- a type word that stands first takes nothing
pub returns-in-Err-clause-counted : goal.returns-in-Err-clause-counted
returns-in-Err-clause-counted g c =
    let less = c.typed-ty.ensures.costs c.args.scope.now in
    omega (arith, less, c.numbers_in.ensures.counted)

pub returns-in-Err-dims_for-clause-counted : goal.returns-in-Err-dims_for-clause-counted
returns-in-Err-dims_for-clause-counted g c =
    let less = c.typed-ty.ensures.costs c.args.scope.now in
    omega (arith, less, c.numbers_in.ensures.counted)

pub returns-in-Ok-fill-clause-counted : goal.returns-in-Ok-fill-clause-counted
returns-in-Ok-fill-clause-counted g c =
    let less = c.typed-ty.ensures.costs c.args.scope.now in
    omega (arith, less, c.numbers_in.ensures.counted)

pub returns-clause-counted : goal.returns-clause-counted
returns-clause-counted g c =
    let less = c.typed-ty.ensures.costs c.args.scope.now in
    omega (arith, less, c.numbers_in.ensures.counted)
