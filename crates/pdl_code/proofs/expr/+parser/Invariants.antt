-- Each call goes down in the fuel, or with the same fuel in the rank of its part.
use Rattle.std.proofs.Common.{◌≡◌, suc, ◌+◌, ◌-◌, ◌*◌, length}
use Rattle.pdl_code.specs.Tree.{RawTree, RawIndices}
use Rattle.pdl_code.specs.TreeOf.{tree_of, indices_of}
use Rattle.pdl_code.specs.CodeReading.{Read, before, reader, level_at, chain_at, limit_of, indices_at}
use Rattle.pdl_code.proofs.expr.+parser.Given as goal

-- what is left to read gives the same as what stood there at the start
pub record Turns (A : Type 0) (now start : Read A) : Type 0 where
  pub same : now ≡ start

abbrev pub decreases-expression : goal.decreases-expression
decreases-expression l = 32 * l.fuel

abbrev pub decreases-operand : goal.decreases-operand
decreases-operand l = 32 * l.fuel

abbrev pub decreases-index : goal.decreases-index
decreases-index l = 32 * l.fuel + 1

abbrev pub decreases-indices : goal.decreases-indices
decreases-indices l = 32 * l.fuel + 2

abbrev pub decreases-given : goal.decreases-given
decreases-given l = 32 * l.fuel + 3

abbrev pub decreases-access : goal.decreases-access
decreases-access l = 32 * l.fuel + 4

abbrev pub decreases-named : goal.decreases-named
decreases-named l = 32 * l.fuel + 5

abbrev pub decreases-round : goal.decreases-round
decreases-round l = 32 * l.fuel + 5

abbrev pub decreases-primary : goal.decreases-primary
decreases-primary l = 32 * l.fuel + 6

abbrev pub decreases-unary : goal.decreases-unary
decreases-unary l = 32 * l.fuel + 7

abbrev pub decreases-level_expr : goal.decreases-level_expr
decreases-level_expr l = 32 * l.fuel + 8 + 2 * l.level

abbrev pub decreases-chain : goal.decreases-chain
decreases-chain l = 32 * l.fuel + 9 + 2 * l.below

abbrev pub invariant-chain-loop : goal.invariant-chain-loop
invariant-chain-loop l =
    let inner = level_at (reader l.fuel) l.below in
    Turns RawTree (chain_at inner (suc l.below) (l.end - l.counter) (tree_of l.left) l.rest)
    (chain_at inner (suc l.below) (limit_of (suc l.below) l.tokens) (tree_of l.fn.first) l.tokens)

abbrev pub invariant-indices-loop : goal.invariant-indices-loop
invariant-indices-loop l =
    let f = reader l.fuel in
    Turns RawIndices (before (indices_of l.found.items) (indices_at f (l.end - l.counter) l.rest)) (indices_at f (length l.tokens) l.tokens)
