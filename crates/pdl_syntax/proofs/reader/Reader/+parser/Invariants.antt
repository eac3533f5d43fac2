-- Each call goes down in the fuel, or with the same fuel in the rank of its part.
use Rattle.std.proofs.Common.{◌≡◌, suc, ◌+◌, ◌-◌, ◌*◌, length}
use Rattle.pdl_syntax.specs.Tree.{Tree, Args, none}
use Rattle.pdl_syntax.specs.TreeOf.{tree_of, args_of}
use Rattle.pdl_syntax.specs.ExpressionReading.{reader, level_at, grown_at, chain_at, limit_of, methods_at, more_at}
use Rattle.pdl_lexemes.specs.Peeks.{Read}
use Rattle.pdl_syntax.proofs.ExpressionReadingClimbing.{climb_at}
use Rattle.pdl_syntax.proofs.reader.Reader.+parser.Given as goal

-- what is left to read gives the same as what stood there at the start
pub record Turns (A : Type 0) (now start : Read A) : Type 0 where
  pub same : now ≡ start

abbrev pub decreases-expression : goal.decreases-expression
decreases-expression l = 64 * l.self.now.fuel

abbrev pub decreases-operand : goal.decreases-operand
decreases-operand l = 64 * l.self.now.fuel

abbrev pub decreases-arg : goal.decreases-arg
decreases-arg l = 64 * l.self.now.fuel + 1

abbrev pub decreases-more_args : goal.decreases-more_args
decreases-more_args l = 64 * l.self.now.fuel + 2

abbrev pub decreases-closed_args : goal.decreases-closed_args
decreases-closed_args l = 64 * l.self.now.fuel + 3

abbrev pub decreases-maybe_args : goal.decreases-maybe_args
decreases-maybe_args l = 64 * l.self.now.fuel + 4

abbrev pub decreases-call : goal.decreases-call
decreases-call l = 64 * l.self.now.fuel + 4

abbrev pub decreases-round : goal.decreases-round
decreases-round l = 64 * l.self.now.fuel + 4

abbrev pub decreases-primary : goal.decreases-primary
decreases-primary l = 64 * l.self.now.fuel + 5

abbrev pub decreases-methods : goal.decreases-methods
decreases-methods l = 64 * l.self.now.fuel + 5

abbrev pub decreases-postfix : goal.decreases-postfix
decreases-postfix l = 64 * l.self.now.fuel + 6

abbrev pub decreases-unary : goal.decreases-unary
decreases-unary l = 64 * l.self.now.fuel + 7

abbrev pub decreases-level_expr : goal.decreases-level_expr
decreases-level_expr l = 64 * l.self.now.fuel + 8 + 4 * l.level

abbrev pub decreases-grown : goal.decreases-grown
decreases-grown l = 64 * l.self.now.fuel + 7 + 4 * l.level

abbrev pub decreases-chain : goal.decreases-chain
decreases-chain l = 64 * l.self.now.fuel + 9 + 4 * l.below

abbrev pub invariant-chain-loop : goal.invariant-chain-loop
invariant-chain-loop l =
    let inner = level_at l.self.source.now (reader l.self.source.now l.self.fuel) l.below in
    Turns Tree (chain_at inner (suc l.below) (l.end - l.counter) (tree_of l.left) l.rest)
    (chain_at inner (suc l.below) (limit_of (suc l.below) l.tokens) (tree_of l.fn.first) l.tokens)

abbrev pub decreases-grown-loop-next : goal.decreases-grown-loop-next
decreases-grown-loop-next l = l.level - l.below

abbrev pub invariant-grown-loop-next : goal.invariant-grown-loop-next
invariant-grown-loop-next l =
    let f = reader l.self.source.now l.self.fuel in
    Turns Tree (climb_at l.self.source.now f (l.level - l.below) l.below (tree_of l.left) l.rest)
    (grown_at l.self.source.now f l.level (tree_of l.fn.first) l.tokens)

abbrev pub invariant-methods-loop : goal.invariant-methods-loop
invariant-methods-loop l =
    let f = reader l.self.source.now l.self.fuel in
    Turns Tree (methods_at l.self.source.now f (l.end - l.counter) (tree_of l.value) l.rest)
    (methods_at l.self.source.now f (length l.tokens) (tree_of l.fn.first) l.tokens)

abbrev pub invariant-more_args-loop : goal.invariant-more_args-loop
invariant-more_args-loop l =
    let f = reader l.self.source.now l.self.fuel in
    Turns Args (more_at l.self.source.now f (l.end - l.counter) (args_of l.args.items none) l.rest)
    (more_at l.self.source.now f (length l.tokens) (args_of l.fn.front.items none) l.tokens)
