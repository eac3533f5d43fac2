use Rattle.std.proofs.Common.{sym, ap, ◌∙◌, Ok}
use Rattle.pdl_code.specs.TreeOf.{indices_of}
use Rattle.pdl_code.proofs.TreeTurns.{marked_loop}
use Rattle.pdl_code.proofs.resolve.with_loop.Goals as goal

pub returns-then-is_marked : goal.returns-then-is_marked
returns-then-is_marked c = ap Ok (marked_loop (indices_of c.args.found.items) c.args.given.now c.args.k c.args.d (sym c.is_marked.ensures ∙ c.if-is_marked.true))
