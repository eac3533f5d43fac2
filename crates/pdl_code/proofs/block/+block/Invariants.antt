use Rattle.std.proofs.Common.{◌≡◌, drop}
use Rattle.pdl_code.specs.TreeOf.{code_of}
use Rattle.pdl_code.specs.Resolving.{resolve_code}
use Rattle.pdl_code.proofs.TreeBlocks.{Fronts, and_code, visible}
use Rattle.pdl_code.proofs.block.+block.Given as goal

-- the code so far, and then the rest from here on, is what all give from the start; what was visible at the start still is
abbrev pub invariant-block-loop-one : goal.invariant-block-loop-one
invariant-block-loop-one l = record {
  rest : and_code (code_of l.code.items) (resolve_code l.source l.signature (visible l.locals.items l.loops) (code_of (drop l.one-index l.raw))) ≡ resolve_code l.source l.signature (visible l.fn.locals.items l.loops) (code_of l.raw);
  fronts : Fronts l.count l.fn.locals.items l.locals.items;
}
