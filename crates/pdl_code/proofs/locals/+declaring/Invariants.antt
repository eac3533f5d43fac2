use Rattle.std.proofs.Common.{◌≡◌, drop}
use Rattle.pdl_code.specs.Declaring.{declared_code}
use Rattle.pdl_code.specs.TreeOf.{code_of}
use Rattle.pdl_code.specs.Scope.{no_flags}
use Rattle.pdl_code.proofs.TreeBlocks.{Fronts, visible}
use Rattle.pdl_code.proofs.DeclaringLemmas.{and_most}
use Rattle.pdl_code.proofs.locals.+declaring.Given as goal

-- the most so far, and then in the rest from here on, is the most of all from the start; what was visible at the start still is
abbrev pub invariant-code_locals-loop-one : goal.invariant-code_locals-loop-one
invariant-code_locals-loop-one l = record {
  rest : and_most l.most (declared_code l.source l.signature (visible l.locals.items no_flags) (code_of (drop l.one-index l.raw))) ≡ declared_code l.source l.signature (visible l.fn.locals.items no_flags) (code_of l.raw);
  fronts : Fronts l.count l.fn.locals.items l.locals.items;
}
