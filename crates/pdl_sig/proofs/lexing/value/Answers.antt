use Rattle.std.proofs.Common.{◌+◌, rules, refl, arith}
use Rattle.pdl_shape.specs.Shape.{extent_limit}
use Rattle.pdl_sig.proofs.GrammarFronts.{value_more}
use Rattle.pdl_sig.proofs.lexing.value.Goals as goal

pub loop-digit-preserved : goal.loop-digit-preserved
loop-digit-preserved c =
    let l = c.loop-digit in
    record {
      bound = omega (arith, c.min-value.ensures);
      cut = value_more l.value c.min-value.result (extent_limit + 1) c.args.digits.now l.digit-index _ _ c.loop-digit-test.true refl (search (rules)) l.invariant.cut;
    }
