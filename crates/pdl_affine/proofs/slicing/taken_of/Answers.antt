use Rattle.std.proofs.Common.{◌<◌, ap, sym, refl, ◌+◌, ◌∙◌, subst, get_or, drop}
use Rattle.pdl_slices.specs.declared.SliceArg.TheVariants.{Whole}
use Rattle.pdl_affine.specs.Slicing.{line_cons, lines_of}
use Rattle.pdl_affine.specs.Courses.{lines_of_taken, lines_before, AreSmall}
use Rattle.pdl_affine.proofs.SlicingLines.{size_small, after_small, arg_next, arg_taken}
use Rattle.pdl_affine.proofs.slicing.taken_of.Goals as goal

pub line_of-requires-clause-small : goal.line_of-requires-clause-small
line_of-requires-clause-small c =
    subst (λ n. n < 2147483648) (sym c.size_for-size.ensures.first) (size_small (get_or c.args.args.now c.loop-arg.arg-index Whole) c.loop-arg.rest.now c.loop-arg.invariant.small)

pub returns-in-None-clause-err : goal.returns-in-None-clause-err
returns-in-None-clause-err c = (
  refl,
  arg_next (lines_of c.args.args.now c.args.parent.now) (lines_of_taken c.loop-arg.taken.items) c.args.args.now c.loop-arg.rest.now c.size_for-size.result.1.now c.loop-arg.arg-index
      c.size_for-size.result.0 Whole c.loop-arg-test.true c.loop-arg.invariant.lines c.size_for-size.ensures.first c.size_for-size.ensures.rest
      ∙ ap (λ o. lines_before (lines_of_taken c.loop-arg.taken.items) (line_cons o (lines_of (drop (c.loop-arg.arg-index + 1) c.args.args.now) c.size_for-size.result.1.now))) (sym c.in-None.ensures),
)

pub loop-arg-preserved : goal.loop-arg-preserved
loop-arg-preserved c = record {
  lines =
      arg_taken _ c.loop-arg.taken.items c.put.new.items.items c.in-Some.line _ (lines_of (drop (c.loop-arg.arg-index + 1) c.args.args.now) c.size_for-size.result.1.now)
      (arg_next (lines_of c.args.args.now c.args.parent.now) (lines_of_taken c.loop-arg.taken.items) c.args.args.now c.loop-arg.rest.now c.size_for-size.result.1.now c.loop-arg.arg-index
      c.size_for-size.result.0 Whole c.loop-arg-test.true c.loop-arg.invariant.lines c.size_for-size.ensures.first c.size_for-size.ensures.rest)
      c.in-Some.ensures c.in_ok-put-in-Some.ensures;
  small = subst AreSmall (sym c.size_for-size.ensures.rest) (after_small (get_or c.args.args.now c.loop-arg.arg-index Whole) c.loop-arg.rest.now c.loop-arg.invariant.small);
}
