use Rattle.std.proofs.Common.{ap, sym, ◌∙◌, ◌++◌, ◌∷◌, [], get_or, pos}
use Rattle.pdl_affine.specs.Slicing.{line_sizes}
use Rattle.pdl_affine.specs.Courses.{lines_of_taken}
use Rattle.pdl_affine.specs.declared.forms.Taken.TheVariants.{Kept}
use Rattle.pdl_affine.proofs.ViewSizes.{sizes_next}
use Rattle.pdl_affine.proofs.sizing.slice.Goals as goal

pub loop-line-preserved : goal.loop-line-preserved
loop-line-preserved c =
    c.in_ok-put_line.ensures ∙ ap (λ r. r ++ line_sizes (lines_of_taken (get_or c.args.taken.now c.loop-line.line-index (Kept 0 (pos 0) 0) ∷ []))) c.loop-line.invariant
    ∙ sym (sizes_next c.args.taken.now c.loop-line.line-index (Kept 0 (pos 0) 0) c.loop-line-test.true)
