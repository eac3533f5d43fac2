-- To wrap at 64 bits changes nothing of that either.
use Rattle.std.proofs.Common.{◌+ℤ◌, sym, ◌∙◌}
use Rattle.pdl_elem.specs.Numbers.{wrapped}
use Rattle.pdl_reduce.proofs.folds.AddingFolding.wraps_late.Goals as goal

pub returns : goal.returns
returns c = λ yes t a x.
    c.wrapping_laws.ensures.late t (wrapped t a +ℤ x) ∙ c.congruence_laws.ensures.sum t a x ∙ sym (c.wrapping_laws.ensures.late t (a +ℤ x))
