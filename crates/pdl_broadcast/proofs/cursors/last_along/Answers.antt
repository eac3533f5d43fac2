use Rattle.std.proofs.Common.{◌≡◌, ◌-◌, pos, get_or, ap, sym, ◌∙◌, arith}
use Rattle.std.proofs.lemmas.Int.{to_z_pos, fits_signed_from_abs}
use Rattle.std.proofs.lemmas.List.{get_or_default, get_or_past}
use Rattle.std.proofs.Common.{w32}
use Rattle.pdl_broadcast.proofs.CursorJumps.{size_small}
use Rattle.pdl_broadcast.proofs.cursors.last_along.Goals as goal
use Rattle.pdl_broadcast.proofs.cursors.last_along.Goals.{After-saturating_sub, then-dimension-sizes, else-dimension-sizes}

-- the size along the dimension, or 1
size_is : (c : After-saturating_sub) → c.if-dimension-sizes.size ≡ get_or c.args.sizes.now c.args.dimension 1
size_is c = elim c.if-dimension-sizes.branch [
  | then-dimension-sizes w ↦ w.size-is ∙ get_or_default _ _ _ _ w.if-dimension-sizes.true
  | else-dimension-sizes w ↦ w.size-is ∙ sym (get_or_past _ _ _ w.if-dimension-sizes.false)
]

pub overflow_cast-result : goal.overflow_cast-result
overflow_cast-result c = fits_signed_from_abs w32 (pos c.saturating_sub.result) (omega (arith, c.saturating_sub.ensures, size_is c, size_small c.shape_laws.ensures.sizes c.args.sizes.now c.args.dimension, c.requires))

pub returns : goal.returns
returns c = to_z_pos w32 c.saturating_sub.result (omega (arith, c.saturating_sub.ensures, size_is c, size_small c.shape_laws.ensures.sizes c.args.sizes.now c.args.dimension, c.requires)) ∙ ap pos (c.saturating_sub.ensures ∙ ap (λ n. n - 1) (size_is c))
