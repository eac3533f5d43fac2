use Rattle.std.proofs.Common.{◌≡◌, sym, ap, subst, ◌∙◌}
use Rattle.pdl_buf.specs.declared.made.Made.{Made}
use Rattle.pdl_scope.specs.Assigning.{CanAssign}
use Rattle.pdl_scope.proofs.following.Values.packed.Goals as goal

pub returns-clause-can : goal.returns-clause-can
returns-clause-can g c = subst (CanAssign c.args.engine.now c.args.target) (sym (ap (λ (m : Made). m.elems) c.in_ok-kept.ensures.value)) c.requires.can

pub returns-clause-fit : goal.returns-clause-fit
returns-clause-fit g c = (
  ap (λ (m : Made). m.ty) c.in_ok-kept.ensures.value ∙ c.ty.ensures,
  ap (λ (m : Made). m.dims) c.in_ok-kept.ensures.value ∙ c.copy_dims.ensures ∙ c.dims.ensures.now,
  c.requires.steady,
)

pub returns-clause-listed : goal.returns-clause-listed
returns-clause-listed g c = ap (λ (m : Made). m.elems) c.in_ok-kept.ensures.value
