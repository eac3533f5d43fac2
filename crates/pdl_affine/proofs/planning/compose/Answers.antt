use Rattle.std.proofs.Common.{◌≡◌, ◌∙◌, ap, sym, subst}
use Rattle.pdl_shape.specs.Triple.{whole_triple}
use Rattle.pdl_affine.specs.Courses.{seen_form, IsSound}
use Rattle.pdl_affine.proofs.ViewClumps.{whole_shown}
use Rattle.pdl_affine.proofs.ViewForms.{resolved_sound}
use Rattle.pdl_affine.proofs.planning.compose.Goals as goal

pub window-requires-clause-sound : goal.window-requires-clause-sound
window-requires-clause-sound c =
    let same : c.plan.inside.parent ≡ c.args.over.now.dims = ap (λ p. p.parent) c.plan.view_is ∙ sym c.requires in
    subst (IsSound (seen_form c.plan.inside.form)) same (resolved_sound c.plan.inside.trans c.plan.inside.parent (seen_form c.plan.inside.form) c.plan.invariant.resolves)

pub returns-clause-in_order : goal.returns-clause-in_order
returns-clause-in_order c = λ whole. whole_shown (seen_form c.plan.inside.form) c.args.over.now c.window.result (whole ∙ ap whole_triple (sym c.requires)) c.window.ensures.window
