use Rattle.std.proofs.Common.{◌≡◌, ℕ, ℤ, List, Option, arith, sym, ◌∙◌, ap, subst}
use Rattle.std.specs.Prelude.{IfOk}
use Rattle.pdl_nodes.specs.Placed.{placed_by}
use Rattle.pdl_engine.specs.Foresights.{elements_after}
use Rattle.pdl_engine.specs.declared.by_place.Written.{Written}
use Rattle.pdl_engine.proofs.ForesightImages.{image_shows}
use Rattle.pdl_engine.proofs.foreseeing.elements_left.Goals as goal

pub returns-in-Image : goal.returns-in-Image
returns-in-Image c =
    let ps : List (Option ℕ) = placed_by c.args.known.now c.args.triple.now in
    subst (λ (es : List ℤ). IfOk c.from_slice.result (λ ns. ns.items ≡ es))
    (c.deref.ensures.value
    ∙ sym (image_shows c.in-Image.image ps c.args.before.now (c.requires.whole c.if-is_root.true) (omega (arith, c.len.ensures, c.if-len-before.true)))
    ∙ sym (ap (λ (w : Written). elements_after w ps c.args.before.now) c.in-Image.is))
    c.from_slice.ensures.items
