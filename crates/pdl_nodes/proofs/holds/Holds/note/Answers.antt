use Rattle.std.proofs.Common.{◌≡◌, sym, ◌∙◌, ap, arith}
use Rattle.pdl_nodes.specs.Holds.{going, going_in}
use Rattle.pdl_nodes.proofs.holds.Holds.note.Goals as goal

pub change-requires : goal.change-requires
change-requires c x e m f =
    let k : going c.args.self.now c.args.id ≡ x.going = ap (λ l. going l c.args.id) (sym c.self.view_is) ∙ ap going_in e in
    omega (arith, k, c.requires, c.ranges.views.fits)
