use Rattle.std.proofs.Common.{◌≡◌, sym, ◌∙◌, ap, arith}
use Rattle.pdl_nodes.specs.Holds.{count, count_in}
use Rattle.pdl_nodes.proofs.holds.Holds.take.Goals as goal

pub change-requires : goal.change-requires
change-requires c x e m f =
    let k : count c.args.self.now c.args.id ≡ x.count = ap (λ l. count l c.args.id) (sym c.self.view_is) ∙ ap count_in e in
    omega (arith, k, c.requires)
