use Rattle.std.proofs.Common.{Some, ℤ, List, ◌∙◌, ap}
use Rattle.pdl_shape.specs.Shape.{size_of}
use Rattle.pdl_nodes.proofs.SpotsMoved.{from_is}
use Rattle.pdl_nodes.proofs.node.Node.put_in_order.Goals as goal

pub returns-clause-value : goal.returns-clause-value
returns-clause-value g c = c.put_from.ensures.value ∙ ap (λ (es : List ℤ). record c.args.self.now { kept = es }) (from_is Some (size_of c.args.self.now.triple.dims) c.args.first c.args.values.now c.args.self.now.kept c.requires.within)
