use Rattle.std.proofs.Common.{ℤ, List, ◌∙◌, ap}
use Rattle.pdl_nodes.specs.Assigned.{seen}
use Rattle.pdl_nodes.proofs.SpotsMoved.{each_is, route_is}
use Rattle.pdl_nodes.proofs.node.Node.put_through.Goals as goal

pub returns-clause-value : goal.returns-clause-value
returns-clause-value g c =
    c.put_by.ensures.value ∙ ap (λ (es : List ℤ). record c.args.self.now { kept = es }) (route_is (seen c.args.places.now) c.args.triple.now c.of-placement.result c.args.first c.args.values.now c.args.self.now.kept c.of-placement.ensures c.requires.within)

pub returns-then-are_seen-clause-value : goal.returns-then-are_seen-clause-value
returns-then-are_seen-clause-value g c =
    c.put_along.ensures.value ∙ ap (λ (es : List ℤ). record c.args.self.now { kept = es })
    (each_is (seen c.args.places.now) c.args.triple.now c.of-placement.result c.args.first c.args.values.now c.args.self.now.kept c.of-placement.ensures c.requires.within (c.are_seen.ensures c.if-are_seen.true))
