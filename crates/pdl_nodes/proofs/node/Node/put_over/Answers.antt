use Rattle.std.proofs.Common.{ℕ, ℤ, List, Option, None, drop, map, sym, ◌∙◌, ap}
use Rattle.pdl_shape.specs.Places.{write}
use Rattle.pdl_nodes.specs.Assigned.{entry}
use Rattle.pdl_nodes.specs.Placed.{placed, placed_by}
use Rattle.pdl_nodes.specs.Spots.{spots}
use Rattle.pdl_nodes.proofs.SpotsMoved.{route_is}
use Rattle.pdl_nodes.proofs.node.Node.put_over.Goals as goal

pub returns-in-None-clause-value : goal.returns-in-None-clause-value
returns-in-None-clause-value g c =
    c.put_along.ensures.value
    ∙ ap (λ (es : List ℤ). record c.args.self.now { kept = es }) (route_is (placed None) c.args.triple.now c.of-placement.result c.args.first c.args.values.now c.args.self.now.kept c.of-placement.ensures c.requires.within)
    ∙ ap (λ (o : Option (List (Option ℕ))). record c.args.self.now { kept = write (drop c.args.first (placed_by o c.args.triple.now)) c.args.values.now c.args.self.now.kept }) (sym c.in-None.is)

pub returns-in-Some-clause-value : goal.returns-in-Some-clause-value
returns-in-Some-clause-value g c =
    c.put_by.ensures.value
    ∙ ap (λ (es : List ℤ). record c.args.self.now { kept = es }) (route_is (entry c.as_slice-places.result.now) c.args.triple.now c.of-placement.result c.args.first c.args.values.now c.args.self.now.kept c.of-placement.ensures c.requires.within)
    ∙ ap (λ (ps : List (Option ℕ)). record c.args.self.now { kept = write (drop c.args.first (map (entry ps) (spots c.args.triple.now))) c.args.values.now c.args.self.now.kept }) c.as_slice-places.ensures
    ∙ ap (λ (o : Option (List (Option ℕ))). record c.args.self.now { kept = write (drop c.args.first (placed_by o c.args.triple.now)) c.args.values.now c.args.self.now.kept }) (sym c.in-Some.is)
