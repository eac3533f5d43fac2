use Rattle.std.proofs.Common.{ℕ, List, Option, drop, map, sym, ◌∙◌, ap}
use Rattle.pdl_shape.specs.Places.{write}
use Rattle.pdl_nodes.specs.Assigned.{seen}
use Rattle.pdl_nodes.specs.Placed.{goes_by, placed_by}
use Rattle.pdl_nodes.specs.Spots.{spots}
use Rattle.pdl_nodes.specs.declared.node.Goal.{Goal}
use Rattle.pdl_nodes.specs.declared.node.Goal.TheVariants.{Base}
use Rattle.pdl_nodes.proofs.node.Node.put.Goals as goal

pub returns-in-Root-clause-value : goal.returns-in-Root-clause-value
returns-in-Root-clause-value g c =
    c.put_over.ensures.value
    ∙ ap (λ (x : Goal). record c.args.self.now { kept = write (drop c.args.first (goes_by x c.args.known.now c.args.triple.now)) c.args.values.now c.args.self.now.kept }) (sym c.in-Root.is)

pub returns-in-None-clause-value : goal.returns-in-None-clause-value
returns-in-None-clause-value g c =
    c.put_over-in-None.ensures.value
    ∙ ap (λ (o : Option (List (Option ℕ))). record c.args.self.now { kept = write (drop c.args.first (placed_by o c.args.triple.now)) c.args.values.now c.args.self.now.kept }) c.in-None.is
    ∙ ap (λ (o : Option (List (Option ℕ))). record c.args.self.now { kept = write (drop c.args.first (goes_by Base o c.args.triple.now)) c.args.values.now c.args.self.now.kept }) (sym c.in-None.is)
    ∙ ap (λ (x : Goal). record c.args.self.now { kept = write (drop c.args.first (goes_by x c.args.known.now c.args.triple.now)) c.args.values.now c.args.self.now.kept }) (sym c.in-Base.is)

pub returns-in-Some-clause-value : goal.returns-in-Some-clause-value
returns-in-Some-clause-value g c =
    c.put_through.ensures.value
    ∙ ap (λ (ps : List (Option ℕ)). record c.args.self.now { kept = write (drop c.args.first (map (seen ps) (spots c.args.triple.now))) c.args.values.now c.args.self.now.kept }) c.as_slice-places.ensures
    ∙ ap (λ (o : Option (List (Option ℕ))). record c.args.self.now { kept = write (drop c.args.first (goes_by Base o c.args.triple.now)) c.args.values.now c.args.self.now.kept }) (sym c.in-Some.is)
    ∙ ap (λ (x : Goal). record c.args.self.now { kept = write (drop c.args.first (goes_by x c.args.known.now c.args.triple.now)) c.args.values.now c.args.self.now.kept }) (sym c.in-Base.is)
