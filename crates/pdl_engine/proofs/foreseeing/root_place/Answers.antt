use Rattle.std.proofs.Common.{sym, ◌∙◌, ap}
use Rattle.pdl_nodes.specs.Placed.{placed}
use Rattle.pdl_engine.proofs.PlacedByTriples.{place_is}
use Rattle.pdl_engine.proofs.foreseeing.root_place.Goals as goal

pub returns : goal.returns
returns c = c.placed.ensures ∙ ap (placed c.args.known.now) c.place.ensures.place ∙ sym (place_is c.args.known.now c.args.placement.now c.args.position c.requires)
