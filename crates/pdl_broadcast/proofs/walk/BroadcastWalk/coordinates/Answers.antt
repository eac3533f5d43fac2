use Rattle.std.proofs.Common.{ap, sym, ◌∙◌}
use Rattle.pdl_broadcast.specs.Walk.{standing_at}
use Rattle.pdl_broadcast.proofs.WalkLemmas.{going_on, standing_is}
use Rattle.pdl_broadcast.proofs.walk.BroadcastWalk.coordinates.Goals as goal

pub returns : goal.returns
returns c =
    let going = going_on c.self.inside _ c.self.view_is c.requires in
    c.as_slice.ensures.value ∙ sym (standing_is c.shape_laws.ensures.positions c.self.inside c.self.invariant going)
    ∙ ap standing_at c.self.view_is
