-- Over a root that is shown place by place, the places that are picked are the root's.
use Rattle.std.proofs.Common.{ℕ, arith, sym, subst, ◌∙◌}
use Rattle.std.specs.Prelude.{None}
use Rattle.std.proofs.lemmas.List.Elements.{All-from_get_or}
use Rattle.pdl_shape.specs.Places.{AllBelow, IsBelow}
use Rattle.pdl_pull.proofs.PlacedGathered.{picked}
use Rattle.pdl_pull.proofs.gathering.picks_places.Goals as goal

pub returns : goal.returns
returns c = λ t.
    picked c.args.known.now c.args.triple.now c.args.own.now c.args.count (sym c.is_some.ensures ∙ c.if-is_some.false) (omega arith) (c.shows_identity.ensures t)
    (subst (λ (n : ℕ). AllBelow n c.args.own.now) c.requires.shown (All-from_get_or (IsBelow c.args.size) c.args.own.now None (λ k h. c.requires.within k (omega arith))))
