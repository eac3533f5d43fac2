use Rattle.std.proofs.Common.{◌≡◌, ◌<◌, ◌∙◌, sym, true, false, ℕ, Option, Some, None, get_or, subst, arith}
use Rattle.std.proofs.lemmas.Bool.{not-false}
use Rattle.pdl_shape.specs.Places.{IsBelow}
use Rattle.pdl_pull.proofs.PlacedGathered.{twice_here}
use Rattle.pdl_pull.proofs.gathering.has_twice_by_bits.Goals as goal

pub returns-then-not-insert : goal.returns-then-not-insert
returns-then-not-insert c =
    let b : IsBelow c.args.count (Some c.in-Some.at) = subst (λ (o : Option ℕ). IsBelow c.args.count o) c.in-Some.is (c.requires _ None (omega arith)) in
    let l : c.in-Some.at < c.args.count = b in
    let came : get_or c.loop-position.seen c.in-Some.at false ≡ true = not-false _ (sym c.insert.ensures.new ∙ c.if-not-insert.true) in
    twice_here c.args.places.now _ c.loop-position.position c.in-Some.at (omega arith) (omega arith) c.in-Some.is (sym (c.loop-position.invariant.seen c.in-Some.at l) ∙ came)
