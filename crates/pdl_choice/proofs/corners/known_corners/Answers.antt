-- The starts of the windows are those of a corner's numbers.
use Rattle.std.proofs.Common.{◌∙◌, ◌*◌, ◌≤◌, ◌<◌, ℕ, List, All, ap, arith, get_or, length, subst, sym}
use Rattle.std.proofs.lemmas.List.{with_items_is}
use Rattle.std.proofs.lemmas.List.Elements.{All-replicate}
use Rattle.pdl_shape.specs.Shape.{extent_limit}
use Rattle.pdl_choice.specs.Rounds.{AreCorners, window_starts}
use Rattle.pdl_choice.proofs.InsidePlaces.{length-window_starts, window_start-below}
use Rattle.pdl_choice.proofs.corners.known_corners.Goals as goal

pub place_corners-requires-clause-fit : goal.place_corners-requires-clause-fit
place_corners-requires-clause-fit c =
    omega (arith, ap length (c.deref.ensures.value ∙ c.in_ok-starts.ensures), length-window_starts c.args.parent.now c.args.windows.now, c.requires.fit)

pub place_corners-requires-clause-below : goal.place_corners-requires-clause-below
place_corners-requires-clause-below c =
    subst (λ (starts : List ℕ). (j : ℕ) → j < length starts → get_or starts j 0 ≤ get_or c.args.parent.now j 0) (sym (c.deref.ensures.value ∙ c.in_ok-starts.ensures)) (window_start-below c.args.parent.now c.args.windows.now)

pub place_corners-requires-clause-whole : goal.place_corners-requires-clause-whole
place_corners-requires-clause-whole c =
    c.requires.whole ∙ ap (λ n. n * c.args.corners) (sym (ap length (c.deref.ensures.value ∙ c.in_ok-starts.ensures) ∙ length-window_starts c.args.parent.now c.args.windows.now))

pub place_corners-requires-clause-small : goal.place_corners-requires-clause-small
place_corners-requires-clause-small c =
    subst (All (λ (base : ℕ). base ≤ extent_limit)) (sym (c.deref_mut.ensures.value ∙ c.in_ok-bases.ensures.items_if_clones_equal (λ y e. e))) (All-replicate (λ (base : ℕ). base ≤ extent_limit) c.args.corners 0 (omega arith))

pub returns-in-Some-clause-known : goal.returns-in-Some-clause-known
returns-in-Some-clause-known c =
    let bases = with_items_is c.in_ok-bases.bases c.place_corners.new.bases (c.place_corners.auto.bases ∙ c.deref_mut.ensures.len) in
    let known = rw c.in-Some.is at c.in_ok-few.ensures in
    subst (λ (bs : List ℕ). AreCorners c.args.parent.now (window_starts c.args.parent.now c.args.windows.now) c.args.ind.now bs c.in-Some.beyond.items) (sym bases)
    (subst (λ (starts : List ℕ). AreCorners c.args.parent.now starts c.args.ind.now c.place_corners.new.bases c.in-Some.beyond.items) (c.deref.ensures.value ∙ c.in_ok-starts.ensures) known)
