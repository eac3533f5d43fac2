use Rattle.std.proofs.Common.{ℕ, List, Option, option_and_then, map, ap, sym, subst, ◌∙◌}
use Rattle.std.specs.List.{range_with_len}
use Rattle.std.proofs.lemmas.Result.{IfOk-weaker}
use Rattle.pdl_shape.specs.Places.{IsBelow}
use Rattle.pdl_nodes.specs.declared.origin.Layout.{Layout}
use Rattle.pdl_nodes.specs.Assigned.{entry}
use Rattle.pdl_nodes.specs.Placed.{placed_by}
use Rattle.pdl_pull.specs.Gathered.{own_at}
use Rattle.pdl_pull.proofs.gathering.places_through.Goals as goal

pub picks_places-requires-clause-within : goal.picks_places-requires-clause-within
picks_places-requires-clause-within c = λ p l.
    subst (λ (o : Option ℕ). IsBelow c.args.size o) (ap (λ (y : Layout). own_at y p) c.in-Choice.is ∙ ap (λ (ps : List (Option ℕ)). entry ps p) (sym c.as_slice-own.ensures))
    (c.requires.within p l)

pub returns-then-picks_places : goal.returns-then-picks_places
returns-then-picks_places c =
    let own : List (Option ℕ) = c.as_slice-own.result.now in
    let F : (ℕ → Option ℕ) → List (Option ℕ) = λ at. map (λ p. option_and_then (entry (placed_by c.args.known.now c.args.triple.now)) (at p)) (range_with_len 0 c.args.count) in
    IfOk-weaker c.share.result _ _ (λ places e. e
    ∙ sym c.as_slice-own.ensures
    ∙ c.picks_places.ensures c.if-picks_places.true
    ∙ ap (λ (ps : List (Option ℕ)). F (entry ps)) c.as_slice-own.ensures
    ∙ ap (λ (l : Layout). F (own_at l)) (sym c.in-Choice.is)) c.share.ensures
