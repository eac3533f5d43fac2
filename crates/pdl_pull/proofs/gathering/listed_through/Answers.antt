use Rattle.std.proofs.Common.{◌≡◌, ℕ, List, [], ◌∷◌, ◌++◌, Option, option_and_then, ap, ap₂, sym, ◌∙◌, arith}
use Rattle.std.proofs.lemmas.List.FromFn.{map-range_with_len_more}
use Rattle.pdl_shape.specs.Triple.{Triple}
use Rattle.pdl_nodes.specs.Assigned.{entry}
use Rattle.pdl_nodes.specs.Placed.{placed_by}
use Rattle.pdl_pull.specs.Gathered.{own_at}
use Rattle.pdl_pull.proofs.gathering.listed_through.Goals as goal

pub loop-position-preserved : goal.loop-position-preserved
loop-position-preserved c =
    let through : Option ℕ → Option ℕ = option_and_then (entry (placed_by c.args.known.now c.args.triple.now)) in
    let is : c.place_through.result ≡ through (own_at c.args.layout.now c.loop-position.position) =
    c.place_through.ensures ∙ ap (λ (t : Triple). option_and_then (entry (placed_by c.args.known.now t)) c.own_at-own.result) c.of-shown.ensures ∙ ap through c.own_at-own.ensures in
    c.in_ok-push.ensures.items ∙ ap₂ (λ (ps : List (Option ℕ)) (p : Option ℕ). ps ++ p ∷ []) c.loop-position.invariant is
    ∙ sym (map-range_with_len_more (λ p. through (own_at c.args.layout.now p)) 0 c.loop-position.position c.loop-position.position (omega arith))
