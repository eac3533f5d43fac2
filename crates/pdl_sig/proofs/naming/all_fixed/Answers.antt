-- One word more.
use Rattle.std.proofs.Common.{◌+◌, ◌∷◌, List, ℕ, map, drop, ap, sym, ◌∙◌}
use Rattle.std.specs.Prelude.{Option}
use Rattle.pdl_sig.specs.Refusals.{fixed_in}
use Rattle.pdl_sig.proofs.ResolutionSteps.{left_at, pushed}
use Rattle.pdl_sig.proofs.naming.all_fixed.Goals as goal

pub loop-name-preserved : goal.loop-name-preserved
loop-name-preserved c =
    let f : List ℕ → Option ℕ = fixed_in c.args.args.now in
    pushed c.loop-name.found.items _ c.fixed_in.result _ _ _ c.in_ok-push.ensures.items
    (ap (map f) (left_at c.args.names.now c.loop-name.name-index c.name-item.result c.loop-name-test.true c.name-item.is)
    ∙ ap (λ x. x ∷ map f (drop (c.loop-name.name-index + 1) c.args.names.now)) (sym c.fixed_in.ensures))
    c.loop-name.invariant
