-- One dimension more.
use Rattle.std.proofs.Common.{ℕ, List, None, ◌+◌, ◌∷◌, get_or, drop, ap, sym, ◌∙◌}
use Rattle.std.proofs.lemmas.List.{at_drop_more}
use Rattle.std.specs.Prelude.{Option, unwrap_or}
use Rattle.pdl_sig.specs.Resolution.{sizes_from}
use Rattle.pdl_sig.proofs.ResolutionSteps.{pushed}
use Rattle.pdl_sig.proofs.cores.named_sizes.Goals as goal

pub loop-number-preserved : goal.loop-number-preserved
loop-number-preserved c =
    let i : ℕ = c.loop-number.number in
    let one : Option ℕ = get_or c.args.fixed.now i None in
    let rest : List ℕ = sizes_from c.args.cores.now (i + 1) (drop (i + 1) c.args.fixed.now) in
    pushed c.loop-number.sizes.items _ c.unwrap_or.result _ _ rest c.in_ok-push.ensures.items
    (at_drop_more (sizes_from c.args.cores.now i) c.args.fixed.now i None c.loop-number-test.true
    ∙ ap (λ (size : ℕ). unwrap_or one size ∷ rest) (sym c.found_size-found.ensures)
    ∙ ap (λ (size : ℕ). size ∷ rest) (sym c.unwrap_or.ensures))
    c.loop-number.invariant
