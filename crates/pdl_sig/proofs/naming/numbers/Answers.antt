-- One dimension more.
use Rattle.std.proofs.Common.{ℕ, ◌+◌, ◌∷◌, map, drop, ap, sym, ◌∙◌}
use Rattle.pdl_sig.specs.declared.written.WrittenDim.{WrittenDim}
use Rattle.pdl_sig.specs.Refusals.{number_of}
use Rattle.pdl_sig.proofs.ResolutionSteps.{left_at, pushed}
use Rattle.pdl_sig.proofs.naming.numbers.Goals as goal

pub loop-dim-preserved : goal.loop-dim-preserved
loop-dim-preserved c =
    let f : WrittenDim → ℕ = λ d. number_of c.args.names.now d.name in
    let i : ℕ = c.loop-dim.dim-index in
    pushed c.loop-dim.found.items _ c.number_of.result _ _ _ c.in_ok-push.ensures.items
    (ap (map f) (left_at c.args.dims.now i c.dim-item.result c.loop-dim-test.true c.dim-item.is)
    ∙ ap (λ (n : ℕ). n ∷ map f (drop (i + 1) c.args.dims.now)) (sym c.number_of.ensures.number))
    c.loop-dim.invariant
