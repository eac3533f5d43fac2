use Rattle.std.proofs.Common.{◌≡◌, [], ◌∷◌, length, Some, sym, ap, subst, ◌∙◌}
use Rattle.pdl_sig.specs.Resolution.{inputs}
use Rattle.pdl_kernel.specs.Runs.{IsNext, Run, with_next}
use Rattle.pdl_tests.proofs.ResolutionHanding.{count_is, resolved_is}
use Rattle.pdl_tests.proofs.kernel.over_one.Goals as goal

pub begun-run-requires : goal.begun-run-requires
begun-run-requires t c = record {
  shapes = c.shape_of.result ∷ [];
  resolves = resolved_is c.kernel_signature.result.now c.args.kernel.now.signature (c.shape_of.result ∷ []) c.resolve.result c.expect-resolved.result c.kernel_signature.ensures c.resolve.ensures.resolved c.expect-resolved.ensures;
}

pub hand-requires : goal.hand-requires
hand-requires t c =
    let resolves = resolved_is c.kernel_signature.result.now c.args.kernel.now.signature (c.shape_of.result ∷ []) c.resolve.result c.expect-resolved.result c.kernel_signature.ensures c.resolve.ensures.resolved c.expect-resolved.ensures in
    subst (λ (run : Run). IsNext run c.args.array.now) (sym c.begun-run.ensures)
    (record { shapes = c.shape_of.result ∷ []; resolves = resolves; next = ap Some c.shape_of.ensures })

pub finish-requires : goal.finish-requires
finish-requires t c =
    let resolves = resolved_is c.kernel_signature.result.now c.args.kernel.now.signature (c.shape_of.result ∷ []) c.resolve.result c.expect-resolved.result c.kernel_signature.ensures c.resolve.ensures.resolved c.expect-resolved.ensures in
    subst (λ (run : Run). length run.given ≡ length (inputs run.kernel.signature.args)) (sym (c.hand.ensures ∙ ap (λ (run : Run). with_next run c.args.array.now) c.begun-run.ensures))
    (count_is c.args.kernel.now.signature (c.shape_of.result ∷ []) c.expect-resolved.result resolves)
