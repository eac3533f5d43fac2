-- A word that isn't among eight names is a ninth one.
use Rattle.std.proofs.Common.{◌≡◌, ◌+◌, ◌<◌, ◌≤◌, ◌∷◌, ℕ, List, false, length, drop, rules, arith, ap, sym, subst, ◌∙◌}
use Rattle.pdl_sig.specs.declared.written.WrittenDim.{WrittenDim}
use Rattle.pdl_sig.specs.Refusals.{has_name, names_after}
use Rattle.pdl_sig.proofs.RefusalNames.{past_dims}
use Rattle.pdl_sig.proofs.ResolutionSteps.{left_at}
use Rattle.pdl_sig.proofs.naming.add_names.Goals as goal

pub returns-then-len-ge-MOST_DIM_NAMES-clause-many : goal.returns-then-len-ge-MOST_DIM_NAMES-clause-many
returns-then-len-ge-MOST_DIM_NAMES-clause-many c = λ e.
    let names : List (List ℕ) = c.loop-dim.names.items in
    let dims : List WrittenDim = c.args.dims.now in
    let i : ℕ = c.loop-dim.dim-index in
    let d : WrittenDim = c.dim-item.result in
    let few : 8 ≤ length names = omega (arith, c.len.ensures, c.if-len-ge-MOST_DIM_NAMES.true) in
    let new : has_name names d.name ≡ false = search rules in
    let many : 8 < length (names_after names (d ∷ drop (i + 1) dims)) = past_dims 8 names d (drop (i + 1) dims) few new in
    subst (λ (ns : List (List ℕ)). 8 < length ns) (ap (names_after names) (sym (left_at dims i d c.loop-dim-test.true c.dim-item.is)) ∙ c.loop-dim.invariant.same) many
