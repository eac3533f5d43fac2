use Rattle.std.proofs.Common.{◌≡◌, ◌∙◌, ℤ, List, length, sym, ap, subst}
use Rattle.std.specs.Prelude.{IfOk}
use Rattle.pdl_buf.specs.declared.made.Made.{Made}
use Rattle.pdl_engine.specs.Foresights.{Foretells}
use Rattle.pdl_scope.specs.Plans.{listed}
use Rattle.pdl_scope.proofs.following.Values.foretell.Goals as goal

pub foretell-requires-clause-count : goal.foretell-requires-clause-count
foretell-requires-clause-count c =
    ap length (c.deref.ensures.value ∙ c.in_ok-values-in-Kept.ensures.items ∙ ap (λ (m : Made). m.elems) c.whole.ensures ∙ ap listed (sym c.in-Kept.is)) ∙ c.requires.count

pub returns-in_ok-values-in-Kept : goal.returns-in_ok-values-in-Kept
returns-in_ok-values-in-Kept c =
    let same : c.deref.result.now ≡ listed c.args.self.now = c.deref.ensures.value ∙ c.in_ok-values-in-Kept.ensures.items ∙ ap (λ (m : Made). m.elems) c.whole.ensures ∙ ap listed (sym c.in-Kept.is) in
    subst (λ (vs : List ℤ). IfOk c.foretell.result (Foretells c.args.engine.now.world c.args.target vs)) same c.foretell.ensures

pub foretell-requires-in-Listed-clause-count : goal.foretell-requires-in-Listed-clause-count
foretell-requires-in-Listed-clause-count c =
    ap length (c.deref-in-Listed.ensures.value ∙ ap listed (sym c.in-Listed.is)) ∙ c.requires.count

pub returns-in-Listed : goal.returns-in-Listed
returns-in-Listed c =
    let same : c.deref-in-Listed.result.now ≡ listed c.args.self.now = c.deref-in-Listed.ensures.value ∙ ap listed (sym c.in-Listed.is) in
    subst (λ (vs : List ℤ). IfOk c.foretell-in-Listed.result (Foretells c.args.engine.now.world c.args.target vs)) same c.foretell-in-Listed.ensures
