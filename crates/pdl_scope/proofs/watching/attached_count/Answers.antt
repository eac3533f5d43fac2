use Rattle.std.proofs.Common.{◌≡◌, ℕ, ◌-◌, arith, sym, subst, ◌∙◌}
use Rattle.std.specs.Prelude.{IsSome}
use Rattle.pdl_machine.specs.Watches.{watch_of}
use Rattle.pdl_scope.proofs.ScopeWatches.{trimmed_front, trimmed_none}
use Rattle.pdl_scope.proofs.watching.attached_count.Goals as goal

pub returns-then-is_attached : goal.returns-then-is_attached
returns-then-is_attached c =
    trimmed_front c.args.watches.now c.trimming.count c.trimming.invariant.few c.trimming.invariant.none (λ n is. (let e : c.trimming.count - 1 ≡ n = omega arith in
    subst (λ (k : ℕ). IsSome (watch_of c.args.watches.now k)) e (sym c.is_attached.ensures ∙ c.if-is_attached.true)))

pub returns : goal.returns
returns c = trimmed_none c.args.watches.now (λ k lt. c.trimming.invariant.none k (omega arith) lt)
