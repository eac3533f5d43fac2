use Rattle.std.proofs.Common.{ℕ, List, ◌++◌, ◌<◌, length, sym, ap, subst, ◌∙◌}
use Rattle.std.specs.Prelude.{IsSome}
use Rattle.std.specs.Option.{option_to_list}
use Rattle.pdl_machine.specs.Watches.{Watches, detach, watch_of}
use Rattle.pdl_scope.specs.Scope.{names_in, state_in, IsHeld, Scope as Seen}
use Rattle.pdl_scope.proofs.ScopeWatches.{attached_within, held_detached}
use Rattle.pdl_scope.proofs.scope.Scope.unwatch.Goals as goal

pub invariant_of-self-2 : goal.invariant_of-self-2
invariant_of-self-2 c =
    let names = names_in c.self.inside.names.entries c.self.inside.kernels in
    let ws = c.self.inside.watches.items in
    let fs = c.self.inside.flows.items in
    let e = c.self.inside.engine in
    let k = c.args.slot in
    let leaving = c.self.inside.leaving.items in
    let P : Seen → Type 0 = λ s. IsSome (watch_of s.watches k) in
    let within : k < length ws = attached_within ws k (subst P (sym c.self.view_is) c.requires.attached) in
    let W : Watches → Type 0 = λ us. IsHeld (state_in names us fs e) e.holds c.note_some.new.list.items in
    let L : List ℕ → Type 0 = λ vs. IsHeld (state_in names (detach ws k) fs e) e.holds vs in
    let left = c.note_some.ensures.items ∙ ap (λ (vs : List ℕ). vs ++ option_to_list c.detach-had.result) c.in_ok-reserve.ensures.items ∙ ap (λ o. leaving ++ option_to_list o) c.detach-had.ensures.given_up in
    subst W (sym c.detach-had.ensures.watches) (subst L (sym left) (held_detached c.detaching_laws.ensures.trimmed c.detaching_laws.ensures.more names ws fs e k leaving c.self.invariant within))
