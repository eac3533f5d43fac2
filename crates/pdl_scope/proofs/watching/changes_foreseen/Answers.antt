use Rattle.std.proofs.Common.{◌≡◌, List, Some, None, sym, ap, ap₂, subst, ◌∙◌}
use Rattle.std.specs.Prelude.{IfOk}
use Rattle.pdl_world.specs.World.{World, elements}
use Rattle.pdl_engine.specs.Foresights.{IsForeseen}
use Rattle.pdl_watch.specs.declared.notice.Notice.{Notice}
use Rattle.pdl_watch.specs.Changes.{changes}
use Rattle.pdl_scope.specs.Plans.{listed}
use Rattle.pdl_scope.proofs.watching.changes_foreseen.Goals as goal

pub returns-in-Some-clause-told : goal.returns-in-Some-clause-told
returns-in-Some-clause-told g c =
    let w : World = c.args.engine.now.world in
    let d = c.args.change.now in
    let found : IsForeseen w d.target (listed d.values) c.args.seen (Some c.in-Some.foreseen) = subst (IsForeseen w d.target (listed d.values) c.args.seen) c.in-Some.is c.in_ok-foreseen.ensures.value in
    subst (λ (ms : List Notice). IfOk c.changes.result (λ ns. ns.items ≡ ms))
    (ap₂ (changes c.args.number) (c.deref.ensures.value ∙ found.0) (c.deref-in-Some.ensures.value ∙ found.1)) c.changes.ensures

pub returns-in-None-clause-told : goal.returns-in-None-clause-told
returns-in-None-clause-told g c =
    let w : World = c.args.engine.now.world in
    let d = c.args.change.now in
    let stays : IsForeseen w d.target (listed d.values) c.args.seen None = subst (IsForeseen w d.target (listed d.values) c.args.seen) c.in-None.is c.in_ok-foreseen.ensures.value in
    c.new.ensures.items ∙ sym (ap (changes c.args.number (elements w c.args.seen)) stays ∙ c.change_laws.ensures c.args.number (elements w c.args.seen))
