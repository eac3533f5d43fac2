use Rattle.std.proofs.Common.{◌+◌, ◌≤◌, ◌++◌, sym, ap, subst}
use Rattle.std.specs.Prelude.{IfSome, true, ◌≡◌}
use Rattle.pdl_world.specs.Cut.{sever}
use Rattle.pdl_world.specs.Paths.{parent_in, root_of}
use Rattle.pdl_world.specs.Swept.{is_listed}
use Rattle.pdl_shape.specs.Shape.{size_of}
use Rattle.pdl_world.specs.World.{World, dims_in}
use Rattle.pdl_engine.specs.State.{State as Engine, ready_steps}
use Rattle.pdl_scope.specs.Scope.{arrays_of}
use Rattle.pdl_scope.proofs.FlowingStays.{CutLaws, flows_severed}
use Rattle.pdl_scope.proofs.CostUnmoved.{unchanged_held}
use Rattle.pdl_scope.proofs.ScopeCuts.{held_after, noted_held}
use Rattle.pdl_scope.proofs.HoldingLemmas.{held_by}
use Rattle.pdl_scope.proofs.cutting.cut_apart.Goals as goal

pub returns-clause-held : goal.returns-clause-held
returns-clause-held g c = λ names ws fs held.
    let e = c.hold_parent.new.engine in
    let left = c.hold_parent.new.leaving.items in
    let v = c.args.id in
    let h = c.hold_parent.ensures.held names ws fs held in
    let P : World → Type 0 = λ w. IfSome (parent_in w v) (λ p. is_listed left p ≡ true) in
    let parent : P e.world = subst P (sym (ap (λ (s : Engine). s.world) c.hold_parent.ensures.same)) c.hold_parent.ensures.parent in
    let laws : CutLaws = record { stay = c.cut_apart_laws.ensures.stay; shown = c.cut_apart_laws.ensures.shown; numbers = c.cut_apart_laws.ensures.numbers; others = c.cut_apart_laws.ensures.others; uncut = c.cut_apart_laws.ensures.uncut } in
    held_after c.sever.result names ws fs e c.sever.new.self (sever e.world v) left h (c.cut_apart_laws.ensures.numbers e.world v h.whole.sound)
    (λ a is. flows_severed laws (arrays_of e) a v fs h.whole.sound is h.whole.flows)
    (c.cut_apart_laws.ensures.keeps e.world v (held_by names ws fs ++ left) h.whole.sound h.reached (noted_held (held_by names ws fs) left (parent_in e.world v) parent))
    c.sever.ensures.ok c.sever.ensures.err c.sever.ensures.family.holds c.sever.ensures.family.next c.sever.ensures.sound

pub returns-clause-counted : goal.returns-clause-counted
returns-clause-counted g c =
    let v = c.args.id in
    let P : Engine → Type 0 = λ t. c.sever.new.steps ≤ c.args.steps.now + (ready_steps t v + size_of (dims_in t.world v)) in
    subst P c.hold_parent.ensures.same c.sever.ensures.counted

pub returns-clause-spent : goal.returns-clause-spent
returns-clause-spent g c = λ own.
    let e = c.args.engine.now in
    let t = c.hold_parent.new.engine in
    let R : Engine → Type 0 = λ x. root_of x.world c.args.id ≡ c.args.id in
    let there : R t = subst R (sym c.hold_parent.ensures.same) own in
    unchanged_held e t c.sever.new.self c.args.steps.now c.sever.new.steps c.hold_parent.ensures.same (c.sever.ensures.root there) (c.sever.ensures.spent there)
