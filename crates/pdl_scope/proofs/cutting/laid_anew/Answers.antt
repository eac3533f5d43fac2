use Rattle.std.proofs.Common.{◌+◌, ◌≤◌, ◌++◌, sym, ap, subst}
use Rattle.std.specs.Prelude.{IfSome, true, false, ◌≡◌}
use Rattle.pdl_world.specs.Paths.{parent_in}
use Rattle.pdl_world.specs.Swept.{is_listed}
use Rattle.pdl_world.specs.World.{World}
use Rattle.pdl_shape.specs.Shape.{size_of}
use Rattle.pdl_engine.specs.State.{State as Engine, ready_steps}
use Rattle.pdl_machine.specs.Cuts.{is_read}
use Rattle.pdl_scope.specs.Scope.{arrays_of}
use Rattle.pdl_scope.proofs.FlowingStays.{flows_reshaped}
use Rattle.pdl_scope.proofs.CostUnmoved.{unbroken}
use Rattle.pdl_scope.proofs.ScopeCuts.{held_reshaped, noted_held}
use Rattle.pdl_scope.proofs.HoldingLemmas.{held_by}
use Rattle.pdl_scope.proofs.cutting.laid_anew.Goals as goal

pub returns-clause-held : goal.returns-clause-held
returns-clause-held g c = λ names ws fs none unread held.
    let e = c.hold_parent.new.engine in
    let left = c.hold_parent.new.leaving.items in
    let v = c.args.id in
    let ds = c.args.dims.now in
    let h = c.hold_parent.ensures.held names ws fs held in
    let world_is = ap (λ (s : Engine). s.world) c.hold_parent.ensures.same in
    let P : World → Type 0 = λ w. IfSome (parent_in w v) (λ p. is_listed left p ≡ true) in
    let R : World → Type 0 = λ w. is_read fs w v ≡ false in
    let parent : P e.world = subst P (sym world_is) c.hold_parent.ensures.parent in
    held_reshaped c.reshape.result c.reshape_laws.ensures.numbers names ws fs e c.reshape.new.self v ds left h c.reshape.ensures.allowed
    (λ a is. flows_reshaped c.flow_laws.ensures.stay c.reshape_laws.ensures.others (arrays_of e) a v ds fs h.whole.sound is none (subst R (sym world_is) unread) h.whole.flows)
    (c.keeping_laws.ensures.reshaped e.world v ds (held_by names ws fs ++ left) h.whole.sound h.reached (noted_held (held_by names ws fs) left (parent_in e.world v) parent))
    c.reshape.ensures.ok c.reshape.ensures.err c.reshape.ensures.family.holds c.reshape.ensures.family.next c.reshape.ensures.sound

pub returns-clause-counted : goal.returns-clause-counted
returns-clause-counted g c =
    let P : Engine → Type 0 = λ t. c.reshape.new.steps ≤ c.args.steps.now + (ready_steps t c.args.id + size_of c.args.dims.now) in
    subst P c.hold_parent.ensures.same c.reshape.ensures.counted

pub returns-clause-unchanged : goal.returns-clause-unchanged
returns-clause-unchanged g c =
    unbroken c.reshape.result c.args.engine.now c.hold_parent.new.engine c.reshape.new.self c.args.steps.now c.reshape.new.steps c.hold_parent.ensures.same c.reshape.ensures.unchanged
