use Rattle.std.proofs.Common.{◌≡◌, ◌+◌, All, true, sym, ◌∙◌, ap, subst}
use Rattle.pdl_elem.specs.Types.{InRange}
use Rattle.pdl_elem.specs.declared.Ty.{Ty}
use Rattle.pdl_shape.specs.Shape.{size_of}
use Rattle.pdl_world.specs.Paths.{root_of}
use Rattle.pdl_world.specs.Sound.{IsLive, IsSound}
use Rattle.pdl_world.specs.Swept.{is_listed}
use Rattle.pdl_world.specs.World.{World, dims_in, elements}
use Rattle.pdl_world.specs.Parts.{assign_part}
use Rattle.pdl_nodes.specs.Alike.{is_fresh_in}
use Rattle.pdl_nodes.specs.Rows.{Rows, has}
use Rattle.pdl_nodes.specs.Copies.{shown_at}
use Rattle.pdl_nodes.specs.Worlds.{world_of}
use Rattle.pdl_engine.specs.State.{State, TargetIsFresh, TargetWaits, base}
use Rattle.pdl_engine.specs.StateOf.{state_of, fresh_among}
use Rattle.pdl_engine.proofs.StateBounds.{target_fresh}
use Rattle.pdl_engine.proofs.StateKept.{beside_alike, below_alike, others_fresh}
use Rattle.pdl_engine.proofs.StateLazy.{target_waits}
use Rattle.pdl_engine.proofs.StateOfWorlds.{live_has, root_are, fresh_is, fresh_live, holds_alike}
use Rattle.pdl_engine.proofs.LooseTight.{tight_alike}
use Rattle.pdl_engine.proofs.RowsLent.{lent_elements}
use Rattle.pdl_engine.proofs.StateUpdated.{can_copy, over_root}
use Rattle.pdl_engine.proofs.engine.Engine.copy.Goals as goal

pub copy-requires : goal.copy-requires
copy-requires g c =
    let rs : Rows = c.self.inside.table in
    let w : world_of rs ≡ c.args.self.now.world = ap (λ (s : State). s.world) c.self.view_is in
    let l : has rs c.args.id ≡ true = live_has c.row_laws.ensures rs c.args.id (subst (λ (w : World). IsLive w c.args.id) (sym w) c.requires.live) in
    let m : has rs c.args.source ≡ true = live_has c.row_laws.ensures rs c.args.source (subst (λ (w : World). IsLive w c.args.source) (sym w) c.requires.source) in
    let f : is_fresh_in rs c.args.id ≡ true = sym (fresh_is c.row_laws.ensures rs c.args.id c.self.invariant.0.order.still l) ∙ ap (λ (s : State). is_listed s.fresh c.args.id) c.self.view_is ∙ c.requires.fresh in
    let h : is_fresh_in rs c.args.source ≡ true = sym (fresh_is c.row_laws.ensures rs c.args.source c.self.invariant.0.order.still m) ∙ ap (λ (s : State). is_listed s.fresh c.args.source) c.self.view_is ∙ c.requires.source_fresh in
    record {
      copy = can_copy c.row_laws.ensures rs c.args.self.now.world c.args.id c.args.source w c.self.invariant.0.order c.self.invariant.0.known l m f h c.requires.apart c.requires.same_type c.requires.same_dims;
      over_root = over_root c.row_laws.ensures rs c.args.id c.self.invariant.0.order l (ap (λ w. base w c.args.id) w ∙ c.requires.over_root ∙ sym (ap (λ w. root_of w c.args.id) w));
    }

pub returns-clause-world : goal.returns-clause-world
returns-clause-world g c =
    let rs : Rows = c.self.inside.table in
    let w : world_of rs ≡ c.args.self.now.world = ap (λ (s : State). s.world) c.self.view_is in
    let m : has rs c.args.source ≡ true = live_has c.row_laws.ensures rs c.args.source (subst (λ (w : World). IsLive w c.args.source) (sym w) c.requires.source) in
    let h : is_fresh_in rs c.args.source ≡ true = sym (fresh_is c.row_laws.ensures rs c.args.source c.self.invariant.0.order.still m) ∙ ap (λ (s : State). is_listed s.fresh c.args.source) c.self.view_is ∙ c.requires.source_fresh in
    c.copy.ensures.assigned.world
    ∙ ap (assign_part (world_of rs) c.args.id 0) (lent_elements c.row_laws.ensures rs c.args.source c.self.invariant.0.order m h)
    ∙ ap (λ (w : World). assign_part w c.args.id 0 (elements w c.args.source)) w
    ∙ sym (c.part_laws.ensures.wholes c.args.self.now.world c.args.id (elements c.args.self.now.world c.args.source))

pub invariant_of-self : goal.invariant_of-self
invariant_of-self g c = (
  record {
    order = c.copy.ensures.assigned.order;
    known = c.copy.ensures.assigned.known;
    sized = c.row_laws.ensures.kept.sized_alike c.self.inside.table c.copy.new.table c.self.invariant.0.order.still c.copy.ensures.assigned.order.still c.copy.ensures.assigned.alike c.self.invariant.0.sized;
    sound = subst (λ (w : World). IsSound w) (sym c.copy.ensures.assigned.world) (c.part_laws.ensures.sound (world_of c.self.inside.table) c.args.id 0 (shown_at c.self.inside.table c.args.source) c.self.invariant.0.sound (subst (λ (y : Ty). All (InRange y) (shown_at c.self.inside.table c.args.source)) (sym (c.row_laws.ensures.seen.ty_are c.self.inside.table c.args.id c.self.invariant.0.order.still (live_has c.row_laws.ensures c.self.inside.table c.args.id (subst (λ (w : World). IsLive w c.args.id) (sym (ap (λ (s : State). s.world) c.self.view_is)) c.requires.live)))) c.copy.ensures.write.in_range));
    beside = beside_alike c.self.inside.table c.copy.new.table c.self.inside.holds c.copy.ensures.assigned.alike c.self.invariant.0.beside;
    below = below_alike c.self.inside.table c.copy.new.table c.self.inside.next c.copy.ensures.assigned.alike.numbers_are c.self.invariant.0.below;
    room = c.self.invariant.0.room;
  },
  tight_alike c.self.inside.loose.items c.self.inside.table c.copy.new.table c.self.inside.holds c.copy.ensures.assigned.alike c.self.invariant.1,
)

pub returns-clause-holds : goal.returns-clause-holds
returns-clause-holds g c = holds_alike c.self.inside.table c.copy.new.table c.self.inside.holds c.copy.ensures.assigned.alike.numbers_are ∙ ap (λ (s : State). s.holds) c.self.view_is

pub returns-clause-others : goal.returns-clause-others
returns-clause-others g c = λ u n f.
    let h : is_listed (fresh_among c.self.inside.table c.self.inside.table) u ≡ true = ap (λ (s : State). is_listed s.fresh u) c.self.view_is ∙ f in
    let l : has c.self.inside.table u ≡ true = fresh_live c.self.inside.table u h in
    fresh_is c.row_laws.ensures c.copy.new.table u c.copy.ensures.assigned.order.still (c.copy.ensures.assigned.alike.has_is u ∙ l)
    ∙ others_fresh c.row_laws.ensures c.self.inside.table c.copy.new.table c.args.id u c.self.invariant.0.order.still c.copy.ensures.assigned.order.still c.copy.ensures.assigned.alike c.copy.ensures.assigned.marks l
    (λ e. n (ap (λ w. root_of w u) (sym (ap (λ (s : State). s.world) c.self.view_is)) ∙ root_are c.row_laws.ensures c.self.inside.table u c.self.invariant.0.order.still l ∙ e ∙ sym (root_are c.row_laws.ensures c.self.inside.table c.args.id c.self.invariant.0.order.still (live_has c.row_laws.ensures c.self.inside.table c.args.id (subst (λ (w : World). IsLive w c.args.id) (sym (ap (λ (s : State). s.world) c.self.view_is)) c.requires.live))) ∙ ap (λ w. root_of w c.args.id) (ap (λ (s : State). s.world) c.self.view_is)))
    (sym (fresh_is c.row_laws.ensures c.self.inside.table u c.self.invariant.0.order.still l) ∙ h)

pub returns-clause-target : goal.returns-clause-target
returns-clause-target g c = subst (λ (s : State). TargetIsFresh s c.args.id (state_of c.copy.new.table c.self.inside.holds c.self.inside.next)) c.self.view_is (target_fresh c.row_laws.ensures c.self.inside.table c.copy.new.table c.self.inside.holds c.self.inside.holds c.self.inside.next c.self.inside.next c.args.id c.self.invariant.0.order.still c.copy.ensures.assigned.order.still (live_has c.row_laws.ensures c.self.inside.table c.args.id (subst (λ (w : World). IsLive w c.args.id) (sym (ap (λ (s : State). s.world) c.self.view_is)) c.requires.live)) c.copy.ensures.assigned.alike c.copy.ensures.assigned.marks)

pub returns-clause-waits : goal.returns-clause-waits
returns-clause-waits g c = subst (λ (s : State). TargetWaits s c.args.id (state_of c.copy.new.table c.self.inside.holds c.self.inside.next)) c.self.view_is (target_waits c.row_laws.ensures c.self.inside.table c.copy.new.table c.self.inside.holds c.self.inside.holds c.self.inside.next c.self.inside.next c.args.id c.self.invariant.0.order.still c.copy.ensures.assigned.order.still (live_has c.row_laws.ensures c.self.inside.table c.args.id (subst (λ (w : World). IsLive w c.args.id) (sym (ap (λ (s : State). s.world) c.self.view_is)) c.requires.live)) c.copy.ensures.assigned.alike c.copy.ensures.waits)

pub returns-clause-sound : goal.returns-clause-sound
returns-clause-sound g c = (invariant_of-self g c).0.sound

pub returns-clause-counted : goal.returns-clause-counted
returns-clause-counted g c =
    c.copy.ensures.counted
    ∙ ap (λ ds. c.args.steps.now + size_of ds) (sym (c.row_laws.ensures.seen.dims_are c.self.inside.table c.args.id c.self.invariant.0.order.still (live_has c.row_laws.ensures c.self.inside.table c.args.id (subst (λ (w : World). IsLive w c.args.id) (sym (ap (λ (s : State). s.world) c.self.view_is)) c.requires.live))) ∙ ap (λ w. dims_in w c.args.id) (ap (λ (s : State). s.world) c.self.view_is))
