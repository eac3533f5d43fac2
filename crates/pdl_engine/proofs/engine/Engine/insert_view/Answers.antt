use Rattle.std.proofs.Common.{◌≡◌, ℕ, true, List, ◌∷◌, sym, ◌∙◌, ap, subst, arith}
use Rattle.pdl_lemmas.specs.Results.{on_err}
use Rattle.pdl_shape.specs.Triple.{IsTriple}
use Rattle.pdl_world.specs.Refused.{view_refusal}
use Rattle.pdl_world.specs.Sound.{IsLive, IsSound}
use Rattle.pdl_world.specs.World.{World, dims_in, ArrayDef, view}
use Rattle.pdl_nodes.specs.Holds.{Beside}
use Rattle.pdl_nodes.specs.Joined.{IsNew, IsNewView}
use Rattle.pdl_nodes.specs.Row.{Row}
use Rattle.pdl_nodes.specs.Rows.{Rows, has, row_at}
use Rattle.pdl_nodes.specs.Sized.{IsLayout}
use Rattle.pdl_nodes.specs.Worlds.{world_of}
use Rattle.pdl_engine.specs.Loose.{IsTight}
use Rattle.pdl_engine.specs.State.{State, IsLentAs, Joins}
use Rattle.pdl_engine.specs.StateOf.{state_of, IsEngine}
use Rattle.pdl_engine.proofs.StateGrowing.{IsGrown, grown_engine, refused_engine, grown_state, new_view, view_grown, view_def, err_state, below_world, no_root}
use Rattle.pdl_engine.proofs.StateLazy.{lent_as}
use Rattle.pdl_engine.proofs.StateOfWorlds.{live_has}
use Rattle.pdl_engine.proofs.LooseTight.{tight_grown, tight_refused}
use Rattle.pdl_engine.proofs.engine.Engine.insert_view.Goals as goal

pub node-above-requires : goal.node-above-requires
node-above-requires c = record { live = (live_has c.row_laws.ensures c.self.inside.table c.args.parent (subst (λ (w : World). IsLive w c.args.parent) (sym (ap (λ (s : State). s.world) c.self.view_is)) c.requires.live)) }

pub view_node-requires-clause-laid : goal.view_node-requires-clause-laid
view_node-requires-clause-laid c = subst (λ (ds : List ℕ). IsLayout c.args.trans ds c.args.layout) (ap (λ w. dims_in w c.args.parent) (sym (ap (λ (s : State). s.world) c.self.view_is)) ∙ c.row_laws.ensures.seen.dims_are c.self.inside.table c.args.parent c.self.invariant.0.order.still (live_has c.row_laws.ensures c.self.inside.table c.args.parent (subst (λ (w : World). IsLive w c.args.parent) (sym (ap (λ (s : State). s.world) c.self.view_is)) c.requires.live)) ∙ ap (λ (r : Row). r.triple.dims) (sym c.node-above.ensures)) c.requires.layout

pub insert-requires-clause-new_root : goal.insert-requires-clause-new_root
insert-requires-clause-new_root c = no_root c.row_laws.ensures c.self.inside.table c.self.inside.next c.self.invariant.0.order.still c.self.invariant.0.below

pub insert-requires-clause-unmarked : goal.insert-requires-clause-unmarked
insert-requires-clause-unmarked c = λ n. c.in_ok-node.ensures.new.unmarked

pub view_node-requires-clause-triple : goal.view_node-requires-clause-triple
view_node-requires-clause-triple c = subst (λ (r : Row). IsTriple r.triple) (sym c.node-above.ensures) (c.row_laws.ensures.seen.sized_at c.self.inside.table c.self.invariant.0.sized c.args.parent (live_has c.row_laws.ensures c.self.inside.table c.args.parent (subst (λ (w : World). IsLive w c.args.parent) (sym (ap (λ (s : State). s.world) c.self.view_is)) c.requires.live))).triple

pub returns-in_err-insert-clause-err : goal.returns-in_err-insert-clause-err
returns-in_err-insert-clause-err c = on_err c.from_residual-in_err-insert.result (err_state c.self.inside.table c.insert.new.table c.self.inside.holds c.insert.new.holds c.self.inside.next c.self.invariant.0.below c.in_err-insert.ensures.err c.insert.ensures.others ∙ c.self.view_is)

pub invariant_of-self : goal.invariant_of-self
invariant_of-self c = (
  refused_engine c.self.inside.table c.insert.new.table c.self.inside.holds c.insert.new.holds c.self.inside.next c.self.invariant.0 c.in_err-insert.ensures.err c.insert.ensures.beside,
  tight_refused c.row_laws.ensures c.self.inside.loose.items c.self.inside.table c.insert.new.table c.self.inside.holds c.insert.new.holds c.self.inside.next c.self.invariant.0.below c.in_err-insert.ensures.err c.insert.ensures.others c.self.invariant.1,
)

pub invariant_of-self-2 : goal.invariant_of-self-2
invariant_of-self-2 c =
    let live : IsLive (world_of c.self.inside.table) c.args.parent = subst (λ (w : World). IsLive w c.args.parent) (sym (ap (λ (s : State). s.world) c.self.view_is)) c.requires.live in
    let made : IsNewView c.self.inside.next c.args.parent c.args.trans (row_at c.self.inside.table c.args.parent) c.in_ok-node.node = subst (λ (a : Row). IsNewView c.self.inside.next c.args.parent c.args.trans a c.in_ok-node.node) c.node-above.ensures c.in_ok-node.ensures.new in
    let grown : IsGrown c.self.inside.table c.self.inside.holds c.insert.new.holds c.self.inside.next c.in_ok-node.node = view_grown c.row_laws.ensures c.self.inside.table c.self.inside.holds c.insert.new.holds c.self.inside.next c.args.parent c.args.trans c.in_ok-node.node c.self.invariant.0 (live_has c.row_laws.ensures c.self.inside.table c.args.parent live) made
    (c.growth_laws.ensures.sound (world_of c.self.inside.table) c.self.inside.next (view c.args.parent c.args.trans) c.self.invariant.0.sound (below_world c.self.inside.table c.self.inside.next c.self.invariant.0.below)
    (record { well_formed = c.requires.well_formed; live = live; allowed = ap (λ w. view_refusal w c.args.parent c.args.trans) (ap (λ (s : State). s.world) c.self.view_is) ∙ c.requires.allowed }))
    (subst (λ (t : Rows). Beside t c.insert.new.holds) c.in_ok-insert.ensures.ok c.insert.ensures.beside) c.in_ok-insert.ensures.held c.insert.ensures.others in (
      subst (λ (t : Rows). IsEngine t c.insert.new.holds c.in-Some.next) (sym c.in_ok-insert.ensures.ok) (grown_engine c.row_laws.ensures c.self.inside.table c.self.inside.holds c.insert.new.holds c.self.inside.next c.in-Some.next c.in_ok-node.node c.self.invariant.0 grown c.in-Some.ensures.1 (omega arith)),
      subst (λ (t : Rows). IsTight c.self.inside.loose.items t c.insert.new.holds) (sym c.in_ok-insert.ensures.ok) (tight_grown c.self.inside.loose.items c.self.inside.table c.self.inside.holds c.insert.new.holds c.self.inside.next c.in_ok-node.node c.in_ok-insert.ensures.held c.insert.ensures.others c.self.invariant.1),
    )

pub returns-clause-made : goal.returns-clause-made
returns-clause-made c =
    let live : IsLive (world_of c.self.inside.table) c.args.parent = subst (λ (w : World). IsLive w c.args.parent) (sym (ap (λ (s : State). s.world) c.self.view_is)) c.requires.live in
    let made : IsNewView c.self.inside.next c.args.parent c.args.trans (row_at c.self.inside.table c.args.parent) c.in_ok-node.node = subst (λ (a : Row). IsNewView c.self.inside.next c.args.parent c.args.trans a c.in_ok-node.node) c.node-above.ensures c.in_ok-node.ensures.new in
    let grown : IsGrown c.self.inside.table c.self.inside.holds c.insert.new.holds c.self.inside.next c.in_ok-node.node = view_grown c.row_laws.ensures c.self.inside.table c.self.inside.holds c.insert.new.holds c.self.inside.next c.args.parent c.args.trans c.in_ok-node.node c.self.invariant.0 (live_has c.row_laws.ensures c.self.inside.table c.args.parent live) made
    (c.growth_laws.ensures.sound (world_of c.self.inside.table) c.self.inside.next (view c.args.parent c.args.trans) c.self.invariant.0.sound (below_world c.self.inside.table c.self.inside.next c.self.invariant.0.below)
    (record { well_formed = c.requires.well_formed; live = live; allowed = ap (λ w. view_refusal w c.args.parent c.args.trans) (ap (λ (s : State). s.world) c.self.view_is) ∙ c.requires.allowed }))
    (subst (λ (t : Rows). Beside t c.insert.new.holds) c.in_ok-insert.ensures.ok c.insert.ensures.beside) c.in_ok-insert.ensures.held c.insert.ensures.others in
    subst (λ (s : State). Joins s c.self.inside.next (view c.args.parent c.args.trans) (state_of c.insert.new.table c.insert.new.holds c.in-Some.next)) c.self.view_is
    (subst (λ (t : Rows). Joins (state_of c.self.inside.table c.self.inside.holds c.self.inside.next) c.self.inside.next (view c.args.parent c.args.trans) (state_of t c.insert.new.holds c.in-Some.next)) (sym c.in_ok-insert.ensures.ok)
    (subst (λ (d : ArrayDef). Joins (state_of c.self.inside.table c.self.inside.holds c.self.inside.next) c.self.inside.next d (state_of ((c.self.inside.next, c.in_ok-node.node) ∷ c.self.inside.table) c.insert.new.holds c.in-Some.next)) (view_def c.in_ok-node.node c.args.parent c.args.trans made.layout made.origin) (grown_state c.row_laws.ensures c.self.inside.table c.self.inside.holds c.insert.new.holds c.self.inside.next c.in-Some.next c.in_ok-node.node c.self.invariant.0 grown c.in-Some.ensures.1)))

pub returns-clause-sound : goal.returns-clause-sound
returns-clause-sound c =
    let live : IsLive (world_of c.self.inside.table) c.args.parent = subst (λ (w : World). IsLive w c.args.parent) (sym (ap (λ (s : State). s.world) c.self.view_is)) c.requires.live in
    let made : IsNewView c.self.inside.next c.args.parent c.args.trans (row_at c.self.inside.table c.args.parent) c.in_ok-node.node = subst (λ (a : Row). IsNewView c.self.inside.next c.args.parent c.args.trans a c.in_ok-node.node) c.node-above.ensures c.in_ok-node.ensures.new in
    let grown : IsGrown c.self.inside.table c.self.inside.holds c.insert.new.holds c.self.inside.next c.in_ok-node.node = view_grown c.row_laws.ensures c.self.inside.table c.self.inside.holds c.insert.new.holds c.self.inside.next c.args.parent c.args.trans c.in_ok-node.node c.self.invariant.0 (live_has c.row_laws.ensures c.self.inside.table c.args.parent live) made
    (c.growth_laws.ensures.sound (world_of c.self.inside.table) c.self.inside.next (view c.args.parent c.args.trans) c.self.invariant.0.sound (below_world c.self.inside.table c.self.inside.next c.self.invariant.0.below)
    (record { well_formed = c.requires.well_formed; live = live; allowed = ap (λ w. view_refusal w c.args.parent c.args.trans) (ap (λ (s : State). s.world) c.self.view_is) ∙ c.requires.allowed }))
    (subst (λ (t : Rows). Beside t c.insert.new.holds) c.in_ok-insert.ensures.ok c.insert.ensures.beside) c.in_ok-insert.ensures.held c.insert.ensures.others in
    subst (λ (t : Rows). IsSound (world_of t)) (sym c.in_ok-insert.ensures.ok) (grown_engine c.row_laws.ensures c.self.inside.table c.self.inside.holds c.insert.new.holds c.self.inside.next c.in-Some.next c.in_ok-node.node c.self.invariant.0 grown c.in-Some.ensures.1 (omega arith)).sound

pub returns-clause-lent : goal.returns-clause-lent
returns-clause-lent c =
    let live : has c.self.inside.table c.args.parent ≡ true = live_has c.row_laws.ensures c.self.inside.table c.args.parent (subst (λ (w : World). IsLive w c.args.parent) (sym (ap (λ (s : State). s.world) c.self.view_is)) c.requires.live) in
    let made : IsNewView c.self.inside.next c.args.parent c.args.trans (row_at c.self.inside.table c.args.parent) c.in_ok-node.node = subst (λ (a : Row). IsNewView c.self.inside.next c.args.parent c.args.trans a c.in_ok-node.node) c.node-above.ensures c.in_ok-node.ensures.new in
    let old : State = state_of c.self.inside.table c.self.inside.holds c.self.inside.next in
    let n : IsNew c.self.inside.table c.self.inside.next c.in_ok-node.node = new_view c.row_laws.ensures c.self.inside.table c.self.inside.next c.args.parent c.args.trans c.in_ok-node.node c.self.invariant.0.order.still c.self.invariant.0.below live made in
    subst (λ (s : State). IsLentAs s c.args.parent c.self.inside.next (state_of c.insert.new.table c.insert.new.holds c.in-Some.next)) c.self.view_is
    (subst (λ (t : Rows). IsLentAs old c.args.parent c.self.inside.next (state_of t c.insert.new.holds c.in-Some.next)) (sym c.in_ok-insert.ensures.ok)
    (lent_as c.row_laws.ensures c.self.inside.table c.self.inside.holds c.insert.new.holds c.self.inside.next c.in-Some.next c.self.inside.next c.args.parent c.in_ok-node.node c.args.trans c.self.invariant.0.order.still (n.below, n.from, c.self.invariant.0.order.still) c.self.invariant.0.below live made))
