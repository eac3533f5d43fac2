use Rattle.std.proofs.Common.{◌≡◌, ◌∷◌, refl, sym, ◌∙◌, ap, subst, arith}
use Rattle.pdl_lemmas.specs.Results.{on_err}
use Rattle.pdl_numbers.specs.Typed.{TypedElements}
use Rattle.pdl_world.specs.Sound.{IsSound}
use Rattle.pdl_world.specs.World.{ArrayDef, root}
use Rattle.pdl_nodes.specs.Holds.{Beside}
use Rattle.pdl_nodes.specs.Row.{Row, root_row}
use Rattle.pdl_nodes.specs.Rows.{Rows}
use Rattle.pdl_nodes.specs.Worlds.{world_of}
use Rattle.pdl_engine.specs.Loose.{IsTight}
use Rattle.pdl_engine.specs.State.{State, Joins}
use Rattle.pdl_engine.specs.StateOf.{state_of, IsEngine}
use Rattle.pdl_engine.proofs.StateGrowing.{IsGrown, root_grown, grown_engine, refused_engine, grown_state, err_state, below_world, no_root}
use Rattle.pdl_engine.proofs.LooseTight.{tight_grown, tight_refused}
use Rattle.pdl_engine.proofs.engine.Engine.make.Goals as goal

pub insert-requires-clause-new_root : goal.insert-requires-clause-new_root
insert-requires-clause-new_root g c = no_root c.row_laws.ensures c.self.inside.table c.self.inside.next c.self.invariant.0.order.still c.self.invariant.0.below

pub insert-requires-clause-unmarked : goal.insert-requires-clause-unmarked
insert-requires-clause-unmarked g c = λ n. absurd (n (ap (λ (r : Row). r.root) c.root_node-node.ensures))

pub returns-in_err-insert-clause-err : goal.returns-in_err-insert-clause-err
returns-in_err-insert-clause-err g c = on_err c.from_residual-in_err-insert.result (err_state c.self.inside.table c.insert.new.table c.self.inside.holds c.insert.new.holds c.self.inside.next c.self.invariant.0.below c.in_err-insert.ensures.err c.insert.ensures.others ∙ c.self.view_is)

pub invariant_of-self : goal.invariant_of-self
invariant_of-self g c = (
  refused_engine c.self.inside.table c.insert.new.table c.self.inside.holds c.insert.new.holds c.self.inside.next c.self.invariant.0 c.in_err-insert.ensures.err c.insert.ensures.beside,
  tight_refused c.row_laws.ensures c.self.inside.loose.items c.self.inside.table c.insert.new.table c.self.inside.holds c.insert.new.holds c.self.inside.next c.self.invariant.0.below c.in_err-insert.ensures.err c.insert.ensures.others c.self.invariant.1,
)

pub invariant_of-self-2 : goal.invariant_of-self-2
invariant_of-self-2 g c =
    let joined : c.insert.new.table ≡ (c.self.inside.next, root_row c.self.inside.next c.args.ty c.args.dims.now c.args.elems) ∷ c.self.inside.table = c.in_ok-insert.ensures.ok ∙ ap (λ (r : Row). (c.self.inside.next, r) ∷ c.self.inside.table) (c.root_node-node.ensures ∙ ap (λ (k : TypedElements). root_row c.self.inside.next c.args.ty c.args.dims.now k.elems) c.in_ok-kept.ensures.ok) in
    let grown : IsGrown c.self.inside.table c.self.inside.holds c.insert.new.holds c.self.inside.next (root_row c.self.inside.next c.args.ty c.args.dims.now c.args.elems) = root_grown c.row_laws.ensures c.self.inside.table c.self.inside.holds c.insert.new.holds c.self.inside.next c.args.ty c.args.dims.now c.args.elems c.self.invariant.0.below c.requires.count (c.triple_laws.ensures.wholes c.args.dims.now c.dims_list-limits.ensures.limits) c.dims_list-limits.ensures.limits
    (c.growth_laws.ensures.sound (world_of c.self.inside.table) c.self.inside.next (root c.args.ty c.args.dims.now c.args.elems) c.self.invariant.0.sound (below_world c.self.inside.table c.self.inside.next c.self.invariant.0.below) (c.dims_list-limits.ensures.limits, c.requires))
    (subst (λ (t : Rows). Beside t c.insert.new.holds) joined c.insert.ensures.beside) c.in_ok-insert.ensures.held c.insert.ensures.others in (
      subst (λ (t : Rows). IsEngine t c.insert.new.holds c.in-Some.next) (sym joined) (grown_engine c.row_laws.ensures c.self.inside.table c.self.inside.holds c.insert.new.holds c.self.inside.next c.in-Some.next (root_row c.self.inside.next c.args.ty c.args.dims.now c.args.elems) c.self.invariant.0 grown c.in-Some.ensures.1 (omega arith)),
      subst (λ (t : Rows). IsTight c.self.inside.loose.items t c.insert.new.holds) (sym c.in_ok-insert.ensures.ok) (tight_grown c.self.inside.loose.items c.self.inside.table c.self.inside.holds c.insert.new.holds c.self.inside.next c.root_node-node.result c.in_ok-insert.ensures.held c.insert.ensures.others c.self.invariant.1),
    )

pub returns-clause-made : goal.returns-clause-made
returns-clause-made g c =
    let joined : c.insert.new.table ≡ (c.self.inside.next, root_row c.self.inside.next c.args.ty c.args.dims.now c.args.elems) ∷ c.self.inside.table = c.in_ok-insert.ensures.ok ∙ ap (λ (r : Row). (c.self.inside.next, r) ∷ c.self.inside.table) (c.root_node-node.ensures ∙ ap (λ (k : TypedElements). root_row c.self.inside.next c.args.ty c.args.dims.now k.elems) c.in_ok-kept.ensures.ok) in
    let grown : IsGrown c.self.inside.table c.self.inside.holds c.insert.new.holds c.self.inside.next (root_row c.self.inside.next c.args.ty c.args.dims.now c.args.elems) = root_grown c.row_laws.ensures c.self.inside.table c.self.inside.holds c.insert.new.holds c.self.inside.next c.args.ty c.args.dims.now c.args.elems c.self.invariant.0.below c.requires.count (c.triple_laws.ensures.wholes c.args.dims.now c.dims_list-limits.ensures.limits) c.dims_list-limits.ensures.limits
    (c.growth_laws.ensures.sound (world_of c.self.inside.table) c.self.inside.next (root c.args.ty c.args.dims.now c.args.elems) c.self.invariant.0.sound (below_world c.self.inside.table c.self.inside.next c.self.invariant.0.below) (c.dims_list-limits.ensures.limits, c.requires))
    (subst (λ (t : Rows). Beside t c.insert.new.holds) joined c.insert.ensures.beside) c.in_ok-insert.ensures.held c.insert.ensures.others in
    subst (λ (s : State). Joins s c.self.inside.next (root c.args.ty c.args.dims.now c.args.elems) (state_of c.insert.new.table c.insert.new.holds c.in-Some.next)) c.self.view_is
    (subst (λ (t : Rows). Joins (state_of c.self.inside.table c.self.inside.holds c.self.inside.next) c.self.inside.next (root c.args.ty c.args.dims.now c.args.elems) (state_of t c.insert.new.holds c.in-Some.next)) (sym joined)
    (subst (λ (d : ArrayDef). Joins (state_of c.self.inside.table c.self.inside.holds c.self.inside.next) c.self.inside.next d (state_of ((c.self.inside.next, (root_row c.self.inside.next c.args.ty c.args.dims.now c.args.elems)) ∷ c.self.inside.table) c.insert.new.holds c.in-Some.next)) refl (grown_state c.row_laws.ensures c.self.inside.table c.self.inside.holds c.insert.new.holds c.self.inside.next c.in-Some.next (root_row c.self.inside.next c.args.ty c.args.dims.now c.args.elems) c.self.invariant.0 grown c.in-Some.ensures.1)))

pub returns-clause-sound : goal.returns-clause-sound
returns-clause-sound g c =
    let joined : c.insert.new.table ≡ (c.self.inside.next, root_row c.self.inside.next c.args.ty c.args.dims.now c.args.elems) ∷ c.self.inside.table = c.in_ok-insert.ensures.ok ∙ ap (λ (r : Row). (c.self.inside.next, r) ∷ c.self.inside.table) (c.root_node-node.ensures ∙ ap (λ (k : TypedElements). root_row c.self.inside.next c.args.ty c.args.dims.now k.elems) c.in_ok-kept.ensures.ok) in
    let grown : IsGrown c.self.inside.table c.self.inside.holds c.insert.new.holds c.self.inside.next (root_row c.self.inside.next c.args.ty c.args.dims.now c.args.elems) = root_grown c.row_laws.ensures c.self.inside.table c.self.inside.holds c.insert.new.holds c.self.inside.next c.args.ty c.args.dims.now c.args.elems c.self.invariant.0.below c.requires.count (c.triple_laws.ensures.wholes c.args.dims.now c.dims_list-limits.ensures.limits) c.dims_list-limits.ensures.limits
    (c.growth_laws.ensures.sound (world_of c.self.inside.table) c.self.inside.next (root c.args.ty c.args.dims.now c.args.elems) c.self.invariant.0.sound (below_world c.self.inside.table c.self.inside.next c.self.invariant.0.below) (c.dims_list-limits.ensures.limits, c.requires))
    (subst (λ (t : Rows). Beside t c.insert.new.holds) joined c.insert.ensures.beside) c.in_ok-insert.ensures.held c.insert.ensures.others in
    subst (λ (t : Rows). IsSound (world_of t)) (sym joined) (grown_engine c.row_laws.ensures c.self.inside.table c.self.inside.holds c.insert.new.holds c.self.inside.next c.in-Some.next (root_row c.self.inside.next c.args.ty c.args.dims.now c.args.elems) c.self.invariant.0 grown c.in-Some.ensures.1 (omega arith)).sound
