use Rattle.std.proofs.Common.{List, ℕ, ◌∷◌, [], ◌++◌, ap, subst, ◌∙◌}
use Rattle.pdl_world.specs.World.{root}
use Rattle.pdl_scope.specs.Scope.{Scope as Seen, names_in, scope_in, Grows}
use Rattle.pdl_scope.proofs.ScopeGrowing.{grown}
use Rattle.pdl_scope.proofs.HoldingLemmas.{held_new}
use Rattle.pdl_engine.specs.Reading.{KeepsViews}
use Rattle.pdl_engine.specs.State.{State as Engine}
use Rattle.pdl_scope.proofs.LetGoBounds.{root_is_none, same_views}
use Rattle.pdl_scope.proofs.scope.Scope.make.Goals as goal

pub invariant_of-self-2 : goal.invariant_of-self-2
invariant_of-self-2 g c =
    held_new (record { stay = c.joining_laws.ensures.stay; older = c.joining_laws.ensures.older; elements = c.joining_laws.ensures.older_elements; paths = c.joining_laws.ensures.older_paths })
    c.joining_laws.ensures.others c.joining_laws.ensures.newest c.joining_laws.ensures.more (names_in c.self.inside.names.entries c.self.inside.kernels) c.self.inside.watches.items c.self.inside.flows.items c.self.inside.engine c.make.new.self (root c.args.ty c.args.dims.now c.args.elems) c.in_ok-id.id c.self.inside.leaving.items _
    c.holds_law.ensures.each c.self.invariant c.in_ok-id.ensures.made c.make.ensures.sound (c.note.ensures.items ∙ ap (λ (vs : List ℕ). vs ++ c.in_ok-id.id ∷ []) c.in_ok-reserve.ensures.items)

pub returns-clause-grown : goal.returns-clause-grown
returns-clause-grown g c =
    let names = names_in c.self.inside.names.entries c.self.inside.kernels in
    let ws = c.self.inside.watches.items in
    let fs = c.self.inside.flows.items in
    let P : Seen → Type 0 = λ s. Grows s (scope_in names ws fs c.make.new.self) in
    subst P c.self.view_is (grown (record { stay = c.joining_laws.ensures.stay; older = c.joining_laws.ensures.older; elements = c.joining_laws.ensures.older_elements; paths = c.joining_laws.ensures.older_paths }) names ws fs c.self.inside.engine c.make.new.self (root c.args.ty c.args.dims.now c.args.elems) c.in_ok-id.id c.self.invariant.whole c.in_ok-id.ensures.made c.make.ensures.sound (c.in_ok-id.ensures.fresh, tt))

pub returns-clause-roots : goal.returns-clause-roots
returns-clause-roots g c =
    let e = c.self.inside.engine in
    let P : Seen → Type 0 = λ s. KeepsViews c.make.new.self.world s.arrays.world in
    subst P c.self.view_is (root_is_none e.world c.make.new.self.world c.in_ok-id.id c.args.ty c.args.dims.now c.args.elems c.in_ok-id.ensures.made.world)

pub returns-in_err-id-clause-roots : goal.returns-in_err-id-clause-roots
returns-in_err-id-clause-roots g c =
    let P : Seen → Type 0 = λ s. KeepsViews c.make.new.self.world s.arrays.world in
    subst P c.self.view_is (same_views c.make.new.self.world c.self.inside.engine.world (ap (λ (e : Engine). e.world) c.in_err-id.ensures.err))
