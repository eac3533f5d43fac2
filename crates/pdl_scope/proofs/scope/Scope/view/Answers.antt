use Rattle.std.proofs.Common.{List, ℕ, ◌∷◌, [], ◌++◌, ap, subst, ◌∙◌}
use Rattle.pdl_world.specs.World.{view}
use Rattle.pdl_scope.specs.Scope.{Scope as Seen, names_in, scope_in, Grows}
use Rattle.pdl_scope.proofs.ScopeGrowing.{grown}
use Rattle.pdl_scope.proofs.HoldingLemmas.{held_new}
use Rattle.pdl_scope.proofs.scope.Scope.view.Goals as goal

pub invariant_of-self-2 : goal.invariant_of-self-2
invariant_of-self-2 c =
    held_new (record { stay = c.joining_laws.ensures.stay; older = c.joining_laws.ensures.older; elements = c.joining_laws.ensures.older_elements; paths = c.joining_laws.ensures.older_paths })
    c.joining_laws.ensures.others c.joining_laws.ensures.newest c.joining_laws.ensures.more (names_in c.self.inside.names.entries c.self.inside.kernels) c.self.inside.watches.items c.self.inside.flows.items c.self.inside.engine c.view.new.self (view c.args.parent c.args.trans) c.in_ok-id.id c.self.inside.leaving.items _
    c.holds_law.ensures.each c.self.invariant c.in_ok-id.ensures.made c.view.ensures.sound (c.note.ensures.items ∙ ap (λ (vs : List ℕ). vs ++ c.in_ok-id.id ∷ []) c.in_ok-reserve.ensures.items)

pub returns-clause-grown : goal.returns-clause-grown
returns-clause-grown c =
    let names = names_in c.self.inside.names.entries c.self.inside.kernels in
    let ws = c.self.inside.watches.items in
    let fs = c.self.inside.flows.items in
    let P : Seen → Type 0 = λ s. Grows s (scope_in names ws fs c.view.new.self) in
    subst P c.self.view_is (grown (record { stay = c.joining_laws.ensures.stay; older = c.joining_laws.ensures.older; elements = c.joining_laws.ensures.older_elements; paths = c.joining_laws.ensures.older_paths }) names ws fs c.self.inside.engine c.view.new.self (view c.args.parent c.args.trans) c.in_ok-id.id c.self.invariant.whole c.in_ok-id.ensures.made c.view.ensures.sound tt)
