use Rattle.std.proofs.Common.{List, ℕ, [], ◌∷◌, ◌++◌, Option, refl, sym, ap, subst, ◌∙◌}
use Rattle.std.specs.Option.{option_to_list}
use Rattle.pdl_machine.specs.Names.{found, without_name}
use Rattle.pdl_machine.specs.Step.{Stepped}
use Rattle.pdl_scope.specs.Answers.{Prints}
use Rattle.pdl_scope.specs.Scope.{machine, names_in, state_in, IsHeld, Scope as Seen}
use Rattle.pdl_scope.proofs.ScopeCuts.{given_up_by, held_same, held_unbound, undone}
use Rattle.pdl_scope.proofs.scope.Scope.undef.Goals as goal

pub invariant_of-self-in-Some : goal.invariant_of-self-in-Some
invariant_of-self-in-Some c =
    let ks = c.self.inside.kernels in
    let ws = c.self.inside.watches.items in
    let fs = c.self.inside.flows.items in
    let e = c.self.inside.engine in
    let had = c.in-Some.had in
    let leaving = c.self.inside.leaving.items in
    let names = c.self.inside.names.entries in
    let x = c.args.name.now in
    let after = c.remove.new.self.entries in
    let O : Option ℕ → Type 0 = λ o. IsHeld (state_in (names_in (without_name names x) ks) ws fs e) e.holds (leaving ++ option_to_list o) in
    held_same (without_name names x) after ks ws fs e (leaving ++ had ∷ []) c.note.new.list.items c.remove.ensures.names (c.note.ensures.items ∙ ap (λ (vs : List ℕ). vs ++ had ∷ []) c.in_ok-reserve.ensures.items)
    (subst O (sym c.remove.ensures.given_up ∙ c.in-Some.is) (held_unbound c.more_held_law.ensures names ks ws fs e x leaving c.self.invariant))

pub returns-in-Some : goal.returns-in-Some
returns-in-Some c =
    let ks = c.self.inside.kernels in
    let ws = c.self.inside.watches.items in
    let fs = c.self.inside.flows.items in
    let e = c.self.inside.engine in
    let names = c.self.inside.names.entries in
    let x = c.args.name.now in
    let after = state_in (names_in c.remove.new.self.entries ks) ws fs e in
    let P : Seen → Type 0 = λ s. Prints (given_up_by (machine s) x (found s.names.arrays x)) after [] [] in
    let Q : Stepped → Type 0 = λ r. Prints r after [] [] in
    subst P c.self.view_is (subst Q (sym (undone (state_in (names_in names ks) ws fs e) x c.in-Some.had (sym c.remove.ensures.given_up ∙ c.in-Some.is)))
    (ap (λ ns. state_in (names_in ns ks) ws fs e) c.remove.ensures.names, refl))
