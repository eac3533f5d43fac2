use Rattle.std.proofs.Common.{◌≡◌, ◌≤◌, ◌∷◌, ◌++◌, [], ℕ, List, length, reverse, Option, ap, sym, subst, ◌∙◌}
use Rattle.std.specs.Option.{option_to_list}
use Rattle.std.proofs.lemmas.List.{reverse-append}
use Rattle.pdl_machine.specs.Names.{Named, names_limit}
use Rattle.pdl_scope.specs.Room.{with_names}
use Rattle.pdl_scope.proofs.RoomRoots.{first_fits}
use Rattle.pdl_scope.proofs.holding.bind_all.Goals as goal

pub bind_one-requires-clause-few : goal.bind_one-requires-clause-few
bind_one-requires-clause-few c =
    let x = c.in-Some.name in
    let v = c.in-Some.id in
    let rest = reverse c.pop.new.self.items in
    let popped : reverse c.loop-name.bound.items ≡ (x, v) ∷ rest =
    ap reverse (c.pop.ensures.items ∙ ap (λ (o : Option (List ℕ × ℕ)). c.pop.new.self.items ++ option_to_list o) c.in-Some.is) ∙ reverse-append c.pop.new.self.items ((x, v) ∷ []) in
    let P : Named ℕ → Type 0 = λ names. length names ≤ names_limit in
    first_fits c.loop-name.names.entries rest x v
    (subst P (sym c.loop-name.invariant.names ∙ ap (with_names c.loop-name.names.entries) popped) c.requires.few)

pub bind_one-requires-clause-held : goal.bind_one-requires-clause-held
bind_one-requires-clause-held c =
    let ws = c.requires.held.watches in
    let fs = c.requires.held.flows in
    record { watches = ws; flows = fs; held = c.loop-name.invariant.held ws fs c.requires.held.held }
