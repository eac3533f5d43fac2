use Rattle.std.proofs.Common.{[], ◌++◌, List, ℕ, sym, ap, subst, ◌∙◌, arith}
use Rattle.std.specs.Option.{option_to_list}
use Rattle.pdl_machine.specs.Names.{Named, found}
use Rattle.pdl_scope.specs.Holding.{IsHeldFor}
use Rattle.pdl_scope.proofs.HoldingLemmas.{held_bound, same_but_holds, room_for}
use Rattle.pdl_scope.proofs.holding.bind_one.Goals as goal

pub hold_for_name-requires-clause-room : goal.hold_for_name-requires-clause-room
hold_for_name-requires-clause-room c =
    let r = room_for c.args.names.now.entries [] c.requires.held.watches c.requires.held.flows c.args.engine.now c.args.leaving.now.items c.args.id c.requires.held.held in
    omega (arith, r, c.requires.held.held.reads)

pub returns-clause-same : goal.returns-clause-same
returns-clause-same c = same_but_holds c.args.engine.now c.hold_for_name.new.engine c.args.id c.args.leaving.now.items c.hold_for_name.new.leaving.items c.hold_for_name.ensures.held

pub returns-clause-held : goal.returns-clause-held
returns-clause-held c = λ ws fs held.
    let names = c.args.names.now.entries in
    let x = c.args.name in
    let t = c.hold_for_name.new.engine in
    let left = c.hold_for_name.new.leaving.items in
    let N : Named ℕ → Type 0 = λ ns. IsHeldFor ns ws fs t (left ++ option_to_list (found names x)) in
    let L : List ℕ → Type 0 = λ vs. IsHeldFor c.put-had.new.self.entries ws fs t vs in
    subst L (sym (c.note_some.ensures.items ∙ ap (λ o. left ++ option_to_list o) c.put-had.ensures.given_up))
    (subst N (sym c.put-had.ensures.names) (held_bound c.hold_once_laws.ensures.counts c.hold_once_laws.ensures.more names [] ws fs c.args.engine.now t x c.args.id c.args.leaving.now.items left c.holds_law.ensures.each held c.requires.live c.requires.few c.hold_for_name.ensures.held))
