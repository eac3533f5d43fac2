use Rattle.std.proofs.Common.{◌≡◌, reverse, Some, None, sym, ◌∙◌, ap, subst}
use Rattle.std.specs.Option.{option_or}
use Rattle.pdl_registry.proofs.numbered.Numbered.from.Goals as goal
use Rattle.pdl_registry.proofs.NumberedLemmas.{first_append, first_of, last_between, none_between}

pub returns-in-Some : goal.returns-in-Some
returns-in-Some g c =
    let es = c.self.inside.settled.entries in
    let fs = c.self.inside.newest.items in
    let last : first_of (reverse es) c.args.id ≡ Some c.in-Some.first.now = subst (λ n. first_of (reverse es) n ≡ Some c.in-Some.first.now) c.of.ensures (last_between es c.next_back.new.self c.of.result c.in-Some.first.now c.in-Some.field-0-1.now (sym (c.range.ensures.between tt) ∙ c.in-Some.ensures.steps)) in
    ap Some c.number.ensures ∙ sym (ap (λ l. first_of l c.args.id) (sym c.self.view_is) ∙ first_append (reverse es) fs c.args.id ∙ ap (λ o. option_or o (first_of fs c.args.id)) last)

pub returns-in-None : goal.returns-in-None
returns-in-None g c =
    let es = c.self.inside.settled.entries in
    let fs = c.self.inside.newest.items in
    let none : first_of (reverse es) c.args.id ≡ None = subst (λ n. first_of (reverse es) n ≡ None) c.of.ensures (none_between es c.of.result (sym (c.range.ensures.between tt) ∙ c.in-None.ensures.steps.0)) in
    c.first_of.ensures ∙ ap (λ l. first_of l c.args.id) c.deref.ensures.value
    ∙ sym (ap (λ l. first_of l c.args.id) (sym c.self.view_is) ∙ first_append (reverse es) fs c.args.id ∙ ap (λ o. option_or o (first_of fs c.args.id)) none)
