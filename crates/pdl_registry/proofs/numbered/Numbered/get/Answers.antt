use Rattle.std.proofs.Common.{◌≡◌, reverse, Some, None, sym, ◌∙◌, ap, subst}
use Rattle.pdl_registry.specs.Numbered.{IsPlace, Rises, value_at}
use Rattle.pdl_registry.proofs.numbered.Numbered.get.Goals as goal
use Rattle.pdl_registry.proofs.NumberedLemmas.{IsParted, parted, value_after, value_before, value_of}

pub place-requires : goal.place-requires
place-requires g c = subst Rises (sym c.deref.ensures.value) (parted (reverse c.self.inside.settled.entries) c.self.inside.newest.items c.self.invariant.0).after

pub returns-in-Some : goal.returns-in-Some
returns-in-Some g c =
    let es = reverse c.self.inside.settled.entries in
    let fs = c.self.inside.newest.items in
    let p : IsParted es fs = parted es fs c.self.invariant.0 in
    let q : IsPlace fs c.args.id c.in-Some.at = subst (λ l. IsPlace l c.args.id c.in-Some.at) c.deref.ensures.value c.in-Some.ensures.found in
    ap (λ e. Some e.1) c.index.ensures ∙ sym (value_after es fs c.args.id c.in-Some.at c.index.result.now p q) ∙ ap (λ l. value_at l c.args.id) c.self.view_is

pub returns-in-None : goal.returns-in-None
returns-in-None g c =
    let es = reverse c.self.inside.settled.entries in
    let fs = c.self.inside.newest.items in
    let none : value_at fs c.args.id ≡ None = subst (λ l. value_at l c.args.id ≡ None) c.deref.ensures.value c.in-None.ensures.absent in
    c.get.ensures.value ∙ value_of c.self.inside.settled.entries fs c.args.id c.of.result c.of.ensures c.self.invariant.0 ∙ sym (value_before es fs c.args.id none) ∙ ap (λ l. value_at l c.args.id) c.self.view_is
