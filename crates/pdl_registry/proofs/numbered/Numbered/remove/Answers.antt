use Rattle.std.proofs.Common.{◌≡◌, ◌≤◌, ◌++◌, length, reverse, true, false, Some, None, sym, ◌∙◌, ap, subst, arith}
use Rattle.std.proofs.lemmas.List.Edits.{length-remove}
use Rattle.std.specs.List.{remove}
use Rattle.pdl_registry.specs.Numbered.{IsPlace, IsPut, Rises, most_newest, value_at}
use Rattle.pdl_registry.proofs.numbered.Numbered.remove.Goals as goal
use Rattle.pdl_registry.proofs.NumberedLemmas.{parted, put_settled, remove_newest, value_after, value_before, value_of}

pub place-requires : goal.place-requires
place-requires g c = subst Rises (sym c.deref.ensures.value) (parted (reverse c.self.inside.settled.entries) c.self.inside.newest.items c.self.invariant.0).after

-- one of the newest
pub invariant_of-self : goal.invariant_of-self
invariant_of-self g c =
    let q : IsPlace c.self.inside.newest.items c.args.id c.in-Some.at = subst (λ l. IsPlace l c.args.id c.in-Some.at) c.deref.ensures.value c.in-Some.ensures.found in (
      subst (λ l. Rises (reverse c.self.inside.settled.entries ++ l)) (sym c.remove-taken.ensures.items) (remove_newest (reverse c.self.inside.settled.entries) c.self.inside.newest.items c.args.id c.in-Some.at c.self.invariant.0 q).1,
      subst (λ l. length l ≤ most_newest) (sym c.remove-taken.ensures.items) (omega (arith, length-remove c.self.inside.newest.items c.in-Some.at q.in_range, c.self.invariant.1)),
    )

pub returns-in-Some-clause-taken : goal.returns-in-Some-clause-taken
returns-in-Some-clause-taken g c =
    let es = reverse c.self.inside.settled.entries in
    let fs = c.self.inside.newest.items in
    ap (λ e. Some e.1) c.remove-taken.ensures.value ∙ sym (value_after es fs c.args.id c.in-Some.at c.remove-taken.result (parted es fs c.self.invariant.0) (subst (λ l. IsPlace l c.args.id c.in-Some.at) c.deref.ensures.value c.in-Some.ensures.found)) ∙ ap (λ l. value_at l c.args.id) c.self.view_is

pub returns-in-Some-clause-put : goal.returns-in-Some-clause-put
returns-in-Some-clause-put g c =
    let es = reverse c.self.inside.settled.entries in
    let fs = c.self.inside.newest.items in
    subst (λ l. IsPut c.args.self.now (es ++ l) c.args.id None) (sym c.remove-taken.ensures.items) (subst (λ l. IsPut l (es ++ remove fs c.in-Some.at) c.args.id None) c.self.view_is (remove_newest (reverse c.self.inside.settled.entries) c.self.inside.newest.items c.args.id c.in-Some.at c.self.invariant.0 (subst (λ l. IsPlace l c.args.id c.in-Some.at) c.deref.ensures.value c.in-Some.ensures.found)).0)

pub returns-in-Some-clause-rises : goal.returns-in-Some-clause-rises
returns-in-Some-clause-rises g c = subst (λ l. Rises (reverse c.self.inside.settled.entries ++ l)) (sym c.remove-taken.ensures.items) (remove_newest (reverse c.self.inside.settled.entries) c.self.inside.newest.items c.args.id c.in-Some.at c.self.invariant.0 (subst (λ l. IsPlace l c.args.id c.in-Some.at) c.deref.ensures.value c.in-Some.ensures.found)).1

-- one of the map
pub invariant_of-self-in-None : goal.invariant_of-self-in-None
invariant_of-self-in-None g c = ((put_settled c.self.inside.settled c.remove.new.self c.self.inside.newest.items c.args.id c.of.result None c.of.ensures c.self.invariant.0 (subst (λ l. value_at l c.args.id ≡ None) c.deref.ensures.value c.in-None.ensures.absent) (λ h. let z : false ≡ true = h in absurd (cc)) c.remove.ensures.ordered c.remove.ensures.updates).1, c.self.invariant.1)

pub returns-in-None-clause-taken : goal.returns-in-None-clause-taken
returns-in-None-clause-taken g c = c.remove.ensures.value ∙ value_of c.self.inside.settled.entries c.self.inside.newest.items c.args.id c.of.result c.of.ensures c.self.invariant.0 ∙ sym (value_before (reverse c.self.inside.settled.entries) c.self.inside.newest.items c.args.id (subst (λ l. value_at l c.args.id ≡ None) c.deref.ensures.value c.in-None.ensures.absent)) ∙ ap (λ l. value_at l c.args.id) c.self.view_is

pub returns-in-None-clause-put : goal.returns-in-None-clause-put
returns-in-None-clause-put g c = subst (λ l. IsPut l (reverse c.remove.new.self.entries ++ c.self.inside.newest.items) c.args.id None) c.self.view_is (put_settled c.self.inside.settled c.remove.new.self c.self.inside.newest.items c.args.id c.of.result None c.of.ensures c.self.invariant.0 (subst (λ l. value_at l c.args.id ≡ None) c.deref.ensures.value c.in-None.ensures.absent) (λ h. let z : false ≡ true = h in absurd (cc)) c.remove.ensures.ordered c.remove.ensures.updates).0

pub returns-in-None-clause-rises : goal.returns-in-None-clause-rises
returns-in-None-clause-rises g c = (put_settled c.self.inside.settled c.remove.new.self c.self.inside.newest.items c.args.id c.of.result None c.of.ensures c.self.invariant.0 (subst (λ l. value_at l c.args.id ≡ None) c.deref.ensures.value c.in-None.ensures.absent) (λ h. let z : false ≡ true = h in absurd (cc)) c.remove.ensures.ordered c.remove.ensures.updates).1
