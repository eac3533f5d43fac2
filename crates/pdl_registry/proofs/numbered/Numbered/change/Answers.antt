use Rattle.std.proofs.Common.{rules, ◌≡◌, ◌≤◌, ◌++◌, reverse, set, is_some, Some, None, sym, ◌∙◌, ap, subst}
use Rattle.std.proofs.lemmas.List.{length-set}
use Rattle.pdl_registry.specs.Numbered.{IsPlace, Rises, most_newest, value_at}
use Rattle.pdl_registry.proofs.numbered.Numbered.change.Goals as goal
use Rattle.pdl_registry.proofs.NumberedLemmas.{parted, put_newest, change_settled, value_after, value_before, value_of}

pub place-requires : goal.place-requires
place-requires g c = subst Rises (sym c.deref.ensures.value) (parted (reverse c.self.inside.settled.entries) c.self.inside.newest.items c.self.invariant.0).after

-- one of the newest
pub by-value-requires : goal.by-value-requires
by-value-requires g c =
    let es = reverse c.self.inside.settled.entries in
    let fs = c.self.inside.newest.items in
    let q : IsPlace fs c.args.id c.in-Some.at = subst (λ l. IsPlace l c.args.id c.in-Some.at) c.deref.ensures.value c.in-Some.ensures.found in
    c.requires c.index.result.now.1 (sym (ap (λ e. Some e.1) c.index.ensures ∙ sym (value_after es fs c.args.id c.in-Some.at c.index.result.now (parted es fs c.self.invariant.0) q) ∙ ap (λ l. value_at l c.args.id) c.self.view_is))

pub invariant_of-self : goal.invariant_of-self
invariant_of-self g c = (
  (put_newest (reverse c.self.inside.settled.entries) c.self.inside.newest.items c.args.id c.in-Some.at c.by-value.result c.self.invariant.0 (subst (λ l. IsPlace l c.args.id c.in-Some.at) c.deref.ensures.value c.in-Some.ensures.found)).1,
  subst (λ n. n ≤ most_newest) (sym (length-set c.self.inside.newest.items c.in-Some.at (c.args.id, c.by-value.result))) c.self.invariant.1,
)

pub returns-in-Some-clause-here : goal.returns-in-Some-clause-here
returns-in-Some-clause-here g c =
    let es = reverse c.self.inside.settled.entries in
    let fs = c.self.inside.newest.items in
    let q : IsPlace fs c.args.id c.in-Some.at = subst (λ l. IsPlace l c.args.id c.in-Some.at) c.deref.ensures.value c.in-Some.ensures.found in
    let old : value_at c.args.self.now c.args.id ≡ Some c.index.result.now.1 = sym (ap (λ e. Some e.1) c.index.ensures ∙ sym (value_after es fs c.args.id c.in-Some.at c.index.result.now (parted es fs c.self.invariant.0) q) ∙ ap (λ l. value_at l c.args.id) c.self.view_is) in
    let new : value_at (es ++ set fs c.in-Some.at (c.args.id, c.by-value.result)) c.args.id ≡ Some c.by-value.result = (put_newest es fs c.args.id c.in-Some.at c.by-value.result c.self.invariant.0 q).0.here in
    rw (old, new) c.by-value.ensures

pub returns-in-Some-clause-others : goal.returns-in-Some-clause-others
returns-in-Some-clause-others g c = λ u n. (put_newest (reverse c.self.inside.settled.entries) c.self.inside.newest.items c.args.id c.in-Some.at c.by-value.result c.self.invariant.0 (subst (λ l. IsPlace l c.args.id c.in-Some.at) c.deref.ensures.value c.in-Some.ensures.found)).0.others u n ∙ ap (λ l. value_at l u) c.self.view_is

pub returns-in-Some-clause-rises : goal.returns-in-Some-clause-rises
returns-in-Some-clause-rises g c = (put_newest (reverse c.self.inside.settled.entries) c.self.inside.newest.items c.args.id c.in-Some.at c.by-value.result c.self.invariant.0 (subst (λ l. IsPlace l c.args.id c.in-Some.at) c.deref.ensures.value c.in-Some.ensures.found)).1

-- one of the map
pub by-requires : goal.by-requires
by-requires g c =
    let fs = c.self.inside.newest.items in
    let none : value_at fs c.args.id ≡ None = subst (λ l. value_at l c.args.id ≡ None) c.deref.ensures.value c.in-None.ensures.absent in
    c.requires c.in-Some-get_mut.kept.now (sym (c.in-Some-get_mut.ensures.value ∙ value_of c.self.inside.settled.entries fs c.args.id c.of.result c.of.ensures c.self.invariant.0 ∙ sym (value_before (reverse c.self.inside.settled.entries) fs c.args.id none) ∙ ap (λ l. value_at l c.args.id) c.self.view_is))

pub invariant_of-self-in-Some-get_mut : goal.invariant_of-self-in-Some-get_mut
invariant_of-self-in-Some-get_mut g c =
    let none : value_at c.self.inside.newest.items c.args.id ≡ None = subst (λ l. value_at l c.args.id ≡ None) c.deref.ensures.value c.in-None.ensures.absent in
    let written = c.get_mut.follows.holds c.by.result in
    let both = change_settled c.self.inside.settled (c.get_mut.follows.lender c.by.result) c.self.inside.newest.items c.args.id c.of.result c.in-Some-get_mut.kept.now c.by.result c.of.ensures c.self.invariant.0 none c.in-Some-get_mut.ensures.value written.4 (written.3 (sym (ap is_some c.in-Some-get_mut.ensures.value))) in
    (both.1, c.self.invariant.1)

pub returns-in-Some-get_mut-clause-here : goal.returns-in-Some-get_mut-clause-here
returns-in-Some-get_mut-clause-here g c =
    let es = reverse c.self.inside.settled.entries in
    let fs = c.self.inside.newest.items in
    let none : value_at fs c.args.id ≡ None = subst (λ l. value_at l c.args.id ≡ None) c.deref.ensures.value c.in-None.ensures.absent in
    let kept : Some c.in-Some-get_mut.kept.now ≡ value_at es c.args.id = c.in-Some-get_mut.ensures.value ∙ value_of c.self.inside.settled.entries fs c.args.id c.of.result c.of.ensures c.self.invariant.0 in
    let old : value_at c.args.self.now c.args.id ≡ Some c.in-Some-get_mut.kept.now = sym (kept ∙ sym (value_before es fs c.args.id none) ∙ ap (λ l. value_at l c.args.id) c.self.view_is) in
    let written = c.get_mut.follows.holds c.by.result in
    let both = change_settled c.self.inside.settled (c.get_mut.follows.lender c.by.result) c.self.inside.newest.items c.args.id c.of.result c.in-Some-get_mut.kept.now c.by.result c.of.ensures c.self.invariant.0 none c.in-Some-get_mut.ensures.value written.4 (written.3 (sym (ap is_some c.in-Some-get_mut.ensures.value))) in
    let new : value_at (reverse (c.get_mut.follows.lender c.by.result).entries ++ fs) c.args.id ≡ Some c.by.result = both.0.here in
    rw (old, new) c.by.ensures

pub returns-in-Some-get_mut-clause-others : goal.returns-in-Some-get_mut-clause-others
returns-in-Some-get_mut-clause-others g c =
    let none : value_at c.self.inside.newest.items c.args.id ≡ None = subst (λ l. value_at l c.args.id ≡ None) c.deref.ensures.value c.in-None.ensures.absent in
    let written = c.get_mut.follows.holds c.by.result in
    let both = change_settled c.self.inside.settled (c.get_mut.follows.lender c.by.result) c.self.inside.newest.items c.args.id c.of.result c.in-Some-get_mut.kept.now c.by.result c.of.ensures c.self.invariant.0 none c.in-Some-get_mut.ensures.value written.4 (written.3 (sym (ap is_some c.in-Some-get_mut.ensures.value))) in
    λ u n. both.0.others u n ∙ ap (λ l. value_at l u) c.self.view_is

pub returns-in-Some-get_mut-clause-rises : goal.returns-in-Some-get_mut-clause-rises
returns-in-Some-get_mut-clause-rises g c =
    let none : value_at c.self.inside.newest.items c.args.id ≡ None = subst (λ l. value_at l c.args.id ≡ None) c.deref.ensures.value c.in-None.ensures.absent in
    let written = c.get_mut.follows.holds c.by.result in
    let both = change_settled c.self.inside.settled (c.get_mut.follows.lender c.by.result) c.self.inside.newest.items c.args.id c.of.result c.in-Some-get_mut.kept.now c.by.result c.of.ensures c.self.invariant.0 none c.in-Some-get_mut.ensures.value written.4 (written.3 (sym (ap is_some c.in-Some-get_mut.ensures.value))) in
    both.1

-- none
pub returns-in-None-get_mut-clause-here : goal.returns-in-None-get_mut-clause-here
returns-in-None-get_mut-clause-here g c =
    let fs = c.self.inside.newest.items in
    let none : value_at fs c.args.id ≡ None = subst (λ l. value_at l c.args.id ≡ None) c.deref.ensures.value c.in-None.ensures.absent in
    let old : value_at c.args.self.now c.args.id ≡ None = sym (c.in-None-get_mut.ensures.value ∙ value_of c.self.inside.settled.entries fs c.args.id c.of.result c.of.ensures c.self.invariant.0 ∙ sym (value_before (reverse c.self.inside.settled.entries) fs c.args.id none) ∙ ap (λ l. value_at l c.args.id) c.self.view_is) in
    let same : c.get_mut.follows.lender-at-none ≡ c.self.inside.settled = search rules in
    let new : value_at (reverse c.get_mut.follows.lender-at-none.entries ++ fs) c.args.id ≡ None = ap (λ m. value_at (reverse m.entries ++ fs) c.args.id) same ∙ ap (λ l. value_at l c.args.id) c.self.view_is ∙ old in
    rw old new
