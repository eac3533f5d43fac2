use Rattle.std.proofs.Common.{◌≡◌, ◌≤◌, ◌+◌, ◌⊎◌, ℕ, false, [], ◌∷◌, ◌++◌, List, Option, Some, inl, inr, length, reverse, refl, sym, ap, subst, ◌∙◌, arith}
use Rattle.std.specs.Option.{option_to_list}
use Rattle.std.proofs.lemmas.List.{reverse-append, reverse-reverse}
use Rattle.std.proofs.lemmas.List.Sums.{sum_by-cons}
use Rattle.pdl_world.specs.Paths.{root_of}
use Rattle.pdl_world.specs.Swept.{is_listed}
use Rattle.pdl_world.specs.World.{World}
use Rattle.pdl_engine.specs.Reading.{IsWarm}
use Rattle.pdl_engine.specs.State.{State as Engine}
use Rattle.pdl_scope.specs.Plans.{AllCanAssign, AreApart, all_assigned, listed, roots_in, values_in}
use Rattle.pdl_scope.specs.declared.following.Change.{Change}
use Rattle.pdl_scope.proofs.PlanLemmas.{IsAfter, IsMadeFirst, all_after, made_next}
use Rattle.pdl_scope.proofs.PlanAssignments.{apart_stays, root_stays}
use Rattle.pdl_scope.proofs.following.assign_all.Goals as goal

-- what is left before one is taken: itself, and then what is left after
left_is : (before after : List Change) (o : Option Change) (d : Change) → before ≡ after ++ option_to_list o → o ≡ Some d → reverse before ≡ d ∷ reverse after
left_is before after o d items is = ap reverse (items ∙ ap (λ (p : Option Change). after ++ option_to_list p) is) ∙ reverse-append after (d ∷ [])

-- what holds of the first once the next is made
first_after : (e t : Engine) (c d : Change) (cs left : List Change) → (IsMadeFirst e c (d ∷ left) → IsMadeFirst t c left) → IsWarm t d.target → root_of t.world d.target ≡ d.root → is_listed (roots_in left) d.root ≡ false
    → IsMadeFirst e c (d ∷ left) ⊎ (d ∷ left ≡ c ∷ cs) → IsMadeFirst t c left
first_after e t c d cs left next warm root apart (inl made) = next made
first_after e t c d cs left next warm root apart (inr is) =
    let same : d ≡ c = ap (λ (xs : List Change). head_or d xs) is in
    subst (λ (x : Change). IsMadeFirst t x left) same (record { warm = warm; root = root; apart = apart })
  where
    head_or : Change → List Change → Change
    head_or x [] = x
    head_or x (y ∷ ys) = y

pub loop-change-init : goal.loop-change-init
loop-change-init g c =
    let all : reverse c.reverse.new.self.items ≡ c.args.plan.items = ap reverse c.reverse.ensures.items ∙ reverse-reverse c.args.plan.items in
    record {
      world = ap (all_assigned c.args.engine.now.world) all;
      can = subst (AllCanAssign c.args.engine.now) (sym all) c.requires.can;
      apart = subst (AreApart c.args.engine.now.world) (sym all) c.requires.apart;
      sound = c.resting_law.ensures.sound;
      holds = refl;
      next = refl;
      first = λ d ds is. inr (all ∙ is);
      counted = omega (arith, ap values_in all);
    }

pub make_change-requires : goal.make_change-requires
make_change-requires g c =
    let e = c.loop-change.engine in
    let d = c.in-Some.change in
    let opened : reverse c.loop-change.plan.items ≡ d ∷ reverse c.pop.new.self.items = left_is c.loop-change.plan.items c.pop.new.self.items c.pop.result d c.pop.ensures.items c.in-Some.is in
    let can : AllCanAssign e (d ∷ reverse c.pop.new.self.items) = subst (AllCanAssign e) opened c.loop-change.invariant.can in
    let apart : AreApart e.world (d ∷ reverse c.pop.new.self.items) = subst (AreApart e.world) opened c.loop-change.invariant.apart in
    record { sound = c.loop-change.invariant.sound; root = apart.0; can = can.0; fit = can.1 }

pub loop-change-preserved : goal.loop-change-preserved
loop-change-preserved g c =
    let e = c.loop-change.engine in
    let t = c.make_change.new.engine in
    let d = c.in-Some.change in
    let rest : List Change = reverse c.pop.new.self.items in
    let looks = c.assignment_laws.ensures.looks in
    let bases = c.assignment_laws.ensures.bases in
    let opened : reverse c.loop-change.plan.items ≡ d ∷ rest = left_is c.loop-change.plan.items c.pop.new.self.items c.pop.result d c.pop.ensures.items c.in-Some.is in
    let can : AllCanAssign e (d ∷ rest) = subst (AllCanAssign e) opened c.loop-change.invariant.can in
    let apart : AreApart e.world (d ∷ rest) = subst (AreApart e.world) opened c.loop-change.invariant.apart in
    let after : IsAfter e t d.target (listed d.values) = record { world = c.make_change.ensures.world; others = c.make_change.ensures.others } in
    let root : root_of t.world d.target ≡ d.root = ap (λ (w : World). root_of w d.target) after.world ∙ root_stays looks e.world d.target d.target (listed d.values) ∙ sym apart.0 in
    let size : Change → ℕ = λ x. length (listed x.values) in
    let sizes : values_in (reverse c.loop-change.plan.items) ≡ size d + values_in rest = ap values_in opened ∙ sum_by-cons size d rest in
    record {
      world = ap (λ (w : World). all_assigned w rest) after.world ∙ sym (ap (all_assigned e.world) opened) ∙ c.loop-change.invariant.world;
      can = all_after looks bases e t d rest after apart.0 apart.1 apart.2 can.2;
      apart = subst (λ (w : World). AreApart w rest) (sym after.world) (apart_stays looks e.world d.target (listed d.values) rest apart.2);
      sound = c.make_change.ensures.sound;
      holds = c.make_change.ensures.holds ∙ c.loop-change.invariant.holds;
      next = c.make_change.ensures.next ∙ c.loop-change.invariant.next;
      first = λ x xs is. inl (first_after e t x d xs rest (made_next looks bases e t x d rest after apart.0) c.make_change.ensures.warm root apart.1
          (subst (λ (ys : List Change). IsMadeFirst e x ys ⊎ (ys ≡ x ∷ xs)) opened (c.loop-change.invariant.first x xs is)));
      counted = omega (arith, sizes, c.make_change.ensures.counted, c.loop-change.invariant.counted);
    }

-- nothing is left
none_left : (cs : List Change) → length cs ≡ 0 → reverse cs ≡ []
none_left [] none = refl
none_left (d ∷ cs) none = absurd (omega (arith, none))

-- the first was made
first_made : (e : Engine) (c : Change) (cs left : List Change) → left ≡ [] → IsMadeFirst e c left ⊎ (left ≡ c ∷ cs) → IsWarm e c.target
first_made e c cs left none (inl made) = made.warm
first_made e c cs left none (inr is) = absurd (omega (arith, ap length (sym none ∙ is)))

pub returns-clause-world : goal.returns-clause-world
returns-clause-world g c =
    let left = none_left c.loop-change.plan.items (sym c.loop-change.plan.ok.0 ∙ c.in_default.ensures.cases.0) in
    sym (ap (all_assigned c.loop-change.engine.world) left) ∙ c.loop-change.invariant.world

pub returns-clause-warm : goal.returns-clause-warm
returns-clause-warm g c = λ d cs is.
    first_made c.loop-change.engine d cs (reverse c.loop-change.plan.items) (none_left c.loop-change.plan.items (sym c.loop-change.plan.ok.0 ∙ c.in_default.ensures.cases.0)) (c.loop-change.invariant.first d cs is)
