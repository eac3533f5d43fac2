-- Those that are left can be made, and with them all are.
use Rattle.std.proofs.Common.{◌≡◌, ◌+◌, ◌≤◌, ◌∷◌, ◌⊎◌, List, length, reverse}
use Rattle.pdl_world.specs.Sound.{IsSound}
use Rattle.pdl_scope.specs.Plans.{AllCanAssign, AreApart, all_assigned, values_in}
use Rattle.pdl_scope.specs.declared.following.Change.{Change}
use Rattle.pdl_scope.proofs.PlanLemmas.{IsMadeFirst}
use Rattle.pdl_scope.proofs.following.assign_all.Given as goal

abbrev pub invariant-loop-change : goal.invariant-loop-change
invariant-loop-change g l = record {
  world : all_assigned l.engine.world (reverse l.plan.items) ≡ all_assigned l.fn.engine.world l.fn.plan.items;
  can : AllCanAssign l.engine (reverse l.plan.items);
  apart : AreApart l.engine.world (reverse l.plan.items);
  sound : IsSound l.engine.world;
  holds : l.engine.holds ≡ l.fn.engine.holds;
  next : l.engine.next ≡ l.fn.engine.next;
  first : (c : Change) (cs : List Change) → l.fn.plan.items ≡ c ∷ cs → IsMadeFirst l.engine c (reverse l.plan.items) ⊎ (reverse l.plan.items ≡ c ∷ cs);
  counted : l.steps + values_in (reverse l.plan.items) ≤ l.fn.steps + values_in l.fn.plan.items;
}

abbrev pub decreases-loop-change : goal.decreases-loop-change
decreases-loop-change g l = length l.plan.items
