use Rattle.std.proofs.Common.{◌≤◌, [], ◌∷◌, length, reverse, sym, ◌∙◌, subst, arith}
use Rattle.std.proofs.lemmas.List.{length-append}
use Rattle.pdl_registry.specs.Numbered.{Rises, most_newest}
use Rattle.pdl_registry.proofs.numbered.Numbered.insert.Goals as goal
use Rattle.pdl_registry.proofs.NumberedLemmas.{put_pushed}

pub invariant_of-self-2 : goal.invariant_of-self-2
invariant_of-self-2 g c = (
  (put_pushed (reverse c.settle.new.settled.entries) c.settle.new.newest.items c.push.new.self.items c.args.self.now c.args.id c.args.value (c.settle.ensures.same ∙ c.self.view_is) (subst Rises c.self.view_is c.self.invariant.0) c.requires.above c.in_ok-push.ensures.items).1,
  subst (λ l. length l ≤ most_newest) (sym c.in_ok-push.ensures.items) (omega (arith, length-append c.settle.new.newest.items ((c.args.id, c.args.value) ∷ []), c.in_ok-settle.ensures.room)),
)

pub returns-clause-put : goal.returns-clause-put
returns-clause-put g c = (put_pushed (reverse c.settle.new.settled.entries) c.settle.new.newest.items c.push.new.self.items c.args.self.now c.args.id c.args.value (c.settle.ensures.same ∙ c.self.view_is) (subst Rises c.self.view_is c.self.invariant.0) c.requires.above c.in_ok-push.ensures.items).0

pub returns-clause-rises : goal.returns-clause-rises
returns-clause-rises g c = (put_pushed (reverse c.settle.new.settled.entries) c.settle.new.newest.items c.push.new.self.items c.args.self.now c.args.id c.args.value (c.settle.ensures.same ∙ c.self.view_is) (subst Rises c.self.view_is c.self.invariant.0) c.requires.above c.in_ok-push.ensures.items).1
