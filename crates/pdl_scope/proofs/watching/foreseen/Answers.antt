use Rattle.std.proofs.Common.{◌≡◌, ◌+◌, ◌<◌, length, get_or, None, arith, sym, ap, subst, ◌∙◌}
use Rattle.std.specs.Prelude.{IfSome}
use Rattle.std.proofs.lemmas.List.{take_all}
use Rattle.pdl_world.specs.Sound.{IsLive}
use Rattle.pdl_world.specs.World.{World}
use Rattle.pdl_watch.specs.Slots.{lists_of}
use Rattle.pdl_machine.specs.Watches.{notices, slot_notices}
use Rattle.pdl_scope.specs.Plans.{all_assigned}
use Rattle.pdl_scope.proofs.CostForeseen.{foreseen_first, foreseen_more}
use Rattle.pdl_scope.proofs.PlanLemmas.{planned_kept}
use Rattle.pdl_scope.proofs.ScopeWatches.{lists_more, live_watch, none_watched}
use Rattle.pdl_scope.proofs.watching.foreseen.Goals as goal

pub slot_foreseen-requires-clause-watched : goal.slot_foreseen-requires-clause-watched
slot_foreseen-requires-clause-watched g c =
    let ws = c.args.watches.now in
    let i = c.loop-watch.watch-index in
    let P : World → Type 0 = λ w. IfSome (get_or ws i None) (IsLive w) in
    subst P (sym c.loop-watch.invariant.same.world) (live_watch c.args.engine.now.world ws i c.requires.watched)

pub slot_foreseen-requires-clause-plan : goal.slot_foreseen-requires-clause-plan
slot_foreseen-requires-clause-plan g c = planned_kept c.args.engine.now c.loop-watch.engine c.loop-watch.invariant.same c.loop-watch.invariant.stay c.args.plan.now c.requires.plan

pub returns-in_err-told-clause-quiet : goal.returns-in_err-told-clause-quiet
returns-in_err-told-clause-quiet g c = λ none. c.slot_foreseen.ensures.quiet (none_watched c.args.watches.now c.loop-watch.watch-index none) ∙ c.loop-watch.invariant.quiet none

pub returns-in_err-push-clause-quiet : goal.returns-in_err-push-clause-quiet
returns-in_err-push-clause-quiet g c = λ none. c.slot_foreseen.ensures.quiet (none_watched c.args.watches.now c.loop-watch.watch-index none) ∙ c.loop-watch.invariant.quiet none

pub loop-watch-preserved : goal.loop-watch-preserved
loop-watch-preserved g c =
    let ws = c.args.watches.now in
    let i = c.loop-watch.watch-index in
    let n = c.args.number in
    let same : c.loop-watch.engine.world ≡ c.args.engine.now.world = c.loop-watch.invariant.same.world in
    let within : i < length ws = omega arith in
    record {
      told =
          ap lists_of c.in_ok-push.ensures.items
          ∙ lists_more n c.args.engine.now.world (all_assigned c.args.engine.now.world c.args.plan.now) ws i c.loop-watch.all.items c.in_ok-told.told within c.loop-watch.invariant.told
          (subst (λ (w : World). c.in_ok-told.told.items ≡ slot_notices n w (all_assigned w c.args.plan.now) (get_or ws i None)) same c.in_ok-told.ensures.told);
      same = record {
        world = c.slot_foreseen.ensures.same.world ∙ c.loop-watch.invariant.same.world;
        holds = c.slot_foreseen.ensures.same.holds ∙ c.loop-watch.invariant.same.holds;
        next = c.slot_foreseen.ensures.same.next ∙ c.loop-watch.invariant.same.next;
      };
      stay = λ v fresh. c.slot_foreseen.ensures.stay v (c.loop-watch.invariant.stay v fresh);
      quiet = λ none. c.slot_foreseen.ensures.quiet (none_watched ws i none) ∙ c.loop-watch.invariant.quiet none;
      counted = foreseen_more c.args.engine.now c.loop-watch.engine ws i c.args.steps.now c.loop-watch.steps c.slot_foreseen.new.steps within (live_watch c.args.engine.now.world ws i c.requires.watched) c.resting_law.ensures c.resting_law-in-loop-watch.ensures c.loop-watch.invariant.same c.loop-watch.invariant.stay c.loop-watch.invariant.counted c.slot_foreseen.ensures.counted;
    }

pub returns-clause-told : goal.returns-clause-told
returns-clause-told g c =
    c.loop-watch.invariant.told
    ∙ ap (notices c.args.number c.args.engine.now.world (all_assigned c.args.engine.now.world c.args.plan.now)) (take_all c.loop-watch.watch-index c.args.watches.now (omega arith))

pub returns-clause-counted : goal.returns-clause-counted
returns-clause-counted g c = foreseen_first c.args.engine.now c.args.watches.now c.loop-watch.watch-index c.args.steps.now c.loop-watch.steps c.loop-watch.invariant.counted

pub returns-in_err-told-clause-counted : goal.returns-in_err-told-clause-counted
returns-in_err-told-clause-counted g c =
    let ws = c.args.watches.now in
    let i = c.loop-watch.watch-index in
    let within : i < length ws = omega arith in
    foreseen_first c.args.engine.now ws (i + 1) c.args.steps.now c.slot_foreseen.new.steps
    (foreseen_more c.args.engine.now c.loop-watch.engine ws i c.args.steps.now c.loop-watch.steps c.slot_foreseen.new.steps within (live_watch c.args.engine.now.world ws i c.requires.watched) c.resting_law.ensures c.resting_law-in-loop-watch.ensures c.loop-watch.invariant.same c.loop-watch.invariant.stay c.loop-watch.invariant.counted c.slot_foreseen.ensures.counted)

pub returns-in_err-push-clause-counted : goal.returns-in_err-push-clause-counted
returns-in_err-push-clause-counted g c =
    let ws = c.args.watches.now in
    let i = c.loop-watch.watch-index in
    let within : i < length ws = omega arith in
    foreseen_first c.args.engine.now ws (i + 1) c.args.steps.now c.slot_foreseen.new.steps
    (foreseen_more c.args.engine.now c.loop-watch.engine ws i c.args.steps.now c.loop-watch.steps c.slot_foreseen.new.steps within (live_watch c.args.engine.now.world ws i c.requires.watched) c.resting_law.ensures c.resting_law-in-loop-watch.ensures c.loop-watch.invariant.same c.loop-watch.invariant.stay c.loop-watch.invariant.counted c.slot_foreseen.ensures.counted)
