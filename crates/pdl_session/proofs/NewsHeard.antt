-- Slots whose watchers heard of a step, whole or in part.
use Rattle.std.proofs.Common.{◌≡◌, ℕ, ◌≤◌, List, length, Bool, false, Result, Ok, sym, ap, subst, ◌∙◌, inl, inr}
use Rattle.std.specs.Prelude.{slice_set}
use Rattle.pdl_syntax.specs.StatementTree.{StatementTree, assign, unwatch}
use Rattle.pdl_watch.specs.declared.notice.Notice.{Notice}
use Rattle.pdl_watch.specs.Slots.{Slots, all_told, emptied, present_in, IsQuiet, IsBelow, AreOpen, StopsInTurn, EndsShort, OneMissed}
use Rattle.pdl_watch.specs.SlotLaws.{StopsAreShort, EndsAreShort, StopsMissOne, EndsMissOne, QuietTellsNone, TellingKeepsAll, EmptyingLeaves, NoneIsEmptied, EndedIsEmptied, TellingKeepsLength, EmptyingKeepsLength, TellingKeepsOpen, EmptyingKeepsOpen}
use Rattle.pdl_machine.specs.declared.fault.Fault.{Fault}
use Rattle.pdl_machine.specs.Laws.{Assigns, StepsGiveNone, StepsKeepThere}
use Rattle.pdl_machine.specs.State.{State}
use Rattle.pdl_machine.specs.Step.{Done, step, left}
use Rattle.pdl_machine.specs.Watches.{AreThere}
use Rattle.pdl_scope.specs.Scope.{slots_limit}
use Rattle.pdl_session.specs.declared.news.News.{News}
use Rattle.pdl_session.specs.declared.news.News.TheVariants.{Notices, End, Nothing}
use Rattle.pdl_session.specs.Advanced.{HasAdvanced}
use Rattle.pdl_session.specs.News.{IsNotices, IsNewsOf, heard, IsHeardShort}
use Rattle.pdl_session.specs.Watching.{AreServed, HasDone, HasRun, StopsStep}

-- slots that no one was told to leave are all there
none_left : TellingKeepsAll → NoneIsEmptied → (ss : Slots) (told : List (List Notice)) → all_told ss told ≡ emptied (all_told ss told) (present_in ss)
none_left keeps none ss told = sym (ap (emptied (all_told ss told)) (sym (keeps ss told)) ∙ none (all_told ss told))

quiet_left : QuietTellsNone → TellingKeepsAll → NoneIsEmptied → (ss : Slots) (told : List (List Notice)) → IsQuiet told → ss ≡ emptied (all_told ss told) (present_in ss)
quiet_left quiet_none keeps none ss told quiet = sym (quiet_none ss told quiet) ∙ none_left keeps none ss told

notices_heard : TellingKeepsAll → NoneIsEmptied → (ss : Slots) (told : List (List Notice)) (news : News) → IsNotices told news → heard ss news ≡ emptied (all_told ss told) (present_in ss)
notices_heard keeps none ss told (Notices all) is = ap (all_told ss) is ∙ none_left keeps none ss told
notices_heard keeps none ss told (End k) is = absurd is
notices_heard keeps none ss told Nothing is = absurd is

-- the slots after a statement's news are told its notices, and emptied where it gave one up
pub heard_is : (st : StatementTree) (ss : Slots) (told : List (List Notice)) (news : News) → QuietTellsNone → TellingKeepsAll → NoneIsEmptied → EndedIsEmptied
    → IsNewsOf st told news → ((Assigns st → ⊥) → IsQuiet told) → heard ss news ≡ emptied (all_told ss told) (left (present_in ss) st)
heard_is (assign x views sign e) ss told news quiet_none keeps none ended is quiet = notices_heard keeps none ss told news is
heard_is (unwatch k) ss told news quiet_none keeps none ended is quiet =
    ap (heard ss) is ∙ ended ss k ∙ ap (λ (r : Slots). emptied r (slice_set (present_in ss) k false)) (sym (quiet_none ss told (quiet (λ a. a))))
heard_is _ ss told news quiet_none keeps none ended is quiet =
    ap (heard ss) is ∙ quiet_left quiet_none keeps none ss told (quiet (λ a. a))

-- a step whose watchers heard of it
pub has_done : {number : ℕ} {old new : State} {st : StatementTree} {o n : List ℕ} {news : News} (ss now : Slots) → QuietTellsNone → TellingKeepsAll → NoneIsEmptied → EndedIsEmptied
    → HasAdvanced number (present_in ss) old new st o n news → now ≡ heard ss news → HasDone (step number (present_in ss) old st) new o n ss now
has_done {st = st} {news = news} ss now quiet_none keeps none ended ran is = record {
  done = ran.done;
  is = ran.is;
  state = ran.state;
  printed = ran.printed;
  slots = is ∙ heard_is st ss ran.done.told news quiet_none keeps none ended ran.news_of ran.quiet
      ∙ ap (emptied (all_told ss ran.done.told)) (sym ran.left);
}

-- a step that has run, whatever its watchers heard
pub has_run : {number : ℕ} {old new : State} {st : StatementTree} {o n : List ℕ} {news : News} (ss : Slots)
    → HasAdvanced number (present_in ss) old new st o n news → HasRun (step number (present_in ss) old st) new o n
has_run ss ran = record { done = ran.done; is = ran.is; state = ran.state; printed = ran.printed }

notices_short : StopsAreShort → StopsMissOne → {wanted : Result Done Fault} (done : Done) (ss now : Slots) (news : News) → wanted ≡ Ok done → IsNotices done.told news → IsHeardShort ss news now
    → StopsStep wanted ss now × OneMissed ss now
notices_short stops stops_one done ss now (Notices all) is told h =
    let turn : StopsInTurn ss done.told now = subst (λ (ns : List (List Notice)). StopsInTurn ss ns now) told h in
    (record { done = done; is = is; turn = inl turn; short = stops ss done.told now turn }, stops_one ss done.told now turn)
notices_short stops stops_one done ss now (End k) is told h = absurd told
notices_short stops stops_one done ss now Nothing is told h = absurd told

end_short : EndsAreShort → EndsMissOne → {wanted : Result Done Fault} (done : Done) (ss now : Slots) (k : ℕ) → wanted ≡ Ok done → done.present ≡ slice_set (present_in ss) k false → EndsShort ss k now
    → StopsStep wanted ss now × OneMissed ss now
end_short ends ends_one done ss now k is gone h =
    (record { done = done; is = is; turn = inr (k, gone, h); short = ends ss k done.told now h }, ends_one ss k now h)

heard_short : (st : StatementTree) → StopsAreShort → StopsMissOne → EndsAreShort → EndsMissOne → {wanted : Result Done Fault} (done : Done) (ss now : Slots) (news : News)
    → wanted ≡ Ok done → done.present ≡ left (present_in ss) st → IsNewsOf st done.told news → IsHeardShort ss news now → StopsStep wanted ss now × OneMissed ss now
heard_short (assign x views sign e) stops stops_one ends ends_one done ss now news is gone told h = notices_short stops stops_one done ss now news is told h
heard_short (unwatch k) stops stops_one ends ends_one done ss now news is gone told h =
    end_short ends ends_one done ss now k is gone (subst (λ (m : News). IsHeardShort ss m now) told h)
heard_short _ stops stops_one ends ends_one done ss now news is gone told h = absurd (subst (λ (m : News). IsHeardShort ss m now) told h)

-- a step that stopped at a watcher's failure
pub stops_step : {number : ℕ} {old new : State} {st : StatementTree} {o n : List ℕ} {news : News} (ss now : Slots) → StopsAreShort → StopsMissOne → EndsAreShort → EndsMissOne
    → HasAdvanced number (present_in ss) old new st o n news → IsHeardShort ss news now
    → StopsStep (step number (present_in ss) old st) ss now × OneMissed ss now
stops_step {st = st} {news = news} ss now stops stops_one ends ends_one ran h =
    heard_short st stops stops_one ends ends_one ran.done ss now news ran.is ran.left ran.news_of h

-- after a step slots are served again
pub served_after : (number : ℕ) (old new : State) (st : StatementTree) {o n : List ℕ} (ss now : Slots) → TellingKeepsAll → EmptyingLeaves → TellingKeepsLength → EmptyingKeepsLength → TellingKeepsOpen
    → EmptyingKeepsOpen → StepsGiveNone → StepsKeepThere → AreServed old.watches ss → HasDone (step number (present_in ss) old st) new o n ss now → AreServed new.watches now
served_after number old new st ss now keeps leaves told_long long told_open stay_open none_comes there served ran = record {
  unfinished = subst AreOpen (sym ran.slots) (stay_open (all_told ss told) present (told_open ss told served.unfinished));
  few = subst (λ (m : ℕ). m ≤ slots_limit) (sym (ap length ran.slots ∙ long (all_told ss told) present ∙ told_long ss told)) served.few;
  there = subst (λ (ps : List Bool). AreThere ps new.watches) (sym present_is)
      (subst (λ (s : State). AreThere present s.watches) (sym ran.state) (there number (present_in ss) old st ran.done served.there ran.is));
} where
  told : List (List Notice)
  told = ran.done.told

  present : List Bool
  present = ran.done.present

  present_is : present_in now ≡ present
  present_is = ap present_in ran.slots
      ∙ leaves (all_told ss told) present (subst (λ (ps : List Bool). IsBelow present ps) (sym (keeps ss told)) (none_comes number (present_in ss) old st ran.done ran.is))
