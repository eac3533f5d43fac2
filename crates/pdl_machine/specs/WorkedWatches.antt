-- Scripts of watchers, worked by hand.
use Rattle.std.specs.Prelude.{◌≡◌, ℕ, ℤ, pos, List, [], ◌∷◌, ◌++◌, length, Bool, true, false, Some, None, Result, Ok, Err, codes}
use Rattle.pdl_lexemes.specs.declared.AssignOp.TheVariants.{Set}
use Rattle.pdl_syntax.specs.Tree.{number, named, none, text}
use Rattle.pdl_syntax.specs.StatementTree.{StatementTree, bind, assign, undef, watch, unwatch}
use Rattle.pdl_watch.specs.declared.notice.Notice.{Notice}
use Rattle.pdl_machine.specs.declared.fault.Fault.{Fault}
use Rattle.pdl_machine.specs.declared.fault.Fault.TheVariants.{UnknownName, BadWatcher, ReshapeBreaks, StillWatched}
use Rattle.pdl_machine.specs.Then.{and_then}
use Rattle.pdl_machine.specs.Watches.{Watches}
use Rattle.pdl_machine.specs.Step.{Done}
use Rattle.pdl_machine.specs.Laws.{shown_by}
use Rattle.pdl_machine.specs.Worked.{nothing_done, all_done, sequence_to, sliced}
use Rattle.pdl_machine.specs.WorkedCuts.{long_array, whole_numbers, pdl, reshape_to}

-- what statements come to where these slots have watchers
abbrev pub watched_by : List Bool → List StatementTree → Result Done Fault
watched_by present xs = all_done 1 (nothing_done present) xs

-- what each slot is told by them
abbrev pub told_by : List Bool → List StatementTree → Result (List (List Notice)) Fault
told_by present xs = and_then (watched_by present xs) (λ d. Ok d.told)

-- the array that each slot is attached to after them, and which slots have a watcher
abbrev pub slots_after : List Bool → List StatementTree → Result (Watches × List Bool) Fault
slots_after present xs = and_then (watched_by present xs) (λ d. Ok (d.state.watches, d.present))

abbrev pub notice : (statement position : ℕ) → (before after : ℤ) → Notice
notice s p b a = record { statement = s; position = p; before = b; after = a }

-- $x = sequence(3); watch $x, 0;
abbrev pub one_watched : List StatementTree
one_watched = bind (codes "x") (sequence_to 3) false ∷ watch (codes "x") 0 ∷ []

-- and then $x->slice("-1:0") .= pdl [5,1,0];
abbrev pub told_through_a_view : List StatementTree
told_through_a_view =
    one_watched
    ++ assign (codes "x") ((codes "slice", text none (codes "-1:0")) ∷ []) Set
    (pdl (pos 5 ∷ pos 1 ∷ pos 0 ∷ [])) ∷ []

-- one notice, of the only position that changed: statement 3, position 2, 2 before and 5 after
pub record AViewTells : Type 0 where
  pub told : told_by (true ∷ []) told_through_a_view
      ≡ Ok ((notice 3 2 (pos 2) (pos 5) ∷ []) ∷ [])
  pub array : and_then (watched_by (true ∷ []) told_through_a_view)
      (λ d. Ok (shown_by d.state (codes "x")))
      ≡ Ok (long_array (3 ∷ []) (whole_numbers (0 ∷ 1 ∷ 5 ∷ [])))

-- and then $y = $x; watch $y, 1;
abbrev pub watched_twice : List StatementTree
watched_twice =
    one_watched ++ bind (codes "y") (named (codes "x")) false ∷ watch (codes "y") 1 ∷ []

-- two slots watch one array, which stays while no name has it; a name that is bound again is not
-- watched any more, and slots behind others are told alike
pub record AWatchKeepsItsArray : Type 0 where
  pub both : told_by (true ∷ true ∷ [])
      (watched_twice ++ assign (codes "y") [] Set (number (pos 1)) ∷ [])
      ≡ Ok ((notice 5 0 (pos 0) (pos 1) ∷ notice 5 2 (pos 2) (pos 1) ∷ [])
      ∷ (notice 5 0 (pos 0) (pos 1) ∷ notice 5 2 (pos 2) (pos 1) ∷ []) ∷ [])
  pub kept : slots_after (true ∷ true ∷ [])
      (watched_twice ++ undef (codes "x") ∷ undef (codes "y") ∷ [])
      ≡ Ok (Some 0 ∷ Some 0 ∷ [], true ∷ true ∷ [])
  pub live : and_then (watched_by (true ∷ true ∷ [])
      (watched_twice ++ undef (codes "x") ∷ undef (codes "y") ∷ []))
      (λ d. Ok (length d.state.arrays.world)) ≡ Ok 1
  pub rebound : told_by (true ∷ [])
      (one_watched ++ bind (codes "x") (sequence_to 3) false
      ∷ assign (codes "x") [] Set (number (pos 7)) ∷ []) ≡ Ok ([] ∷ [])
  pub second_alone : slots_after (true ∷ true ∷ true ∷ [])
      (bind (codes "x") (sequence_to 3) false ∷ watch (codes "x") 1 ∷ [])
      ≡ Ok (None ∷ Some 0 ∷ [], true ∷ true ∷ true ∷ [])

-- `unwatch` takes the slot's watcher, and what it was told before stays told
pub record ASlotIsGivenUp : Type 0 where
  pub slots : slots_after (true ∷ true ∷ []) (one_watched ++ unwatch 0 ∷ [])
      ≡ Ok ([], false ∷ true ∷ [])
  pub behind : slots_after (true ∷ true ∷ [])
      (one_watched ++ watch (codes "x") 1 ∷ unwatch 0 ∷ [])
      ≡ Ok (None ∷ Some 0 ∷ [], false ∷ true ∷ [])
  pub told : told_by (true ∷ [])
      (one_watched ++ assign (codes "x") [] Set (number (pos 0)) ∷ unwatch 0
      ∷ assign (codes "x") [] Set (number (pos 7)) ∷ [])
      ≡ Ok ((notice 3 1 (pos 1) (pos 0) ∷ notice 3 2 (pos 2) (pos 0) ∷ []) ∷ [])

-- $x = sequence(3); $y = $x->slice("1"); watch $y, 0;
abbrev pub view_watched : List StatementTree
view_watched =
    bind (codes "x") (sequence_to 3) false
    ∷ bind (codes "y") (sliced (codes "x") (codes "1")) false ∷ watch (codes "y") 0 ∷ []

-- each refusal of watchers: a slot that isn't there, has no watcher or is attached already; one
-- that isn't attached; and other dimensions for an array that is watched, or through which one is
-- shown
pub record WatchersAreRefused : Type 0 where
  pub name : told_by (true ∷ []) (watch (codes "z") 9 ∷ []) ≡ Err UnknownName
  pub no_slot : told_by [] one_watched ≡ Err BadWatcher
  pub empty_slot : told_by (false ∷ true ∷ []) one_watched ≡ Err BadWatcher
  pub attached_slot : told_by (true ∷ []) (one_watched ++ watch (codes "x") 0 ∷ []) ≡ Err BadWatcher
  pub free_slot : told_by (true ∷ true ∷ []) (one_watched ++ unwatch 1 ∷ []) ≡ Err BadWatcher
  pub given_up : told_by (true ∷ []) (one_watched ++ unwatch 0 ∷ unwatch 0 ∷ []) ≡ Err BadWatcher
  pub again : told_by (true ∷ []) (one_watched ++ unwatch 0 ∷ watch (codes "x") 0 ∷ [])
      ≡ Err BadWatcher
  pub dimensions : told_by (true ∷ []) (one_watched ++ reshape_to (codes "x") (pos 2 ∷ []) ∷ [])
      ≡ Err StillWatched
  pub below : told_by (true ∷ []) (view_watched ++ reshape_to (codes "x") (pos 3 ∷ []) ∷ [])
      ≡ Err StillWatched
  pub breaks_first : told_by (true ∷ [])
      (view_watched ++ reshape_to (codes "x") (pos 1 ∷ []) ∷ []) ≡ Err ReshapeBreaks
  pub aside : told_by (true ∷ [])
      (view_watched ++ bind (codes "z") (sliced (codes "x") (codes "0")) false
      ∷ reshape_to (codes "z") (pos 3 ∷ []) ∷ []) ≡ Ok ([] ∷ [])
