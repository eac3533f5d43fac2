-- Statements are counted, and notices have the number of their statement.
use Rattle.std.proofs.Common.{◌≡◌, ℕ, ◌+◌, ℤ, List, [], ◌∷◌, Bool, true, false, Some, None, Result, Ok, Err, refl, sym, subst, arith}
use Rattle.std.specs.Prelude.{if◌then◌else◌, IfOk}
use Rattle.std.specs.List.{All}
use Rattle.std.specs.Ordering.{int_eq}
use Rattle.std.proofs.lemmas.List.Elements.{All-cons}
use Rattle.pdl_lex.specs.Pieces.{Mark, statement, script_too_long}
use Rattle.pdl_lex.specs.declared.Piece.TheVariants.{Whole, TooLong}
use Rattle.pdl_world.specs.World.{World, elements}
use Rattle.pdl_io.specs.Counts.{next_count}
use Rattle.pdl_watch.specs.declared.notice.Notice.{Notice}
use Rattle.pdl_watch.specs.Changes.{changes_from, changes}
use Rattle.pdl_syntax.specs.StatementTree.{StatementTree}
use Rattle.pdl_machine.specs.declared.fault.Fault.{Fault}
use Rattle.pdl_machine.specs.Then.{and_then}
use Rattle.pdl_machine.specs.State.{State}
use Rattle.pdl_machine.specs.Watches.{Watches, notices}
use Rattle.pdl_machine.specs.Step.{Stepped, Done, done, effect}
use Rattle.pdl_machine.specs.Reads.{reads}
use Rattle.pdl_machine.specs.Run.{step_read, mark_step, line_of, fault_ends, counted, after, next_step}
use Rattle.pdl_machine.proofs.RunLemmas.{by_refusal}
use Rattle.pdl_machine.specs.RunLaws.{IsOf, EachIsCounted, NoticesAreNumbered}

pub each_is_counted : EachIsCounted
each_is_counted terms p m = by_refusal (λ q. q.count ≡ next_count p.count) terms p m refl (by_result (next_step p m))
  where
    by_result : (r : Result Done Fault) → (after (fault_ends terms.keep m) (counted p) (line_of m) r).count ≡ next_count p.count
    by_result (Ok d) = refl
    by_result (Err e) = refl

abbrev AreOf : ℕ → List Notice → Type 0
AreOf n ns = All (IsOf n) ns

changes_of : (n p : ℕ) (bs es : List ℤ) → AreOf n (changes_from n p bs es)
changes_of n p [] es = λ k d lt. absurd (omega arith)
changes_of n p (b ∷ bs) [] = λ k d lt. absurd (omega arith)
changes_of n p (b ∷ bs) (e ∷ es) = by_same (int_eq b e) (changes_of n (p + 1) bs es)
  where
    first : Notice
    first = record { statement = n; position = p; before = b; after = e }

    by_same : (same : Bool) → AreOf n (changes_from n (p + 1) bs es) → AreOf n (if same then changes_from n (p + 1) bs es else first ∷ changes_from n (p + 1) bs es)
    by_same true rest = rest
    by_same false rest = All-cons (IsOf n) first (changes_from n (p + 1) bs es) refl rest

notices_of_number : (n : ℕ) (w new : World) (ws : Watches) → All (AreOf n) (notices n w new ws)
notices_of_number n w new [] = λ k d lt. absurd (omega arith)
notices_of_number n w new (None ∷ ws) = All-cons (AreOf n) [] (notices n w new ws) (λ k d lt. absurd (omega arith)) (notices_of_number n w new ws)
notices_of_number n w new (Some v ∷ ws) =
    All-cons (AreOf n) (changes n (elements w v) (elements new v)) (notices n w new ws) (changes_of n 0 (elements w v) (elements new v)) (notices_of_number n w new ws)

abbrev ToldOf : ℕ → Done → Type 0
ToldOf n d = All (AreOf n) d.told

mark_numbered : (n : ℕ) (present : List Bool) (s : State) (m : Mark) → IfOk (mark_step n present s m) (ToldOf n)
mark_numbered n present s (statement (Whole cut)) = by_reading (reads cut.text)
  where
    by_effect : (tree : StatementTree) (x : Stepped) → IfOk (and_then x (λ p. Ok (done n present s tree p))) (ToldOf n)
    by_effect tree (Ok p) = notices_of_number n s.arrays.world p.0.arrays.world p.0.watches
    by_effect tree (Err e) = tt

    by_reading : (r : Result StatementTree Fault) → IfOk (step_read n present s r) (ToldOf n)
    by_reading (Ok tree) = by_effect tree (effect present s tree)
    by_reading (Err e) = tt
mark_numbered n present s (statement (TooLong line)) = tt
mark_numbered n present s (script_too_long line) = tt

pub notices_are_numbered : NoticesAreNumbered
notices_are_numbered terms p m came is =
    let P : Result Done Fault → Type 0 = λ r. IfOk r (ToldOf (next_count p.count)) in
    subst (λ (n : ℕ). ToldOf n came) (sym (each_is_counted terms p m)) (subst P is (mark_numbered (next_count p.count) p.present p.state m))
