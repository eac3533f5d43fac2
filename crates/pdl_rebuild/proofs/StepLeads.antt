-- Steps that are quiet, one after another.
use Rattle.std.proofs.Common.{◌≡◌, ℕ, suc, ◌+◌, Bool, true, false, List, [], ◌∷◌, ◌++◌, length, refl, sym, ◌∙◌, ap, arith, map}
use Rattle.std.specs.Prelude.{Some, None, Result, Ok, Err, is_some}
use Rattle.std.specs.List.{list_any}
use Rattle.pdl_syntax.specs.StatementTree.{StatementTree}
use Rattle.pdl_watch.specs.declared.notice.Notice.{Notice}
use Rattle.pdl_watch.specs.Slots.{joined}
use Rattle.pdl_world.specs.World.{World}
use Rattle.pdl_machine.specs.declared.fault.Fault.{Fault}
use Rattle.pdl_machine.specs.State.{State}
use Rattle.pdl_machine.specs.Step.{Done, effect, left, done, step}
use Rattle.pdl_machine.specs.Then.{and_then}
use Rattle.pdl_machine.specs.Tidy.{tidy}
use Rattle.pdl_machine.specs.Watches.{Watches, notices}
use Rattle.pdl_machine.specs.Worked.{done_behind, all_done}
use Rattle.pdl_rebuild.specs.Steps.{quietly, Leads, AllLead}

-- no notices of each slot
abbrev untold : Watches → List (List Notice)
untold ws = map (λ w. []) ws

idle_untold : (number : ℕ) (before after : World) (ws : Watches) → list_any is_some ws ≡ false → notices number before after ws ≡ untold ws
idle_untold number before after [] idle = refl
idle_untold number before after (None ∷ ws) idle = ap (λ ns. [] ∷ ns) (idle_untold number before after ws idle)
idle_untold number before after (Some v ∷ ws) idle = absurd (true_false idle) where
  true_false : true ≡ false → ⊥
  true_false e = cc

-- a statement that isn't `unwatch`: its effect, and what is tidied of it
pub leads_by : (ws : Watches) (s t : State) (u : State) (x : StatementTree) → list_any is_some ws ≡ false → t.watches ≡ ws → u.watches ≡ ws
    → ((present : List Bool) → left present x ≡ present)
    → ((present : List Bool) → effect present s x ≡ Ok (t, [])) → tidy t ≡ u → Leads s x u
leads_by ws s t u x idle at_t at_u stays is tidied number present =
    ap (λ r. and_then r (λ after. Ok (done number present s x after))) (is present)
    ∙ ap (λ p. Ok (record { state = tidy t; text = []; told = notices number s.arrays.world t.arrays.world t.watches; present = p })) (stays present)
    ∙ ap (λ ns. Ok (record { state = tidy t; text = []; told = ns; present = present })) told_is
    ∙ ap (λ v. Ok (record { state = v; text = []; told = untold u.watches; present = present })) tidied
  where
    told_is : notices number s.arrays.world t.arrays.world t.watches ≡ untold u.watches
    told_is = ap (notices number s.arrays.world t.arrays.world) at_t ∙ idle_untold number s.arrays.world t.arrays.world ws idle ∙ ap untold (sym at_u)

joined_untold : (ws : Watches) → joined (untold ws) (untold ws) ≡ untold ws
joined_untold [] = refl
joined_untold (w ∷ ws) = ap (λ ns. [] ∷ ns) (joined_untold ws)

-- no statement leads nowhere
pub none_lead : (s : State) → AllLead s [] s
none_lead s number present = refl

-- the first statement, and then the others
pub first_leads : (s t u : State) (x : StatementTree) (xs : List StatementTree) → t.watches ≡ s.watches → Leads s x t → AllLead t xs u → AllLead s (x ∷ xs) u
first_leads s t u x xs same first others number present =
    ap (λ r. and_then r (λ e. all_done (number + 1) (done_behind (quietly present s) e) xs)) (first number present)
    ∙ ap (λ ns. all_done (number + 1) (record { state = t; text = []; told = ns; present = present }) xs)
    (ap (λ ws. joined (untold ws) (untold t.watches)) (sym same) ∙ joined_untold t.watches)
    ∙ others (number + 1) present

-- statements behind others go on from what these come to
done_append : (number : ℕ) (d : Done) (xs ys : List StatementTree) → all_done number d (xs ++ ys) ≡ and_then (all_done number d xs) (λ e. all_done (number + length xs) e ys)
done_append number d [] ys = ap (λ n. all_done n d ys) (plus_zero number) where
  plus_zero : (n : ℕ) → n ≡ n + 0
  plus_zero n = omega arith
done_append number d (x ∷ xs) ys = by_step (step number d.present d.state x) (λ e. done_append (number + 1) (done_behind d e) xs ys ∙ ap (λ n. and_then (all_done (number + 1) (done_behind d e) xs) (λ f. all_done n f ys)) (plus_suc number (length xs))) where
  plus_suc : (n m : ℕ) → n + 1 + m ≡ n + suc m
  plus_suc n m = omega arith

  by_step : (r : Result Done Fault)
      → ((e : Done) → all_done (number + 1) (done_behind d e) (xs ++ ys) ≡ and_then (all_done (number + 1) (done_behind d e) xs) (λ f. all_done (number + suc (length xs)) f ys))
      → and_then r (λ e. all_done (number + 1) (done_behind d e) (xs ++ ys)) ≡ and_then (and_then r (λ e. all_done (number + 1) (done_behind d e) xs)) (λ f. all_done (number + suc (length xs)) f ys)
  by_step (Err e) further = refl
  by_step (Ok e) further = further e

-- from one state to another, and on to a third
pub then_lead : (s t u : State) (xs ys : List StatementTree) → AllLead s xs t → AllLead t ys u → AllLead s (xs ++ ys) u
then_lead s t u xs ys first second number present =
    done_append number (quietly present s) xs ys
    ∙ ap (λ r. and_then r (λ e. all_done (number + length xs) e ys)) (first number present)
    ∙ second (number + length xs) present

-- one statement alone
pub one_leads : (s t : State) (x : StatementTree) → t.watches ≡ s.watches → Leads s x t → AllLead s (x ∷ []) t
one_leads s t x same leads = first_leads s t t x [] same leads (none_lead t)
