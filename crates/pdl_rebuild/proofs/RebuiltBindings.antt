-- What a binding of a new name does.
use Rattle.std.proofs.Common.{◌≡◌, ℕ, ◌+◌, ◌<◌, ◌≤◌, false, List, [], ◌∷◌, ◌++◌, length, refl, sym, ◌∙◌, ap}
use Rattle.std.proofs.lemmas.Bool.{lt-ltb}
use Rattle.std.specs.Prelude.{None, Ok, nat_eq}
use Rattle.std.specs.Cmp.Lexicographic.{pointwise}
use Rattle.pdl_lemmas.specs.Options.{none_some}
use Rattle.pdl_lemmas.specs.Tests.{by_test}
use Rattle.pdl_syntax.specs.StatementTree.{bind}
use Rattle.pdl_syntax.specs.Tree.{Tree}
use Rattle.pdl_world.specs.KeepingLaws.{MoreKeepAll}
use Rattle.pdl_world.specs.World.{ArrayDef, World}
use Rattle.pdl_machine.specs.declared.fault.Fault.{Fault}
use Rattle.pdl_machine.specs.declared.fault.Fault.TheVariants.{TooManyNames}
use Rattle.pdl_machine.specs.Names.{KernelTexts, Named, found, with_name, entered, names_limit}
use Rattle.pdl_machine.specs.Step.{bind_value, bound}
use Rattle.pdl_machine.specs.Then.{and_then}
use Rattle.pdl_machine.specs.Value.{value_of}
use Rattle.pdl_machine.specs.Watches.{Watches}
use Rattle.pdl_rebuild.specs.Rebuilt.{state_with, state_of, ParentBelow, one_name, IsResting}
use Rattle.pdl_rebuild.specs.Steps.{Leads}
use Rattle.pdl_rebuild.proofs.StepLeads.{leads_by}
use Rattle.pdl_rebuild.proofs.RebuiltTidied.{AllWithin, tidy_new}

-- a new name stands last
pub new_last : {A : Type 0} (names : Named A) (x : List ℕ) (a : A) → found names x ≡ None → with_name names x a ≡ names ++ one_name x a
new_last [] x a fresh = refl
new_last (n ∷ names) x a fresh =
    by_test (pointwise nat_eq x n.0)
    (λ same. absurd (none_some (sym (rw same at fresh))))
    (λ other. rw other (ap (λ ns. n ∷ ns) (new_last names x a (rw other at fresh))))

-- and there is room for it
pub new_entered : {A : Type 0} (limit : ℕ) (full : Fault) (names : Named A) (x : List ℕ) (a : A) → found names x ≡ None → length names < limit → entered limit full names x a ≡ Ok (names ++ one_name x a)
new_entered limit full names x a fresh few =
    rw (fresh, lt-ltb (length names) limit few) (ap Ok (new_last names x a fresh))

module _ (ws : Watches) (kernels : Named KernelTexts) (names : Named ℕ) (x : List ℕ) (fresh : found names x ≡ None) (few : length names < names_limit) where
  -- a value that is bound to a new name
  pub value_bound : (w u : World) (n next j : ℕ) (e : Tree) → value_of (record { arrays = names; kernels = kernels }) (record { world = w; next = n }) e ≡ Ok (record { world = u; next = next }, j)
      → bound (state_with ws kernels names w n) x (value_of (record { arrays = names; kernels = kernels }) (record { world = w; next = n }) e)
      ≡ Ok (state_with ws kernels (names ++ one_name x j) u next, [])
  value_bound w u n next j e valued =
      ap (λ v. and_then v (bind_value (state_with ws kernels names w n) x)) valued
      ∙ ap (λ r. and_then (and_then r (λ arrays. Ok (record { arrays = arrays; kernels = kernels }))) (λ ns. Ok (record { names = ns; arrays = record { world = u; next = next }; watches = ws; flows = [] }, [])))
      (new_entered names_limit TooManyNames names x j fresh few)

-- a new array that is bound to a new name, behind passing ones
pub new_bound : MoreKeepAll → (ws : Watches) (kernels : Named KernelTexts) (names : Named ℕ) (w : World) (x : List ℕ) (e : Tree) (j : ℕ) (d : ArrayDef) (passing : World)
    → IsResting ws names w → found names x ≡ None → length names < names_limit → ParentBelow (length w) d → length w ≤ j → AllWithin (length w) j passing
    → value_of (record { arrays = names; kernels = kernels }) (record { world = w; next = length w }) e ≡ Ok (record { world = (j, d) ∷ (passing ++ w); next = j + 1 }, j)
    → Leads (state_of ws kernels names w) (bind x e false) (state_of ws kernels (names ++ one_name x (length w)) ((length w, d) ∷ w))
new_bound more ws kernels names w x e j d passing resting fresh few parent above within valued =
    leads_by ws (state_of ws kernels names w) (state_with ws kernels (names ++ one_name x j) ((j, d) ∷ (passing ++ w)) (j + 1))
    (state_of ws kernels (names ++ one_name x (length w)) ((length w, d) ∷ w)) (bind x e false) resting.idle refl refl (λ present. refl)
    (λ present. value_bound ws kernels names x fresh few w ((j, d) ∷ (passing ++ w)) (length w) (j + 1) j e valued)
    (tidy_new ws resting.idle kernels more names x j d passing w (j + 1) resting.order parent above within resting.below resting.kept)
