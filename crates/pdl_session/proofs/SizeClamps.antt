-- Sizes that are cut to 32 bits are dimensions where the sizes are, and are refused for the same reason.
use Rattle.std.proofs.Common.{◌≡◌, ℕ, ℤ, pos, negsuc, ◌<◌, Bool, true, List, [], ◌∷◌, map, length, Option, Some, None, Result, Ok, Err, ◌⊎◌, inl, inr, refl, sym, ap, ◌∙◌, arith}
use Rattle.std.specs.Prelude.{option_map, nat_lt, if◌then◌else◌}
use Rattle.std.proofs.lemmas.Bool.Decides.{nat_tests}
use Rattle.std.proofs.lemmas.List.{length-map}
use Rattle.pdl_lemmas.specs.Tests.{by_test}
use Rattle.pdl_shape.specs.Refusals.{Refusal, too_many_dims, too_large as extent_too_large}
use Rattle.pdl_shape.specs.Shape.{extent}
use Rattle.pdl_shape.specs.Limits.{checked_dims}
use Rattle.pdl_machine.specs.declared.fault.Fault.{Fault}
use Rattle.pdl_machine.specs.declared.fault.Fault.TheVariants.{BadDimension}
use Rattle.pdl_machine.specs.Then.{and_then, or_fault, all_of}
use Rattle.pdl_machine.specs.Fills.{size, dims_for}
use Rattle.pdl_machine.specs.Refused.{shape_fault, or_named}
use Rattle.pdl_scope.specs.declared.fault.ScopeFault.{ScopeFault}
use Rattle.pdl_scope.specs.declared.fault.ScopeFault.TheVariants.{Script, NoMemory}
use Rattle.pdl_scope.specs.Answers.{IsFault}
use Rattle.pdl_session.specs.Sizes.{clamped_size}
use Rattle.pdl_session.proofs.ShapeSizes.{ExtentsAbove, first_small, rest_small}

abbrev cut : ℕ → ℕ
cut n = if nat_lt 4294967295 n then 4294967295 else n

-- the sizes that are cut
clamped_is : (ns : List ℤ) → all_of clamped_size ns ≡ option_map (map cut) (all_of size ns)
clamped_is [] = refl
clamped_is (pos n ∷ ns) = ap (λ o. option_map (λ es. cut n ∷ es) o) (clamped_is ns) ∙ by_rest (all_of size ns)
  where
    by_rest : (o : Option (List ℕ)) → option_map (λ es. cut n ∷ es) (option_map (map cut) o) ≡ option_map (map cut) (option_map (λ ds. n ∷ ds) o)
    by_rest None = refl
    by_rest (Some ds) = refl
clamped_is (negsuc n ∷ ns) = refl

-- the cut sizes are the sizes, or both are too large
abbrev Alike : List ℕ → Type 0
Alike ds = (map cut ds ≡ ds) ⊎ ((1048576 < extent ds) × (1048576 < extent (map cut ds)))

past : (d : ℕ) → nat_lt 4294967295 d ≡ true → 4294967295 < d
past d t = grind (arith, nat_tests)

alike : ExtentsAbove → (ds : List ℕ) → Alike ds
alike above [] = inl refl
alike above (d ∷ ds) = by_test (nat_lt 4294967295 d)
    (λ t. let c : cut d ≡ 4294967295 = rw t refl in
    let r : 1048576 < cut d = omega (arith, c) in
    inr (omega (arith, past d t, first_small above d ds), omega (arith, r, first_small above (cut d) (map cut ds))))
    (λ f. let c : cut d ≡ d = rw f refl in
    elim (alike above ds) [
      | inl e ↦ inl (ap (λ x. x ∷ map cut ds) c ∙ ap (λ xs. d ∷ xs) e)
      | inr h ↦ inr (omega (arith, h.0, rest_small d ds), omega (arith, h.1, rest_small (cut d) (map cut ds)))
    ])

abbrev the_refusal : Bool → Result (List ℕ) Refusal
the_refusal b = if b then Err too_many_dims else Err extent_too_large

too_large : (ds : List ℕ) → 1048576 < extent ds → checked_dims ds ≡ (if nat_lt 16 (length ds) then Err too_many_dims else Err extent_too_large)
too_large ds h = let t : nat_lt 1048576 (extent ds) ≡ true = grind (arith, nat_tests) in rw t refl

checked_alike : ExtentsAbove → (ds : List ℕ) → checked_dims (map cut ds) ≡ checked_dims ds
checked_alike above ds = elim (alike above ds) [
  | inl e ↦ ap checked_dims e
  | inr h ↦ too_large (map cut ds) h.1 ∙ ap (λ n. the_refusal (nat_lt 16 n)) (length-map ds cut) ∙ sym (too_large ds h.0)
]

abbrev dims_by : Option (List ℕ) → Result (List ℕ) Fault
dims_by o = and_then (or_fault BadDimension o) (λ ds. or_named shape_fault (checked_dims ds))

dims_alike : ExtentsAbove → (ns : List ℤ) → dims_for ns ≡ dims_by (all_of clamped_size ns)
dims_alike above ns = by_sizes (all_of size ns) ∙ ap dims_by (sym (clamped_is ns))
  where
    by_sizes : (o : Option (List ℕ)) → dims_by o ≡ dims_by (option_map (map cut) o)
    by_sizes None = refl
    by_sizes (Some ds) = ap (or_named shape_fault) (sym (checked_alike above ds))

abbrev checked_after : Result (List ℕ) Fault → Result (List ℕ) Fault
checked_after x = and_then x (λ ds. or_named shape_fault (checked_dims ds))

-- what the check of the cut sizes gives is what the sizes are as dimensions
pub dims_found : ExtentsAbove → (ns : List ℤ) (ds list : List ℕ) (r : Result (List ℕ) Refusal) → or_fault BadDimension (all_of clamped_size ns) ≡ Ok ds → list ≡ ds → r ≡ checked_dims list → dims_for ns ≡ or_named shape_fault r
dims_found above ns ds list r e same h = dims_alike above ns ∙ ap checked_after e ∙ ap (λ l. or_named shape_fault (checked_dims l)) (sym same) ∙ ap (or_named shape_fault) (sym h)

-- a size below 0 is the fault
pub dims_refused : ExtentsAbove → (ns : List ℤ) (e : ScopeFault) → IsFault (or_fault BadDimension (all_of clamped_size ns)) e → IsFault (dims_for ns) e
dims_refused above ns (Script e) h = dims_alike above ns ∙ ap checked_after h
dims_refused above ns NoMemory h = tt
