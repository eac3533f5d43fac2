-- The dimensions of a view of windows.
use Rattle.std.proofs.Common.{◌≡◌, ℕ, ◌≤◌, ◌++◌, inl, inr, true, false, nat_lt, List, length, refl, ap, sym, ◌∙◌, arith, Option, None, Ok, Err, ℤ, subst, IfSome, Some, Result}
use Rattle.std.specs.Option.{option_map_or}
use Rattle.std.proofs.lemmas.Bool.{cases_lt}
use Rattle.std.proofs.lemmas.Bool.Decides.{nat_tests}
use Rattle.pdl_shape.specs.Laws.{SizeLaws}
use Rattle.pdl_shape.specs.Shape.{dims_limit, extent, extent_limit}
use Rattle.pdl_choice.proofs.ChoiceLimits.{extent-append, other_factor}
use Rattle.pdl_shape.specs.Refusals.{Refusal, Refuses, too_many_dims, too_large}
use Rattle.pdl_choice.specs.declared.edges.Edge.{Edge}
use Rattle.pdl_shape.specs.Limits.{checked_dims}
use Rattle.pdl_choice.specs.Choice.{unless_outside}
use Rattle.pdl_choice.specs.Range.{corner_len, windowed_dims, window_sizes, window_refusal, first_refused, range_dims}

-- where the sizes fit, the index values decide and then the limits
pub range_dims-fit : (parent ind_dims : List ℕ) (ind sizes : List ℤ) (edge : Edge) (windows : List ℕ) (outside : Option ℕ)
    → window_refusal (length parent) (corner_len ind_dims) sizes ≡ None → windows ≡ window_sizes (corner_len ind_dims) sizes → outside ≡ first_refused edge parent windows ind
    → range_dims parent ind_dims ind sizes edge ≡ unless_outside outside (checked_dims (windowed_dims parent ind_dims windows))
range_dims-fit parent ind_dims ind sizes edge windows outside fit is first =
    ap (λ (o : Option Refusal). option_map_or (λ refusal. Err refusal) o
    (unless_outside (first_refused edge parent (window_sizes (corner_len ind_dims) sizes) ind) (checked_dims (windowed_dims parent ind_dims (window_sizes (corner_len ind_dims) sizes))))) fit
    ∙ ap (λ (us : List ℕ). unless_outside (first_refused edge parent us ind) (checked_dims (windowed_dims parent ind_dims us))) (sym is)
    ∙ ap (λ (o : Option ℕ). unless_outside o (checked_dims (windowed_dims parent ind_dims windows))) (sym first)

-- limits that don't refuse leave the sizes as they are
pub checked_dims-ok : (ds es : List ℕ) → checked_dims ds ≡ Ok es → ds ≡ es
checked_dims-ok ds es is =
    elim (cases_lt dims_limit (length ds)) [
      | inl past ↦
          let many : nat_lt dims_limit (length ds) ≡ true = grind (arith, nat_tests) in
          let same : checked_dims ds ≡ Err too_many_dims = rw many refl in
          cc
      | inr few ↦ elim (cases_lt extent_limit (extent ds)) [
        | inl past ↦
            let right : nat_lt dims_limit (length ds) ≡ false = grind (arith, nat_tests) in
            let big : nat_lt extent_limit (extent ds) ≡ true = grind (arith, nat_tests) in
            let same : checked_dims ds ≡ Err too_large = rw right (rw big refl) in
            cc
        | inr fits ↦
            let right : nat_lt dims_limit (length ds) ≡ false = grind (arith, nat_tests) in
            let small : nat_lt extent_limit (extent ds) ≡ false = grind (arith, nat_tests) in
            let same : checked_dims ds ≡ Ok ds = rw right (rw small refl) in
            cc
      ]
    ]

-- what the limits don't refuse lies within them, and so does its back
pub checked_dims-back : SizeLaws → (front back es : List ℕ) → checked_dims (front ++ back) ≡ Ok es → extent back ≤ extent_limit
checked_dims-back extents front back es is =
    elim (cases_lt extent_limit (extent (front ++ back))) [
      | inl past ↦ elim (cases_lt dims_limit (length (front ++ back))) [
        | inl many ↦
            let right : nat_lt dims_limit (length (front ++ back)) ≡ true = grind (arith, nat_tests) in
            let same : checked_dims (front ++ back) ≡ Err too_many_dims = rw right refl in
            cc
        | inr few ↦
            let right : nat_lt dims_limit (length (front ++ back)) ≡ false = grind (arith, nat_tests) in
            let big : nat_lt extent_limit (extent (front ++ back)) ≡ true = grind (arith, nat_tests) in
            let same : checked_dims (front ++ back) ≡ Err too_large = rw right (rw big refl) in
            cc
      ]
      | inr fits ↦ omega (arith, extent-append front back, other_factor (extent front) (extent back) (extents.extent_above front))
    ]

-- what is the same is refused so as well
pub refused_as_well : (v w : Result (List ℕ) Refusal) (named : Option Refusal) → v ≡ w → Refuses w named → Refuses v named
refused_as_well v w named e h = subst (λ u. Refuses u named) (sym e) h

-- a fault that tells no position tells none that is wrong
pub nowhere_said : (o : Option ℕ) (P : ℕ → Type 0) → o ≡ None → IfSome o P
nowhere_said None P e = tt
nowhere_said (Some i) P e = cc
