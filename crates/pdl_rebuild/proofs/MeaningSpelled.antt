-- That the slice texts of a dump's elements are read.
use Rattle.std.proofs.Common.{◌≡◌, ℕ, zero, suc, ◌+◌, ◌-◌, ◌*◌, ◌<◌, ◌≤◌, true, false, List, [], ◌∷◌, ◌++◌, refl, sym, ◌∙◌, ap, ap₂, subst, arith, map, get_or, append_assoc, pos, ◌^◌}
use Rattle.std.proofs.lemmas.Bool.{le-ltb}
use Rattle.std.proofs.lemmas.List.{append-nil}
use Rattle.std.proofs.lemmas.List.Folds.{list_all-append}
use Rattle.std.specs.Prelude.{Some, None, Ok, ◌==◌, ◌&&◌, decimal}
use Rattle.std.specs.Fmt.{digits}
use Rattle.std.specs.List.{list_all}
use Rattle.std.specs.Int.Digits.{digits_of, number_from_digits, number_from_digits_after, AllBelowBase}
use Rattle.std.proofs.lemmas.Fmt.{decimal-digits_of}
use Rattle.std.proofs.lemmas.Int.Digits.{first_digits_of, all_below_base_digits_of, number_digits_of}
use Rattle.pdl_lemmas.specs.Numbers.{digit_is}
use Rattle.pdl_slices.specs.declared.SliceArg.TheVariants.{One, Span}
use Rattle.pdl_slices.specs.Grammar.{is_blank, Blanks, no_blank, blank_after, Digits, one_digit, digit_after, plain, Field, given, one, span, one_arg, listed}
use Rattle.pdl_slices.specs.Meaning.{TextsHaveOneMeaning, slice_of}
use Rattle.pdl_reread.specs.Trees.{range_text}
use Rattle.pdl_rebuild.proofs.RebuiltTidied.{not_same}

-- digits behind those before spell the number that goes on
digits_on : (ds : List ℕ) (n : ℕ) (s : List ℕ) → AllBelowBase 10 ds → Digits n s → Digits (number_from_digits_after 10 n ds) (s ++ map (λ d. 48 + d) ds)
digits_on [] n s below spelled = subst (Digits n) (sym (append-nil s)) spelled
digits_on (d ∷ ds) n s below spelled =
    subst (λ t. Digits (number_from_digits_after 10 (n * 10 + d) ds) t) (append_assoc s ((48 + d) ∷ []) (map (λ e. 48 + e) ds))
    (digits_on ds (n * 10 + d) (s ++ (48 + d) ∷ []) below.1 (subst (λ m. Digits m (s ++ (48 + d) ∷ [])) (value n d) (digit_after n s (48 + d) spelled (digit_is d below.0))))
  where
    value : (n d : ℕ) → 10 * n + (48 + d - 48) ≡ n * 10 + d
    value n d = omega arith

digits_spelled : (ds : List ℕ) → AllBelowBase 10 ds → 0 < get_or ds 0 0 → Digits (number_from_digits 10 ds) (map (λ d. 48 + d) ds)
digits_spelled [] below first = absurd (omega arith)
digits_spelled (d ∷ ds) below first =
    digits_on ds (0 * 10 + d) ((48 + d) ∷ []) below.1 (subst (λ m. Digits m ((48 + d) ∷ [])) (value d) (one_digit (48 + d) (digit_is d below.0)))
  where
    value : (d : ℕ) → 48 + d - 48 ≡ 0 * 10 + d
    value d = omega arith

decimal_spelled : (n : ℕ) → n < 2 ^ 64 → Digits n (decimal n)
unfolding digits
decimal_spelled zero small = one_digit 48 refl
decimal_spelled (suc n) small =
    subst (λ m. Digits m (decimal (suc n))) (number_digits_of 10 (suc n) (omega arith))
    (subst (λ t. Digits (number_from_digits 10 (digits_of 10 (suc n))) t) (sym (decimal-digits_of (suc n) (omega arith) small))
    (digits_spelled (digits_of 10 (suc n)) (all_below_base_digits_of 10 (suc n) (omega arith)) (first_digits_of 10 (suc n) (omega arith) (omega arith))))

field_spelled : (n : ℕ) → n < 2 ^ 64 → Field (Some (pos n)) (decimal n)
field_spelled n small = subst (Field (Some (pos n))) (append-nil (decimal n)) (given (pos n) [] (decimal n) [] no_blank (plain n (decimal n) (decimal_spelled n small)) no_blank)

-- a text of digits and colons isn't blank
digit_no_blank : (d : ℕ) → is_blank (48 + d) ≡ false
digit_no_blank d = rw (other d 32 (λ e. omega (arith, e)), other d 9 (λ e. omega (arith, e))) refl where
  other : (d c : ℕ) → (48 + d ≡ c → ⊥) → (48 + d == c) ≡ false
  other d c differ = not_same (48 + d) c differ

first_no_blank : (ds : List ℕ) → 0 < get_or ds 0 0 → list_all is_blank (map (λ d. 48 + d) ds) ≡ false
first_no_blank [] first = absurd (omega arith)
first_no_blank (d ∷ ds) first = rw (digit_no_blank d)

decimal_no_blank : (n : ℕ) → n < 2 ^ 64 → list_all is_blank (decimal n) ≡ false
unfolding digits
decimal_no_blank zero small = refl
decimal_no_blank (suc n) small =
    subst (λ t. list_all is_blank t ≡ false) (sym (decimal-digits_of (suc n) (omega arith) small)) (first_no_blank (digits_of 10 (suc n)) (first_digits_of 10 (suc n) (omega arith) (omega arith)))

blanks_all : (s : List ℕ) → Blanks s → list_all is_blank s ≡ true
blanks_all s no_blank = refl
blanks_all t (blank_after s b blanks is) = list_all-append is_blank s (b ∷ []) ∙ ap₂ (λ x y. x && (y && true)) (blanks_all s blanks) is

not_blank : (s t : List ℕ) → list_all is_blank s ≡ false → Blanks (s ++ t) → ⊥
not_blank s t some blanks =
    let all : list_all is_blank (s ++ t) ≡ true = blanks_all (s ++ t) blanks in
    let none : list_all is_blank (s ++ t) ≡ false = list_all-append is_blank s t ∙ ap (λ b. b && list_all is_blank t) some in
    absurd (cc)

module _ (law : TextsHaveOneMeaning) where
  -- from a first to a last position
  pub span_read : (a b : ℕ) → a ≤ 2147483647 → b ≤ 2147483647 → slice_of (range_text a b) ≡ Ok (Span (Some (pos a)) (Some (pos b)) None ∷ [])
  span_read a b small small' =
      (law (range_text a b) (Ok (Span (Some (pos a)) (Some (pos b)) None ∷ []))).1 (record {
        spelled = listed (Span (Some (pos a)) (Some (pos b)) None ∷ []) (range_text a b) (λ blanks. not_blank (decimal a) (58 ∷ decimal b) (decimal_no_blank a (omega (arith, small))) blanks)
            (one_arg (Span (Some (pos a)) (Some (pos b)) None) (range_text a b) (span (Some (pos a)) (Some (pos b)) (decimal a) (decimal b) (field_spelled a (omega (arith, small))) (field_spelled b (omega (arith, small'))) refl));
        allowed = rw (le-ltb 2147483647 a small, le-ltb 2147483647 b small') refl;
      })

  -- one position
  pub one_read : (p : ℕ) → p ≤ 2147483647 → slice_of (decimal p) ≡ Ok (One (pos p) ∷ [])
  one_read p small =
      (law (decimal p) (Ok (One (pos p) ∷ []))).1 (record {
        spelled = listed (One (pos p) ∷ []) (decimal p) (λ blanks. not_blank (decimal p) [] (decimal_no_blank p (omega (arith, small))) (subst Blanks (sym (append-nil (decimal p))) blanks))
            (one_arg (One (pos p)) (decimal p) (one (pos p) (decimal p) (field_spelled p (omega (arith, small)))));
        allowed = rw (le-ltb 2147483647 p small) refl;
      })
