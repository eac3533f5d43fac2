-- Slice texts that are written are read.
use Rattle.std.proofs.Common.{◌≡◌, ℕ, zero, suc, ◌+◌, ◌-◌, ◌*◌, ◌<◌, ◌≤◌, Bool, true, false, List, [], ◌∷◌, ◌++◌, refl, sym, ◌∙◌, ap, ap₂, subst, arith, map, get_or, append_assoc, eqb-true, inl, inr, ℤ, pos, negsuc, nat_abs}
use Rattle.std.proofs.lemmas.Bool.{ltb-false, cases_Bool, or_parts}
use Rattle.std.proofs.lemmas.List.{append-nil}
use Rattle.std.proofs.lemmas.List.Folds.{list_all-append}
use Rattle.std.specs.Prelude.{Option, Some, None, Ok, ◌==◌, ◌||◌, ◌&&◌, is_some, decimal}
use Rattle.std.specs.Fmt.{digits, signed_decimal}
use Rattle.std.specs.List.{list_all, list_any}
use Rattle.std.specs.Int.Digits.{digits_of, number_from_digits, number_from_digits_after, AllBelowBase}
use Rattle.std.proofs.lemmas.Fmt.{decimal-digits_of}
use Rattle.std.proofs.lemmas.Int.Digits.{first_digits_of, all_below_base_digits_of, number_digits_of}
use Rattle.pdl_lemmas.specs.Numbers.{digit_is}
use Rattle.pdl_slices.specs.declared.SliceArg.{SliceArg}
use Rattle.pdl_slices.specs.declared.SliceArg.TheVariants.{Whole, One, Dropped, Dummy, Span}
use Rattle.pdl_slices.specs.Grammar.{is_blank, Blanks, no_blank, blank_after, Digits, one_digit, digit_after, Number, plain, minus, Field, left_out, given, Arg, nothing, one, dropped, colon, span, stepped, sized, star, Args, one_arg, arg_after, Spells, blanks_alone, listed}
use Rattle.pdl_slices.specs.Refusals.{size_limit, is_large, is_large_end, has_large_number, refusal, IsRead}
use Rattle.pdl_slices.specs.Meaning.{TextsHaveOneMeaning}
use Rattle.pdl_slices.specs.Written.{end_text, step_text, arg_text, more_text, slice_text, WrittenTextsAreRead}

-- digits behind those before spell the number that goes on
digits_on : (ds : List ℕ) (n : ℕ) (s : List ℕ) → AllBelowBase 10 ds → Digits n s → Digits (number_from_digits_after 10 n ds) (s ++ map (λ d. 48 + d) ds)
digits_on [] n s below spelled = subst (Digits n) (sym (append-nil s)) spelled
digits_on (d ∷ ds) n s below spelled =
    subst (λ t. Digits (number_from_digits_after 10 (n * 10 + d) ds) t) (append_assoc s ((48 + d) ∷ []) (map (λ e. 48 + e) ds))
    (digits_on ds (n * 10 + d) (s ++ (48 + d) ∷ []) below.1 (subst (λ m. Digits m (s ++ (48 + d) ∷ [])) (value n d) (digit_after n s (48 + d) spelled (digit_is d below.0))))
  where
    value : (n d : ℕ) → 10 * n + (48 + d - 48) ≡ n * 10 + d
    value n d = omega arith

digits_spelled : (ds : List ℕ) → AllBelowBase 10 ds → 0 < get_or ds 0 0 → Digits (number_from_digits 10 ds) (map (λ d. 48 + d) ds)
digits_spelled [] below first = absurd (omega arith)
digits_spelled (d ∷ ds) below first =
    digits_on ds (0 * 10 + d) ((48 + d) ∷ []) below.1 (subst (λ m. Digits m ((48 + d) ∷ [])) (value d) (one_digit (48 + d) (digit_is d below.0)))
  where
    value : (d : ℕ) → 48 + d - 48 ≡ 0 * 10 + d
    value d = omega arith

decimal_spelled : (n : ℕ) → n ≤ size_limit → Digits n (decimal n)
unfolding digits
decimal_spelled zero small = one_digit 48 refl
decimal_spelled (suc n) small =
    subst (λ m. Digits m (decimal (suc n))) (number_digits_of 10 (suc n) (omega arith))
    (subst (λ t. Digits (number_from_digits 10 (digits_of 10 (suc n))) t) (sym (decimal-digits_of (suc n) (omega arith) (omega arith)))
    (digits_spelled (digits_of 10 (suc n)) (all_below_base_digits_of 10 (suc n) (omega arith)) (first_digits_of 10 (suc n) (omega arith) (omega arith))))

number_spelled : (n : ℤ) → nat_abs n ≤ size_limit → Number n (signed_decimal n)
number_spelled (pos n) small = plain n (decimal n) (decimal_spelled n (omega (arith, small)))
number_spelled (negsuc n) small = minus (suc n) (decimal (suc n)) (decimal_spelled (suc n) (omega (arith, small)))

field_spelled : (n : ℤ) → nat_abs n ≤ size_limit → Field (Some n) (signed_decimal n)
field_spelled n small = subst (Field (Some n)) (append-nil (signed_decimal n)) (given n [] (signed_decimal n) [] no_blank (number_spelled n small) no_blank)

end_spelled : (e : Option ℤ) → is_large_end e ≡ false → Field e (end_text e)
end_spelled None small = left_out [] no_blank
end_spelled (Some n) small = field_spelled n (ltb-false size_limit (nat_abs n) small)

-- an argument that some text spells
abbrev IsWritable : SliceArg → Type 0
IsWritable Whole = Unit {0}
IsWritable (One n) = Unit {0}
IsWritable (Dropped n) = Unit {0}
IsWritable (Dummy n) = Unit {0}
IsWritable (Span from to None) = (is_some from || is_some to) ≡ true
IsWritable (Span from to (Some step)) = Unit {0}

abbrev AllWritable : List SliceArg → Type 0
AllWritable [] = Unit {0}
AllWritable (a ∷ args) = IsWritable a × AllWritable args

arg_spelled : (a : SliceArg) → IsWritable a → has_large_number a ≡ false → Arg a (arg_text a)
arg_spelled Whole can small = colon [] [] (left_out [] no_blank) (left_out [] no_blank)
arg_spelled (One n) can small = one n (signed_decimal n) (field_spelled n (ltb-false size_limit (nat_abs n) small))
arg_spelled (Dropped n) can small = dropped n [] (signed_decimal n) [] no_blank (field_spelled n (ltb-false size_limit (nat_abs n) small)) no_blank
arg_spelled (Dummy n) can small = subst (λ t. Arg (Dummy n) (42 ∷ t)) (append-nil (decimal n)) (sized n [] [] (decimal n) [] no_blank no_blank (decimal_spelled n (ltb-false size_limit n small)) no_blank)
arg_spelled (Span from to None) can small =
    let parts = or_parts (is_large_end from || is_large_end to) false small in
    let ends = or_parts (is_large_end from) (is_large_end to) parts.0 in
    subst (λ t. Arg (Span from to None) (end_text from ++ 58 ∷ t)) (sym (append-nil (end_text to))) (span from to (end_text from) (end_text to) (end_spelled from ends.0) (end_spelled to ends.1) can)
arg_spelled (Span from to (Some step)) can small =
    let parts = or_parts (is_large_end from || is_large_end to) (is_large (nat_abs step)) small in
    let ends = or_parts (is_large_end from) (is_large_end to) parts.0 in
    subst (Arg (Span from to (Some step))) (append_assoc (end_text from) (58 ∷ end_text to) (58 ∷ signed_decimal step))
    (stepped from to step (end_text from) (end_text to) (signed_decimal step) (end_spelled from ends.0) (end_spelled to ends.1) (field_spelled step (ltb-false size_limit (nat_abs step) parts.1)))

-- arguments behind those before
args_on : (done rest : List SliceArg) (s : List ℕ) → Args done s → AllWritable rest → list_any has_large_number rest ≡ false → Args (done ++ rest) (s ++ more_text rest)
args_on done [] s spelled can small = subst (λ as'. Args as' (s ++ [])) (sym (append-nil done)) (subst (Args done) (sym (append-nil s)) spelled)
args_on done (a ∷ rest) s spelled can small =
    let parts = or_parts (has_large_number a) (list_any has_large_number rest) small in
    subst (λ as'. Args as' (s ++ 44 ∷ (arg_text a ++ more_text rest))) (append_assoc done (a ∷ []) rest)
    (subst (λ t. Args ((done ++ a ∷ []) ++ rest) t) (append_assoc s (44 ∷ arg_text a) (more_text rest))
    (args_on (done ++ a ∷ []) rest (s ++ 44 ∷ arg_text a) (arg_after done a s (arg_text a) spelled (arg_spelled a can.0 parts.0)) can.1 parts.1))

-- what is spelled can be written
arg_writable : (a : SliceArg) (t : List ℕ) → Arg a t → IsWritable a
arg_writable a t (nothing s f) = tt
arg_writable a t (one n s f) = tt
arg_writable a t (dropped n s u v b f c) = tt
arg_writable a t (colon s u f g) = tt
arg_writable a t (span from to s u f g some) = some
arg_writable a t (stepped from to step s u v f g h) = tt
arg_writable a t (sized n s u v w b c d e) = tt
arg_writable a t (star s u b c) = tt

writable_end : (args : List SliceArg) (a : SliceArg) → AllWritable args → IsWritable a → AllWritable (args ++ a ∷ [])
writable_end [] a can can' = (can', tt)
writable_end (x ∷ args) a can can' = (can.0, writable_end args a can.1 can')

args_writable : (args : List SliceArg) (t : List ℕ) → Args args t → AllWritable args
args_writable args t (one_arg a s spelled) = (arg_writable a s spelled, tt)
args_writable args t (arg_after front a s u spelled last) = writable_end front a (args_writable front s spelled) (arg_writable a u last)

-- no written argument is blank
blanks_all : (s : List ℕ) → Blanks s → list_all is_blank s ≡ true
blanks_all s no_blank = refl
blanks_all t (blank_after s b blanks is) = list_all-append is_blank s (b ∷ []) ∙ ap₂ (λ x y. x && (y && true)) (blanks_all s blanks) is

digit_no_blank : (d : ℕ) → is_blank (48 + d) ≡ false
digit_no_blank d = rw (other d 32 (λ e. omega (arith, e)), other d 9 (λ e. omega (arith, e))) refl where
  other : (d c : ℕ) → (48 + d ≡ c → ⊥) → (48 + d == c) ≡ false
  other d c differ = elim (cases_Bool (48 + d == c)) [ inl same ↦ absurd (differ (eqb-true (48 + d) c same)) | inr differs ↦ differs ]

first_no_blank : (ds : List ℕ) → 0 < get_or ds 0 0 → list_all is_blank (map (λ d. 48 + d) ds) ≡ false
first_no_blank [] first = absurd (omega arith)
first_no_blank (d ∷ ds) first = rw (digit_no_blank d)

decimal_no_blank : (n : ℕ) → n ≤ size_limit → list_all is_blank (decimal n) ≡ false
unfolding digits
decimal_no_blank zero small = refl
decimal_no_blank (suc n) small =
    subst (λ t. list_all is_blank t ≡ false) (sym (decimal-digits_of (suc n) (omega arith) (omega arith))) (first_no_blank (digits_of 10 (suc n)) (first_digits_of 10 (suc n) (omega arith) (omega arith)))

number_no_blank : (n : ℤ) → nat_abs n ≤ size_limit → list_all is_blank (signed_decimal n) ≡ false
number_no_blank (pos n) small = decimal_no_blank n (omega (arith, small))
number_no_blank (negsuc n) small = refl

and_false : (b : Bool) → (b && false) ≡ false
and_false true = refl
and_false false = refl

arg_no_blank : (a : SliceArg) → has_large_number a ≡ false → list_all is_blank (arg_text a) ≡ false
arg_no_blank Whole small = refl
arg_no_blank (One n) small = number_no_blank n (ltb-false size_limit (nat_abs n) small)
arg_no_blank (Dropped n) small = refl
arg_no_blank (Dummy n) small = refl
arg_no_blank (Span from to step) small = list_all-append is_blank (end_text from) (58 ∷ (end_text to ++ step_text step)) ∙ and_false (list_all is_blank (end_text from))

text_no_blank : (a : SliceArg) (args : List SliceArg) → has_large_number a ≡ false → Blanks (arg_text a ++ more_text args) → ⊥
text_no_blank a args small blanks =
    let all : list_all is_blank (arg_text a ++ more_text args) ≡ true = blanks_all (arg_text a ++ more_text args) blanks in
    let none : list_all is_blank (arg_text a ++ more_text args) ≡ false =
    list_all-append is_blank (arg_text a) (more_text args) ∙ ap (λ b. b && list_all is_blank (more_text args)) (arg_no_blank a small) in
    absurd (cc)

-- no number of arguments that aren't refused is too large
not_large : (args : List SliceArg) → refusal args ≡ None → list_any has_large_number args ≡ false
not_large args allowed =
    elim (cases_Bool (list_any has_large_number args)) [ inl large ↦ absurd (some args large allowed) | inr small ↦ small ]
  where
    some : (args : List SliceArg) → list_any has_large_number args ≡ true → refusal args ≡ None → ⊥
    some args large allowed = grind (arith, large, allowed)

written : (args : List SliceArg) → AllWritable args → list_any has_large_number args ≡ false → Spells args (slice_text args)
written [] can small = blanks_alone [] no_blank
written (a ∷ args) can small =
    let parts = or_parts (has_large_number a) (list_any has_large_number args) small in
    listed (a ∷ args) (arg_text a ++ more_text args) (text_no_blank a args parts.0)
    (args_on (a ∷ []) args (arg_text a) (one_arg a (arg_text a) (arg_spelled a can.0 parts.0)) can.1 parts.1)

writable : (args : List SliceArg) (t : List ℕ) → Spells args t → AllWritable args
writable args t (blanks_alone s blanks) = tt
writable args t (listed all s some spelled) = args_writable all s spelled

pub written_texts_are_read : TextsHaveOneMeaning → WrittenTextsAreRead
written_texts_are_read law text args is =
    let read : IsRead text args = (law text (Ok args)).0 is in
    (law (slice_text args) (Ok args)).1 (record { spelled = written args (writable args text read.spelled) (not_large args read.allowed); allowed = read.allowed })
