-- Numbers cut at the first size that is too large: what the reader holds of a number.
use Rattle.std.proofs.Common.{◌≡◌, ℕ, zero, suc, ◌+◌, ◌*◌, min, Bool, true, false, ◌||◌, ◌==◌, List, [], ◌∷◌, map, ℤ, pos, negsuc, neg_ℤ, nat_abs, Option, Some, None, option_map, if◌then◌else◌, refl, ap, ap₂, ◌∙◌, arith}
use Rattle.std.specs.List.{list_any}
use Rattle.std.proofs.lemmas.List.{length-map}
use Rattle.std.proofs.lemmas.Bool.{or_parts}
use Rattle.pdl_slices.specs.declared.SliceArg.{SliceArg}
use Rattle.pdl_slices.specs.declared.SliceArg.TheVariants.{Whole, One, Dropped, Dummy, Span}
use Rattle.pdl_slices.specs.declared.SliceFault.{SliceFault}
use Rattle.pdl_slices.specs.SliceReading.{more_digits, with_sign}
use Rattle.pdl_slices.specs.Refusals.{size_limit, is_large, is_large_end, has_large_number, is_zero, has_zero_step, refusal}

-- a size, cut
abbrev pub cut_size : ℕ → ℕ
cut_size n = min n (size_limit + 1)

-- a number with its size cut
abbrev pub cut : ℤ → ℤ
cut (pos n) = pos (cut_size n)
cut (negsuc n) = with_sign true (cut_size (suc n))

abbrev pub cut_end : Option ℤ → Option ℤ
cut_end n = option_map cut n

-- an argument with its sizes cut
abbrev pub cut_arg : SliceArg → SliceArg
cut_arg Whole = Whole
cut_arg (One n) = One (cut n)
cut_arg (Dropped n) = Dropped (cut n)
cut_arg (Dummy n) = Dummy (cut_size n)
cut_arg (Span from to step) = Span (cut_end from) (cut_end to) (cut_end step)

pub cut-neg : (n : ℕ) → with_sign true (cut_size n) ≡ cut (neg_ℤ (pos n))
cut-neg zero = refl
cut-neg (suc n) = refl

-- one more digit after a cut size is the cut size of all digits
pub more_digits-cut : (n d : ℕ) → more_digits (cut_size n) d ≡ cut_size (10 * n + d)
more_digits-cut n d = omega arith

pub more_digits-zero : (d : ℕ) → more_digits 0 d ≡ cut_size d
more_digits-zero d = omega arith

pub is_large-cut_size : (n : ℕ) → is_large (cut_size n) ≡ is_large n
is_large-cut_size n = grind arith

pub cut_size-allowed : (n : ℕ) → is_large n ≡ false → cut_size n ≡ n
cut_size-allowed n h = grind arith

pub is_zero-cut_size : (n : ℕ) → (cut_size n == 0) ≡ (n == 0)
is_zero-cut_size n = grind arith

pub nat_abs-cut : (n : ℤ) → nat_abs (cut n) ≡ cut_size (nat_abs n)
nat_abs-cut (pos n) = refl
nat_abs-cut (negsuc n) = abs-signed (cut_size (suc n)) where
  abs-signed : (m : ℕ) → nat_abs (with_sign true m) ≡ m
  abs-signed zero = refl
  abs-signed (suc m) = refl

pub is_large-cut : (n : ℤ) → is_large (nat_abs (cut n)) ≡ is_large (nat_abs n)
is_large-cut n = ap is_large (nat_abs-cut n) ∙ is_large-cut_size (nat_abs n)

pub cut-allowed : (n : ℤ) → is_large (nat_abs n) ≡ false → cut n ≡ n
cut-allowed (pos n) h = ap pos (cut_size-allowed n h)
cut-allowed (negsuc n) h = ap (with_sign true) (cut_size-allowed (suc n) h)

pub is_large_end-cut : (n : Option ℤ) → is_large_end (cut_end n) ≡ is_large_end n
is_large_end-cut None = refl
is_large_end-cut (Some n) = is_large-cut n

pub cut_end-allowed : (n : Option ℤ) → is_large_end n ≡ false → cut_end n ≡ n
cut_end-allowed None h = refl
cut_end-allowed (Some n) h = ap Some (cut-allowed n h)

pub is_zero-cut : (n : Option ℤ) → is_zero (cut_end n) ≡ is_zero n
is_zero-cut None = refl
is_zero-cut (Some n) = ap (λ m. m == 0) (nat_abs-cut n) ∙ is_zero-cut_size (nat_abs n)

pub has_large_number-cut : (a : SliceArg) → has_large_number (cut_arg a) ≡ has_large_number a
has_large_number-cut Whole = refl
has_large_number-cut (One n) = is_large-cut n
has_large_number-cut (Dropped n) = is_large-cut n
has_large_number-cut (Dummy n) = is_large-cut_size n
has_large_number-cut (Span from to step) =
    ap₂ (λ b c. b || c) (ap₂ (λ b c. b || c) (is_large_end-cut from) (is_large_end-cut to)) (is_large_end-cut step)

pub has_zero_step-cut : (a : SliceArg) → has_zero_step (cut_arg a) ≡ has_zero_step a
has_zero_step-cut Whole = refl
has_zero_step-cut (One n) = refl
has_zero_step-cut (Dropped n) = refl
has_zero_step-cut (Dummy n) = refl
has_zero_step-cut (Span from to step) = is_zero-cut step

pub cut_arg-allowed : (a : SliceArg) → has_large_number a ≡ false → cut_arg a ≡ a
cut_arg-allowed Whole h = refl
cut_arg-allowed (One n) h = ap One (cut-allowed n h)
cut_arg-allowed (Dropped n) h = ap Dropped (cut-allowed n h)
cut_arg-allowed (Dummy n) h = ap Dummy (cut_size-allowed n h)
cut_arg-allowed (Span from to step) h =
    let both = or_parts (is_large_end from || is_large_end to) (is_large_end step) h in
    let ends = or_parts (is_large_end from) (is_large_end to) both.0 in
    ap (λ f. Span f (cut_end to) (cut_end step)) (cut_end-allowed from ends.0) ∙ ap₂ (λ t u. Span from t u) (cut_end-allowed to ends.1) (cut_end-allowed step both.1)

-- a test that doesn't see the cut finds the same in the cut list
list_any-cut : (p : SliceArg → Bool) → ((a : SliceArg) → p (cut_arg a) ≡ p a) → (args : List SliceArg) → list_any p (map cut_arg args) ≡ list_any p args
list_any-cut p same [] = refl
list_any-cut p same (a ∷ args) = ap₂ (λ b c. b || c) (same a) (list_any-cut p same args)

-- cutting changes no refusal
pub refusal-cut : (args : List SliceArg) → refusal (map cut_arg args) ≡ refusal args
refusal-cut args =
    rw (length-map args cut_arg, list_any-cut has_large_number has_large_number-cut args, list_any-cut has_zero_step has_zero_step-cut args) refl

pub cut-list-allowed : (args : List SliceArg) → list_any has_large_number args ≡ false → map cut_arg args ≡ args
cut-list-allowed [] h = refl
cut-list-allowed (a ∷ args) h =
    let parts = or_parts (has_large_number a) (list_any has_large_number args) h in
    ap₂ (λ b bs. b ∷ bs) (cut_arg-allowed a parts.0) (cut-list-allowed args parts.1)

allowed_large : (b c d : Bool) (f g h : SliceFault) → (if b then Some f else (if c then Some g else (if d then Some h else None))) ≡ None → c ≡ false
allowed_large b false d f g h e = refl
allowed_large true true d f g h e = cc
allowed_large false true d f g h e = cc

-- arguments that aren't refused are kept as they are
pub cut-allowed_list : (args : List SliceArg) → refusal args ≡ None → map cut_arg args ≡ args
cut-allowed_list args h = cut-list-allowed args (allowed_large _ _ _ _ _ _ h)
