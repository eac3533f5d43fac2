-- Spelled list literals are arrays.
use Rattle.std.proofs.Common.{◌≡◌, ◌≤◌, ◌+◌, ◌*◌, ℕ, zero, suc, ℤ, pos, negsuc, neg_ℤ, nat_abs, nat_le, nat_lt, List, [], ◌∷◌, ◌++◌, length, length-append, All, Bool, true, false, if◌then◌else◌, Option, Some, None, refl, sym, subst, arith}
use Rattle.std.proofs.lemmas.Int.{ints}
use Rattle.std.specs.List.{list_any}
use Rattle.std.proofs.lemmas.List.Elements.{All-nil, All-cons, All-push, All-weaker}
use Rattle.std.proofs.lemmas.Bool.Decides.{nat_tests}
use Rattle.std.proofs.lemmas.Bool.{or_parts, leb-true}
use Rattle.pdl_elem.specs.declared.Ty.TheVariants.{Long, Longlong}
use Rattle.pdl_elem.specs.Types.{InRange}
use Rattle.pdl_shape.specs.Shape.{size_of}
use Rattle.pdl_lexemes.specs.declared.Lexeme.{Lexeme}
use Rattle.pdl_lexemes.specs.Laws.{FillsArray}
use Rattle.pdl_lexemes.specs.Limits.{number_limit, long_limit}
use Rattle.pdl_lexemes.specs.Lists.{signed, shared, with_length, type_of, ListPart, SpellsList, an_item, some_items, a_list, number, minus, nested, first, more, empty, filled}
use Rattle.pdl_lemmas.specs.Options.{none_some, some_inj, map_elim}
use Rattle.pdl_lexemes.proofs.ListDims.{shared_is}

-- a number of 63 bits and a sign
abbrev Fits63 : ℤ → Type 0
Fits63 z = nat_abs z ≤ number_limit

record SignedIs (n : ℕ) (z : ℤ) : Type 0 where
  small : n ≤ number_limit
  value : z ≡ pos n

signed_is : (n : ℕ) (z : ℤ) → signed n ≡ Some z → SignedIs n z
signed_is n z e = of_test (nat_le n number_limit) refl e
  where
    of_test : (b : Bool) → nat_le n number_limit ≡ b → (if b then Some (pos n) else None) ≡ Some z → SignedIs n z
    of_test true t k = record { small = leb-true n number_limit t; value = sym (some_inj k) }
    of_test false t k = absurd (none_some k)

fits_signed : (n : ℕ) (z : ℤ) → signed n ≡ Some z → Fits63 z
fits_signed n z e = let s = signed_is n z e in subst Fits63 (sym s.value) s.small

abs_neg : (n : ℕ) → nat_abs (neg_ℤ (pos n)) ≡ n
abs_neg zero = refl
abs_neg (suc n) = refl

fits_negated : (n : ℕ) (z : ℤ) → signed n ≡ Some z → Fits63 (neg_ℤ z)
fits_negated n z e = let s = signed_is n z e in subst (λ y. Fits63 (neg_ℤ y)) (sym s.value) (omega (arith, abs_neg n, s.small))

size_snoc : (d : List ℕ) (n : ℕ) → size_of (d ++ n ∷ []) ≡ n * size_of d
size_snoc [] n = omega arith
size_snoc (x ∷ d) n = rw (size_snoc d n) (omega arith)

-- as many numbers as these dimensions say, n times, behind those before
abbrev Counts : ℕ → Option (List ℕ) → List ℤ → List ℤ → Type 0
Counts n shape front all = (d : List ℕ) → shape ≡ Some d → length all ≡ length front + n * size_of d

record Sized (n : ℕ) (shape : Option (List ℕ)) (front all : List ℤ) : Type 0 where
  counts : Counts n shape front all
  fits : All Fits63 front → All Fits63 all

abbrev SizedPart : ListPart → Type 0
SizedPart (an_item shape front all) = Sized 1 shape front all
SizedPart (some_items n shape front all) = Sized n shape front all
SizedPart (a_list shape front all) = Sized 1 shape front all

one_more : (front : List ℤ) (z : ℤ) → Fits63 z → Sized 1 (Some []) front (front ++ z ∷ [])
one_more front z h = record {
  counts = λ d e. subst (λ c. length (front ++ z ∷ []) ≡ length front + 1 * size_of c) (some_inj e) (simp length-append (omega arith));
  fits = λ all. All-push Fits63 front z all h;
}

and_more : (n : ℕ) (a b : Option (List ℕ)) (front so_far all : List ℤ) → Sized n a front so_far → Sized 1 b so_far all → Sized (suc n) (shared a b) front all
and_more n a b front so_far all x y = record {
  counts = λ d e. let s = shared_is a b d e in omega (arith, x.counts d s.0, y.counts d s.1);
  fits = λ h. y.fits (x.fits h);
}

closed_list : (n : ℕ) (shape : Option (List ℕ)) (front all : List ℤ) → Sized n shape front all → Sized 1 (with_length n shape) front all
closed_list n shape front all x = record {
  counts = λ d e. map_elim (length all ≡ length front + 1 * size_of d) (λ c. c ++ n ∷ []) shape e
      (λ c h k. subst (λ c'. length all ≡ length front + 1 * size_of c') k (omega (arith, x.counts c h, size_snoc c n)));
  fits = x.fits;
}

empty_list : (front : List ℤ) → Sized 1 (Some (0 ∷ [])) front front
empty_list front = record {
  counts = λ d e. subst (λ c. length front ≡ length front + 1 * size_of c) (some_inj e) (omega arith);
  fits = λ h. h;
}

sized : {p : ListPart} {ts rest : List Lexeme} → SpellsList p ts rest → SizedPart p
sized (number {n = n} {z = z} {front = front} e) = one_more front z (fits_signed n z e)
sized (minus {n = n} {z = z} {front = front} e) = one_more front (neg_ℤ z) (fits_negated n z e)
sized (nested h) = sized h
sized (first h) = sized h
sized (more {n = n} {shape = a} {shape' = b} {front = front} {so_far = so_far} {all = all} h k) = and_more n a b front so_far all (sized h) (sized k)
sized (empty {front = front}) = empty_list front
sized (filled {n = n} {shape = shape} {front = front} {all = all} h) = closed_list n shape front all (sized h)

in_longlong : (z : ℤ) → Fits63 z → InRange Longlong z
in_longlong (pos n) h = (omega (arith, ints), omega (arith, ints))
in_longlong (negsuc n) h = (omega (arith, ints), omega (arith, ints))

in_long : (z : ℤ) → nat_abs z ≤ long_limit → InRange Long z
in_long (pos n) h = (omega (arith, ints), omega (arith, ints))
in_long (negsuc n) h = (omega (arith, ints), omega (arith, ints))

abbrev is_wide : ℤ → Bool
is_wide z = nat_lt long_limit (nat_abs z)

not_wide : (n : ℕ) → nat_lt long_limit n ≡ false → n ≤ long_limit
not_wide n t = grind (arith, nat_tests)

none_wide : (es : List ℤ) → list_any is_wide es ≡ false → All (InRange Long) es
none_wide [] e = All-nil (InRange Long)
none_wide (z ∷ es) e =
    let parts = or_parts (is_wide z) (list_any is_wide es) e in
    All-cons (InRange Long) z es (in_long z (not_wide (nat_abs z) parts.0)) (none_wide es parts.1)

typed : (es : List ℤ) → All Fits63 es → All (InRange (type_of es)) es
typed es h = of_test (list_any is_wide es) refl
  where
    of_test : (b : Bool) → list_any is_wide es ≡ b → All (InRange (if b then Longlong else Long)) es
    of_test true t = All-weaker Fits63 (InRange Longlong) in_longlong es h
    of_test false t = none_wide es t

-- a spelled list literal is an array; a ragged one counts as a list of its numbers
literal_array : (shape : Option (List ℕ)) (es : List ℤ) → Sized 1 shape [] es → FillsArray shape es
literal_array None es s = record { count = omega arith; in_range = typed es (s.fits (All-nil Fits63)) }
literal_array (Some d) es s = record { count = omega (arith, s.counts d refl); in_range = typed es (s.fits (All-nil Fits63)) }

pub list_array : {shape : Option (List ℕ)} {elems : List ℤ} {ts rest : List Lexeme} → SpellsList (a_list shape [] elems) ts rest → FillsArray shape elems
list_array {shape = shape} {elems = elems} h = literal_array shape elems (sized h)
