-- A list literal that is read is within the limits of an array.
use Rattle.std.proofs.Common.{◌≡◌, ◌≤◌, ◌+◌, ◌*◌, ℕ, ℤ, suc, max, nat_lt, List, [], ◌∷◌, ◌++◌, length, length-append, Bool, true, false, if◌then◌else◌, Option, Some, None, unwrap_or, bytes_eq, refl, ap, sym, ◌∙◌, subst, arith, Result, Ok, Err, IfOk}
use Rattle.std.proofs.lemmas.Slice.Eq.{bytes_eq-Decides}
use Rattle.pdl_shape.specs.Shape.{extent, IsDims}
use Rattle.pdl_lexemes.specs.declared.Lexeme.{Lexeme}
use Rattle.pdl_lexemes.specs.declared.Lexeme.TheVariants.{OpenSquare, CloseSquare}
use Rattle.pdl_lexemes.specs.Lists.{shared, with_length, ListPart, SpellsList, an_item, some_items, a_list, number, minus, nested, first, more, empty, filled}
use Rattle.pdl_lexemes.specs.ListReading.{ReadPart, list_read}
use Rattle.pdl_lexemes.specs.ReadAnswers.{Gives}
use Rattle.pdl_lexemes.specs.declared.refusal.Refusal.{Refusal}
use Rattle.pdl_lexemes.specs.Squares.{goes_too_deep, AreFew}
use Rattle.pdl_lexemes.proofs.ListSound.{reader_sound}
use Rattle.pdl_lemmas.specs.Options.{none_some, some_inj, map_elim}
use Rattle.pdl_lexemes.proofs.SquareLemmas.{passed, few_open}

-- dimensions that two members share are those of both
pub shared_is : (a b : Option (List ℕ)) (d : List ℕ) → shared a b ≡ Some d → (a ≡ Some d) × (b ≡ Some d)
shared_is None b d e = absurd (none_some e)
shared_is (Some a) None d e = absurd (none_some e)
shared_is (Some a) (Some b) d e = of_test (bytes_eq a b) refl e
  where
    of_test : (t : Bool) → bytes_eq a b ≡ t → (if t then Some a else None) ≡ Some d → (Some a ≡ Some d) × (Some b ≡ Some d)
    of_test true t k = (k, ap Some (sym ((bytes_eq-Decides a b).0 t)) ∙ k)
    of_test false t k = absurd (none_some k)

-- with so many brackets open there are not too many dimensions, nor brackets behind
record Nests (k : ℕ) (shape : Option (List ℕ)) (rest : List Lexeme) : Type 0 where
  dims : (d : List ℕ) → shape ≡ Some d → length d + k ≤ 16
  left : goes_too_deep k rest ≡ false

abbrev shape_of : ListPart → Option (List ℕ)
shape_of (an_item shape front all) = shape
shape_of (some_items n shape front all) = shape
shape_of (a_list shape front all) = shape

one_deeper : (k n : ℕ) (shape : Option (List ℕ)) (d : List ℕ) →
    ((c : List ℕ) → shape ≡ Some c → length c + suc k ≤ 16) → with_length n shape ≡ Some d → length d + k ≤ 16
one_deeper k n shape d h e =
    map_elim (length d + k ≤ 16) (λ c. c ++ n ∷ []) shape e
    (λ c is same. let fits = h c is in subst (λ c'. length c' + k ≤ 16) same (simp length-append (omega (arith, fits))))

nests : {p : ListPart} {ts rest : List Lexeme} → SpellsList p ts rest → (k : ℕ) → k ≤ 16 → goes_too_deep k ts ≡ false →
    Nests k (shape_of p) rest
nests (number z) k h e = record { dims = λ d is. subst (λ c. length c + k ≤ 16) (some_inj is) (omega (arith, h)); left = e }
nests (minus z) k h e = record { dims = λ d is. subst (λ c. length c + k ≤ 16) (some_inj is) (omega (arith, h)); left = e }
nests (nested x) k h e = nests x k h e
nests (first x) k h e = nests x k h e
nests (more {shape = a} {shape' = b} x y) k h e =
    let i = nests x k h e in
    let j = nests y k h i.left in
    record { dims = λ d is. i.dims d (shared_is a b d is).0; left = j.left }
nests (empty {rest = rest}) k h e =
    let p = passed (nat_lt 16 (suc k)) (goes_too_deep k rest) e in
    let few = few_open k p.test_fails in
    record { dims = λ d is. subst (λ c. length c + k ≤ 16) (some_inj is) (omega (arith, few)); left = p.left_fails }
nests (filled {n = n} {shape = shape} {ts = ts} x) k h e =
    let p = passed (nat_lt 16 (suc k)) (goes_too_deep (suc k) ts) e in
    let i = nests x (suc k) (few_open k p.test_fails) p.left_fails in
    record { dims = λ d is. one_deeper k n shape d i.dims is; left = i.left }

-- n members of these dimensions, and the numbers in them, take a lexeme each
record Takes (n : ℕ) (shape : Option (List ℕ)) (front all : List ℤ) (ts rest : List Lexeme) : Type 0 where
  some : 1 ≤ n
  members : (d : List ℕ) → shape ≡ Some d → n * extent d + length rest ≤ length ts
  numbers : length all + length rest ≤ length front + length ts

abbrev TakesPart : ListPart → List Lexeme → List Lexeme → Type 0
TakesPart (an_item shape front all) ts rest = Takes 1 shape front all ts rest
TakesPart (some_items n shape front all) ts rest = Takes n shape front all ts rest
TakesPart (a_list shape front all) ts rest = Takes 1 shape front all ts rest

one_number : (z : ℤ) (front : List ℤ) (ts rest : List Lexeme) → suc (length rest) ≤ length ts → Takes 1 (Some []) front (front ++ z ∷ []) ts rest
one_number z front ts rest h = record {
  some = omega arith;
  members = λ d e. subst (λ c. 1 * extent c + length rest ≤ length ts) (some_inj e) (omega (arith, h));
  numbers = simp length-append (omega (arith, h));
}

max_one : (n : ℕ) → 1 ≤ n → max n 1 ≡ n
max_one n h = omega (arith, h)

extent_snoc : (d : List ℕ) (n : ℕ) → 1 ≤ n → extent (d ++ n ∷ []) ≡ n * extent d
extent_snoc [] n h = rw (max_one n h) (omega arith)
extent_snoc (x ∷ d) n h = rw (extent_snoc d n h) (omega arith)

takes : {p : ListPart} {ts rest : List Lexeme} → SpellsList p ts rest → TakesPart p ts rest
takes (number {n = m} {z = z} {front = front} {rest = rest} e) = one_number z front _ rest (omega arith)
takes (minus {n = m} {z = z} {front = front} {rest = rest} e) = one_number _ front _ rest (omega arith)
takes (nested x) = takes x
takes (first x) = takes x
takes (more {shape = a} {shape' = b} x y) =
    let i = takes x in
    let j = takes y in
    record {
      some = omega arith;
      members = λ d e. let s = shared_is a b d e in omega (arith, i.members d s.0, j.members d s.1);
      numbers = omega (arith, i.numbers, j.numbers);
    }
takes (empty {front = front} {rest = rest}) = record {
  some = omega arith;
  members = λ d e. subst (λ c. 1 * extent c + length rest ≤ length (OpenSquare ∷ CloseSquare ∷ rest)) (some_inj e) (omega arith);
  numbers = omega arith;
}
takes (filled {n = n} {shape = shape} {front = front} {all = all} {ts = ts} {rest = rest} x) =
    let i = takes x in
    record {
      some = omega arith;
      members = λ d e. map_elim (1 * extent d + length rest ≤ suc (length ts)) (λ c. c ++ n ∷ []) shape e
          (λ c is same. let fits = i.members c is in
          subst (λ c'. 1 * extent c' + length rest ≤ suc (length ts)) same (rw (extent_snoc c n i.some) (omega (arith, fits))));
      numbers = omega (arith, i.numbers);
    }

-- the dimensions of a list literal, or one more than its numbers where it is ragged, are those of an array
list_dims : (ts : List Lexeme) (p : ReadPart) → AreFew ts → list_read ts ≡ Some p →
    IsDims (unwrap_or p.shape (suc (length p.elems) ∷ []))
list_dims ts p few e = of_shape p.shape refl
  where
    spelled : SpellsList (a_list p.shape [] p.elems) ts p.rest
    spelled = reader_sound (suc (length ts)) [] ts p e

    nested' : Nests 0 p.shape p.rest
    nested' = nests spelled 0 (omega arith) few.shallow

    taken : Takes 1 p.shape [] p.elems ts p.rest
    taken = takes spelled

    of_shape : (s : Option (List ℕ)) → p.shape ≡ s → IsDims (unwrap_or s (suc (length p.elems) ∷ []))
    of_shape None is = record { count = omega arith; within = omega (arith, taken.numbers, few.small) }
    of_shape (Some d) is = record { count = omega (arith, nested'.dims d is); within = omega (arith, taken.members d is, few.small) }

-- what a reader of lists answers is within those limits
pub read_dims : {A : Type 0} (f : A → ReadPart) (r : Result A Refusal) (ts : List Lexeme) → AreFew ts → Gives f r (list_read ts) →
    IfOk r (λ x. IsDims (unwrap_or (f x).shape (suc (length (f x).elems) ∷ [])))
read_dims f (Ok x) ts few g = list_dims ts (f x) few g
read_dims f (Err e) ts few g = tt
