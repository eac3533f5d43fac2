-- Each sign has an entry in one of the three tables.
use Rattle.std.proofs.Common.{◌≡◌, ℕ, List, [], ◌∷◌, Bool, true, false, ◌||◌, ◌&&◌, ◌==◌, refl, sym, subst, eqb-true, true≢false}
use Rattle.std.specs.Prelude.{is_some, codes, bytes_eq}
use Rattle.std.specs.List.{list_any, list_all}
use Rattle.std.proofs.lemmas.Slice.Eq.{bytes_eq-Decides}
use Rattle.pdl_lex.specs.Tokens.{is_sign, pairs, triples}
use Rattle.pdl_elem.specs.Tables.{found_in}
use Rattle.pdl_lexemes.specs.Lexing.{operators, assignments, signs}

abbrev is_known : List ℕ → Bool
is_known text = is_some (found_in signs text) || is_some (found_in operators text) || is_some (found_in assignments text)

-- a test that all entries pass is passed by one that is found among them
one_of : {A : Type 0} (same p : A → Bool) (x : A) → ((y : A) → same y ≡ true → p y ≡ true → p x ≡ true) → (ys : List A) → list_any same ys ≡ true → list_all p ys ≡ true → p x ≡ true
one_of same p x here [] found all = absurd (true≢false (sym found))
one_of same p x here (y ∷ ys) found all = of_tests (one_of same p x here ys) (same y) (p y) refl refl found all
  where
    of_tests : (list_any same ys ≡ true → list_all p ys ≡ true → p x ≡ true) → (a b : Bool) → same y ≡ a → p y ≡ b → (a || list_any same ys) ≡ true → (b && list_all p ys) ≡ true → p x ≡ true
    of_tests later true true e k f g = here y e k
    of_tests later false true e k f g = later f g
    of_tests later a false e k f g = absurd (true≢false (sym g))

byte_known : (a : ℕ) → list_any (λ b. a == b) (codes "()[],:=+-*/%><&|^!~") ≡ true → is_known (a ∷ []) ≡ true
byte_known a found =
    one_of (λ b. a == b) (λ b. is_known (b ∷ [])) a
    (λ b same known. subst (λ c. is_known (c ∷ []) ≡ true) (sym (eqb-true a b same)) known)
    (codes "()[],:=+-*/%><&|^!~") found refl

text_known : (text : List ℕ) (texts : List (List ℕ)) → list_any (bytes_eq text) texts ≡ true → list_all is_known texts ≡ true → is_known text ≡ true
text_known text texts found all =
    one_of (bytes_eq text) is_known text
    (λ other same known. subst (λ t. is_known t ≡ true) (sym ((bytes_eq-Decides text other).0 same)) known)
    texts found all

pub sign_known : (text : List ℕ) → is_sign text ≡ true → is_known text ≡ true
sign_known [] e = absurd (true≢false (sym e))
sign_known (a ∷ []) e = byte_known a e
sign_known (a ∷ b ∷ []) e = text_known (a ∷ b ∷ []) pairs e refl
sign_known (a ∷ b ∷ c ∷ []) e = text_known (a ∷ b ∷ c ∷ []) triples e refl
sign_known (a ∷ b ∷ c ∷ d ∷ rest) e = absurd (true≢false (sym e))
