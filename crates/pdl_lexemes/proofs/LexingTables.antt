-- What all entries of a table pass, what is found in it passes.
use Rattle.std.proofs.Common.{◌≡◌, ℕ, Bool, true, false, List, [], ◌∷◌, refl, sym, ◌∙◌, ap, true≢false}
use Rattle.std.specs.Prelude.{Option, Some, None, bytes_eq}
use Rattle.std.specs.List.{list_all}
use Rattle.pdl_lemmas.specs.Options.{some_inj, none_some, choose}
use Rattle.pdl_lemmas.specs.Tests.{by_test}
use Rattle.pdl_elem.specs.declared.BinaryOp.{BinaryOp}
use Rattle.pdl_elem.specs.Tables.{found_in}
use Rattle.pdl_lexemes.specs.declared.AssignOp.{AssignOp}
use Rattle.pdl_lexemes.specs.declared.Lexeme.{Lexeme}
use Rattle.pdl_lexemes.specs.declared.Lexeme.TheVariants.{Assign, Operator, Unknown}
use Rattle.pdl_lexemes.specs.Lexing.{assignments, operators}

found_passes : {A : Type 0} (p : A → Bool) (table : List (List ℕ × A)) (text : List ℕ) → list_all (λ entry. p entry.1) table ≡ true →
    (x : A) → found_in table text ≡ Some x → p x ≡ true
found_passes p [] text all x found = absurd (none_some found)
found_passes p (entry ∷ table) text all x found =
    by_test (p entry.1)
    (λ passes. by_test (bytes_eq text entry.0)
    (λ here. let same : Some entry.1 ≡ Some x = rw here at found in ap p (sym (some_inj same)) ∙ passes)
    (λ further. found_passes p table text (rw passes at all) x (rw further at found)))
    (λ fails. let never : false ≡ true = rw fails at all in absurd (true≢false (sym never)))

-- the lexeme of a sign passes a test that operators and assignments pass, and all other signs
pub sign_passes : (p : Lexeme → Bool) (others : List (List ℕ × Lexeme)) (text : List ℕ) → p Unknown ≡ true → ((op : AssignOp) → p (Assign op) ≡ true) → ((op : BinaryOp) → p (Operator op) ≡ true) →
    list_all (λ entry. p entry.1) others ≡ true →
    p (choose (choose (choose Unknown (λ op. Assign op) (found_in assignments text)) (λ op. Operator op) (found_in operators text)) (λ s. s) (found_in others text)) ≡ true
sign_passes p others text unknown assign operator all = by_found (found_in assignments text) (found_in operators text) (found_in others text) refl
  where
    by_found : (o1 : Option AssignOp) (o2 : Option BinaryOp) (o3 : Option Lexeme) → found_in others text ≡ o3 →
        p (choose (choose (choose Unknown (λ op. Assign op) o1) (λ op. Operator op) o2) (λ s. s) o3) ≡ true
    by_found o1 o2 (Some l) e = found_passes p others text all l e
    by_found o1 (Some op) None e = operator op
    by_found (Some op) None None e = assign op
    by_found None None None e = unknown
