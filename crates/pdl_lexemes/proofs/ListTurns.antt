-- One turn of the chain of a list's items.
use Rattle.std.proofs.Common.{◌≡◌, ℕ, ℤ, zero, suc, List, Option, Some, None, refl}
use Rattle.pdl_lexemes.specs.declared.Lexeme.{Lexeme}
use Rattle.pdl_lexemes.specs.Lists.{shared}
use Rattle.pdl_lexemes.specs.ListReading.{ReadPart, read_part, items_at, item_at}
use Rattle.pdl_lexemes.specs.declared.Lexeme.TheVariants.{Comma}
use Rattle.pdl_lexemes.specs.Peeks.{after}

module _ (list_of : List ℤ → List Lexeme → Option ReadPart) where
  pub items_stop : (k n : ℕ) (p : ReadPart) → after Comma p.rest ≡ None → items_at list_of k n p ≡ Some (n, p)
  unfolding items_at
  items_stop zero n p e = refl
  items_stop (suc k) n p e = rw e

  pub items_turn : (k n : ℕ) (p x : ReadPart) (us : List Lexeme) →
      after Comma p.rest ≡ Some us → item_at list_of p.elems us ≡ Some x →
      items_at list_of (suc k) n p ≡ items_at list_of k (suc n) (read_part (shared p.shape x.shape) x.elems x.rest)
  unfolding items_at
  items_turn k n p x us e h = rw e (rw h)
