-- How a list literal is read: the one way in which its lexemes spell it, if there is one.
use Rattle.std.specs.Prelude.{ℕ, zero, suc, ℤ, List, [], ◌∷◌, ◌++◌, length, Option, Some, None, option_map, option_and_then}
use Rattle.pdl_lemmas.specs.Options.{choose}
use Rattle.pdl_lexemes.specs.declared.Lexeme.{Lexeme}
use Rattle.pdl_lexemes.specs.declared.Lexeme.TheVariants.{OpenSquare, CloseSquare, Comma}
use Rattle.pdl_lexemes.specs.Lists.{shared, with_length}
use Rattle.pdl_lexemes.specs.Peeks.{after, signed_number_at}

-- the dimensions and the numbers of a list or an item, and what follows it
pub record ReadPart : Type 0 where
  pub shape : Option (List ℕ)
  pub elems : List ℤ
  pub rest : List Lexeme

abbrev pub read_part : Option (List ℕ) → List ℤ → List Lexeme → ReadPart
read_part shape elems rest = record { shape = shape; elems = elems; rest = rest }

-- the number of items read, with them
abbrev pub counted : ℕ → ReadPart → ℕ × ReadPart
counted n p = (n, p)

-- the list of which n items are read, where it ends here
abbrev pub closed : ℕ × ReadPart → Option ReadPart
closed p = option_map (read_part (with_length p.0 p.1.shape) p.1.elems) (after CloseSquare p.1.rest)

-- a number as an item behind the numbers before it
abbrev pub number_item : List ℤ → ℤ × List Lexeme → ReadPart
number_item front x = read_part (Some []) (front ++ x.0 ∷ []) x.1

module _ (list_of : List ℤ → List Lexeme → Option ReadPart) where
  -- an item, where the reader of lists is `list_of`
  unfoldable pub item_at : List ℤ → List Lexeme → Option ReadPart
  item_at front ts = choose (option_map (number_item front) (signed_number_at ts)) (λ us.
      list_of front ts) (after OpenSquare ts)

  -- the further items of a list of which n are read, at most k of them; with them their number
  unfoldable pub items_at : ℕ → ℕ → ReadPart → Option (ℕ × ReadPart)
  items_at zero n so_far = Some (n, so_far)
  items_at (suc k) n so_far =
      choose (Some (n, so_far))
      (λ us. option_and_then
      (λ x. items_at k (suc n) (read_part (shared so_far.shape x.shape) x.elems x.rest))
      (item_at so_far.elems us))
      (after Comma so_far.rest)

  -- what stands behind `[`
  abbrev pub filled_at : List ℤ → List Lexeme → Option ReadPart
  filled_at front ts = option_and_then (λ x. option_and_then closed (items_at (length x.rest) 1 x))
      (item_at front ts)

  unfoldable pub inside_at : List ℤ → List Lexeme → Option ReadPart
  inside_at front ts = choose (filled_at front ts) (λ rest.
      Some (read_part (Some (0 ∷ [])) front rest)) (after CloseSquare ts)

  abbrev pub list_at : List ℤ → List Lexeme → Option ReadPart
  list_at front ts = option_and_then (inside_at front) (after OpenSquare ts)

-- a list literal of which at most n lists are open at once
unfoldable pub list_reader : ℕ → List ℤ → List Lexeme → Option ReadPart
list_reader zero front ts = None
list_reader (suc n) front ts = list_at (list_reader n) front ts

-- the list literal at the front
abbrev pub list_read : List Lexeme → Option ReadPart
list_read ts = list_reader (suc (length ts)) [] ts
