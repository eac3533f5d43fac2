-- The grammar of list literals.
use Rattle.std.specs.Prelude.{◌≡◌, ℕ, suc, nat_le, nat_lt, ℤ, pos, neg_ℤ, nat_abs, List, [], ◌∷◌, ◌++◌, Option, Some, None, option_map, bytes_eq, if◌then◌else◌}
use Rattle.std.specs.List.{list_any}
use Rattle.pdl_elem.specs.declared.BinaryOp.TheVariants.{Sub}
use Rattle.pdl_elem.specs.declared.Ty.{Ty}
use Rattle.pdl_elem.specs.declared.Ty.TheVariants.{Long, Longlong}
use Rattle.pdl_lexemes.specs.Limits.{number_limit, long_limit}
use Rattle.pdl_lexemes.specs.declared.Lexeme.{Lexeme}
use Rattle.pdl_lexemes.specs.declared.Lexeme.TheVariants.{Number, OpenSquare, CloseSquare, Comma, Operator}

-- the value of a number token, or nothing where it is above the greatest number of a text
abbrev pub signed : ℕ → Option ℤ
signed n = if nat_le n number_limit then Some (pos n) else None

-- the dimensions that two members have, where both have the same
abbrev pub shared : Option (List ℕ) → Option (List ℕ) → Option (List ℕ)
shared None b = None
shared (Some a) None = None
shared (Some a) (Some b) = if bytes_eq a b then Some a else None

-- a list's dimensions: those of its members, and then its own length
abbrev pub with_length : ℕ → Option (List ℕ) → Option (List ℕ)
with_length n shape = option_map (λ d. d ++ (n ∷ [])) shape

-- a list's type: longlong where the size of a number in it is above that of long, else long
abbrev pub type_of : List ℤ → Ty
type_of elems = if list_any (λ z. nat_lt long_limit (nat_abs z)) elems then Longlong else Long

-- what a part of a list literal is: its dimensions, which are none where it is ragged, and from the
-- numbers before it to those with it
pub data ListPart : Type 0 where
  an_item : Option (List ℕ) → List ℤ → List ℤ → ListPart
  some_items : ℕ → Option (List ℕ) → List ℤ → List ℤ → ListPart
  a_list : Option (List ℕ) → List ℤ → List ℤ → ListPart

-- the lexemes, up to a rest, spell this part of a list literal
pub data SpellsList : ListPart → List Lexeme → List Lexeme → Type 0 where
  number : {n : ℕ} {z : ℤ} {front : List ℤ} {rest : List Lexeme} → signed n ≡ Some z
      → SpellsList (an_item (Some []) front (front ++ z ∷ [])) (Number n ∷ rest) rest
  minus : {n : ℕ} {z : ℤ} {front : List ℤ} {rest : List Lexeme} → signed n ≡ Some z
      → SpellsList (an_item (Some []) front (front ++ neg_ℤ z ∷ [])) (Operator Sub
      ∷ Number n ∷ rest) rest
  nested : {shape : Option (List ℕ)} {front all : List ℤ} {ts rest : List Lexeme}
      → SpellsList (a_list shape front all) ts rest → SpellsList (an_item shape front all) ts rest
  first : {shape : Option (List ℕ)} {front all : List ℤ} {ts rest : List Lexeme}
      → SpellsList (an_item shape front all) ts rest →
      SpellsList (some_items 1 shape front all) ts rest
  more : {n : ℕ} {shape shape' : Option (List ℕ)} {front so_far all : List ℤ}
      {ts us rest : List Lexeme}
      → SpellsList (some_items n shape front so_far) ts (Comma ∷ us) →
      SpellsList (an_item shape' so_far all) us rest
      → SpellsList (some_items (suc n) (shared shape shape') front all) ts rest
  empty : {front : List ℤ} {rest : List Lexeme}
      → SpellsList (a_list (Some (0 ∷ [])) front front) (OpenSquare ∷ CloseSquare ∷ rest) rest
  filled : {n : ℕ} {shape : Option (List ℕ)} {front all : List ℤ} {ts rest : List Lexeme}
      → SpellsList (some_items n shape front all) ts (CloseSquare ∷ rest)
      → SpellsList (a_list (with_length n shape) front all) (OpenSquare ∷ ts) rest

-- a ragged list stands somewhere in the lexemes
pub data HoldsRagged : List Lexeme → Type 0 where
  here : {elems : List ℤ} {ts rest : List Lexeme} → SpellsList (a_list None [] elems) ts rest →
      HoldsRagged ts
  later : {t : Lexeme} {ts : List Lexeme} → HoldsRagged ts → HoldsRagged (t ∷ ts)
