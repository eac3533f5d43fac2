-- The grammar of kernel code (PDL::PP, Code), one case a rule: which tokens, up
-- to a rest, spell a part.
use Rattle.std.specs.Prelude.{◌≡◌, ℕ, zero, suc, ℤ, pos, List, ◌∷◌, true, false, Option, Some, None}
use Rattle.pdl_elem.specs.declared.BinaryOp.{BinaryOp}
use Rattle.pdl_elem.specs.declared.BinaryOp.TheVariants.{Sub}
use Rattle.pdl_elem.specs.declared.UnaryOp.{UnaryOp}
use Rattle.pdl_elem.specs.declared.UnaryOp.TheVariants.{Neg}
use Rattle.pdl_lexemes.specs.Lists.{signed}
use Rattle.pdl_lexemes.specs.Levels.{level_of, many}
use Rattle.pdl_code.specs.declared.lexeme.Span.{Span}
use Rattle.pdl_code.specs.declared.lexeme.WordKind.{WordKind}
use Rattle.pdl_code.specs.declared.lexeme.WordKind.TheVariants.{Loop, If, Else, OfType, Plain}
use Rattle.pdl_code.specs.declared.lexeme.NameKind.{NameKind}
use Rattle.pdl_code.specs.declared.lexeme.NameKind.TheVariants.{Size, Generic}
use Rattle.pdl_code.specs.declared.lexeme.Lexeme.{Lexeme}
use Rattle.pdl_code.specs.declared.lexeme.Lexeme.TheVariants.{Name, Word, Number, Open, Close, BlockOpen, BlockClose, Semicolon, Comma, Equals, FatArrow, Assign, Operator, Prefix}
use Rattle.pdl_code.specs.declared.names.LocalType.{LocalType}
use Rattle.pdl_code.specs.declared.names.LocalType.TheVariants.{Generic as OfGeneric}
use Rattle.pdl_code.specs.declared.names.Target.TheVariants.{New, Named}
use Rattle.pdl_code.specs.Tree.{called, RawTree, RawIndices, RawStep, RawCode, number, size, named, access, unary, binary, none, along, repeat, choose, keep, put, done, next}

-- what a part of an expression is: an expression of a level, a primary, an argument's name with
-- its indices and the place of the closing bracket, and one or more indices
pub data Part : Type 0 where
  an_expr : ℕ → RawTree → Part
  a_primary : RawTree → Part
  an_access : Span → RawIndices → ℕ → Part
  some_indices : RawIndices → Part

pub data Spells : Part → List Lexeme → List Lexeme → Type 0 where
  same : {l : ℕ} {t : RawTree} {ts rest : List Lexeme} → Spells (an_expr l t) ts rest →
      Spells (an_expr (suc l) t) ts rest
  joined : {l : ℕ} {a b : RawTree} {op : BinaryOp} {ts us rest : List Lexeme}
      → Spells (an_expr (suc l) a) ts (Operator op ∷ us) → level_of op ≡ suc l → many (suc l) ≡ true
      → Spells (an_expr l b) us rest → Spells (an_expr (suc l) (binary op a b)) ts rest
  once : {l : ℕ} {a b : RawTree} {op : BinaryOp} {ts us rest : List Lexeme}
      → Spells (an_expr l a) ts (Operator op ∷ us) → level_of op ≡ suc l → many (suc l) ≡ false
      → Spells (an_expr l b) us rest → Spells (an_expr (suc l) (binary op a b)) ts rest
  negated : {t : RawTree} {ts rest : List Lexeme}
      → Spells (an_expr zero t) ts rest →
      Spells (an_expr zero (unary Neg t)) (Operator Sub ∷ ts) rest
  prefixed : {op : UnaryOp} {t : RawTree} {ts rest : List Lexeme}
      → Spells (an_expr zero t) ts rest → Spells (an_expr zero (unary op t)) (Prefix op ∷ ts) rest
  plain : {t : RawTree} {ts rest : List Lexeme} → Spells (a_primary t) ts rest →
      Spells (an_expr zero t) ts rest
  a_number : {n : ℕ} {z : ℤ} {rest : List Lexeme} → signed n ≡ Some z →
      Spells (a_primary (number z)) (Number n ∷ rest) rest
  a_word : {kind : WordKind} {w : Span} {rest : List Lexeme} →
      Spells (a_primary (named w)) (Word kind w ∷ rest) rest
  a_size : {v w : Span} {kind : WordKind} {at : ℕ} {rest : List Lexeme}
      → Spells (a_primary (size w)) (Name Size v ∷ Open ∷ Word kind w ∷ Close at ∷ rest) rest
  an_element : {w : Span} {is : RawIndices} {at : ℕ} {ts rest : List Lexeme}
      → Spells (an_access w is at) ts rest → Spells (a_primary (access (called w at) is)) ts rest
  round : {t : RawTree} {at : ℕ} {ts rest : List Lexeme}
      → Spells (an_expr 7 t) ts (Close at ∷ rest) → Spells (a_primary t) (Open ∷ ts) rest
  looped_access : {kind : NameKind} {w : Span} {at : ℕ} {rest : List Lexeme}
      → Spells (an_access w none at) (Name kind w ∷ Open ∷ Close at ∷ rest) rest
  given_access : {kind : NameKind} {w : Span} {is : RawIndices} {at : ℕ} {ts rest : List Lexeme}
      → Spells (some_indices is) ts (Close at ∷ rest) →
      Spells (an_access w is at) (Name kind w ∷ Open ∷ ts) rest
  last_index : {kind : WordKind} {w : Span} {t : RawTree} {ts rest : List Lexeme}
      → Spells (an_expr 7 t) ts rest →
      Spells (some_indices (along w t none)) (Word kind w ∷ FatArrow ∷ ts) rest
  next_index : {kind : WordKind} {w : Span} {t : RawTree} {is : RawIndices}
      {ts us rest : List Lexeme}
      → Spells (an_expr 7 t) ts (Comma ∷ us) → Spells (some_indices is) us rest
      → Spells (some_indices (along w t is)) (Word kind w ∷ FatArrow ∷ ts) rest

-- the type of a declaration: a type word, or `$GENERIC()`
pub data SpellsType : LocalType → List Lexeme → List Lexeme → Type 0 where
  type_word : {ty : LocalType} {v : Span} {rest : List Lexeme} →
      SpellsType ty (Word (OfType ty) v ∷ rest) rest
  generic_type : {v : Span} {at : ℕ} {rest : List Lexeme} →
      SpellsType OfGeneric (Name Generic v ∷ Open ∷ Close at ∷ rest) rest

-- what an assignment's sign does before it stores: nothing, or the operator before its `=`
abbrev pub assigned : Lexeme → Option (Option BinaryOp)
assigned Equals = Some None
assigned (Assign op) = Some (Some op)
assigned _ = None

-- what a part of code is: a statement, statements, and what stands behind `if`'s block
pub data Block : Type 0 where
  a_step : RawStep → Block
  some_code : RawCode → Block
  an_else : RawCode → Block

pub data SpellsBlock : Block → List Lexeme → List Lexeme → Type 0 where
  a_loop : {v w : Span} {kind : WordKind} {at : ℕ} {c : RawCode} {ts rest : List Lexeme}
      → SpellsBlock (some_code c) ts (BlockClose ∷ rest)
      → SpellsBlock (a_step (repeat w c)) (Word Loop v ∷ Open ∷ Word kind w ∷ Close at
      ∷ BlockOpen ∷ ts) rest
  a_choice : {v : Span} {t : RawTree} {at : ℕ} {a b : RawCode} {ts us vs rest : List Lexeme}
      → Spells (an_expr 7 t) ts (Close at ∷ BlockOpen ∷ us) →
      SpellsBlock (some_code a) us (BlockClose ∷ vs)
      → SpellsBlock (an_else b) vs rest →
      SpellsBlock (a_step (choose t a b)) (Word If v ∷ Open ∷ ts) rest
  without_else : {rest : List Lexeme} → SpellsBlock (an_else done) rest rest
  with_else : {v : Span} {c : RawCode} {ts rest : List Lexeme}
      → SpellsBlock (some_code c) ts (BlockClose ∷ rest) →
      SpellsBlock (an_else c) (Word Else v ∷ BlockOpen ∷ ts) rest
  -- a declared word isn't reserved
  a_declaration : {ty : LocalType} {w : Span} {ts rest : List Lexeme}
      → SpellsType ty ts (Word Plain w ∷ Semicolon ∷ rest) →
      SpellsBlock (a_step (keep (New ty w) None (number (pos 0)))) ts rest
  a_valued_declaration : {ty : LocalType} {w : Span} {t : RawTree} {ts us rest : List Lexeme}
      → SpellsType ty ts (Word Plain w ∷ Equals ∷ us) → Spells (an_expr 7 t) us (Semicolon ∷ rest)
      → SpellsBlock (a_step (keep (New ty w) None t)) ts rest
  a_word_assignment : {kind : WordKind} {w : Span} {s : Lexeme} {op : Option BinaryOp} {t : RawTree}
      {ts rest : List Lexeme}
      → assigned s ≡ Some op → Spells (an_expr 7 t) ts (Semicolon ∷ rest)
      → SpellsBlock (a_step (keep (Named w) op t)) (Word kind w ∷ s ∷ ts) rest
  an_access_assignment : {w : Span} {is : RawIndices} {at : ℕ} {s : Lexeme} {op : Option BinaryOp}
      {t : RawTree} {ts us rest : List Lexeme}
      → Spells (an_access w is at) ts (s ∷ us) → assigned s ≡ Some op →
      Spells (an_expr 7 t) us (Semicolon ∷ rest)
      → SpellsBlock (a_step (put (called w at) is op t)) ts rest
  no_code : {rest : List Lexeme} → SpellsBlock (some_code done) rest rest
  empty_statement : {c : RawCode} {ts rest : List Lexeme}
      → SpellsBlock (some_code c) ts rest → SpellsBlock (some_code c) (Semicolon ∷ ts) rest
  a_statement : {s : RawStep} {c : RawCode} {ts us rest : List Lexeme}
      → SpellsBlock (a_step s) ts us → SpellsBlock (some_code c) us rest →
      SpellsBlock (some_code (next s c)) ts rest
