-- The grammar of expressions, one case a rule.
use Rattle.std.specs.Prelude.{◌≡◌, ℕ, zero, suc, ℤ, List, [], ◌∷◌, true, false, Option, Some, unwrap_or, length}
use Rattle.pdl_elem.specs.declared.BinaryOp.{BinaryOp}
use Rattle.pdl_elem.specs.declared.BinaryOp.TheVariants.{Sub}
use Rattle.pdl_elem.specs.declared.UnaryOp.{UnaryOp}
use Rattle.pdl_elem.specs.declared.UnaryOp.TheVariants.{Neg}
use Rattle.pdl_elem.specs.declared.Ty.{Ty}
use Rattle.pdl_lexemes.specs.declared.Span.{Span}
use Rattle.pdl_lexemes.specs.declared.WordKind.{WordKind}
use Rattle.pdl_lexemes.specs.declared.WordKind.TheVariants.{OfType}
use Rattle.pdl_lexemes.specs.declared.Keyword.TheVariants.{Pdl}
use Rattle.pdl_lexemes.specs.declared.Lexeme.{Lexeme}
use Rattle.pdl_lexemes.specs.declared.Lexeme.TheVariants.{Name, Keyword, Word, Number, Quoted, Open, Close, Comma, Arrow, Operator, Prefix}
use Rattle.pdl_lexemes.specs.Bytes.{bytes_at}
use Rattle.pdl_lexemes.specs.Levels.{level_of, many}
use Rattle.pdl_lexemes.specs.Lists.{signed, type_of, SpellsList, a_list}
use Rattle.pdl_syntax.specs.Tree.{Tree, Args, number, named, literal, unary, binary, call, none, value, text, of_type}

-- the tree of a list literal; a ragged one, which is refused later, has a dimension that is
-- too long for its numbers
abbrev pub literal_of : Option (List ℕ) → List ℤ → Tree
literal_of shape elems = literal (type_of elems) (unwrap_or shape (suc (length elems) ∷ [])) elems

-- what a part of an expression is
pub data Part : Type 0 where
  an_expr : ℕ → Tree → Part
  a_postfix : Tree → Part
  a_primary : Tree → Part
  -- from the arguments before it to those with it
  an_arg : Args → Args → Part
  some_args : Args → Args → Part
  -- `[args] ")"`
  closed_args : Args → Args → Part
  -- `["(" [args] ")"]`
  maybe_args : Args → Args → Part

-- the lexemes of a text, up to a rest, spell this part
pub data Spells (source : List ℕ) : Part → List Lexeme → List Lexeme → Type 0 where
  same : {l : ℕ} {t : Tree} {ts rest : List Lexeme}
      → Spells source (an_expr l t) ts rest → Spells source (an_expr (suc l) t) ts rest
  joined : {l : ℕ} {a b : Tree} {op : BinaryOp} {ts us rest : List Lexeme}
      → Spells source (an_expr (suc l) a) ts (Operator op ∷ us) →
      level_of op ≡ suc l → many (suc l) ≡ true
      → Spells source (an_expr l b) us rest →
      Spells source (an_expr (suc l) (binary op a b)) ts rest
  once : {l : ℕ} {a b : Tree} {op : BinaryOp} {ts us rest : List Lexeme}
      → Spells source (an_expr l a) ts (Operator op ∷ us) → level_of op ≡ suc l →
      many (suc l) ≡ false
      → Spells source (an_expr l b) us rest →
      Spells source (an_expr (suc l) (binary op a b)) ts rest
  negated : {t : Tree} {ts rest : List Lexeme}
      → Spells source (an_expr zero t) ts rest →
      Spells source (an_expr zero (unary Neg t)) (Operator Sub ∷ ts) rest
  prefixed : {op : UnaryOp} {t : Tree} {ts rest : List Lexeme}
      → Spells source (an_expr zero t) ts rest →
      Spells source (an_expr zero (unary op t)) (Prefix op ∷ ts) rest
  plain : {t : Tree} {ts rest : List Lexeme}
      → Spells source (a_postfix t) ts rest → Spells source (an_expr zero t) ts rest
  bare : {t : Tree} {ts rest : List Lexeme}
      → Spells source (a_primary t) ts rest → Spells source (a_postfix t) ts rest
  method : {t : Tree} {kind : WordKind} {w : Span} {args : Args} {ts us rest : List Lexeme}
      → Spells source (a_postfix t) ts (Arrow ∷ Word kind w ∷ us)
      → Spells source (maybe_args (value none t) args) us rest
      → Spells source (a_postfix (call (bytes_at source w) args)) ts rest
  a_number : {n : ℕ} {z : ℤ} {rest : List Lexeme} → signed n ≡ Some z
      → Spells source (a_primary (number z)) (Number n ∷ rest) rest
  a_name : {w : Span} {rest : List Lexeme} →
      Spells source (a_primary (named (bytes_at source w))) (Name w ∷ rest) rest
  list : {shape : Option (List ℕ)} {elems : List ℤ} {ts rest : List Lexeme} →
      SpellsList (a_list shape [] elems) ts rest
      → Spells source (a_primary (literal_of shape elems)) (Keyword Pdl ∷ ts) rest
  round_list : {shape : Option (List ℕ)} {elems : List ℤ} {ts rest : List Lexeme}
      → SpellsList (a_list shape [] elems) ts (Close ∷ rest)
      → Spells source (a_primary (literal_of shape elems)) (Keyword Pdl ∷ Open ∷ ts) rest
  called : {kind : WordKind} {w : Span} {args : Args} {ts rest : List Lexeme}
      → Spells source (closed_args none args) ts rest
      → Spells source (a_primary (call (bytes_at source w) args)) (Word kind w ∷ Open ∷ ts) rest
  round : {t : Tree} {ts rest : List Lexeme} → Spells source (an_expr 7 t) ts (Close ∷ rest)
      → Spells source (a_primary t) (Open ∷ ts) rest
  a_value : {front : Args} {t : Tree} {ts rest : List Lexeme}
      → Spells source (an_expr 7 t) ts rest → Spells source (an_arg front (value front t)) ts rest
  a_text : {front : Args} {w : Span} {rest : List Lexeme}
      → Spells source (an_arg front (text front (bytes_at source w))) (Quoted w ∷ rest) rest
  a_type : {front : Args} {ty : Ty} {w : Span} {rest : List Lexeme}
      → Spells source (an_arg front (of_type front ty)) (Word (OfType ty) w ∷ rest) rest
  one : {front args : Args} {ts rest : List Lexeme}
      → Spells source (an_arg front args) ts rest → Spells source (some_args front args) ts rest
  more : {front args args' : Args} {ts us rest : List Lexeme}
      → Spells source (some_args front args) ts (Comma ∷ us) →
      Spells source (an_arg args args') us rest
      → Spells source (some_args front args') ts rest
  no_args : {front : Args} {rest : List Lexeme} →
      Spells source (closed_args front front) (Close ∷ rest) rest
  all_args : {front args : Args} {ts rest : List Lexeme}
      → Spells source (some_args front args) ts (Close ∷ rest) →
      Spells source (closed_args front args) ts rest
  without : {front : Args} {rest : List Lexeme} → Spells source (maybe_args front front) rest rest
  within : {front args : Args} {ts rest : List Lexeme}
      → Spells source (closed_args front args) ts rest →
      Spells source (maybe_args front args) (Open ∷ ts) rest
