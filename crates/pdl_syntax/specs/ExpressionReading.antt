-- How an expression is read: the one way in which its lexemes spell it, if there is one.
use Rattle.std.specs.Prelude.{ℕ, zero, suc, ℤ, nat_eq, nat_lt, nat_le, ◌&&◌, List, [], ◌∷◌, length, Option, Some, None, option_map, option_and_then, if◌then◌else◌}
use Rattle.pdl_lemmas.specs.Options.{choose}
use Rattle.pdl_elem.specs.declared.BinaryOp.{BinaryOp}
use Rattle.pdl_lexemes.specs.declared.Span.{Span}
use Rattle.pdl_lexemes.specs.declared.Keyword.TheVariants.{Pdl}
use Rattle.pdl_lexemes.specs.declared.Lexeme.{Lexeme}
use Rattle.pdl_lexemes.specs.declared.Lexeme.TheVariants.{Name, Keyword, Word, Number, Open, Close, Operator, Comma}
use Rattle.pdl_lexemes.specs.Bytes.{bytes_at}
use Rattle.pdl_lexemes.specs.Lists.{signed}
use Rattle.pdl_lexemes.specs.ListReading.{list_read, ReadPart}
use Rattle.pdl_lexemes.specs.Peeks.{Read, after, prefix_at, method_at, type_at, quoted_at}
use Rattle.pdl_syntax.specs.Tree.{Tree, Args, number, named, unary, binary, call, none, value, text, of_type}
use Rattle.pdl_syntax.specs.Grammar.{literal_of}
use Rattle.pdl_lexemes.specs.Levels.{level_of, many}

-- an operator of a level
abbrev pub operator_at : ℕ → List Lexeme → Read BinaryOp
operator_at l (Operator op ∷ ts) = if nat_eq (level_of op) l then Some (op, ts) else None
operator_at l _ = None

-- the level of the operator that comes first, where it is above a level and at most another
abbrev pub level_between : ℕ → ℕ → List Lexeme → Option ℕ
level_between b l (Operator op ∷ ts) =
    if nat_lt b (level_of op) && nat_le (level_of op) l then Some (level_of op) else None
level_between b l _ = None

-- how many operators of a level there may be in what is left
abbrev pub limit_of : ℕ → List Lexeme → ℕ
limit_of l ts = if many l then length ts else 1

-- a list literal behind `pdl`
abbrev pub tree_of_list : ReadPart → Tree
tree_of_list p = literal_of p.shape p.elems

abbrev pub round_list_at : List Lexeme → Read Tree
round_list_at ts = option_and_then (λ p. option_map (λ us.
    (tree_of_list p, us)) (after Close p.rest)) (list_read ts)

abbrev pub literal_at : List Lexeme → Read Tree
literal_at ts = choose (option_map (λ p. (tree_of_list p, p.rest)) (list_read ts))
    round_list_at (after Open ts)

-- a number's value, with what follows it
abbrev pub number_before : List Lexeme → ℤ → Tree × List Lexeme
number_before ts z = (number z, ts)

-- the parts of an expression that may hold each other
pub data Kind : Type 0 where
  expression : Kind
  operand : Kind

-- the further operators of level `suc l`, at most k of them, where `inner` reads
-- what stands between them
unfoldable pub chain_at : (inner : List Lexeme → Read Tree) → (l most : ℕ) → (first : Tree) →
    List Lexeme → Read Tree
chain_at inner l zero t ts = Some (t, ts)
chain_at inner l (suc k) t ts =
    choose (Some (t, ts))
    (λ p. option_and_then (λ x. chain_at inner l k (binary p.0 t x.0) x.1) (inner p.1))
    (operator_at l ts)

module _ (source : List ℕ) (f : Kind → List Lexeme → Read Tree) where
  -- an argument behind those before it
  abbrev pub value_at : Args → List Lexeme → Read Args
  value_at front ts = option_map (λ x. (value front x.0, x.1)) (f expression ts)

  abbrev pub typed_at : Args → List Lexeme → Read Args
  typed_at front ts = choose (value_at front ts) (λ x. Some (of_type front x.0, x.1)) (type_at ts)

  unfoldable pub arg_at : Args → List Lexeme → Read Args
  arg_at front ts = choose (typed_at front ts) (λ x. Some (text front (bytes_at source x.0), x.1))
      (quoted_at ts)

  -- the further arguments, at most k of them
  unfoldable pub more_at : ℕ → Args → List Lexeme → Read Args
  more_at zero args ts = Some (args, ts)
  more_at (suc k) args ts =
      choose (Some (args, ts)) (λ us. option_and_then (λ x. more_at k x.0 x.1) (arg_at args us))
      (after Comma ts)

  abbrev pub close_at : Args × List Lexeme → Read Args
  close_at x = option_map (λ us. (x.0, us)) (after Close x.1)

  abbrev pub filled_at : Args → List Lexeme → Read Args
  filled_at front ts = option_and_then (λ x. option_and_then close_at
      (more_at (length x.1) x.0 x.1)) (arg_at front ts)

  -- what stands behind an opening bracket
  unfoldable pub closed_at : Args → List Lexeme → Read Args
  closed_at front ts = choose (filled_at front ts) (λ us. Some (front, us)) (after Close ts)

  -- arguments in brackets, or none
  unfoldable pub maybe_at : Args → List Lexeme → Read Args
  maybe_at front ts = choose (Some (front, ts)) (closed_at front) (after Open ts)

  abbrev pub round_at : List Lexeme → Read Tree
  round_at ts =
      option_and_then (λ x. option_map (λ us. (x.0, us)) (after Close x.1)) (f expression ts)

  abbrev pub call_at : Span → List Lexeme → Read Tree
  call_at w ts = option_and_then (λ us. option_map (λ x. (call (bytes_at source w) x.0, x.1))
      (closed_at none us)) (after Open ts)

  unfoldable pub primary_at : List Lexeme → Read Tree
  primary_at [] = None
  primary_at (Number n ∷ ts) = option_map (number_before ts) (signed n)
  primary_at (Name w ∷ ts) = Some (named (bytes_at source w), ts)
  primary_at (Keyword Pdl ∷ ts) = literal_at ts
  primary_at (Word kind w ∷ ts) = call_at w ts
  primary_at (Open ∷ ts) = round_at ts
  primary_at _ = None

  -- the further methods, at most k of them
  unfoldable pub methods_at : ℕ → Tree → List Lexeme → Read Tree
  methods_at zero t ts = Some (t, ts)
  methods_at (suc k) t ts =
      choose (Some (t, ts))
      (λ m. option_and_then (λ x. methods_at k (call (bytes_at source m.0) x.0) x.1)
      (maybe_at (value none t) m.1))
      (method_at ts)

  unfoldable pub postfix_at : List Lexeme → Read Tree
  postfix_at ts = option_and_then (λ x. methods_at (length x.1) x.0 x.1) (primary_at ts)

  unfoldable pub unary_at : List Lexeme → Read Tree
  unary_at ts = choose (postfix_at ts) (λ p. option_map (λ x. (unary p.0 x.0, x.1)) (f operand p.1))
      (prefix_at ts)

  -- an expression of a level
  unfoldable pub level_at : ℕ → List Lexeme → Read Tree
  level_at zero ts = unary_at ts
  level_at (suc l) ts =
      option_and_then (λ x. chain_at (level_at l) (suc l) (limit_of (suc l) x.1) x.0 x.1)
      (level_at l ts)

  -- an expression of a level whose first operand is read
  unfoldable pub grown_at : ℕ → Tree → List Lexeme → Read Tree
  grown_at zero t ts = Some (t, ts)
  grown_at (suc l) t ts =
      option_and_then (λ x. chain_at (level_at l) (suc l) (limit_of (suc l) x.1) x.0 x.1)
      (grown_at l t ts)

-- an expression in which at most n parts are open at once
unfoldable pub reader : (source : List ℕ) → (most : ℕ) → Kind → List Lexeme → Read Tree
reader source zero kind ts = None
reader source (suc n) expression ts = level_at source (reader source n) 7 ts
reader source (suc n) operand ts = unary_at source (reader source n) ts
