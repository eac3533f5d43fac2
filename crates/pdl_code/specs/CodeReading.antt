-- How kernel code is read: the one way in which its tokens spell it, if there is one. Only private
-- functions speak of this.
use Rattle.std.specs.Prelude.{ℕ, zero, suc, ℤ, pos, nat_eq, List, [], ◌∷◌, length, Option, Some, None, option_map, option_and_then, if◌then◌else◌}
use Rattle.pdl_lemmas.specs.Options.{choose as either}
use Rattle.pdl_elem.specs.declared.BinaryOp.{BinaryOp}
use Rattle.pdl_elem.specs.declared.BinaryOp.TheVariants.{Sub}
use Rattle.pdl_elem.specs.declared.UnaryOp.{UnaryOp}
use Rattle.pdl_elem.specs.declared.UnaryOp.TheVariants.{Neg}
use Rattle.pdl_lexemes.specs.Lists.{signed}
use Rattle.pdl_lexemes.specs.Levels.{level_of, many}
use Rattle.pdl_code.specs.declared.lexeme.Span.{Span}
use Rattle.pdl_code.specs.contracts.lexeme.LexemePartialEq.TheImpl as lexeme
use Rattle.pdl_code.specs.contracts.lexeme.NameKindPartialEq.TheImpl as name_kind
use Rattle.pdl_code.specs.contracts.lexeme.WordKindPartialEq.TheImpl as word_kind
use Rattle.pdl_code.specs.declared.lexeme.NameKind.{NameKind}
use Rattle.pdl_code.specs.declared.lexeme.WordKind.{WordKind}
use Rattle.pdl_code.specs.declared.lexeme.WordKind.TheVariants.{Loop, If, Else, OfType, Plain}
use Rattle.pdl_code.specs.declared.lexeme.NameKind.TheVariants.{Size, Generic}
use Rattle.pdl_code.specs.declared.lexeme.Lexeme.{Lexeme}
use Rattle.pdl_code.specs.declared.lexeme.Lexeme.TheVariants.{Name, Word, Number, Open, Close, BlockOpen, BlockClose, Semicolon, Comma, Equals, FatArrow, Operator, Prefix}
use Rattle.pdl_code.specs.declared.names.LocalType.{LocalType}
use Rattle.pdl_code.specs.declared.names.LocalType.TheVariants.{Generic as OfGeneric}
use Rattle.pdl_code.specs.Grammar.{assigned}
use Rattle.pdl_code.specs.Join.{join, join_code}
use Rattle.pdl_code.specs.declared.names.Target.TheVariants.{New, Named}
use Rattle.pdl_code.specs.Tree.{called, RawTree, RawIndices, RawStep, RawCode, number, size, named, access, unary, binary, none, along, repeat, choose, keep, put, done, next}

-- what is read from the front, and what follows it
abbrev pub Read : Type 0 → Type 0
Read A = Option (A × List Lexeme)

-- what follows a sign, a word of a kind, a name of a kind
abbrev pub after : Lexeme → List Lexeme → Option (List Lexeme)
after sign [] = None
after sign (t ∷ ts) = if lexeme.ghosts.eq sign t then Some ts else None

abbrev pub after_word : WordKind → List Lexeme → Option (List Lexeme)
after_word kind (Word k v ∷ ts) = if word_kind.ghosts.eq kind k then Some ts else None
after_word kind _ = None

abbrev pub after_name : NameKind → List Lexeme → Option (List Lexeme)
after_name kind (Name k v ∷ ts) = if name_kind.ghosts.eq kind k then Some ts else None
after_name kind _ = None

abbrev pub close_at : List Lexeme → Read ℕ
close_at (Close at ∷ ts) = Some (at, ts)
close_at _ = None

abbrev pub after_close : List Lexeme → Option (List Lexeme)
after_close ts = option_map (λ x. x.1) (close_at ts)

-- a word, a word that isn't reserved, and a name
abbrev pub word_at : List Lexeme → Read Span
word_at (Word kind w ∷ ts) = Some (w, ts)
word_at _ = None

abbrev pub plain_at : List Lexeme → Read Span
plain_at (Word Plain w ∷ ts) = Some (w, ts)
plain_at _ = None

abbrev pub name_at : List Lexeme → Read Span
name_at (Name kind w ∷ ts) = Some (w, ts)
name_at _ = None

-- a prefix operator
abbrev pub prefix_at : List Lexeme → Read UnaryOp
prefix_at (Prefix op ∷ ts) = Some (op, ts)
prefix_at (Operator Sub ∷ ts) = Some (Neg, ts)
prefix_at _ = None

-- an operator of a level
abbrev pub operator_at : ℕ → List Lexeme → Read BinaryOp
operator_at l (Operator op ∷ ts) = if nat_eq (level_of op) l then Some (op, ts) else None
operator_at l _ = None

-- how many operators of a level there may be in what is left
abbrev pub limit_of : ℕ → List Lexeme → ℕ
limit_of l ts = if many l then length ts else 1

-- the sign of an assignment
abbrev pub assign_sign_at : List Lexeme → Read (Option BinaryOp)
assign_sign_at [] = None
assign_sign_at (s ∷ ts) = option_map (λ op. (op, ts)) (assigned s)

-- `$SIZE(word)`
abbrev pub closed_word : Span × List Lexeme → Read Span
closed_word x = option_map (λ us. (x.0, us)) (after_close x.1)

abbrev pub bracketed_word : List Lexeme → Read Span
bracketed_word ts = option_and_then (λ us. option_and_then closed_word (word_at us)) (after Open ts)

abbrev pub size_at : List Lexeme → Read Span
size_at ts = option_and_then bracketed_word (after_name Size ts)

-- the word of an index, before its `=>`
abbrev pub index_word : List Lexeme → Read Span
index_word ts = option_and_then (λ x. option_map (λ us. (x.0, us)) (after FatArrow x.1))
    (word_at ts)

-- an argument's name, before what its brackets hold
abbrev pub access_name : List Lexeme → Read Span
access_name ts = option_and_then (λ x. option_map (λ us. (x.0, us)) (after Open x.1)) (name_at ts)

-- the type of a declaration
abbrev pub type_word_at : List Lexeme → Read LocalType
type_word_at (Word (OfType ty) v ∷ ts) = Some (ty, ts)
type_word_at _ = None

abbrev pub generic_at : List Lexeme → Read LocalType
generic_at ts =
    option_map (λ us. (OfGeneric, us)) (option_and_then after_close
    (option_and_then (after Open) (after_name Generic ts)))

abbrev pub type_at : List Lexeme → Read LocalType
type_at ts = either (generic_at ts) (λ x. Some x) (type_word_at ts)

-- the type and the word of a declaration
pub record Declared : Type 0 where
  pub ty : LocalType
  pub word : Span
  pub rest : List Lexeme

abbrev pub declared_word : LocalType × List Lexeme → Option Declared
declared_word x = option_map (λ y. record { ty = x.0; word = y.0; rest = y.1 }) (plain_at x.1)

abbrev pub declared_at : List Lexeme → Option Declared
declared_at ts = option_and_then declared_word (type_at ts)

-- the word of a loop, before its code
abbrev pub loop_word : Span × List Lexeme → Read Span
loop_word x = option_map (λ us. (x.0, us)) (after BlockOpen x.1)

abbrev pub loop_at : List Lexeme → Read Span
loop_at ts = option_and_then (λ us. option_and_then loop_word (bracketed_word us))
    (after_word Loop ts)

abbrev pub after_if : List Lexeme → Option (List Lexeme)
after_if ts = option_and_then (after Open) (after_word If ts)

abbrev pub after_else : List Lexeme → Option (List Lexeme)
after_else ts = option_and_then (after BlockOpen) (after_word Else ts)

-- what follows `) %{`
abbrev pub after_condition : List Lexeme → Option (List Lexeme)
after_condition ts = option_and_then (after BlockOpen) (after_close ts)

-- a number's value, with what follows it
abbrev pub number_before : List Lexeme → ℤ → RawTree × List Lexeme
number_before ts z = (number z, ts)

-- the parts of an expression that may hold each other
pub data Kind : Type 0 where
  expression : Kind
  operand : Kind

-- what was found, before what is read
abbrev pub before : RawIndices → Read RawIndices → Read RawIndices
before is o = option_map (λ y. (join is y.0, y.1)) o

abbrev pub before_code : RawCode → Read RawCode → Read RawCode
before_code c o = option_map (λ y. (join_code c y.0, y.1)) o

-- the further operators of level `suc l`, at most k of them, where `inner` reads
-- what stands between them
unfoldable pub chain_at : (inner : List Lexeme → Read RawTree) → (l most : ℕ) →
    (first : RawTree) → List Lexeme → Read RawTree
chain_at inner l zero t ts = Some (t, ts)
chain_at inner l (suc k) t ts =
    either (Some (t, ts))
    (λ p. option_and_then (λ x. chain_at inner l k (binary p.0 t x.0) x.1) (inner p.1))
    (operator_at l ts)

module _ (f : Kind → List Lexeme → Read RawTree) where
  -- one index, `word => expression`
  abbrev pub index_at : List Lexeme → Read RawIndices
  index_at ts =
      option_and_then (λ w. option_map (λ x. (along w.0 x.0 none, x.1)) (f expression w.1))
      (index_word ts)

  -- at most k indices
  unfoldable pub indices_at : ℕ → List Lexeme → Read RawIndices
  indices_at zero ts = None
  indices_at (suc k) ts =
      option_and_then (λ x. either (Some x) (λ us. before x.0 (indices_at k us)) (after Comma x.1))
      (index_at ts)

  -- what an access's brackets hold, with the place of the closing one
  abbrev pub closed_at : RawIndices × List Lexeme → Read (RawIndices × ℕ)
  closed_at x = option_map (λ y. ((x.0, y.0), y.1)) (close_at x.1)

  unfoldable pub given_at : List Lexeme → Read (RawIndices × ℕ)
  given_at ts =
      either (option_and_then closed_at (indices_at (length ts) ts)) (λ y.
      Some ((none, y.0), y.1)) (close_at ts)

  abbrev pub access_at : List Lexeme → Read (Span × RawIndices × ℕ)
  access_at ts = option_and_then (λ w. option_map (λ x. ((w.0, x.0.0, x.0.1), x.1)) (given_at w.1))
      (access_name ts)

  abbrev pub element_at : List Lexeme → Read RawTree
  element_at ts = option_map (λ x. (access (called x.0.0 x.0.2) x.0.1, x.1)) (access_at ts)

  abbrev pub round_at : List Lexeme → Read RawTree
  round_at ts =
      option_and_then (λ x. option_map (λ us. (x.0, us)) (after_close x.1)) (f expression ts)

  abbrev pub name_first : List Lexeme → Read RawTree
  name_first ts = either (element_at ts) (λ x. Some (size x.0, x.1)) (size_at ts)

  unfoldable pub primary_at : List Lexeme → Read RawTree
  primary_at [] = None
  primary_at (Number n ∷ ts) = option_map (number_before ts) (signed n)
  primary_at (Word kind w ∷ ts) = Some (named w, ts)
  primary_at (Open ∷ ts) = round_at ts
  primary_at (Name kind w ∷ ts) = name_first (Name kind w ∷ ts)
  primary_at _ = None

  unfoldable pub unary_at : List Lexeme → Read RawTree
  unary_at ts = either (primary_at ts) (λ p. option_map (λ x. (unary p.0 x.0, x.1)) (f operand p.1))
      (prefix_at ts)

  -- an expression of a level
  unfoldable pub level_at : ℕ → List Lexeme → Read RawTree
  level_at zero ts = unary_at ts
  level_at (suc l) ts =
      option_and_then (λ x. chain_at (level_at l) (suc l) (limit_of (suc l) x.1) x.0 x.1)
      (level_at l ts)

-- an expression in which at most n parts are open at once
unfoldable pub reader : ℕ → Kind → List Lexeme → Read RawTree
reader zero kind ts = None
reader (suc n) expression ts = level_at (reader n) 7 ts
reader (suc n) operand ts = unary_at (reader n) ts

-- a whole expression
abbrev pub expr_at : List Lexeme → Read RawTree
expr_at ts = reader (suc (length ts)) expression ts

-- an expression and `;`
unfoldable pub ended_at : List Lexeme → Read RawTree
ended_at ts = option_and_then (λ x. option_map (λ us. (x.0, us)) (after Semicolon x.1)) (expr_at ts)

-- what stands behind a declaration's word
unfoldable pub initial_at : List Lexeme → Read RawTree
initial_at ts =
    either (option_map (λ us. (number (pos 0), us)) (after Semicolon ts)) ended_at (after Equals ts)

abbrev pub declaration_at : Declared → Read RawStep
declaration_at d = option_map (λ x. (keep (New d.ty d.word) None x.0, x.1)) (initial_at d.rest)

-- an assignment to a word
abbrev pub set_sign : Span × List Lexeme → Read RawStep
set_sign w = option_and_then (λ s. option_map (λ x. (keep (Named w.0) s.0 x.0, x.1)) (ended_at s.1))
    (assign_sign_at w.1)

abbrev pub put_sign : (Span × RawIndices × ℕ) × List Lexeme → Read RawStep
put_sign a = option_and_then (λ s. option_map (λ x. (put (called a.0.0 a.0.2) a.0.1 s.0 x.0, x.1))
    (ended_at s.1)) (assign_sign_at a.1)

-- an assignment to an access
unfoldable pub put_at : List Lexeme → Read RawStep
put_at ts = option_and_then put_sign (access_at (reader (suc (length ts))) ts)

unfoldable pub assignment_at : List Lexeme → Read RawStep
assignment_at ts = either (put_at ts) set_sign (word_at ts)

module _ (g : List Lexeme → Read RawCode) where
  -- code up to its `%}`, past which it goes on
  unfoldable pub block_at : List Lexeme → Read RawCode
  block_at ts = option_and_then (λ x. option_map (λ us. (x.0, us)) (after BlockClose x.1)) (g ts)

  abbrev pub body_at : Span × List Lexeme → Read RawStep
  body_at w = option_map (λ x. (repeat w.0 x.0, x.1)) (block_at w.1)

  abbrev pub else_at : List Lexeme → Read RawCode
  else_at ts = either (Some (done, ts)) block_at (after_else ts)

  abbrev pub branches_at : RawTree → List Lexeme → Read RawStep
  branches_at t ts =
      option_and_then (λ a. option_map (λ b. (choose t a.0 b.0, b.1)) (else_at a.1)) (block_at ts)

  unfoldable pub choice_at : List Lexeme → Read RawStep
  choice_at ts = option_and_then (λ x. option_and_then (branches_at x.0) (after_condition x.1))
      (expr_at ts)

  -- a statement that is no `;`
  unfoldable pub step_at : List Lexeme → Read RawStep
  step_at ts = either (either (either (assignment_at ts) declaration_at (declared_at ts)) choice_at
      (after_if ts)) body_at (loop_at ts)

  -- a statement as code; `;` alone is none
  abbrev pub one_step : List Lexeme → Read RawCode
  one_step ts = option_map (λ x. (next x.0 done, x.1)) (step_at ts)

  unfoldable pub statement_at : List Lexeme → Read RawCode
  statement_at ts = either (one_step ts) (λ us. Some (done, us)) (after Semicolon ts)

-- whether code ends here: nothing is left, or `%}` comes
abbrev pub ends : List Lexeme → Option (List Lexeme)
ends [] = Some []
ends (BlockClose ∷ ts) = Some (BlockClose ∷ ts)
ends _ = None

-- at most k statements
unfoldable pub code_at : (List Lexeme → Read RawCode) → ℕ → List Lexeme → Read RawCode
code_at g zero ts = Some (done, ts)
code_at g (suc k) ts =
    either
    (option_and_then (λ x. before_code x.0 (code_at g k x.1)) (statement_at g ts))
    (λ us. Some (done, us)) (ends ts)

-- code in which at most n blocks are open at once
unfoldable pub code_reader : ℕ → List Lexeme → Read RawCode
code_reader zero ts = None
code_reader (suc n) ts = code_at (code_reader n) (length ts) ts

-- the code that all tokens of a text spell
abbrev pub at_end : RawCode × List Lexeme → Option RawCode
at_end x = if nat_eq (length x.1) 0 then Some x.0 else None

unfoldable pub read_code : List Lexeme → Option RawCode
read_code ts = option_and_then at_end (code_reader (suc (length ts)) ts)
