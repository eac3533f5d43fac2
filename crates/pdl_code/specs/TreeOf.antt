-- The trees that code walks.
use Rattle.std.specs.Prelude.{ℕ, List, [], ◌∷◌}
use Rattle.pdl_code.specs.declared.lexeme.Span.{Span}
use Rattle.pdl_code.specs.declared.names.Called.{Called}
use Rattle.pdl_code.specs.declared.names.Target.{Target}
use Rattle.pdl_code.specs.declared.names.Variable.{Variable}
use Rattle.pdl_code.specs.declared.names.Kept.{Kept}
use Rattle.pdl_code.specs.declared.tree.Expr.{Expr, Number, Size, Named, Access', Unary', Binary', Row_of-Entry, end_of-Entry, more_of-Entry}
use Rattle.pdl_code.specs.declared.tree.Entry.{Entry, Given, Looped}
use Rattle.pdl_code.specs.declared.tree.Stmt.{Stmt, Loop', If', Keep, Put, Row_of-Stmt, end_of-Stmt, more_of-Stmt}
use Rattle.pdl_code.specs.Tree.{AnyTree, AnyIndices, AnyStep, AnyCode, number, size, named, access, unary, binary, none, along, repeat, choose, keep, put, done, next}

abbrev mutual
  -- an expression's tree
  pub tree_of : {W A D : _} → Expr W A D → AnyTree W A D
  tree_of (Number z) = number z
  tree_of (Size d) = size d
  tree_of (Named w) = named w
  tree_of (Access' a shape all) = access a (row_of all)
  tree_of (Unary' op p e) = unary op (tree_of e)
  tree_of (Binary' op p a q b) = binary op (tree_of a) (tree_of b)

  -- one index before the others
  pub entry_of : {W A D : _} → Entry W A D → AnyIndices W A D → AnyIndices W A D
  entry_of (Given d e) rest = along d (tree_of e) rest
  entry_of (Looped d w) rest = along d (named w) rest

  pub row_of : {W A D : _} {m : _} → Row_of-Entry W A D m → AnyIndices W A D
  row_of end_of-Entry = none
  row_of (more_of-Entry g rest) = entry_of g (row_of rest)

-- the dimension of an index, and the index
abbrev pub dimension_of : {W A D : _} → Entry W A D → D
dimension_of (Given d e) = d
dimension_of (Looped d w) = d

abbrev pub index_of : {W A D : _} → Entry W A D → AnyTree W A D
index_of (Given d e) = tree_of e
index_of (Looped d w) = named w

-- the indices that a list has, in its order, as a tree
abbrev pub indices_of : {W A D : _} → List (Entry W A D) → AnyIndices W A D
indices_of [] = none
indices_of (g ∷ rest) = entry_of g (indices_of rest)

abbrev mutual
  -- a statement's tree
  pub step_of : {W A D S : _} → Stmt W A D S → AnyStep W A D S
  step_of (Loop' d shape body) = repeat d (code_row body)
  step_of (If' e yes_shape then_body no_shape else_body) =
      choose (tree_of e) (code_row then_body) (code_row else_body)
  step_of (Keep s op e) = keep s op (tree_of e)
  step_of (Put a gs op e) = put a (indices_of gs.items) op (tree_of e)

  pub code_row : {W A D S : _} {m : _} → Row_of-Stmt W A D S m → AnyCode W A D S
  code_row end_of-Stmt = done
  code_row (more_of-Stmt s rest) = next (step_of s) (code_row rest)

-- the statements of a list, in its order, as a tree
abbrev pub code_of : {W A D S : _} → List (Stmt W A D S) → AnyCode W A D S
code_of [] = done
code_of (s ∷ rest) = next (step_of s) (code_of rest)

-- code in which names stand as in the text
abbrev pub RawEntry : Type 0
RawEntry = Entry Span Called Span

abbrev pub RawExpr : Type 0
RawExpr = Expr Span Called Span

abbrev pub RawStmt : Type 0
RawStmt = Stmt Span Called Span Target

-- code whose names are resolved
abbrev pub KernelEntry : Type 0
KernelEntry = Entry Variable ℕ ℕ

abbrev pub KernelExpr : Type 0
KernelExpr = Expr Variable ℕ ℕ

abbrev pub KernelStmt : Type 0
KernelStmt = Stmt Variable ℕ ℕ Kept
