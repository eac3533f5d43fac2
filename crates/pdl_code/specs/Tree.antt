-- The code of a kernel, without pointers, over how names stand in it: a word W, an argument A, a
-- dimension D, and a word that is stored to S.
use Rattle.std.specs.Prelude.{ℕ, ℤ, Option}
use Rattle.pdl_elem.specs.declared.UnaryOp.{UnaryOp}
use Rattle.pdl_elem.specs.declared.BinaryOp.{BinaryOp}
use Rattle.pdl_code.specs.declared.lexeme.Span.{Span}
use Rattle.pdl_code.specs.declared.names.Called.{Called}
use Rattle.pdl_code.specs.declared.names.Target.{Target}
use Rattle.pdl_code.specs.declared.names.Variable.{Variable}
use Rattle.pdl_code.specs.declared.names.Kept.{Kept}

mutual
  -- an expression
  pub data AnyTree (W A D : Type 0) : Type 0 where
    number : ℤ → AnyTree W A D
    size : D → AnyTree W A D
    named : W → AnyTree W A D
    access : A → AnyIndices W A D → AnyTree W A D
    unary : UnaryOp → AnyTree W A D → AnyTree W A D
    binary : BinaryOp → AnyTree W A D → AnyTree W A D → AnyTree W A D

  -- the indices of an access, in the order in which they are evaluated, each with its dimension
  pub data AnyIndices (W A D : Type 0) : Type 0 where
    none : AnyIndices W A D
    along : D → AnyTree W A D → AnyIndices W A D → AnyIndices W A D

mutual
  -- a statement: a loop over a dimension, a choice, a store to a local, and a store to an
  -- element of an argument
  pub data AnyStep (W A D S : Type 0) : Type 0 where
    repeat : D → AnyCode W A D S → AnyStep W A D S
    choose : AnyTree W A D → AnyCode W A D S → AnyCode W A D S → AnyStep W A D S
    keep : S → Option BinaryOp → AnyTree W A D → AnyStep W A D S
    put : A → AnyIndices W A D → Option BinaryOp → AnyTree W A D → AnyStep W A D S

  -- statements in order
  pub data AnyCode (W A D S : Type 0) : Type 0 where
    done : AnyCode W A D S
    next : AnyStep W A D S → AnyCode W A D S → AnyCode W A D S

-- code as its text spells it: names as they stand, each by its place in the text
abbrev pub RawTree : Type 0
RawTree = AnyTree Span Called Span

abbrev pub RawIndices : Type 0
RawIndices = AnyIndices Span Called Span

abbrev pub RawStep : Type 0
RawStep = AnyStep Span Called Span Target

abbrev pub RawCode : Type 0
RawCode = AnyCode Span Called Span Target

-- an argument's name, with the place of the bracket that closes its indices
abbrev pub called : Span → ℕ → Called
called w at = record { name = w; close = at }

-- code whose names are resolved. An argument is its number in the signature, a dimension its number
-- among the signature's names, and along an access the place in the argument
abbrev pub Tree : Type 0
Tree = AnyTree Variable ℕ ℕ

abbrev pub Indices : Type 0
Indices = AnyIndices Variable ℕ ℕ

abbrev pub Step : Type 0
Step = AnyStep Variable ℕ ℕ Kept

abbrev pub Code : Type 0
Code = AnyCode Variable ℕ ℕ Kept
