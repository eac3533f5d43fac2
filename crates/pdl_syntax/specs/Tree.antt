-- The tree of an expression: what its tokens say, without pointers.
use Rattle.std.specs.Prelude.{ℕ, ℤ, List}
use Rattle.pdl_elem.specs.declared.Ty.{Ty}
use Rattle.pdl_elem.specs.declared.UnaryOp.{UnaryOp}
use Rattle.pdl_elem.specs.declared.BinaryOp.{BinaryOp}

mutual
  -- a value's expression
  pub data Tree : Type 0 where
    number : ℤ → Tree
    named : List ℕ → Tree
    literal : Ty → List ℕ → List ℤ → Tree
    unary : UnaryOp → Tree → Tree
    binary : BinaryOp → Tree → Tree → Tree
    call : List ℕ → Args → Tree

  -- the arguments of a call, the last one outermost
  pub data Args : Type 0 where
    none : Args
    value : Args → Tree → Args
    text : Args → List ℕ → Args
    of_type : Args → Ty → Args
