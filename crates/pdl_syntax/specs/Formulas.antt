-- Which expressions are formulas: numbers and names, operators that don't divide, and type words
-- with one expression (PDL::Ops, PDL::Core on conversions).
use Rattle.std.specs.Prelude.{Bool, true, false, not, ◌&&◌, is_some}
use Rattle.pdl_elem.specs.Operators.{divides}
use Rattle.pdl_elem.specs.Types.{type_named}
use Rattle.pdl_syntax.specs.Tree.{Tree, Args, number, named, literal, unary, binary, call, none, value}

abbrev mutual
  -- whether an expression is a formula
  pub is_formula : Tree → Bool
  is_formula (number z) = true
  is_formula (named n) = true
  is_formula (literal ty dims elems) = false
  is_formula (unary op t) = is_formula t
  is_formula (binary op a b) = not (divides op) && is_formula a && is_formula b
  is_formula (call name args) = is_some (type_named name) && is_one_formula args

  -- whether arguments are one formula alone
  pub is_one_formula : Args → Bool
  is_one_formula (value none t) = is_formula t
  is_one_formula _ = false
