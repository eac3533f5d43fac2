-- The formula of an expression: its names are arrays, and its numbers have the types that they have
-- in any expression.
use Rattle.std.specs.Prelude.{[], ◌∷◌, Result, Ok, Err}
use Rattle.pdl_elem.specs.Types.{type_named}
use Rattle.pdl_lexemes.specs.Lists.{type_of}
use Rattle.pdl_syntax.specs.Tree.{Tree, Args, number, named, literal, unary, binary, call, none, value}
use Rattle.pdl_flow.specs.Formula as formula
use Rattle.pdl_machine.specs.declared.fault.Fault.{Fault}
use Rattle.pdl_machine.specs.declared.fault.Fault.TheVariants.{Syntax}
use Rattle.pdl_machine.specs.Then.{and_then, or_fault}
use Rattle.pdl_machine.specs.Names.{Names, bound_to}

-- a formula, or a fault: of a name that isn't bound, or of what isn't a formula's
abbrev pub Formed : Type 0
Formed = Result formula.FormulaTree Fault

abbrev mutual
  pub formula_of : Names → Tree → Formed
  formula_of names (number z) = Ok (formula.number (type_of (z ∷ [])) z)
  formula_of names (named x) = and_then (bound_to names x) (λ v. Ok (formula.array v))
  formula_of names (literal ty ds es) = Err Syntax
  formula_of names (unary op e) = and_then (formula_of names e) (λ f. Ok (formula.unary op f))
  formula_of names (binary op d e) =
      and_then (formula_of names d) (λ f. and_then (formula_of names e) (λ g.
      Ok (formula.binary op f g)))
  formula_of names (call word args) =
      and_then (or_fault Syntax (type_named word)) (λ ty. and_then (operand_of names args) (λ f.
      Ok (formula.convert ty f)))

  -- the formula that arguments are alone
  pub operand_of : Names → Args → Formed
  operand_of names (value none e) = formula_of names e
  operand_of names _ = Err Syntax
