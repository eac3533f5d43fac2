-- What holds of each statement that is read. Its list literals are arrays: as many numbers as their
-- dimensions say, all of their type; its names and its texts can be written in a script; the value
-- of a list binding is a call, and that of a flow a formula.
use Rattle.std.specs.Prelude.{◌≡◌, ◌≤ℤ◌, ℤ, pos, true, All}
use Rattle.pdl_buf.specs.Made.{IsMade}
use Rattle.pdl_lexemes.specs.Limits.{number_limit}
use Rattle.pdl_lexemes.specs.Texts.{IsName, IsQuotable}
use Rattle.pdl_syntax.specs.Tree.{Tree, Args, number, named, literal, unary, binary, call, none, value, text, of_type}
use Rattle.pdl_syntax.specs.Formulas.{is_formula}
use Rattle.pdl_syntax.specs.StatementTree.{StatementTree, bind, bind_list, assign, show, show_text, sever, reshape, undef, vars, dump, flow, pp_def, watch, unwatch}

-- a number from 0 to the greatest one of a text
pub record IsCount (z : ℤ) : Type 0 where
  pub least : pos 0 ≤ℤ z
  pub most : z ≤ℤ pos number_limit

abbrev mutual
  -- each literal in an expression is an array
  pub AreArrays : Tree → Type 0
  AreArrays (number z) = IsCount z
  AreArrays (named n) = Unit {0}
  AreArrays (literal ty dims elems) = IsMade ty dims elems
  AreArrays (unary op t) = AreArrays t
  AreArrays (binary op a b) = AreArrays a × AreArrays b
  AreArrays (call name args) = AreArgArrays args

  pub AreArgArrays : Args → Type 0
  AreArgArrays none = Unit {0}
  AreArgArrays (value front t) = AreArgArrays front × AreArrays t
  AreArgArrays (text front s) = AreArgArrays front
  AreArgArrays (of_type front ty) = AreArgArrays front

-- the expression is a call
abbrev pub IsCall : Tree → Type 0
IsCall (call name args) = Unit {0}
IsCall _ = ⊥

-- Names are names, and texts are ones that a string can hold; each literal in a statement is an
-- array; what several names are bound to is a call, and what a flow equals is a formula.
abbrev pub IsWellMade : StatementTree → Type 0
IsWellMade (bind name t severs) = IsName name × AreArrays t
IsWellMade (bind_list names t) = All IsName names × IsCall t × AreArrays t
IsWellMade (assign name views op t) =
    IsName name × All (λ v. AreArgArrays v.1) views × AreArrays t
IsWellMade (show t info) = AreArrays t
IsWellMade (show_text s) = IsQuotable s
IsWellMade (sever name) = IsName name
IsWellMade (reshape name args) = IsName name × AreArgArrays args
IsWellMade (undef name) = IsName name
IsWellMade vars = Unit {0}
IsWellMade dump = Unit {0}
IsWellMade (flow name t) = IsName name × (is_formula t ≡ true) × AreArrays t
IsWellMade (pp_def name signature code) =
    IsQuotable name × IsQuotable signature × IsQuotable code
IsWellMade (watch name slot) = IsName name
IsWellMade (unwatch slot) = Unit {0}
