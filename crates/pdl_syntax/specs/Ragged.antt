-- Whether a list literal of a tree was ragged: its numbers are fewer than its dimensions say then.
use Rattle.std.specs.Prelude.{ℕ, ℤ, nat_eq, List, length, Bool, false, not, ◌||◌}
use Rattle.std.specs.List.{list_any}
use Rattle.pdl_shape.specs.Shape.{size_of}
use Rattle.pdl_syntax.specs.Tree.{Tree, Args, number, named, literal, unary, binary, call, none, value, text, of_type}
use Rattle.pdl_syntax.specs.StatementTree.{StatementTree, View, bind, bind_list, assign, show, show_text, sever, reshape, undef, vars, dump, flow, pp_def, watch, unwatch}

-- whether a literal has other numbers than its dimensions say
abbrev pub is_no_array : List ℕ → List ℤ → Bool
is_no_array dims elems = not (nat_eq (length elems) (size_of dims))

abbrev mutual
  -- whether a list in an expression is ragged
  pub is_ragged : Tree → Bool
  is_ragged (number z) = false
  is_ragged (named n) = false
  is_ragged (literal ty dims elems) = is_no_array dims elems
  is_ragged (unary op t) = is_ragged t
  is_ragged (binary op a b) = is_ragged a || is_ragged b
  is_ragged (call name args) = are_ragged args

  -- whether one in arguments is
  pub are_ragged : Args → Bool
  are_ragged none = false
  are_ragged (value front t) = are_ragged front || is_ragged t
  are_ragged (text front s) = are_ragged front
  are_ragged (of_type front ty) = are_ragged front

-- whether one in the views of a target is
abbrev pub in_views : List View → Bool
in_views views = list_any (λ v. are_ragged v.1) views

-- whether one in a statement is
abbrev pub in_statement : StatementTree → Bool
in_statement (bind name t severs) = is_ragged t
in_statement (bind_list names t) = is_ragged t
in_statement (assign name views op t) = in_views views || is_ragged t
in_statement (show t info) = is_ragged t
in_statement (show_text s) = false
in_statement (sever name) = false
in_statement (reshape name args) = are_ragged args
in_statement (undef name) = false
in_statement vars = false
in_statement dump = false
in_statement (flow name t) = is_ragged t
in_statement (pp_def name signature code) = false
in_statement (watch name slot) = false
in_statement (unwatch slot) = false
