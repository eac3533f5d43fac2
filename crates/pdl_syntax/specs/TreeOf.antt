-- The tree of an expression that code walks.
use Rattle.std.specs.Prelude.{List, [], ◌∷◌}
use Rattle.pdl_syntax.specs.declared.tree.Expr.{Expr, Number, Named, List as Listed, Unary', Binary', Call', Row_of-Arg, end_of-Arg, more_of-Arg}
use Rattle.pdl_syntax.specs.declared.tree.Arg.{Arg, Value, Str, OfType}
use Rattle.pdl_syntax.specs.Tree.{Tree, Args, number, named, literal, unary, binary, call, none, value, text, of_type}

abbrev mutual
  -- an expression's tree
  pub tree_of : Expr → Tree
  tree_of (Number z) = number z
  tree_of (Named n) = named n
  tree_of (Listed m) = literal m.value.ty m.value.dims m.value.elems
  tree_of (Unary' op p e) = unary op (tree_of e)
  tree_of (Binary' op p a q b) = binary op (tree_of a) (tree_of b)
  tree_of (Call' name shape all) = call name (row_of all none)

  -- with one more argument
  pub argument_of : Arg → Args → Args
  argument_of (Value e) front = value front (tree_of e)
  argument_of (Str t) front = text front t
  argument_of (OfType ty) front = of_type front ty

  -- the arguments of a call
  pub row_of : {m : _} → Row_of-Arg m → Args → Args
  row_of end_of-Arg front = front
  row_of (more_of-Arg a rest) front = row_of rest (argument_of a front)

-- the arguments of a list
abbrev pub args_of : List Arg → Args → Args
args_of [] front = front
args_of (a ∷ rest) front = args_of rest (argument_of a front)
