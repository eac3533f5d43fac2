-- The trees of lists of arguments.
use Rattle.std.proofs.Common.{◌≡◌, ℕ, List, [], ◌∷◌, ◌++◌, refl, ap, ◌∙◌, Vec, Global}
use mathlib.Core.Former.{Count}
use Rattle.pdl_syntax.specs.declared.tree.Arg.{Arg}
use Rattle.pdl_syntax.specs.declared.tree.Expr.{Expr, Call, Call', Row_of-Arg, end_of-Arg, more_of-Arg, items-the_row-Arg, items_hidden-the_row-Arg-0}
use Rattle.pdl_syntax.specs.Tree.{Args, call, none}
use Rattle.pdl_syntax.specs.TreeOf.{tree_of, row_of, args_of, argument_of}

-- a push adds one argument
pub args_of_push : (xs : List Arg) (a : Arg) (front : Args) → args_of (xs ++ a ∷ []) front ≡ argument_of a (args_of xs front)
args_of_push [] a front = refl
args_of_push (x ∷ xs) a front = args_of_push xs a (argument_of x front)

-- the arguments in a tree are those of the list
args_of_row : (n : _) (row : Row_of-Arg n) (front : Args) → row_of row front ≡ args_of (items-the_row-Arg n row) front
args_of_row n end_of-Arg front = refl
args_of_row n (more_of-Arg a rest) front = args_of_row _ rest (argument_of a front)

abbrev held_row : Expr → (n : Count) × Row_of-Arg n
held_row (Call' _ _ row) = (_, row)
held_row _ = (_, end_of-Arg)

pub tree_of_call : (name : List ℕ) (args : Vec Arg Global) → tree_of (Call name args) ≡ call name (args_of args.items none)
tree_of_call name args =
    let row = held_row (Call name args) in
    ap (call name) (args_of_row row.0 row.1 none ∙ ap (λ xs. args_of xs none) (items_hidden-the_row-Arg-0 args))
