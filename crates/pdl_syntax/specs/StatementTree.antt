-- The tree of a statement: what its tokens say, without pointers.
use Rattle.std.specs.Prelude.{ℕ, List, Bool, map}
use Rattle.pdl_lexemes.specs.declared.AssignOp.{AssignOp}
use Rattle.pdl_syntax.specs.declared.tree.Statement.{Statement}
use Rattle.pdl_syntax.specs.declared.tree.Statement.TheVariants.{Bind, BindList, Assign, Show, ShowText, Sever, Reshape, Undef, Vars, Dump, Flow, PpDef, Watch, Unwatch}
use Rattle.pdl_syntax.specs.declared.tree.ViewCall.{ViewCall}
use Rattle.pdl_syntax.specs.Tree.{Tree, Args, none}
use Rattle.pdl_syntax.specs.TreeOf.{tree_of, args_of}

-- a view word, with its arguments
abbrev pub View : Type 0
View = List ℕ × Args

pub data StatementTree : Type 0 where
  bind : List ℕ → Tree → Bool → StatementTree
  bind_list : List (List ℕ) → Tree → StatementTree
  assign : List ℕ → List View → AssignOp → Tree → StatementTree
  show : Tree → Bool → StatementTree
  show_text : List ℕ → StatementTree
  sever : List ℕ → StatementTree
  reshape : List ℕ → Args → StatementTree
  undef : List ℕ → StatementTree
  vars : StatementTree
  dump : StatementTree
  flow : List ℕ → Tree → StatementTree
  pp_def : List ℕ → List ℕ → List ℕ → StatementTree
  watch : List ℕ → ℕ → StatementTree
  unwatch : ℕ → StatementTree

abbrev pub view_of : ViewCall → View
view_of v = (v.method, args_of v.args.items none)

-- what the statement of code is seen as: its expressions by their trees
abbrev pub statement_of : Statement → StatementTree
statement_of (Bind name value severs) = bind name (tree_of value) severs
statement_of (BindList names value) = bind_list names.items (tree_of value)
statement_of (Assign target op value) =
    assign target.name (map view_of target.views.items) op (tree_of value)
statement_of (Show value info) = show (tree_of value) info
statement_of (ShowText text) = show_text text
statement_of (Sever name) = sever name
statement_of (Reshape name sizes) = reshape name (args_of sizes.items none)
statement_of (Undef name) = undef name
statement_of Vars = vars
statement_of Dump = dump
statement_of (Flow name value) = flow name (tree_of value)
statement_of (PpDef name signature code) = pp_def name signature code
statement_of (Watch name slot) = watch name slot
statement_of (Unwatch slot) = unwatch slot
