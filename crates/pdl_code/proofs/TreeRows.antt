-- The lists in a tree are the vectors' lists.
use Rattle.std.proofs.Common.{◌≡◌, List, refl, sym, ap, ◌∙◌, Vec, Global}
use mathlib.Core.Former.{Count}
use Rattle.pdl_code.specs.declared.tree.Expr.{Expr, Access, Access', Row_of-Entry, end_of-Entry, more_of-Entry, items-the_row-Entry, items_hidden-the_row-Entry-0}
use Rattle.pdl_code.specs.declared.tree.Entry.{Entry}
use Rattle.pdl_code.specs.declared.tree.Stmt.{Stmt, Loop, Loop', If, If', Row_of-Stmt, end_of-Stmt, more_of-Stmt, items-the_row-Stmt, items_hidden-the_row-Stmt-0}
use Rattle.pdl_code.specs.Tree.{AnyTree, access, repeat, choose, next}
use Rattle.pdl_code.specs.TreeOf.{tree_of, row_of, indices_of, entry_of, step_of, code_row, code_of}

module _ {W A D : Type 0} where
  indices_row : (n : _) (row : Row_of-Entry W A D n) → row_of row ≡ indices_of (items-the_row-Entry W A D n row)
  indices_row n end_of-Entry = refl
  indices_row n (more_of-Entry g rest) = ap (entry_of g) (indices_row _ rest)

  abbrev held_given : Expr W A D → (n : Count) × Row_of-Entry W A D n
  held_given (Access' _ _ row) = (_, row)
  held_given _ = (_, end_of-Entry)

  pub tree_of_access : (a : A) (given : Vec (Entry W A D) Global) → tree_of (Access a given) ≡ access a (indices_of given.items)
  tree_of_access a given =
      let row = held_given (Access a given) in
      ap (access a) (indices_row row.0 row.1 ∙ ap indices_of (items_hidden-the_row-Entry-0 W A D given))

  pub access_tree : (expr : Expr W A D) (a : A) (given : Vec (Entry W A D) Global) (xs : List (Entry W A D)) → expr ≡ Access a given → xs ≡ given.items → tree_of expr ≡ access a (indices_of xs)
  access_tree expr a given xs is items = ap tree_of is ∙ tree_of_access a given ∙ ap (λ ys. access a (indices_of ys)) (sym items)

module _ {W A D S : Type 0} where
  rows_code : (n : _) (row : Row_of-Stmt W A D S n) → code_row row ≡ code_of (items-the_row-Stmt W A D S n row)
  rows_code n end_of-Stmt = refl
  rows_code n (more_of-Stmt s rest) = ap (next (step_of s)) (rows_code _ rest)

  abbrev held_body : Stmt W A D S → (n : Count) × Row_of-Stmt W A D S n
  held_body (Loop' _ _ row) = (_, row)
  held_body _ = (_, end_of-Stmt)

  code_hidden : (d : D) (body : Vec (Stmt W A D S) Global) → code_row (held_body (Loop d body)).1 ≡ code_of body.items
  code_hidden d body = let row = held_body (Loop d body) in rows_code row.0 row.1 ∙ ap code_of (items_hidden-the_row-Stmt-0 W A D S body)

  pub step_of_loop : (d : D) (body : Vec (Stmt W A D S) Global) → step_of (Loop d body) ≡ repeat d (code_of body.items)
  step_of_loop d body = ap (repeat d) (code_hidden d body)

  pub loop_tree : (stmt : Stmt W A D S) (d : D) (body : Vec (Stmt W A D S) Global) (xs : List (Stmt W A D S)) → stmt ≡ Loop d body → xs ≡ body.items → step_of stmt ≡ repeat d (code_of xs)
  loop_tree stmt d body xs is items = ap step_of is ∙ step_of_loop d body ∙ ap (λ ys. repeat d (code_of ys)) (sym items)

  abbrev held_whole : Stmt W A D S → (n : Count) × Row_of-Stmt W A D S n
  held_whole (If' _ _ row _ _) = (_, row)
  held_whole _ = (_, end_of-Stmt)

  abbrev held_other : Stmt W A D S → (n : Count) × Row_of-Stmt W A D S n
  held_other (If' _ _ _ _ row) = (_, row)
  held_other _ = (_, end_of-Stmt)

  pub step_of_if : (e : Expr W A D) (whole other : Vec (Stmt W A D S) Global) → step_of (If e whole other) ≡ choose (tree_of e) (code_of whole.items) (code_of other.items)
  step_of_if e whole other =
      let one = held_whole (If e whole other) in
      let two = held_other (If e whole other) in
      ap (λ c. choose (tree_of e) c (code_row two.1)) (rows_code one.0 one.1 ∙ ap code_of (items_hidden-the_row-Stmt-0 W A D S whole))
      ∙ ap (choose (tree_of e) (code_of whole.items)) (rows_code two.0 two.1 ∙ ap code_of (items_hidden-the_row-Stmt-0 W A D S other))

  pub if_tree : (stmt : Stmt W A D S) (e : Expr W A D) (whole other : Vec (Stmt W A D S) Global) → stmt ≡ If e whole other → step_of stmt ≡ choose (tree_of e) (code_of whole.items) (code_of other.items)
  if_tree stmt e whole other is = ap step_of is ∙ step_of_if e whole other

  -- the same statements, from the slices of the vectors
  pub same_parts : (e : AnyTree W A D) {xs ys us vs : List (Stmt W A D S)} → us ≡ xs → vs ≡ ys → choose e (code_of xs) (code_of ys) ≡ choose e (code_of us) (code_of vs)
  same_parts e {xs = xs} {ys = ys} {us = us} {vs = vs} first second =
      sym (ap (λ zs. choose e (code_of zs) (code_of vs)) first ∙ ap (λ zs. choose e (code_of xs) (code_of zs)) second)
