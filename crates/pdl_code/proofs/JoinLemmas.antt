-- What is pushed stands behind the rest.
use Rattle.std.proofs.Common.{◌≡◌, List, [], ◌∷◌, ◌++◌, refl, ap}
use Rattle.pdl_code.specs.declared.tree.Entry.{Entry, Given, Looped}
use Rattle.pdl_code.specs.declared.tree.Stmt.{Stmt}
use Rattle.pdl_code.specs.Tree.{AnyIndices, AnyCode, named, none, along, done, next}
use Rattle.pdl_code.specs.TreeOf.{tree_of, entry_of, indices_of, step_of, code_of}
use Rattle.pdl_code.specs.Join.{join, join_code}

module _ {W A D : Type 0} where
  pub entry_push : (xs : List (Entry W A D)) (g : Entry W A D) → indices_of (xs ++ g ∷ []) ≡ join (indices_of xs) (entry_of g none)
  entry_push [] g = refl
  entry_push (Given d e ∷ xs) g = ap (along d (tree_of e)) (entry_push xs g)
  entry_push (Looped d w ∷ xs) g = ap (along d (named w)) (entry_push xs g)

  pub join_join : (a b c : AnyIndices W A D) → join (join a b) c ≡ join a (join b c)
  join_join none b c = refl
  join_join (along d e is) b c = ap (along d e) (join_join is b c)

  pub join_none : (a : AnyIndices W A D) → join a none ≡ a
  join_none none = refl
  join_none (along d e is) = ap (along d e) (join_none is)

module _ {W A D S : Type 0} where
  pub code_push : (xs : List (Stmt W A D S)) (s : Stmt W A D S) → code_of (xs ++ s ∷ []) ≡ join_code (code_of xs) (next (step_of s) done)
  code_push [] s = refl
  code_push (x ∷ xs) s = ap (next (step_of x)) (code_push xs s)

  pub code_join_join : (a b c : AnyCode W A D S) → join_code (join_code a b) c ≡ join_code a (join_code b c)
  code_join_join done b c = refl
  code_join_join (next s r) b c = ap (next s) (code_join_join r b c)

  pub code_join_done : (a : AnyCode W A D S) → join_code a done ≡ a
  code_join_done done = refl
  code_join_done (next s r) = ap (next s) (code_join_done r)
