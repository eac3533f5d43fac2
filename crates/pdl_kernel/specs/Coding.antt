-- A code for kernel code, by which a proof tells one from another: the code is written as a list
-- of marks, each behind those of its parts, and read back onto a stack.
use Rattle.std.specs.Prelude.{◌≡◌, ◌⊎◌, ℕ, ℤ, List, [], ◌∷◌, Option}
use Rattle.std.specs.Coded.{Coded, code_by, coded×, coded⊎, coded_ℕ, coded_ℤ, coded_list, coded_option}
use base.Stored.{coded_unit}
use mathlib.Core.Logic.{inl, inr}
use Rattle.pdl_elem.specs.contracts.UnaryOp as unary_op
use Rattle.pdl_elem.specs.contracts.BinaryOp as binary_op
use Rattle.pdl_code.specs.contracts.names.Kept as target
use Rattle.pdl_code.specs.contracts.names.Variable as variable
use Rattle.std.proofs.Common.{◌∙◌, ap, refl}
use Rattle.pdl_elem.specs.declared.UnaryOp.{UnaryOp}
use Rattle.pdl_elem.specs.declared.BinaryOp.{BinaryOp}
use Rattle.pdl_code.specs.declared.names.Kept.{Kept}
use Rattle.pdl_code.specs.declared.names.Variable.{Variable}
use Rattle.pdl_code.specs.Tree.{Tree, Indices, Step, Code, number, size, named, access, unary, binary, none, along, repeat, choose, keep, put, done, next}

-- a mark: what a part of code is, apart from the parts that it is made of
pub data Mark : Type 0 where
  a_number : ℤ → Mark
  a_size : ℕ → Mark
  a_name : Variable → Mark
  an_access : ℕ → Mark
  a_unary : UnaryOp → Mark
  a_binary : BinaryOp → Mark
  no_indices : Mark
  one_along : ℕ → Mark
  a_loop : ℕ → Mark
  a_choice : Mark
  a_keep : Kept → Option BinaryOp → Mark
  a_put : ℕ → Option BinaryOp → Mark
  no_code : Mark
  one_step : Mark

-- a mark as one of several tuples
abbrev pub Parts : Type 0
Parts = ℤ ⊎ (ℕ ⊎ (Variable ⊎ (ℕ ⊎ (UnaryOp ⊎ (BinaryOp ⊎ (Unit {0} ⊎ (ℕ ⊎ (ℕ ⊎ (Unit {0} ⊎
    ((Kept × Option BinaryOp) ⊎ ((ℕ × Option BinaryOp) ⊎ (Unit {0} ⊎ Unit {0}))))))))))))

abbrev pub parts_of : Mark → Parts
parts_of (a_number n) = (inl n)
parts_of (a_size n) = (inr (inl n))
parts_of (a_name w) = (inr (inr (inl w)))
parts_of (an_access n) = (inr (inr (inr (inl n))))
parts_of (a_unary n) = (inr (inr (inr (inr (inl n)))))
parts_of (a_binary n) = (inr (inr (inr (inr (inr (inl n))))))
parts_of no_indices = (inr (inr (inr (inr (inr (inr (inl tt)))))))
parts_of (one_along n) = (inr (inr (inr (inr (inr (inr (inr (inl n))))))))
parts_of (a_loop n) = (inr (inr (inr (inr (inr (inr (inr (inr (inl n)))))))))
parts_of a_choice = (inr (inr (inr (inr (inr (inr (inr (inr (inr (inl tt))))))))))
parts_of (a_keep t op) = (inr (inr (inr (inr (inr (inr (inr (inr (inr (inr (inl (t, op))))))))))))
parts_of (a_put n op) = (inr (inr (inr (inr (inr (inr (inr (inr (inr (inr (inr (inl (n, op)))))))))))))
parts_of no_code = (inr (inr (inr (inr (inr (inr (inr (inr (inr (inr (inr (inr (inl tt)))))))))))))
parts_of one_step = (inr (inr (inr (inr (inr (inr (inr (inr (inr (inr (inr (inr (inr tt)))))))))))))

abbrev pub mark_of : Parts → Mark
mark_of (inl n) = a_number n
mark_of (inr (inl n)) = a_size n
mark_of (inr (inr (inl w))) = a_name w
mark_of (inr (inr (inr (inl n)))) = an_access n
mark_of (inr (inr (inr (inr (inl n))))) = a_unary n
mark_of (inr (inr (inr (inr (inr (inl n)))))) = a_binary n
mark_of (inr (inr (inr (inr (inr (inr (inl _))))))) = no_indices
mark_of (inr (inr (inr (inr (inr (inr (inr (inl n)))))))) = one_along n
mark_of (inr (inr (inr (inr (inr (inr (inr (inr (inl n))))))))) = a_loop n
mark_of (inr (inr (inr (inr (inr (inr (inr (inr (inr (inl _)))))))))) = a_choice
mark_of (inr (inr (inr (inr (inr (inr (inr (inr (inr (inr (inl (t, op)))))))))))) = a_keep t op
mark_of (inr (inr (inr (inr (inr (inr (inr (inr (inr (inr (inr (inl (n, op))))))))))))) = a_put n op
mark_of (inr (inr (inr (inr (inr (inr (inr (inr (inr (inr (inr (inr (inl _))))))))))))) = no_code
mark_of (inr (inr (inr (inr (inr (inr (inr (inr (inr (inr (inr (inr (inr _))))))))))))) = one_step

pub mark_again : (m : Mark) → mark_of (parts_of m) ≡ m
mark_again (a_number n) = refl
mark_again (a_size n) = refl
mark_again (a_name w) = refl
mark_again (an_access n) = refl
mark_again (a_unary n) = refl
mark_again (a_binary n) = refl
mark_again no_indices = refl
mark_again (one_along n) = refl
mark_again (a_loop n) = refl
mark_again a_choice = refl
mark_again (a_keep t op) = refl
mark_again (a_put n op) = refl
mark_again no_code = refl
mark_again one_step = refl

abbrev pub coded_mark : Coded Mark
coded_mark =
    code_by Parts
    (coded⊎ coded_ℤ (coded⊎ coded_ℕ (coded⊎ variable.the_row.coded
    (coded⊎ coded_ℕ (coded⊎ unary_op.the_row.coded
    (coded⊎ binary_op.the_row.coded (coded⊎ coded_unit
    (coded⊎ coded_ℕ (coded⊎ coded_ℕ (coded⊎ coded_unit
    (coded⊎ (coded× target.the_row.coded (coded_option binary_op.the_row.coded))
    (coded⊎ (coded× coded_ℕ (coded_option binary_op.the_row.coded))
    (coded⊎ coded_unit coded_unit)))))))))))))
    parts_of mark_of mark_again

abbrev mutual
  -- the marks of an expression, and those behind it
  pub tree_marks : Tree → List Mark → List Mark
  tree_marks (number z) ms = a_number z ∷ ms
  tree_marks (size d) ms = a_size d ∷ ms
  tree_marks (named w) ms = a_name w ∷ ms
  tree_marks (access a is) ms = indices_marks is (an_access a ∷ ms)
  tree_marks (unary op e) ms = tree_marks e (a_unary op ∷ ms)
  tree_marks (binary op e f) ms = tree_marks e (tree_marks f (a_binary op ∷ ms))

  pub indices_marks : Indices → List Mark → List Mark
  indices_marks none ms = no_indices ∷ ms
  indices_marks (along k e rest) ms = tree_marks e (indices_marks rest (one_along k ∷ ms))

abbrev mutual
  pub step_marks : Step → List Mark → List Mark
  step_marks (repeat d body) ms = code_marks body (a_loop d ∷ ms)
  step_marks (choose e whole other) ms =
      tree_marks e (code_marks whole (code_marks other (a_choice ∷ ms)))
  step_marks (keep t op e) ms = tree_marks e (a_keep t op ∷ ms)
  step_marks (put a is op e) ms = tree_marks e (indices_marks is (a_put a op ∷ ms))

  pub code_marks : Code → List Mark → List Mark
  code_marks done ms = no_code ∷ ms
  code_marks (next s rest) ms = step_marks s (code_marks rest (one_step ∷ ms))

-- what was read and has no place yet
pub data Part : Type 0 where
  a_tree : Tree → Part
  some_indices : Indices → Part
  a_step : Step → Part
  some_code : Code → Part

-- one mark read: it takes its parts, of which the last one stands first
abbrev pub read_mark : Mark → List Part → List Part
read_mark (a_number z) ps = a_tree (number z) ∷ ps
read_mark (a_size n) ps = a_tree (size n) ∷ ps
read_mark (a_name w) ps = a_tree (named w) ∷ ps
read_mark (an_access n) (some_indices is ∷ ps) = a_tree (access n is) ∷ ps
read_mark (a_unary op) (a_tree e ∷ ps) = a_tree (unary op e) ∷ ps
read_mark (a_binary op) (a_tree f ∷ a_tree e ∷ ps) = a_tree (binary op e f) ∷ ps
read_mark no_indices ps = some_indices none ∷ ps
read_mark (one_along n) (some_indices is ∷ a_tree e ∷ ps) = some_indices (along n e is) ∷ ps
read_mark (a_loop n) (some_code body ∷ ps) = a_step (repeat n body) ∷ ps
read_mark a_choice (some_code other ∷ some_code whole ∷ a_tree e ∷ ps) =
    a_step (choose e whole other) ∷ ps
read_mark (a_keep t op) (a_tree e ∷ ps) = a_step (keep t op e) ∷ ps
read_mark (a_put n op) (some_indices is ∷ a_tree e ∷ ps) = a_step (put n is op e) ∷ ps
read_mark no_code ps = some_code done ∷ ps
read_mark one_step (some_code rest ∷ a_step t ∷ ps) = some_code (next t rest) ∷ ps
read_mark _ ps = ps

abbrev pub read_marks : List Mark → List Part → List Part
read_marks [] ps = ps
read_marks (m ∷ ms) ps = read_marks ms (read_mark m ps)

mutual
  pub tree_again : (t : Tree) (ms : List Mark) (ps : List Part) →
      read_marks (tree_marks t ms) ps ≡ read_marks ms (a_tree t ∷ ps)
  tree_again (number z) ms ps = refl
  tree_again (size d) ms ps = refl
  tree_again (named w) ms ps = refl
  tree_again (access a is) ms ps = indices_again is _ ps
  tree_again (unary op e) ms ps = tree_again e _ ps
  tree_again (binary op e f) ms ps = tree_again e _ ps ∙ tree_again f _ (a_tree e ∷ ps)

  pub indices_again : (is : Indices) (ms : List Mark) (ps : List Part) →
      read_marks (indices_marks is ms) ps ≡ read_marks ms (some_indices is ∷ ps)
  indices_again none ms ps = refl
  indices_again (along k e rest) ms ps = tree_again e _ ps ∙ indices_again rest _ (a_tree e ∷ ps)

mutual
  pub step_again : (t : Step) (ms : List Mark) (ps : List Part) →
      read_marks (step_marks t ms) ps ≡ read_marks ms (a_step t ∷ ps)
  step_again (repeat d body) ms ps = code_again body _ ps
  step_again (choose e whole other) ms ps =
      tree_again e _ ps ∙ (code_again whole _ (a_tree e ∷ ps)
      ∙ code_again other _ (some_code whole ∷ a_tree e ∷ ps))
  step_again (keep t op e) ms ps = tree_again e _ ps
  step_again (put a is op e) ms ps = tree_again e _ ps ∙ indices_again is _ (a_tree e ∷ ps)

  pub code_again : (c : Code) (ms : List Mark) (ps : List Part) →
      read_marks (code_marks c ms) ps ≡ read_marks ms (some_code c ∷ ps)
  code_again done ms ps = refl
  code_again (next t rest) ms ps = step_again t _ ps ∙ code_again rest _ (a_step t ∷ ps)

abbrev pub code_on : List Part → Code
code_on (some_code c ∷ ps) = c
code_on _ = done

-- kernel code, told apart by its marks
abbrev pub coded_code : Coded Code
coded_code =
    code_by (List Mark) (coded_list coded_mark) (λ c. code_marks c []) (λ ms.
    code_on (read_marks ms [])) (λ c.
    ap code_on (code_again c [] []))
