-- A code for formulas, by which a proof tells one from another: a formula is written as a list of
-- marks, each behind those of its operands, and read back onto a stack.
use Rattle.std.specs.Prelude.{◌≡◌, ◌⊎◌, ℕ, ℤ, List, [], ◌∷◌}
use Rattle.std.specs.Coded.{Coded, code_by, coded×, coded⊎, coded_ℕ, coded_ℤ, coded_list}
use mathlib.Core.Logic.{inl, inr}
use Rattle.pdl_elem.specs.contracts.BinaryOp as binary_op
use Rattle.pdl_elem.specs.contracts.Ty as type
use Rattle.pdl_elem.specs.contracts.UnaryOp as unary_op
use Rattle.std.proofs.Common.{◌∙◌, ap, refl}
use Rattle.pdl_elem.specs.declared.BinaryOp.{BinaryOp}
use Rattle.pdl_elem.specs.declared.Ty.{Ty}
use Rattle.pdl_elem.specs.declared.UnaryOp.{UnaryOp}
use Rattle.pdl_flow.specs.Formula.{FormulaTree, number, array, unary, binary, convert}

-- a mark: what a part of a formula is, apart from its operands
pub data Mark : Type 0 where
  a_number : Ty → ℤ → Mark
  an_array : ℕ → Mark
  a_unary : UnaryOp → Mark
  a_binary : BinaryOp → Mark
  a_convert : Ty → Mark

-- a mark as one of several tuples
abbrev pub Parts : Type 0
Parts = (Ty × ℤ) ⊎ (ℕ ⊎ (UnaryOp ⊎ (BinaryOp ⊎ Ty)))

abbrev pub parts_of : Mark → Parts
parts_of (a_number ty z) = inl (ty, z)
parts_of (an_array k) = inr (inl k)
parts_of (a_unary op) = inr (inr (inl op))
parts_of (a_binary op) = inr (inr (inr (inl op)))
parts_of (a_convert ty) = inr (inr (inr (inr ty)))

abbrev pub mark_of : Parts → Mark
mark_of (inl (ty, z)) = a_number ty z
mark_of (inr (inl k)) = an_array k
mark_of (inr (inr (inl op))) = a_unary op
mark_of (inr (inr (inr (inl op)))) = a_binary op
mark_of (inr (inr (inr (inr ty)))) = a_convert ty

pub mark_again : (m : Mark) → mark_of (parts_of m) ≡ m
mark_again (a_number ty z) = refl
mark_again (an_array k) = refl
mark_again (a_unary op) = refl
mark_again (a_binary op) = refl
mark_again (a_convert ty) = refl

abbrev pub coded_mark : Coded Mark
coded_mark =
    code_by Parts
    (coded⊎ (coded× type.the_row.coded coded_ℤ) (coded⊎ coded_ℕ
    (coded⊎ unary_op.the_row.coded (coded⊎ binary_op.the_row.coded type.the_row.coded))))
    parts_of mark_of mark_again

-- the marks of a formula, and those behind it
abbrev pub formula_marks : FormulaTree → List Mark → List Mark
formula_marks (number ty z) ms = a_number ty z ∷ ms
formula_marks (array k) ms = an_array k ∷ ms
formula_marks (unary op f) ms = formula_marks f (a_unary op ∷ ms)
formula_marks (binary op f g) ms = formula_marks f (formula_marks g (a_binary op ∷ ms))
formula_marks (convert ty f) ms = formula_marks f (a_convert ty ∷ ms)

-- one mark read: it takes its operands, of which the last one stands first
abbrev pub read_mark : Mark → List FormulaTree → List FormulaTree
read_mark (a_number ty z) fs = number ty z ∷ fs
read_mark (an_array k) fs = array k ∷ fs
read_mark (a_unary op) (f ∷ fs) = unary op f ∷ fs
read_mark (a_binary op) (g ∷ f ∷ fs) = binary op f g ∷ fs
read_mark (a_convert ty) (f ∷ fs) = convert ty f ∷ fs
read_mark _ fs = fs

abbrev pub read_marks : List Mark → List FormulaTree → List FormulaTree
read_marks [] fs = fs
read_marks (m ∷ ms) fs = read_marks ms (read_mark m fs)

pub formula_again : (f : FormulaTree) (ms : List Mark) (fs : List FormulaTree) →
    read_marks (formula_marks f ms) fs ≡ read_marks ms (f ∷ fs)
formula_again (number ty z) ms fs = refl
formula_again (array k) ms fs = refl
formula_again (unary op f) ms fs = formula_again f _ fs
formula_again (binary op f g) ms fs = formula_again f _ fs ∙ formula_again g _ (f ∷ fs)
formula_again (convert ty f) ms fs = formula_again f _ fs

abbrev pub formula_on : List FormulaTree → FormulaTree
formula_on (f ∷ fs) = f
formula_on [] = array 0

-- a formula, told apart by its marks
abbrev pub coded_formula : Coded FormulaTree
coded_formula =
    code_by (List Mark) (coded_list coded_mark) (λ f. formula_marks f []) (λ ms.
    formula_on (read_marks ms [])) (λ f.
    ap formula_on (formula_again f [] []))
