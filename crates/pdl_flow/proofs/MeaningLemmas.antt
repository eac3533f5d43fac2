-- What a formula goes by, by induction on its tree.
use Rattle.std.proofs.Common.{◌≡◌, ℕ, suc, List, [], ◌∷◌, ◌++◌, All, Result, Ok, Err, arith, refl, ap, ap₂, sym, subst, ◌∙◌}
use Rattle.std.specs.Prelude.{false}
use Rattle.std.proofs.lemmas.List.{get_or_append_left, length-append}
use Rattle.std.proofs.lemmas.List.Elements.{All-cons, All-nil}
use Rattle.pdl_elem.specs.declared.Ty.{Ty}
use Rattle.pdl_elem.specs.declared.UnaryOp.{UnaryOp}
use Rattle.pdl_elem.specs.declared.BinaryOp.{BinaryOp}
use Rattle.pdl_elem.specs.Operators.{divides}
use Rattle.pdl_elem.specs.Types.{InRange, unary_result}
use Rattle.pdl_buf.specs.declared.made.Made.{Made}
use Rattle.pdl_ops.specs.Elementwise.{OpRefusal, converted, elementwise, unary_each}
use Rattle.pdl_ops.specs.Laws.{ArrayLaws, FormLaws, IsArray, IsUndivided, form, form_of}
use Rattle.pdl_flow.specs.Formula.{FormulaTree, number, array, unary, binary, convert, IsFormula, arrays_in}
use Rattle.pdl_flow.specs.Meaning.{and_then, meaning}

-- ---- a list in two parts

pub all_left : (P : ℕ → Type 0) (xs ys : List ℕ) → All P (xs ++ ys) → All P xs
all_left P xs ys h k d lt = subst P (get_or_append_left xs ys d k lt) (h k d (omega (arith, length-append xs ys)))

pub all_right : (P : ℕ → Type 0) (xs ys : List ℕ) → All P (xs ++ ys) → All P ys
all_right P [] ys h = h
all_right P (x ∷ xs) ys h = all_right P xs ys (λ k d lt. h (suc k) d (omega arith))

-- ---- the same values

pub same_values : (g h : ℕ → Made) (f : FormulaTree) → All (λ k. g k ≡ h k) (arrays_in f) → meaning g f ≡ meaning h f
same_values g h (number ty z) all = refl
same_values g h (array k) all = ap Ok (all 0 k (omega arith))
same_values g h (unary op f) all = ap (λ (r : Result Made OpRefusal). and_then r (λ a. Ok (unary_each op a))) (same_values g h f all)
same_values g h (convert ty f) all = ap (λ (r : Result Made OpRefusal). and_then r (λ a. Ok (converted ty a))) (same_values g h f all)
same_values g h (binary op f e) all =
    ap₂ (λ (r s : Result Made OpRefusal). and_then r (λ a. and_then s (λ b. elementwise op a b)))
    (same_values g h f (all_left (λ k. g k ≡ h k) (arrays_in f) (arrays_in e) all))
    (same_values g h e (all_right (λ k. g k ≡ h k) (arrays_in f) (arrays_in e) all))

-- ---- the same types and dimensions

abbrev unary_form : UnaryOp → Result (Ty × List ℕ) OpRefusal → Result (Ty × List ℕ) OpRefusal
unary_form op (Ok x) = Ok (unary_result op x.0, x.1)
unary_form op (Err e) = Err e

unary_forms : (op : UnaryOp) (r : Result Made OpRefusal) → form (and_then r (λ a. Ok (unary_each op a))) ≡ unary_form op (form r)
unary_forms op (Ok a) = refl
unary_forms op (Err e) = refl

abbrev convert_form : Ty → Result (Ty × List ℕ) OpRefusal → Result (Ty × List ℕ) OpRefusal
convert_form ty (Ok x) = Ok (ty, x.1)
convert_form ty (Err e) = Err e

convert_forms : (ty : Ty) (r : Result Made OpRefusal) → form (and_then r (λ a. Ok (converted ty a))) ≡ convert_form ty (form r)
convert_forms ty (Ok a) = refl
convert_forms ty (Err e) = refl

abbrev pub joined : BinaryOp → (left right : Result Made OpRefusal) → Result Made OpRefusal
joined op r s = and_then r (λ a. and_then s (λ b. elementwise op a b))

joined_forms : FormLaws → (op : BinaryOp) → divides op ≡ false → (r s t u : Result Made OpRefusal) → form r ≡ form t → form s ≡ form u → form (joined op r s) ≡ form (joined op t u)
joined_forms laws op h (Err d) s (Err e) u left right = left
joined_forms laws op h (Err d) s (Ok c) u left right = absurd (cc)
joined_forms laws op h (Ok a) s (Err e) u left right = absurd (cc)
joined_forms laws op h (Ok a) (Err d) (Ok c) (Err e) left right = right
joined_forms laws op h (Ok a) (Err d) (Ok c) (Ok b) left right = absurd (cc)
joined_forms laws op h (Ok a) (Ok b) (Ok c) (Err e) left right = absurd (cc)
joined_forms laws op h (Ok a) (Ok b) (Ok c) (Ok d) left right =
    let e : form_of a ≡ form_of c = cc in
    let f : form_of b ≡ form_of d = cc in
    laws.alike op a b c d h e f

pub same_forms : FormLaws → (g h : ℕ → Made) (f : FormulaTree) → IsFormula f → All (λ k. form_of (g k) ≡ form_of (h k)) (arrays_in f) → form (meaning g f) ≡ form (meaning h f)
same_forms laws g h (number ty z) is all = refl
same_forms laws g h (array k) is all = ap Ok (all 0 k (omega arith))
same_forms laws g h (unary op f) is all =
    unary_forms op (meaning g f) ∙ ap (unary_form op) (same_forms laws g h f is all) ∙ sym (unary_forms op (meaning h f))
same_forms laws g h (convert ty f) is all =
    convert_forms ty (meaning g f) ∙ ap (convert_form ty) (same_forms laws g h f is all) ∙ sym (convert_forms ty (meaning h f))
same_forms laws g h (binary op f e) is all =
    joined_forms laws op is.0 (meaning g f) (meaning g e) (meaning h f) (meaning h e)
    (same_forms laws g h f is.1 (all_left (λ k. form_of (g k) ≡ form_of (h k)) (arrays_in f) (arrays_in e) all))
    (same_forms laws g h e is.2 (all_right (λ k. form_of (g k) ≡ form_of (h k)) (arrays_in f) (arrays_in e) all))

-- ---- never a divisor 0

changed_undivided : (f : Made → Made) (r : Result Made OpRefusal) → IsUndivided r → IsUndivided (and_then r (λ a. Ok (f a)))
changed_undivided f (Ok a) h = tt
changed_undivided f (Err e) h = h

joined_undivided : FormLaws → (op : BinaryOp) → divides op ≡ false → (r s : Result Made OpRefusal) → IsUndivided r → IsUndivided s → IsUndivided (joined op r s)
joined_undivided laws op h (Err e) s left right = left
joined_undivided laws op h (Ok a) (Err e) left right = right
joined_undivided laws op h (Ok a) (Ok b) left right = laws.undivided op a b h

pub undivided : FormLaws → (g : ℕ → Made) (f : FormulaTree) → IsFormula f → IsUndivided (meaning g f)
undivided laws g (number ty z) is = tt
undivided laws g (array k) is = tt
undivided laws g (unary op f) is = changed_undivided (unary_each op) (meaning g f) (undivided laws g f is)
undivided laws g (convert ty f) is = changed_undivided (converted ty) (meaning g f) (undivided laws g f is)
undivided laws g (binary op f e) is = joined_undivided laws op is.0 (meaning g f) (meaning g e) (undivided laws g f is.1) (undivided laws g e is.2)

-- ---- arrays

abbrev IfArray : Result Made OpRefusal → Type 0
IfArray (Ok m) = IsArray m
IfArray (Err e) = Unit {0}

changed_array : (f : Made → Made) → ((a : Made) → IsArray a → IsArray (f a)) → (r : Result Made OpRefusal) → IfArray r → IfArray (and_then r (λ a. Ok (f a)))
changed_array f keeps (Ok a) h = keeps a h
changed_array f keeps (Err e) h = tt

joined_array : ArrayLaws → (op : BinaryOp) (r s : Result Made OpRefusal) → IfArray (joined op r s)
joined_array laws op (Err e) s = tt
joined_array laws op (Ok a) (Err e) = tt
joined_array laws op (Ok a) (Ok b) = by_answer (elementwise op a b) refl
  where
    by_answer : (r : Result Made OpRefusal) → elementwise op a b ≡ r → IfArray r
    by_answer (Ok m) is = laws.binary op a b m is
    by_answer (Err e) is = tt

if_array : ArrayLaws → (g : ℕ → Made) (f : FormulaTree) → IsFormula f → All (λ k. IsArray (g k)) (arrays_in f) → IfArray (meaning g f)
if_array laws g (number ty z) is all = record { count = refl; in_range = All-cons (InRange ty) z [] is (All-nil (InRange ty)) }
if_array laws g (array k) is all = all 0 k (omega arith)
if_array laws g (unary op f) is all = changed_array (unary_each op) (laws.unary op) (meaning g f) (if_array laws g f is all)
if_array laws g (convert ty f) is all = changed_array (converted ty) (laws.convert ty) (meaning g f) (if_array laws g f is all)
if_array laws g (binary op f e) is all = joined_array laws op (meaning g f) (meaning g e)

pub arrays : ArrayLaws → (g : ℕ → Made) (f : FormulaTree) (m : Made) → IsFormula f → All (λ k. IsArray (g k)) (arrays_in f) → meaning g f ≡ Ok m → IsArray m
arrays laws g f m is all e = subst IfArray e (if_array laws g f is all)
