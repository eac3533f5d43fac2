-- The form of what an operator gives, and that it is an array.
use Rattle.std.proofs.Common.{◌≡◌, ℕ, ℤ, pos, List, [], ◌∷◌, length, map, All, Result, Ok, Err, Option, Some, None, refl, ap, ap₂, sym, subst, ◌∙◌}
use Rattle.std.specs.Prelude.{Bool, false, get_or, if◌then◌else◌, position}
use Rattle.std.specs.Ordering.{int_eq}
use Rattle.std.proofs.lemmas.List.{length-map}
use Rattle.std.proofs.lemmas.List.Elements.{All-cons, All-map, All-nil}
use Rattle.pdl_elem.specs.declared.Ty.{Ty}
use Rattle.pdl_elem.specs.declared.UnaryOp.{UnaryOp}
use Rattle.pdl_elem.specs.declared.BinaryOp.{BinaryOp}
use Rattle.pdl_elem.specs.Blocks.{pairwise, zero_at}
use Rattle.pdl_elem.specs.Laws.{OperatorLaws, WrappingLaws}
use Rattle.pdl_elem.specs.Numbers.{wrapped}
use Rattle.pdl_elem.specs.Operators.{divides, unary_value, value_of}
use Rattle.pdl_elem.specs.Types.{InRange, binary_result, promoted, unary_result}
use Rattle.pdl_shape.specs.Joined.{joined_dims}
use Rattle.pdl_shape.specs.Refusals.{Refusal}
use Rattle.pdl_shape.specs.Shape.{size_of}
use Rattle.pdl_shape.specs.Stretched.{stretched}
use Rattle.pdl_buf.specs.Made.{IsMade}
use Rattle.pdl_buf.specs.declared.made.Made.{Made}
use Rattle.pdl_ops.specs.Elementwise.{OpRefusal, no_dims, converted, elementwise, made_of, over_joined, unary_each, values_at, values_of}
use Rattle.pdl_ops.specs.Laws.{IsArray, IsUndivided, form, form_of}
use Rattle.pdl_ops.proofs.ValueCuts.{length_pairs}
use Rattle.pdl_ops.proofs.ElementwiseResults.{result_at, stretched_length}

-- ---- forms

pub no_zero : (op : BinaryOp) (ys : List ℤ) → divides op ≡ false → zero_at op ys ≡ None
no_zero op ys h = ap (λ (b : Bool). if b then position (λ z. int_eq z (pos 0)) ys else None) h

-- what is made of operands whose dimensions join is undivided, and has this form
made_undivided : (op : BinaryOp) (t ty : Ty) (ds : List ℕ) (xs ys : List ℤ) → divides op ≡ false → IsUndivided (made_of t ds (values_of op ty xs ys))
made_undivided op t ty ds xs ys h = subst (λ (z : Option ℕ). IsUndivided (made_of t ds (values_at op ty xs ys z))) (sym (no_zero op ys h)) tt

made_form : (op : BinaryOp) (t ty : Ty) (ds : List ℕ) (xs ys : List ℤ) → divides op ≡ false → form (made_of t ds (values_of op ty xs ys)) ≡ Ok (t, ds)
made_form op t ty ds xs ys h = ap (λ (z : Option ℕ). form (made_of t ds (values_at op ty xs ys z))) (no_zero op ys h)

pub never_divides : (op : BinaryOp) (a b : Made) → divides op ≡ false → IsUndivided (elementwise op a b)
never_divides op a b h = by_join (joined_dims a.dims b.dims)
  where
    by_join : (r : Result (List ℕ) Refusal) → IsUndivided (over_joined op a b r)
    by_join (Err refusal) = tt
    by_join (Ok js) =
        made_undivided op (binary_result op a.ty b.ty) (promoted a.ty b.ty) js
        (map (wrapped (promoted a.ty b.ty)) (stretched a.dims js a.elems))
        (map (wrapped (promoted a.ty b.ty)) (stretched b.dims js b.elems)) h

-- the form of an operator's result, by those of its operands
abbrev form_over : Ty → Result (List ℕ) Refusal → Result (Ty × List ℕ) OpRefusal
form_over t (Err refusal) = Err (no_dims refusal)
form_over t (Ok js) = Ok (t, js)

abbrev form_wanted : BinaryOp → (left right : Ty × List ℕ) → Result (Ty × List ℕ) OpRefusal
form_wanted op x y = form_over (binary_result op x.0 y.0) (joined_dims x.1 y.1)

form_is : (op : BinaryOp) (a b : Made) → divides op ≡ false → form (elementwise op a b) ≡ form_wanted op (form_of a) (form_of b)
form_is op a b h = by_join (joined_dims a.dims b.dims)
  where
    by_join : (r : Result (List ℕ) Refusal) → form (over_joined op a b r) ≡ form_over (binary_result op a.ty b.ty) r
    by_join (Err refusal) = refl
    by_join (Ok js) =
        made_form op (binary_result op a.ty b.ty) (promoted a.ty b.ty) js
        (map (wrapped (promoted a.ty b.ty)) (stretched a.dims js a.elems))
        (map (wrapped (promoted a.ty b.ty)) (stretched b.dims js b.elems)) h

pub forms_alike : (op : BinaryOp) (a b c d : Made) → divides op ≡ false → form_of a ≡ form_of c → form_of b ≡ form_of d → form (elementwise op a b) ≡ form (elementwise op c d)
forms_alike op a b c d h e f = form_is op a b h ∙ ap₂ (form_wanted op) e f ∙ sym (form_is op c d h)

-- ---- arrays

pub all_pairs : (P : ℤ → Type 0) (f : ℤ → ℤ → ℤ) → ((x y : ℤ) → P (f x y)) → (xs ys : List ℤ) → All P (pairwise f xs ys)
all_pairs P f h [] ys = All-nil P
all_pairs P f h (x ∷ xs) [] = All-nil P
all_pairs P f h (x ∷ xs) (y ∷ ys) = All-cons P (f x y) (pairwise f xs ys) (h x y) (all_pairs P f h xs ys)

pub unary_array : OperatorLaws → (op : UnaryOp) (a : Made) → IsArray a → IsArray (unary_each op a)
unary_array laws op a m = record {
  count = length-map a.elems (unary_value op a.ty) ∙ m.count;
  in_range = All-map (InRange (unary_result op a.ty)) (unary_value op a.ty) a.elems (λ k d lt. laws.unary op a.ty (get_or a.elems k d));
}

pub converted_array : WrappingLaws → (ty : Ty) (a : Made) → IsArray a → IsArray (converted ty a)
converted_array laws ty a m = record {
  count = length-map a.elems (wrapped ty) ∙ m.count;
  in_range = All-map (InRange ty) (wrapped ty) a.elems (λ k d lt. laws.in_range ty (get_or a.elems k d));
}

-- what an operator gives for operands of the joined dimensions
values_array : OperatorLaws → (op : BinaryOp) (s t : Ty) (js : List ℕ) (xs ys : List ℤ) → length xs ≡ size_of js → length ys ≡ size_of js
    → IsMade (binary_result op s t) js (pairwise (value_of op (promoted s t)) xs ys)
values_array laws op s t js xs ys m n =
    let ty = promoted s t in
    record {
      count = length_pairs (value_of op ty) xs ys (m ∙ sym n) ∙ n;
      in_range = subst (λ (u : Ty). All (InRange u) (pairwise (value_of op ty) xs ys)) (result_at op s t)
          (all_pairs (InRange (binary_result op ty ty)) (value_of op ty) (laws.binary op ty) xs ys);
    }

pub elementwise_array : OperatorLaws → (op : BinaryOp) (a b m : Made) → elementwise op a b ≡ Ok m → IsArray m
elementwise_array laws op a b m is = by_join (joined_dims a.dims b.dims) is
  where
    over_many : (c : Made) (js : List ℕ) → length (map (wrapped (promoted a.ty b.ty)) (stretched c.dims js c.elems)) ≡ size_of js
    over_many c js = length-map (stretched c.dims js c.elems) (wrapped (promoted a.ty b.ty)) ∙ stretched_length c.dims js c.elems

    by_zero : (js : List ℕ) (xs ys : List ℤ) → length xs ≡ size_of js → length ys ≡ size_of js → (z : Option ℕ)
        → made_of (binary_result op a.ty b.ty) js (values_at op (promoted a.ty b.ty) xs ys z) ≡ Ok m → IsArray m
    by_zero js xs ys e f (Some place) is = absurd (cc)
    by_zero js xs ys e f None is =
        let same : record { ty = binary_result op a.ty b.ty; dims = js; elems = pairwise (value_of op (promoted a.ty b.ty)) xs ys } ≡ m = cc in
        subst IsArray same (values_array laws op a.ty b.ty js xs ys e f)

    by_join : (r : Result (List ℕ) Refusal) → over_joined op a b r ≡ Ok m → IsArray m
    by_join (Err refusal) is = absurd (cc)
    by_join (Ok js) is =
        let ty = promoted a.ty b.ty in
        let xs = map (wrapped ty) (stretched a.dims js a.elems) in
        let ys = map (wrapped ty) (stretched b.dims js b.elems) in
        by_zero js xs ys (over_many a js) (over_many b js) (zero_at op ys) is
