-- What the parts of an answer are as a whole.
use Rattle.std.proofs.Common.{◌≡◌, ◌≤◌, ℕ, ℤ, List, length, map, Result, Ok, Err, Option, Some, None, refl, ap, ap₂, sym, subst, ◌∙◌}
use Rattle.std.specs.Prelude.{Bool, true, false, nat_lt, if◌then◌else◌}
use Rattle.std.proofs.lemmas.List.FromFn.{length-map-range_with_len}
use Rattle.pdl_elem.specs.declared.BinaryOp.{BinaryOp}
use Rattle.pdl_elem.specs.declared.Ty.{Ty}
use Rattle.pdl_elem.specs.declared.Ty.TheVariants.{Byte}
use Rattle.pdl_elem.specs.Numbers.{wrapped}
use Rattle.pdl_elem.specs.Types.{rank, promoted, binary_result, compares}
use Rattle.pdl_shape.specs.Joined.{joined_dims}
use Rattle.pdl_shape.specs.Refusals.{Refusal, mismatch}
use Rattle.pdl_shape.specs.Laws.{PositionLaws}
use Rattle.pdl_shape.specs.Shape.{extent, size_of}
use Rattle.pdl_shape.specs.Stretched.{stretched}
use Rattle.pdl_buf.specs.Made.{array_of}
use Rattle.pdl_buf.specs.Window.{Window}
use Rattle.pdl_buf.specs.declared.made.Made.{Made}
use Rattle.pdl_lexemes.specs.declared.AssignOp.{AssignOp}
use Rattle.pdl_lexemes.specs.declared.AssignOp.TheVariants.{With}
use Rattle.pdl_ops.specs.declared.OpFault.{OpFault}
use Rattle.pdl_ops.specs.Answers.{Answers, IsRefused, or_refused}
use Rattle.pdl_ops.specs.Elementwise.{OpRefusal, elementwise, no_dims, of_alike, over_joined, made_of, values_of}
use Rattle.pdl_ops.specs.Values.{fits, new_values, values_for, wrapped_to}
use Rattle.pdl_ops.proofs.ValueFitting.{fits_itself, joined_itself, stretched_itself}

made : Ty → List ℕ → List ℤ → Made
made ty ds es = record { ty = ty; dims = ds; elems = es }

-- dimensions that aren't refused
pub joined_ok : (r : Result (List ℕ) Refusal) (js : List ℕ) → or_refused r ≡ Ok js → r ≡ Ok js
joined_ok (Ok ds) js e = let same : ds ≡ js = cc in ap Ok same
joined_ok (Err refusal) js e = absurd (cc)

either_same : (b : Bool) (t : Ty) → (if b then t else t) ≡ t
either_same true t = refl
either_same false t = refl

promoted_same : (t : Ty) → promoted t t ≡ t
promoted_same t = either_same (nat_lt (rank t) (rank t)) t

-- the type of a result at the type of higher rank
pub result_at : (op : BinaryOp) (a b : Ty) → binary_result op (promoted a b) (promoted a b) ≡ binary_result op a b
result_at op a b = ap (λ (t : Ty). if compares op then Byte else t) (promoted_same (promoted a b))

-- from the answers of the steps
pub of_alike_ok : (op : BinaryOp) (a b : Window) (ds : List ℕ) (ty t : Ty) (es fs : List ℤ) → ty ≡ promoted a.ty b.ty → ds ≡ b.dims
    → values_of op ty (map (wrapped ty) a.elems) (map (wrapped ty) b.elems) ≡ Ok es → t ≡ binary_result op a.ty b.ty → fs ≡ es → of_alike op (array_of a) (array_of b) ≡ Ok (record { ty = t; dims = ds; elems = fs })
unfolding made
of_alike_ok op a b ds ty t es fs p d v r f =
    let at : Ty → Result (List ℤ) OpRefusal = λ u. values_of op u (map (wrapped u) a.elems) (map (wrapped u) b.elems) in
    ap (made_of (binary_result op a.ty b.ty) b.dims) (ap at (sym p) ∙ v)
    ∙ ap (λ (us : List ℕ). Ok (made (binary_result op a.ty b.ty) us es)) (sym d)
    ∙ ap₂ (λ (u : Ty) (us : List ℤ). Ok (made u ds us)) (sym r) (sym f)

-- a window that is stretched over joined dimensions
abbrev pub over_window : List ℕ → Window → Window
over_window js w = record { ty = w.ty; dims = js; elems = stretched w.dims js w.elems }

-- the definition's answer is that over the joined dimensions
pub elementwise_joined : (op : BinaryOp) (a b left right : Window) (js : List ℕ) → joined_dims a.dims b.dims ≡ Ok js → left ≡ over_window js a → right ≡ over_window js b
    → elementwise op (array_of a) (array_of b) ≡ of_alike op (array_of left) (array_of right)
elementwise_joined op a b left right js j l r = ap (over_joined op (array_of a) (array_of b)) j ∙ ap₂ (λ (v w : Window). of_alike op (array_of v) (array_of w)) (sym l) (sym r)

-- and that as they are, where their dimensions are the same
pub elementwise_alike : PositionLaws → (op : BinaryOp) (a b : Window) → a.dims ≡ b.dims → length a.elems ≡ size_of a.dims → length b.elems ≡ size_of b.dims → extent b.dims ≤ 1048576
    → elementwise op (array_of a) (array_of b) ≡ of_alike op (array_of a) (array_of b)
elementwise_alike laws op a b e m n h = elementwise_joined op a b a b b.dims (ap (λ (ds : List ℕ). joined_dims ds b.dims) e ∙ joined_itself b.dims h) (itself a b.dims e m) (itself b b.dims refl n)
  where
    window : Ty → List ℕ → List ℤ → Window
    window ty ds es = record { ty = ty; dims = ds; elems = es }

    itself : (w : Window) (js : List ℕ) → w.dims ≡ js → length w.elems ≡ size_of w.dims → w ≡ over_window js w
    itself w js same many = subst (λ (ds : List ℕ). w ≡ over_window ds w) same (ap (λ (es : List ℤ). window w.ty w.dims es) (sym (stretched_itself laws w.dims w.elems many)))

-- as many elements as the joined dimensions say
pub stretched_length : (ds js : List ℕ) (es : List ℤ) → length (stretched ds js es) ≡ size_of js
stretched_length ds js es = length-map-range_with_len _ 0 (size_of js)

-- what has no values has none that are wrapped
pub refused_wrapped : (ty : Ty) (r : Result (List ℤ) OpRefusal) (o : Option OpRefusal) → IsRefused r o → IsRefused (wrapped_to ty r) o
refused_wrapped ty r None h = tt
refused_wrapped ty r (Some refusal) h = ap (wrapped_to ty) h

pub made_same : (ty : Ty) (ds us : List ℕ) (es vs : List ℤ) → ds ≡ us → es ≡ vs → ◌≡◌ {A = Made} (record { ty = ty; dims = ds; elems = es }) (record { ty = ty; dims = us; elems = vs })
unfolding made
made_same ty ds us es vs d e = ap₂ (made ty) d e

pub assigned_refused : (sign : AssignOp) (op : BinaryOp) (target right ty : Ty) (old new : List ℤ) (o : Option OpRefusal) → sign ≡ With op → ty ≡ promoted target right
    → IsRefused (values_of op ty (map (wrapped ty) old) (map (wrapped ty) new)) o → IsRefused (new_values sign target right old new) o
assigned_refused sign op target right ty old new o e p h =
    let at : Ty → Result (List ℤ) OpRefusal = λ u. values_of op u (map (wrapped u) old) (map (wrapped u) new) in
    subst (λ (s : AssignOp). IsRefused (new_values s target right old new) o) (sym e)
    (refused_wrapped target (at (promoted target right)) o (subst (λ (u : Ty). IsRefused (at u) o) p h))

-- an answer to what is the same
pub answers_same : {A B : Type 0} (seen : A → B) (r s : Result B OpRefusal) (result : Result A OpFault) → r ≡ s → Answers seen s result → Answers seen r result
answers_same {B = B} seen r s result e h = subst (λ (w : Result B OpRefusal). Answers seen w result) (sym e) h

-- what an assignment of as many sizes as the target's writes
pub values_alike : PositionLaws → (sign : AssignOp) (target value : Window) → value.dims ≡ target.dims → length value.elems ≡ size_of value.dims
    → values_for sign (array_of target) (array_of value) ≡ new_values sign target.ty value.ty target.elems value.elems
values_alike laws sign target value e n =
    let new : List ℤ = stretched value.dims target.dims value.elems in
    let f : fits value.dims target.dims ≡ true = subst (λ (ds : List ℕ). fits value.dims ds ≡ true) e (fits_itself value.dims) in
    let s : new ≡ value.elems = subst (λ (ds : List ℕ). stretched value.dims ds value.elems ≡ value.elems) e (stretched_itself laws value.dims value.elems n) in
    ap (λ (b : Bool). if b then new_values sign target.ty value.ty target.elems new else Err (no_dims mismatch)) f ∙ ap (new_values sign target.ty value.ty target.elems) s
