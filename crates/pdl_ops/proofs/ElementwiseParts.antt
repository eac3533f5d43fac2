-- Lists that are made in blocks.
use Rattle.std.proofs.Common.{◌≡◌, ℕ, ◌+◌, ◌≤◌, ℤ, List, [], ◌++◌, length, take, drop, map, All, Option, Result, arith, Some, None, Ok, Err, is_ok, true, refl, ap, ap₂, sym, subst, ◌∙◌, take-append-drop}
use Rattle.std.proofs.lemmas.List.{take-map, drop-map, take_all, length-take-le}
use Rattle.std.proofs.lemmas.List.Elements.{All-append, All-nil}
use Rattle.std.proofs.Math.Seq.{take-add}
use Rattle.pdl_elem.specs.declared.BinaryOp.{BinaryOp}
use Rattle.pdl_elem.specs.declared.Ty.{Ty}
use Rattle.pdl_elem.specs.Blocks.{pairwise, zero_at}
use Rattle.pdl_elem.specs.Operators.{value_of}
use Rattle.pdl_elem.specs.Types.{InRange, binary_result}
use Rattle.pdl_lexemes.specs.declared.AssignOp.{AssignOp}
use Rattle.pdl_ops.specs.Elementwise.{OpRefusal, values_of, values_at, zero_divisor}
use Rattle.pdl_ops.specs.Parts.{PartsAreCut, ValuesAreAsMany, part_values}
use Rattle.pdl_ops.specs.Values.{new_values}
use Rattle.pdl_ops.proofs.BlockLists.{pairwise_append}
use Rattle.pdl_ops.proofs.BlockZeros.{zero_none, zero_after, zero_before}

-- ---- one list, changed

-- the first k elements are changed
pub record AreChanged (f : ℤ → ℤ) (P : ℤ → Type 0) (xs : List ℤ) (k : ℕ) (made : List ℤ) : Type 0 where
  pub made_is : made ≡ map f (take k xs)
  pub in_range : All P made

pub changed_more : (f : ℤ → ℤ) (P : ℤ → Type 0) (xs made block next : List ℤ) (k n : ℕ) → AreChanged f P xs k made
    → block ≡ map f (take n (drop k xs)) → All P block → next ≡ made ++ block → AreChanged f P xs (k + n) next
changed_more f P xs made block next k n m e h same =
    let part : map f (take n (drop k xs)) ≡ take n (drop k (map f xs)) = simp (take-map, drop-map) in
    record {
      made_is = same ∙ ap₂ (λ (us vs : List ℤ). us ++ vs) (m.made_is ∙ sym (take-map f k xs)) (e ∙ part) ∙ sym (take-add k n (map f xs)) ∙ take-map f (k + n) xs;
      in_range = subst (All P) (sym same) (All-append P made block m.in_range h);
    }

pub changed_all : (f : ℤ → ℤ) (P : ℤ → Type 0) (xs made : List ℤ) (k : ℕ) → length xs ≤ k → AreChanged f P xs k made → made ≡ map f xs
changed_all f P xs made k h m = m.made_is ∙ ap (map f) (take_all k xs h)

-- ---- an operator on two lists of its operands

-- the first k values are made, and no divisor among them is 0
pub record AreMade (op : BinaryOp) (ty : Ty) (xs ys : List ℤ) (k : ℕ) (made : List ℤ) : Type 0 where
  pub made_is : made ≡ pairwise (value_of op ty) (take k xs) (take k ys)
  pub no_zero : zero_at op (take k ys) ≡ None
  pub in_range : All (InRange (binary_result op ty ty)) made

-- the values of one part more of two lists
pub values_more : (f : ℤ → ℤ → ℤ) (xs ys made next : List ℤ) (k n : ℕ) → length xs ≡ length ys → k ≤ length ys → made ≡ pairwise f (take k xs) (take k ys)
    → next ≡ made ++ pairwise f (take n (drop k xs)) (take n (drop k ys)) → next ≡ pairwise f (take (k + n) xs) (take (k + n) ys)
values_more f xs ys made next k n l h m whole =
    let same : length (take k xs) ≡ length (take k ys) = length-take-le k xs (omega arith) ∙ sym (length-take-le k ys h) in
    whole ∙ ap (λ (us : List ℤ). us ++ pairwise f (take n (drop k xs)) (take n (drop k ys))) m
    ∙ sym (pairwise_append f (take k xs) (take k ys) (take n (drop k xs)) (take n (drop k ys)) same)
    ∙ ap₂ (pairwise f) (sym (take-add k n xs)) (sym (take-add k n ys))

pub made_more : (op : BinaryOp) (ty : Ty) (xs ys made block next us vs : List ℤ) (k n : ℕ) → length xs ≡ length ys → k ≤ length ys → AreMade op ty xs ys k made
    → us ≡ take n (drop k xs) → vs ≡ take n (drop k ys) → block ≡ pairwise (value_of op ty) us vs → zero_at op vs ≡ None
    → All (InRange (binary_result op ty ty)) block → next ≡ made ++ block → AreMade op ty xs ys (k + n) next
made_more op ty xs ys made block next us vs k n l h m e f v z a whole =
    record {
      made_is = values_more (value_of op ty) xs ys made next k n l h m.made_is (whole ∙ ap (λ (vs : List ℤ). made ++ vs) (v ∙ ap₂ (pairwise (value_of op ty)) e f));
      no_zero = ap (zero_at op) (take-add k n ys) ∙ zero_none op (take k ys) (take n (drop k ys)) m.no_zero (ap (zero_at op) (sym f) ∙ z);
      in_range = subst (All (InRange (binary_result op ty ty))) (sym whole) (All-append (InRange (binary_result op ty ty)) made block m.in_range a);
    }

-- what values there are
values_none : (op : BinaryOp) (ty : Ty) (us vs made : List ℤ) (zero : Option ℕ) → values_at op ty us vs zero ≡ Ok made → zero ≡ None
values_none op ty us vs made None e = refl
values_none op ty us vs made (Some place) e = cc

values_are : (op : BinaryOp) (ty : Ty) (us vs made : List ℤ) (zero : Option ℕ) → values_at op ty us vs zero ≡ Ok made → made ≡ pairwise (value_of op ty) us vs
values_are op ty us vs made None e = cc
values_are op ty us vs made (Some place) e = cc

pub values_found : (op : BinaryOp) (ty : Ty) (us vs made : List ℤ) → values_of op ty us vs ≡ Ok made → made ≡ pairwise (value_of op ty) us vs
values_found op ty us vs made e = values_are op ty us vs made (zero_at op vs) e

-- the values of the first elements are found
pub made_begun : (op : BinaryOp) (ty : Ty) (xs ys us vs : List ℤ) (k : ℕ) {made : List ℤ} → us ≡ take k xs → vs ≡ take k ys
    → All (InRange (binary_result op ty ty)) (pairwise (value_of op ty) us vs) → values_of op ty us vs ≡ Ok made → AreMade op ty xs ys k made
made_begun op ty xs ys us vs k {made} e f h is = record {
  made_is = values_found op ty us vs made is ∙ ap₂ (pairwise (value_of op ty)) e f;
  no_zero = ap (zero_at op) (sym f) ∙ values_none op ty us vs made (zero_at op vs) is;
  in_range = subst (All (InRange (binary_result op ty ty))) (sym (values_found op ty us vs made is)) h;
}

pub made_all : (op : BinaryOp) (ty : Ty) (xs ys made : List ℤ) (k : ℕ) → length xs ≡ length ys → length ys ≤ k → AreMade op ty xs ys k made → values_of op ty xs ys ≡ Ok made
made_all op ty xs ys made k l h m =
    let none : zero_at op ys ≡ None = ap (zero_at op) (sym (take_all k ys h)) ∙ m.no_zero in
    let all : made ≡ pairwise (value_of op ty) xs ys = m.made_is ∙ ap₂ (pairwise (value_of op ty)) (take_all k xs (omega arith)) (take_all k ys h) in
    ap (values_at op ty xs ys) none ∙ ap Ok (sym all)

-- the first divisor 0 stands in the block that comes next
pub made_never : (op : BinaryOp) (ty : Ty) (xs ys made vs : List ℤ) (k n p : ℕ) → k ≤ length ys → AreMade op ty xs ys k made
    → vs ≡ take n (drop k ys) → zero_at op vs ≡ Some p → values_of op ty xs ys ≡ Err (zero_divisor (k + p))
made_never op ty xs ys made vs k n p h m f z =
    let front : zero_at op (take (k + n) ys) ≡ Some (length (take k ys) + p) =
    ap (zero_at op) (take-add k n ys) ∙ zero_after op (take k ys) (take n (drop k ys)) p m.no_zero (ap (zero_at op) (sym f) ∙ z) in
    let found : zero_at op ys ≡ Some (length (take k ys) + p) =
    ap (zero_at op) (sym (take-append-drop (k + n) ys)) ∙ zero_before op (take (k + n) ys) (drop (k + n) ys) (length (take k ys) + p) front in
    ap (values_at op ty xs ys) (found ∙ ap (λ (q : ℕ). Some (q + p)) (length-take-le k ys h))

-- ---- the values of an assignment

-- the first k values are found
pub record AreFound (sign : AssignOp) (t r : Ty) (old new : List ℤ) (k : ℕ) (made : List ℤ) : Type 0 where
  pub made_is : (vs : List ℤ) → new_values sign t r old new ≡ Ok vs → made ≡ take k vs
  pub in_range : All (InRange t) made

pub found_first : (sign : AssignOp) (t r : Ty) (old new made : List ℤ) → made ≡ [] → AreFound sign t r old new 0 made
found_first sign t r old new made e = record { made_is = λ vs is. e; in_range = subst (All (InRange t)) (sym e) (All-nil (InRange t)) }

-- what there is
some_values : (r : Result (List ℤ) OpRefusal) → is_ok r ≡ true → (vs : List ℤ) × (r ≡ Ok vs)
some_values (Ok vs) t = (vs, refl)
some_values (Err e) t = cc

pub found_part : PartsAreCut → (sign : AssignOp) (t r : Ty) (old new : List ℤ) (k n : ℕ) → is_ok (new_values sign t r old new) ≡ true → is_ok (part_values sign t r k n old new) ≡ true
found_part parts sign t r old new k n ok =
    let vs = some_values (new_values sign t r old new) ok in
    ap is_ok (parts sign t r old new vs.0 k n vs.1)

pub found_more : PartsAreCut → (sign : AssignOp) (t r : Ty) (old new : List ℤ) (k n : ℕ) (made block next : List ℤ) → AreFound sign t r old new k made → part_values sign t r k n old new ≡ Ok block → All (InRange t) block
    → next ≡ made ++ block → AreFound sign t r old new (k + n) next
found_more parts sign t r old new k n made block next m b a e = record {
  made_is = λ vs is. (let same : Ok block ≡ Ok (take n (drop k vs)) = sym b ∙ parts sign t r old new vs k n is in
      let cut : block ≡ take n (drop k vs) = cc in
      e ∙ ap₂ (λ (us ws : List ℤ). us ++ ws) (m.made_is vs is) cut ∙ sym (take-add k n vs));
  in_range = subst (All (InRange t)) (sym e) (All-append (InRange t) made block m.in_range a);
}

pub found_all : ValuesAreAsMany → (sign : AssignOp) (t r : Ty) (old new : List ℤ) (k : ℕ) (made : List ℤ) → length old ≡ length new → length new ≤ k → is_ok (new_values sign t r old new) ≡ true
    → AreFound sign t r old new k made → new_values sign t r old new ≡ Ok made
found_all many sign t r old new k made paired past ok m =
    let vs = some_values (new_values sign t r old new) ok in
    let count : length vs.0 ≡ length new = many sign t r old new vs.0 paired vs.1 in
    vs.1 ∙ ap Ok (sym (m.made_is vs.0 vs.1 ∙ take_all k vs.0 (omega (arith, count, past))))
