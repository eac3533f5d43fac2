-- Values that are found part by part.
use Rattle.std.specs.Prelude.{◌==◌, ◌||◌, true}
use Rattle.std.proofs.Common.{suc, zero, ◌≡◌, ◌≢◌, inl, inr, ℕ, ◌+◌, ◌≤◌, ℤ, List, [], ◌∷◌, ◌++◌, length, take, drop, map, Option, Some, None, Ok, refl, sym, ◌∙◌, ap, ap₂, arith, take-append-drop}
use Rattle.std.proofs.Math.Seq.{drop-nil, take-add}
use Rattle.std.proofs.lemmas.Bool.{and_parts, eqb-true}
use Rattle.std.proofs.lemmas.Bool.Decides.{eqb_tells}
use Rattle.std.proofs.lemmas.List.{drop-map, length-map, take-map}
use Rattle.pdl_elem.specs.declared.BinaryOp.{BinaryOp}
use Rattle.pdl_elem.specs.declared.Ty.{Ty}
use Rattle.pdl_elem.specs.Blocks.{pairwise, zero_at}
use Rattle.pdl_elem.specs.Numbers.{wrapped}
use Rattle.pdl_elem.specs.Operators.{value_of}
use Rattle.pdl_elem.specs.Types.{promoted}
use Rattle.pdl_shape.specs.Broadcast.{BroadcastsTo}
use Rattle.pdl_lexemes.specs.declared.AssignOp.{AssignOp}
use Rattle.pdl_lexemes.specs.declared.AssignOp.TheVariants.{Set, With}
use Rattle.pdl_ops.specs.Elementwise.{values_at, values_of}
use Rattle.pdl_ops.specs.Values.{fits, new_values, wrapped_to}
use Rattle.pdl_ops.proofs.BlockZeros.{zero_after, zero_before}

pub block_map : (f : ℤ → ℤ) (xs : List ℤ) (n c : ℕ) → map f (take c (drop n xs)) ≡ take c (drop n (map f xs))
block_map f xs n c = simp (take-map, drop-map)

pairwise_none : (f : ℤ → ℤ → ℤ) (xs : List ℤ) → pairwise f xs [] ≡ []
pairwise_none f [] = refl
pairwise_none f (x ∷ xs) = refl

pairwise_drop : (f : ℤ → ℤ → ℤ) (n : ℕ) (xs ys : List ℤ) → pairwise f (drop n xs) (drop n ys) ≡ drop n (pairwise f xs ys)
pairwise_drop f zero xs ys = refl
pairwise_drop f (suc n) [] ys = ap (λ zs. pairwise f zs (drop (suc n) ys)) (drop-nil (suc n)) ∙ sym (drop-nil (suc n))
pairwise_drop f (suc n) (x ∷ xs) [] = ap (pairwise f (drop n xs)) (drop-nil (suc n)) ∙ pairwise_none f (drop n xs) ∙ sym (drop-nil (suc n))
pairwise_drop f (suc n) (x ∷ xs) (y ∷ ys) = pairwise_drop f n xs ys

pairwise_take : (f : ℤ → ℤ → ℤ) (n : ℕ) (xs ys : List ℤ) → pairwise f (take n xs) (take n ys) ≡ take n (pairwise f xs ys)
pairwise_take f zero xs ys = refl
pairwise_take f (suc n) [] ys = refl
pairwise_take f (suc n) (x ∷ xs) [] = refl
pairwise_take f (suc n) (x ∷ xs) (y ∷ ys) = ap (λ zs. f x y ∷ zs) (pairwise_take f n xs ys)

pub pairwise_block : (f : ℤ → ℤ → ℤ) (n c : ℕ) (xs ys : List ℤ) → pairwise f (take c (drop n xs)) (take c (drop n ys)) ≡ take c (drop n (pairwise f xs ys))
pairwise_block f n c xs ys = pairwise_take f c (drop n xs) (drop n ys) ∙ ap (take c) (pairwise_drop f n xs ys)

-- where no divisor is 0, none is in a front
zero_front : (op : BinaryOp) (n : ℕ) (ys : List ℤ) (o : Option ℕ) → zero_at op (take n ys) ≡ o → zero_at op ys ≡ None → zero_at op (take n ys) ≡ None
zero_front op n ys None e h = e
zero_front op n ys (Some p) e h =
    let z : zero_at op ys ≡ Some p = ap (zero_at op) (sym (take-append-drop n ys)) ∙ zero_before op (take n ys) (drop n ys) p e in
    let x : None ≡ Some p = sym h ∙ z in cc

zero_behind : (op : BinaryOp) (us vs : List ℤ) (o : Option ℕ) → zero_at op vs ≡ o → zero_at op us ≡ None → zero_at op (us ++ vs) ≡ None → zero_at op vs ≡ None
zero_behind op us vs None e g h = e
zero_behind op us vs (Some p) e g h =
    let x : None ≡ Some (length us + p) = sym h ∙ zero_after op us vs p g e in cc

pub zero_block : (op : BinaryOp) (n c : ℕ) (ys : List ℤ) → zero_at op ys ≡ None → zero_at op (take c (drop n ys)) ≡ None
zero_block op n c ys h =
    let front : zero_at op (take n ys) ≡ None = zero_front op n ys (zero_at op (take n ys)) refl h in
    let both : zero_at op (take (n + c) ys) ≡ None = zero_front op (n + c) ys (zero_at op (take (n + c) ys)) refl h in
    zero_behind op (take n ys) (take c (drop n ys)) (zero_at op (take c (drop n ys))) refl front (ap (zero_at op) (sym (take-add n c ys)) ∙ both)

with_cut : (op : BinaryOp) (t ty : Ty) (xs ys vs : List ℤ) (n c : ℕ) (o : Option ℕ) → zero_at op ys ≡ o → wrapped_to t (values_at op ty xs ys o) ≡ Ok vs
    → wrapped_to t (values_of op ty (take c (drop n xs)) (take c (drop n ys))) ≡ Ok (take c (drop n vs))
with_cut op t ty xs ys vs n c (Some p) e h = cc
with_cut op t ty xs ys vs n c None e h =
    let f : ℤ → ℤ → ℤ = value_of op ty in
    let made : map (wrapped t) (pairwise f xs ys) ≡ vs = cc in
    let us : List ℤ = take c (drop n xs) in
    let ws : List ℤ = take c (drop n ys) in
    ap (λ o. wrapped_to t (values_at op ty us ws o)) (zero_block op n c ys e)
    ∙ ap (λ zs. Ok (map (wrapped t) zs)) (pairwise_block f n c xs ys)
    ∙ ap Ok (block_map (wrapped t) (pairwise f xs ys) n c)
    ∙ ap (λ zs. Ok (take c (drop n zs))) made

-- the values of a block are those of the whole that stand there
pub values_cut : (sign : AssignOp) (t r : Ty) (old new vs : List ℤ) (n c : ℕ) → new_values sign t r old new ≡ Ok vs → new_values sign t r (take c (drop n old)) (take c (drop n new)) ≡ Ok (take c (drop n vs))
values_cut Set t r old new vs n c h =
    let made : map (wrapped t) new ≡ vs = cc in
    ap Ok (block_map (wrapped t) new n c) ∙ ap (λ zs. Ok (take c (drop n zs))) made
values_cut (With op) t r old new vs n c h =
    let ty : Ty = promoted t r in
    let f : ℤ → ℤ = wrapped ty in
    ap₂ (λ xs ys. wrapped_to t (values_of op ty xs ys)) (block_map f old n c) (block_map f new n c)
    ∙ with_cut op t ty (map f old) (map f new) vs n c (zero_at op (map f new)) refl h

-- there are as many values as positions
pub length_pairs : (f : ℤ → ℤ → ℤ) (xs ys : List ℤ) → length xs ≡ length ys → length (pairwise f xs ys) ≡ length ys
length_pairs f [] [] e = refl
length_pairs f [] (y ∷ ys) e = absurd (omega arith)
length_pairs f (x ∷ xs) [] e = refl
length_pairs f (x ∷ xs) (y ∷ ys) e = ap suc (length_pairs f xs ys (omega arith))

length_with : (op : BinaryOp) (t ty : Ty) (xs ys vs : List ℤ) (o : Option ℕ) → length xs ≡ length ys → wrapped_to t (values_at op ty xs ys o) ≡ Ok vs → length vs ≡ length ys
length_with op t ty xs ys vs (Some p) e h = cc
length_with op t ty xs ys vs None e h =
    let made : map (wrapped t) (pairwise (value_of op ty) xs ys) ≡ vs = cc in
    ap length (sym made) ∙ length-map (pairwise (value_of op ty) xs ys) (wrapped t) ∙ length_pairs (value_of op ty) xs ys e

pub length_values : (sign : AssignOp) (t r : Ty) (old new vs : List ℤ) → length old ≡ length new → new_values sign t r old new ≡ Ok vs → length vs ≡ length new
length_values Set t r old new vs e h =
    let made : map (wrapped t) new ≡ vs = cc in ap length (sym made) ∙ length-map new (wrapped t)
length_values (With op) t r old new vs e h =
    let f : ℤ → ℤ = wrapped (promoted t r) in
    length_with op t (promoted t r) (map f old) (map f new) vs (zero_at op (map f new)) (length-map old f ∙ e ∙ sym (length-map new f)) h ∙ length-map new f

-- sizes that fit, and are no more, can be stretched
size_stretches : (d t : ℕ) → (d == 1 || d == t) ≡ true → d ≢ 1 → d ≡ t
size_stretches d t e n = elim (eqb_tells d 1) [
  | inl y ↦ absurd (n y.1)
  | inr y ↦ eqb-true d t (rw y.0 at e)
]

pub fits_stretch : (ds ts : List ℕ) → length ds ≤ length ts → fits ds ts ≡ true → BroadcastsTo ds ts
fits_stretch [] ts h e = tt
fits_stretch (d ∷ ds) [] h e = absurd (omega arith)
fits_stretch (d ∷ ds) (t ∷ ts) h e =
    let parts = and_parts (d == 1 || d == t) (fits ds ts) e in
    (size_stretches d t parts.0, fits_stretch ds ts (omega arith) parts.1)
