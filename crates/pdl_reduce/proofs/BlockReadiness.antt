-- The arrays of a pairing that resolves are ready to be multiplied in blocks.
use Rattle.std.proofs.Common.{◌≡◌, ℕ, ◌*◌, ◌<◌, ◌≤◌, max, ℤ, List, [], ◌∷◌, length, map, drop, get_or, arith, Option, Some, Result, Ok, Err, refl, ap, ap₂, sym, subst, ◌∙◌}
use Rattle.std.specs.Prelude.{Bool, false, nat_lt, if◌then◌else◌, slice_index_or, IsOk, IfOk}
use Rattle.std.specs.List.{range_with_len}
use Rattle.std.proofs.Math.Nat.{le-mul_of_pos_right}
use Rattle.std.proofs.lemmas.Nat.{mul-le}
use Rattle.pdl_elem.specs.declared.Ty.{Ty}
use Rattle.pdl_elem.specs.Numbers.{wrapped}
use Rattle.pdl_shape.specs.Broadcast.{BroadcastsTo, join}
use Rattle.pdl_shape.specs.Joined.{joined_dims, checked_join}
use Rattle.pdl_shape.specs.Laws.{SizeLaws}
use Rattle.pdl_shape.specs.Refusals.{Refusal, too_large}
use Rattle.pdl_shape.specs.Shape.{IsDims, coordinates_of, extent, extent_limit, size_of}
use Rattle.pdl_sig.specs.declared.Resolved.{Resolved}
use Rattle.pdl_numbers.specs.Typed.{TypedElements}
use Rattle.pdl_buf.specs.declared.made.Made.{Made}
use Rattle.pdl_reduce.specs.declared.Pairing.{Pairing}
use Rattle.pdl_reduce.specs.declared.Pairing.TheVariants.{Inner, Outer, Matmult}
use Rattle.pdl_reduce.specs.declared.matrices.Sizes.{Sizes}
use Rattle.pdl_reduce.specs.Blocks.{Ready, ReadyFor, block_products, core_count, products_at, sizes_of}
use Rattle.pdl_reduce.specs.Pairings.{paired_at, paired_dims, paired_element, signature_of}
use Rattle.pdl_buf.specs.Made.{broadcast_element}
use Rattle.pdl_reduce.proofs.PairingPlaces.{range_agree}
use Rattle.pdl_reduce.proofs.PairingBlocks.{Positions, inner_is, outer_is, matmult_is}
use Rattle.pdl_reduce.proofs.PairingResolved.{Known, known_inner, known_outer, known_matmult}
use Rattle.pdl_sig.specs.Given.{shape_of as given_as}
use Rattle.pdl_sig.specs.Resolution.{resolution}
use Rattle.pdl_reduce.proofs.ReductionResults.{size_split}

-- ---- sizes

split_two : (ds : List ℕ) → size_of (drop 2 ds) * (get_or ds 0 1 * get_or ds 1 1) ≡ size_of ds
split_two [] = refl
split_two (d ∷ []) = omega arith
split_two (d ∷ e ∷ ds) = omega arith

first_within : SizeLaws → (ds : List ℕ) → get_or ds 0 1 ≤ extent ds
first_within laws [] = omega arith
first_within laws (d ∷ ds) = omega (arith, le-mul_of_pos_right (max d 1) (laws.extent_above ds))

two_within : SizeLaws → (ds : List ℕ) → get_or ds 0 1 * get_or ds 1 1 ≤ extent ds
two_within laws [] = omega arith
two_within laws (d ∷ []) = omega arith
two_within laws (d ∷ e ∷ ds) =
    let second : e ≤ max e 1 * extent ds = omega (arith, le-mul_of_pos_right (max e 1) (laws.extent_above ds)) in
    mul-le d e (max d 1) (max e 1 * extent ds) (omega arith) second

-- ---- arrays

-- an array within the limits, with as many elements as its dimensions say
pub record Sound (a : Made) : Type 0 where
  pub dims : IsDims a.dims
  pub count : length a.elems ≡ size_of a.dims

few : SizeLaws → (a : Made) → Sound a → length a.elems ≤ extent_limit
few laws a h = omega (arith, h.count, laws.size_within a.dims, h.dims.within)

one_count : (a : Made) → Sound a → length a.elems ≡ size_of (drop 1 a.dims) * get_or a.dims 0 1
one_count a h = h.count ∙ sym (size_split a.dims)

two_count : (a : Made) → Sound a → length a.elems ≡ size_of (drop 2 a.dims) * (get_or a.dims 0 1 * get_or a.dims 1 1)
two_count a h = h.count ∙ sym (split_two a.dims)

-- what the further dimensions join to is the broadcast
checked : (o : Option (List ℕ)) (bs : List ℕ) → o ≡ Some bs → nat_lt extent_limit (extent bs) ≡ false → checked_join o ≡ Ok bs
checked o bs e h = ap checked_join e ∙ ap (λ (b : Bool). if b then Err too_large else Ok bs) h

pub joins : (kind : Pairing) (a b xs ys dims : List ℕ) (s : Sizes) (r : Resolved) → Known kind a b xs ys dims s r → joined_dims xs ys ≡ Ok r.broadcast
joins kind a b xs ys dims s r k = checked (join xs ys) r.broadcast k.joined k.small

pub joins_ok : (xs ys bs : List ℕ) → joined_dims xs ys ≡ Ok bs → IsOk (joined_dims xs ys)
joins_ok xs ys bs e = subst (λ (o : Result (List ℕ) Refusal). IsOk o) (sym e) refl

pub joins_to : (xs ys bs js : List ℕ) → joined_dims xs ys ≡ Ok bs → joined_dims xs ys ≡ Ok js → js ≡ bs
joins_to xs ys bs js e f = let same : ◌≡◌ {A = Result (List ℕ) Refusal} (Ok js) (Ok bs) = sym f ∙ e in cc

-- ---- a pairing's elements

pub value : (kind : Pairing) (r : Resolved) (a b : Made) (dims : List ℕ) (n : ℕ) (P : ℕ → ℤ) → paired_dims r ≡ dims → size_of dims ≡ n
    → ((p : ℕ) → p < n → wrapped r.generic (paired_at kind (slice_index_or r.sizes 0 1) (broadcast_element r.generic a) (broadcast_element r.generic b) (coordinates_of dims p)) ≡ P p)
    → map P (range_with_len 0 n) ≡ map (paired_element kind r a b) (range_with_len 0 (size_of (paired_dims r)))
value kind r a b dims n P e f h =
    let at : List ℕ → ℕ → ℤ = λ ds p. wrapped r.generic (paired_at kind (slice_index_or r.sizes 0 1) (broadcast_element r.generic a) (broadcast_element r.generic b) (coordinates_of ds p)) in
    sym (ap (λ (ds : List ℕ). map (at ds) (range_with_len 0 (size_of ds))) e ∙ ap (λ (m : ℕ). map (at dims) (range_with_len 0 m)) f ∙ range_agree (at dims) P n h)

-- what is known of both arrays and of their broadcast
pub record Pair (a b : Made) (xs ys bs : List ℕ) : Type 0 where
  pub sizes : SizeLaws
  pub positions : Positions
  pub left : Sound a
  pub right : Sound b
  pub left_to : BroadcastsTo xs bs
  pub right_to : BroadcastsTo ys bs

pub inner_ready : (r : Resolved) (a b : Made) → Pair a b (drop 1 a.dims) (drop 1 b.dims) r.broadcast
    → Known Inner a.dims b.dims (drop 1 a.dims) (drop 1 b.dims) r.broadcast (sizes_of Inner (slice_index_or r.sizes 0 1) a.dims b.dims) r
    → Ready (sizes_of Inner (slice_index_or r.sizes 0 1) a.dims b.dims) a.elems b.elems (drop 1 a.dims) (drop 1 b.dims) r.broadcast
inner_ready r a b p k = record {
  left_count = one_count a p.left ∙ ap (λ (m : ℕ). size_of (drop 1 a.dims) * m) (omega arith);
  right_count = one_count b p.right ∙ ap (λ (m : ℕ). size_of (drop 1 b.dims) * m) (omega arith);
  left_small = omega (arith, first_within p.sizes a.dims, p.left.dims.within);
  right_small = omega (arith, first_within p.sizes b.dims, p.right.dims.within);
  left_deep = k.left_deep;
  right_deep = k.right_deep;
  left_few = few p.sizes a p.left;
  right_few = few p.sizes b p.right;
  left_stretched = p.left_to;
  right_stretched = p.right_to;
}

pub inner_value : (r : Resolved) (a b : Made) → Pair a b (drop 1 a.dims) (drop 1 b.dims) r.broadcast
    → Known Inner a.dims b.dims (drop 1 a.dims) (drop 1 b.dims) r.broadcast (sizes_of Inner (slice_index_or r.sizes 0 1) a.dims b.dims) r
    → map (products_at r.generic (sizes_of Inner (slice_index_or r.sizes 0 1) a.dims b.dims) a.elems b.elems (drop 1 a.dims) (drop 1 b.dims) r.broadcast) (range_with_len 0 (size_of r.broadcast * (1 * 1)))
    ≡ map (paired_element Inner r a b) (range_with_len 0 (size_of (paired_dims r)))
inner_value r a b p k =
    let h : _ = inner_ready r a b p k in
    let few : size_of r.broadcast ≡ size_of r.broadcast * (1 * 1) = omega arith in
    value Inner r a b r.broadcast (size_of r.broadcast * (1 * 1)) _ k.dims_are few
    (λ q inside. inner_is p.positions r.generic a b r.broadcast (slice_index_or r.sizes 0 1) (record { stretched = p.left_to; count = h.left_count }) (record { stretched = p.right_to; count = h.right_count })
    k.left_deep k.right_deep q (omega (arith, few, inside)))

pub outer_ready : (r : Resolved) (a b : Made) → Pair a b (drop 1 a.dims) (drop 1 b.dims) r.broadcast
    → Ready (sizes_of Outer (slice_index_or r.sizes 0 1) a.dims b.dims) b.elems a.elems (drop 1 b.dims) (drop 1 a.dims) r.broadcast
outer_ready r a b p = record {
  left_count = one_count b p.right ∙ ap (λ (m : ℕ). size_of (drop 1 b.dims) * m) (omega arith);
  right_count = one_count a p.left ∙ ap (λ (m : ℕ). size_of (drop 1 a.dims) * m) (omega arith);
  left_small = omega (arith, first_within p.sizes b.dims, p.right.dims.within);
  right_small = omega (arith, first_within p.sizes a.dims, p.left.dims.within);
  left_deep = λ k below. omega arith;
  right_deep = λ k below. omega arith;
  left_few = few p.sizes b p.right;
  right_few = few p.sizes a p.left;
  left_stretched = p.right_to;
  right_stretched = p.left_to;
}

pub outer_value : (r : Resolved) (a b : Made) → Pair a b (drop 1 a.dims) (drop 1 b.dims) r.broadcast
    → Known Outer a.dims b.dims (drop 1 a.dims) (drop 1 b.dims) (get_or a.dims 0 1 ∷ get_or b.dims 0 1 ∷ r.broadcast) (sizes_of Outer (slice_index_or r.sizes 0 1) a.dims b.dims) r
    → map (products_at r.generic (sizes_of Outer (slice_index_or r.sizes 0 1) a.dims b.dims) b.elems a.elems (drop 1 b.dims) (drop 1 a.dims) r.broadcast) (range_with_len 0 (size_of r.broadcast * (get_or b.dims 0 1 * get_or a.dims 0 1)))
    ≡ map (paired_element Outer r a b) (range_with_len 0 (size_of (paired_dims r)))
outer_value r a b p k =
    let h : _ = outer_ready r a b p in
    value Outer r a b (get_or a.dims 0 1 ∷ get_or b.dims 0 1 ∷ r.broadcast) (size_of r.broadcast * (get_or b.dims 0 1 * get_or a.dims 0 1)) _ k.dims_are (omega arith)
    (λ q inside. outer_is p.positions r.generic a b r.broadcast (slice_index_or r.sizes 0 1)
    (record { stretched = p.left_to; count = one_count a p.left ∙ ap (λ (m : ℕ). size_of (drop 1 a.dims) * m) (omega arith) })
    (record { stretched = p.right_to; count = one_count b p.right ∙ ap (λ (m : ℕ). size_of (drop 1 b.dims) * m) (omega arith) }) q inside)

pub matmult_ready : (r : Resolved) (a b : Made) → Pair a b (drop 2 a.dims) (drop 2 b.dims) r.broadcast
    → Known Matmult a.dims b.dims (drop 2 a.dims) (drop 2 b.dims) (get_or b.dims 0 1 ∷ get_or a.dims 1 1 ∷ r.broadcast) (sizes_of Matmult (slice_index_or r.sizes 0 1) a.dims b.dims) r
    → Ready (sizes_of Matmult (slice_index_or r.sizes 0 1) a.dims b.dims) a.elems b.elems (drop 2 a.dims) (drop 2 b.dims) r.broadcast
matmult_ready r a b p k = record {
  left_count = two_count a p.left;
  right_count = two_count b p.right;
  left_small = omega (arith, two_within p.sizes a.dims, p.left.dims.within);
  right_small = omega (arith, two_within p.sizes b.dims, p.right.dims.within);
  left_deep = k.left_deep;
  right_deep = k.right_deep;
  left_few = few p.sizes a p.left;
  right_few = few p.sizes b p.right;
  left_stretched = p.left_to;
  right_stretched = p.right_to;
}

pub matmult_value : (r : Resolved) (a b : Made) → Pair a b (drop 2 a.dims) (drop 2 b.dims) r.broadcast
    → Known Matmult a.dims b.dims (drop 2 a.dims) (drop 2 b.dims) (get_or b.dims 0 1 ∷ get_or a.dims 1 1 ∷ r.broadcast) (sizes_of Matmult (slice_index_or r.sizes 0 1) a.dims b.dims) r
    → map (products_at r.generic (sizes_of Matmult (slice_index_or r.sizes 0 1) a.dims b.dims) a.elems b.elems (drop 2 a.dims) (drop 2 b.dims) r.broadcast) (range_with_len 0 (size_of r.broadcast * (get_or a.dims 1 1 * get_or b.dims 0 1)))
    ≡ map (paired_element Matmult r a b) (range_with_len 0 (size_of (paired_dims r)))
matmult_value r a b p k =
    value Matmult r a b (get_or b.dims 0 1 ∷ get_or a.dims 1 1 ∷ r.broadcast) (size_of r.broadcast * (get_or a.dims 1 1 * get_or b.dims 0 1)) _ k.dims_are (omega arith)
    (λ q inside. matmult_is p.positions r.generic a b r.broadcast (slice_index_or r.sizes 0 1) (record { stretched = p.left_to; count = two_count a p.left }) (record { stretched = p.right_to; count = two_count b p.right })
    k.left_deep k.right_deep q inside)

-- ---- the same under other names

pub ready_as : (s v : Sizes) (les res : List ℤ) (ls ms rs ns bs js : List ℕ) → v ≡ s → ms ≡ ls → ns ≡ rs → js ≡ bs → Ready s les res ls rs bs → Ready v les res ms ns js
ready_as s v les res ls ms rs ns bs js e f g h x =
    subst (λ (t : Sizes). Ready t les res ms ns js) (sym e)
    (subst (λ (t : List ℕ). Ready s les res t ns js) (sym f) (subst (λ (t : List ℕ). Ready s les res ls t js) (sym g) (subst (λ (t : List ℕ). Ready s les res ls rs t) (sym h) x)))

pub products_as : (ty : Ty) (s v : Sizes) (les res : List ℤ) (ls ms rs ns bs js : List ℕ) → v ≡ s → ms ≡ ls → ns ≡ rs → js ≡ bs
    → map (products_at ty v les res ms ns js) (range_with_len 0 (size_of js * (v.height * v.width))) ≡ map (products_at ty s les res ls rs bs) (range_with_len 0 (size_of bs * (s.height * s.width)))
products_as ty s v les res ls ms rs ns bs js e f g h =
    let F : Sizes → List ℕ → List ℕ → List ℕ → List ℤ = λ t us vs ws. map (products_at ty t les res us vs ws) (range_with_len 0 (size_of ws * (t.height * t.width))) in
    ap₂ (λ (t : Sizes) (ws : List ℕ). F t ms ns ws) e h ∙ ap₂ (λ (us vs : List ℕ). F s us vs bs) f g

-- numbers of a type
abbrev pub kept : Ty → List ℤ → TypedElements
kept t es = record { ty = t; elems = es }

pub if_ok_as : {A E : Type 0} (r : Result A E) (u v : A) → IfOk r (λ m. m ≡ u) → u ≡ v → IfOk r (λ m. m ≡ v)
if_ok_as (Ok m) u v h e = h ∙ e
if_ok_as (Err x) u v h e = tt

pub stretched_as : (xs us bs js : List ℕ) → us ≡ xs → js ≡ bs → BroadcastsTo us js → BroadcastsTo xs bs
stretched_as xs us bs js e f h = subst (λ (t : List ℕ). BroadcastsTo t bs) e (subst (λ (t : List ℕ). BroadcastsTo us t) f h)

-- ---- by kind

-- the dimensions of a pairing's result, by those of its arrays and of the broadcast
abbrev pub made_dims : Pairing → (a b bs : List ℕ) → List ℕ
made_dims Inner a b bs = bs
made_dims Outer a b bs = get_or a 0 1 ∷ get_or b 0 1 ∷ bs
made_dims Matmult a b bs = get_or b 0 1 ∷ get_or a 1 1 ∷ bs

-- two arrays whose pairing resolves, and the dimensions and sizes that its call works on
pub record Prepared (kind : Pairing) (r : Resolved) (a b : Made) (xs ys bs : List ℕ) (s : Sizes) : Type 0 where
  pub left_sizes : xs ≡ drop (core_count kind) a.dims
  pub right_sizes : ys ≡ drop (core_count kind) b.dims
  pub joined : bs ≡ r.broadcast
  pub sizes : s ≡ sizes_of kind (slice_index_or r.sizes 0 1) a.dims b.dims
  pub both : Pair a b (drop (core_count kind) a.dims) (drop (core_count kind) b.dims) r.broadcast
  pub known : Known kind a.dims b.dims (drop (core_count kind) a.dims) (drop (core_count kind) b.dims) (made_dims kind a.dims b.dims r.broadcast) (sizes_of kind (slice_index_or r.sizes 0 1) a.dims b.dims) r

pub ready_for : (kind : Pairing) (r : Resolved) (a b : Made) (xs ys bs : List ℕ) (s : Sizes) → Prepared kind r a b xs ys bs s → ReadyFor kind s a.elems b.elems xs ys bs
ready_for Inner r a b xs ys bs s p =
    ready_as _ s a.elems b.elems _ xs _ ys _ bs p.sizes p.left_sizes p.right_sizes p.joined (inner_ready r a b p.both p.known)
ready_for Outer r a b xs ys bs s p =
    ready_as _ s b.elems a.elems _ ys _ xs _ bs p.sizes p.right_sizes p.left_sizes p.joined (outer_ready r a b p.both)
ready_for Matmult r a b xs ys bs s p =
    ready_as _ s a.elems b.elems _ xs _ ys _ bs p.sizes p.left_sizes p.right_sizes p.joined (matmult_ready r a b p.both p.known)

pub elements_for : (kind : Pairing) (r : Resolved) (a b : Made) (xs ys bs : List ℕ) (s : Sizes) → Prepared kind r a b xs ys bs s
    → block_products kind r.generic s a.elems b.elems xs ys bs ≡ map (paired_element kind r a b) (range_with_len 0 (size_of (paired_dims r)))
elements_for Inner r a b xs ys bs s p =
    products_as r.generic _ s a.elems b.elems _ xs _ ys _ bs p.sizes p.left_sizes p.right_sizes p.joined ∙ inner_value r a b p.both p.known
elements_for Outer r a b xs ys bs s p =
    products_as r.generic _ s b.elems a.elems _ ys _ xs _ bs p.sizes p.right_sizes p.left_sizes p.joined ∙ outer_value r a b p.both p.known
elements_for Matmult r a b xs ys bs s p =
    products_as r.generic _ s a.elems b.elems _ xs _ ys _ bs p.sizes p.left_sizes p.right_sizes p.joined ∙ matmult_value r a b p.both p.known

pub known_as : (kind : Pairing) (a b : Made) (r : Resolved) → resolution (signature_of kind) (given_as a ∷ given_as b ∷ []) ≡ Ok r
    → Known kind a.dims b.dims (drop (core_count kind) a.dims) (drop (core_count kind) b.dims) (made_dims kind a.dims b.dims r.broadcast) (sizes_of kind (slice_index_or r.sizes 0 1) a.dims b.dims) r
known_as Inner a b r h = known_inner a.ty b.ty a.dims b.dims r h
known_as Outer a b r h = known_outer a.ty b.ty a.dims b.dims r h
known_as Matmult a b r h = known_matmult a.ty b.ty a.dims b.dims r h

-- the further dimensions join, whatever they are called
pub joins_for : (kind : Pairing) (r : Resolved) (a b : Made) (xs ys : List ℕ) → resolution (signature_of kind) (given_as a ∷ given_as b ∷ []) ≡ Ok r
    → xs ≡ drop (core_count kind) a.dims → ys ≡ drop (core_count kind) b.dims → joined_dims xs ys ≡ Ok r.broadcast
joins_for kind r a b xs ys h e f = ap₂ joined_dims e f ∙ joins kind a.dims b.dims _ _ _ _ r (known_as kind a b r h)

pub prepared : (kind : Pairing) (r : Resolved) (a b : Made) (xs ys bs : List ℕ) (s : Sizes) → SizeLaws → Positions → Sound a → Sound b
    → resolution (signature_of kind) (given_as a ∷ given_as b ∷ []) ≡ Ok r → xs ≡ drop (core_count kind) a.dims → ys ≡ drop (core_count kind) b.dims
    → joined_dims xs ys ≡ Ok bs → BroadcastsTo xs bs → BroadcastsTo ys bs → s ≡ sizes_of kind (slice_index_or r.sizes 0 1) a.dims b.dims → Prepared kind r a b xs ys bs s
prepared kind r a b xs ys bs s sizes positions left right h e f j x y z =
    let joined : bs ≡ r.broadcast = joins_to xs ys r.broadcast bs (joins_for kind r a b xs ys h e f) j in
    record {
      left_sizes = e;
      right_sizes = f;
      joined = joined;
      sizes = z;
      both = record {
        sizes = sizes;
        positions = positions;
        left = left;
        right = right;
        left_to = stretched_as (drop (core_count kind) a.dims) xs r.broadcast bs e joined x;
        right_to = stretched_as (drop (core_count kind) b.dims) ys r.broadcast bs f joined y;
      };
      known = known_as kind a b r h;
    }

-- the same by what the calls answer: counts of core dimensions, the arrays' dimensions, and the depth
pub prepared_by : (kind : Pairing) (r : Resolved) (a b : Made) (n m depth : ℕ) (us vs first second xs ys bs : List ℕ) (s : Sizes) → SizeLaws → Positions
    → n ≡ core_count kind → m ≡ core_count kind → us ≡ a.dims → vs ≡ b.dims → first ≡ us → second ≡ vs → IsDims us → IsDims vs
    → length a.elems ≡ size_of a.dims → length b.elems ≡ size_of b.dims → resolution (signature_of kind) (given_as a ∷ given_as b ∷ []) ≡ Ok r
    → xs ≡ drop n us → ys ≡ drop m vs → joined_dims xs ys ≡ Ok bs → BroadcastsTo xs bs → BroadcastsTo ys bs
    → depth ≡ slice_index_or r.sizes 0 1 → s ≡ sizes_of kind depth first second → Prepared kind r a b xs ys bs s
prepared_by kind r a b n m depth us vs first second xs ys bs s sizes positions en em eu ev ef es du dv ca cb h ex ey j x y ed ez =
    prepared kind r a b xs ys bs s sizes positions (record { dims = subst IsDims eu du; count = ca }) (record { dims = subst IsDims ev dv; count = cb })
    h (ex ∙ ap₂ (λ (k : ℕ) (ds : List ℕ). drop k ds) en eu) (ey ∙ ap₂ (λ (k : ℕ) (ds : List ℕ). drop k ds) em ev) j x y
    (ez ∙ ap (λ (k : ℕ). sizes_of kind k first second) ed ∙ ap₂ (λ (ds es : List ℕ). sizes_of kind (slice_index_or r.sizes 0 1) ds es) (ef ∙ eu) (es ∙ ev))
