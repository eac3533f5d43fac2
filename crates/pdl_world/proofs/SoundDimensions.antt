-- The dimensions of what is seen in a sound world are within the limits, and there are as many places as they say.
use Rattle.std.proofs.Common.{◌≡◌, ℕ, ℤ, suc, ◌<◌, ◌≤◌, ◌+◌, ◌-◌, true, false, ◌&&◌, IsTrue, nat_lt, nat_le, inl, inr, List, [], ◌∷◌, length, Option, Some, None, Result, Ok, Err, refl, sym, ◌∙◌, ap, subst, arith}
use Rattle.std.specs.Prelude.{nat_eq}
use Rattle.std.specs.Option.{option_map_or}
use Rattle.std.specs.Cmp.Lexicographic.{same_text, pointwise}
use Rattle.std.proofs.lemmas.Bool.{cases_Bool, and_parts}
use Rattle.std.proofs.lemmas.Bool.Decides.{nat_tests}
use Rattle.std.proofs.lemmas.List.{length-map}
use Rattle.std.proofs.lemmas.List.FromFn.{length-map-range_with_len}
use Rattle.pdl_shape.specs.Broadcast.{join}
use Rattle.pdl_shape.specs.Laws.{SizeLaws}
use Rattle.pdl_shape.specs.Limits.{checked_dims}
use Rattle.pdl_shape.specs.Places.{place_in, places_of}
use Rattle.pdl_shape.specs.Refusals.{Refusal, mismatch, too_many_dims, too_large}
use Rattle.pdl_shape.specs.Shape.{IsDims, dims_limit, extent_limit, extent, size_of}
use Rattle.pdl_affine.specs.Views.{Form, form_dims, resolved, sizes}
use Rattle.pdl_choice.specs.Choice.{unless_outside}
use Rattle.pdl_choice.specs.Index.{first_outside, index_dims}
use Rattle.pdl_choice.specs.Range.{window_refusal, window_sizes, corner_len, first_refused, windowed_dims}
use Rattle.pdl_choice.specs.Where.{rises, where_dims}
use Rattle.pdl_world.specs.declared.Trans.{Trans}
use Rattle.pdl_world.specs.declared.Trans.TheVariants.{Affine as AffineView, Index, Where, Range}
use Rattle.pdl_world.specs.Formula.{child_dims, source, is_well_formed}
use Rattle.pdl_world.specs.Sound.{IsSound}
use Rattle.pdl_world.specs.World.{World, root, view, Look, look, through_places, through, seen_through}
use Rattle.pdl_world.proofs.WorldLooks.{look_root, look_view}

checked : (es ds : List ℕ) → checked_dims es ≡ Ok ds → IsDims ds
checked es ds h = elim (cases_Bool (nat_lt dims_limit (length es))) [
  | inl y ↦ (let e : Err too_many_dims ≡ Ok ds = rw y at h in cc)
  | inr n ↦ elim (cases_Bool (nat_lt extent_limit (extent es))) [
    | inl y ↦ (let e : Err too_large ≡ Ok ds = rw (n, y) at h in cc)
    | inr m ↦ (let e : Ok es ≡ Ok ds = rw (n, m) at h in
        let same : es ≡ ds = cc in
        subst IsDims same (record { count = few (length es) n; within = small (extent es) m }))
  ]
] where
  few : (k : ℕ) → nat_lt dims_limit k ≡ false → k ≤ dims_limit
  few k h = grind (arith, nat_tests)

  small : (k : ℕ) → nat_lt extent_limit k ≡ false → k ≤ extent_limit
  small k h = grind (arith, nat_tests)

affine_dims : (r : Result Form Refusal) (parent ds : List ℕ) → form_dims r parent ≡ Ok ds → IsDims ds
affine_dims (Err e) parent ds h = cc
affine_dims (Ok form) parent ds h = checked (sizes form parent) ds h

inside : (o : Option ℕ) (es ds : List ℕ) → unless_outside o (checked_dims es) ≡ Ok ds → IsDims ds
inside (Some at) es ds h = cc
inside None es ds h = checked es ds h

met : (o : Option (List ℕ)) (at : Option ℕ) (ds : List ℕ) → option_map_or (λ met. unless_outside at (checked_dims met)) o (Err mismatch) ≡ Ok ds → IsDims ds
met None at ds h = cc
met (Some es) at ds h = inside at es ds h

index_is : (parent ind_dims : List ℕ) (ind : List ℤ) (ds : List ℕ) → index_dims parent ind_dims ind ≡ Ok ds → IsDims ds
index_is [] ind_dims ind ds h = cc
index_is (n ∷ rest) ind_dims ind ds h = met (join ind_dims rest) (first_outside n ind) ds h

ranged : (o : Option Refusal) (at : Option ℕ) (es ds : List ℕ) → option_map_or (λ refusal. Err refusal) o (unless_outside at (checked_dims es)) ≡ Ok ds → IsDims ds
ranged (Some e) at es ds h = cc
ranged None at es ds h = inside at es ds h

-- places that rise below n are at most n
rising : (a n : ℕ) (ps : List ℕ) → rises a n ps ≡ true → length ps ≤ n - a
rising a n [] h = omega arith
rising a n (p ∷ ps) h =
    let one = and_parts (nat_le a p && nat_lt p n) (rises (p + 1) n ps) h in
    let two = and_parts (nat_le a p) (nat_lt p n) one.0 in
    next (length ps) (low two.0) (high two.1) (rising (p + 1) n ps one.1) where
      low : nat_le a p ≡ true → a ≤ p
      low e = grind (arith, nat_tests)

      high : nat_lt p n ≡ true → p < n
      high e = grind (arith, nat_tests)

      next : (m : ℕ) → a ≤ p → p < n → m ≤ n - (p + 1) → suc m ≤ n - a
      next m x y z = omega arith

where_is : SizeLaws → (parent mask places ds : List ℕ) → IsDims parent → rises 0 (size_of mask) places ≡ true → where_dims parent mask places ≡ Ok ds → IsDims ds
where_is laws parent mask places ds d r h = elim (cases_Bool (pointwise nat_eq parent mask)) [
  | inl y ↦ (let e : Ok (length places ∷ []) ≡ Ok ds = rw y at h in
      let same : length places ∷ [] ≡ ds = cc in
      let masks : parent ≡ mask = same_text parent mask (sym y) in
      subst IsDims same (record {
        count = omega arith;
        within = top (length places) (size_of mask) (extent parent) (rising 0 (size_of mask) places r)
            (let P : List ℕ → Type 0 = λ xs. size_of xs ≤ extent parent in subst P masks (laws.size_within parent)) d.within;
      }))
  | inr n ↦ (let e : Err mismatch ≡ Ok ds = rw n at h in cc)
] where
  top : (k n m : ℕ) → k ≤ n - 0 → n ≤ m → m ≤ extent_limit → extent (k ∷ []) ≤ extent_limit
  top k n m a b c = grind (arith, nat_tests)

-- the formula of a well-formed transformation keeps to the limits
pub dims_within : SizeLaws → (t : Trans) (parent ds : List ℕ) → IsTrue (is_well_formed t) → IsDims parent → child_dims t parent ≡ Ok ds → IsDims ds
dims_within laws (AffineView t) parent ds f d h = affine_dims (resolved t parent) parent ds h
dims_within laws (Index is ind) parent ds f d h = index_is parent is ind ds h
dims_within laws (Where mask places) parent ds f d h = where_is laws parent mask places ds d f h
dims_within laws (Range is ind ss edge) parent ds f d h =
    ranged (window_refusal (length parent) (corner_len is) ss) (first_refused edge parent (window_sizes (corner_len is) ss) ind) (windowed_dims parent is (window_sizes (corner_len is) ss)) ds h

-- how a look through a transformation comes about
pub record IsThrough (t : Trans) (m l : Look) : Type 0 where
  pub dims_are : child_dims t m.dims ≡ Ok l.dims
  pub places_are : l.places ≡ through_places (places_of l.dims m.dims (source t m.dims)) m.places

pub seen_so : (t : Trans) (m l : Look) (r : Result (List ℕ) Refusal) → child_dims t m.dims ≡ r → seen_through t m r ≡ Some l → IsThrough t m l
seen_so t m l (Err e) c h = cc
seen_so t m l (Ok ds) c h =
    let P : Look → Type 0 = λ x. IsThrough t m x in
    let seen : Look = record { root = m.root; ty = m.ty; dims = ds; places = through_places (places_of ds m.dims (source t m.dims)) m.places } in
    let here : P (record { root = m.root; ty = m.ty; dims = ds; places = through_places (places_of ds m.dims (source t m.dims)) m.places }) = record { dims_are = c; places_are = refl } in
    subst P (let k : record { root = m.root; ty = m.ty; dims = ds; places = through_places (places_of ds m.dims (source t m.dims)) m.places } ≡ l = cc in k) here

pub through_is : (t : Trans) (m l : Look) → through t m ≡ Some l → IsThrough t m l
through_is t m l h = seen_so t m l (child_dims t m.dims) refl h

-- a place for each position
pub look_count : (w : World) (v : ℕ) (l : Look) → look w v ≡ Some l → length l.places ≡ size_of l.dims
look_count [] v l h = cc
look_count ((k, root ty ds es) ∷ w) v l h = elim (look_root k ty ds es w v l h) [
  | inl e ↦ (let P : Look → Type 0 = λ m. length m.places ≡ size_of m.dims in subst P e.1 (length-map-range_with_len Some 0 (size_of ds)))
  | inr e ↦ look_count w v l e.1
]
look_count ((k, view p t) ∷ w) v l h = elim (look_view k p t w v l h) [
  | inl e ↦ (let m : Look = e.1.above in
      let y : IsThrough t e.1.above l = through_is t e.1.above l e.1.shows in
      ap length y.places_are
      ∙ length-map (places_of l.dims e.1.above.dims (source t e.1.above.dims)) _
      ∙ length-map-range_with_len (place_in l.dims e.1.above.dims (source t e.1.above.dims)) 0 (size_of l.dims))
  | inr e ↦ look_count w v l e.1
]

-- dimensions within the limits
pub look_dims : SizeLaws → (w : World) (v : ℕ) (l : Look) → IsSound w → look w v ≡ Some l → IsDims l.dims
look_dims laws [] v l s h = cc
look_dims laws ((k, root ty ds es) ∷ w) v l s h = elim (look_root k ty ds es w v l h) [
  | inl e ↦ (let P : Look → Type 0 = λ m. IsDims m.dims in subst P e.1 s.1.0)
  | inr e ↦ look_dims laws w v l s.2 e.1
]
look_dims laws ((k, view p t) ∷ w) v l s h = elim (look_view k p t w v l h) [
  | inl e ↦ dims_within laws t e.1.above.dims l.dims s.1.well_formed (look_dims laws w p e.1.above s.2 e.1.parent) (through_is t e.1.above l e.1.shows).dims_are
  | inr e ↦ look_dims laws w v l s.2 e.1
]
