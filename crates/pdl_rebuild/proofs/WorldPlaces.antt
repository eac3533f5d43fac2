-- Which places a piece of a root has, and what a write leaves there.
use Rattle.std.proofs.Common.{◌≡◌, ℕ, zero, suc, ◌+◌, ◌-◌, ◌*◌, ◌%◌, ◌<◌, ◌≤◌, List, [], ◌∷◌, ◌++◌, length, refl, sym, ◌∙◌, ap, ap₂, subst, arith, map, get_or, ℤ, pos, negsuc, max, length-append, append_assoc}
use Rattle.std.proofs.lemmas.Bool.{le-leb, le-ltb, lt-ltb}
use Rattle.std.proofs.lemmas.List.{append-nil}
use Rattle.std.proofs.lemmas.List.FromFn.{get_or-map-range_with_len}
use Rattle.std.proofs.Math.Seq.{take-length, drop-length}
use Rattle.std.specs.Prelude.{Option, Some, None, Ok, option_map, option_and_then, slice_set}
use Rattle.std.specs.List.{range_with_len}
use Rattle.pdl_elem.specs.declared.Ty.{Ty}
use Rattle.pdl_shape.specs.Laws.{PositionLaws, SizeLaws}
use Rattle.pdl_shape.specs.Limits.{checked_dims}
use Rattle.pdl_shape.specs.Places.{places_of, place_in, write}
use Rattle.pdl_shape.specs.Shape.{IsDims, size_of, position_of, coordinates_of}
use Rattle.pdl_affine.specs.declared.Affine.TheVariants as affine
use Rattle.pdl_slices.specs.declared.SliceArg.TheVariants.{One, Span}
use Rattle.pdl_world.specs.declared.Trans.{Trans}
use Rattle.pdl_world.specs.declared.Trans.TheVariants.{Affine}
use Rattle.pdl_world.specs.Formula.{child_dims, source}
use Rattle.pdl_world.specs.World.{Look, look_of_root, through, seen_through, through_places, entry}

abbrev pub flat : Trans
flat = Affine (affine.Clump (negsuc 0))

abbrev pub from_to : ℕ → ℕ → Trans
from_to a b = Affine (affine.Slice (Span (Some (pos a)) (Some (pos b)) None ∷ []))

abbrev pub at_one : ℕ → Trans
at_one p = Affine (affine.Slice (One (pos p) ∷ []))

-- so many places from a on, in one dimension
abbrev pub range_look : ℕ → Ty → ℕ → ℕ → Look
range_look k ty a n = record { root = k; ty = ty; dims = n ∷ []; places = map Some (range_with_len a n) }

-- two functions that agree on a range
agree : {X : Type 0} (f g : ℕ → X) (a b n : ℕ) → ((i : ℕ) → i < n → f (a + i) ≡ g (b + i)) → map f (range_with_len a n) ≡ map g (range_with_len b n)
agree f g a b zero same = refl
agree f g a b (suc n) same =
    ap₂ (λ x xs. x ∷ xs) (subst (λ j. f j ≡ g b) (plus_zero a) (subst (λ j. f (a + 0) ≡ g j) (plus_zero b) (same 0 (omega arith))))
    (agree f g (a + 1) (b + 1) n (λ i below. subst (λ j. f j ≡ g (b + 1 + i)) (one_more a i) (subst (λ j. f (a + (i + 1)) ≡ g j) (one_more b i) (same (i + 1) (omega arith)))))
  where
    plus_zero : (a : ℕ) → a + 0 ≡ a
    plus_zero a = omega arith

    one_more : (a i : ℕ) → a + (i + 1) ≡ a + 1 + i
    one_more a i = omega arith

map_twice : {X Y : Type 0} (f : ℕ → X) (g : X → Y) (xs : List ℕ) → map g (map f xs) ≡ map (λ x. g (f x)) xs
map_twice f g [] = refl
map_twice f g (x ∷ xs) = ap (λ ys. g (f x) ∷ ys) (map_twice f g xs)

times_one : (n : ℕ) → n * 1 ≡ n
times_one n = omega arith

-- one dimension that isn't too long
one_checked : (n : ℕ) → n ≤ 1048576 → checked_dims (n ∷ []) ≡ Ok (n ∷ [])
one_checked n small = rw (le-ltb 1048576 (max n 1 * 1) (omega (arith, small)))

-- the places of a view with one dimension, seen through a root's
seen_places : (n m a : ℕ) (ds : List ℕ) (s : List ℕ → Option (List ℕ)) → ((i : ℕ) → i < m → (a + i < n) × (place_in (m ∷ []) ds s i ≡ Some (a + i)))
    → through_places (places_of (m ∷ []) ds s) (map Some (range_with_len 0 n)) ≡ map Some (range_with_len a m)
seen_places n m a ds s at =
    map_twice (place_in (m ∷ []) ds s) (option_and_then (entry (map Some (range_with_len 0 n)))) (range_with_len 0 (m * 1))
    ∙ ap (λ k. map (λ p. option_and_then (entry (map Some (range_with_len 0 n))) (place_in (m ∷ []) ds s p)) (range_with_len 0 k)) (times_one m)
    ∙ agree (λ p. option_and_then (entry (map Some (range_with_len 0 n))) (place_in (m ∷ []) ds s p)) Some 0 a m (λ i below.
    subst (λ j. option_and_then (entry (map Some (range_with_len 0 n))) (place_in (m ∷ []) ds s j) ≡ Some (a + i)) (zero_plus i)
    (ap (option_and_then (entry (map Some (range_with_len 0 n)))) (at i below).1
    ∙ get_or-map-range_with_len Some 0 n (a + i) (a + i) None (at i below).0 (zero_sum (a + i))))
  where
    zero_plus : (i : ℕ) → i ≡ 0 + i
    zero_plus i = omega arith

    zero_sum : (i : ℕ) → 0 + i ≡ i
    zero_sum i = omega arith

-- what is seen, by the dimensions and the places
seen_as : (t : Trans) (l : Look) (ds : List ℕ) (ps : List (Option ℕ)) → child_dims t l.dims ≡ Ok ds → through_places (places_of ds l.dims (source t l.dims)) l.places ≡ ps
    → through t l ≡ Some (record { root = l.root; ty = l.ty; dims = ds; places = ps })
seen_as t l ds ps dims places = ap (seen_through t l) dims ∙ ap (λ qs. Some (record { root = l.root; ty = l.ty; dims = ds; places = qs })) places

-- a position in one dimension is its coordinate
one_coordinate : PositionLaws → (n p : ℕ) → p < n → p % n ≡ p
one_coordinate laws n p below = omega (arith, laws.position_again (n ∷ []) p (omega (arith, below)))

pub flat_dims : SizeLaws → (ds : List ℕ) → IsDims ds → child_dims flat ds ≡ Ok (size_of ds ∷ [])
flat_dims sizes ds are =
    ap₂ (λ front back. checked_dims (size_of front ∷ back)) (take-length ds) (drop-length ds) ∙ one_checked (size_of ds) (omega (arith, sizes.size_within ds, are.within))

-- `flat` of a root has its places in order
pub flats : PositionLaws → SizeLaws → (k : ℕ) (ty : Ty) (ds : List ℕ) → IsDims ds → through flat (look_of_root k ty ds) ≡ Some (range_look k ty 0 (size_of ds))
flats laws sizes k ty ds are =
    let n : ℕ = size_of ds in
    seen_as flat (look_of_root k ty ds) (n ∷ []) (map Some (range_with_len 0 n)) (flat_dims sizes ds are)
    (seen_places n n 0 ds (source flat ds) (λ i below. (omega (arith, below), place i below)))
  where
    place : (i : ℕ) → i < size_of ds → place_in (size_of ds ∷ []) ds (source flat ds) i ≡ Some (0 + i)
    place i below =
        ap₂ (λ front p. Some (position_of ds (coordinates_of front p ++ []))) (take-length ds) (one_coordinate laws (size_of ds) i below)
        ∙ ap (λ cs. Some (position_of ds cs)) (append-nil (coordinates_of ds i))
        ∙ ap Some (laws.position_again ds i below ∙ zero_plus i)
      where
        zero_plus : (i : ℕ) → i ≡ 0 + i
        zero_plus i = omega arith

module _ (n a b : ℕ) (rises : a ≤ b) (below : b < n) where
  span_resolved : child_dims (from_to a b) (n ∷ []) ≡ checked_dims (((a - b) + (b - a) + 1) ∷ [])
  span_resolved = rw (lt-ltb a n (omega (arith, rises, below)), lt-ltb b n below) refl

  span_source : (cs : List ℕ) → source (from_to a b) (n ∷ []) cs ≡ Some ((a + 1 * get_or cs 0 0) ∷ [])
  span_source cs = rw (lt-ltb a n (omega (arith, rises, below)), lt-ltb b n below, le-leb a b rises) refl

pub span_dims : (n a b : ℕ) → n ≤ 1048576 → a ≤ b → b < n → child_dims (from_to a b) (n ∷ []) ≡ Ok ((b - a + 1) ∷ [])
span_dims n a b small rises below =
    span_resolved n a b rises below ∙ ap (λ d. checked_dims (d ∷ [])) (size a b rises) ∙ one_checked (b - a + 1) (omega (arith, small, rises, below))
  where
    size : (a b : ℕ) → a ≤ b → (a - b) + (b - a) + 1 ≡ b - a + 1
    size a b rises = omega (arith, rises)

-- where a view in one dimension has the coordinates from a on
module _ (laws : PositionLaws) (k : ℕ) (ty : Ty) (n a m : ℕ) (t : Trans) (inside : (i : ℕ) → i < m → a + i < n)
    (dims : child_dims t (n ∷ []) ≡ Ok (m ∷ [])) (at : (cs : List ℕ) → source t (n ∷ []) cs ≡ Some ((a + 1 * get_or cs 0 0) ∷ [])) where
  lines : through t (range_look k ty 0 n) ≡ Some (range_look k ty a m)
  lines =
      seen_as t (range_look k ty 0 n) (m ∷ []) (map Some (range_with_len a m)) dims
      (seen_places n m a (n ∷ []) (source t (n ∷ [])) (λ i within. (inside i within, place i within)))
    where
      place : (i : ℕ) → i < m → place_in (m ∷ []) (n ∷ []) (source t (n ∷ [])) i ≡ Some (a + i)
      place i within =
          ap (option_map (position_of (n ∷ []))) (at (coordinates_of (m ∷ []) i))
          ∙ ap Some (sum n a (i % m) i (one_coordinate laws m i within))
        where
          sum : (n a c i : ℕ) → c ≡ i → a + 1 * c + n * 0 ≡ a + i
          sum n a c i is = omega (arith, is)

-- a span of it has the places from the first to the last
pub spans : PositionLaws → (k : ℕ) (ty : Ty) (n a b : ℕ) → n ≤ 1048576 → a ≤ b → b < n → through (from_to a b) (range_look k ty 0 n) ≡ Some (range_look k ty a (b - a + 1))
spans laws k ty n a b small rises below =
    lines laws k ty n a (b - a + 1) (from_to a b) (λ i within. inside n a b i rises below within) (span_dims n a b small rises below) (span_source n a b rises below)
  where
    inside : (n a b i : ℕ) → a ≤ b → b < n → i < b - a + 1 → a + i < n
    inside n a b i rises below within = omega arith

pub one_dims : (n p : ℕ) → p < n → child_dims (at_one p) (n ∷ []) ≡ Ok (1 ∷ [])
one_dims n p below = rw (lt-ltb p n below) refl

-- and one position its place
pub ones : PositionLaws → (k : ℕ) (ty : Ty) (n p : ℕ) → p < n → through (at_one p) (range_look k ty 0 n) ≡ Some (range_look k ty p 1)
ones laws k ty n p below =
    lines laws k ty n p 1 (at_one p) (λ i within. omega (arith, within, below)) (one_dims n p below) (λ cs. rw (lt-ltb p n below) refl)

-- what is written from a place on
set_here : (front : List ℤ) (x o : ℤ) (rest : List ℤ) → slice_set (front ++ o ∷ rest) (length front) x ≡ front ++ x ∷ rest
set_here [] x o rest = refl
set_here (f ∷ front) x o rest = ap (λ xs. f ∷ xs) (set_here front x o rest)

writes_on : (a : ℕ) (front vs old back : List ℤ) → a ≡ length front → length old ≡ length vs → write (map Some (range_with_len a (length vs))) vs (front ++ (old ++ back)) ≡ front ++ (vs ++ back)
writes_on a front [] [] back place many = refl
writes_on a front [] (o ∷ old) back place many = absurd (omega (arith, many))
writes_on a front (x ∷ vs) [] back place many = absurd (omega (arith, many))
writes_on a front (x ∷ vs) (o ∷ old) back place many =
    ap (write (map Some (range_with_len (a + 1) (length vs))) vs)
    (ap (λ k. slice_set (front ++ o ∷ (old ++ back)) k x) place ∙ set_here front x o (old ++ back) ∙ sym (append_assoc front (x ∷ []) (old ++ back)))
    ∙ writes_on (a + 1) (front ++ x ∷ []) vs old back (omega (arith, place, length-append front (x ∷ []))) (omega (arith, many))
    ∙ append_assoc front (x ∷ []) (vs ++ back)

pub writes : (front vs old back : List ℤ) → length old ≡ length vs → write (map Some (range_with_len (length front) (length vs))) vs (front ++ (old ++ back)) ≡ front ++ (vs ++ back)
writes front vs old back many = writes_on (length front) front vs old back refl many
