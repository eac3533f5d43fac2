-- The places of a clump whose increments join.
use Rattle.std.proofs.Common.{◌≡◌, ℕ, zero, suc, ◌+◌, ◌-◌, ◌*◌, ◌/◌, ◌%◌, ◌<◌, ◌≤◌, max, inl, inr, Bool, true, false, not, ◌&&◌, ◌||◌, List, [], ◌∷◌, ◌++◌, length, take, drop, nat_le, Option, Some, None, IsSome, ℤ, pos, ◌+ℤ◌, ◌*ℤ◌, ◌≤ℤ◌, ◌==◌, if◌then◌else◌, refl, sym, ap, ◌∙◌, subst, arith, eq-eqb}
use Rattle.std.specs.List.{list_any}
use Rattle.std.specs.Ordering.{int_eq}
use Rattle.std.proofs.lemmas.Bool.{cases_eq, or_parts}
use Rattle.std.proofs.lemmas.Bool.Decides.{nat_tests}
use Rattle.std.proofs.lemmas.Int.{ints}
use Rattle.std.proofs.lemmas.List.{map-append, take-append-drop, length-take-le, length-drop}
use Rattle.std.proofs.Math.Nat.{zero-mod, zero-div}
use Rattle.std.proofs.Math.IntN.{+ℤ_idl, +ℤ_assoc}
use Rattle.pdl_shape.specs.Laws.{PositionLaws}
use Rattle.pdl_shape.specs.Shape.{IsWithin, size_of, coordinates_of}
use Rattle.pdl_shape.specs.Triple.{Triple, IsTriple, moved, spread, whole_incs, whole_triple}
use Rattle.pdl_affine.specs.Views.{Form, sliced, exchanged, shifted, arranged, inserted, diagonal, squeezed, clumped, sizes, form_source}
use Rattle.pdl_affine.specs.Windows.{is_chain, do_join, is_window, form_place, triple_showing, windowed}
use Rattle.pdl_affine.specs.Courses.{filled, first_inc, others}
use Rattle.pdl_affine.proofs.CourseMoves.{moved_apart, mul-sum, mul_swap}
use Rattle.pdl_affine.proofs.ViewPicks.{not_one}
use Rattle.pdl_affine.proofs.WindowPlaces.{Runs, filled_within}

-- coordinates of an array and then of another
within-append : (ds es cs bs : List ℕ) → IsWithin ds cs → IsWithin es bs → IsWithin (ds ++ es) (cs ++ bs)
within-append [] es [] bs v w = w
within-append [] es (c ∷ cs) bs v w = absurd v
within-append (d ∷ ds) es [] bs v w = absurd v
within-append (d ∷ ds) es (c ∷ cs) bs v w = (v.0, within-append ds es cs bs v.1 w)

moved-append : (xs ys : List ℤ) (cs bs : List ℕ) → length cs ≡ length xs → moved (xs ++ ys) (cs ++ bs) ≡ moved xs cs +ℤ moved ys bs
moved-append [] ys [] bs h = sym (+ℤ_idl (moved ys bs))
moved-append [] ys (c ∷ cs) bs h = absurd (omega arith)
moved-append (x ∷ xs) ys [] bs h = absurd (omega arith)
moved-append (x ∷ xs) ys (c ∷ cs) bs h = rw (moved-append xs ys cs bs (omega arith)) (sym (+ℤ_assoc (x *ℤ pos c) (moved xs cs) (moved ys bs)))

pub length-coordinates : (ds : List ℕ) (p : ℕ) → length (coordinates_of ds p) ≡ length ds
length-coordinates [] p = refl
length-coordinates (d ∷ ds) p = ap suc (length-coordinates ds (p / d))

-- the coordinates at the first place are all 0
first_filled : (ds : List ℕ) → IsWithin (filled ds) (coordinates_of ds 0)
first_filled [] = tt
first_filled (d ∷ ds) = (subst (λ n. n < max d 1) (sym (zero-mod d)) (omega arith), subst (λ n. IsWithin (filled ds) (coordinates_of ds n)) (sym (zero-div d)) (first_filled ds))

first_moved : (xs : List ℤ) (ds : List ℕ) → moved xs (coordinates_of ds 0) ≡ pos 0
first_moved [] ds = refl
first_moved (x ∷ xs) [] = refl
first_moved (x ∷ xs) (d ∷ ds) = rw (zero-mod d, zero-div d, first_moved xs ds) (omega (arith, ints))

-- an empty size leaves no element
empty_size : (ds : List ℕ) → list_any (λ d. d == 0) ds ≡ true → size_of ds ≡ 0
empty_size [] h = absurd (cc)
empty_size (d ∷ ds) h = elim (cases_eq d 0) [
  | inl e ↦ ap (λ n. n * size_of ds) e ∙ (let z : 0 * size_of ds ≡ 0 = omega arith in z)
  | inr o ↦ ap (λ n. d * n) (empty_size ds (later d (list_any (λ d. d == 0) ds) o h)) ∙ (let z : d * 0 ≡ 0 = omega arith in z)
] where
  later : (d : ℕ) (b : Bool) → (d ≡ 0 → ⊥) → ((d == 0) || b) ≡ true → b ≡ true
  later d b o h = grind (arith, nat_tests)

is_one : (d : ℕ) → d ≡ 1 → (d == 1) ≡ true
is_one d e = eq-eqb d 1 e

both : (x z : ℤ) (b : Bool) → (int_eq x z && b) ≡ true → (x ≡ z) × (b ≡ true)
both x z b h = grind (arith, nat_tests, ints)

skip_one : (xs : List ℤ) (ds : List ℕ) (x : ℤ) (p : ℕ) (z : ℤ) → moved xs (coordinates_of ds p) ≡ z → moved (x ∷ xs) (coordinates_of (1 ∷ ds) p) ≡ z
skip_one xs ds x p z h =
    let whole : p / 1 ≡ p = omega arith in
    let none : p % 1 ≡ 0 = omega arith in
    rw (whole, none, h) (ends x z) where
      ends : (x z : ℤ) → (x *ℤ pos 0) +ℤ z ≡ z
      ends x z = omega (arith, ints)

-- one dimension, and then those whose increment is the one before times its size
row : (x : ℤ) (p d : ℕ) (m : ℤ) → 0 < d → m ≡ (x *ℤ pos d) *ℤ pos (p / d) → (x *ℤ pos (p % d)) +ℤ m ≡ x *ℤ pos p
row x p d m h e =
    let split : pos (p % d) +ℤ (pos d *ℤ pos (p / d)) ≡ pos p = let q : d * (p / d) + p % d ≡ p = omega arith in omega (arith, ints, q) in
    ap (λ z. (x *ℤ pos (p % d)) +ℤ z) (e ∙ sym (mul_swap x (pos d) (pos (p / d)))) ∙ sym (mul-sum x (pos (p % d)) (pos d *ℤ pos (p / d))) ∙ ap (λ z. x *ℤ z) split

chain_after : PositionLaws → (xs : List ℤ) (ds : List ℕ) (y : ℤ) (e p : ℕ) → length xs ≡ length ds → p < size_of ds → is_chain ((y, e) ∷ others xs ds) ≡ true
    → moved xs (coordinates_of ds p) ≡ (y *ℤ pos e) *ℤ pos p
chain_after laws [] [] y e p n h c = let none : p ≡ 0 = omega (arith, h) in rw none (nothing (y *ℤ pos e)) where
  nothing : (z : ℤ) → pos 0 ≡ z *ℤ pos 0
  nothing z = omega (arith, ints)
chain_after laws [] (d ∷ ds) y e p n h c = absurd (omega arith)
chain_after laws (x ∷ xs) [] y e p n h c = absurd (omega arith)
chain_after laws (x ∷ xs) (d ∷ ds) y e p n h c = elim (cases_eq d 1) [
  | inl one ↦ subst (λ k. moved (x ∷ xs) (coordinates_of (k ∷ ds) p) ≡ (y *ℤ pos e) *ℤ pos p) (sym one)
      (skip_one xs ds x p _ (chain_after laws xs ds y e p (omega arith) (omega (arith, h, ap (λ k. k * size_of ds) one))
      (ap (λ b. is_chain ((y, e) ∷ (if not b then (x, d) ∷ others xs ds else others xs ds))) (sym (is_one d one)) ∙ c)))
  | inr o ↦
      let q = laws.quotient_below d ds p h in
      let parts = both x (y *ℤ pos e) (is_chain ((x, d) ∷ others xs ds)) (ap (λ b. is_chain ((y, e) ∷ (if not b then (x, d) ∷ others xs ds else others xs ds))) (sym (not_one d o)) ∙ c) in
      row x p d (moved xs (coordinates_of ds (p / d))) q.0 (chain_after laws xs ds x d (p / d) (omega arith) q.1 parts.1) ∙ ap (λ z. z *ℤ pos p) parts.0
]

chain_moved : PositionLaws → (xs : List ℤ) (ds : List ℕ) (p : ℕ) → length xs ≡ length ds → p < size_of ds → is_chain (others xs ds) ≡ true → moved xs (coordinates_of ds p) ≡ first_inc xs ds *ℤ pos p
chain_moved laws [] [] p n h c = let none : p ≡ 0 = omega (arith, h) in rw none refl
chain_moved laws [] (d ∷ ds) p n h c = absurd (omega arith)
chain_moved laws (x ∷ xs) [] p n h c = absurd (omega arith)
chain_moved laws (x ∷ xs) (d ∷ ds) p n h c = elim (cases_eq d 1) [
  | inl one ↦ subst (λ k. moved (x ∷ xs) (coordinates_of (k ∷ ds) p) ≡ first_inc xs ds *ℤ pos p) (sym one)
      (skip_one xs ds x p _ (chain_moved laws xs ds p (omega arith) (omega (arith, h, ap (λ k. k * size_of ds) one))
      (ap (λ b. is_chain (if not b then (x, d) ∷ others xs ds else others xs ds)) (sym (is_one d one)) ∙ c)))
      ∙ ap (λ b. (if b then first_inc xs ds else x) *ℤ pos p) (sym (is_one d one))
  | inr o ↦
      let q = laws.quotient_below d ds p h in
      row x p d (moved xs (coordinates_of ds (p / d))) q.0
      (chain_after laws xs ds x d (p / d) (omega arith) q.1 (ap (λ b. is_chain (if not b then (x, d) ∷ others xs ds else others xs ds)) (sym (not_one d o)) ∙ c))
      ∙ ap (λ b. (if b then first_inc xs ds else x) *ℤ pos p) (sym (not_one d o))
]

-- joined dimensions are one with the first increment
joined_moved : PositionLaws → (xs : List ℤ) (ds : List ℕ) (c : ℕ) → length xs ≡ length ds → c < max (size_of ds) 1 → do_join xs ds ≡ true → moved xs (coordinates_of ds c) ≡ first_inc xs ds *ℤ pos c
joined_moved laws xs ds c n h j = elim (cases_eq (size_of ds) 0) [
  | inl e ↦ let none : c ≡ 0 = omega (arith, h, e) in subst (λ k. moved xs (coordinates_of ds k) ≡ first_inc xs ds *ℤ pos k) (sym none) (first_moved xs ds ∙ nothing (first_inc xs ds))
  | inr o ↦ chain_moved laws xs ds c n (omega (arith, h, o)) (chain (list_any (λ d. d == 0) ds) (is_chain (others xs ds)) (λ z. o (empty_size ds z)) j)
] where
  nothing : (z : ℤ) → pos 0 ≡ z *ℤ pos 0
  nothing z = omega (arith, ints)

  chain : (a b : Bool) → (a ≡ true → ⊥) → (a || b) ≡ true → b ≡ true
  chain true b h j = absurd (h refl)
  chain false b h j = j

joined_filled : PositionLaws → (ds : List ℕ) (c : ℕ) → c < max (size_of ds) 1 → IsWithin (filled ds) (coordinates_of ds c)
joined_filled laws ds c h = elim (cases_eq (size_of ds) 0) [
  | inl e ↦ let none : c ≡ 0 = omega (arith, h, e) in subst (λ k. IsWithin (filled ds) (coordinates_of ds k)) (sym none) (first_filled ds)
  | inr o ↦ filled_within ds (coordinates_of ds c) (laws.coordinates_within ds c (omega (arith, h, o)))
]

-- the coordinates of a clump, in its parent
clump_filled : PositionLaws → (n : ℕ) (ds cs : List ℕ) → IsWithin (filled (sizes (clumped n) ds)) cs → IsWithin (filled ds) (form_source (clumped n) ds cs)
clump_filled laws n ds [] w = absurd w
clump_filled laws n ds (c ∷ cs) w =
    let parts : filled (take n ds) ++ filled (drop n ds) ≡ filled ds = sym (map-append (λ d. max d 1) (take n ds) (drop n ds)) ∙ ap filled (take-append-drop n ds) in
    subst (λ es. IsWithin es (coordinates_of (take n ds) c ++ cs)) parts (within-append (filled (take n ds)) (filled (drop n ds)) (coordinates_of (take n ds) c) cs (joined_filled laws (take n ds) c w.0) w.1)

pub clump_within : PositionLaws → (n : ℕ) (ds cs : List ℕ) → IsWithin (sizes (clumped n) ds) cs → IsWithin ds (form_source (clumped n) ds cs)
clump_within laws n ds [] w = absurd w
clump_within laws n ds (c ∷ cs) w =
    subst (λ es. IsWithin es (coordinates_of (take n ds) c ++ cs)) (take-append-drop n ds) (within-append (take n ds) (drop n ds) (coordinates_of (take n ds) c) cs (laws.coordinates_within (take n ds) c w.0) w.1)

clump_moved : PositionLaws → (n : ℕ) (xs : List ℤ) (ds cs : List ℕ) → length xs ≡ length ds → n ≤ length ds → do_join (take n xs) (take n ds) ≡ true → IsWithin (filled (sizes (clumped n) ds)) cs
    → moved xs (form_source (clumped n) ds cs) ≡ moved (first_inc (take n xs) (take n ds) ∷ drop n xs) cs
clump_moved laws n xs ds [] l h j w = absurd w
clump_moved laws n xs ds (c ∷ cs) l h j w =
    let left : length (take n xs) ≡ n = length-take-le n xs (omega (arith, l, h)) in
    let right : length (take n ds) ≡ n = length-take-le n ds h in
    ap (λ ys. moved ys (coordinates_of (take n ds) c ++ cs)) (sym (take-append-drop n xs))
    ∙ moved-append (take n xs) (drop n xs) (coordinates_of (take n ds) c) cs (length-coordinates (take n ds) c ∙ right ∙ sym left)
    ∙ ap (λ z. z +ℤ moved (drop n xs) cs) (joined_moved laws (take n xs) (take n ds) c (left ∙ sym right) w.0 j)

-- its places run with the first joined increment and those that are left
pub clump_run : PositionLaws → (n : ℕ) (over : Triple) → IsTriple over → n ≤ length over.dims → do_join (take n over.incs) (take n over.dims) ≡ true
    → Runs over (form_place (clumped n) over) (sizes (clumped n) over.dims) (pos over.offset) (first_inc (take n over.incs) (take n over.dims) ∷ drop n over.incs)
clump_run laws n over o h j = record {
  paired = ap suc (length-drop n over.incs ∙ ap (λ k. k - n) o.paired ∙ sym (length-drop n over.dims));
  line = λ cs w. ap (λ z. pos over.offset +ℤ z) (clump_moved laws n over.incs over.dims cs o.paired h j w);
  near = λ cs es v w. apart (pos over.offset) _ _ (spread over.incs over.dims) (moved_apart over.incs over.dims (form_source (clumped n) over.dims cs) (form_source (clumped n) over.dims es) (clump_filled laws n over.dims cs v) (clump_filled laws n over.dims es w));
  inside = λ cs w. (form_source (clumped n) over.dims cs, clump_within laws n over.dims cs w, refl);
  triple = o;
} where
  apart : (o p q : ℤ) (n : ℕ) → p ≤ℤ (q +ℤ pos n) → (o +ℤ p) ≤ℤ ((o +ℤ q) +ℤ pos n)
  apart o p q n l = omega (arith, ints)

-- the same over the view's own dimensions
pub clump_run_at : PositionLaws → (n : ℕ) (over : Triple) (ds : List ℕ) → IsTriple over → n ≤ length over.dims → true ≡ do_join (take n over.incs) (take n over.dims) → ds ≡ sizes (clumped n) over.dims
    → Runs over (form_place (clumped n) over) ds (pos over.offset) (first_inc (take n over.incs) (take n over.dims) ∷ drop n over.incs)
clump_run_at laws n over ds o h j e =
    let P : List ℕ → Type 0 = λ es. Runs over (form_place (clumped n) over) es (pos over.offset) (first_inc (take n over.incs) (take n over.dims) ∷ drop n over.incs) in
    subst P (sym e) (clump_run laws n over o h (sym j))

-- a clump that joins is a window
pub clump_window : (n : ℕ) (over t : Triple) (ds : List ℕ) → true ≡ do_join (take n over.incs) (take n over.dims) → ds ≡ sizes (clumped n) over.dims → t ≡ triple_showing (form_place (clumped n) over) ds → Some t ≡ windowed (clumped n) over
clump_window n over t ds j e h =
    ap Some (h ∙ ap (triple_showing (form_place (clumped n) over)) e) ∙ ap (λ b. if b then Some (triple_showing (form_place (clumped n) over) (sizes (clumped n) over.dims)) else None) j

large : (d n : ℕ) → (d ≡ 1 → ⊥) → (d == 0) ≡ false → (if nat_le d 1 then pos 0 else pos n) ≡ pos n
large d n o h = grind (arith, nat_tests)

-- the increments of an array in order are a chain
whole_after : (a e : ℕ) (ds : List ℕ) → list_any (λ d. d == 0) ds ≡ false → is_chain ((pos a, e) ∷ others (whole_incs (a * e) ds) ds) ≡ true
whole_after a e [] some = refl
whole_after a e (d ∷ ds) some = elim (cases_eq d 1) [
  | inl one ↦
      subst (λ b. is_chain ((pos a, e) ∷ (if not b then (if nat_le d 1 then pos 0 else pos (a * e), d) ∷ others (whole_incs (a * e * d) ds) ds else others (whole_incs (a * e * d) ds) ds)) ≡ true) (sym (is_one d one))
      (subst (λ n. is_chain ((pos a, e) ∷ others (whole_incs n ds) ds) ≡ true) (ones (a * e) d one) (whole_after a e ds (or_parts (d == 0) (list_any (λ d. d == 0) ds) some).1))
  | inr o ↦
      subst (λ b. is_chain ((pos a, e) ∷ (if not b then (if nat_le d 1 then pos 0 else pos (a * e), d) ∷ others (whole_incs (a * e * d) ds) ds else others (whole_incs (a * e * d) ds) ds)) ≡ true) (sym (not_one d o))
      (subst (λ z. (int_eq z (pos a *ℤ pos e) && is_chain ((z, d) ∷ others (whole_incs (a * e * d) ds) ds)) ≡ true) (sym (large d (a * e) o (or_parts (d == 0) (list_any (λ d. d == 0) ds) some).0))
      (next (a * e) (is_chain ((pos (a * e), d) ∷ others (whole_incs (a * e * d) ds) ds)) (whole_after (a * e) d ds (or_parts (d == 0) (list_any (λ d. d == 0) ds) some).1)))
] where
  ones : (n d : ℕ) → d ≡ 1 → n ≡ n * d
  ones n d h = rw h (omega arith)

  next : (n : ℕ) (b : Bool) → b ≡ true → (int_eq (pos n) (pos n) && b) ≡ true
  next n b h = grind (arith, nat_tests, ints)

whole_chain : (k : ℕ) (ds : List ℕ) → list_any (λ d. d == 0) ds ≡ false → is_chain (others (whole_incs k ds) ds) ≡ true
whole_chain k [] some = refl
whole_chain k (d ∷ ds) some = elim (cases_eq d 1) [
  | inl one ↦
      subst (λ b. is_chain (if not b then (if nat_le d 1 then pos 0 else pos k, d) ∷ others (whole_incs (k * d) ds) ds else others (whole_incs (k * d) ds) ds) ≡ true) (sym (is_one d one))
      (whole_chain (k * d) ds (or_parts (d == 0) (list_any (λ d. d == 0) ds) some).1)
  | inr o ↦
      subst (λ b. is_chain (if not b then (if nat_le d 1 then pos 0 else pos k, d) ∷ others (whole_incs (k * d) ds) ds else others (whole_incs (k * d) ds) ds) ≡ true) (sym (not_one d o))
      (subst (λ z. is_chain ((z, d) ∷ others (whole_incs (k * d) ds) ds) ≡ true) (sym (large d k o (or_parts (d == 0) (list_any (λ d. d == 0) ds) some).0))
      (whole_after k d ds (or_parts (d == 0) (list_any (λ d. d == 0) ds) some).1))
]

whole_joins : (k : ℕ) (ds : List ℕ) → do_join (whole_incs k ds) ds ≡ true
whole_joins k ds = joins (list_any (λ d. d == 0) ds) refl where
  joins : (b : Bool) → list_any (λ d. d == 0) ds ≡ b → (b || is_chain (others (whole_incs k ds) ds)) ≡ true
  joins true h = refl
  joins false h = whole_chain k ds h

take-whole_incs : (n k : ℕ) (ds : List ℕ) → take n (whole_incs k ds) ≡ whole_incs k (take n ds)
take-whole_incs zero k ds = refl
take-whole_incs (suc n) k [] = refl
take-whole_incs (suc n) k (d ∷ ds) = ap (λ r. (if nat_le d 1 then pos 0 else pos k) ∷ r) (take-whole_incs n (k * d) ds)

-- each view of an array in order is a window
pub whole_window : (form : Form) (ds : List ℕ) → is_window form (whole_triple ds) ≡ true
whole_window (sliced ls) ds = refl
whole_window (exchanged a b) ds = refl
whole_window (shifted a b) ds = refl
whole_window (arranged order) ds = refl
whole_window (inserted p m) ds = refl
whole_window (diagonal is) ds = refl
whole_window squeezed ds = refl
whole_window (clumped n) ds = ap (λ r. do_join r (take n ds)) (take-whole_incs n 1 ds) ∙ whole_joins 1 (take n ds)

-- so it is shown
pub whole_shown : (form : Form) (over : Triple) (o : Option Triple) → over ≡ whole_triple over.dims → o ≡ windowed form over → IsSome o
whole_shown form over o h e =
    let test : is_window form over ≡ true = ap (is_window form) h ∙ whole_window form over.dims in
    subst IsSome (sym (e ∙ ap (λ b. if b then Some (triple_showing (form_place form over) (sizes form over.dims)) else None) test)) refl
