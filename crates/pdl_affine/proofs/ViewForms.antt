-- A form that a transformation resolves to is one of the parent's dimensions.
use Rattle.std.proofs.Common.{◌≡◌, ℕ, zero, suc, ◌<◌, ◌≤◌, ◌&&◌, Bool, true, false, List, [], ◌∷◌, length, Option, Some, None, Ok, option_map, option_and_then, ℤ, pos, negsuc, nat_le, ◌==◌, if◌then◌else◌, refl, ap, subst, arith, IsTrue}
use Rattle.std.specs.List.{All}
use Rattle.std.proofs.lemmas.Bool.Decides.{nat_tests}
use Rattle.std.proofs.lemmas.Bool.{and_parts}
use Rattle.pdl_affine.specs.declared.Affine.{Affine}
use Rattle.pdl_affine.specs.declared.Affine.TheVariants as affine
use Rattle.pdl_shape.specs.Clump.{clump_count}
use Rattle.pdl_shape.specs.Counting.{from_end}
use Rattle.pdl_shape.specs.Refusals.{Refusal, bad_dimension, out_of_range}
use Rattle.pdl_affine.specs.Slicing.{Line, lines_of}
use Rattle.pdl_affine.specs.Views.{Form, sliced, exchanged, shifted, arranged, inserted, diagonal, squeezed, clumped, resolved, or_refusal, when, inserted_at, new_place, all_counted, is_arrangement, is_distinct, are_same_size}
use Rattle.pdl_affine.specs.Courses.{IsSound}
use Rattle.pdl_affine.proofs.SlicingCourses.{counted_inside, lines_fit}

-- what is no refusal
form_is : (fault : Refusal) (o : Option Form) (form : Form) → or_refusal fault o ≡ Ok form → o ≡ Some form
form_is fault None form h = absurd (cc)
form_is fault (Some other) form h = let same : other ≡ form = cc in ap Some same

two : (ds : List ℕ) (make : ℕ → ℕ → Form) (o p : Option ℕ) (form : Form) → ((i j : ℕ) → o ≡ Some i → p ≡ Some j → IsSound (make i j) ds)
    → option_and_then (λ i. option_map (λ j. make i j) p) o ≡ Some form → IsSound form ds
two ds make None p form sound h = absurd (cc)
two ds make (Some i) None form sound h = absurd (cc)
two ds make (Some i) (Some j) form sound h = let same : make i j ≡ form = cc in subst (λ f. IsSound f ds) same (sound i j refl refl)

listed : (ds : List ℕ) (make : List ℕ → Form) (test : List ℕ → Bool) (o : Option (List ℕ)) (form : Form) → ((is : List ℕ) → o ≡ Some is → test is ≡ true → IsSound (make is) ds)
    → option_and_then (λ is. when (test is) (make is)) o ≡ Some form → IsSound form ds
listed ds make test None form sound h = absurd (cc)
listed ds make test (Some is) form sound h = tested (test is) refl h where
  tested : (b : Bool) → test is ≡ b → when b (make is) ≡ Some form → IsSound form ds
  tested true e k = let same : make is ≡ form = cc in subst (λ f. IsSound f ds) same (sound is refl e)
  tested false e k = absurd (cc)

all_inside : (ks : List ℤ) (n : ℕ) (is : List ℕ) → all_counted ks n ≡ Some is → All (λ i. i < n) is
all_inside [] n is h = let same : [] ≡ is = cc in subst (λ xs. All (λ i. i < n) xs) same (λ k d l. absurd (omega arith))
all_inside (k ∷ ks) n is h = more (from_end k n) (all_counted ks n) (λ i e. counted_inside k n i e) (λ js e. all_inside ks n js e) h where
  more : (o : Option ℕ) (p : Option (List ℕ)) → ((i : ℕ) → o ≡ Some i → i < n) → ((js : List ℕ) → p ≡ Some js → All (λ i. i < n) js)
      → option_and_then (λ i. option_map (λ js. i ∷ js) p) o ≡ Some is → All (λ i. i < n) is
  more None p a b e = absurd (cc)
  more (Some i) None a b e = absurd (cc)
  more (Some i) (Some js) a b e = let same : i ∷ js ≡ is = cc in subst (λ xs. All (λ i. i < n) xs) same (both i js (a i refl) (b js refl)) where
    both : (i : ℕ) (js : List ℕ) → i < n → All (λ i. i < n) js → All (λ i. i < n) (i ∷ js)
    both i js h k zero d l = h
    both i js h k (suc m) d l = k m d (omega arith)

sliced_sound : (ds : List ℕ) (o : Option (List Line)) (form : Form) → ((ls : List Line) → o ≡ Some ls → IsSound (sliced ls) ds) → option_map sliced o ≡ Some form → IsSound form ds
sliced_sound ds None form sound h = absurd (cc)
sliced_sound ds (Some ls) form sound h = let same : sliced ls ≡ form = cc in subst (λ f. IsSound f ds) same (sound ls refl)

inserted_sound : (ds : List ℕ) (o : Option ℕ) (size : ℤ) (form : Form) → inserted_at o size ≡ Some form → IsSound form ds
inserted_sound ds None size form h = absurd (cc)
inserted_sound ds (Some p) (pos m) form h = let same : inserted p m ≡ form = cc in subst (λ f. IsSound f ds) same tt
inserted_sound ds (Some p) (negsuc m) form h = absurd (cc)

clumped_sound : (ds : List ℕ) (o : Option ℕ) (form : Form) → ((n : ℕ) → o ≡ Some n → n ≤ length ds) → option_map clumped o ≡ Some form → IsSound form ds
clumped_sound ds None form sound h = absurd (cc)
clumped_sound ds (Some n) form sound h = let same : clumped n ≡ form = cc in subst (λ f. IsSound f ds) same (sound n refl)

count_inside : (k : ℤ) (n m : ℕ) → clump_count k n ≡ Some m → m ≤ n
count_inside (pos k) n m h = inside k n m h where
  inside : (k n m : ℕ) → (if nat_le 1 k && nat_le k n then Some k else None) ≡ Some m → m ≤ n
  inside k n m h = grind (arith, nat_tests)
count_inside (negsuc k) n m h = inside k n m h where
  inside : (k n m : ℕ) → (if k == 0 then Some n else None) ≡ Some m → m ≤ n
  inside k n m h = grind (arith, nat_tests)

holds : (b : Bool) → b ≡ true → IsTrue b
holds b h = grind arith

-- what a test that holds is
pub true_is : (b : Bool) → IsTrue b → b ≡ true
true_is b h = grind arith

pub resolved_sound : (trans : Affine) (ds : List ℕ) (form : Form) → resolved trans ds ≡ Ok form → IsSound form ds
resolved_sound (affine.Slice args) ds form h = sliced_sound ds (lines_of args ds) form (λ ls e. lines_fit args ds ls e) (form_is out_of_range _ form h)
resolved_sound (affine.Xchg a b) ds form h = two ds exchanged (from_end a (length ds)) (from_end b (length ds)) form (λ i j e f. (counted_inside a (length ds) i e, counted_inside b (length ds) j f)) (form_is bad_dimension _ form h)
resolved_sound (affine.Mv a b) ds form h = two ds shifted (from_end a (length ds)) (from_end b (length ds)) form (λ i j e f. (counted_inside a (length ds) i e, counted_inside b (length ds) j f)) (form_is bad_dimension _ form h)
resolved_sound (affine.Reorder order) ds form h =
    listed ds arranged (λ is. is_arrangement is (length ds)) (all_counted order (length ds)) form (λ is e t. holds (is_arrangement is (length ds)) t) (form_is bad_dimension _ form h)
resolved_sound (affine.Dummy place size) ds form h = inserted_sound ds (new_place place (length ds)) size form (form_is bad_dimension _ form h)
resolved_sound (affine.Diagonal ks) ds form h =
    listed ds diagonal (λ is. is_distinct is && are_same_size is ds) (all_counted ks (length ds)) form
    (λ is e t. (all_inside ks (length ds) is e, holds (are_same_size is ds) (and_parts (is_distinct is) (are_same_size is ds) t).1)) (form_is bad_dimension _ form h)
resolved_sound affine.Squeeze ds form h = let same : squeezed ≡ form = cc in subst (λ f. IsSound f ds) same tt
resolved_sound (affine.Clump count) ds form h = clumped_sound ds (clump_count count (length ds)) form (λ n e. count_inside count (length ds) n e) (form_is bad_dimension _ form h)
