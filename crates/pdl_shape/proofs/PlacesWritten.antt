-- What is read where something was written.
use Rattle.std.specs.List.{Contains}
use Rattle.std.proofs.Common.{◌≡◌, ◌⊎◌, inl, inr, ℕ, suc, zero, ℤ, ◌<◌, List, [], ◌∷◌, length, get_or, slice_set, All, Option, Some, None, refl, sym, ◌∙◌, ap, arith}
use Rattle.std.proofs.lemmas.List.{length-set, get_or-set_same, get_or-set_other}
use Rattle.std.proofs.lemmas.List.Elements.{All-set, All-weaker, All-contains_itself}
use Rattle.pdl_shape.specs.Places.{write}

pub length_write : (ps : List (Option ℕ)) (vs es : List ℤ) → length (write ps vs es) ≡ length es
length_write [] vs es = refl
length_write (p ∷ ps) [] es = refl
length_write (None ∷ ps) (x ∷ vs) es = length_write ps vs es
length_write (Some i ∷ ps) (x ∷ vs) es = length_write ps vs (slice_set es i x) ∙ length-set es i x

-- what holds of the values and of the elements holds of the elements after the write
pub write_all : (P : ℤ → Type 0) (ps : List (Option ℕ)) (vs es : List ℤ) → All P vs → All P es → All P (write ps vs es)
write_all P [] vs es a b = b
write_all P (p ∷ ps) [] es a b = b
write_all P (None ∷ ps) (x ∷ vs) es a b = write_all P ps vs es (λ k d h. a (suc k) d (omega arith)) b
write_all P (Some i ∷ ps) (x ∷ vs) es a b = write_all P ps vs (slice_set es i x) (λ k d h. a (suc k) d (omega arith)) (All-set P es i x (a 0 x (omega arith)) b)

-- each element after the write is a value or an element that was there
pub write_given : (ps : List (Option ℕ)) (vs es : List ℤ) → All (λ z. Contains vs z ⊎ Contains es z) (write ps vs es)
write_given ps vs es =
    let P : ℤ → Type 0 = λ z. Contains vs z ⊎ Contains es z in
    write_all P ps vs es (All-weaker (Contains vs) P (λ z h. inl h) vs (All-contains_itself vs)) (All-weaker (Contains es) P (λ z h. inr h) es (All-contains_itself es))

-- an element whose place isn't among the places stays
pub write_other : (ps : List (Option ℕ)) (vs es : List ℤ) (i : ℕ) (d : ℤ) → ((k : ℕ) → k < length vs → get_or ps k None ≡ Some i → ⊥) → get_or (write ps vs es) i d ≡ get_or es i d
write_other [] vs es i d h = refl
write_other (p ∷ ps) [] es i d h = refl
write_other (None ∷ ps) (x ∷ vs) es i d h = write_other ps vs es i d (λ k l. h (suc k) (omega arith))
write_other (Some j ∷ ps) (x ∷ vs) es i d h = write_other ps vs (slice_set es j x) i d (λ k l. h (suc k) (omega arith)) ∙ get_or-set_other es j i x d (λ e. h 0 (omega arith) (ap Some (sym e)))

-- the last value that was put at a place stays
pub write_last : (ps : List (Option ℕ)) (vs es : List ℤ) (j i : ℕ) (d : ℤ) → j < length vs → i < length es → get_or ps j None ≡ Some i → ((k : ℕ) → j < k → k < length vs → get_or ps k None ≡ Some i → ⊥) → get_or (write ps vs es) i d ≡ get_or vs j d
write_last [] vs es j i d l m e h = cc
write_last (p ∷ ps) [] es j i d l m e h = absurd (omega arith)
write_last (None ∷ ps) (x ∷ vs) es zero i d l m e h = cc
write_last (Some q ∷ ps) (x ∷ vs) es zero i d l m e h =
    let same : q ≡ i = cc in
    write_other ps vs (slice_set es q x) i d (λ k c. h (suc k) (omega arith) (omega arith)) ∙ rw same (get_or-set_same es i x d m)
write_last (None ∷ ps) (x ∷ vs) es (suc j) i d l m e h = write_last ps vs es j i d (omega arith) m e (λ k a b. h (suc k) (omega arith) (omega arith))
write_last (Some q ∷ ps) (x ∷ vs) es (suc j) i d l m e h = write_last ps vs (slice_set es q x) j i d (omega arith) (omega (arith, length-set es q x)) e (λ k a b. h (suc k) (omega arith) (omega arith))
