-- Lists of places that grow by one position at a time.
use Rattle.std.proofs.Common.{◌-◌, ◌*◌, append_assoc, ◌≡◌, ◌≢◌, ℕ, ◌+◌, ◌<◌, Bool, cond, length-append, List, [], ◌∷◌, ◌++◌, length, get_or, map, refl, zero-add, ap, sym, ◌∙◌, arith, true, false, ℤ, pos, negsuc, zero, suc, Some, None, position, nat_lt}
use Rattle.std.specs.List.{range_with_len, filter, position_or_len}
use Rattle.std.proofs.lemmas.List.{get_or_append_left, get_or-append_right, map-id, map-append, append-nil}
use Rattle.std.proofs.lemmas.List.FromFn.{filter_of_map_range_with_len_more, map-range_with_len_more, length-range_with_len, get_or-range_with_len, fill_by_all, length-map-range_with_len, get_or-map-range_with_len}
use Rattle.std.proofs.lemmas.Bool.Decides.{nat_tests}
use Rattle.std.proofs.lemmas.List.Sums.{position_or_len_is}
use Rattle.pdl_lemmas.specs.Tests.{by_lt}
use Rattle.pdl_choice.specs.Where.{is_set}

-- the positions below i at which the mask is set
abbrev pub which_below : List ℤ → ℕ → List ℕ
which_below mask i = filter (λ p. is_set (get_or mask p (pos 0))) (range_with_len 0 i)

pub which_below-more : (mask : List ℤ) (i : ℕ) → which_below mask (i + 1) ≡ which_below mask i ++ cond (is_set (get_or mask i (pos 0))) (i ∷ []) []
which_below-more mask i =
    simp map-id at (filter_of_map_range_with_len_more (λ p. is_set (get_or mask p (pos 0))) (λ (p : ℕ). p) 0 i i (omega arith))

is_set-not_zero : (z : ℤ) → z ≢ pos 0 → is_set z ≡ true
is_set-not_zero (pos zero) h = absurd (h refl)
is_set-not_zero (pos (suc n)) h = refl
is_set-not_zero (negsuc n) h = refl

pub which_below-set : (mask : List ℤ) (i : ℕ) → get_or mask i (pos 0) ≢ pos 0 → which_below mask (i + 1) ≡ which_below mask i ++ i ∷ []
which_below-set mask i set =
    which_below-more mask i ∙ ap (λ (b : Bool). which_below mask i ++ cond b (i ∷ []) []) (is_set-not_zero (get_or mask i (pos 0)) set)

pub which_below-unset : (mask : List ℤ) (i : ℕ) → get_or mask i (pos 0) ≡ pos 0 → which_below mask (i + 1) ≡ which_below mask i
which_below-unset mask i unset =
    which_below-more mask i ∙ ap (λ (b : Bool). which_below mask i ++ cond b (i ∷ []) []) (ap is_set unset) ∙ append-nil (which_below mask i)

pub some_which_below-set : (mask : List ℤ) (i : ℕ) → get_or mask i (pos 0) ≢ pos 0 → map (λ (p : ℕ). Some p) (which_below mask (i + 1)) ≡ map (λ (p : ℕ). Some p) (which_below mask i) ++ Some i ∷ []
some_which_below-set mask i set =
    ap (map (λ (p : ℕ). Some p)) (which_below-set mask i set) ∙ map-append (λ (p : ℕ). Some p) (which_below mask i) (i ∷ [])

pub ruleset which_steps = (which_below-set, which_below-unset, some_which_below-set)

pub some_range-more : (i : ℕ) → map (λ (p : ℕ). Some p) (range_with_len 0 (i + 1)) ≡ map (λ (p : ℕ). Some p) (range_with_len 0 i) ++ Some i ∷ []
some_range-more i = map-range_with_len_more (λ (p : ℕ). Some p) 0 i i (omega arith)

pub ruleset range_steps = (some_range-more)

pub length-which_below-set : (mask : List ℤ) (i : ℕ) → get_or mask i (pos 0) ≢ pos 0 → length (which_below mask (i + 1)) ≡ length (which_below mask i) + 1
length-which_below-set mask i set = ap length (which_below-set mask i set) ∙ length-append (which_below mask i) (i ∷ [])

pub length-which_below-unset : (mask : List ℤ) (i : ℕ) → get_or mask i (pos 0) ≡ pos 0 → length (which_below mask (i + 1)) ≡ length (which_below mask i)
length-which_below-unset mask i unset = ap length (which_below-unset mask i unset)

pub ruleset which_counts = (length-which_below-set, length-which_below-unset)

-- a list that has a place for each position below i, and then one for i
pub places_grow : {X : Type 0} (f : ℕ → X) (xs ys : List X) (i : ℕ) (x : X) → xs ≡ map f (range_with_len 0 i) → ys ≡ xs ++ x ∷ [] → x ≡ f i → ys ≡ map f (range_with_len 0 (i + 1))
places_grow f xs ys i x before pushed here =
    pushed ∙ ap (λ v. v ++ x ∷ []) before ∙ ap (λ v. map f (range_with_len 0 i) ++ v ∷ []) here
    ∙ sym (map-range_with_len_more f 0 i i (omega arith))

-- places added one by one
pub places_added : {X : Type 0} (f : ℕ → X) (before xs ys : List X) (i : ℕ) (x : X) → xs ≡ before ++ map f (range_with_len 0 i) → ys ≡ xs ++ x ∷ [] → x ≡ f i → ys ≡ before ++ map f (range_with_len 0 (i + 1))
places_added f before xs ys i x is pushed here =
    pushed ∙ ap (λ v. v ++ x ∷ []) is ∙ append_assoc before (map f (range_with_len 0 i)) (x ∷ [])
    ∙ ap (λ v. before ++ v) (places_grow f (map f (range_with_len 0 i)) (map f (range_with_len 0 i) ++ x ∷ []) i x refl refl here)

-- before the first round there are none
pub rounds_none : {X : Type 0} (f : ℕ → X) (xs : List X) (m : ℕ) → xs ≡ [] → xs ≡ map f (range_with_len 0 (m * 0))
rounds_none f xs m is = is ∙ ap (λ n. map f (range_with_len 0 n)) (none m)
  where
    none : (m : ℕ) → 0 ≡ m * 0
    none m = omega arith

-- places added round by round, m of them in each
pub rounds_grow : {X : Type 0} (f g : ℕ → X) (xs ys : List X) (m r : ℕ) (d : X) → xs ≡ map f (range_with_len 0 (m * r)) → ys ≡ xs ++ map g (range_with_len 0 m) → ((q : ℕ) → q < m → g q ≡ f (q + m * r)) → ys ≡ map f (range_with_len 0 (m * (r + 1)))
rounds_grow {X} f g xs ys m r d before added same =
    let long : length xs ≡ m * r = ap length before ∙ length-map-range_with_len f 0 (m * r) in
    let more : length (map g (range_with_len 0 m)) ≡ m = length-map-range_with_len g 0 m in
    let whole : m * (r + 1) ≡ m * r + m = omega arith in
    added ∙ fill_by_all f (xs ++ map g (range_with_len 0 m)) (m * (r + 1)) d (length-append xs (map g (range_with_len 0 m)) ∙ omega (arith, long, more, whole))
    (λ k h. by_lt k (m * r)
    (λ below. get_or_append_left xs (map g (range_with_len 0 m)) d k (omega arith) ∙ ap (λ (zs : List X). get_or zs k d) before ∙ get_or-map-range_with_len f 0 (m * r) k k d below (omega arith))
    (λ past. get_or-append_right xs (map g (range_with_len 0 m)) (m * r) k d long past
    ∙ get_or-map-range_with_len g 0 m (k - m * r) (k - m * r) d (omega (arith, whole)) (omega arith)
    ∙ same (k - m * r) (omega (arith, whole))
    ∙ ap f (omega arith)))

-- the first of n numbers that passes a test, where none before it does
pub position-range : (p : ℕ → Bool) (n i : ℕ) → i < n → ((k : ℕ) → k < i → p k ≡ false) → p i ≡ true → position p (range_with_len 0 n) ≡ Some i
position-range p n i h before here =
    let at_place : (k : ℕ) → k < n → p (get_or (range_with_len 0 n) k 0) ≡ p k =
    λ (k : ℕ). λ (below : k < n). ap p (get_or-range_with_len 0 n k 0 below ∙ zero-add k) in
    let at : position_or_len p (range_with_len 0 n) ≡ i =
    position_or_len_is p (range_with_len 0 n) i 0 (omega (arith, length-range_with_len 0 n))
    (λ k below. at_place k (omega arith) ∙ before k below)
    (λ _. at_place i h ∙ here) in
    let inside : nat_lt i (length (range_with_len 0 n)) ≡ true = rw length-range_with_len (grind (arith, nat_tests)) in
    ap (λ (j : ℕ). cond (nat_lt j (length (range_with_len 0 n))) (Some j) None) at ∙ ap (λ (b : Bool). cond b (Some i) None) inside

pub position-range_none : (p : ℕ → Bool) (n : ℕ) → ((k : ℕ) → k < n → p k ≡ false) → position p (range_with_len 0 n) ≡ None
position-range_none p n none =
    let at_place : (k : ℕ) → k < n → p (get_or (range_with_len 0 n) k 0) ≡ p k =
    λ (k : ℕ). λ (below : k < n). ap p (get_or-range_with_len 0 n k 0 below ∙ zero-add k) in
    let at : position_or_len p (range_with_len 0 n) ≡ n =
    position_or_len_is p (range_with_len 0 n) n 0 (omega (arith, length-range_with_len 0 n))
    (λ k below. at_place k below ∙ none k below)
    (λ h. absurd (omega (arith, length-range_with_len 0 n))) in
    let outside : nat_lt n (length (range_with_len 0 n)) ≡ false = rw length-range_with_len (grind (arith, nat_tests)) in
    ap (λ (j : ℕ). cond (nat_lt j (length (range_with_len 0 n))) (Some j) None) at ∙ ap (λ (b : Bool). cond b (Some n) None) outside
