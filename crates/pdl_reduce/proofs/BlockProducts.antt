-- One product more of a sum, and one row more of a product.
use Rattle.std.proofs.Common.{◌≡◌, ℕ, ◌+◌, ◌-◌, ◌*◌, ◌<◌, ℤ, pos, ◌+ℤ◌, List, [], ◌∷◌, ◌++◌, slice_set, length, map, get_or, take, drop, ◌≤◌, ◌*ℤ◌, arith, ap, ap₂, sym, ◌∙◌, inl, inr, length-append}
use Rattle.std.specs.Int.{int_wrap, w64}
use Rattle.std.specs.List.{range_with_len}
use Rattle.std.proofs.lemmas.Bool.{cases_lt}
use Rattle.std.proofs.lemmas.Int.{int_wrap-add_left}
use Rattle.std.proofs.lemmas.Bool.Decides.{nat_tests}
use Rattle.std.proofs.lemmas.List.{ext_get_or, get_or_append_left, get_or-append_right, get_or-take, get_or-drop, length-take-le, length-drop}
use Rattle.std.proofs.lemmas.List.FromFn.{length-map-range_with_len, get_or-map-range_with_len, map-range_with_len_more}
use Rattle.std.proofs.lemmas.List.Sums.{fold_push}
use Rattle.pdl_reduce.specs.Folds.{total}
use Rattle.pdl_reduce.specs.Pairings.{sum_below}
use Rattle.pdl_reduce.specs.Blocks.{HasSums, cut, left_at, right_at, sum_at}
use Rattle.pdl_reduce.specs.declared.matrices.Sizes.{Sizes}
use Rattle.pdl_reduce.proofs.PairingPlaces.{sum_agree}

pub sum_more : (f : ℕ → ℤ) (n : ℕ) → sum_below (n + 1) f ≡ sum_below n f +ℤ f n
sum_more f n = ap total (map-range_with_len_more f 0 n n (omega arith)) ∙ fold_push (λ s x. s +ℤ x) (pos 0) (map f (range_with_len 0 n)) (f n)

-- a sum that wraps, and one number more
pub wrapped_more : (f : ℕ → ℤ) (n : ℕ) (s z : ℤ) → s ≡ int_wrap w64 (sum_below n f) → z ≡ f n → int_wrap w64 (s +ℤ z) ≡ int_wrap w64 (sum_below (n + 1) f)
wrapped_more f n s z e g =
    ap₂ (λ (x y : ℤ). int_wrap w64 (x +ℤ y)) e g ∙ int_wrap-add_left w64 (sum_below n f) (f n) ∙ ap (int_wrap w64) (sym (sum_more f n))

-- a sum that wraps, and the numbers of four depths more
pub wrapped_four_more : (f : ℕ → ℤ) (n : ℕ) (s a b c d : ℤ) → s ≡ int_wrap w64 (sum_below n f) → a ≡ f n → b ≡ f (n + 1) → c ≡ f (n + 2) → d ≡ f (n + 3)
    → int_wrap w64 (int_wrap w64 (int_wrap w64 (int_wrap w64 (s +ℤ a) +ℤ b) +ℤ c) +ℤ d) ≡ int_wrap w64 (sum_below (n + 4) f)
wrapped_four_more f n s a b c d e at_a at_b at_c at_d =
    let up : (m k : ℕ) → m ≡ k → int_wrap w64 (sum_below m f) ≡ int_wrap w64 (sum_below k f) = λ m k same. ap (λ (m : ℕ). int_wrap w64 (sum_below m f)) same in
    let one : int_wrap w64 (s +ℤ a) ≡ int_wrap w64 (sum_below (n + 1) f) = wrapped_more f n s a e at_a in
    let two : int_wrap w64 (int_wrap w64 (s +ℤ a) +ℤ b) ≡ int_wrap w64 (sum_below (n + 2) f) =
    wrapped_more f (n + 1) (int_wrap w64 (s +ℤ a)) b one at_b ∙ up (n + 1 + 1) (n + 2) (omega arith) in
    let three : int_wrap w64 (int_wrap w64 (int_wrap w64 (s +ℤ a) +ℤ b) +ℤ c) ≡ int_wrap w64 (sum_below (n + 3) f) =
    wrapped_more f (n + 2) (int_wrap w64 (int_wrap w64 (s +ℤ a) +ℤ b)) c two at_c ∙ up (n + 2 + 1) (n + 3) (omega arith) in
    wrapped_more f (n + 3) (int_wrap w64 (int_wrap w64 (int_wrap w64 (s +ℤ a) +ℤ b) +ℤ c)) d three at_d ∙ up (n + 3 + 1) (n + 4) (omega arith)

-- the same count of depths
pub sums_at : (s : Sizes) (left right row : List ℤ) (i m n : ℕ) → m ≡ n → HasSums s left right m i row → HasSums s left right n i row
sums_at s left right row i m n e h = record {
  width = h.width;
  sums = λ j below. h.sums j below ∙ ap (λ (k : ℕ). int_wrap w64 (sum_at s left right k i j)) e;
}

-- what a function gives below a, and then n numbers that are what it gives from there on
pub range_more : (f : ℕ → ℤ) (a n : ℕ) (ys : List ℤ) → length ys ≡ n → ((j : ℕ) → j < n → get_or ys j (pos 0) ≡ f (a + j)) → map f (range_with_len 0 (a + n)) ≡ map f (range_with_len 0 a) ++ ys
range_more f a n ys l h =
    let us : List ℤ = map f (range_with_len 0 a) in
    let size : length us ≡ a = length-map-range_with_len f 0 a in
    let whole : length (map f (range_with_len 0 (a + n))) ≡ a + n = length-map-range_with_len f 0 (a + n) in
    let both : length (us ++ ys) ≡ a + n = length-append us ys ∙ ap₂ (λ (x y : ℕ). x + y) size l in
    ext_get_or (pos 0) (map f (range_with_len 0 (a + n))) (us ++ ys) (whole ∙ sym both)
    (λ k below.
    let small : k < a + n = omega (arith, whole, below) in
    get_or-map-range_with_len f 0 (a + n) k k (pos 0) small (omega arith)
    ∙ elim (cases_lt k a) [
      | inl low ↦ sym (get_or_append_left us ys (pos 0) k (omega (arith, size, low)) ∙ get_or-map-range_with_len f 0 a k k (pos 0) low (omega arith))
      | inr high ↦
          let inside : k - a < n = omega (arith, small, high) in
          let back : a + (k - a) ≡ k = omega (arith, high) in
          sym (get_or-append_right us ys a k (pos 0) size high ∙ h (k - a) inside ∙ ap f back)
    ])

-- ---- a column of one number

-- a coordinate within a size is used as it is
pub cut_below : (d k : ℕ) → k < d → cut d k ≡ k
cut_below d k h = grind (arith, nat_tests, h)

-- the sum over two slices is the sum at a row, where neither block is stretched
pub single_column : (s : Sizes) (left right : List ℤ) (i j n : ℕ) → s.width ≡ 1 → s.left_depth ≡ s.depth → s.right_depth ≡ s.depth → j < s.width → n ≡ s.depth
    → s.depth * i + n ≤ length left
    → (let xs = take n (drop (s.depth * i) left) in sum_below (length xs) (λ k. get_or xs k (pos 0) *ℤ get_or right k (pos 0))) ≡ sum_at s left right s.depth i j
single_column s left right i j n w l r h e within =
    let d : ℕ = s.depth in
    let start : ℕ = d * i in
    let xs : List ℤ = take n (drop start left) in
    let size : length xs ≡ d = length-take-le n (drop start left) (omega (arith, length-drop start left, within)) ∙ e in
    let f : ℕ → ℤ = λ k. get_or xs k (pos 0) *ℤ get_or right k (pos 0) in
    let g : ℕ → ℤ = λ k. left_at s left i k *ℤ right_at s right k j in
    let same : (k : ℕ) → k < d → f k ≡ g k = λ k below.
    let from_left : get_or xs k (pos 0) ≡ left_at s left i k =
    get_or-take n (drop start left) k (pos 0) (omega (arith, e, below)) ∙ get_or-drop start left k (pos 0)
    ∙ ap (λ (m : ℕ). get_or left m (pos 0)) (omega arith)
    ∙ ap₂ (λ (c m : ℕ). get_or left (c + m * i) (pos 0)) (sym (cut_below d k below) ∙ ap (λ (m : ℕ). cut m k) (sym l)) (sym l) in
    let column : k ≡ j + s.width * cut s.right_depth k =
    ap (λ (m : ℕ). m) (sym (cut_below d k below) ∙ ap (λ (m : ℕ). cut m k) (sym r)) ∙ omega (arith, w, h, ap (λ (m : ℕ). m * cut s.right_depth k) w) in
    ap₂ (λ (u v : ℤ). u *ℤ v) from_left (ap (λ (m : ℕ). get_or right m (pos 0)) column) in
    ap (λ (m : ℕ). sum_below m f) size ∙ sum_agree f g d same

pub first_set : (row : List ℤ) (z : ℤ) (j : ℕ) → j ≡ 0 → 0 < length row → get_or (slice_set row 0 z) j (pos 0) ≡ z
first_set [] z j e h = absurd (omega arith)
first_set (x ∷ row) z j e h = ap (λ (m : ℕ). get_or (z ∷ row) m (pos 0)) e
