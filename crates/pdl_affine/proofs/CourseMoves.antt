-- Increments times coordinates, along courses.
use Rattle.std.proofs.Common.{◌≡◌, ℕ, zero, suc, ◌+◌, ◌-◌, ◌*◌, ◌<◌, ◌≤◌, max, List, [], ◌∷◌, map, length, take, drop, get_or, ℤ, pos, negsuc, ◌+ℤ◌, ◌*ℤ◌, ◌≤ℤ◌, unsigned_abs, Bool, true, false, ◌==◌, if◌then◌else◌, refl, sym, ap, ◌∙◌, arith, zero-add}
use borrow.Author.Differences.{up, down, sum_is_lem, product_is}
use Rattle.std.specs.List.{range_with_len}
use Rattle.std.proofs.Math.Nat.{mul-le-mul_left}
use Rattle.std.proofs.lemmas.Bool.Decides.{nat_tests}
use Rattle.std.proofs.lemmas.Int.{ints}
use Rattle.std.proofs.lemmas.List.{take_rest}
use Rattle.pdl_shape.specs.Shape.{IsWithin}
use Rattle.pdl_shape.specs.Triple.{moved, spread}
use Rattle.pdl_affine.specs.declared.forms.Course.{Course}
use Rattle.pdl_affine.specs.Courses.{filled, coordinate, begun, gathered, counting, counted_incs}

-- a number times a sum, and a sum times a number
pub mul-sum : (x y z : ℤ) → x *ℤ (y +ℤ z) ≡ (x *ℤ y) +ℤ (x *ℤ z)
mul-sum x y z = let s = sum_is_lem y z in omega (arith, ints, ap (λ n. up x * n) s, ap (λ n. down x * n) s)

pub sum-mul : (y z x : ℤ) → (y +ℤ z) *ℤ x ≡ (y *ℤ x) +ℤ (z *ℤ x)
sum-mul y z x = let s = sum_is_lem y z in omega (arith, ints, ap (λ n. up x * n) s, ap (λ n. down x * n) s)

pub mul_swap : (x y z : ℤ) → x *ℤ (y *ℤ z) ≡ (x *ℤ y) *ℤ z
mul_swap x y z =
    let s = product_is x y in
    let t = product_is y z in
    omega (arith, ints, ap (λ n. up x * n) t.0, ap (λ n. down x * n) t.0, ap (λ n. up x * n) t.1, ap (λ n. down x * n) t.1, ap (λ n. n * up z) s.0, ap (λ n. n * down z) s.0, ap (λ n. n * up z) s.1, ap (λ n. n * down z) s.1)

-- the increments times the coordinates along courses
abbrev pub led : List ℤ → List Course → List ℕ → ℤ
led [] ts cs = pos 0
led (x ∷ xs) [] cs = pos 0
led (x ∷ xs) (t ∷ ts) cs = (x *ℤ coordinate t cs) +ℤ led xs ts cs

pub moved_zeros : (a n : ℕ) (cs : List ℕ) → moved (map (λ j. pos 0) (range_with_len a n)) cs ≡ pos 0
moved_zeros a zero cs = refl
moved_zeros a (suc n) [] = refl
moved_zeros a (suc n) (c ∷ cs) = rw (moved_zeros (a + 1) n cs) (omega (arith, ints))

moved_sum : (f g : ℕ → ℤ) (a n : ℕ) (cs : List ℕ) → moved (map (λ j. f j +ℤ g j) (range_with_len a n)) cs ≡ moved (map f (range_with_len a n)) cs +ℤ moved (map g (range_with_len a n)) cs
moved_sum f g a zero cs = refl
moved_sum f g a (suc n) [] = refl
moved_sum f g a (suc n) (c ∷ cs) = rw (moved_sum f g (a + 1) n cs) (sum (f a) (g a) (moved (map f (range_with_len (a + 1) n)) cs) (moved (map g (range_with_len (a + 1) n)) cs)) where
  sum : (x y u v : ℤ) → ((x +ℤ y) *ℤ pos c) +ℤ (u +ℤ v) ≡ ((x *ℤ pos c) +ℤ u) +ℤ ((y *ℤ pos c) +ℤ v)
  sum x y u v = omega (arith, ints, sum-mul x y (pos c))

moved_each : (f g : ℕ → ℤ) (a n : ℕ) (cs : List ℕ) → ((j : ℕ) → f j ≡ g j) → moved (map f (range_with_len a n)) cs ≡ moved (map g (range_with_len a n)) cs
moved_each f g a zero cs same = refl
moved_each f g a (suc n) [] same = refl
moved_each f g a (suc n) (c ∷ cs) same = rw (same a, moved_each f g (a + 1) n cs same) refl

times : (b : Bool) (x s : ℤ) → x *ℤ (if b then s else pos 0) ≡ (if b then x *ℤ s else pos 0)
times true x s = refl
times false x s = omega (arith, ints)

-- one increment alone, along dimension k
moved_past : (k : ℕ) (y : ℤ) (a n : ℕ) (cs : List ℕ) → k < a → moved (map (λ j. if k == j then y else pos 0) (range_with_len a n)) cs ≡ pos 0
moved_past k y a zero cs h = refl
moved_past k y a (suc n) [] h = refl
moved_past k y a (suc n) (c ∷ cs) h = rw (moved_past k y (a + 1) n cs (omega arith)) (none k a h) where
  none : (k a : ℕ) → k < a → ((if k == a then y else pos 0) *ℤ pos c) +ℤ pos 0 ≡ pos 0
  none k a h = grind (arith, nat_tests, ints)

moved_one : (k : ℕ) (y : ℤ) (a n : ℕ) (cs : List ℕ) → length cs ≡ n → moved (map (λ j. if (a + k) == j then y else pos 0) (range_with_len a n)) cs ≡ y *ℤ pos (get_or cs k 0)
moved_one k y a zero [] h = omega (arith, ints)
moved_one k y a zero (c ∷ cs) h = absurd (omega arith)
moved_one k y a (suc n) [] h = absurd (omega arith)
moved_one zero y a (suc n) (c ∷ cs) h = rw (moved_past (a + zero) y (a + 1) n cs (omega arith)) (this a) where
  this : (a : ℕ) → ((if (a + zero) == a then y else pos 0) *ℤ pos c) +ℤ pos 0 ≡ y *ℤ pos c
  this a = grind (arith, nat_tests, ints)
moved_one (suc k) y a (suc n) (c ∷ cs) h =
    let same : a + suc k ≡ a + 1 + k = omega arith in
    let rest : moved (map (λ j. if (a + suc k) == j then y else pos 0) (range_with_len (a + 1) n)) cs ≡ y *ℤ pos (get_or cs k 0) =
    ap (λ m. moved (map (λ j. if m == j then y else pos 0) (range_with_len (a + 1) n)) cs) same ∙ moved_one k y (a + 1) n cs (omega arith) in
    rw rest (other a (y *ℤ pos (get_or cs k 0))) where
      other : (a : ℕ) (z : ℤ) → ((if (a + suc k) == a then y else pos 0) *ℤ pos c) +ℤ z ≡ z
      other a z = grind (arith, nat_tests, ints)

-- they are those of the first coordinates, and the gathered increments times the view's coordinates
pub led-parts : (xs : List ℤ) (ts : List Course) (cs : List ℕ) (n : ℕ) → length cs ≡ n
    → led xs ts cs ≡ begun xs ts +ℤ moved (map (gathered xs ts) (range_with_len 0 n)) cs
led-parts [] ts cs n h = rw (moved_zeros 0 n cs) refl
led-parts (x ∷ xs) [] cs n h = rw (moved_zeros 0 n cs) refl
led-parts (x ∷ xs) (t ∷ ts) cs n h =
    let rest = led-parts xs ts cs n h in
    let each : (j : ℕ) → x *ℤ (if t.along == j then t.step else pos 0) ≡ (if t.along == j then x *ℤ t.step else pos 0) = λ j. times (t.along == j) x t.step in
    let same : moved (map (gathered (x ∷ xs) (t ∷ ts)) (range_with_len 0 n)) cs ≡ moved (map (λ j. (if t.along == j then x *ℤ t.step else pos 0) +ℤ gathered xs ts j) (range_with_len 0 n)) cs =
    moved_each (gathered (x ∷ xs) (t ∷ ts)) (λ j. (if t.along == j then x *ℤ t.step else pos 0) +ℤ gathered xs ts j) 0 n cs (λ j. ap (λ z. z +ℤ gathered xs ts j) (each j)) in
    let sum = same ∙ moved_sum (λ j. if t.along == j then x *ℤ t.step else pos 0) (gathered xs ts) 0 n cs in
    let one : moved (map (λ j. if t.along == j then x *ℤ t.step else pos 0) (range_with_len 0 n)) cs ≡ (x *ℤ t.step) *ℤ pos (get_or cs t.along 0) =
    ap (λ m. moved (map (λ j. if m == j then x *ℤ t.step else pos 0) (range_with_len 0 n)) cs) (sym (zero-add t.along)) ∙ moved_one t.along (x *ℤ t.step) 0 n cs h in
    parts x t.step (pos t.first) (pos (get_or cs t.along 0)) (begun xs ts) (moved (map (gathered xs ts) (range_with_len 0 n)) cs) _ _ rest (sum ∙ ap (λ z. z +ℤ moved (map (gathered xs ts) (range_with_len 0 n)) cs) one) where
      parts : (x s f c b m l w : ℤ) → l ≡ b +ℤ m → w ≡ ((x *ℤ s) *ℤ c) +ℤ m → (x *ℤ (f +ℤ (s *ℤ c))) +ℤ l ≡ ((x *ℤ f) +ℤ b) +ℤ w
      parts x s f c b m l w h k = omega (arith, ints, mul-sum x f (s *ℤ c), mul_swap x s c)

-- coordinates that lie along courses
pub moved-led : (xs : List ℤ) (ts : List Course) (ps cs : List ℕ) → length ts ≡ length xs
    → ((i : ℕ) (t : Course) → i < length xs → pos (get_or ps i 0) ≡ coordinate (get_or ts i t) cs) → moved xs ps ≡ led xs ts cs
moved-led [] ts ps cs n each = refl
moved-led (x ∷ xs) [] ps cs n each = absurd (omega arith)
moved-led (x ∷ xs) (t ∷ ts) [] cs n each =
    let first : pos 0 ≡ coordinate t cs = each 0 t (omega arith) in
    let rest : pos 0 ≡ led xs ts cs = sym (none xs) ∙ moved-led xs ts [] cs (omega arith) (λ i t' lt. each (suc i) t' (omega arith)) in
    ends x (coordinate t cs) (led xs ts cs) first rest where
      none : (xs : List ℤ) → moved xs [] ≡ pos 0
      none [] = refl
      none (x ∷ xs) = refl

      ends : (x c l : ℤ) → pos 0 ≡ c → pos 0 ≡ l → pos 0 ≡ (x *ℤ c) +ℤ l
      ends x c l h k = rw (sym h, sym k) (omega (arith, ints))
moved-led (x ∷ xs) (t ∷ ts) (p ∷ ps) cs n each =
    rw (each 0 t (omega arith), moved-led xs ts ps cs (omega arith) (λ i t' lt. each (suc i) t' (omega arith))) refl

-- the gathered increments times coordinates, where 0 counts along sizes of 0 and 1
pub moved-counted : (xs : List ℤ) (ds cs : List ℕ) → length xs ≡ length ds → IsWithin (filled ds) cs → moved (counted_incs xs ds) cs ≡ moved xs cs
moved-counted [] ds cs n w = refl
moved-counted (x ∷ xs) [] cs n w = absurd (omega arith)
moved-counted (x ∷ xs) (d ∷ ds) [] n w = refl
moved-counted (x ∷ xs) (d ∷ ds) (c ∷ cs) n w = rw (moved-counted xs ds cs (omega arith) w.1) (ap (λ z. z +ℤ moved xs cs) (counts x d c w.0)) where
  counts : (x : ℤ) (d c : ℕ) → c < max d 1 → counting x d *ℤ pos c ≡ x *ℤ pos c
  counts x d c h = grind (arith, nat_tests, ints)

-- two places are no further apart than the spread
pub moved_apart : (xs : List ℤ) (ds ps qs : List ℕ) → IsWithin (filled ds) ps → IsWithin (filled ds) qs → moved xs ps ≤ℤ (moved xs qs +ℤ pos (spread xs ds))
moved_apart [] ds ps qs v w = omega (arith, ints)
moved_apart (x ∷ xs) [] [] [] v w = omega (arith, ints)
moved_apart (x ∷ xs) [] (p ∷ ps) qs v w = absurd v
moved_apart (x ∷ xs) [] [] (q ∷ qs) v w = absurd w
moved_apart (x ∷ xs) (d ∷ ds) [] qs v w = absurd v
moved_apart (x ∷ xs) (d ∷ ds) (p ∷ ps) [] v w = absurd w
moved_apart (x ∷ xs) (d ∷ ds) (p ∷ ps) (q ∷ qs) v w =
    sum (x *ℤ pos p) (x *ℤ pos q) (moved xs ps) (moved xs qs) (unsigned_abs x * (d - 1)) (spread xs ds) (one x p (d - 1) q (omega (arith, v.0)) (omega (arith, w.0))) (moved_apart xs ds ps qs v.1 w.1) where
      one : (x : ℤ) (p e q : ℕ) → p ≤ e → q ≤ e → (x *ℤ pos p) ≤ℤ ((x *ℤ pos q) +ℤ pos (unsigned_abs x * e))
      one (pos n) p e q h k = let m : n * p ≤ n * e = mul-le-mul_left n h in omega (arith, ints, m)
      one (negsuc n) p e q h k = let m : suc n * q ≤ suc n * e = mul-le-mul_left (suc n) k in omega (arith, ints, m)

      sum : (a b c d : ℤ) (m n : ℕ) → a ≤ℤ (b +ℤ pos m) → c ≤ℤ (d +ℤ pos n) → (a +ℤ c) ≤ℤ ((b +ℤ d) +ℤ pos (m + n))
      sum a b c d m n h k = omega (arith, ints)

-- the coordinates where the increments go furthest, and those where they go least far
abbrev pub furthest : List ℤ → List ℕ → List ℕ
furthest xs [] = []
furthest [] (d ∷ ds) = 0 ∷ furthest [] ds
furthest (pos n ∷ xs) (d ∷ ds) = (d - 1) ∷ furthest xs ds
furthest (negsuc n ∷ xs) (d ∷ ds) = 0 ∷ furthest xs ds

abbrev pub nearest : List ℤ → List ℕ → List ℕ
nearest xs [] = []
nearest [] (d ∷ ds) = 0 ∷ nearest [] ds
nearest (pos n ∷ xs) (d ∷ ds) = 0 ∷ nearest xs ds
nearest (negsuc n ∷ xs) (d ∷ ds) = (d - 1) ∷ nearest xs ds

pub furthest_within : (xs : List ℤ) (ds : List ℕ) → IsWithin (filled ds) (furthest xs ds)
furthest_within [] [] = tt
furthest_within (x ∷ xs) [] = tt
furthest_within [] (d ∷ ds) = (omega arith, furthest_within [] ds)
furthest_within (pos n ∷ xs) (d ∷ ds) = (omega arith, furthest_within xs ds)
furthest_within (negsuc n ∷ xs) (d ∷ ds) = (omega arith, furthest_within xs ds)

pub nearest_within : (xs : List ℤ) (ds : List ℕ) → IsWithin (filled ds) (nearest xs ds)
nearest_within [] [] = tt
nearest_within (x ∷ xs) [] = tt
nearest_within [] (d ∷ ds) = (omega arith, nearest_within [] ds)
nearest_within (pos n ∷ xs) (d ∷ ds) = (omega arith, nearest_within xs ds)
nearest_within (negsuc n ∷ xs) (d ∷ ds) = (omega arith, nearest_within xs ds)

pub spread-ends : (xs : List ℤ) (ds : List ℕ) → moved xs (furthest xs ds) ≡ moved xs (nearest xs ds) +ℤ pos (spread xs ds)
spread-ends [] ds = refl
spread-ends (x ∷ xs) [] = ends x where
  ends : (x : ℤ) → moved (x ∷ xs) (furthest (x ∷ xs) []) ≡ moved (x ∷ xs) (nearest (x ∷ xs) []) +ℤ pos 0
  ends (pos n) = refl
  ends (negsuc n) = refl
spread-ends (pos n ∷ xs) (d ∷ ds) = ends (d - 1) (moved xs (furthest xs ds)) (moved xs (nearest xs ds)) (spread xs ds) (spread-ends xs ds) where
  ends : (e : ℕ) (a b : ℤ) (s : ℕ) → a ≡ b +ℤ pos s → (pos n *ℤ pos e) +ℤ a ≡ ((pos n *ℤ pos 0) +ℤ b) +ℤ pos (n * e + s)
  ends e a b s h = omega (arith, ints)
spread-ends (negsuc n ∷ xs) (d ∷ ds) = ends (d - 1) (moved xs (furthest xs ds)) (moved xs (nearest xs ds)) (spread xs ds) (spread-ends xs ds) where
  ends : (e : ℕ) (a b : ℤ) (s : ℕ) → a ≡ b +ℤ pos s → (negsuc n *ℤ pos 0) +ℤ a ≡ ((negsuc n *ℤ pos e) +ℤ b) +ℤ pos (suc n * e + s)
  ends e a b s h = omega (arith, ints)

-- each increment that counts is at most the spread
pub inc_spread : (xs : List ℤ) (ds : List ℕ) (i : ℕ) → i < length xs → i < length ds → 1 < get_or ds i 0 → unsigned_abs (get_or xs i (pos 0)) ≤ spread xs ds
inc_spread [] ds i h k big = absurd (omega arith)
inc_spread (x ∷ xs) [] i h k big = absurd (omega arith)
inc_spread (x ∷ xs) (d ∷ ds) zero h k big = let m : unsigned_abs x * 1 ≤ unsigned_abs x * (d - 1) = mul-le-mul_left (unsigned_abs x) (omega (arith, big)) in omega (arith, m)
inc_spread (x ∷ xs) (d ∷ ds) (suc i) h k big = omega (arith, inc_spread xs ds i (omega arith) (omega arith) big)

-- sizes of 0 and 1 leave the spread as it is
pub spread-counted : (xs : List ℤ) (ds : List ℕ) → spread (counted_incs xs ds) ds ≡ spread xs ds
spread-counted [] ds = refl
spread-counted (x ∷ xs) [] = refl
spread-counted (x ∷ xs) (d ∷ ds) = rw (spread-counted xs ds) (ap (λ n. n + spread xs ds) (counts x d)) where
  counts : (x : ℤ) (d : ℕ) → unsigned_abs (counting x d) * (d - 1) ≡ unsigned_abs x * (d - 1)
  counts x d = grind (arith, nat_tests, ints)

-- what the first increment and course gather, and the others
pub gathered_front : (xs : List ℤ) (ts : List Course) (t : Course) (j : ℕ) → 1 ≤ length xs → 1 ≤ length ts
    → gathered xs ts j ≡ (get_or xs 0 (pos 0) *ℤ (if (get_or ts 0 t).along == j then (get_or ts 0 t).step else pos 0)) +ℤ gathered (take (length xs - 1) (drop 1 xs)) (take (length ts - 1) (drop 1 ts)) j
gathered_front [] ts t j h k = absurd (omega arith)
gathered_front (x ∷ xs) [] t j h k = absurd (omega arith)
gathered_front (x ∷ xs) (u ∷ ts) t j h k =
    ap (λ z. (x *ℤ (if u.along == j then u.step else pos 0)) +ℤ z) (ap (λ r. gathered r ts j) (sym (take_rest (x ∷ xs) 1)) ∙ ap (λ r. gathered (take (length (x ∷ xs) - 1) (drop 1 (x ∷ xs))) r j) (sym (take_rest (u ∷ ts) 1)))
