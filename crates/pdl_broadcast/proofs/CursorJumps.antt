-- Jumps take the place of an argument to that of the next coordinates.
use Rattle.std.proofs.Common.{◌≡◌, ◌≢◌, ℕ, zero, suc, ◌+◌, ◌-◌, ◌*◌, ◌<◌, ◌≤◌, Bool, true, false, nat_lt, ◌==◌, ℤ, pos, unsigned_abs, ◌+ℤ◌, ◌-ℤ◌, ◌*ℤ◌, List, [], ◌∷◌, length, get_or, set, max, refl, ap, sym, ◌∙◌, subst, arith, lit≤, ⊎_elim, length-set, get_or-set_other, get_or-set_same, below_more, FitsSigned, w32, if◌then◌else◌}
use Rattle.std.proofs.lemmas.Bool.Decides.{nat_tests}
use Rattle.std.proofs.lemmas.Int.{fits_signed_from_abs, ints, unsigned_abs-mul}
use Rattle.std.proofs.lemmas.Bool.{cases_eq, cases_lt, lt-ltb, le-ltb}
use Rattle.std.proofs.Math.IntN.{+ℤ_assoc, +ℤ_comm, *ℤ_comm, *ℤ-zero, suc_ℤ-*ℤ}
use Rattle.std.proofs.Math.Nat.{mul-le-mul, mul-le-mul_left}
use Rattle.pdl_broadcast.specs.Cursor.{Jumps, next_of, rolled_of}
use Rattle.pdl_shape.specs.Broadcast.{BroadcastsTo, cut_to}
use Rattle.pdl_shape.specs.Laws.{SizeLaws}
use Rattle.pdl_shape.specs.Shape.{IsWithin, extent}
use Rattle.pdl_shape.specs.Triple.{moved, spread}

-- how far one step along dimension k goes, and all of them
abbrev pub step_at : List ℤ → List ℕ → ℕ → ℤ
step_at is ds k = (if nat_lt 1 (get_or ds k 1) then get_or is k (pos 0) else pos 0)

abbrev pub turn_at : List ℤ → List ℕ → ℕ → ℤ
turn_at is ds k = step_at is ds k *ℤ pos (get_or ds k 1 - 1)

-- how far all steps along the dimensions below k go
pub turned_at : List ℤ → List ℕ → ℕ → ℤ
turned_at is ds zero = pos 0
turned_at is ds (suc k) = turned_at is ds k +ℤ turn_at is ds k

pub turned_none : (is : List ℤ) (ds : List ℕ) → turned_at is ds 0 ≡ pos 0
unfolding turned_at
turned_none is ds = refl

pub turned_more : (is : List ℤ) (ds : List ℕ) (k : ℕ) → turned_at is ds (k + 1) ≡ turned_at is ds k +ℤ turn_at is ds k
unfolding turned_at
turned_more is ds k = let one : k + 1 ≡ suc k = omega arith in rw one refl

-- the first dimension apart
turned_first : (i : ℤ) (is : List ℤ) (d : ℕ) (ds : List ℕ) (k : ℕ) → turned_at (i ∷ is) (d ∷ ds) (suc k) ≡ turn_at (i ∷ is) (d ∷ ds) 0 +ℤ turned_at is ds k
unfolding turned_at
turned_first i is d ds zero = +ℤ_comm (pos 0) (turn_at (i ∷ is) (d ∷ ds) 0)
turned_first i is d ds (suc k) =
    ap (λ z. z +ℤ turn_at is ds k) (turned_first i is d ds k) ∙ +ℤ_assoc (turn_at (i ∷ is) (d ∷ ds) 0) (turned_at is ds k) (turn_at is ds k)

-- dimensions that are missing
turned_missing : (is : List ℤ) (k : ℕ) → turned_at is [] k ≡ pos 0
unfolding turned_at
turned_missing is zero = refl
turned_missing is (suc k) = ap (λ z. z +ℤ pos 0) (turned_missing is k)

-- one more step
mul_more : (i : ℤ) (c : ℕ) → i *ℤ pos (c + 1) ≡ i *ℤ pos c +ℤ i
mul_more i c =
    *ℤ_comm i (pos (c + 1)) ∙ ap (λ n. pos n *ℤ i) (let one : c + 1 ≡ suc c = omega arith in one) ∙ suc_ℤ-*ℤ (pos c) i ∙ ap (λ z. z +ℤ i) (*ℤ_comm (pos c) i)

is_one : (d : ℕ) → d ≢ 1 → (d == 1) ≡ false
is_one d h = grind (arith, nat_tests)

above_one : (d : ℕ) → 1 < d → nat_lt 1 d ≡ true
above_one d h = grind (arith, nat_tests)

not_above_one : (d : ℕ) → d ≤ 1 → nat_lt 1 d ≡ false
not_above_one d h = grind (arith, nat_tests)

-- the first dimension moves on
first_moves : (i m : ℤ) (d j c : ℕ) → (d ≢ 1 → d ≡ j) → c + 1 < j →
    (i *ℤ pos (if d == 1 then 0 else c + 1)) +ℤ m ≡ ((i *ℤ pos (if d == 1 then 0 else c)) +ℤ m) +ℤ ((if nat_lt 1 d then i else pos 0) -ℤ pos 0)
first_moves i m d j c b h = ⊎_elim (λ same. one same) (λ other. more other) (cases_eq d 1)
  where
    one : d ≡ 1 → (i *ℤ pos (if d == 1 then 0 else c + 1)) +ℤ m ≡ ((i *ℤ pos (if d == 1 then 0 else c)) +ℤ m) +ℤ ((if nat_lt 1 d then i else pos 0) -ℤ pos 0)
    one same = rw same (omega (arith, ints))

    more : d ≢ 1 → (i *ℤ pos (if d == 1 then 0 else c + 1)) +ℤ m ≡ ((i *ℤ pos (if d == 1 then 0 else c)) +ℤ m) +ℤ ((if nat_lt 1 d then i else pos 0) -ℤ pos 0)
    more other = rw (is_one d other, above_one d (omega (arith, b other))) (omega (arith, ints, mul_more i c))

-- the first dimension rolls over
first_rolls : (i m n s t : ℤ) (d j c : ℕ) → (d ≢ 1 → d ≡ j) → c < j → j ≤ c + 1 → n ≡ m +ℤ (s -ℤ t) →
    (i *ℤ pos (if d == 1 then 0 else 0)) +ℤ n ≡ ((i *ℤ pos (if d == 1 then 0 else c)) +ℤ m) +ℤ (s -ℤ (((if nat_lt 1 d then i else pos 0) *ℤ pos (d - 1)) +ℤ t))
first_rolls i m n s t d j c b low high e = ⊎_elim (λ same. one same) (λ other. more other) (cases_eq d 1)
  where
    one : d ≡ 1 → (i *ℤ pos (if d == 1 then 0 else 0)) +ℤ n ≡ ((i *ℤ pos (if d == 1 then 0 else c)) +ℤ m) +ℤ (s -ℤ (((if nat_lt 1 d then i else pos 0) *ℤ pos (d - 1)) +ℤ t))
    one same = rw same (omega (arith, ints, e))

    more : d ≢ 1 → (i *ℤ pos (if d == 1 then 0 else 0)) +ℤ n ≡ ((i *ℤ pos (if d == 1 then 0 else c)) +ℤ m) +ℤ (s -ℤ (((if nat_lt 1 d then i else pos 0) *ℤ pos (d - 1)) +ℤ t))
    more other =
        let last : d - 1 ≡ c = omega (arith, b other) in
        rw (is_one d other, above_one d (omega (arith, b other)), last) (omega (arith, ints, e, *ℤ-zero i))

pub left_over : (r n : ℕ) (t : Bool) → t ≡ false → (if t then 0 else suc r) < suc n → r < n
left_over r n t e h = let P : Bool → Type 0 = λ b. (if b then 0 else suc r) < suc n in let k : suc r < suc n = subst P e h in omega arith

-- what one step of the walk does to an argument
abbrev Moves : List ℤ → List ℕ → List ℕ → List ℕ → Type 0
Moves is ds js cs = moved is (cut_to ds (next_of js cs)) ≡ moved is (cut_to ds cs) +ℤ (step_at is ds (rolled_of js cs) -ℤ turned_at is ds (rolled_of js cs))

on_first : (i : ℤ) (is : List ℤ) (d : ℕ) (ds : List ℕ) (j : ℕ) (js : List ℕ) (c : ℕ) (cs : List ℕ) → (d ≢ 1 → d ≡ j) → c + 1 < j → Moves (i ∷ is) (d ∷ ds) (j ∷ js) (c ∷ cs)
on_first i is d ds j js c cs b less = rw (lt-ltb (c + 1) j less, turned_none (i ∷ is) (d ∷ ds)) (first_moves i (moved is (cut_to ds cs)) d j c b less)

over_first : (i : ℤ) (is : List ℤ) (d : ℕ) (ds : List ℕ) (j : ℕ) (js : List ℕ) (c : ℕ) (cs : List ℕ) → (d ≢ 1 → d ≡ j) → c < j → j ≤ c + 1 → rolled_of (j ∷ js) (c ∷ cs) < suc (length js) → (rolled_of js cs < length js → Moves is ds js cs) → Moves (i ∷ is) (d ∷ ds) (j ∷ js) (c ∷ cs)
over_first i is d ds j js c cs b low more r rest =
    let test : nat_lt (c + 1) j ≡ false = le-ltb (c + 1) j more in
    let left : rolled_of js cs < length js = left_over (rolled_of js cs) (length js) (nat_lt (c + 1) j) test r in
    rw (test, turned_first i is d ds (rolled_of js cs)) (first_rolls i (moved is (cut_to ds cs)) (moved is (cut_to ds (next_of js cs))) (step_at is ds (rolled_of js cs)) (turned_at is ds (rolled_of js cs)) d j c b low more (rest left))

-- one step of the walk moves an argument by a step less what rolls over
pub moved_next : (is : List ℤ) (ds js cs : List ℕ) → length is ≡ length ds → BroadcastsTo ds js → IsWithin js cs → rolled_of js cs < length js →
    moved is (cut_to ds (next_of js cs)) ≡ moved is (cut_to ds cs) +ℤ (step_at is ds (rolled_of js cs) -ℤ turned_at is ds (rolled_of js cs))
moved_next is ds [] cs l b w r = absurd (omega arith)
moved_next is ds (j ∷ js) [] l b w r = absurd w
moved_next [] [] (j ∷ js) (c ∷ cs) l b w r = rw (turned_missing [] (rolled_of (j ∷ js) (c ∷ cs))) refl
moved_next [] (d ∷ ds) (j ∷ js) (c ∷ cs) l b w r = absurd (omega arith)
moved_next (i ∷ is) [] (j ∷ js) (c ∷ cs) l b w r = absurd (omega arith)
moved_next (i ∷ is) (d ∷ ds) (j ∷ js) (c ∷ cs) l b w r =
    let short : length is ≡ length ds = omega arith in
    ⊎_elim (λ less. on_first i is d ds j js c cs b.0 less) (λ more. over_first i is d ds j js c cs b.0 w.0 more r (λ left. moved_next is ds js cs short b.1 w.1 left)) (cases_lt (c + 1) j)

-- steps and turns stay within the spread
apart : (a b : ℤ) → unsigned_abs (a +ℤ b) ≤ unsigned_abs a + unsigned_abs b
apart a b = omega (arith, ints)

step_first : (i : ℤ) (d : ℕ) → unsigned_abs (if nat_lt 1 d then i else pos 0) ≤ unsigned_abs i * (d - 1)
step_first i d = ⊎_elim (λ more. above more) (λ less. below less) (cases_lt 1 d)
  where
    above : 1 < d → unsigned_abs (if nat_lt 1 d then i else pos 0) ≤ unsigned_abs i * (d - 1)
    above more = rw (above_one d more) (omega (arith, mul-le-mul_left {m = 1} {n = d - 1} (unsigned_abs i) (omega arith)))

    below : d ≤ 1 → unsigned_abs (if nat_lt 1 d then i else pos 0) ≤ unsigned_abs i * (d - 1)
    below less = rw (not_above_one d less) (omega arith)

turn_first : (i : ℤ) (d : ℕ) → unsigned_abs ((if nat_lt 1 d then i else pos 0) *ℤ pos (d - 1)) ≤ unsigned_abs i * (d - 1)
turn_first i d = ⊎_elim (λ more. above more) (λ less. below less) (cases_lt 1 d)
  where
    above : 1 < d → unsigned_abs ((if nat_lt 1 d then i else pos 0) *ℤ pos (d - 1)) ≤ unsigned_abs i * (d - 1)
    above more = rw (above_one d more) (omega (arith, unsigned_abs-mul i (pos (d - 1))))

    below : d ≤ 1 → unsigned_abs ((if nat_lt 1 d then i else pos 0) *ℤ pos (d - 1)) ≤ unsigned_abs i * (d - 1)
    below less = rw (not_above_one d less) (omega (arith, unsigned_abs-mul (pos 0) (pos (d - 1))))

pub turned_small : (is : List ℤ) (ds : List ℕ) (k : ℕ) → length is ≡ length ds → unsigned_abs (turned_at is ds k) + unsigned_abs (step_at is ds k) ≤ spread is ds
turned_small [] [] k l = rw (turned_missing [] k) (omega arith)
turned_small [] (d ∷ ds) k l = absurd (omega arith)
turned_small (i ∷ is) [] k l = absurd (omega arith)
turned_small (i ∷ is) (d ∷ ds) zero l = rw (turned_none (i ∷ is) (d ∷ ds)) (omega (arith, step_first i d))
turned_small (i ∷ is) (d ∷ ds) (suc k) l =
    let short : length is ≡ length ds = omega arith in
    rw (turned_first i is d ds k) (omega (arith, turn_first i d, apart (turn_at (i ∷ is) (d ∷ ds) 0) (turned_at is ds k), turned_small is ds k short))

pub turn_small : (is : List ℤ) (ds : List ℕ) (k : ℕ) → length is ≡ length ds → unsigned_abs (turn_at is ds k) ≤ spread is ds
turn_small [] [] k l = omega arith
turn_small [] (d ∷ ds) k l = absurd (omega arith)
turn_small (i ∷ is) [] k l = absurd (omega arith)
turn_small (i ∷ is) (d ∷ ds) zero l = omega (arith, turn_first i d)
turn_small (i ∷ is) (d ∷ ds) (suc k) l =
    let short : length is ≡ length ds = omega arith in
    omega (arith, turn_small is ds k short)

-- one size is at most the extent
pub size_small : SizeLaws → (ds : List ℕ) (k : ℕ) → get_or ds k 1 ≤ extent ds
size_small laws [] k = lit≤ tt
size_small laws (d ∷ ds) zero = omega (arith, mul-le-mul {n₁ = d} {m₁ = 1} {n₂ = max d 1} {m₂ = extent ds} (omega arith) (laws.extent_above ds))
size_small laws (d ∷ ds) (suc k) = omega (arith, size_small laws ds k, mul-le-mul {n₁ = 1} {m₁ = extent ds} {n₂ = max d 1} {m₂ = extent ds} (omega arith) (omega arith))

-- the jumps along the dimensions below k are found
pub record Jumped (k : ℕ) (jumps : List ℤ) (turned : ℤ) (is : List ℤ) (ds : List ℕ) : Type 0 where
  pub long : length jumps ≡ 16
  pub turned_is : turned ≡ turned_at is ds k
  pub each : (m : ℕ) → m < k → get_or jumps m (pos 0) ≡ step_at is ds m -ℤ turned_at is ds m

pub jumped_none : (jumps : List ℤ) (is : List ℤ) (ds : List ℕ) → length jumps ≡ 16 → Jumped 0 jumps (pos 0) is ds
jumped_none jumps is ds l = record {
  long = l;
  turned_is = sym (turned_none is ds);
  each = λ m h. absurd (omega arith);
}

pub jumped_more : (k : ℕ) (jumps : List ℤ) (turned step last : ℤ) (is : List ℤ) (ds : List ℕ) → k < 16 → step ≡ step_at is ds k → last ≡ pos (get_or ds k 1 - 1) → Jumped k jumps turned is ds → Jumped (k + 1) (set jumps k (step -ℤ turned)) (turned +ℤ (step *ℤ last)) is ds
jumped_more k jumps turned step last is ds h s l j = record {
  long = length-set jumps k (step -ℤ turned) ∙ j.long;
  turned_is = rw (s, l, j.turned_is) (sym (turned_more is ds k));
  each = below_more _ _ (λ m low. let other : m ≢ k = omega arith in rw get_or-set_other (j.each m low)) (let inside : k < length jumps = omega (arith, j.long) in rw (get_or-set_same, s, j.turned_is) refl);
}

pub jumped_all : (jumps : List ℤ) (turned : ℤ) (is : List ℤ) (ds walk : List ℕ) (k : ℕ) → length is ≡ length ds → BroadcastsTo ds walk → length walk ≤ k → Jumped k jumps turned is ds → Jumps walk is ds jumps
jumped_all jumps turned is ds walk k l b end j cs w r =
    moved_next is ds walk cs l b w r ∙ ap (λ z. moved is (cut_to ds cs) +ℤ z) (sym (j.each (rolled_of walk cs) (omega arith)))

-- what the code computes along dimension k fits
pub record Fitting (turned step last : ℤ) : Type 0 where
  pub step_fits : FitsSigned w32 step
  pub last_fits : FitsSigned w32 last
  pub jump_fits : FitsSigned w32 (step -ℤ turned)
  pub turn_fits : FitsSigned w32 (step *ℤ last)
  pub sum_fits : FitsSigned w32 (turned +ℤ (step *ℤ last))

last_fits : SizeLaws → (ds : List ℕ) (k : ℕ) → extent ds ≤ 1048576 → FitsSigned w32 (pos (get_or ds k 1 - 1))
last_fits laws ds k small = fits_signed_from_abs w32 (pos (get_or ds k 1 - 1)) (omega (arith, size_small laws ds k))

difference : (s t : ℤ) → unsigned_abs t + unsigned_abs s < 1048576 → FitsSigned w32 (s -ℤ t)
difference s t h = fits_signed_from_abs w32 (s -ℤ t) (omega (arith, ints))

small_fits : (z : ℤ) (n : ℕ) → unsigned_abs z ≤ n → n < 1048576 → FitsSigned w32 z
small_fits z n h k = fits_signed_from_abs w32 z (omega arith)

pub fitting : SizeLaws → (k : ℕ) (jumps : List ℤ) (turned step last : ℤ) (is : List ℤ) (ds : List ℕ) → length is ≡ length ds → extent ds ≤ 1048576 → spread is ds < 1048576 → step ≡ step_at is ds k → last ≡ pos (get_or ds k 1 - 1) → Jumped k jumps turned is ds → Fitting turned step last
fitting laws k jumps turned step last is ds l small narrow s e j =
    let here = turned_small is ds k l in
    let next = turned_small is ds (k + 1) l in
    rw (s, e, j.turned_is) (record {
      step_fits = small_fits (step_at is ds k) (spread is ds) (omega (arith, here)) narrow;
      last_fits = last_fits laws ds k small;
      jump_fits = difference (step_at is ds k) (turned_at is ds k) (omega (arith, here));
      turn_fits = small_fits (turn_at is ds k) (spread is ds) (turn_small is ds k l) narrow;
      sum_fits = rw (← turned_more is ds k) (small_fits (turned_at is ds (k + 1)) (spread is ds) (omega (arith, next)) narrow);
    })
