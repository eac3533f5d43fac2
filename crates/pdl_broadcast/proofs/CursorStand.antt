-- Where a walk and its arguments stand.
use Rattle.std.proofs.Common.{◌≡◌, ◌≢◌, ℕ, zero, suc, ◌+◌, ◌*◌, ◌<◌, ◌≤◌, Bool, true, false, nat_lt, ◌==◌, ℤ, pos, ◌+ℤ◌, List, [], ◌∷◌, ◌++◌, length, get_or, map, replicate, refl, ap, sym, ◌∙◌, subst, arith, ⊎_elim, slice_get, IfSome, if◌then◌else◌}
use Rattle.std.specs.List.{AllZip}
use Rattle.std.proofs.lemmas.Bool.Decides.{nat_tests}
use Rattle.std.proofs.lemmas.Bool.{cases_lt, lt-ltb, le-ltb}
use Rattle.std.proofs.Math.IntN.{+ℤ_assoc, *ℤ-zero}
use Rattle.std.proofs.Math.Nat.{mul-le-mul}
use Rattle.std.proofs.lemmas.Int.{ints}
use Rattle.pdl_lemmas.specs.Numbers.{abs_pos}
use Rattle.pdl_broadcast.specs.Cursor.{CanJump, Follows, Stands, jumped, landing, next_of, rolled_of}
use Rattle.pdl_broadcast.specs.declared.cursors.Cursor.{Cursor}
use Rattle.pdl_shape.specs.Broadcast.{cut_to}
use Rattle.pdl_shape.specs.Laws.{CutsWithin, PositionLaws}
use Rattle.pdl_shape.specs.Shape.{IsWithin, position_of, size_of}
use Rattle.pdl_shape.specs.Triple.{IsPlace, Triple, moved, place_of}
use Rattle.pdl_broadcast.proofs.CursorJumps.{left_over}

-- the next coordinates lie within the sizes, one position further, where some dimension moves on
pub record Further (ds cs : List ℕ) : Type 0 where
  pub within : IsWithin ds (next_of ds cs)
  pub further : position_of ds (next_of ds cs) ≡ position_of ds cs + 1

further_on : (d : ℕ) (ds : List ℕ) (c : ℕ) (cs : List ℕ) → IsWithin (d ∷ ds) (c ∷ cs) → c + 1 < d → Further (d ∷ ds) (c ∷ cs)
further_on d ds c cs w less = record {
  within = rw (lt-ltb (c + 1) d less) (less, w.1);
  further = rw (lt-ltb (c + 1) d less) (omega arith);
}

further_over : (d : ℕ) (ds : List ℕ) (c : ℕ) (cs : List ℕ) → IsWithin (d ∷ ds) (c ∷ cs) → d ≤ c + 1 → Further ds cs → Further (d ∷ ds) (c ∷ cs)
further_over d ds c cs w more f =
    let last : c + 1 ≡ d = omega (arith, w.0) in
    record {
      within = rw (le-ltb (c + 1) d more) (omega (arith, w.0), f.within);
      further = rw (le-ltb (c + 1) d more, f.further) (omega arith);
    }

not_all : (r n : ℕ) (t : Bool) → t ≡ true → suc n ≤ (if t then 0 else suc r) → ⊥
not_all r n t e h = let P : Bool → Type 0 = λ b. suc n ≤ (if b then 0 else suc r) in let k : suc n ≤ 0 = subst P e h in omega arith

all_left : (r n : ℕ) (t : Bool) → t ≡ false → suc n ≤ (if t then 0 else suc r) → n ≤ r
all_left r n t e h = let P : Bool → Type 0 = λ b. suc n ≤ (if b then 0 else suc r) in let k : suc n ≤ suc r = subst P e h in omega arith

last_over : (c d p s : ℕ) → c < d → d ≤ c + 1 → p + 1 ≡ s → c + d * p + 1 ≡ d * s
last_over c d p s low high e = let last : d ≡ c + 1 = omega arith in rw (← e) (omega arith)

pub further : (ds cs : List ℕ) → IsWithin ds cs → rolled_of ds cs < length ds → Further ds cs
further [] cs w r = absurd (omega arith)
further (d ∷ ds) [] w r = absurd w
further (d ∷ ds) (c ∷ cs) w r = ⊎_elim (λ less. further_on d ds c cs w less) (λ more. further_over d ds c cs w more (further ds cs w.1 (left_over (rolled_of ds cs) (length ds) (nat_lt (c + 1) d) (le-ltb (c + 1) d more) r))) (cases_lt (c + 1) d)

-- where all dimensions roll over, the last position is left
pub last_left : (ds cs : List ℕ) → IsWithin ds cs → length ds ≤ rolled_of ds cs → position_of ds cs + 1 ≡ size_of ds
last_left [] [] w r = refl
last_left [] (c ∷ cs) w r = absurd w
last_left (d ∷ ds) [] w r = absurd w
last_left (d ∷ ds) (c ∷ cs) w r = ⊎_elim (λ less. absurd (not_all (rolled_of ds cs) (length ds) (nat_lt (c + 1) d) (lt-ltb (c + 1) d less) r)) (λ more. last_over c d (position_of ds cs) (size_of ds) w.0 more (last_left ds cs w.1 (all_left (rolled_of ds cs) (length ds) (nat_lt (c + 1) d) (le-ltb (c + 1) d more) r))) (cases_lt (c + 1) d)

pub next_length : PositionLaws → (ds cs : List ℕ) → IsWithin ds cs → length (next_of ds cs) ≡ length ds
next_length laws [] cs w = refl
next_length laws (d ∷ ds) [] w = absurd w
next_length laws (d ∷ ds) (c ∷ cs) w = ⊎_elim (λ less. rw (lt-ltb (c + 1) d less) (ap suc (laws.as_many ds cs w.1))) (λ more. rw (le-ltb (c + 1) d more) (ap suc (next_length laws ds cs w.1))) (cases_lt (c + 1) d)

-- as many zeros as sizes are the first coordinates
pub zeros_within : (ds : List ℕ) → size_of ds ≢ 0 → IsWithin ds (replicate (length ds) 0)
zeros_within [] h = tt
zeros_within (zero ∷ ds) h = absurd (h (omega arith))
zeros_within (suc d ∷ ds) h = (omega arith, zeros_within ds (λ z. h (rw z (omega arith))))

pub zeros_first : (ds : List ℕ) → position_of ds (replicate (length ds) 0) ≡ 0
zeros_first [] = refl
zeros_first (d ∷ ds) = rw (zeros_first ds) (omega arith)

-- at the first position an argument is at its offset
cut_zero : (d : ℕ) → ◌≡◌ {A = ℕ} (if d == 1 then 0 else 0) 0
cut_zero d = grind (arith, nat_tests)

moved_nowhere : (is : List ℤ) → moved is [] ≡ pos 0
moved_nowhere [] = refl
moved_nowhere (i ∷ is) = refl

first_none : (c j p : ℕ) → c < j → c + j * p ≡ 0 → p ≡ 0
first_none c j p h e = omega (arith, mul-le-mul {n₁ = 1} {m₁ = p} {n₂ = j} {m₂ = p} (omega arith) (omega arith))

pub first_place : (is : List ℤ) (ds js cs : List ℕ) → IsWithin js cs → position_of js cs ≡ 0 → moved is (cut_to ds cs) ≡ pos 0
first_place is [] js cs w z = moved_nowhere is
first_place is (d ∷ ds) js [] w z = moved_nowhere is
first_place [] (d ∷ ds) js (c ∷ cs) w z = refl
first_place (i ∷ is) (d ∷ ds) [] (c ∷ cs) w z = absurd w
first_place (i ∷ is) (d ∷ ds) (j ∷ js) (c ∷ cs) w z =
    let none : c ≡ 0 = omega arith in
    rw (none, cut_zero d, *ℤ-zero i, first_place is ds js cs w.1 (first_none c j (position_of js cs) w.0 z)) refl

-- where an argument lands that follows the walk and stands
lands : (walk cs : List ℕ) (t : Triple) (cursor : Cursor) → IsWithin walk cs → rolled_of walk cs < length walk → Follows walk t cursor → Stands cs t cursor → landing (rolled_of walk cs) cursor ≡ place_of t (cut_to t.dims (next_of walk cs))
lands walk cs t cursor w r f s =
    ap (λ z. z +ℤ get_or cursor.jumps (rolled_of walk cs) (pos 0)) s
    ∙ +ℤ_assoc (pos t.offset) (moved t.incs (cut_to t.dims cs)) (get_or cursor.jumps (rolled_of walk cs) (pos 0))
    ∙ ap (λ z. pos t.offset +ℤ z) (sym (f.jumping cs w r))

lands_inside : CutsWithin → (walk cs : List ℕ) (t : Triple) (cursor : Cursor) → IsWithin walk cs → rolled_of walk cs < length walk → Follows walk t cursor → Stands cs t cursor → IsPlace (landing (rolled_of walk cs) cursor)
lands_inside cuts walk cs t cursor w r f s =
    subst IsPlace (sym (lands walk cs t cursor w r f s)) (f.sound.reachable _ (cuts t.dims walk (next_of walk cs) f.stretched (further walk cs w r).within))

place_below : (n : ℕ) (z : ℤ) → pos n ≡ z → IsPlace z → n < 1048576
place_below n z e p = let q : IsPlace (pos n) = subst IsPlace (sym e) p in omega (arith, ints, q.high)

pub stands_below : CutsWithin → (walk cs : List ℕ) (t : Triple) (cursor : Cursor) → IsWithin walk cs → Follows walk t cursor → Stands cs t cursor → cursor.place < 1048576
stands_below cuts walk cs t cursor w f s = place_below cursor.place _ s (f.sound.reachable _ (cuts t.dims walk cs f.stretched w))

pub follows_can : CutsWithin → (walk cs : List ℕ) (t : Triple) (cursor : Cursor) → IsWithin walk cs → rolled_of walk cs < length walk → Follows walk t cursor → Stands cs t cursor → CanJump (rolled_of walk cs) cursor
follows_can cuts walk cs t cursor w r f s = (stands_below cuts walk cs t cursor w f s, lands_inside cuts walk cs t cursor w r f s)

pub follows_stands : CutsWithin → (walk cs : List ℕ) (t : Triple) (cursor : Cursor) → IsWithin walk cs → rolled_of walk cs < length walk → Follows walk t cursor → Stands cs t cursor → Stands (next_of walk cs) t (jumped (rolled_of walk cs) cursor)
follows_stands cuts walk cs t cursor w r f s = abs_pos _ (lands_inside cuts walk cs t cursor w r f s).low ∙ lands walk cs t cursor w r f s

-- the same for all arguments
pub all_can : CutsWithin → (walk cs : List ℕ) (ts : List Triple) (cursors : List Cursor) → IsWithin walk cs → rolled_of walk cs < length walk → AllZip (Follows walk) ts cursors → AllZip (Stands cs) ts cursors → (k : ℕ) (d : Cursor) → k < length cursors → CanJump (rolled_of walk cs) (get_or cursors k d)
all_can cuts walk cs [] [] w r f s k d h = absurd (omega arith)
all_can cuts walk cs [] (y ∷ ys) w r f s k d h = absurd f
all_can cuts walk cs (t ∷ ts) [] w r f s k d h = absurd f
all_can cuts walk cs (t ∷ ts) (y ∷ ys) w r f s zero d h = follows_can cuts walk cs t y w r f.0 s.0
all_can cuts walk cs (t ∷ ts) (y ∷ ys) w r f s (suc k) d h = all_can cuts walk cs ts ys w r f.1 s.1 k d (omega arith)

pub all_stand : CutsWithin → (walk cs : List ℕ) (ts : List Triple) (cursors : List Cursor) → IsWithin walk cs → rolled_of walk cs < length walk → AllZip (Follows walk) ts cursors → AllZip (Stands cs) ts cursors → AllZip (Stands (next_of walk cs)) ts (map (jumped (rolled_of walk cs)) cursors)
all_stand cuts walk cs [] [] w r f s = tt
all_stand cuts walk cs [] (y ∷ ys) w r f s = absurd f
all_stand cuts walk cs (t ∷ ts) [] w r f s = absurd f
all_stand cuts walk cs (t ∷ ts) (y ∷ ys) w r f s = (follows_stands cuts walk cs t y w r f.0 s.0, all_stand cuts walk cs ts ys w r f.1 s.1)

pub all_follow : (walk : List ℕ) (k : ℕ) (ts : List Triple) (cursors : List Cursor) → AllZip (Follows walk) ts cursors → AllZip (Follows walk) ts (map (jumped k) cursors)
all_follow walk k [] [] f = tt
all_follow walk k [] (y ∷ ys) f = absurd f
all_follow walk k (t ∷ ts) [] f = absurd f
all_follow walk k (t ∷ ts) (y ∷ ys) f = (record { stretched = f.0.stretched; sound = f.0.sound; jumping = f.0.jumping }, all_follow walk k ts ys f.1)

-- one more argument
pub zip_push : (R : Triple → Cursor → Type 0) (ts : List Triple) (cursors : List Cursor) (t : Triple) (c : Cursor) → AllZip R ts cursors → R t c → AllZip R (ts ++ t ∷ []) (cursors ++ c ∷ [])
zip_push R [] [] t c a r = (r, tt)
zip_push R [] (y ∷ ys) t c a r = absurd a
zip_push R (x ∷ xs) [] t c a r = absurd a
zip_push R (x ∷ xs) (y ∷ ys) t c a r = (a.0, zip_push R xs ys t c a.1 r)

pub zip_long : (R : Triple → Cursor → Type 0) (ts : List Triple) (cursors : List Cursor) → AllZip R ts cursors → length cursors ≡ length ts
zip_long R [] [] a = refl
zip_long R [] (y ∷ ys) a = absurd a
zip_long R (x ∷ xs) [] a = absurd a
zip_long R (x ∷ xs) (y ∷ ys) a = ap suc (zip_long R xs ys a.1)

-- what holds of an argument and its cursor
pub zip_at : (R : Triple → Cursor → Type 0) (ts : List Triple) (cursors : List Cursor) (k : ℕ) (c : Cursor) → AllZip R ts cursors → k < length ts → c ≡ get_or cursors k c → IfSome (slice_get ts k) (λ t. R t c)
zip_at R [] cursors k c a h e = absurd (omega arith)
zip_at R (x ∷ xs) [] k c a h e = absurd a
zip_at R (x ∷ xs) (y ∷ ys) zero c a h e = subst (R x) (sym e) a.0
zip_at R (x ∷ xs) (y ∷ ys) (suc k) c a h e = zip_at R xs ys k c a.1 (omega arith) e
