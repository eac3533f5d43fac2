-- Coordinates that move on to those of the next position.
use Rattle.std.proofs.Common.{◌≡◌, ℕ, zero, suc, ◌+◌, ◌*◌, ◌/◌, ◌%◌, ◌<◌, ◌≤◌, List, [], ◌∷◌, ◌++◌, length, get_or, set, take, drop, refl, ap, sym, ◌∙◌, arith, append_assoc, append-nil, length-set, mod-lt}
use Rattle.std.proofs.Math.Nat.{add-mul-div_left, add-mul-mod_self_left, div-eq_of_lt, mod-eq_of_lt, mod-add-div}
use Rattle.std.proofs.lemmas.List.{at_drop_all, at_drop_more, drop-set-lt, take_all, take_more_set, take-append-drop}
use Rattle.pdl_shape.specs.Laws.{PositionLaws}
use Rattle.pdl_shape.specs.Shape.{IsWithin, coordinates_of, position_of}

-- a row and a place in it
pub quotient : (c d q n : ℕ) → c < d → n ≡ c + d * q → n / d ≡ q
quotient c d q n h is = ap (λ m. m / d) is ∙ add-mul-div_left c q {y = d} (omega arith) ∙ omega (arith, div-eq_of_lt h)

pub remainder : (c d q n : ℕ) → c < d → n ≡ c + d * q → n % d ≡ c
remainder c d q n h is = ap (λ m. m % d) is ∙ add-mul-mod_self_left c d q ∙ mod-eq_of_lt h

more_rows : (d q : ℕ) → d * (q + 1) ≡ d * q + d
more_rows d q = omega arith

-- a number is a row and a place in it: the next is in the same row, or at the start of the next row
next_in_row : (d q : ℕ) → q + 1 ≡ (q % d + 1) + d * (q / d)
next_in_row d q = omega (arith, mod-add-div q d)

next_row : (d q : ℕ) → 0 < d → d ≤ q % d + 1 → q + 1 ≡ 0 + d * (q / d + 1)
next_row d q some past = omega (arith, next_in_row d q, mod-lt q some, more_rows d (q / d))

abbrev others : List ℕ → List ℕ
others [] = []
others (c ∷ cs) = cs

abbrev front : List ℕ → ℕ
front [] = 0
front (c ∷ cs) = c

-- the next remainder is that of the next number
pub next_remainder : (q d : ℕ) → (q % d + 1) % d ≡ (q + 1) % d
next_remainder q d = sym (ap (λ n. n % d) (next_in_row d q) ∙ add-mul-mod_self_left (q % d + 1) d (q / d))

pub last_remainder : (n d : ℕ) → n < d → d ≤ n + 1 → 0 ≡ (n + 1) % d
last_remainder n d h past = sym (remainder 0 d 1 (n + 1) (omega arith) (omega arith))

-- the dimensions below i have rolled over, on the way to the coordinates of position p + 1
pub record Carried (i : ℕ) (now ds : List ℕ) (p : ℕ) : Type 0 where
  pub number : ℕ
  pub long : length now ≡ length ds
  pub rest : drop i now ≡ coordinates_of (drop i ds) number
  pub goal : coordinates_of ds (p + 1) ≡ take i now ++ coordinates_of (drop i ds) (number + 1)

pub carried_none : PositionLaws → (old ds : List ℕ) → IsWithin ds old → Carried 0 old ds (position_of ds old)
carried_none positions old ds w = record {
  number = position_of ds old;
  long = omega (arith, positions.as_many ds old w);
  rest = sym (positions.coordinates_again ds old w);
  goal = refl;
}

-- a coordinate is below its size
pub within_at : (ds cs : List ℕ) (i : ℕ) → IsWithin ds cs → i < length ds → get_or cs i 0 < get_or ds i 0
within_at [] cs i w h = absurd (omega arith)
within_at (d ∷ ds) [] i w h = absurd w
within_at (d ∷ ds) (c ∷ cs) zero w h = w.0
within_at (d ∷ ds) (c ∷ cs) (suc i) w h = within_at ds cs i w.1 (omega arith)

-- what the code sees along dimension i
pub record Shown (i : ℕ) (now ds : List ℕ) (p number : ℕ) : Type 0 where
  pub inside : i < length now
  pub some : 0 < get_or ds i 0
  pub here : get_or now i 0 ≡ number % get_or ds i 0
  pub below : get_or now i 0 < get_or ds i 0
  pub after : drop (i + 1) now ≡ coordinates_of (drop (i + 1) ds) (number / get_or ds i 0)
  pub goal : coordinates_of ds (p + 1) ≡ take i now ++ ((number + 1) % get_or ds i 0 ∷ coordinates_of (drop (i + 1) ds) ((number + 1) / get_or ds i 0))

pub shown : (i : ℕ) (now old ds : List ℕ) (p : ℕ) → IsWithin ds old → i < length ds → (c : Carried i now ds p) → Shown i now ds p c.number
shown i now old ds p w h c =
    let inside : i < length now = omega (arith, c.long) in
    let some : 0 < get_or ds i 0 = omega (arith, within_at ds old i w h) in
    let both : get_or now i 0 ∷ drop (i + 1) now ≡ c.number % get_or ds i 0 ∷ coordinates_of (drop (i + 1) ds) (c.number / get_or ds i 0) =
    sym (at_drop_more (λ rest. rest) now i 0 inside) ∙ c.rest ∙ at_drop_more (λ rest. coordinates_of rest c.number) ds i 0 h in
    let here : get_or now i 0 ≡ c.number % get_or ds i 0 = ap front both in
    record {
      inside = inside;
      some = some;
      here = here;
      below = omega (arith, here, mod-lt c.number some);
      after = ap others both;
      goal = c.goal ∙ ap (λ back. take i now ++ back) (at_drop_more (λ rest. coordinates_of rest (c.number + 1)) ds i 0 h);
    }

-- dimension i rolls over too
pub carried_more : (i : ℕ) (now old ds : List ℕ) (p : ℕ) → IsWithin ds old → i < length ds → get_or ds i 0 ≤ get_or now i 0 + 1 → Carried i now ds p → Carried (i + 1) (set now i 0) ds p
carried_more i now old ds p w h past c =
    let s = shown i now old ds p w h c in
    let is : c.number + 1 ≡ 0 + get_or ds i 0 * (c.number / get_or ds i 0 + 1) = next_row (get_or ds i 0) c.number s.some (omega (arith, s.here)) in
    record {
      number = c.number / get_or ds i 0;
      long = length-set now i 0 ∙ c.long;
      rest = drop-set-lt (i + 1) now i 0 (omega arith) ∙ s.after;
      goal = s.goal
          ∙ ap (λ n. take i now ++ (n ∷ coordinates_of (drop (i + 1) ds) ((c.number + 1) / get_or ds i 0))) (remainder 0 (get_or ds i 0) (c.number / get_or ds i 0 + 1) (c.number + 1) s.some is)
          ∙ ap (λ n. take i now ++ (0 ∷ coordinates_of (drop (i + 1) ds) n)) (quotient 0 (get_or ds i 0) (c.number / get_or ds i 0 + 1) (c.number + 1) s.some is)
          ∙ sym (append_assoc (take i now) (0 ∷ []) _)
          ∙ ap (λ before. before ++ coordinates_of (drop (i + 1) ds) (c.number / get_or ds i 0 + 1)) (sym (take_more_set now i 0 s.inside));
    }

-- dimension i moves on
pub moved_on : (i : ℕ) (now old ds : List ℕ) (p : ℕ) → IsWithin ds old → i < length ds → get_or now i 0 + 1 < get_or ds i 0 → Carried i now ds p → set now i (get_or now i 0 + 1) ≡ coordinates_of ds (p + 1)
moved_on i now old ds p w h below c =
    let s = shown i now old ds p w h c in
    let is : c.number + 1 ≡ (get_or now i 0 + 1) + get_or ds i 0 * (c.number / get_or ds i 0) = next_in_row (get_or ds i 0) c.number ∙ ap (λ n. (n + 1) + get_or ds i 0 * (c.number / get_or ds i 0)) (sym s.here) in
    let v = get_or now i 0 + 1 in
    sym (take-append-drop (i + 1) (set now i v))
    ∙ ap (λ before. before ++ drop (i + 1) (set now i v)) (take_more_set now i v s.inside)
    ∙ ap (λ back. (take i now ++ v ∷ []) ++ back) (drop-set-lt (i + 1) now i v (omega arith) ∙ s.after)
    ∙ append_assoc (take i now) (v ∷ []) _
    ∙ ap (λ n. take i now ++ (v ∷ coordinates_of (drop (i + 1) ds) n)) (sym (quotient v (get_or ds i 0) (c.number / get_or ds i 0) (c.number + 1) below is))
    ∙ ap (λ n. take i now ++ (n ∷ coordinates_of (drop (i + 1) ds) ((c.number + 1) / get_or ds i 0))) (sym (remainder v (get_or ds i 0) (c.number / get_or ds i 0) (c.number + 1) below is))
    ∙ sym s.goal

-- all dimensions roll over
pub all_carried : (i : ℕ) (now ds : List ℕ) (p : ℕ) → length ds ≤ i → Carried i now ds p → now ≡ coordinates_of ds (p + 1)
all_carried i now ds p end c =
    sym (take_all i now (omega (arith, c.long)))
    ∙ sym (append-nil (take i now))
    ∙ ap (λ back. take i now ++ back) (sym (at_drop_all (λ rest. coordinates_of rest (c.number + 1)) ds i end))
    ∙ sym c.goal

-- a round is one of those that the positions need, and all of them have each position
pub rounds_below : (count each n total r : ℕ) → count ≡ each * n → (each ≡ 0 → total ≡ 0) → (0 < each → total ≡ count / each) → r < total → (0 < each) × (r < n)
rounds_below count zero n total r is none some h = absurd (omega (arith, none refl))
rounds_below count (suc each) n total r is none some h =
    (omega arith, omega (arith, some (omega arith), quotient 0 (suc each) n count (omega arith) (omega (arith, is))))

pub rounds_all : (count each n total r : ℕ) → count ≡ each * n → (each ≡ 0 → total ≡ 0) → (0 < each → total ≡ count / each) → total ≤ r → r ≤ total → each * r ≡ count
rounds_all count zero n total r is none some end long = omega (arith, is)
rounds_all count (suc each) n total r is none some end long =
    let all : r ≡ n = omega (arith, some (omega arith), quotient 0 (suc each) n count (omega arith) (omega (arith, is))) in
    ap (λ m. suc each * m) all ∙ sym is
