-- A number's bytes give the number back.
use Rattle.std.proofs.Common.{◌≡◌, ℕ, ◌+◌, ◌<◌, ◌≤◌, ℤ, pos, negsuc, List, [], ◌∷◌, ◌++◌, length, length-append, map, take, drop, get_or, arith, refl, ap, ap₂, sym, ◌∙◌, All}
use Rattle.std.specs.Prelude.{slice_set}
use Rattle.std.specs.List.{flat_map}
use Rattle.std.proofs.lemmas.List.{append_assoc, length-map, map-append, map-set, map_more, take_more_set, take_all}
use Rattle.std.proofs.Math.Seq.{drop-append_seam, take-append_seam}
use Rattle.std.proofs.lemmas.List.Elements.{All-append, All-map, All-set, All-head, All-tail}
use Rattle.std.proofs.lemmas.Int.{ints}
use Rattle.std.proofs.lemmas.Nat.{from_le_bytes-to_le_bytes_2, from_le_bytes-to_le_bytes_4, from_le_bytes-to_le_bytes_8}
use Rattle.std.specs.Int.{w8, to_le_bytes, from_le_bytes}
use Rattle.pdl_elem.specs.declared.Ty.{Ty}
use Rattle.pdl_elem.specs.declared.Ty.TheVariants.{Sbyte, Byte, Short, Ushort, Long, Ulong, Longlong}
use Rattle.pdl_elem.specs.Types.{InRange}
use Rattle.pdl_elem.specs.Numbers.{count_of, wrapped, pattern}
use Rattle.pdl_numbers.specs.Bytes.{bytes_of, number_of, IsPacked, ArePacked}

-- a number of the type is what its pattern is wrapped to
pattern_again : (t : Ty) (n : ℤ) → InRange t n → wrapped t (pos (pattern t n)) ≡ n
pattern_again Sbyte (pos n) r = omega (arith, ints, r.0, r.1)
pattern_again Sbyte (negsuc n) r = omega (arith, ints, r.0, r.1)
pattern_again Byte (pos n) r = omega (arith, ints, r.0, r.1)
pattern_again Byte (negsuc n) r = absurd (omega (arith, ints, r.0, r.1))
pattern_again Short (pos n) r = omega (arith, ints, r.0, r.1)
pattern_again Short (negsuc n) r = omega (arith, ints, r.0, r.1)
pattern_again Ushort (pos n) r = omega (arith, ints, r.0, r.1)
pattern_again Ushort (negsuc n) r = absurd (omega (arith, ints, r.0, r.1))
pattern_again Long (pos n) r = omega (arith, ints, r.0, r.1)
pattern_again Long (negsuc n) r = omega (arith, ints, r.0, r.1)
pattern_again Ulong (pos n) r = omega (arith, ints, r.0, r.1)
pattern_again Ulong (negsuc n) r = absurd (omega (arith, ints, r.0, r.1))
pattern_again Longlong (pos n) r = omega (arith, ints, r.0, r.1)
pattern_again Longlong (negsuc n) r = omega (arith, ints, r.0, r.1)

-- a pattern fits the word
pattern_small : (t : Ty) (n : ℤ) → pattern t n < count_of t
pattern_small Sbyte (pos n) = omega arith
pattern_small Sbyte (negsuc n) = omega arith
pattern_small Byte (pos n) = omega arith
pattern_small Byte (negsuc n) = omega arith
pattern_small Short (pos n) = omega arith
pattern_small Short (negsuc n) = omega arith
pattern_small Ushort (pos n) = omega arith
pattern_small Ushort (negsuc n) = omega arith
pattern_small Long (pos n) = omega arith
pattern_small Long (negsuc n) = omega arith
pattern_small Ulong (pos n) = omega arith
pattern_small Ulong (negsuc n) = omega arith
pattern_small Longlong (pos n) = omega arith
pattern_small Longlong (negsuc n) = omega arith

one_byte : (n : ℕ) → n < 256 → from_le_bytes w8 (to_le_bytes w8 n) ≡ n
one_byte n h = omega arith

word_again : (t : Ty) (n : ℤ) → number_of t (bytes_of t n) ≡ wrapped t (pos (pattern t n))
word_again Sbyte n = ap (λ k. wrapped Sbyte (pos k)) (one_byte (pattern Sbyte n) (pattern_small Sbyte n))
word_again Byte n = ap (λ k. wrapped Byte (pos k)) (one_byte (pattern Byte n) (pattern_small Byte n))
word_again Short n = ap (λ k. wrapped Short (pos k)) (from_le_bytes-to_le_bytes_2 (pattern Short n) (pattern_small Short n))
word_again Ushort n = ap (λ k. wrapped Ushort (pos k)) (from_le_bytes-to_le_bytes_2 (pattern Ushort n) (pattern_small Ushort n))
word_again Long n = ap (λ k. wrapped Long (pos k)) (from_le_bytes-to_le_bytes_4 (pattern Long n) (pattern_small Long n))
word_again Ulong n = ap (λ k. wrapped Ulong (pos k)) (from_le_bytes-to_le_bytes_4 (pattern Ulong n) (pattern_small Ulong n))
word_again Longlong n = ap (λ k. wrapped Longlong (pos k)) (from_le_bytes-to_le_bytes_8 (pattern Longlong n) (pattern_small Longlong n))

pub number_again : (t : Ty) (n : ℤ) → InRange t n → number_of t (bytes_of t n) ≡ n
number_again t n r = word_again t n ∙ pattern_again t n r

-- the bytes of a number of the type are packed
pub packed_again : (t : Ty) (n : ℤ) (bytes : List ℕ) → InRange t n → bytes ≡ bytes_of t n → IsPacked t bytes
packed_again t n bytes r e = ap (λ (b : List ℕ). bytes_of t (number_of t b)) e ∙ ap (bytes_of t) (number_again t n r) ∙ sym e

-- ---- lists of them

pub all_packed : (t : Ty) (es : List ℤ) → All (InRange t) es → ArePacked t (map (bytes_of t) es)
all_packed t es all = All-map (IsPacked t) (bytes_of t) es (λ k d h. packed_again t (get_or es k d) _ (all k d h) refl)

pub all_again : (t : Ty) (es : List ℤ) → All (InRange t) es → map (number_of t) (map (bytes_of t) es) ≡ es
all_again t [] all = refl
all_again t (e ∷ es) all = ap₂ ◌∷◌ (number_again t e (All-head (InRange t) e es all)) (all_again t es (All-tail (InRange t) e es all))

pub set_packed : (t : Ty) (cells : List (List ℕ)) (p : ℕ) (n : ℤ) (bytes : List ℕ) → InRange t n → bytes ≡ bytes_of t n → ArePacked t cells → ArePacked t (slice_set cells p bytes)
set_packed t cells p n bytes r e all = All-set (IsPacked t) cells p bytes (packed_again t n bytes r e) all

pub set_number : (t : Ty) (cells : List (List ℕ)) (p : ℕ) (n : ℤ) (bytes : List ℕ) → InRange t n → bytes ≡ bytes_of t n
    → map (number_of t) (slice_set cells p bytes) ≡ slice_set (map (number_of t) cells) p n
set_number t cells p n bytes r e = map-set (number_of t) cells p bytes ∙ ap (slice_set (map (number_of t) cells) p) (ap (number_of t) e ∙ number_again t n r)

-- packed bytes are those of their numbers
pub bytes_are : (t : Ty) (cells : List (List ℕ)) → ArePacked t cells → flat_map (λ x. x) cells ≡ flat_map (bytes_of t) (map (number_of t) cells)
bytes_are t [] all = refl
bytes_are t (c ∷ cells) all = ap₂ ◌++◌ (sym (All-head (IsPacked t) c cells all)) (bytes_are t cells (All-tail (IsPacked t) c cells all))

-- ---- a list that is set from the front to what another one gives

pub set_more : {X Y : Type 0} (f : X → Y) (ys : List Y) (xs : List X) (i : ℕ) (d : X) (y : Y) → i < length xs → length ys ≡ length xs
    → y ≡ f (get_or xs i d) → take i ys ≡ map f (take i xs) → take (i + 1) (slice_set ys i y) ≡ map f (take (i + 1) xs)
set_more {Y = Y} f ys xs i d y h same e before =
    take_more_set ys i y (omega arith) ∙ ap₂ (λ (front : List Y) (b : Y). front ++ b ∷ []) before e ∙ sym (map_more f xs i d h)

pub set_all : {X Y : Type 0} (f : X → Y) (ys : List Y) (xs : List X) (i : ℕ) → length xs ≤ i → length ys ≡ length xs → take i ys ≡ map f (take i xs) → ys ≡ map f xs
set_all f ys xs i h same e = sym (take_all i ys (omega arith)) ∙ e ∙ ap (map f) (take_all i xs h)

-- ---- a list that is packed onto others

-- what stands before the last cells that were set, and these
pub keep_two : {X : Type 0} (before set post rest : List X) (n : ℕ) → length before + length set ≡ n → take n (before ++ (set ++ post) ++ rest) ≡ before ++ set
keep_two before set post rest n e =
    ap (take n) (append_assoc before (set ++ post) rest ∙ ap (λ xs. before ++ xs) (append_assoc set post rest) ∙ sym (append_assoc before set (post ++ rest)))
    ∙ ap (λ (k : ℕ). take k (before ++ set ++ (post ++ rest))) (sym (length-append before set ∙ e))
    ∙ take-append_seam (before ++ set) (post ++ rest)

pub packed_onto : (t : Ty) (cells : List (List ℕ)) (es : List ℤ) → ArePacked t cells → All (InRange t) es → ArePacked t (cells ++ map (bytes_of t) es)
packed_onto t cells es packed all = All-append (IsPacked t) cells (map (bytes_of t) es) packed (all_packed t es all)

pub numbers_onto : (t : Ty) (cells : List (List ℕ)) (es : List ℤ) → All (InRange t) es → map (number_of t) (cells ++ map (bytes_of t) es) ≡ map (number_of t) cells ++ es
numbers_onto t cells es all = map-append (number_of t) cells (map (bytes_of t) es) ∙ ap (λ (ns : List ℤ). map (number_of t) cells ++ ns) (all_again t es all)

-- what is kept, once the last cells are packed
pub extended : (t : Ty) (old resized now set post rest fill : List (List ℕ)) (es : List ℤ) (s k n : ℕ) → length old ≡ s → s ≤ k → s + length es ≡ n → resized ≡ take k old ++ fill → now ≡ resized
    → set ≡ map (bytes_of t) es → take n (take s now ++ (set ++ post) ++ rest) ≡ old ++ map (bytes_of t) es
extended t old resized now set post rest fill es s k n l h m r e p =
    let all : now ≡ old ++ fill = e ∙ r ∙ ap (λ xs. xs ++ fill) (take_all k old (omega (arith, l, h))) in
    let front : take s now ≡ old = ap (take s) all ∙ ap (λ (k : ℕ). take k (old ++ fill)) (sym l) ∙ take-append_seam old fill in
    let packed : length (map (bytes_of t) es) ≡ length es = simp length-map in
    keep_two (take s now) set post rest n (omega (arith, ap length front, l, m, ap length p, packed)) ∙ ap₂ (λ xs ys. xs ++ ys) front p

-- ---- cells that were put behind others

pub put_behind : {X : Type 0} (old now new : List X) (s n : ℕ) → length old ≡ s → now ≡ old ++ new → length now ≤ s + n → take n (drop s now) ≡ new
put_behind old now new s n l e h =
    ap₂ (λ k xs. take n (drop k xs)) (sym l) e ∙ ap (take n) (drop-append_seam old new)
    ∙ take_all n new (omega (arith, h, l, ap length e, length-append old new))

-- what is kept, once those are changed
pub changed_behind : (t : Ty) (old grown now set post rest new : List (List ℕ)) (es : List ℤ) (s n : ℕ) → length old ≡ s → s + length es ≡ n → grown ≡ old ++ new → now ≡ grown
    → set ≡ map (bytes_of t) es → take n (take s now ++ (set ++ post) ++ rest) ≡ old ++ map (bytes_of t) es
changed_behind t old grown now set post rest new es s n l m r e p =
    extended t old grown now set post rest new es s s n l (omega arith) m (r ∙ ap (λ xs. xs ++ new) (sym (take_all s old (omega (arith, l))))) e p
