-- The increments of a stretched window.
use Rattle.std.proofs.Common.{◌≡◌, ◌≢◌, ℕ, zero, suc, ◌+◌, ◌-◌, ◌*◌, ◌<◌, ◌≤◌, ◌==◌, ℤ, pos, ◌+ℤ◌, ◌*ℤ◌, List, [], ◌∷◌, ◌++◌, length, take, get_or, refl, ap, ap₂, sym, ◌∙◌, subst, arith, unsigned_abs, if◌then◌else◌}
use Rattle.std.proofs.lemmas.Bool.Decides.{nat_tests}
use Rattle.std.proofs.lemmas.Int.{ints}
use Rattle.std.proofs.lemmas.List.{take_more, take_all, length-take-le}
use Rattle.pdl_shape.specs.Broadcast.{BroadcastsTo, cut_to}
use Rattle.pdl_shape.specs.Shape.{IsWithin}
use Rattle.pdl_shape.specs.Triple.{Triple, moved, place_of, IsPlace, spread, IsTriple}
use Rattle.pdl_shape.proofs.BroadcastLemmas.{cut_within}

-- along each joined dimension the window's increment, and 0 where its size is 1 or missing
abbrev pub stretched_incs : List ℤ → List ℕ → List ℕ → List ℤ
stretched_incs is ds [] = []
stretched_incs is [] (j ∷ js) = pos 0 ∷ stretched_incs is [] js
stretched_incs [] (d ∷ ds) (j ∷ js) = pos 0 ∷ stretched_incs [] ds js
stretched_incs (i ∷ is) (d ∷ ds) (j ∷ js) = (if d == 1 then pos 0 else i) ∷ stretched_incs is ds js

pub stretched_length : (is : List ℤ) (ds js : List ℕ) → length (stretched_incs is ds js) ≡ length js
stretched_length is ds [] = refl
stretched_length is [] (j ∷ js) = ap suc (stretched_length is [] js)
stretched_length [] (d ∷ ds) (j ∷ js) = ap suc (stretched_length [] ds js)
stretched_length (i ∷ is) (d ∷ ds) (j ∷ js) = ap suc (stretched_length is ds js)

missing_at : (is : List ℤ) (js : List ℕ) (k : ℕ) → get_or (stretched_incs is [] js) k (pos 0) ≡ pos 0
missing_at is [] k = refl
missing_at is (j ∷ js) zero = refl
missing_at is (j ∷ js) (suc k) = missing_at is js k

pub stretched_at : (is : List ℤ) (ds js : List ℕ) (k : ℕ) → k < length js → length is ≡ length ds
    → get_or (stretched_incs is ds js) k (pos 0) ≡ (if get_or ds k 1 == 1 then pos 0 else get_or is k (pos 0))
stretched_at is ds [] k h e = absurd (omega arith)
stretched_at is [] (j ∷ js) k h e = missing_at is (j ∷ js) k
stretched_at [] (d ∷ ds) (j ∷ js) k h e = absurd (omega arith)
stretched_at (i ∷ is) (d ∷ ds) (j ∷ js) zero h e = refl
stretched_at (i ∷ is) (d ∷ ds) (j ∷ js) (suc k) h e = stretched_at is ds js k (omega arith) (omega arith)

-- they move as the window's increments do at the cut coordinates
missing_moved : (is : List ℤ) (js cs : List ℕ) → moved (stretched_incs is [] js) cs ≡ pos 0
missing_moved is [] cs = refl
missing_moved is (j ∷ js) [] = refl
missing_moved is (j ∷ js) (c ∷ cs) = omega (arith, ints, missing_moved is js cs)

cut_step : (i m n : ℤ) (d c : ℕ) → m ≡ n → ((if d == 1 then pos 0 else i) *ℤ pos c) +ℤ m ≡ (i *ℤ pos (if d == 1 then 0 else c)) +ℤ n
cut_step i m n d c e = grind (arith, nat_tests, ints)

pub stretched_moved : (is : List ℤ) (ds js cs : List ℕ) → length is ≡ length ds → BroadcastsTo ds js → IsWithin js cs
    → moved (stretched_incs is ds js) cs ≡ moved is (cut_to ds cs)
stretched_moved [] [] js cs e b w = missing_moved [] js cs
stretched_moved (i ∷ is) [] js cs e b w = absurd (omega arith)
stretched_moved [] (d ∷ ds) js cs e b w = absurd (omega arith)
stretched_moved (i ∷ is) (d ∷ ds) [] cs e b w = absurd b
stretched_moved (i ∷ is) (d ∷ ds) (j ∷ js) [] e b w = absurd w
stretched_moved (i ∷ is) (d ∷ ds) (j ∷ js) (c ∷ cs) e b w =
    cut_step i (moved (stretched_incs is ds js) cs) (moved is (cut_to ds cs)) d c (stretched_moved is ds js cs (omega arith) b.1 w.1)

-- they spread no farther
missing_spread : (is : List ℤ) (js : List ℕ) → spread (stretched_incs is [] js) js ≡ 0
missing_spread is [] = refl
missing_spread is (j ∷ js) = omega (arith, missing_spread is js)

spread_step : (i : ℤ) (d j s t : ℕ) → (d ≢ 1 → d ≡ j) → s ≤ t → unsigned_abs (if d == 1 then pos 0 else i) * (j - 1) + s ≤ unsigned_abs i * (d - 1) + t
spread_step i d j s t b h = grind (arith, nat_tests)

pub stretched_spread : (is : List ℤ) (ds js : List ℕ) → length is ≡ length ds → BroadcastsTo ds js → spread (stretched_incs is ds js) js ≤ spread is ds
stretched_spread [] [] js e b = omega (arith, missing_spread [] js)
stretched_spread (i ∷ is) [] js e b = absurd (omega arith)
stretched_spread [] (d ∷ ds) js e b = absurd (omega arith)
stretched_spread (i ∷ is) (d ∷ ds) [] e b = absurd b
stretched_spread (i ∷ is) (d ∷ ds) (j ∷ js) e b = spread_step i d j (spread (stretched_incs is ds js) js) (spread is ds) b.0 (stretched_spread is ds js (omega arith) b.1)

-- ---- the stretched triple

abbrev pub stretching : Triple → List ℕ → Triple
stretching t js = record { offset = t.offset; incs = stretched_incs t.incs t.dims js; dims = js }

pub stretching_shows : (t : Triple) (js cs : List ℕ) → IsTriple t → BroadcastsTo t.dims js → IsWithin js cs → place_of (stretching t js) cs ≡ place_of t (cut_to t.dims cs)
stretching_shows t js cs ok b w = ap (λ m. pos t.offset +ℤ m) (stretched_moved t.incs t.dims js cs ok.paired b w)

pub IsTriple-stretching : (t : Triple) (js : List ℕ) → IsTriple t → BroadcastsTo t.dims js → IsTriple (stretching t js)
IsTriple-stretching t js ok b = record {
  paired = stretched_length t.incs t.dims js;
  reachable = λ cs w. subst IsPlace (sym (stretching_shows t js cs ok b w)) (ok.reachable (cut_to t.dims cs) (cut_within t.dims js cs b w));
  narrow = omega (arith, stretched_spread t.incs t.dims js ok.paired b, ok.narrow);
}

-- the increments listed so far
pub record Listed (items : List ℤ) (room k : ℕ) (incs : List ℤ) : Type 0 where
  pub room_is : room ≡ 16
  pub read : items ≡ take k incs

pub listed_more : (items : List ℤ) (room k : ℕ) (z : ℤ) (is : List ℤ) (ds js : List ℕ) → k < length js → length is ≡ length ds
    → z ≡ (if get_or ds k 1 == 1 then pos 0 else get_or is k (pos 0)) → Listed items room k (stretched_incs is ds js) → Listed (items ++ z ∷ []) room (k + 1) (stretched_incs is ds js)
listed_more items room k z is ds js h e v l = record {
  room_is = l.room_is;
  read = ap₂ (λ xs y. xs ++ y ∷ []) l.read (v ∙ sym (stretched_at is ds js k h e))
      ∙ sym (take_more (stretched_incs is ds js) k (pos 0) (omega (arith, stretched_length is ds js)));
}

pub listed_count : (items : List ℤ) (room k : ℕ) (is : List ℤ) (ds js : List ℕ) → k ≤ length js → Listed items room k (stretched_incs is ds js) → length items ≡ k
listed_count items room k is ds js h l =
    ap (λ (xs : List ℤ). length xs) l.read ∙ length-take-le k (stretched_incs is ds js) (omega (arith, stretched_length is ds js))

pub listed_all : (items : List ℤ) (room k : ℕ) (is : List ℤ) (ds js : List ℕ) → length js ≤ k → Listed items room k (stretched_incs is ds js) → items ≡ stretched_incs is ds js
listed_all items room k is ds js h l = l.read ∙ take_all k (stretched_incs is ds js) (omega (arith, stretched_length is ds js))
