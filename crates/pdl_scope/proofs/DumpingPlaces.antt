-- The place of a number among numbers that rise, found by halves.
use Rattle.std.proofs.Common.{◌≡◌, ℕ, zero, suc, ◌+◌, ◌<◌, ◌≤◌, List, [], ◌∷◌, length, get_or, Result, Ok, Err, MatchResult, refl, sym, ap, subst, ◌∙◌, arith}
use Rattle.std.specs.List.Sorted.{IsBinarySearchResult, IsStrictlyIncreasing}
use Rattle.std.specs.Ordering.{nat_cmp}
use Rattle.std.proofs.lemmas.Bool.{eq-eqb, ne_eqb}
use Rattle.std.proofs.lemmas.List.Kept.{AllPairs-from_increasing}
use Rattle.std.proofs.lemmas.List.Sorted.{searched}
use Rattle.std.proofs.lemmas.Option.{slice_get-get_or}
use Rattle.pdl_lemmas.specs.Tests.{by_lt}
use Rattle.pdl_world.specs.Sound.{IsSound}
use Rattle.pdl_world.specs.World.{World}
use Rattle.pdl_engine.specs.Looks.{array_numbers}
use Rattle.pdl_scope.specs.Dumping.{place_from}
use Rattle.pdl_scope.proofs.DumpingNumbers.{Rises, above_at, numbers_rise}

-- ---- the numbers of a world rise

adjacent : (ks : List ℕ) → Rises ks → (k : ℕ) → suc k < length ks → get_or ks k 0 < get_or ks (suc k) 0
adjacent [] rises k low = absurd (omega (arith, low))
adjacent (j ∷ js) rises zero low = above_at j js 0 (get_or js 0 0) rises.0 (slice_get-get_or js 0 0 (omega (arith, low)))
adjacent (j ∷ js) rises (suc k) low = adjacent js rises.1 k (omega (arith, low))

pub numbers_increase : (w : World) → IsSound w → IsStrictlyIncreasing (array_numbers w)
numbers_increase w sound k low =
    let e : suc k ≡ k + 1 = omega arith in
    subst (λ (n : ℕ). get_or (array_numbers w) k 0 < get_or (array_numbers w) n 0) e (adjacent (array_numbers w) (numbers_rise w sound) k (omega (arith, low)))

strictly : (ks : List ℕ) → IsStrictlyIncreasing ks → (i j : ℕ) → i < j → j < length ks → get_or ks i 0 < get_or ks j 0
strictly ks rises i j lt low = AllPairs-from_increasing ks rises i j 0 lt low

not_falling : (ks : List ℕ) → IsStrictlyIncreasing ks → (i j : ℕ) → i ≤ j → j < length ks → get_or ks i 0 ≤ get_or ks j 0
not_falling ks rises i j le low =
    by_lt i j
    (λ lt. let less : get_or ks i 0 < get_or ks j 0 = strictly ks rises i j lt low in omega (arith, less))
    (λ ge.
    let at : i ≡ j = omega (arith, le, ge) in
    let same : get_or ks i 0 ≡ get_or ks j 0 = ap (λ (n : ℕ). get_or ks n 0) at in
    omega (arith, same))

-- ---- the first place of a number

place_found : (ks : List ℕ) (i v at : ℕ) → i < length ks → get_or ks i 0 ≡ v → ((k : ℕ) → k < i → get_or ks k 0 < v) → place_from ks v at ≡ i + at
place_found [] i v at low here before = absurd (omega (arith, low))
place_found (k ∷ ks) zero v at low here before = rw (eq-eqb k v here) (omega arith)
place_found (k ∷ ks) (suc i) v at low here before =
    let first : k < v = before 0 (omega arith) in
    let rest : place_from ks v (at + 1) ≡ i + (at + 1) = place_found ks i v (at + 1) (omega (arith, low)) here (λ j lt. before (suc j) (omega (arith, lt))) in
    let shift : i + (at + 1) ≡ suc i + at = omega arith in
    rw (ne_eqb k v (λ e. absurd (omega (arith, e, first)))) (rest ∙ shift)

place_missing : (ks : List ℕ) (v at : ℕ) → ((i : ℕ) → i < length ks → get_or ks i 0 ≡ v → ⊥) → place_from ks v at ≡ 0
place_missing [] v at none = refl
place_missing (k ∷ ks) v at none =
    rw (ne_eqb k v (none 0 (omega arith))) (place_missing ks v (at + 1) (λ i low. none (suc i) (omega (arith, low))))

-- what a search by halves answers is that place, or that the number isn't there
pub place_searched : (ks : List ℕ) (v : ℕ) (r : Result ℕ ℕ) → IsStrictlyIncreasing ks → IsBinarySearchResult (λ y. nat_cmp y v) ks r
    → MatchResult r (λ at. at ≡ place_from ks v 0) (λ at. 0 ≡ place_from ks v 0)
place_searched ks v (Ok at) rises found =
    let here : (at < length ks) × (get_or ks at 0 ≡ v) = searched ks v (Ok at) found (not_falling ks rises) in
    let before : (k : ℕ) → k < at → get_or ks k 0 < v = λ k lt. (let low : get_or ks k 0 < get_or ks at 0 = strictly ks rises k at lt here.0 in omega (arith, low, here.1)) in
    let place : place_from ks v 0 ≡ at + 0 = place_found ks at v 0 here.0 here.1 before in
    omega (arith, place)
place_searched ks v (Err at) rises found =
    let gap : (at ≤ length ks) × ((k : ℕ) → k < at → get_or ks k 0 < v) × ((k : ℕ) → at ≤ k → k < length ks → v < get_or ks k 0) =
    searched ks v (Err at) found (not_falling ks rises) in
    let none : (i : ℕ) → i < length ks → get_or ks i 0 ≡ v → ⊥ = λ i low e. by_lt i at
    (λ lt. let below : get_or ks i 0 < v = gap.1 i lt in omega (arith, below, e))
    (λ ge. let above : v < get_or ks i 0 = gap.2 i ge low in omega (arith, above, e)) in
    sym (place_missing ks v 0 none)
