-- What moves for roots that come and are bound to names.
use Rattle.std.proofs.Common.{◌≡◌, ℕ, zero, suc, ◌+◌, ◌≤◌, ◌<◌, Bool, true, false, List, [], ◌∷◌, length, take, Result, Ok, Err, refl, sym, ap, ◌∙◌, arith}
use Rattle.std.specs.Prelude.{sum_by}
use Rattle.std.proofs.lemmas.List.{take-take}
use Rattle.std.proofs.lemmas.List.Sums.{sum_by-cons, sum_by-take-le}
use Rattle.pdl_lemmas.specs.Tests.{by_test}
use Rattle.pdl_buf.specs.declared.made.Made.{Made}
use Rattle.pdl_world.specs.World.{root}
use Rattle.pdl_machine.specs.Arrays.{Arrays, with_new}
use Rattle.pdl_machine.specs.Names.{is_full_for, names_limit}
use Rattle.pdl_machine.specs.Outcome.{new_root}
use Rattle.pdl_machine.specs.State.{State}
use Rattle.pdl_machine.specs.Step.{Stepped, bound, roots_bound}
use Rattle.pdl_scope.specs.Costs.{MovesUpTo, arrays_after, total_size}
use Rattle.pdl_scope.specs.Room.{new_among}
use Rattle.pdl_scope.specs.Scope.{Scope, machine}
use Rattle.pdl_scope.proofs.CostNewest.{moved}
use Rattle.pdl_scope.proofs.RoomRoots.{fits_first, is_bound, room_stays, then_bound, with_bound}

abbrev pub size_after : Stepped → Arrays → ℕ
size_after stepped left = total_size (arrays_after stepped left).world

-- a root that is bound to a name for which there is room
pub root_moves : (s : State) (x : List ℕ) (a : Arrays) (m : Made) → is_full_for names_limit s.names.arrays x ≡ false → size_after (bound s x (new_root a m)) a ≡ moved m + total_size a.world
root_moves s x a m free = rw free refl

-- and where there may be none
pub root_loses_nothing : (s : State) (x : List ℕ) (a : Arrays) (m : Made) → total_size a.world ≤ size_after (bound s x (new_root a m)) a
root_loses_nothing s x a m = by_test (is_full_for names_limit s.names.arrays x)
    (λ full. let none : size_after (bound s x (new_root a m)) a ≡ total_size a.world = rw full refl in omega (arith, none))
    (λ free. let one : size_after (bound s x (new_root a m)) a ≡ moved m + total_size a.world = root_moves s x a m free in omega (arith, one))

-- roots for whose names there is room
pub roots_move : (s : State) (xs : List (List ℕ)) (ms : List Made) (n : ℕ) (left : Arrays) → n ≤ length xs → n ≤ length ms → (n < length xs → length ms ≤ n) → length s.names.arrays + new_among s.names.arrays (take n xs) ≤ names_limit
    → size_after (roots_bound s xs ms) left ≡ sum_by moved (take n ms) + total_size s.arrays.world
roots_move s [] ms zero left within there end room = omega arith
roots_move s [] ms (suc n) left within there end room = absurd (omega arith)
roots_move s (x ∷ xs) [] zero left within there end room = omega arith
roots_move s (x ∷ xs) [] (suc n) left within there end room = absurd (omega arith)
roots_move s (x ∷ xs) (m ∷ ms) zero left within there end room = (let le : suc (length ms) ≤ 0 = end (omega arith) in absurd (omega arith))
roots_move s (x ∷ xs) (m ∷ ms) (suc n) left within there end room =
    let mid : State = record s { arrays = (with_new s.arrays (root m.ty m.dims m.elems)).0 } in
    let id : ℕ = s.arrays.next in
    let free = fits_first s.names.arrays x id (take n xs) room in
    let stays = room_stays s.names.arrays x id (take n xs) in
    let last : n < length xs → length ms ≤ n = λ lt. (let le : suc (length ms) ≤ suc n = end (omega arith) in omega arith) in
    let rest : size_after (roots_bound (with_bound mid x id) xs ms) left ≡ sum_by moved (take n ms) + total_size mid.arrays.world = roots_move (with_bound mid x id) xs ms n left (omega arith) (omega arith) last (omega (arith, stays, room)) in
    let is : size_after (roots_bound s (x ∷ xs) (m ∷ ms)) left ≡ size_after (roots_bound (with_bound mid x id) xs ms) left = ap (λ (r : Stepped). size_after (then_bound xs ms r) left) (is_bound mid x id free) in
    let first : total_size mid.arrays.world ≡ moved m + total_size s.arrays.world = refl in
    omega (arith, is, rest, first, sum_by-cons moved m (take n ms))

-- so what was moved for some of them is within what moves for all
pub roots_within : (s : Scope) (xs : List (List ℕ)) (ms : List Made) (n i before after : ℕ) → n ≤ length xs → n ≤ length ms → (n < length xs → length ms ≤ n) → length s.names.arrays + new_among s.names.arrays (take n xs) ≤ names_limit → i ≤ n
    → after ≤ before + sum_by moved (take i ms) → MovesUpTo 0 s (arrays_after (roots_bound (machine s) xs ms) s.arrays) before after
roots_within s xs ms n i before after within there end room few so_far =
    let all : size_after (roots_bound (machine s) xs ms) s.arrays ≡ sum_by moved (take n ms) + total_size s.arrays.world = roots_move (machine s) xs ms n s.arrays within there end room in
    let part : sum_by moved (take i (take n ms)) ≤ sum_by moved (take n ms) = sum_by-take-le moved (take n ms) i in
    let same : sum_by moved (take i (take n ms)) ≡ sum_by moved (take i ms) = ap (sum_by moved) (take-take i n ms few) in
    omega (arith, all, part, same, so_far)
