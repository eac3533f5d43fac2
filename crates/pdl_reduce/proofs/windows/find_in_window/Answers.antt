-- One block more, the number's place, and no place at the end.
use Rattle.std.proofs.Common.{◌≡◌, ◌+◌, ℕ, ℤ, List, take, drop, length, arith, to_z, of_z, Some, None, ap, sym, ◌∙◌}
use Rattle.std.proofs.lemmas.Int.{to_z-of_z}
use Rattle.std.proofs.lemmas.List.{length-take-le}
use Rattle.std.specs.Int.{w64}
use Rattle.std.specs.Ordering.{int_eq}
use Rattle.std.specs.Prelude.{position}
use Rattle.pdl_reduce.specs.Folds.{first_place}
use Rattle.pdl_reduce.proofs.FoldBlocks.{none_next, place_found, place_none}
use Rattle.pdl_reduce.proofs.windows.find_in_window.Goals as goal

pub overflow_add-first : goal.overflow_add-first
overflow_add-first c = record { fits = omega arith }

pub returns-in-Some-clause-place : goal.returns-in-Some-clause-place
returns-in-Some-clause-place c =
    let xs : List ℤ = c.args.a.now.elems in
    let k : ℕ = c.loop-done.done in
    let n : ℕ = c.min-run.result in
    let x : ℤ = to_z w64 (of_z w64 c.args.number) in
    let same : x ≡ c.args.number = to_z-of_z w64 c.args.number c.ranges.number in
    let count : length (take n c.loop-done.block) ≡ n = length-take-le n c.loop-done.block (omega arith) in
    let found : position (λ y. int_eq y x) (take n (drop (c.args.first + k) xs)) ≡ Some c.in-Some.place =
    ap (λ (m : ℕ). position (λ y. int_eq y x) (take m (drop (c.args.first + k) xs))) (sym count) ∙ sym c.find_part-found.ensures ∙ c.in-Some.is in
    place_found x xs c.args.first k n c.in-Some.place c.args.count (omega arith) c.requires.within c.loop-done.invariant.none found
    ∙ ap (λ (z : ℤ). first_place z (take c.args.count (drop c.args.first xs))) same

pub loop-done-preserved : goal.loop-done-preserved
loop-done-preserved c =
    let xs : List ℤ = c.args.a.now.elems in
    let k : ℕ = c.loop-done.done in
    let n : ℕ = c.min-run.result in
    let x : ℤ = to_z w64 (of_z w64 c.args.number) in
    let count : length (take n c.loop-done.block) ≡ n = length-take-le n c.loop-done.block (omega arith) in
    let none : position (λ y. int_eq y x) (take n (drop (c.args.first + k) xs)) ≡ None =
    ap (λ (m : ℕ). position (λ y. int_eq y x) (take m (drop (c.args.first + k) xs))) (sym count) ∙ sym c.find_part-found.ensures ∙ c.in_default.is in
    record {
      inside = omega arith;
      none = none_next (λ y. int_eq y x) xs c.args.first k n c.loop-done.invariant.none none;
    }

pub returns-clause-place : goal.returns-clause-place
returns-clause-place c =
    let xs : List ℤ = c.args.a.now.elems in
    let x : ℤ = to_z w64 (of_z w64 c.args.number) in
    let same : x ≡ c.args.number = to_z-of_z w64 c.args.number c.ranges.number in
    let all : c.loop-done.done ≡ c.args.count = omega arith in
    let none : position (λ y. int_eq y x) (take c.args.count (drop c.args.first xs)) ≡ None =
    ap (λ (m : ℕ). position (λ y. int_eq y x) (take m (drop c.args.first xs))) (sym all) ∙ c.loop-done.invariant.none in
    place_none x _ none ∙ ap (λ (z : ℤ). first_place z (take c.args.count (drop c.args.first xs))) same
