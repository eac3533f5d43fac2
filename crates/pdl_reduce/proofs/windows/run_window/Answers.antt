-- One block more, and all at the end.
use Rattle.std.proofs.Common.{rules, ◌≡◌, ◌+◌, ℕ, ℤ, List, ◌++◌, fold, take, drop, length, arith, to_z, of_z, FitsSigned, ap, ◌∙◌}
use Rattle.std.proofs.lemmas.Int.{to_z-of_z}
use Rattle.std.proofs.lemmas.List.{length-take-le}
use Rattle.std.specs.Int.{w64}
use Rattle.pdl_elem.specs.declared.Ty.{Ty}
use Rattle.pdl_numbers.specs.Prefixes.{wrapped_prefixes}
use Rattle.pdl_reduce.proofs.FoldBlocks.{fold_next, made_next}
use Rattle.pdl_reduce.proofs.windows.run_window.Goals as goal

pub overflow_add-position : goal.overflow_add-position
overflow_add-position g c = record { fits = omega arith }

pub loop-done-preserved : goal.loop-done-preserved
loop-done-preserved g c =
    let f : ℤ → ℤ → ℤ = g.F.Folding.taken in
    let t : Ty = c.args.made.now.ty in
    let xs : List ℤ = c.args.a.now.elems in
    let k : ℕ = c.loop-done.done in
    let n : ℕ = c.min-run.result in
    let s : ℤ = to_z w64 c.loop-done.so_far-bits in
    let made : List ℤ = c.loop-done.made.elems in
    let count : length (take n c.loop-done.block) ≡ n = length-take-le n c.loop-done.block (omega arith) in
    let fits : FitsSigned w64 c.in_ok-so_far.so_far = search rules in
    let block : to_z w64 (of_z w64 c.in_ok-so_far.so_far) ≡ fold f s (take n (drop (c.args.first + k) xs)) =
    to_z-of_z w64 c.in_ok-so_far.so_far fits ∙ c.in_ok-so_far.ensures.value ∙ ap (λ (m : ℕ). fold f s (take m (drop (c.args.first + k) xs))) count in
    let added : c.run_part.new.made.elems ≡ made ++ wrapped_prefixes t f s (take n (drop (c.args.first + k) xs)) =
    c.in_ok-so_far.ensures.prefixes
    ∙ ap (λ (m : ℕ). made ++ wrapped_prefixes c.loop-done.made.ty f s (take m (drop (c.args.first + k) xs))) count
    ∙ ap (λ (u : Ty). made ++ wrapped_prefixes u f s (take n (drop (c.args.first + k) xs))) c.loop-done.invariant.ty in
    record {
      inside = omega arith;
      so_far = fold_next f _ s _ xs c.args.first k n c.loop-done.invariant.so_far block;
      ty = c.in_ok-so_far.ensures.typed ∙ c.loop-done.invariant.ty;
      made = made_next c.prefix_laws.ensures t f _ s xs c.args.made.now.elems made _ c.args.first k n c.loop-done.invariant.so_far c.loop-done.invariant.made added;
    }

pub returns-clause-value : goal.returns-clause-value
returns-clause-value g c =
    let f : ℤ → ℤ → ℤ = g.F.Folding.taken in
    let t : Ty = c.args.made.now.ty in
    let old : List ℤ = c.args.made.now.elems in
    let start : to_z w64 (of_z w64 c.args.start) ≡ c.args.start = to_z-of_z w64 c.args.start c.ranges.start in
    let all : c.loop-done.done ≡ c.args.count = omega arith in
    c.loop-done.invariant.made
    ∙ ap (λ (m : ℕ). old ++ wrapped_prefixes t f (to_z w64 (of_z w64 c.args.start)) (take m (drop c.args.first c.args.a.now.elems))) all
    ∙ ap (λ (s : ℤ). old ++ wrapped_prefixes t f s (take c.args.count (drop c.args.first c.args.a.now.elems))) start
