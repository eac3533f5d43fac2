-- One block more, which changes what the elements come to or doesn't.
use Rattle.std.proofs.Common.{◌≡◌, ◌+◌, ℕ, ℤ, List, fold, take, drop, length, All, arith, to_z, of_z, FitsSigned, ap, sym, subst, ◌∙◌}
use Rattle.std.proofs.lemmas.Int.{of_z-to_z, to_z-of_z}
use Rattle.std.proofs.lemmas.List.{length-take-le}
use Rattle.std.specs.Int.{w64}
use Rattle.pdl_elem.specs.Types.{InRange}
use Rattle.pdl_reduce.proofs.FoldBlocks.{fold_next, all_next}
use Rattle.pdl_reduce.proofs.windows.fold_changes.Goals as goal
use Rattle.pdl_reduce.proofs.windows.fold_changes.Goals.{then-next-so_far, else-next-so_far}

pub overflow_add-first : goal.overflow_add-first
overflow_add-first g c = record { fits = omega arith }

pub loop-done-preserved : goal.loop-done-preserved
loop-done-preserved g c =
    let f : ℤ → ℤ → ℤ = g.F.Folding.taken in
    let P : ℤ → Type 0 = InRange c.args.a.now.ty in
    let xs : List ℤ = c.args.a.now.elems in
    let k : ℕ = c.loop-done.done in
    let n : ℕ = c.min-run.result in
    let s : ℤ = to_z w64 c.loop-done.so_far-bits in
    let count : length (take n c.loop-done.block) ≡ n = length-take-le n c.loop-done.block (omega arith) in
    let fits : FitsSigned w64 c.fold_part-next.result = record { sfits = c.fold_part-next.type_inv } in
    let result : to_z w64 (of_z w64 c.fold_part-next.result) ≡ c.fold_part-next.result = to_z-of_z w64 c.fold_part-next.result fits in
    let so_much : ℕ → ℤ = λ m. fold f (to_z w64 (of_z w64 c.args.start)) (take m (drop c.args.first xs)) in
    let block : to_z w64 (of_z w64 c.fold_part-next.result) ≡ fold f s (take n (drop (c.args.first + k) xs)) =
    result ∙ c.fold_part-next.ensures.value ∙ ap (λ (m : ℕ). fold f s (take m (drop (c.args.first + k) xs))) count in
    record {
      inside = omega arith;
      so_far = fold_next f _ s _ xs c.args.first k n c.loop-done.invariant.so_far block;
      changed = elim c.if-next-so_far.branch [
        | then-next-so_far w ↦ (λ low e. w.if-next-so_far.true (ap (of_z w64) (sym result ∙ sym e ∙ ap so_much w.changed-is ∙ sym c.loop-done.invariant.so_far) ∙ of_z-to_z w64 c.loop-done.so_far-bits c.loop-done.auto.so_far-fits.fits))
        | else-next-so_far w ↦ (λ low e. c.loop-done.invariant.changed (omega (arith, low, w.changed-is)) (ap so_much (sym w.changed-is) ∙ e ∙ ap (to_z w64) w.if-next-so_far.false))
      ];
      before = elim c.if-next-so_far.branch [
        | then-next-so_far w ↦ omega (arith, w.changed-is)
        | else-next-so_far w ↦ omega (arith, w.changed-is, c.loop-done.invariant.before)
      ];
      in_range = all_next P xs c.args.first k n c.loop-done.invariant.in_range (subst (λ (m : ℕ). All P (take m (drop (c.args.first + k) xs))) count c.fold_part-next.ensures.in_range);
    }
