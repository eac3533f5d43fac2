-- One block more, and a block that decides it.
use Rattle.std.proofs.Common.{◌≡◌, ℕ, ℤ, List, take, drop, length, arith, true, false, ap, sym, ◌∙◌}
use Rattle.std.proofs.lemmas.List.{length-take-le}
use Rattle.std.specs.List.{list_all}
use Rattle.pdl_reduce.specs.Reductions.{is_set}
use Rattle.pdl_reduce.proofs.FoldBlocks.{all_more, not_all}
use Rattle.pdl_reduce.proofs.windows.all_set.Goals as goal

pub returns-then-not-all_in_part : goal.returns-then-not-all_in_part
returns-then-not-all_in_part c =
    let xs : List ℤ = c.args.a.now.elems in
    let count : length (take c.min-run.result c.loop-done.block) ≡ c.min-run.result = length-take-le c.min-run.result c.loop-done.block (omega arith) in
    let block : list_all is_set (take c.min-run.result (drop c.loop-done.done xs)) ≡ false =
    ap (λ (m : ℕ). list_all is_set (take m (drop c.loop-done.done xs))) (sym count) ∙ sym c.all_in_part.ensures ∙ c.if-not-all_in_part.true in
    not_all is_set xs c.loop-done.done c.min-run.result c.loop-done.invariant.so_far block

pub loop-done-preserved : goal.loop-done-preserved
loop-done-preserved c =
    let xs : List ℤ = c.args.a.now.elems in
    let count : length (take c.min-run.result c.loop-done.block) ≡ c.min-run.result = length-take-le c.min-run.result c.loop-done.block (omega arith) in
    let block : list_all is_set (take c.min-run.result (drop c.loop-done.done xs)) ≡ true =
    ap (λ (m : ℕ). list_all is_set (take m (drop c.loop-done.done xs))) (sym count) ∙ sym c.all_in_part.ensures ∙ c.if-not-all_in_part.false in
    record {
      inside = omega arith;
      so_far = all_more is_set xs c.loop-done.done c.min-run.result c.loop-done.invariant.so_far block;
    }
