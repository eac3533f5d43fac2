-- A part of a plane more.
use Rattle.std.proofs.Common.{◌≡◌, ◌≤◌, ◌+◌, ◌*◌, ◌%◌, ◌++◌, ℕ, ℤ, List, get_or, length, map, take, drop, arith, ap, ap₂, sym, subst, ◌∙◌, append_assoc, length-append, length-drop, to_z, of_z}
use Rattle.std.proofs.lemmas.List.{length-take-le}
use Rattle.std.proofs.Math.Nat.{mul-le-mul_right}
use Rattle.std.specs.Int.{w64}
use Rattle.std.specs.List.{range_with_len}
use Rattle.pdl_reduce.specs.Across.{come_to}
use Rattle.pdl_reduce.proofs.AcrossLemmas.{parts_join}
use Rattle.pdl_reduce.proofs.columns.add_lists.Goals as goal

pub loop-done-preserved : goal.loop-done-preserved
loop-done-preserved g c =
    let at : ℕ → ℤ = come_to c.args.ty g.F.Folding.taken (to_z w64 (of_z w64 c.args.start)) c.args.size c.args.a.now.elems in
    let old : List ℤ = c.args.made.now.elems in
    let done : ℕ = c.loop-done.done in
    let run : ℕ = c.lists_in_plane-run.result in
    let so_far : List ℤ = c.loop-done.so_far in
    let few : run ≤ length so_far = omega arith in
    let part : length (take run so_far) ≡ run = length-take-le run so_far few in
    let new_part : length c.add_part.new.so_far ≡ run = omega (arith, part) in
    let parts : length (c.add_part.new.so_far ++ drop run so_far) ≡ length so_far = omega (arith, length-append c.add_part.new.so_far (drop run so_far), length-drop run so_far, new_part, few) in
    record {
      kept = parts ∙ c.loop-done.invariant.kept;
      inside = omega arith;
      ty = c.in_ok-add_part.ensures.typed ∙ c.loop-done.invariant.ty;
      made = c.in_ok-add_part.ensures.value
          ∙ ap₂ (λ (zs : List ℤ) (n : ℕ). zs ++ map at (range_with_len done n)) c.loop-done.invariant.made part
          ∙ append_assoc old (map at (range_with_len 0 done)) (map at (range_with_len done run))
          ∙ ap (λ (zs : List ℤ). old ++ zs) (sym (parts_join at done run));
    }

pub add_part-requires : goal.add_part-requires
add_part-requires g c =
    let run : ℕ = c.lists_in_plane-run.result in
    let few : run ≤ length c.loop-done.so_far = omega (arith, c.lists_in_plane-run.ensures.few, c.min-left.ensures) in
    let left : c.loop-done.done + run ≤ c.args.count = omega (arith, c.lists_in_plane-run.ensures.few, c.min-left.ensures, c.loop-done-test.true) in
    let part : length (take run c.loop-done.so_far) ≡ run = length-take-le run c.loop-done.so_far few in
    let height : c.size_at-height.result ≡ get_or c.args.a.now.dims 1 1 = c.size_at-height.ensures ∙ ap (λ (ds : List ℕ). get_or ds 1 1) (c.dims_list.ensures.list ∙ c.strided_dims.ensures.dims) in
    record {
      size = c.requires.size;
      some = omega (arith, part, c.lists_in_plane-run.ensures.some);
      few = omega (arith, part, few, c.loop-done.invariant.kept, c.requires.few);
      small = c.requires.small;
      plane = subst (λ (h : ℕ). c.loop-done.done % h + length (take run c.loop-done.so_far) ≤ h) height
          (subst (λ (n : ℕ). c.loop-done.done % c.size_at-height.result + n ≤ c.size_at-height.result) (sym part) c.lists_in_plane-run.ensures.plane);
      within = subst (λ (n : ℕ). (c.loop-done.done + n) * c.args.size ≤ length c.args.a.now.elems) (sym part)
          (omega (arith, mul-le-mul_right c.args.size left, c.requires.whole));
      typed = c.loop-done.invariant.ty ∙ c.requires.typed;
    }
