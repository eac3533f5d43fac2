-- One block more is made, and all are made at the end.
use Rattle.std.proofs.Common.{◌≡◌, ℕ, ◌+◌, ◌<◌, ◌≤◌, ℤ, pos, List, length, take, drop, map, All, arith, ap, sym, subst, ◌∙◌}
use Rattle.std.proofs.lemmas.List.{length-map}
use Rattle.std.proofs.lemmas.List.FromFn.{length-map-range_with_len}
use Rattle.std.specs.List.{range_with_len}
use Rattle.pdl_lemmas.specs.Lists.{take_written}
use Rattle.pdl_numbers.specs.Typed.{TypedElements}
use Rattle.pdl_elem.specs.Numbers.{wrapped}
use Rattle.pdl_elem.specs.Types.{InRange}
use Rattle.pdl_elem.specs.declared.Ty.{Ty}
use Rattle.pdl_elem.specs.declared.Ty.TheVariants.{Long}
use Rattle.pdl_shape.specs.Shape.{size_of}
use Rattle.pdl_ops.specs.Fills.{fill_element}
use Rattle.pdl_ops.specs.declared.fills.Fill.{Fill}
use Rattle.pdl_ops.proofs.BlockLists.{map_twice, part_of_range}
use Rattle.pdl_ops.proofs.ElementwiseParts.{changed_all, changed_more}
use Rattle.pdl_ops.proofs.ElementwiseResults.{made_same}
use Rattle.pdl_ops.proofs.filling.fill.Goals as goal

-- the elements before they are wrapped
abbrev unwrapped : Fill → List ℕ → List ℤ
unwrapped kind ds = map (λ p. pos (fill_element kind ds p)) (range_with_len 0 (size_of ds))

unwrapped_length : (kind : Fill) (ds : List ℕ) → length (unwrapped kind ds) ≡ size_of ds
unwrapped_length kind ds = length-map-range_with_len (λ p. pos (fill_element kind ds p)) 0 (size_of ds)

pub loop-done-preserved : goal.loop-done-preserved
loop-done-preserved c =
    let ty : Ty = c.args.ty in
    let ds : List ℕ = c.dims_list-sizes.result.now in
    let xs : List ℤ = unwrapped c.args.kind ds in
    let k : ℕ = c.loop-done.done in
    let n : ℕ = c.len-done.result in
    let b : ℕ = c.truncate.new.self.len in
    let some : 0 < b = omega (arith, c.loop-done.invariant.some c.loop-done-test.true) in
    let size : length c.deref_mut.result.now ≡ n = omega arith in
    let inside : k + n ≤ size_of ds = omega (arith, c.elements_of-count.ensures.count, ap size_of c.dims_list-sizes.ensures.list) in
    let filled_length : length c.fill_block.new.into ≡ b = omega arith in
    let filled : c.fill_block.new.into ≡ take n (drop k xs) =
    c.fill_block.ensures.value ∙ ap (λ (m : ℕ). map (λ (i : ℕ). pos (fill_element c.args.kind ds (k + i))) (range_with_len 0 m)) size
    ∙ part_of_range (λ p. pos (fill_element c.args.kind ds p)) (size_of ds) k n inside in
    let numbers : c.deref_mut-in-loop-done.result.now ≡ take n (drop k xs) = c.deref_mut-in-loop-done.ensures.value ∙ take_written _ _ _ filled_length ∙ filled in
    let wrapped_length : length c.rewrap.new.numbers ≡ b = omega arith in
    let block : c.deref.result.now ≡ c.rewrap.new.numbers = c.deref.ensures.value ∙ take_written _ _ _ wrapped_length in
    let made : c.deref.result.now ≡ map (wrapped ty) (take n (drop k xs)) = block ∙ c.rewrap.ensures.value ∙ ap (map (wrapped ty)) numbers in
    record {
      inside = omega (arith, inside, c.elements_of-count.ensures.count, ap size_of c.dims_list-sizes.ensures.list);
      some = λ more. omega (arith, some, ap length c.deref.ensures.value, wrapped_length, ap length block);
      ty = ap (λ (p : TypedElements). p.ty) c.in_ok-extend.ensures.ok ∙ c.loop-done.invariant.ty;
      made = changed_more (wrapped ty) (InRange ty) xs _ _ _ k n c.loop-done.invariant.made made (subst (All (InRange ty)) (sym block) c.rewrap.ensures.in_range) (ap (λ (p : TypedElements). p.elems) c.in_ok-extend.ensures.ok);
    }

-- all elements are made
all_made : (c : goal.After-drop-block-2) → c.packed.result ≡ map (wrapped c.args.ty) (unwrapped c.args.kind c.args.dims.now)
all_made c =
    let ds : List ℕ = c.dims_list-sizes.result.now in
    let same : size_of ds ≡ size_of c.args.dims.now = ap size_of c.dims_list-sizes.ensures.list in
    c.packed.ensures
    ∙ changed_all (wrapped c.args.ty) (InRange c.args.ty) (unwrapped c.args.kind ds) _ c.loop-done.done (omega (arith, unwrapped_length c.args.kind ds, same, c.elements_of-count.ensures.count, c.loop-done-test.false)) c.loop-done.invariant.made
    ∙ ap (λ (us : List ℕ). map (wrapped c.args.ty) (unwrapped c.args.kind us)) c.dims_list-sizes.ensures.list

pub returns-clause-value : goal.returns-clause-value
returns-clause-value c =
    made_same c.args.ty _ _ _ _ c.copy_dims.ensures
    (all_made c ∙ map_twice (wrapped c.args.ty) (λ (p : ℕ). pos (fill_element c.args.kind c.args.dims.now p)) (range_with_len 0 (size_of c.args.dims.now)))

pub returns-clause-made : goal.returns-clause-made
returns-clause-made c =
    let e = all_made c in
    let l : length (map (wrapped c.args.ty) (unwrapped c.args.kind c.args.dims.now)) ≡ length (unwrapped c.args.kind c.args.dims.now) = simp length-map in
    record {
      count = ap length e ∙ l ∙ unwrapped_length c.args.kind c.args.dims.now ∙ ap size_of (sym c.copy_dims.ensures);
      in_range = subst (All (InRange c.args.ty)) (sym c.packed.ensures) c.loop-done.invariant.made.in_range;
    }

pub fill_block-requires : goal.fill_block-requires
fill_block-requires c =
    let same : size_of c.dims_list-sizes.result.now ≡ size_of c.args.dims.now = ap size_of c.dims_list-sizes.ensures.list in
    let size : length c.deref_mut.result.now ≡ c.truncate.new.self.len = c.deref_mut.ensures.len in
    record {
      some = omega (arith, size, c.truncate.ensures.len, c.loop-done.invariant.some c.loop-done-test.true, c.loop-done-test.true);
      within = omega (arith, size, same, c.truncate.ensures.len, c.elements_of-count.ensures.count, c.loop-done-test.true);
      few = omega (arith, same, c.elements_of-count.ensures.count, c.elements_of-count.ensures.bound);
    }

pub rewrap-requires : goal.rewrap-requires
rewrap-requires c =
    let filled_length : length c.fill_block.new.into ≡ c.truncate.new.self.len = omega arith in
    let numbers : c.deref_mut-in-loop-done.result.now ≡ c.fill_block.new.into = c.deref_mut-in-loop-done.ensures.value ∙ take_written _ _ _ filled_length in
    subst (All (InRange Long)) (sym numbers) c.fill_block.ensures.in_range

pub extend-requires : goal.extend-requires
extend-requires c =
    let wrapped_length : length c.rewrap.new.numbers ≡ c.truncate.new.self.len = omega arith in
    let block : c.deref.result.now ≡ c.rewrap.new.numbers = c.deref.ensures.value ∙ take_written _ _ _ wrapped_length in
    subst (λ (ty : Ty). All (InRange ty) c.deref.result.now) (sym c.loop-done.invariant.ty) (subst (All (InRange c.args.ty)) (sym block) c.rewrap.ensures.in_range)
