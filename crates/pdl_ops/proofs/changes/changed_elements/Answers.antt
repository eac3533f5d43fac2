-- One block more is changed, and all are at the end.
use Rattle.std.proofs.Common.{◌≡◌, ℕ, ◌<◌, ℤ, List, length, length-append, take, drop, map, All, arith, ap, ap₂, sym, subst, ◌∙◌}
use Rattle.std.proofs.lemmas.List.{length-map, length-take-le}
use Rattle.pdl_lemmas.specs.Lists.{take_written}
use Rattle.pdl_numbers.specs.Typed.{TypedElements}
use Rattle.pdl_elem.specs.declared.Ty.{Ty}
use Rattle.pdl_elem.specs.Types.{InRange}
use Rattle.pdl_shape.specs.Shape.{size_of}
use Rattle.pdl_ops.specs.Changes.{changed, changed_type}
use Rattle.pdl_ops.proofs.ElementwiseParts.{changed_all, changed_more}
use Rattle.pdl_ops.proofs.changes.changed_elements.Goals as goal

pub loop-done-init : goal.loop-done-init
loop-done-init c =
    let k : ℕ = c.args.begun in
    let es : List ℤ = c.args.a.now.elems in
    let f : ℤ → ℤ = changed c.args.change c.args.a.now.ty in
    let elems : c.args.made.elems ≡ map f (take k es) = ap (λ (p : TypedElements). p.elems) c.requires.begun in
    let ty : c.args.made.ty ≡ changed_type c.args.change c.args.a.now.ty = ap (λ (p : TypedElements). p.ty) c.requires.begun in
    record {
      inside = omega (arith, c.requires.within, c.strided_dims.ensures.count, c.elements_of-count.ensures.count, ap size_of c.strided_dims.ensures.dims);
      some = λ more. omega (arith, more, c.in_ok-block.ensures.len, c.min.ensures, c.block_of.ensures);
      ty = ty;
      count = ap (λ (zs : List ℤ). length zs) elems ∙ length-map (take k es) f ∙ length-take-le k es c.requires.within;
      made = record { made_is = elems; in_range = subst (λ (t : Ty). All (InRange t) c.args.made.elems) ty c.are_in_range.ensures };
    }

pub loop-done-preserved : goal.loop-done-preserved
loop-done-preserved c =
    let k : ℕ = c.loop-done.done in
    let b : ℕ = c.truncate.new.self.len in
    let n : ℕ = c.len-done.result in
    let es : List ℤ = c.args.a.now.elems in
    let read_length : length c.strided_read.new.into ≡ b = omega arith in
    let read : c.deref_mut-in-loop-done.result.now ≡ c.strided_read.new.into = c.deref_mut-in-loop-done.ensures.value ∙ take_written _ _ _ read_length in
    let changed_length : length c.change_block.new.numbers ≡ b = omega arith in
    let block : c.deref.result.now ≡ c.change_block.new.numbers = c.deref.ensures.value ∙ take_written _ _ _ changed_length in
    let size : length c.deref_mut.result.now ≡ n = omega arith in
    let numbers : c.deref_mut-in-loop-done.result.now ≡ take n (drop k es) = read ∙ c.strided_read.ensures.value ∙ ap (λ (m : ℕ). take m (drop k es)) size in
    let e : c.deref.result.now ≡ map (changed c.args.change c.args.a.now.ty) (take n (drop k es)) =
    block ∙ c.change_block.ensures.value ∙ ap₂ (λ (ty : Ty) (xs : List ℤ). map (changed c.args.change ty) xs) c.strided_type.ensures numbers in
    let h : All (InRange (changed_type c.args.change c.args.a.now.ty)) c.deref.result.now =
    subst (All (InRange (changed_type c.args.change c.args.a.now.ty))) (sym block)
    (subst (λ (ty : Ty). All (InRange (changed_type c.args.change ty)) c.change_block.new.numbers) c.strided_type.ensures c.change_block.ensures.in_range) in
    let some : 0 < b = omega (arith, c.loop-done.invariant.some c.loop-done-test.true) in
    record {
      inside = omega arith;
      some = λ more. omega (arith, some, ap (λ (xs : List ℤ). length xs) c.deref.ensures.value);
      ty = ap (λ (p : TypedElements). p.ty) c.in_ok-extend.ensures.ok ∙ c.loop-done.invariant.ty;
      count = omega (arith, ap (λ (zs : List ℤ). length zs) c.deref.ensures.value, ap (λ (p : TypedElements). length p.elems) c.in_ok-extend.ensures.ok, length-append c.loop-done.made.elems c.deref.result.now);
      made = changed_more (changed c.args.change c.args.a.now.ty) (InRange (changed_type c.args.change c.args.a.now.ty)) es _ _ _ k n c.loop-done.invariant.made e h (ap (λ (p : TypedElements). p.elems) c.in_ok-extend.ensures.ok);
    }

pub strided_read-requires : goal.strided_read-requires
strided_read-requires c =
    omega (arith, c.deref_mut.ensures.len, c.truncate.ensures.len, c.strided_dims.ensures.count, c.elements_of-count.ensures.count, ap size_of c.strided_dims.ensures.dims, c.loop-done-test.true)

pub change_block-requires : goal.change_block-requires
change_block-requires c =
    let read_length : length c.strided_read.new.into ≡ c.truncate.new.self.len = omega arith in
    let read : c.deref_mut-in-loop-done.result.now ≡ c.strided_read.new.into = c.deref_mut-in-loop-done.ensures.value ∙ take_written _ _ _ read_length in
    subst (λ (ty : Ty). All (InRange ty) c.deref_mut-in-loop-done.result.now) (sym c.strided_type.ensures)
    (subst (All (InRange c.args.a.now.ty)) (sym read) c.strided_read.ensures.in_range)

pub extend-requires : goal.extend-requires
extend-requires c =
    let changed_length : length c.change_block.new.numbers ≡ c.truncate.new.self.len = omega arith in
    let block : c.deref.result.now ≡ c.change_block.new.numbers = c.deref.ensures.value ∙ take_written _ _ _ changed_length in
    subst (λ (ty : Ty). All (InRange ty) c.deref.result.now) (sym c.loop-done.invariant.ty)
    (subst (All (InRange (changed_type c.args.change c.args.a.now.ty))) (sym block)
    (subst (λ (ty : Ty). All (InRange (changed_type c.args.change ty)) c.change_block.new.numbers) c.strided_type.ensures c.change_block.ensures.in_range))

pub returns-clause-value : goal.returns-clause-value
returns-clause-value c =
    changed_all (changed c.args.change c.args.a.now.ty) (InRange (changed_type c.args.change c.args.a.now.ty)) c.args.a.now.elems c.loop-done.made.elems c.loop-done.done
    (omega (arith, c.strided_dims.ensures.count, c.elements_of-count.ensures.count, ap size_of c.strided_dims.ensures.dims, c.loop-done-test.false)) c.loop-done.invariant.made

pub returns-clause-in_range : goal.returns-clause-in_range
returns-clause-in_range c = c.loop-done.invariant.made.in_range

pub returns-clause-count : goal.returns-clause-count
returns-clause-count c =
    omega (arith, c.strided_dims.ensures.count, c.elements_of-count.ensures.count, ap size_of c.strided_dims.ensures.dims, c.loop-done-test.false, c.loop-done.invariant.count, c.loop-done.invariant.inside)
