-- One block more is written.
use Rattle.std.proofs.Common.{◌≡◌, ◌+◌, ◌≤◌, ℕ, ℤ, List, ◌++◌, All, length, length-append, length-drop, take, drop, refl, sym, ◌∙◌, ap, subst, arith}
use Rattle.std.proofs.lemmas.List.{length-replicate, length-take-le}
use Rattle.pdl_elem.specs.declared.Ty.{Ty}
use Rattle.pdl_elem.specs.Types.{InRange}
use Rattle.pdl_shape.specs.Shape.{size_of}
use Rattle.pdl_lemmas.specs.Lists.{take_written}
use Rattle.pdl_world.specs.World.{World, look}
use Rattle.pdl_assign.proofs.BlockSteps.{Laws, dims_stay, lent_again, live_stays, root_stays, steady_still, ty_stays, written_all, written_more}
use Rattle.pdl_assign.proofs.blocks.write_shown.Goals as goal

-- as many are read as the block is long
strided_many : (n k : ℕ) (vs block into : List ℤ) → n ≤ length block → k + n ≤ length vs → into ≡ take (length (take n block)) (drop k vs) → length into ≡ n
strided_many n k vs block into room within is =
    let size : length (take n block) ≡ n = length-take-le n block room in
    ap length (is ∙ ap (λ i. take i (drop k vs)) size) ∙ length-take-le n (drop k vs) (omega (arith, within, length-drop k vs))

pub loop-shown-init : goal.loop-shown-init
loop-shown-init g c = record {
  inside = omega arith;
  block = length-replicate _ _;
  world = sym (c.part_laws.ensures.nothing c.args.engine.now.world c.args.target c.requires.sound);
  holds = refl;
  next = refl;
  sound = c.requires.sound;
  fresh = c.requires.fresh;
  others = λ u apart h. h;
  counted = omega arith;
}

pub strided_read-requires : goal.strided_read-requires
strided_read-requires g c =
    let n : ℕ = c.min-size.result in
    let size : length (take n c.loop-shown.block) ≡ n = length-take-le n c.loop-shown.block (omega (arith, c.min-size.ensures, c.loop-shown.invariant.block)) in
    omega (arith, size, c.min-size.ensures, c.loop-shown-test.true, c.elements_of-count.ensures.count, c.strided_dims.ensures.count, ap size_of c.strided_dims.ensures.dims)

pub assign_part-requires-clause-live : goal.assign_part-requires-clause-live
assign_part-requires-clause-live g c =
    let w : World = c.args.engine.now.world in
    let now : World = c.loop-shown.engine.world in
    let v : ℕ = c.args.target in
    let seen : look now v ≡ look w v = ap (λ x. look x v) c.loop-shown.invariant.world ∙ c.part_laws.ensures.looks w v v 0 (take c.loop-shown.shown c.args.values.now.elems) in
    live_stays w now v seen c.requires.live

pub assign_part-requires-clause-within : goal.assign_part-requires-clause-within
assign_part-requires-clause-within g c =
    let w : World = c.args.engine.now.world in
    let now : World = c.loop-shown.engine.world in
    let v : ℕ = c.args.target in
    let n : ℕ = c.min-size.result in
    let seen : look now v ≡ look w v = ap (λ x. look x v) c.loop-shown.invariant.world ∙ c.part_laws.ensures.looks w v v 0 (take c.loop-shown.shown c.args.values.now.elems) in
    let size : length (take n c.loop-shown.block) ≡ n = length-take-le n c.loop-shown.block (omega (arith, c.min-size.ensures, c.loop-shown.invariant.block)) in
    let count : length c.strided_read.new.into ≡ n = strided_many c.min-size.result c.loop-shown.shown c.args.values.now.elems c.loop-shown.block c.strided_read.new.into (omega (arith, c.min-size.ensures, c.loop-shown.invariant.block)) (omega (arith, c.min-size.ensures, c.loop-shown-test.true, c.elements_of-count.ensures.count, c.strided_dims.ensures.count, ap size_of c.strided_dims.ensures.dims)) c.strided_read.ensures.value in
    let written : length (take n (c.strided_read.new.into ++ drop n c.loop-shown.block)) ≡ n = ap length (take_written n c.strided_read.new.into (drop n c.loop-shown.block) count) ∙ count in
    omega (arith, written, ap size_of (dims_stay w now v seen), c.requires.count, c.min-size.ensures, c.loop-shown-test.true, c.elements_of-count.ensures.count, c.strided_dims.ensures.count, ap size_of c.strided_dims.ensures.dims)

pub assign_part-requires-clause-in_range : goal.assign_part-requires-clause-in_range
assign_part-requires-clause-in_range g c =
    let w : World = c.args.engine.now.world in
    let now : World = c.loop-shown.engine.world in
    let v : ℕ = c.args.target in
    let n : ℕ = c.min-size.result in
    let seen : look now v ≡ look w v = ap (λ x. look x v) c.loop-shown.invariant.world ∙ c.part_laws.ensures.looks w v v 0 (take c.loop-shown.shown c.args.values.now.elems) in
    let block : take n (c.strided_read.new.into ++ drop n c.loop-shown.block) ≡ c.strided_read.new.into = take_written n c.strided_read.new.into (drop n c.loop-shown.block) (strided_many c.min-size.result c.loop-shown.shown c.args.values.now.elems c.loop-shown.block c.strided_read.new.into (omega (arith, c.min-size.ensures, c.loop-shown.invariant.block)) (omega (arith, c.min-size.ensures, c.loop-shown-test.true, c.elements_of-count.ensures.count, c.strided_dims.ensures.count, ap size_of c.strided_dims.ensures.dims)) c.strided_read.ensures.value) in
    subst (λ (ty : Ty). All (InRange ty) (take n (c.strided_read.new.into ++ drop n c.loop-shown.block))) (c.requires.type_is ∙ sym (ty_stays w now v seen))
    (subst (All (InRange c.args.values.now.ty)) (sym block) c.strided_read.ensures.in_range)

pub loop-shown-preserved : goal.loop-shown-preserved
loop-shown-preserved g c =
    let laws : Laws = record { wholes = c.part_laws.ensures.wholes; join = c.part_laws.ensures.join; looks = c.part_laws.ensures.looks; others = c.part_laws.ensures.others; rest = c.part_laws.ensures.rest; nothing = c.part_laws.ensures.nothing; bases = c.assignment_laws.ensures.bases; cut = c.value_laws.ensures.parts; as_many = c.value_laws.ensures.as_many; itself = c.value_laws.ensures.itself } in
    let w : World = c.args.engine.now.world in
    let now : World = c.loop-shown.engine.world in
    let v : ℕ = c.args.target in
    let k : ℕ = c.loop-shown.shown in
    let n : ℕ = c.min-size.result in
    let vs : List ℤ = c.args.values.now.elems in
    let into : List ℤ = c.strided_read.new.into in
    let size : length (take n c.loop-shown.block) ≡ n = length-take-le n c.loop-shown.block (omega (arith, c.min-size.ensures, c.loop-shown.invariant.block)) in
    let found : into ≡ take n (drop k vs) = c.strided_read.ensures.value ∙ ap (λ i. take i (drop k vs)) size in
    let within : k + n ≤ length vs = omega (arith, c.min-size.ensures, c.loop-shown-test.true, c.elements_of-count.ensures.count, c.strided_dims.ensures.count, ap size_of c.strided_dims.ensures.dims) in
    let count : length into ≡ n = ap length found ∙ length-take-le n (drop k vs) (omega (arith, within, length-drop k vs)) in
    let after : List ℤ = into ++ drop n c.loop-shown.block in
    let block : take n after ≡ take n (drop k vs) = take_written n into (drop n c.loop-shown.block) count ∙ found in
    let seen : (x : ℕ) → look now x ≡ look w x = λ x. ap (λ y. look y x) c.loop-shown.invariant.world ∙ laws.looks w v x 0 (take k vs) in
    let written : length (take n after) ≡ n = ap length block ∙ sym (ap length found) ∙ count in
    record {
      inside = omega (arith, c.min-size.ensures, c.loop-shown-test.true);
      block = omega (arith, count, length-append into (drop n c.loop-shown.block), length-drop n c.loop-shown.block, c.loop-shown.invariant.block, c.min-size.ensures);
      world = written_more laws w now c.assign_part.new.self.world v k n vs (take n after) (omega (arith, within)) c.loop-shown.invariant.world block c.assign_part.ensures.world;
      holds = c.assign_part.ensures.holds ∙ c.loop-shown.invariant.holds;
      next = c.assign_part.ensures.next ∙ c.loop-shown.invariant.next;
      sound = c.assign_part.ensures.sound;
      fresh = lent_again c.loop-shown.engine c.assign_part.new.self v (live_stays w now v (seen v) c.requires.live) (steady_still laws w now v (take k vs) c.loop-shown.invariant.world c.requires.steady) c.assign_part.ensures.target;
      others = λ u apart h. c.assign_part.ensures.others u (λ same. apart (sym (root_stays w now u (seen u)) ∙ same ∙ root_stays w now v (seen v))) (c.loop-shown.invariant.others u apart h);
      counted = omega (arith, c.loop-shown.invariant.counted, c.assign_part.ensures.counted, written);
    }

pub returns-clause-written : goal.returns-clause-written
returns-clause-written g c =
    let laws : Laws = record { wholes = c.part_laws.ensures.wholes; join = c.part_laws.ensures.join; looks = c.part_laws.ensures.looks; others = c.part_laws.ensures.others; rest = c.part_laws.ensures.rest; nothing = c.part_laws.ensures.nothing; bases = c.assignment_laws.ensures.bases; cut = c.value_laws.ensures.parts; as_many = c.value_laws.ensures.as_many; itself = c.value_laws.ensures.itself } in
    let past : length c.args.values.now.elems ≤ c.loop-shown.shown = omega (arith, c.loop-shown-test.false, c.elements_of-count.ensures.count, c.strided_dims.ensures.count, ap size_of c.strided_dims.ensures.dims) in
    record {
      world = written_all laws c.args.engine.now.world c.loop-shown.engine.world c.args.target c.loop-shown.shown c.args.values.now.elems past c.loop-shown.invariant.world;
      holds = c.loop-shown.invariant.holds;
      next = c.loop-shown.invariant.next;
      sound = c.loop-shown.invariant.sound;
    }

pub returns-clause-fresh : goal.returns-clause-fresh
returns-clause-fresh g c = c.loop-shown.invariant.fresh

pub returns-clause-others : goal.returns-clause-others
returns-clause-others g c = c.loop-shown.invariant.others

pub returns-clause-counted : goal.returns-clause-counted
returns-clause-counted g c = omega (arith, c.loop-shown.invariant.counted, c.loop-shown.invariant.inside, c.loop-shown-test.false, c.elements_of-count.ensures.count, c.strided_dims.ensures.count, ap size_of c.strided_dims.ensures.dims)
