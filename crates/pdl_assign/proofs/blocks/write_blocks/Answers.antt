-- One block more is found as at the start, and written.
use Rattle.std.proofs.Common.{◌≡◌, ◌≤◌, ℕ, ℤ, List, ◌++◌, length, length-append, length-drop, take, drop, true, is_ok, Ok, refl, sym, ◌∙◌, ap, arith}
use Rattle.std.proofs.lemmas.List.{length-replicate, length-take-le}
use Rattle.pdl_shape.specs.Shape.{size_of}
use Rattle.pdl_lemmas.specs.Lists.{take_written}
use Rattle.pdl_world.specs.World.{World, dims_in, elements, look}
use Rattle.pdl_engine.specs.State.{is_fresh}
use Rattle.pdl_assign.specs.Blocks.{block_in, list_of, written_in}
use Rattle.pdl_assign.proofs.BlockSteps.{Laws, block_is, length_written, lent_again, lent_still, live_stays, steady_still, written_all, written_more}
use Rattle.pdl_assign.proofs.blocks.write_blocks.Goals as goal

pub loop-done-init : goal.loop-done-init
loop-done-init g c = record {
  inside = omega arith;
  values = length-replicate _ _;
  left = length-replicate _ _;
  right = length-replicate _ _;
  world = sym (c.part_laws.ensures.nothing c.args.engine.now.world c.args.target c.requires.sound);
  holds = refl;
  next = refl;
  sound = c.requires.sound;
  target_fresh = c.requires.target_fresh;
  source_fresh = c.requires.source_fresh;
  counted = omega arith;
}

pub find_block-requires-clause-never : goal.find_block-requires-clause-never
find_block-requires-clause-never g c =
    let laws : Laws = record { wholes = c.part_laws.ensures.wholes; join = c.part_laws.ensures.join; looks = c.part_laws.ensures.looks; others = c.part_laws.ensures.others; rest = c.part_laws.ensures.rest; nothing = c.part_laws.ensures.nothing; bases = c.assignment_laws.ensures.bases; cut = c.value_laws.ensures.parts; as_many = c.value_laws.ensures.as_many; itself = c.value_laws.ensures.itself } in
    let w : World = c.args.engine.now.world in
    let now : World = c.loop-done.engine.world in
    let n : ℕ = c.min-size.result in
    let size : length (take n c.loop-done.values) ≡ n = length-take-le n c.loop-done.values (omega (arith, c.min-size.ensures, c.loop-done.invariant.values)) in
    let k : length (elements w c.args.target) ≡ size_of (dims_in w c.args.target) = sym c.count_of-count.ensures.elements ∙ c.count_of-count.ensures.dims in
    let e : block_in c.args.sign now c.args.target c.args.source c.loop-done.done n ≡ Ok (take n (drop c.loop-done.done (list_of (written_in c.args.sign w c.args.target c.args.source)))) =
    block_is laws c.args.sign w now c.args.target c.args.source c.loop-done.done n c.requires.can.reads c.requires.target k c.requires.never (omega (arith, c.loop-done.invariant.inside, c.count_of-count.ensures.dims)) c.loop-done.invariant.world in
    ap (λ i. is_ok (block_in c.args.sign now c.args.target c.args.source c.loop-done.done i)) size ∙ ap is_ok e

pub loop-done-preserved : goal.loop-done-preserved
loop-done-preserved g c =
    let laws : Laws = record { wholes = c.part_laws.ensures.wholes; join = c.part_laws.ensures.join; looks = c.part_laws.ensures.looks; others = c.part_laws.ensures.others; rest = c.part_laws.ensures.rest; nothing = c.part_laws.ensures.nothing; bases = c.assignment_laws.ensures.bases; cut = c.value_laws.ensures.parts; as_many = c.value_laws.ensures.as_many; itself = c.value_laws.ensures.itself } in
    let w : World = c.args.engine.now.world in
    let now : World = c.loop-done.engine.world in
    let n : ℕ = c.min-size.result in
    let vs : List ℤ = list_of (written_in c.args.sign w c.args.target c.args.source) in
    let size : length (take n c.loop-done.values) ≡ n = length-take-le n c.loop-done.values (omega (arith, c.min-size.ensures, c.loop-done.invariant.values)) in
    let left : length (take n c.loop-done.left) ≡ n = length-take-le n c.loop-done.left (omega (arith, c.min-size.ensures, c.loop-done.invariant.values, c.loop-done.invariant.left)) in
    let right : length (take n c.loop-done.right) ≡ n = length-take-le n c.loop-done.right (omega (arith, c.min-size.ensures, c.loop-done.invariant.values, c.loop-done.invariant.right)) in
    let k : length (elements w c.args.target) ≡ size_of (dims_in w c.args.target) = sym c.count_of-count.ensures.elements ∙ c.count_of-count.ensures.dims in
    let within : c.loop-done.done ≤ size_of (dims_in w c.args.target) = omega (arith, c.loop-done.invariant.inside, c.count_of-count.ensures.dims) in
    let e : block_in c.args.sign now c.args.target c.args.source c.loop-done.done n ≡ Ok (take n (drop c.loop-done.done vs)) =
    block_is laws c.args.sign w now c.args.target c.args.source c.loop-done.done n c.requires.can.reads c.requires.target k c.requires.never within c.loop-done.invariant.world in
    let both : Ok c.find_block.new.values ≡ Ok (take n (drop c.loop-done.done vs)) =
    sym c.find_block.ensures.value ∙ ap (λ i. block_in c.args.sign now c.args.target c.args.source c.loop-done.done i) size ∙ e in
    let found : c.find_block.new.values ≡ take n (drop c.loop-done.done vs) = cc in
    let count : length c.find_block.new.values ≡ n = c.find_block.ensures.count ∙ size in
    let block : take n (c.find_block.new.values ++ drop n c.loop-done.values) ≡ take n (drop c.loop-done.done vs) = take_written n c.find_block.new.values (drop n c.loop-done.values) count ∙ found in
    let many : length vs ≡ size_of (dims_in w c.args.target) = length_written laws c.args.sign w c.args.target c.args.source k c.requires.never in
    let seen : look now c.args.target ≡ look w c.args.target = ap (λ x. look x c.args.target) c.loop-done.invariant.world ∙ laws.looks w c.args.target c.args.target 0 (take c.loop-done.done vs) in
    let lent : is_fresh c.assign_part.new.self c.args.target ≡ true =
    lent_again c.loop-done.engine c.assign_part.new.self c.args.target (live_stays w now c.args.target seen c.requires.target) (steady_still laws w now c.args.target (take c.loop-done.done vs) c.loop-done.invariant.world c.requires.can.steady) c.assign_part.ensures.target in
    record {
      inside = omega (arith, c.min-size.ensures);
      values = omega (arith, c.min-size.ensures, count, length-append c.find_block.new.values (drop n c.loop-done.values), length-drop n c.loop-done.values, c.loop-done.invariant.values);
      left = omega (arith, c.min-size.ensures, left, c.find_block.ensures.left_stays, length-append c.find_block.new.left (drop n c.loop-done.left), length-drop n c.loop-done.left, c.loop-done.invariant.values, c.loop-done.invariant.left);
      right = omega (arith, c.min-size.ensures, right, c.find_block.ensures.right_stays, length-append c.find_block.new.right (drop n c.loop-done.right), length-drop n c.loop-done.right, c.loop-done.invariant.values, c.loop-done.invariant.right);
      world = written_more laws w now c.assign_part.new.self.world c.args.target c.loop-done.done n vs (take n (c.find_block.new.values ++ drop n c.loop-done.values)) (omega (arith, within, many)) c.loop-done.invariant.world block c.assign_part.ensures.world;
      holds = c.assign_part.ensures.holds ∙ c.loop-done.invariant.holds;
      next = c.assign_part.ensures.next ∙ c.loop-done.invariant.next;
      sound = c.assign_part.ensures.sound;
      target_fresh = lent;
      source_fresh = lent_still laws c.args.sign w now c.args.target c.args.source c.loop-done.done vs (is_fresh c.loop-done.engine) (is_fresh c.assign_part.new.self) c.requires.can.reads c.loop-done.invariant.world c.assign_part.ensures.others c.loop-done.invariant.source_fresh lent;
      counted = omega (arith, c.loop-done.invariant.counted, c.assign_part.ensures.counted, length-take-le n (c.find_block.new.values ++ drop n c.loop-done.values) (omega (arith, count, length-append c.find_block.new.values (drop n c.loop-done.values))));
    }

pub returns-clause-written : goal.returns-clause-written
returns-clause-written g c =
    let laws : Laws = record { wholes = c.part_laws.ensures.wholes; join = c.part_laws.ensures.join; looks = c.part_laws.ensures.looks; others = c.part_laws.ensures.others; rest = c.part_laws.ensures.rest; nothing = c.part_laws.ensures.nothing; bases = c.assignment_laws.ensures.bases; cut = c.value_laws.ensures.parts; as_many = c.value_laws.ensures.as_many; itself = c.value_laws.ensures.itself } in
    let w : World = c.args.engine.now.world in
    let k : length (elements w c.args.target) ≡ size_of (dims_in w c.args.target) = sym c.count_of-count.ensures.elements ∙ c.count_of-count.ensures.dims in
    record {
      world = written_all laws w c.loop-done.engine.world c.args.target c.loop-done.done (list_of (written_in c.args.sign w c.args.target c.args.source))
          (omega (arith, length_written laws c.args.sign w c.args.target c.args.source k c.requires.never, c.loop-done-test.false, c.count_of-count.ensures.dims)) c.loop-done.invariant.world;
      holds = c.loop-done.invariant.holds;
      next = c.loop-done.invariant.next;
      sound = c.loop-done.invariant.sound;
    }

pub returns-clause-fresh : goal.returns-clause-fresh
returns-clause-fresh g c = c.loop-done.invariant.target_fresh

pub returns-clause-counted : goal.returns-clause-counted
returns-clause-counted g c = omega (arith, c.loop-done.invariant.counted, c.loop-done.invariant.inside, c.loop-done-test.false, c.count_of-count.ensures.dims)
