-- One part more of the values is found; at the end all are.
use Rattle.std.proofs.Common.{◌≡◌, ℕ, ◌+◌, ◌*◌, ◌≤◌, ℤ, List, length, length-append, length-drop, ◌++◌, take, drop, All, Ok, arith, ap, sym, subst, ◌∙◌}
use Rattle.std.proofs.lemmas.List.{length-take-le, take-append-le}
use Rattle.pdl_numbers.specs.Typed.{TypedElements}
use Rattle.pdl_elem.specs.declared.Ty.{Ty}
use Rattle.pdl_elem.specs.Types.{InRange}
use Rattle.pdl_ops.proofs.ElementwiseParts.{found_all, found_first, found_more, found_part}
use Rattle.pdl_ops.proofs.values.values_within.Goals as goal

pub loop-done-init : goal.loop-done-init
loop-done-init c = record {
  inside = omega arith;
  room = c.requires.room;
  ty = ap (λ (p : TypedElements). p.ty) c.requires.empty;
  made = found_first c.args.sign c.args.old.now.ty c.args.new.now.ty c.args.old.now.elems c.args.new.now.elems c.args.made.elems (ap (λ (p : TypedElements). p.elems) c.requires.empty);
}

pub part_within-requires : goal.part_within-requires
part_within-requires c =
    let left : c.loop-done.done + c.min-size.result ≤ length c.args.new.now.elems = omega (arith, c.min-size.ensures, c.loop-done-test.true, c.requires.count) in
    record {
      room = length-take-le (3 * c.min-size.result) c.loop-done.room (omega (arith, c.min-size.ensures, c.loop-done.invariant.room));
      old_within = omega (arith, left, c.requires.paired);
      new_within = left;
      never = found_part c.value_laws.ensures.parts c.args.sign c.args.old.now.ty c.args.new.now.ty c.args.old.now.elems c.args.new.now.elems c.loop-done.done c.min-size.result c.requires.never;
    }

pub extend-requires : goal.extend-requires
extend-requires c =
    let n : ℕ = c.min-size.result in
    let after : List ℤ = c.part_within.new.room ++ drop (3 * n) c.loop-done.room in
    let block : take n after ≡ take n c.part_within.new.room = take-append-le n c.part_within.new.room (drop (3 * n) c.loop-done.room) (omega (arith, c.part_within.ensures.length)) in
    subst (λ (ty : Ty). All (InRange ty) (take n after)) (sym c.loop-done.invariant.ty)
    (subst (All (InRange c.args.old.now.ty)) (sym block) c.part_within.ensures.in_range)

pub loop-done-preserved : goal.loop-done-preserved
loop-done-preserved c =
    let k : ℕ = c.loop-done.done in
    let n : ℕ = c.min-size.result in
    let room : length c.part_within.new.room ≡ 3 * n = c.part_within.ensures.length in
    let after : List ℤ = c.part_within.new.room ++ drop (3 * n) c.loop-done.room in
    let block : take n after ≡ take n c.part_within.new.room = take-append-le n c.part_within.new.room (drop (3 * n) c.loop-done.room) (omega (arith, room)) in
    record {
      inside = omega arith;
      room = omega (arith, room, c.loop-done.invariant.room, length-append c.part_within.new.room (drop (3 * n) c.loop-done.room), length-drop (3 * n) c.loop-done.room);
      ty = ap (λ (p : TypedElements). p.ty) c.in_ok-extend.ensures.ok ∙ c.loop-done.invariant.ty;
      made = found_more c.value_laws.ensures.parts c.args.sign c.args.old.now.ty c.args.new.now.ty c.args.old.now.elems c.args.new.now.elems k n c.loop-done.made.elems (take n after) _
          c.loop-done.invariant.made (c.part_within.ensures.value ∙ ap Ok (sym block)) (subst (All (InRange c.args.old.now.ty)) (sym block) c.part_within.ensures.in_range) (ap (λ (p : TypedElements). p.elems) c.in_ok-extend.ensures.ok);
    }

pub returns-clause-value : goal.returns-clause-value
returns-clause-value c =
    found_all c.value_laws.ensures.as_many c.args.sign c.args.old.now.ty c.args.new.now.ty c.args.old.now.elems c.args.new.now.elems c.loop-done.done c.loop-done.made.elems c.requires.paired
    (omega (arith, c.loop-done-test.false, c.requires.count)) c.requires.never c.loop-done.invariant.made

pub returns-clause-in_range : goal.returns-clause-in_range
returns-clause-in_range c = c.loop-done.invariant.made.in_range
