-- The cells are those of the run, whatever its step.
use Rattle.std.proofs.Common.{◌≡◌, ◌≤◌, ℤ, pos, negsuc, ◌+ℤ◌, ◌*ℤ◌, [], length, get_or, arith, sym, subst, ap, ◌∙◌, to_z}
use Rattle.std.proofs.lemmas.Int.{to_z-of_z}
use Rattle.std.specs.Int.{w32}
use Rattle.std.specs.Prelude.{unsigned_abs}
use Rattle.pdl_numbers.specs.Reads.{IsInside}
use Rattle.pdl_numbers.proofs.CopyLemmas.{cells_copied, neighbours_copied}
use Rattle.pdl_numbers.proofs.copies.copy_by_step.Goals as goal

pub copy_steps-requires-then-inc-eqminus1 : goal.copy_steps-requires-then-inc-eqminus1
copy_steps-requires-then-inc-eqminus1 g c =
    let back : c.args.inc ≡ negsuc 0 = sym (to_z-of_z w32 c.args.inc c.ranges.inc) ∙ ap (to_z w32) c.if-inc-eqminus1.true in
    let thin : g.row.N ≤ 8 = g.met.T.PackedType.narrow in (
      omega (arith, thin),
      (c.requires.small, λ j h. subst (λ (z : ℤ). IsInside (length c.args.from.now) (pos c.args.place +ℤ z *ℤ pos j)) back (c.requires.inside j h)),
    )

pub returns-then-inc-eq1 : goal.returns-then-inc-eq1
returns-then-inc-eq1 g c =
    let one : c.args.inc ≡ pos 1 = sym (to_z-of_z w32 c.args.inc c.ranges.inc) ∙ ap (to_z w32) c.if-inc-eq1.true in
    neighbours_copied g.T.PackedType.ty c.args.from.now c.copy_from_slice.new.self c.args.place c.args.inc (length c.args.cells.now) _ one (omega arith) c.requires.packed (omega arith) c.requires.inside c.copy_from_slice.ensures.after

pub returns-then-inc-eq2 : goal.returns-then-inc-eq2
returns-then-inc-eq2 g c =
    let two : c.args.inc ≡ pos 2 = sym (to_z-of_z w32 c.args.inc c.ranges.inc) ∙ ap (to_z w32) c.if-inc-eq2.true in
    cells_copied g.T.PackedType.ty c.args.from.now c.copy_steps.new.cells c.args.place c.args.inc (length c.args.cells.now) c.requires.packed (omega arith) c.requires.inside
    (λ j h. c.copy_steps.ensures j h ∙ sym (ap (λ (z : ℤ). get_or c.args.from.now (unsigned_abs (pos c.args.place +ℤ z *ℤ pos j)) []) two))

pub returns-then-inc-eqminus1 : goal.returns-then-inc-eqminus1
returns-then-inc-eqminus1 g c =
    let back : c.args.inc ≡ negsuc 0 = sym (to_z-of_z w32 c.args.inc c.ranges.inc) ∙ ap (to_z w32) c.if-inc-eqminus1.true in
    cells_copied g.T.PackedType.ty c.args.from.now c.copy_steps-then-inc-eqminus1.new.cells c.args.place c.args.inc (length c.args.cells.now) c.requires.packed (omega arith) c.requires.inside
    (λ j h. c.copy_steps-then-inc-eqminus1.ensures j h ∙ sym (ap (λ (z : ℤ). get_or c.args.from.now (unsigned_abs (pos c.args.place +ℤ z *ℤ pos j)) []) back))

pub returns-else-inc-eqminus1 : goal.returns-else-inc-eqminus1
returns-else-inc-eqminus1 g c =
    cells_copied g.T.PackedType.ty c.args.from.now c.copy_steps-else-inc-eqminus1.new.cells c.args.place c.args.inc (length c.args.cells.now) c.requires.packed (omega arith) c.requires.inside
    (λ j h. c.copy_steps-else-inc-eqminus1.ensures j h ∙ ap (λ (z : ℤ). get_or c.args.from.now (unsigned_abs (pos c.args.place +ℤ z *ℤ pos j)) []) (to_z-of_z w32 c.args.inc c.ranges.inc))
