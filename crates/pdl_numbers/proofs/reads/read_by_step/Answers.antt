-- Backwards the places are the same, at the step that is known.
use Rattle.std.proofs.Common.{◌≡◌, ◌≤◌, ℤ, pos, negsuc, ◌+ℤ◌, ◌*ℤ◌, length, arith, sym, subst, ap, ◌∙◌, to_z}
use Rattle.std.proofs.lemmas.Int.{to_z-of_z}
use Rattle.std.specs.Int.{w32}
use Rattle.pdl_numbers.specs.Reads.{IsInside}
use Rattle.pdl_numbers.proofs.reads.read_by_step.Goals as goal

pub read_steps-requires-then-inc-eqminus1 : goal.read_steps-requires-then-inc-eqminus1
read_steps-requires-then-inc-eqminus1 g c =
    let back : c.args.inc ≡ negsuc 0 = sym (to_z-of_z w32 c.args.inc c.ranges.inc) ∙ ap (to_z w32) c.if-inc-eqminus1.true in
    let thin : g.row.N ≤ 8 = g.met.T.PackedType.narrow in (
      omega (arith, thin),
      (c.requires.small, λ j h. subst (λ (z : ℤ). IsInside (length c.args.numbers.now) (pos c.args.place +ℤ z *ℤ pos j)) back (c.requires.inside j h)),
    )
