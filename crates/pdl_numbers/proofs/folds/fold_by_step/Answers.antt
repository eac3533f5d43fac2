-- The step is 1 where that is tested.
use Rattle.std.proofs.Common.{◌≡◌, pos, ◌+ℤ◌, ◌*ℤ◌, length, rules, arith, to_z, ap, sym, subst, ◌∙◌}
use Rattle.std.proofs.lemmas.Int.{to_z-of_z}
use Rattle.std.specs.Int.{w32}
use Rattle.pdl_numbers.specs.Reads.{IsInside}
use Rattle.pdl_numbers.proofs.folds.fold_by_step.Goals as goal

pub fold_steps-requires : goal.fold_steps-requires
fold_steps-requires g c =
    let one : c.args.inc ≡ pos 1 = sym (to_z-of_z w32 c.args.inc c.ranges.inc) ∙ ap (to_z w32) c.if-inc-eq1.true in
    (omega arith, (search rules, (c.requires.small, (λ j h. subst (λ z. IsInside (length c.args.numbers.now) (pos c.args.place +ℤ z *ℤ pos j)) one (c.requires.inside j h), (c.requires.room, c.requires.packed)))))
