-- The values stand before the operands, each as long as the part.
use Rattle.std.proofs.Common.{◌≡◌, ℕ, ◌++◌, length, length-append, take, All, Ok, is_ok, arith, ap, sym, subst, ◌∙◌}
use Rattle.pdl_lemmas.specs.Lists.{take_written}
use Rattle.pdl_elem.specs.Types.{InRange}
use Rattle.pdl_ops.specs.Parts.{part_values}
use Rattle.pdl_ops.proofs.values.part_within.Goals as goal

-- what is in the room before the operands
before : (c : goal.After-room-2-1) → take c.args.count (c.values_part.new.values ++ (c.values_part.new.left ++ c.values_part.new.right)) ≡ c.values_part.new.values
before c = take_written c.args.count c.values_part.new.values (c.values_part.new.left ++ c.values_part.new.right) (omega arith)

pub values_part-requires-clause-never : goal.values_part-requires-clause-never
values_part-requires-clause-never c =
    let size : length c.split_at_mut-values.result.0.now ≡ c.args.count = omega (arith, c.requires.room) in
    ap (λ (n : ℕ). is_ok (part_values c.args.sign c.args.old.now.ty c.args.new.now.ty c.args.first n c.args.old.now.elems c.args.new.now.elems)) size ∙ c.requires.never

pub returns-clause-value : goal.returns-clause-value
returns-clause-value c =
    let size : length c.split_at_mut-values.result.0.now ≡ c.args.count = omega (arith, c.requires.room) in
    ap (λ (n : ℕ). part_values c.args.sign c.args.old.now.ty c.args.new.now.ty c.args.first n c.args.old.now.elems c.args.new.now.elems) (sym size)
    ∙ c.values_part.ensures.value ∙ ap Ok (sym (before c))

pub returns-clause-in_range : goal.returns-clause-in_range
returns-clause-in_range c = subst (All (InRange c.args.old.now.ty)) (sym (before c)) c.values_part.ensures.in_range

pub returns-clause-length : goal.returns-clause-length
returns-clause-length c =
    omega (arith, c.requires.room, c.values_part.ensures.count, c.values_part.ensures.left_stays, c.values_part.ensures.right_stays, length-append c.values_part.new.values (c.values_part.new.left ++ c.values_part.new.right), length-append c.values_part.new.left c.values_part.new.right)
