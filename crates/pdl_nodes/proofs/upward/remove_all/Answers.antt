use Rattle.std.proofs.Common.{◌+◌, [], ◌∷◌, drop, arith}
use Rattle.pdl_nodes.proofs.upward.remove_all.Goals as goal
use Rattle.pdl_nodes.proofs.WorldFamilies.{still_falls}
use Rattle.pdl_nodes.proofs.HoldsGone.{removed_beside, under_end, under_next}
use Rattle.pdl_nodes.proofs.HoldsRemoved.{removed_all, removing_falls, removing_more, removing_none, removing_older}

pub loop-start-init : goal.loop-start-init
loop-start-init c = removing_none c.args.table.now c.args.holds.now (c.args.id ∷ c.args.loose.now) c.requires.noted

pub remove_up-requires-clause-falls : goal.remove_up-requires-clause-falls
remove_up-requires-clause-falls c = removing_falls c.args.table.now c.args.holds.now c.loop-start.table c.loop-start.holds (c.args.id ∷ drop c.loop-start.start-index c.args.loose.now) (c.args.id ∷ c.args.loose.now) (still_falls c.args.table.now c.requires.still) c.loop-start.invariant

pub remove_up-requires-clause-older : goal.remove_up-requires-clause-older
remove_up-requires-clause-older c = removing_older c.args.table.now c.args.holds.now c.loop-start.table c.loop-start.holds (c.args.id ∷ drop c.loop-start.start-index c.args.loose.now) (c.args.id ∷ c.args.loose.now) c.requires.still c.loop-start.invariant

pub remove_up-requires-clause-noted : goal.remove_up-requires-clause-noted
remove_up-requires-clause-noted c = c.loop-start.invariant.noted

pub remove_up-requires-2-clause-falls : goal.remove_up-requires-2-clause-falls
remove_up-requires-2-clause-falls c = removing_falls c.args.table.now c.args.holds.now c.loop-start.table c.loop-start.holds (c.args.id ∷ drop c.loop-start.start-index c.args.loose.now) (c.args.id ∷ c.args.loose.now) (still_falls c.args.table.now c.requires.still) c.loop-start.invariant

pub remove_up-requires-2-clause-older : goal.remove_up-requires-2-clause-older
remove_up-requires-2-clause-older c = removing_older c.args.table.now c.args.holds.now c.loop-start.table c.loop-start.holds (c.args.id ∷ drop c.loop-start.start-index c.args.loose.now) (c.args.id ∷ c.args.loose.now) c.requires.still c.loop-start.invariant

pub remove_up-requires-2-clause-noted : goal.remove_up-requires-2-clause-noted
remove_up-requires-2-clause-noted c = c.loop-start.invariant.noted

pub loop-start-preserved : goal.loop-start-preserved
loop-start-preserved c =
    removing_more c.args.table.now c.args.holds.now c.loop-start.table c.remove_up.new.table c.loop-start.holds c.remove_up.new.holds (c.args.id ∷ drop c.loop-start.start-index c.args.loose.now) (c.args.id ∷ drop (c.loop-start.start-index + 1) c.args.loose.now) (c.args.id ∷ c.args.loose.now) _ c.loop-start.invariant
    (λ v. under_next c.args.loose.now c.loop-start.start-index 0 c.args.id v (omega (arith, c.loop-start-test.true))) c.remove_up.ensures

pub returns-clause-rows : goal.returns-clause-rows
returns-clause-rows c =
    (removed_all c.args.table.now c.args.holds.now c.remove_up-2.new.table c.remove_up-2.new.holds (c.args.id ∷ c.args.loose.now) c.requires.still c.requires.numbers c.requires.from
    (removing_more c.args.table.now c.args.holds.now c.loop-start.table c.remove_up-2.new.table c.loop-start.holds c.remove_up-2.new.holds (c.args.id ∷ drop c.loop-start.start-index c.args.loose.now) [] (c.args.id ∷ c.args.loose.now) c.args.id c.loop-start.invariant
    (λ v. under_end c.args.loose.now c.loop-start.start-index c.args.id v (omega (arith, c.loop-start-test.false))) c.remove_up-2.ensures)).rows

pub returns-clause-beside : goal.returns-clause-beside
returns-clause-beside c =
    removed_beside c.args.table.now c.args.holds.now c.remove_up-2.new.table c.remove_up-2.new.holds
    (removed_all c.args.table.now c.args.holds.now c.remove_up-2.new.table c.remove_up-2.new.holds (c.args.id ∷ c.args.loose.now) c.requires.still c.requires.numbers c.requires.from
    (removing_more c.args.table.now c.args.holds.now c.loop-start.table c.remove_up-2.new.table c.loop-start.holds c.remove_up-2.new.holds (c.args.id ∷ drop c.loop-start.start-index c.args.loose.now) [] (c.args.id ∷ c.args.loose.now) c.args.id c.loop-start.invariant
    (λ v. under_end c.args.loose.now c.loop-start.start-index c.args.id v (omega (arith, c.loop-start-test.false))) c.remove_up-2.ensures))

pub returns-clause-counts : goal.returns-clause-counts
returns-clause-counts c =
    (removed_all c.args.table.now c.args.holds.now c.remove_up-2.new.table c.remove_up-2.new.holds (c.args.id ∷ c.args.loose.now) c.requires.still c.requires.numbers c.requires.from
    (removing_more c.args.table.now c.args.holds.now c.loop-start.table c.remove_up-2.new.table c.loop-start.holds c.remove_up-2.new.holds (c.args.id ∷ drop c.loop-start.start-index c.args.loose.now) [] (c.args.id ∷ c.args.loose.now) c.args.id c.loop-start.invariant
    (λ v. under_end c.args.loose.now c.loop-start.start-index c.args.id v (omega (arith, c.loop-start-test.false))) c.remove_up-2.ensures)).counts
