use Rattle.std.proofs.Common.{◌≡◌, pos, Some, None, get_or, sym, ap, arith, to_z, of_z, w64}
use Rattle.std.proofs.lemmas.Int.{to_z-of_z}
use Rattle.pdl_machine.specs.declared.fault.Fault.TheVariants.{BadDimension}
use Rattle.pdl_machine.specs.Then.{or_fault}
use Rattle.pdl_session.specs.Sizes.{clamped_size}
use Rattle.pdl_session.proofs.ArgumentsGathered.{front_none, front_more, front_stops, front_all}
use Rattle.pdl_session.proofs.dims.clamped.Goals as goal

pub loop-number-init : goal.loop-number-init
loop-number-init c = front_none clamped_size c.args.numbers.now c.new-sizes.result.items c.new-sizes.ensures.items

pub returns-in-None : goal.returns-in-None
returns-in-None c =
    let x = get_or c.args.numbers.now c.loop-number.number-index (pos 0) in
    let h : clamped_size (to_z w64 (of_z w64 x)) ≡ None = sym c.in-None.ensures in
    let e : clamped_size x ≡ None = grind (arith, to_z-of_z) in
    ap (or_fault BadDimension) (front_stops clamped_size c.args.numbers.now c.loop-number.sizes.items c.loop-number.number-index (pos 0) c.loop-number-test.true e c.loop-number.invariant)

pub loop-number-preserved : goal.loop-number-preserved
loop-number-preserved c =
    let x = get_or c.args.numbers.now c.loop-number.number-index (pos 0) in
    let h : clamped_size (to_z w64 (of_z w64 x)) ≡ Some c.in-Some.size = sym c.in-Some.ensures in
    let e : clamped_size x ≡ Some c.in-Some.size = grind (arith, to_z-of_z) in
    front_more clamped_size c.args.numbers.now c.loop-number.sizes.items c.push.new.self.items c.loop-number.number-index (pos 0) c.in-Some.size c.loop-number-test.true e c.in_ok-push-in-Some.ensures.items c.loop-number.invariant

pub returns : goal.returns
returns c = ap (or_fault BadDimension) (front_all clamped_size c.args.numbers.now c.loop-number.sizes.items c.loop-number.number-index c.loop-number-test.false c.loop-number.invariant)
