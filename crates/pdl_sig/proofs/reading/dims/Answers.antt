use Rattle.std.proofs.Common.{rules}
use Rattle.pdl_sig.proofs.SignatureReadingTurns.{dims_next, dims_closed, dims_open, dims_broken, dims_out}
use Rattle.pdl_sig.proofs.reading.dims.Goals as goal

pub returns-in_default : goal.returns-in_default
returns-in_default c =
    dims_broken c.loop-turn.turn _ c.loop-turn.rest.now c.loop-turn.dims.items _ c.loop-turn-test.true (search rules) c.loop-turn.invariant

pub returns-in-Some-sign-2 : goal.returns-in-Some-sign-2
returns-in-Some-sign-2 c =
    dims_closed c.loop-turn.turn _ c.loop-turn.rest.now c.in-Some.after.now c.in-Some-sign-2.after.now c.loop-turn.dims.items c.push.new.self.items c.in-Some.dim _
    c.loop-turn-test.true (rw c.in-Some.is at c.in_ok-dim.ensures) (search rules) c.in-Some-sign-2.ensures.read (search rules) c.loop-turn.invariant

pub returns-in_default-sign-2 : goal.returns-in_default-sign-2
returns-in_default-sign-2 c =
    dims_open c.loop-turn.turn _ c.loop-turn.rest.now c.in-Some.after.now c.loop-turn.dims.items c.in-Some.dim _
    c.loop-turn-test.true (rw c.in-Some.is at c.in_ok-dim.ensures) (search rules) (search rules) c.loop-turn.invariant

pub loop-turn-preserved : goal.loop-turn-preserved
loop-turn-preserved c =
    dims_next c.loop-turn.turn _ c.loop-turn.rest.now c.in-Some.after.now c.in-Some-sign.after.now c.loop-turn.dims.items c.push.new.self.items c.in-Some.dim _
    c.loop-turn-test.true (rw c.in-Some.is at c.in_ok-dim.ensures) c.in-Some-sign.ensures.read (search rules) c.loop-turn.invariant

pub returns : goal.returns
returns c = dims_out c.loop-turn.turn _ c.loop-turn.rest.now c.loop-turn.dims.items _ (search rules) c.loop-turn.invariant
