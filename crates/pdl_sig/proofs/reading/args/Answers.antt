use Rattle.std.proofs.Common.{rules}
use Rattle.pdl_sig.proofs.SignatureReadingTurns.{args_next, args_ended, args_last, args_rest, args_broken, args_out}
use Rattle.pdl_sig.proofs.reading.args.Goals as goal

pub returns-in_default : goal.returns-in_default
returns-in_default c =
    args_broken c.loop-turn.turn _ c.loop-turn.rest.now c.loop-turn.args.items _ c.loop-turn-test.true (search rules) c.loop-turn.invariant

pub returns-then-is_end : goal.returns-then-is_end
returns-then-is_end c =
    args_last c.loop-turn.turn _ c.loop-turn.rest.now c.in-Some.after.now c.loop-turn.args.items c.push.new.self.items c.in-Some.arg _
    (record {
      inside = c.loop-turn-test.true;
      arg = rw c.in-Some.is at c.in_ok-arg.ensures;
      added = search rules;
      before = c.loop-turn.invariant;
    })
    (search rules) (search rules)

pub returns-in_default-sign : goal.returns-in_default-sign
returns-in_default-sign c =
    args_rest c.loop-turn.turn _ c.loop-turn.rest.now c.in-Some.after.now c.loop-turn.args.items c.push.new.self.items c.in-Some.arg _
    (record {
      inside = c.loop-turn-test.true;
      arg = rw c.in-Some.is at c.in_ok-arg.ensures;
      added = search rules;
      before = c.loop-turn.invariant;
    })
    (search rules) (search rules)

pub returns-then-is_end-2 : goal.returns-then-is_end-2
returns-then-is_end-2 c =
    args_ended c.loop-turn.turn _ c.loop-turn.rest.now c.in-Some.after.now c.in-Some-sign.after_sign.now c.loop-turn.args.items c.push.new.self.items c.in-Some.arg _
    (record {
      inside = c.loop-turn-test.true;
      arg = rw c.in-Some.is at c.in_ok-arg.ensures;
      added = search rules;
      before = c.loop-turn.invariant;
    })
    c.in-Some-sign.ensures.read (search rules)

pub loop-turn-preserved : goal.loop-turn-preserved
loop-turn-preserved c =
    args_next c.loop-turn.turn _ c.loop-turn.rest.now c.in-Some.after.now c.in-Some-sign.after_sign.now c.loop-turn.args.items c.push.new.self.items c.in-Some.arg _
    (record {
      inside = c.loop-turn-test.true;
      arg = rw c.in-Some.is at c.in_ok-arg.ensures;
      added = search rules;
      before = c.loop-turn.invariant;
    })
    c.in-Some-sign.ensures.read (search rules)

pub returns : goal.returns
returns c = args_out c.loop-turn.turn _ c.loop-turn.rest.now c.loop-turn.args.items _ (search rules) c.loop-turn.invariant
