use Rattle.std.proofs.Common.{◌≡◌, ◌<◌, ◌≤◌, ◌++◌, length, get_or, pos, sym, ap, ◌∙◌, w64, rules, arith}
use mir.Val.{SFits}
use Rattle.std.specs.Fmt.{signed_decimal}
use Rattle.std.proofs.lemmas.Int.{to_z-of_z}
use Rattle.pdl_session.proofs.NiceCallPatterns.{filled_byte, filled_number, filled_short, filled_all, filled_more}
use Rattle.pdl_session.proofs.views.nice.filled_in.Goals as goal
use Rattle.pdl_session.proofs.views.nice.filled_in.Goals.{then-byte-eq35+else-used-numbers+in_ok-push_number, else-byte-eq35+in_ok-push}

pub returns-then-used-numbers : goal.returns-then-used-numbers
returns-then-used-numbers c =
    let none : length c.args.numbers.now ≤ c.loop-byte.used = omega arith in
    sym (filled_short _ _ _ _ _ c.loop-byte-test.true c.if-byte-eq35.true none c.loop-byte.invariant)

pub loop-byte-preserved : goal.loop-byte-preserved
loop-byte-preserved c =
    elim c.if-byte-eq35.branch [
      | then-byte-eq35+else-used-numbers+in_ok-push_number w ↦
          let some : c.loop-byte.used < length c.args.numbers.now = omega arith in
          let fits : SFits w64 (get_or c.args.numbers.now c.loop-byte.used (pos 0)) = search rules in
          let e : w.push_number.new.into.items ≡ c.loop-byte.text.items ++ signed_decimal (get_or c.args.numbers.now c.loop-byte.used (pos 0)) =
          w.in_ok-push_number.ensures ∙ ap (λ z. c.loop-byte.text.items ++ signed_decimal z) (to_z-of_z w64 _ fits) in
          rw (w.used-is, w.text-is) (filled_number _ _ _ _ _ _ c.loop-byte-test.true w.if-byte-eq35.true some e c.loop-byte.invariant)
      | else-byte-eq35+in_ok-push w ↦
          rw (w.used-is, w.text-is) (filled_byte _ _ _ _ _ _ c.loop-byte-test.true w.if-byte-eq35.false w.in_ok-push.ensures.items c.loop-byte.invariant)
    ]

pub returns-then-used-numbers-2 : goal.returns-then-used-numbers-2
returns-then-used-numbers-2 c =
    sym (filled_more _ _ _ _ _ c.loop-byte-test.false c.if-used-numbers-2.true c.loop-byte.invariant)

pub returns : goal.returns
returns c = sym (filled_all _ _ _ _ _ c.loop-byte-test.false c.if-used-numbers-2.false c.loop-byte.invariant)
