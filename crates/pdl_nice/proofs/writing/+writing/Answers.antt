use Rattle.std.proofs.Common.{◌+◌, ◌∷◌, drop, take, length, sym, ◌∙◌, ap, subst, refl, arith}
use Rattle.std.proofs.lemmas.List.{length-take-le}
use Rattle.pdl_lex.specs.Written.{written}
use Rattle.pdl_nice.specs.Looks.{before_of, begins_nice}
use Rattle.pdl_nice.specs.Reading.{arguments_in}
use Rattle.pdl_nice.specs.Adding.{shown, AllLieIn}
use Rattle.pdl_nice.specs.Writing.{onto, Writes, token_there, text_behind, value_text, values_text, AllValues}
use Rattle.pdl_nice.proofs.Options.{if_ok_map}
use Rattle.pdl_nice.proofs.ReadingParts.{front_read, no_front_read, lies_there}
use Rattle.pdl_nice.proofs.WritingPlaces.{as_many_written}
use Rattle.pdl_nice.proofs.WritingSteps.{same_looks, as_many_looks, look_there, nothing_written, something_written, value_writes, stays_behind, nice_behind, all_written, no_arguments, no_values, nice_writes, added_places, first_places, places_are_values, fits_value, one_of, value_read, one_more, no_more}
use Rattle.pdl_nice.proofs.WritingTail.{onto_nothing, writes_part, some_place, kept_there}
use Rattle.std.proofs.lemmas.List.{append-nil}
use Rattle.std.proofs.Common.{[], ◌++◌}
use Rattle.pdl_nice.proofs.writing.+writing.Goals as goal

pub write_tokens-loop-at-init : goal.write_tokens-loop-at-init
write_tokens-loop-at-init t c =
    let len = as_many_written c.args.text.now 0 c.args.tokens.now in
    let le = c.requires.within in
    record {
      behind = omega arith;
      within = omega (arith, len, le);
      kept = refl;
      done = [];
      written = sym (append-nil c.args.into.now.items);
      rest = sym (onto_nothing (text_behind c.args.before (drop c.args.from (written c.args.text.now 0 c.args.tokens.now))));
    }

pub write_tokens-loop-at-preserved-then-begins_nice : goal.write_tokens-loop-at-preserved-then-begins_nice
write_tokens-loop-at-preserved-then-begins_nice t c =
    let i = c.loop-at.invariant in
    let lie = some_place c.in_ok-end.field-0 c.in-Some.end c.loop-at.at (length c.args.tokens.now) c.in-Some.is c.in_ok-end.ensures.within in
    let behind = i.behind in
    let low = lie.0 in
    let high = lie.1 in
    let len = as_many_written c.args.text.now 0 c.args.tokens.now in
    let part = writes_part c.in_ok-end.field-0 c.in-Some.end (written c.args.text.now 0 c.args.tokens.now) c.loop-at.behind c.loop-at.at c.loop-at.into.items
    c.write_nice.new.into.items c.in-Some.is c.in_ok-end.ensures.written in
    let on = nice_behind (written c.args.text.now 0 c.args.tokens.now) c.args.from c.loop-at.at c.in-Some.end c.args.before c.loop-at.behind
    c.args.into.now.items c.loop-at.into.items c.write_nice.new.into.items i.done i.written i.rest part in
    record {
      behind = omega (arith, behind, low);
      within = omega (arith, len, high);
      kept = kept_there c.in_ok-end.field-0 c.in-Some.end c.in-Some.is c.in_ok-end.ensures.kept ∙ i.kept;
      done = i.done ++ part.part;
      written = on.0;
      rest = on.1;
    }

pub write_tokens-loop-at-preserved : goal.write_tokens-loop-at-preserved
write_tokens-loop-at-preserved t c =
    let i = c.loop-at.invariant in
    let lt = c.loop-at-test.true in
    let behind = i.behind in
    let len = as_many_written c.args.text.now 0 c.args.tokens.now in
    let w = token_there c.args.text.now c.args.tokens.now c.loop-at.at in
    let is = look_there c.args.text.now c.args.tokens.now c.args.looks.now c.loop-at.at c.requires.looks lt in
    let on = stays_behind c.args.text.now c.args.tokens.now c.args.from c.loop-at.at c.args.before c.loop-at.behind c.before_of-behind.result
    c.args.into.now.items c.loop-at.into.items c.write_gap.new.into.items c.write_bytes.new.into.items i.done lt
    (ap (begins_nice c.loop-at.behind) is ∙ (sym c.begins_nice.ensures ∙ c.if-begins_nice.false)) (c.before_of-behind.ensures ∙ ap before_of (sym is))
    c.in_ok-write_gap.ensures c.in_ok-write_bytes.ensures i.written i.rest in
    record {
      behind = omega (arith, behind);
      within = omega (arith, len, lt);
      kept = i.kept;
      done = i.done ++ (w.gap ++ w.bytes);
      written = on.0;
      rest = on.1;
    }

pub write_tokens-returns-clause-written : goal.write_tokens-returns-clause-written
write_tokens-returns-clause-written t c =
    let i = c.loop-at.invariant in
    let len = as_many_written c.args.text.now 0 c.args.tokens.now in
    let done = c.loop-at-test.false in
    all_written (written c.args.text.now 0 c.args.tokens.now) c.args.from c.loop-at.at c.args.before c.loop-at.behind c.args.into.now.items c.loop-at.into.items
    i.done (omega (arith, len, done)) i.written i.rest

pub write_value-returns-clause-written : goal.write_value-returns-clause-written
write_value-returns-clause-written t c =
    let is = look_there c.args.text.now c.args.tokens.now c.args.looks.now c.args.from c.requires.looks c.requires.within in
    if_ok_map c.write_tokens.result
    (λ found. Writes found c.write_bytes.new.into.items c.write_tokens.new.into.items (text_behind c.before_of-before.result (drop (c.args.from + 1) (written c.args.text.now 0 c.args.tokens.now))))
    (λ found. Writes found c.args.into.now.items c.write_tokens.new.into.items (value_text (drop c.args.from (written c.args.text.now 0 c.args.tokens.now))))
    (λ found h. value_writes c.args.text.now c.args.tokens.now c.args.from found c.before_of-before.result c.args.into.now.items c.write_bytes.new.into.items
    c.write_tokens.new.into.items c.requires.within (c.before_of-before.ensures ∙ ap before_of (sym is)) c.in_ok-write_bytes.ensures h)
    c.write_tokens.ensures.written

pub write_nice-returns-in_default-clause-written : goal.write_nice-returns-in_default-clause-written
write_nice-returns-in_default-clause-written t c =
    let is = look_there c.args.text.now c.args.tokens.now c.args.looks.now c.args.at c.requires.looks c.requires.within in
    no_arguments c.args.text.now c.args.tokens.now c.args.at c.args.before c.requires.within (ap (begins_nice c.args.before) is ∙ c.requires.begins)
    (no_front_read c.in_ok-close.field-0 (written c.args.text.now 0 c.args.tokens.now) (c.args.at + 1) c.write_head.new.into.items c.arguments.new.into.items
    c.args.values.now.items c.arguments.new.values.items (arguments_in (drop (c.args.at + 1) (written c.args.text.now 0 c.args.tokens.now))) c.in_default.is
    (c.in_ok-close.ensures.read (written c.args.text.now 0 c.args.tokens.now) (same_looks c.args.text.now c.args.tokens.now c.args.looks.now c.requires.looks)))

pub write_nice-returns-then-not-branch-clause-written : goal.write_nice-returns-then-not-branch-clause-written
write_nice-returns-then-not-branch-clause-written t c =
    let ws = written c.args.text.now 0 c.args.tokens.now in
    let is = look_there c.args.text.now c.args.tokens.now c.args.looks.now c.args.at c.requires.looks c.requires.within in
    let h = front_read c.in_ok-close.field-0 c.in-Some.close (written c.args.text.now 0 c.args.tokens.now) (c.args.at + 1) c.write_head.new.into.items c.arguments.new.into.items
    c.args.values.now.items c.arguments.new.values.items (arguments_in (drop (c.args.at + 1) (written c.args.text.now 0 c.args.tokens.now))) c.in-Some.is
    (c.in_ok-close.ensures.read (written c.args.text.now 0 c.args.tokens.now) (same_looks c.args.text.now c.args.tokens.now c.args.looks.now c.requires.looks)) in
    no_values c.args.text.now c.args.tokens.now c.args.at c.in-Some.close c.args.before c.write_head.new.into.items c.arguments.new.into.items
    c.args.values.now.items c.arguments.new.values.items c.requires.within (ap (begins_nice c.args.before) is ∙ c.requires.begins) h
    (ap (λ rs. values_text (shown (written c.args.text.now 0 c.args.tokens.now) rs))
    (sym (added_places c.args.values.now.items c.arguments.new.values.items h.adds.more c.len-first.result (c.len-first.ensures ∙ c.args.values.now.ok.0) h.adds.behind))
    ∙ nothing_written c.in_ok-write_values.field-0 c.push.new.into.items c.write_values.new.into.items _ c.if-not-branch.true c.in_ok-write_values.ensures.written)

pub write_nice-returns-clause-written : goal.write_nice-returns-clause-written
write_nice-returns-clause-written t c =
    let is = look_there c.args.text.now c.args.tokens.now c.args.looks.now c.args.at c.requires.looks c.requires.within in
    let h = front_read c.in_ok-close.field-0 c.in-Some.close (written c.args.text.now 0 c.args.tokens.now) (c.args.at + 1) c.write_head.new.into.items c.arguments.new.into.items
    c.args.values.now.items c.arguments.new.values.items (arguments_in (drop (c.args.at + 1) (written c.args.text.now 0 c.args.tokens.now))) c.in-Some.is
    (c.in_ok-close.ensures.read (written c.args.text.now 0 c.args.tokens.now) (same_looks c.args.text.now c.args.tokens.now c.args.looks.now c.requires.looks)) in
    nice_writes c.args.text.now c.args.tokens.now c.args.at c.in-Some.close c.args.before c.args.into.now.items c.write_gap.new.into.items c.write_head.new.into.items
    c.arguments.new.into.items c.push.new.into.items c.write_values.new.into.items c.push-2.new.into.items c.args.values.now.items c.arguments.new.values.items
    c.requires.within (ap (begins_nice c.args.before) is ∙ c.requires.begins) c.in_ok-write_gap.ensures c.in_ok-write_head.ensures h c.in_ok-push.ensures
    (ap (λ rs. onto c.push.new.into.items (values_text (shown (written c.args.text.now 0 c.args.tokens.now) rs)))
    (sym (added_places c.args.values.now.items c.arguments.new.values.items h.adds.more c.len-first.result (c.len-first.ensures ∙ c.args.values.now.ok.0) h.adds.behind))
    ∙ something_written c.in_ok-write_values.field-0 c.push.new.into.items c.write_values.new.into.items _ c.if-not-branch.false c.in_ok-write_values.ensures.written)
    c.in_ok-push-2.ensures

pub write_nice-returns-clause-kept : goal.write_nice-returns-clause-kept
write_nice-returns-clause-kept t c =
    let h = front_read c.in_ok-close.field-0 c.in-Some.close (written c.args.text.now 0 c.args.tokens.now) (c.args.at + 1) c.write_head.new.into.items c.arguments.new.into.items
    c.args.values.now.items c.arguments.new.values.items (arguments_in (drop (c.args.at + 1) (written c.args.text.now 0 c.args.tokens.now))) c.in-Some.is
    (c.in_ok-close.ensures.read (written c.args.text.now 0 c.args.tokens.now) (same_looks c.args.text.now c.args.tokens.now c.args.looks.now c.requires.looks)) in
    c.truncate.ensures.items ∙ (ap (take c.len-first.result) (c.in_ok-write_values.ensures.kept c.if-not-branch.false)
    ∙ first_places c.args.values.now.items c.arguments.new.values.items h.adds.more c.len-first.result (c.len-first.ensures ∙ c.args.values.now.ok.0) h.adds.behind)

pub write_nice-write_values-requires : goal.write_nice-write_values-requires
write_nice-write_values-requires t c =
    let ws = written c.args.text.now 0 c.args.tokens.now in
    let lie = lies_there c.in_ok-close.field-0 c.in-Some.close (c.args.at + 1) (length c.args.looks.now) c.in-Some.is c.in_ok-close.ensures.within in
    let low = lie.0 in
    let high = lie.1 in
    let len = as_many_looks c.args.text.now c.args.tokens.now c.args.looks.now c.requires.looks in
    let h = front_read c.in_ok-close.field-0 c.in-Some.close (written c.args.text.now 0 c.args.tokens.now) (c.args.at + 1) c.write_head.new.into.items c.arguments.new.into.items
    c.args.values.now.items c.arguments.new.values.items (arguments_in (drop (c.args.at + 1) (written c.args.text.now 0 c.args.tokens.now))) c.in-Some.is
    (c.in_ok-close.ensures.read (written c.args.text.now 0 c.args.tokens.now) (same_looks c.args.text.now c.args.tokens.now c.args.looks.now c.requires.looks)) in
    let more = added_places c.args.values.now.items c.arguments.new.values.items h.adds.more c.len-first.result (c.len-first.ensures ∙ c.args.values.now.ok.0) h.adds.behind in (
      omega (arith, c.decreases, low, high, len),
      (
        omega (arith, high, len),
        (
          c.requires.looks,
          (
            c.requires.as_many,
            (
              (λ k k1 k2. c.requires.known k (omega (arith, k1)) k2),
              (
                subst (AllLieIn (c.args.at + 1) c.in-Some.close) (sym more) h.adds.lie,
                subst (λ rs. AllValues (shown (written c.args.text.now 0 c.args.tokens.now) rs)) (sym more)
                    (places_are_values (written c.args.text.now 0 c.args.tokens.now) (c.args.at + 1) c.in-Some.close c.write_head.new.into.items
                    c.arguments.new.into.items c.args.values.now.items c.arguments.new.values.items h),
              ),
            ),
          ),
        ),
      ),
    )

pub write_values-slice_bounds-write_value-end : goal.write_values-slice_bounds-write_value-end
write_values-slice_bounds-write_value-end t c =
    let o = one_of (written c.args.text.now 0 c.args.tokens.now) c.args.from c.args.to c.args.first c.loop-j.j c.len-end.result c.args.values.now.len
    c.args.values.now.items c.loop-j.values.items c.index.result.now c.requires.lie c.requires.are c.loop-j.invariant.kept c.index.ensures c.loop-j.auto.j
    c.loop-j-test.true c.len-end.ensures c.args.values.now.ok.0 in
    let high = o.lies.2 in
    sym (length-take-le c.index.result.now.1 c.args.tokens.now (omega (arith, high, c.requires.within)))

pub write_values-slice_bounds-write_value-end-in-loop-j :
    goal.write_values-slice_bounds-write_value-end-in-loop-j
write_values-slice_bounds-write_value-end-in-loop-j t c =
    let o = one_of (written c.args.text.now 0 c.args.tokens.now) c.args.from c.args.to c.args.first c.loop-j.j c.len-end.result c.args.values.now.len
    c.args.values.now.items c.loop-j.values.items c.index.result.now c.requires.lie c.requires.are c.loop-j.invariant.kept c.index.ensures c.loop-j.auto.j
    c.loop-j-test.true c.len-end.ensures c.args.values.now.ok.0 in
    let high = o.lies.2 in
    let len = as_many_looks c.args.text.now c.args.tokens.now c.args.looks.now c.requires.looks in
    sym (length-take-le c.index.result.now.1 c.args.looks.now (omega (arith, high, len, c.requires.within)))

pub write_values-slice_bounds-write_value-end-in-loop-j-2 :
    goal.write_values-slice_bounds-write_value-end-in-loop-j-2
write_values-slice_bounds-write_value-end-in-loop-j-2 t c =
    let o = one_of (written c.args.text.now 0 c.args.tokens.now) c.args.from c.args.to c.args.first c.loop-j.j c.len-end.result c.args.values.now.len
    c.args.values.now.items c.loop-j.values.items c.index.result.now c.requires.lie c.requires.are c.loop-j.invariant.kept c.index.ensures c.loop-j.auto.j
    c.loop-j-test.true c.len-end.ensures c.args.values.now.ok.0 in
    let high = o.lies.2 in
    let len = as_many_looks c.args.text.now c.args.tokens.now c.args.looks.now c.requires.looks in
    sym (length-take-le c.index.result.now.1 c.args.ends.now (omega (arith, high, len, c.requires.as_many, c.requires.within)))

pub write_values-write_value-requires : goal.write_values-write_value-requires
write_values-write_value-requires t c =
    let o = one_of (written c.args.text.now 0 c.args.tokens.now) c.args.from c.args.to c.args.first c.loop-j.j c.len-end.result c.args.values.now.len
    c.args.values.now.items c.loop-j.values.items c.index.result.now c.requires.lie c.requires.are c.loop-j.invariant.kept c.index.ensures c.loop-j.auto.j
    c.loop-j-test.true c.len-end.ensures c.args.values.now.ok.0 in
    let low = o.lies.0 in
    let some = o.lies.1 in
    let high = o.lies.2 in
    let few = length-take-le c.index.result.now.1 c.args.tokens.now (omega (arith, high, c.requires.within)) in
    let f = fits_value c.args.text.now c.args.tokens.now c.args.looks.now c.args.ends.now c.args.from c.index.result.now.0 c.index.result.now.1 c.requires.looks
    c.requires.as_many c.requires.known o.lies.0 o.lies.1 (omega (arith, high, c.requires.within)) o.value in (
      omega (arith, c.decreases, low, some, high, few),
      (f.within, (f.looks_are, (f.as_many, f.known))),
    )

pub write_values-returns-then-not-branch-clause-written :
    goal.write_values-returns-then-not-branch-clause-written
write_values-returns-then-not-branch-clause-written t c =
    let o = one_of (written c.args.text.now 0 c.args.tokens.now) c.args.from c.args.to c.args.first c.loop-j.j c.len-end.result c.args.values.now.len
    c.args.values.now.items c.loop-j.values.items c.index.result.now c.requires.lie c.requires.are c.loop-j.invariant.kept c.index.ensures c.loop-j.auto.j
    c.loop-j-test.true c.len-end.ensures c.args.values.now.ok.0 in
    let high = o.lies.2 in
    let f = fits_value c.args.text.now c.args.tokens.now c.args.looks.now c.args.ends.now c.args.from c.index.result.now.0 c.index.result.now.1 c.requires.looks
    c.requires.as_many c.requires.known o.lies.0 o.lies.1 (omega (arith, high, c.requires.within)) o.value in
    no_more (written c.args.text.now 0 c.args.tokens.now) c.args.first c.loop-j.j c.args.values.now.items c.index.result.now c.loop-j.invariant.done o.below
    c.loop-j.invariant.rest (drop c.index.result.now.0 (written c.args.text.now 0 (take c.index.result.now.1 c.args.tokens.now)))
    (value_read (written c.args.text.now 0 c.args.tokens.now) c.loop-j.j c.args.values.now.items c.index.result.now
    (drop c.index.result.now.0 (written c.args.text.now 0 (take c.index.result.now.1 c.args.tokens.now))) o.is f.value)
    (nothing_written c.in_ok-write_value.field-0 c.push.new.into.items c.write_value.new.into.items _ c.if-not-branch.true c.in_ok-write_value.ensures.written)

pub write_values-loop-j-preserved : goal.write_values-loop-j-preserved
write_values-loop-j-preserved t c =
    let o = one_of (written c.args.text.now 0 c.args.tokens.now) c.args.from c.args.to c.args.first c.loop-j.j c.len-end.result c.args.values.now.len
    c.args.values.now.items c.loop-j.values.items c.index.result.now c.requires.lie c.requires.are c.loop-j.invariant.kept c.index.ensures c.loop-j.auto.j
    c.loop-j-test.true c.len-end.ensures c.args.values.now.ok.0 in
    let high = o.lies.2 in
    let f = fits_value c.args.text.now c.args.tokens.now c.args.looks.now c.args.ends.now c.args.from c.index.result.now.0 c.index.result.now.1 c.requires.looks
    c.requires.as_many c.requires.known o.lies.0 o.lies.1 (omega (arith, high, c.requires.within)) o.value in
    let on = one_more (written c.args.text.now 0 c.args.tokens.now) c.args.first c.loop-j.j c.args.values.now.items c.index.result.now c.args.into.now.items
    c.loop-j.into.items c.push.new.into.items c.write_value.new.into.items c.loop-j.invariant.done o.below c.loop-j.invariant.written
    c.loop-j.invariant.rest c.in_ok-push.ensures (drop c.index.result.now.0 (written c.args.text.now 0 (take c.index.result.now.1 c.args.tokens.now)))
    (value_read (written c.args.text.now 0 c.args.tokens.now) c.loop-j.j c.args.values.now.items c.index.result.now
    (drop c.index.result.now.0 (written c.args.text.now 0 (take c.index.result.now.1 c.args.tokens.now))) o.is f.value)
    (something_written c.in_ok-write_value.field-0 c.push.new.into.items c.write_value.new.into.items _ c.if-not-branch.false c.in_ok-write_value.ensures.written) in
    record {
      kept = c.in_ok-write_value.ensures.kept c.if-not-branch.false ∙ c.loop-j.invariant.kept;
      done = c.loop-j.invariant.done ++ 44 ∷ on.0;
      written = on.1;
      rest = on.2;
    }
