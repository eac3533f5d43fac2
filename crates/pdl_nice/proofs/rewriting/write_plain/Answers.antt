use Rattle.std.proofs.Common.{◌∙◌, arith}
use Rattle.pdl_nice.proofs.PlainWhole.{deep_text, flat_text, ok_as, err_as}
use Rattle.pdl_nice.proofs.WritingSteps.{as_many_looks}
use Rattle.pdl_nice.proofs.rewriting.write_plain.Goals as goal

pub goes_deep-requires : goal.goes_deep-requires
goes_deep-requires c =
    let looks = c.deref.ensures.value ∙ c.in_ok-read_looks.ensures in
    let many = as_many_looks c.args.text.now c.args.tokens.now c.deref.result.now looks in
    let few = (c.tokens_are_spans.ensures c.args.text.now c.args.tokens.now c.requires.tokens).few in
    let small = c.requires.small in
    record { few = omega (arith, many, few, small) }

pub returns-then-goes_deep-clause-refused : goal.returns-then-goes_deep-clause-refused
returns-then-goes_deep-clause-refused c =
    deep_text c.args.text.now c.args.tokens.now c.deref.result.now c.goes_deep.result (c.deref.ensures.value ∙ c.in_ok-read_looks.ensures) c.goes_deep.ensures c.if-goes_deep.true

pub closing-requires : goal.closing-requires
closing-requires c =
    let looks = c.deref-2.ensures.value ∙ c.in_ok-read_looks.ensures in
    let many = as_many_looks c.args.text.now c.args.tokens.now c.deref-2.result.now looks in
    let few = (c.tokens_are_spans.ensures c.args.text.now c.args.tokens.now c.requires.tokens).few in
    let small = c.requires.small in
    record { few = omega (arith, many, few, small) }

pub returns-clause-ok : goal.returns-clause-ok
returns-clause-ok c =
    ok_as c.write_flat.result c.write_flat.new.into.items (flat_text c.args.text.now c.args.tokens.now c.deref.result.now c.goes_deep.result
    (c.deref.ensures.value ∙ c.in_ok-read_looks.ensures) c.goes_deep.ensures c.if-goes_deep.false) c.write_flat.ensures.ok

pub returns-clause-refused : goal.returns-clause-refused
returns-clause-refused c =
    err_as c.write_flat.result (flat_text c.args.text.now c.args.tokens.now c.deref.result.now c.goes_deep.result
    (c.deref.ensures.value ∙ c.in_ok-read_looks.ensures) c.goes_deep.ensures c.if-goes_deep.false) c.write_flat.ensures.refused
