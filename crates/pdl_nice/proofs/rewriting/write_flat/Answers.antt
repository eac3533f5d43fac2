use Rattle.std.proofs.Common.{◌≡◌, length, ◌∙◌, arith}
use Rattle.pdl_lex.specs.Written.{written, end_behind}
use Rattle.pdl_nice.proofs.PlainWhole.{long_text, text_is}
use Rattle.pdl_nice.proofs.WritingSteps.{something_written}
use Rattle.pdl_nice.proofs.rewriting.write_flat.Goals as goal

pub returns-then-len-gt-STATEMENT_LIMIT-clause-refused :
    goal.returns-then-len-gt-STATEMENT_LIMIT-clause-refused
returns-then-len-gt-STATEMENT_LIMIT-clause-refused c =
    let long = c.if-len-gt-STATEMENT_LIMIT.true in
    let size : c.len.result ≡ length c.write_end.new.into.items = c.len.ensures ∙ c.write_end.new.into.ok.0 in
    long_text (written c.args.text.now 0 c.args.tokens.now) (end_behind c.args.text.now 0 c.args.tokens.now) c.args.into.now.items
    c.write_tokens.new.into.items c.write_end.new.into.items c.requires.empty
    (something_written c.in_ok-write_tokens.field-0 c.args.into.now.items c.write_tokens.new.into.items _ c.if-not-branch.false c.in_ok-write_tokens.ensures.written)
    c.in_ok-write_end.ensures (omega (arith, long, size))

pub returns-clause-ok : goal.returns-clause-ok
returns-clause-ok c =
    let short = c.if-len-gt-STATEMENT_LIMIT.false in
    let size : c.len.result ≡ length c.write_end.new.into.items = c.len.ensures ∙ c.write_end.new.into.ok.0 in
    text_is (written c.args.text.now 0 c.args.tokens.now) (end_behind c.args.text.now 0 c.args.tokens.now) c.args.into.now.items
    c.write_tokens.new.into.items c.write_end.new.into.items c.requires.empty
    (something_written c.in_ok-write_tokens.field-0 c.args.into.now.items c.write_tokens.new.into.items _ c.if-not-branch.false c.in_ok-write_tokens.ensures.written)
    c.in_ok-write_end.ensures (omega (arith, short, size))

pub returns-clause-within : goal.returns-clause-within
returns-clause-within c =
    let short = c.if-len-gt-STATEMENT_LIMIT.false in
    let size : c.len.result ≡ length c.write_end.new.into.items = c.len.ensures ∙ c.write_end.new.into.ok.0 in
    omega (arith, short, size)
