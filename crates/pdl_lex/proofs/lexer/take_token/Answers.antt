use Rattle.std.proofs.Common.{◌≡◌, ap, sym, ◌∙◌, arith, drop, Some, None, Err}
use Rattle.std.proofs.lemmas.List.{take_rest}
use Rattle.pdl_lex.specs.Tokens.{after_tokens, gap_at, token_at}
use Rattle.pdl_lex.proofs.TokenWalks.{gap-at, token-at, none-at, found-more}
use Rattle.pdl_lex.proofs.lexer.take_token.Goals as goal

pub returns-then-gap-gt0-clause-read : goal.returns-then-gap-gt0-clause-read
returns-then-gap-gt0-clause-read c =
    ap (after_tokens c.args.found.now.items)
    (gap-at c.args.text.now c.args.at c.gap_at-gap.result c.requires.within c.if-gap-gt0.true (c.gap_at-gap.ensures.gap ∙ ap gap_at (take_rest c.args.text.now c.args.at)))

pub returns-in_ok-push-in-Some-clause-read : goal.returns-in_ok-push-in-Some-clause-read
returns-in_ok-push-in-Some-clause-read c =
    let text = c.args.text.now in
    let gap : gap_at (drop c.args.at text) ≡ 0 = sym (c.gap_at-gap.ensures.gap ∙ ap gap_at (take_rest text c.args.at)) ∙ omega arith in
    let token : token_at (drop c.args.at text) ≡ Some (c.in-Some.kind, c.in-Some.len) = sym (c.in-Some.ensures.longest ∙ ap token_at (take_rest text c.args.at)) in
    rw c.in_ok-push-in-Some.ensures.items (found-more c.args.found.now.items _ _ _ (token-at text c.args.at c.in-Some.len c.in-Some.kind c.requires.within gap token (c.in-Some.ensures.within).0))

pub returns-in-None-clause-fault : goal.returns-in-None-clause-fault
returns-in-None-clause-fault c named =
    let text = c.args.text.now in
    let gap : gap_at (drop c.args.at text) ≡ 0 = sym (c.gap_at-gap.ensures.gap ∙ ap gap_at (take_rest text c.args.at)) ∙ omega arith in
    let none : token_at (drop c.args.at text) ≡ None = sym (c.in-None.ensures.longest ∙ ap token_at (take_rest text c.args.at)) in
    none-at text c.args.at c.requires.within gap none ∙ ap Err (sym c.fault_of.ensures)
