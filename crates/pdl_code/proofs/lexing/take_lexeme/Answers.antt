use Rattle.std.proofs.Common.{◌≡◌, ap, sym, ◌∙◌, drop, Some, None}
use Rattle.std.proofs.lemmas.List.{take_rest}
use Rattle.pdl_code.specs.Lexing.{behind, lexeme_at}
use Rattle.pdl_code.proofs.LexingWalks.{blank_at, token_at, none_at, found_more, found_last}
use Rattle.pdl_code.proofs.lexing.take_lexeme.Goals as goal

pub returns-then-is_blank-clause-read : goal.returns-then-is_blank-clause-read
returns-then-is_blank-clause-read c =
    ap (behind c.args.found.now.items) (blank_at c.args.text.now c.args.at c.requires.within (sym c.is_blank.ensures ∙ c.if-is_blank.true))

pub returns-in_ok-keep-in-Some-clause-read : goal.returns-in_ok-keep-in-Some-clause-read
returns-in_ok-keep-in-Some-clause-read c =
    let text = c.args.text.now in
    let at = c.args.at in
    let token : lexeme_at at (drop at text) ≡ Some (c.in-Some.lexeme, c.in-Some.len) = sym (c.in-Some.ensures.read ∙ ap (lexeme_at at) (take_rest text at)) in
    rw c.in_ok-keep-in-Some.ensures.ok
    (found_more c.args.found.now.items _ _ _ (token_at text at c.in-Some.len c.in-Some.lexeme c.requires.within (sym c.is_blank.ensures ∙ c.if-is_blank.false) token (c.in-Some.ensures.within).0))

pub returns-in-None-clause-stopped : goal.returns-in-None-clause-stopped
returns-in-None-clause-stopped c is =
    let text = c.args.text.now in
    let at = c.args.at in
    let none : lexeme_at at (drop at text) ≡ None = sym (c.in-None.ensures.read ∙ ap (lexeme_at at) (take_rest text at)) in
    found_last c.args.found.now.items _ (none_at text at c.requires.within (sym c.is_blank.ensures ∙ c.if-is_blank.false) none)
