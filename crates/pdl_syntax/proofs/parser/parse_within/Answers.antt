use Rattle.std.proofs.Common.{◌∙◌, ap, length, arith, List, subst}
use Rattle.pdl_lexemes.specs.declared.Lexeme.{Lexeme}
use Rattle.pdl_syntax.specs.Parsed.{checked_lexemes, IsParsed}
use Rattle.pdl_syntax.proofs.ParsedAnswers.{answers_of, well_made_of, lexemes_length}
use Rattle.pdl_syntax.proofs.parser.parse_within.Goals as goal

pub read-requires : goal.read-requires
read-requires c =
    let spans = c.tokens_are_spans.ensures c.args.text.now c.args.tokens.now c.requires.tokens in
    let same = ap length (c.as_slice.ensures.value ∙ c.in_ok-read_lexemes.ensures) in
    omega (arith, spans.few, same, lexemes_length c.args.text.now c.args.tokens.now, c.requires.small)

pub returns-clause-exact : goal.returns-clause-exact
returns-clause-exact c =
    answers_of c.parsing_is_the_grammar.ensures c.args.text.now c.args.tokens.now c.read.result
    (subst (λ (ls : List Lexeme). IsParsed (checked_lexemes c.args.text.now ls) c.read.result) (c.as_slice.ensures.value ∙ c.in_ok-read_lexemes.ensures) c.read.ensures)

pub returns-clause-well_made : goal.returns-clause-well_made
returns-clause-well_made c =
    well_made_of c.parsing_is_the_grammar.ensures c.args.text.now c.args.tokens.now c.spelled_are_well_made.ensures c.lexemes_hold_texts.ensures c.requires.tokens c.read.result
    (answers_of c.parsing_is_the_grammar.ensures c.args.text.now c.args.tokens.now c.read.result
    (subst (λ (ls : List Lexeme). IsParsed (checked_lexemes c.args.text.now ls) c.read.result) (c.as_slice.ensures.value ∙ c.in_ok-read_lexemes.ensures) c.read.ensures))
