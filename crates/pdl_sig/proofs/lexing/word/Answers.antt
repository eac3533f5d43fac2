use Rattle.std.proofs.Common.{rules, ap, ◌∙◌, take, drop}
use Rattle.pdl_sig.proofs.GrammarDigits.{word_found}
use Rattle.pdl_sig.proofs.lexing.word.Goals as goal

pub returns : goal.returns
returns c =
    let u = c.past_blanks-text.result.now in
    word_found c.args.text.now u _ _
    (record {
      past = c.past_blanks-text.ensures.past;
      front_is = c.split_at.ensures.front ∙ ap (λ n. take n u) c.word_len.ensures.passed;
      rest_is = c.split_at.ensures.back ∙ ap (λ n. drop n u) c.word_len.ensures.passed;
    })
    (search rules)
