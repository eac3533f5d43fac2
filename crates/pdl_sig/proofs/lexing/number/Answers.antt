use Rattle.std.proofs.Common.{rules, arith, ap, ◌∙◌, take, drop}
use Rattle.std.specs.Char.{is_ascii_digit}
use Rattle.std.specs.List.{list_all}
use Rattle.pdl_sig.proofs.GrammarFronts.{all_front}
use Rattle.pdl_sig.proofs.GrammarDigits.{no_number, large_number, number_found}
use Rattle.pdl_sig.proofs.lexing.number.Goals as goal

pub returns-then-not-is_number : goal.returns-then-not-is_number
returns-then-not-is_number c =
    let u = c.past_blanks-text.result.now in
    no_number c.args.text.now u c.split_at.result.0.now c.split_at.result.1.now
    (record {
      past = c.past_blanks-text.ensures.past;
      front_is = c.split_at.ensures.front ∙ ap (λ n. take n u) c.digits_len.ensures.passed;
      rest_is = c.split_at.ensures.back ∙ ap (λ n. drop n u) c.digits_len.ensures.passed;
    })
    (search rules)

pub value-value-requires : goal.value-value-requires
value-value-requires c =
    let u = c.past_blanks-text.result.now in
    let front = c.split_at.ensures.front ∙ ap (λ n. take n u) c.digits_len.ensures.passed in
    ap (list_all is_ascii_digit) front ∙ all_front is_ascii_digit u

pub returns-then-value-gt-MOST_EXTENT : goal.returns-then-value-gt-MOST_EXTENT
returns-then-value-gt-MOST_EXTENT c =
    let u = c.past_blanks-text.result.now in
    large_number c.args.text.now u c.split_at.result.0.now c.split_at.result.1.now c.value-value.result
    (record {
      past = c.past_blanks-text.ensures.past;
      front_is = c.split_at.ensures.front ∙ ap (λ n. take n u) c.digits_len.ensures.passed;
      rest_is = c.split_at.ensures.back ∙ ap (λ n. drop n u) c.digits_len.ensures.passed;
    })
    (search rules) c.value-value.ensures (omega arith)

pub returns : goal.returns
returns c =
    let u = c.past_blanks-text.result.now in
    number_found c.args.text.now u c.split_at.result.0.now c.split_at.result.1.now c.value-value.result
    (record {
      past = c.past_blanks-text.ensures.past;
      front_is = c.split_at.ensures.front ∙ ap (λ n. take n u) c.digits_len.ensures.passed;
      rest_is = c.split_at.ensures.back ∙ ap (λ n. drop n u) c.digits_len.ensures.passed;
    })
    (search rules) c.value-value.ensures (omega arith)
