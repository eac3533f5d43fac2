use Rattle.std.proofs.Common.{ap, ◌∙◌, sym, length, arith, Ok, Vec, Global, List}
use Rattle.std.specs.Prelude.{Bool}
use Rattle.pdl_code.specs.declared.lexeme.Lexeme.{Lexeme}
use Rattle.pdl_code.specs.declared.names.KernelCode.{KernelCode}
use Rattle.pdl_code.specs.Depth.{is_too_deep}
use Rattle.pdl_code.specs.Lexing.{Lexed}
use Rattle.pdl_code.specs.Meaning.{code_in}
use Rattle.pdl_code.specs.TreeOf.{code_of, RawStmt}
use Rattle.pdl_code.specs.CodeReading.{read_code}
use Rattle.pdl_code.specs.Resolving.{or_bad}
use Rattle.pdl_code.proofs.TreeBlocks.{pass_on}
use Rattle.pdl_code.proofs.MeaningLemmas.{err_of, fault_of, few_tokens, meant_in, not_whole, ok_of, read_as, too_deep, unread}
use Rattle.pdl_code.proofs.reading.read_code.Goals as goal

abbrev seen : List Lexeme → Bool → Lexed
seen ts whole = record { lexemes = ts; whole = whole }

pub returns-then-is_too_deep-clause-refused : goal.returns-then-is_too_deep-clause-refused
returns-then-is_too_deep-clause-refused c =
    too_deep c.args.signature.now c.args.text.now (seen c.in-Ok.found.lexemes.items c.in-Ok.found.whole) c.in-Ok.ensures.read
    (ap is_too_deep (sym c.as_slice.ensures.value) ∙ sym c.is_too_deep.ensures ∙ c.if-is_too_deep.true)

pub returns-then-not-found-clause-refused : goal.returns-then-not-found-clause-refused
returns-then-not-found-clause-refused c =
    meant_in c.args.signature.now c.args.text.now (seen c.in-Ok.found.lexemes.items c.in-Ok.found.whole) c.in-Ok.ensures.read
    (ap is_too_deep (sym c.as_slice.ensures.value) ∙ sym c.is_too_deep.ensures ∙ c.if-is_too_deep.false)
    ∙ not_whole c.args.signature.now c.args.text.now c.in-Ok.found.lexemes.items c.in-Ok.found.whole c.if-not-found.true

pub parsed-requires : goal.parsed-requires
parsed-requires c =
    let few = few_tokens c.args.text.now in
    let read = ap (λ (l : Lexed). length l.lexemes) c.in-Ok.ensures.read in
    let same = ap length c.as_slice-in-Ok.ensures.value in
    record { small = omega (arith, few, read, same, c.requires.small) }

pub returns-in-Ok-parsed-clause-read : goal.returns-in-Ok-parsed-clause-read
returns-in-Ok-parsed-clause-read c =
    let s = c.args.signature.now in
    let text = c.args.text.now in
    let ts = c.in-Ok.found.lexemes.items in
    let whole = c.in-Ok.found.whole in
    ok_of (λ (k : KernelCode). code_of k.stmts) c.judged.result _ (code_in s text)
    (meant_in s text (seen ts whole) c.in-Ok.ensures.read (ap is_too_deep (sym c.as_slice.ensures.value) ∙ sym c.is_too_deep.ensures ∙ c.if-is_too_deep.false)
    ∙ read_as s text ts whole (code_of c.as_slice-in-Ok-parsed.result.now) c.if-not-found.false
    (ap (λ us. or_bad (read_code us)) (sym c.as_slice-in-Ok.ensures.value) ∙ c.in-Ok-parsed.ensures ∙ ap (λ xs. Ok (code_of xs)) (sym c.as_slice-in-Ok-parsed.ensures.value)))
    c.judged.ensures.read

pub returns-in-Ok-parsed-clause-refused : goal.returns-in-Ok-parsed-clause-refused
returns-in-Ok-parsed-clause-refused c =
    let s = c.args.signature.now in
    let text = c.args.text.now in
    let ts = c.in-Ok.found.lexemes.items in
    let whole = c.in-Ok.found.whole in
    err_of (λ (k : KernelCode). code_of k.stmts) c.judged.result _ (code_in s text)
    (meant_in s text (seen ts whole) c.in-Ok.ensures.read (ap is_too_deep (sym c.as_slice.ensures.value) ∙ sym c.is_too_deep.ensures ∙ c.if-is_too_deep.false)
    ∙ read_as s text ts whole (code_of c.as_slice-in-Ok-parsed.result.now) c.if-not-found.false
    (ap (λ us. or_bad (read_code us)) (sym c.as_slice-in-Ok.ensures.value) ∙ c.in-Ok-parsed.ensures ∙ ap (λ xs. Ok (code_of xs)) (sym c.as_slice-in-Ok-parsed.ensures.value)))
    c.judged.ensures.read

pub returns-in-Ok-clause-refused : goal.returns-in-Ok-clause-refused
returns-in-Ok-clause-refused c =
    let s = c.args.signature.now in
    let text = c.args.text.now in
    let ts = c.in-Ok.found.lexemes.items in
    let whole = c.in-Ok.found.whole in
    fault_of (λ (k : KernelCode). code_of k.stmts) c.in-Err-parsed.fault (code_in s text)
    (pass_on (λ (v : Vec RawStmt Global). code_of v.items) (λ (k : KernelCode). code_of k.stmts) c.in-Err-parsed.fault (or_bad (read_code c.as_slice-in-Ok.result.now)) (code_in s text)
    (λ x h. meant_in s text (seen ts whole) c.in-Ok.ensures.read (ap is_too_deep (sym c.as_slice.ensures.value) ∙ sym c.is_too_deep.ensures ∙ c.if-is_too_deep.false)
    ∙ unread s text ts whole x c.if-not-found.false (ap (λ us. or_bad (read_code us)) (sym c.as_slice-in-Ok.ensures.value) ∙ h))
    c.in-Err-parsed.ensures)
