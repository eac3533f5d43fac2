use Rattle.std.proofs.Common.{ap, ◌∙◌, sym, subst, ℕ, Ok, Vec, Global}
use Rattle.pdl_code.specs.declared.names.KernelCode.{KernelCode}
use Rattle.pdl_code.specs.Fit.{IsFit, code_locals}
use Rattle.pdl_code.specs.TreeOf.{KernelStmt, code_of}
use Rattle.pdl_code.specs.Meaning.{judged}
use Rattle.pdl_code.proofs.TreeBlocks.{pass_on}
use Rattle.pdl_code.proofs.MeaningLemmas.{count_is, fits, judged_by_names, judged_refused}
use Rattle.pdl_code.proofs.reading.judged.Goals as goal

pub returns-in-Ok-resolved-clause-fit : goal.returns-in-Ok-resolved-clause-fit
returns-in-Ok-resolved-clause-fit c =
    subst (λ xs. IsFit c.args.signature.now (code_of xs)) (sym c.new.ensures)
    (fits c.args.signature.now c.args.text.now (code_of c.args.raw.now) (code_of c.in-Ok-resolved.stmts.items) c.requires.well_formed c.in-Ok-resolved.ensures)

pub returns-in-Ok-resolved-clause-locals : goal.returns-in-Ok-resolved-clause-locals
returns-in-Ok-resolved-clause-locals c =
    count_is c.args.signature.now c.args.text.now (code_of c.args.raw.now) (code_of c.in-Ok-resolved.stmts.items) c.in-Ok.locals c.requires.well_formed c.in-Ok.ensures c.in-Ok-resolved.ensures
    ∙ ap (λ xs. code_locals 0 (code_of xs)) (sym c.new.ensures)

pub returns-in-Ok-resolved-clause-read : goal.returns-in-Ok-resolved-clause-read
returns-in-Ok-resolved-clause-read c =
    judged_by_names c.args.signature.now c.args.text.now (code_of c.args.raw.now) c.in-Ok.locals c.in-Ok.ensures ∙ c.in-Ok-resolved.ensures
    ∙ ap (λ xs. Ok (code_of xs)) (sym c.new.ensures)

pub returns-in-Err-resolved-clause-read : goal.returns-in-Err-resolved-clause-read
returns-in-Err-resolved-clause-read c =
    let s = c.args.signature.now in
    let text = c.args.text.now in
    let raw = code_of c.args.raw.now in
    pass_on (λ (v : Vec KernelStmt Global). code_of v.items) (λ (k : KernelCode). code_of k.stmts) c.in-Err-resolved.fault _ (judged s text raw)
    (λ x h. judged_by_names s text raw c.in-Ok.locals c.in-Ok.ensures ∙ h) c.in-Err-resolved.ensures

pub returns-in-Err-clause-read : goal.returns-in-Err-clause-read
returns-in-Err-clause-read c =
    let s = c.args.signature.now in
    let text = c.args.text.now in
    let raw = code_of c.args.raw.now in
    pass_on (λ (n : ℕ). n) (λ (k : KernelCode). code_of k.stmts) c.in-Err.fault _ (judged s text raw) (judged_refused s text raw) c.in-Err.ensures
