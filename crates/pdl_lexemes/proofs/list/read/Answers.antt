use Rattle.std.proofs.Common.{◌∙◌, ◌+◌, [], length, ap, subst, add-one}
use Rattle.pdl_lexemes.specs.ReadAnswers.{Gives}
use Rattle.pdl_lexemes.specs.ListReading.{read_part, list_reader}
use Rattle.pdl_lexemes.proofs.ListDims.{read_dims}
use Rattle.pdl_lexemes.proofs.list.read.Goals as goal

pub returns-clause-dims : goal.returns-clause-dims
returns-clause-dims c =
    let ts = c.args.tokens.now in
    let same =
    ap (λ es. list_reader (c.len.result + 1) es ts) c.new.ensures.items
    ∙ (ap (λ n. list_reader (n + 1) [] ts) c.len.ensures.count ∙ ap (λ n. list_reader n [] ts) (add-one (length ts))) in
    read_dims (λ x. read_part x.0.shape x.0.elems.items x.1) c.list.result ts c.len.ensures.few
    (subst (λ o. Gives (λ x. read_part x.0.shape x.0.elems.items x.1) c.list.result o) same c.list.ensures.read)
