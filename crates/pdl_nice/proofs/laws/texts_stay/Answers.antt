use Rattle.std.proofs.Common.{◌≤◌, length, sym, subst, ◌∙◌, ap}
use Rattle.std.specs.Prelude.{Ok}
use Rattle.pdl_lex.specs.Limits.{statement_limit}
use Rattle.pdl_lex.specs.Written.{written, end_behind}
use Rattle.pdl_nice.proofs.PlainRefused.{its_own}
use Rattle.pdl_nice.proofs.laws.texts_stay.Goals as goal

pub returns : goal.returns
returns c text ts e n f l =
    let same = (c.written_laws.ensures.all text ts e).whole in
    its_own (written text 0 ts) (end_behind text 0 ts) n f (subst (λ t. length t ≤ statement_limit) (sym same) l) ∙ ap (λ t. Ok t) same
