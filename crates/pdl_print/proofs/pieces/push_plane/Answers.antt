-- Rows between two brackets.
use Rattle.std.proofs.Common.{ℕ, List, ◌+◌, ◌*◌, ◌++◌, ◌∷◌, [], take, drop, ap, sym, ◌∙◌, append_assoc}
use Rattle.std.proofs.lemmas.Result.{on_ok_weaker}
use Rattle.pdl_print.specs.Printed.{lines, spaces}
use Rattle.pdl_print.proofs.PieceFronts.{begins_then}
use Rattle.pdl_print.proofs.PrintedTexts.{closed}
use Rattle.pdl_print.proofs.pieces.push_plane.Goals as goal

pub returns-clause-ok : goal.returns-clause-ok
returns-clause-ok c =
    let old : List ℕ = c.args.into.now.items in
    let start : List ℕ = spaces c.args.indent ++ 91 ∷ 10 ∷ [] in
    let close : List ℕ = 93 ∷ 10 ∷ [] in
    let inner : List ℕ = lines (c.args.indent + 1) c.args.rows c.args.size (take (c.args.rows * c.args.size) (drop c.args.first c.args.elems.now.elems)) in
    on_ok_weaker c.push_bracket-2.result (λ e. e ∙ ap (λ (x : List ℕ). x ++ (spaces c.args.indent ++ close)) (c.in_ok-push_rows.ensures.ok ∙ ap (λ (t : List ℕ). t ++ inner) c.in_ok-push_bracket.ensures.ok)
    ∙ closed old start inner (spaces c.args.indent ++ close)
    ∙ ap (λ (x : List ℕ). old ++ x) (sym (append_assoc (start ++ inner) (spaces c.args.indent) close))) c.push_bracket-2.ensures.ok

pub returns-in_err-push_rows-clause-front : goal.returns-in_err-push_rows-clause-front
returns-in_err-push_rows-clause-front c = begins_then _ _ _ c.in_ok-push_bracket.ensures.front c.in_err-push_rows.ensures.front

pub returns-clause-front : goal.returns-clause-front
returns-clause-front c =
    begins_then _ _ _ (begins_then _ _ _ c.in_ok-push_bracket.ensures.front c.in_ok-push_rows.ensures.front) c.push_bracket-2.ensures.front
