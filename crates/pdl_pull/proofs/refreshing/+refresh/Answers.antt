use Rattle.std.proofs.Common.{◌≡◌, ◌+◌, ◌<◌, ◌≤◌, ◌∙◌, ap, sym, true, arith, ℕ, List, subst}
use Rattle.std.proofs.lemmas.Result.{on_ok_weaker}
use Rattle.pdl_nodes.specs.Outcomes.{outdated_at}
use Rattle.pdl_nodes.specs.Row.{parent_of}
use Rattle.pdl_nodes.specs.Rows.{row_at, has}
use Rattle.pdl_pull.specs.Filled.{FillsOnly}
use Rattle.pdl_pull.specs.Outdated.{outdated}
use Rattle.pdl_pull.proofs.FilledPaths.{path_alone, parent_fresh, path_fresh_over, path_fresh_root, outdated_more, outdated_one}
use Rattle.pdl_pull.proofs.FilledElsewhere.{only_above, only_path}
use Rattle.pdl_pull.proofs.refreshing.+refresh.Goals as goal

pub refresh-requires : goal.refresh-requires
refresh-requires g t c κs within =
    let l : (has c.args.table.now c.in-Some.parent ≡ true) × (c.in-Some.parent < c.args.id) = c.row_laws.ensures.seen.parent_live c.args.table.now c.args.id c.in-Some.parent c.requires.order.still c.requires.live (sym (c.parent.ensures ∙ ap parent_of c.node.ensures) ∙ c.in-Some.is) in
    (omega (arith, l.1), (within, (c.requires.order, (c.requires.known, (l.0, ap (λ r. (row_at c.args.table.now r).waiting) (c.row_laws.ensures.seen.parent_root c.args.table.now c.args.id c.in-Some.parent c.requires.order.still c.requires.live (sym (c.parent.ensures ∙ ap parent_of c.node.ensures) ∙ c.in-Some.is)) ∙ c.requires.settled)))))

pub returns-in_err-refresh-in-Some-clause-counted : goal.returns-in_err-refresh-in-Some-clause-counted
returns-in_err-refresh-in-Some-clause-counted g t c =
    let s : outdated c.args.table.now c.args.id ≡ outdated_at c.args.table.now c.args.id + outdated c.args.table.now c.in-Some.parent = outdated_more c.row_laws.ensures c.args.table.now c.args.id c.in-Some.parent c.requires.order.still c.requires.live (sym (c.parent.ensures ∙ ap parent_of c.node.ensures) ∙ c.in-Some.is) in
    omega (arith, s, c.refresh.ensures.counted)

pub freshen-requires-clause-parent : goal.freshen-requires-clause-parent
freshen-requires-clause-parent g t c = parent_fresh c.row_laws.ensures c.args.table.now c.refresh.new.table c.args.id c.in-Some.parent c.requires.order.still c.refresh.ensures.kept.order.still c.refresh.ensures.kept.alike c.requires.live (sym (c.parent.ensures ∙ ap parent_of c.node.ensures) ∙ c.in-Some.is) c.in_ok-refresh-in-Some.ensures.fresh

pub returns-in_ok-refresh-in-Some-clause-fresh : goal.returns-in_ok-refresh-in-Some-clause-fresh
returns-in_ok-refresh-in-Some-clause-fresh g t c =
    on_ok_weaker c.freshen.result (path_fresh_over c.row_laws.ensures c.args.table.now c.refresh.new.table c.freshen.new.table c.args.id c.in-Some.parent c.refresh.ensures.kept.alike c.freshen.ensures.kept.order.still c.freshen.ensures.kept.alike c.freshen.ensures.kept.marks c.requires.live (sym (c.parent.ensures ∙ ap parent_of c.node.ensures) ∙ c.in-Some.is) c.in_ok-refresh-in-Some.ensures.fresh) c.freshen.ensures.fresh

pub returns-in_ok-refresh-in-Some-clause-counted : goal.returns-in_ok-refresh-in-Some-clause-counted
returns-in_ok-refresh-in-Some-clause-counted g t c =
    let s : outdated c.args.table.now c.args.id ≡ outdated_at c.args.table.now c.args.id + outdated c.args.table.now c.in-Some.parent = outdated_more c.row_laws.ensures c.args.table.now c.args.id c.in-Some.parent c.requires.order.still c.requires.live (sym (c.parent.ensures ∙ ap parent_of c.node.ensures) ∙ c.in-Some.is) in
    let m : outdated_at c.refresh.new.table c.args.id ≤ outdated_at c.args.table.now c.args.id = c.row_laws.ensures.kept.less_outdated c.args.table.now c.refresh.new.table c.args.id c.refresh.ensures.kept.alike c.refresh.ensures.kept.marks in
    omega (arith, s, m, c.refresh.ensures.counted, c.freshen.ensures.counted)

pub returns-in-None-clause-fresh : goal.returns-in-None-clause-fresh
returns-in-None-clause-fresh g t c =
    on_ok_weaker c.freshen-in-None.result (path_fresh_root c.row_laws.ensures c.args.table.now c.freshen-in-None.new.table c.args.id c.freshen-in-None.ensures.kept.order.still c.freshen-in-None.ensures.kept.alike c.freshen-in-None.ensures.kept.marks c.requires.live (sym (c.parent.ensures ∙ ap parent_of c.node.ensures) ∙ c.in-None.is)) c.freshen-in-None.ensures.fresh

pub returns-in-None-clause-counted : goal.returns-in-None-clause-counted
returns-in-None-clause-counted g t c =
    let s : outdated c.args.table.now c.args.id ≡ outdated_at c.args.table.now c.args.id = outdated_one c.row_laws.ensures c.args.table.now c.args.id c.requires.order.still c.requires.live (sym (c.parent.ensures ∙ ap parent_of c.node.ensures) ∙ c.in-None.is) in
    omega (arith, s, c.freshen-in-None.ensures.counted)

pub returns-in_err-refresh-in-Some-clause-only : goal.returns-in_err-refresh-in-Some-clause-only
returns-in_err-refresh-in-Some-clause-only g t c = only_above c.row_laws.ensures c.args.table.now c.refresh.new.table c.args.id c.in-Some.parent c.requires.order.still c.requires.live (sym (c.parent.ensures ∙ ap parent_of c.node.ensures) ∙ c.in-Some.is) c.refresh.ensures.only

pub returns-in_ok-refresh-in-Some-clause-only : goal.returns-in_ok-refresh-in-Some-clause-only
returns-in_ok-refresh-in-Some-clause-only g t c = only_path c.row_laws.ensures c.args.table.now c.refresh.new.table c.freshen.new.table c.args.id c.in-Some.parent c.requires.order.still c.requires.live (sym (c.parent.ensures ∙ ap parent_of c.node.ensures) ∙ c.in-Some.is) c.refresh.ensures.only c.freshen.ensures.only

pub returns-in-None-clause-only : goal.returns-in-None-clause-only
returns-in-None-clause-only g t c = subst (λ (vs : List ℕ). FillsOnly vs c.args.table.now c.freshen-in-None.new.table) (sym (path_alone c.row_laws.ensures c.args.table.now c.args.id c.requires.order.still c.requires.live (sym (c.parent.ensures ∙ ap parent_of c.node.ensures) ∙ c.in-None.is))) c.freshen-in-None.ensures.only
