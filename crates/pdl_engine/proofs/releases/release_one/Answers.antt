use Rattle.std.proofs.Common.{◌≡◌, cond, None, sym, ◌∙◌, ap, subst, true, false}
use Rattle.pdl_nodes.specs.Holds.{hold_at, less_one}
use Rattle.pdl_nodes.specs.Risen.{IsForgotten}
use Rattle.pdl_nodes.specs.Rows.{Rows, without}
use Rattle.pdl_engine.proofs.TakenAlone.{done_kept, done_root, done_view, is_forgotten, last_count, still_held}
use Rattle.pdl_engine.proofs.releases.release_one.Goals as goal

pub returns-then-has_views-clause-gone : goal.returns-then-has_views-clause-gone
returns-then-has_views-clause-gone g c =
    (done_kept c.row_laws.ensures c.args.table.now c.args.holds.now c.take.new.self c.args.id c.args.steps.now c.requires.order c.requires.known c.requires.beside c.requires.tight c.take.ensures.here c.take.ensures.others
    (λ u. sym c.has_views.ensures ∙ c.if-has_views.true)).gone

pub returns-then-has_views-clause-counted : goal.returns-then-has_views-clause-counted
returns-then-has_views-clause-counted g c =
    (done_kept c.row_laws.ensures c.args.table.now c.args.holds.now c.take.new.self c.args.id c.args.steps.now c.requires.order c.requires.known c.requires.beside c.requires.tight c.take.ensures.here c.take.ensures.others
    (λ u. sym c.has_views.ensures ∙ c.if-has_views.true)).counted

pub returns-then-not-take_out-clause-gone : goal.returns-then-not-take_out-clause-gone
returns-then-not-take_out-clause-gone g c =
    let here : hold_at c.take_out.new.self c.args.id ≡ less_one (hold_at c.args.holds.now c.args.id) = c.take_out.ensures.here ∙ ap (λ b. cond b None (less_one (hold_at c.args.holds.now c.args.id))) c.if-not-take_out.true in
    (done_kept c.row_laws.ensures c.args.table.now c.args.holds.now c.take_out.new.self c.args.id c.args.steps.now c.requires.order c.requires.known c.requires.beside c.requires.tight here c.take_out.ensures.others
    (λ u. (let z : true ≡ false = sym (still_held c.args.holds.now c.take_out.new.self c.args.id c.requires.held (sym c.take_out.ensures.last ∙ c.if-not-take_out.true) here) ∙ u in absurd (cc)))).gone

pub returns-then-not-take_out-clause-counted : goal.returns-then-not-take_out-clause-counted
returns-then-not-take_out-clause-counted g c =
    let here : hold_at c.take_out.new.self c.args.id ≡ less_one (hold_at c.args.holds.now c.args.id) = c.take_out.ensures.here ∙ ap (λ b. cond b None (less_one (hold_at c.args.holds.now c.args.id))) c.if-not-take_out.true in
    (done_kept c.row_laws.ensures c.args.table.now c.args.holds.now c.take_out.new.self c.args.id c.args.steps.now c.requires.order c.requires.known c.requires.beside c.requires.tight here c.take_out.ensures.others
    (λ u. (let z : true ≡ false = sym (still_held c.args.holds.now c.take_out.new.self c.args.id c.requires.held (sym c.take_out.ensures.last ∙ c.if-not-take_out.true) here) ∙ u in absurd (cc)))).counted

pub returns-then-remove_root-clause-gone : goal.returns-then-remove_root-clause-gone
returns-then-remove_root-clause-gone g c =
    let here : hold_at c.take_out.new.self c.args.id ≡ None = c.take_out.ensures.here ∙ ap (λ b. cond b None (less_one (hold_at c.args.holds.now c.args.id))) c.if-not-take_out.false in
    let f : IsForgotten c.args.table.now c.take_out.new.self c.args.id = is_forgotten c.row_laws.ensures c.args.table.now c.args.holds.now c.take_out.new.self c.args.id c.requires.order.still c.requires.beside c.requires.held c.requires.tight (sym c.has_views.ensures ∙ c.if-has_views.false) here c.take_out.ensures.others in
    (done_root c.row_laws.ensures c.args.table.now c.remove_root.new.self c.args.holds.now c.take_out.new.self c.args.id c.args.steps.now c.requires.order c.requires.known f
    (λ v. last_count c.args.holds.now c.take_out.new.self c.args.id v (sym c.take_out.ensures.last ∙ c.if-not-take_out.false) here c.take_out.ensures.others)
    (sym c.remove_root.ensures.root ∙ c.if-remove_root.true) (c.remove_root.ensures.rows ∙ ap (λ b. cond b (without c.args.id c.args.table.now) c.args.table.now) c.if-remove_root.true)).gone

pub returns-then-remove_root-clause-counted : goal.returns-then-remove_root-clause-counted
returns-then-remove_root-clause-counted g c =
    let here : hold_at c.take_out.new.self c.args.id ≡ None = c.take_out.ensures.here ∙ ap (λ b. cond b None (less_one (hold_at c.args.holds.now c.args.id))) c.if-not-take_out.false in
    let f : IsForgotten c.args.table.now c.take_out.new.self c.args.id = is_forgotten c.row_laws.ensures c.args.table.now c.args.holds.now c.take_out.new.self c.args.id c.requires.order.still c.requires.beside c.requires.held c.requires.tight (sym c.has_views.ensures ∙ c.if-has_views.false) here c.take_out.ensures.others in
    (done_root c.row_laws.ensures c.args.table.now c.remove_root.new.self c.args.holds.now c.take_out.new.self c.args.id c.args.steps.now c.requires.order c.requires.known f
    (λ v. last_count c.args.holds.now c.take_out.new.self c.args.id v (sym c.take_out.ensures.last ∙ c.if-not-take_out.false) here c.take_out.ensures.others)
    (sym c.remove_root.ensures.root ∙ c.if-remove_root.true) (c.remove_root.ensures.rows ∙ ap (λ b. cond b (without c.args.id c.args.table.now) c.args.table.now) c.if-remove_root.true)).counted

pub let_view_go-requires-clause-forgotten : goal.let_view_go-requires-clause-forgotten
let_view_go-requires-clause-forgotten g c =
    let here : hold_at c.take_out.new.self c.args.id ≡ None = c.take_out.ensures.here ∙ ap (λ b. cond b None (less_one (hold_at c.args.holds.now c.args.id))) c.if-not-take_out.false in
    let same : c.args.table.now ≡ c.remove_root.new.self = sym (c.remove_root.ensures.rows ∙ ap (λ b. cond b (without c.args.id c.args.table.now) c.args.table.now) c.if-remove_root.false) in
    let P : Rows → Type 0 = λ x. IsForgotten x c.take_out.new.self c.args.id in
    subst P same (is_forgotten c.row_laws.ensures c.args.table.now c.args.holds.now c.take_out.new.self c.args.id c.requires.order.still c.requires.beside c.requires.held c.requires.tight (sym c.has_views.ensures ∙ c.if-has_views.false) here c.take_out.ensures.others)

pub returns-clause-gone : goal.returns-clause-gone
returns-clause-gone g c =
    let here : hold_at c.take_out.new.self c.args.id ≡ None = c.take_out.ensures.here ∙ ap (λ b. cond b None (less_one (hold_at c.args.holds.now c.args.id))) c.if-not-take_out.false in
    (done_view c.args.table.now c.remove_root.new.self c.let_view_go.new.table c.args.holds.now c.take_out.new.self c.let_view_go.new.holds c.args.id c.args.steps.now c.let_view_go.new.steps
    (c.remove_root.ensures.rows ∙ ap (λ b. cond b (without c.args.id c.args.table.now) c.args.table.now) c.if-remove_root.false)
    (λ v. last_count c.args.holds.now c.take_out.new.self c.args.id v (sym c.take_out.ensures.last ∙ c.if-not-take_out.false) here c.take_out.ensures.others) c.let_view_go.ensures.gone c.let_view_go.ensures.counted).gone

pub returns-clause-counted : goal.returns-clause-counted
returns-clause-counted g c =
    let here : hold_at c.take_out.new.self c.args.id ≡ None = c.take_out.ensures.here ∙ ap (λ b. cond b None (less_one (hold_at c.args.holds.now c.args.id))) c.if-not-take_out.false in
    (done_view c.args.table.now c.remove_root.new.self c.let_view_go.new.table c.args.holds.now c.take_out.new.self c.let_view_go.new.holds c.args.id c.args.steps.now c.let_view_go.new.steps
    (c.remove_root.ensures.rows ∙ ap (λ b. cond b (without c.args.id c.args.table.now) c.args.table.now) c.if-remove_root.false)
    (λ v. last_count c.args.holds.now c.take_out.new.self c.args.id v (sym c.take_out.ensures.last ∙ c.if-not-take_out.false) here c.take_out.ensures.others) c.let_view_go.ensures.gone c.let_view_go.ensures.counted).counted
