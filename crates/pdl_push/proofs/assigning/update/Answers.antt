-- The root was written, and is marked alone.
use Rattle.std.proofs.Common.{◌≡◌, ◌+◌, true, refl, sym, ◌∙◌, ap, subst}
use Rattle.pdl_shape.specs.Shape.{size_of}
use Rattle.pdl_nodes.specs.Put.{IsWrite, put_in}
use Rattle.pdl_nodes.specs.Row.{Row, is_buffered, shown_of}
use Rattle.pdl_nodes.specs.Rows.{Rows, has, row_at}
use Rattle.pdl_nodes.specs.Updates.{CanUpdate, updated_at}
use Rattle.pdl_nodes.specs.declared.node.Goal.TheVariants.{Root}
use Rattle.pdl_nodes.specs.declared.node.Shown.{Shown}
use Rattle.pdl_push.proofs.LateAssignments.{at_root, shown_again, there, written_there}
use Rattle.pdl_push.proofs.TargetLemmas.{target_root}
use Rattle.pdl_push.proofs.assigning.update.Goals as goal

pub update-requires : goal.update-requires
update-requires g c =
    let e : c.shown-at.result ≡ shown_of c.args.id (row_at c.args.table.now c.args.id) = c.shown-at.ensures ∙ ap (shown_of c.args.id) c.node.ensures in
    record {
      update = subst (λ v. CanUpdate c.args.change c.args.table.now v) (sym (ap (λ (s : Shown). s.id) e)) c.requires.update;
      shown = shown_again c.args.table.now c.args.id c.shown-at.result e;
      over_root = ap (λ (s : Shown). s.base) e ∙ c.requires.over_root ∙ sym (ap (λ (s : Shown). s.root) e);
    }

pub mark-requires : goal.mark-requires
mark-requires g c =
    let t : Rows = c.args.table.now in
    let at : Shown = c.shown-at.result in
    let e : at ≡ shown_of c.args.id (row_at t c.args.id) = c.shown-at.ensures ∙ ap (shown_of c.args.id) c.node.ensures in
    let i = (there c.row_laws.ensures t at 0 (updated_at c.args.change t at.id) c.update.ensures.write (shown_again t c.args.id at e)).root in
    let live : has c.update.new.self at.root ≡ true = ap (λ x. has x at.root) c.update.ensures.put ∙ c.row_laws.ensures.numbers.each_has _ t at.root ∙ i.0 in
    let row : row_at c.update.new.self at.root ≡ put_in Root t at.id 0 (updated_at c.args.change t at.id) at.root (row_at t at.root) =
    ap (λ x. row_at x at.root) c.update.ensures.put ∙ c.row_laws.ensures.numbers.each_at _ t at.root i.0 in
    record {
      root = live;
      live = live;
      family = ap (λ (r : Row). r.root) row ∙ i.1;
      buffered = ap is_buffered row ∙ c.row_laws.ensures.seen.root_buffered t c.update.ensures.write.order.still at.root i.0 i.1;
      marked = λ n. absurd (n refl);
    }

pub returns-clause-write : goal.returns-clause-write
returns-clause-write g c =
    let t : Rows = c.args.table.now in
    let id : c.shown-at.result.id ≡ c.args.id = ap (λ (s : Shown). s.id) (c.shown-at.ensures ∙ ap (shown_of c.args.id) c.node.ensures) in
    subst (λ v. IsWrite t v 0 (updated_at c.args.change t v)) id c.update.ensures.write

pub returns-clause-assigned : goal.returns-clause-assigned
returns-clause-assigned g c =
    let t : Rows = c.args.table.now in
    (at_root c.row_laws.ensures t c.mark.new.self c.args.id 0 (updated_at c.args.change t c.args.id) (returns-clause-write g c)
    (target_root t (row_at t c.args.id).root (row_at t c.args.id).base c.args.id refl refl c.requires.over_root)
    (written_there t c.update.new.self c.mark.new.self c.args.id c.shown-at.result (λ v. put_in Root t v 0 (updated_at c.args.change t v)) (c.shown-at.ensures ∙ ap (shown_of c.args.id) c.node.ensures) c.update.ensures.put c.mark.ensures)).0

pub returns-clause-waits : goal.returns-clause-waits
returns-clause-waits g c =
    let t : Rows = c.args.table.now in
    (at_root c.row_laws.ensures t c.mark.new.self c.args.id 0 (updated_at c.args.change t c.args.id) (returns-clause-write g c)
    (target_root t (row_at t c.args.id).root (row_at t c.args.id).base c.args.id refl refl c.requires.over_root)
    (written_there t c.update.new.self c.mark.new.self c.args.id c.shown-at.result (λ v. put_in Root t v 0 (updated_at c.args.change t v)) (c.shown-at.ensures ∙ ap (shown_of c.args.id) c.node.ensures) c.update.ensures.put c.mark.ensures)).1

pub returns-clause-counted : goal.returns-clause-counted
returns-clause-counted g c =
    c.update.ensures.counted
    ∙ ap (λ (s : Shown). c.args.steps.now + size_of s.triple.dims) (c.shown-at.ensures ∙ ap (shown_of c.args.id) c.node.ensures)
