use Rattle.std.proofs.Common.{◌∙◌, ap}
use Rattle.pdl_nodes.specs.Changes.{mark_in}
use Rattle.pdl_nodes.specs.Put.{put_in}
use Rattle.pdl_nodes.specs.Row.{Row, is_buffered}
use Rattle.pdl_nodes.specs.Rows.{each, has, row_at}
use Rattle.pdl_nodes.specs.declared.node.Goal.TheVariants.{Root}
use Rattle.pdl_nodes.specs.declared.node.Shown.{Shown}
use Rattle.pdl_push.proofs.LateAssignments.{at_root, there}
use Rattle.pdl_push.proofs.assigning.assign_at_root.Goals as goal

pub mark-requires-clause-root : goal.mark-requires-clause-root
mark-requires-clause-root g c = ap (λ t. has t c.args.at.now.root) c.put.ensures.put ∙ c.row_laws.ensures.numbers.each_has _ c.args.table.now c.args.at.now.root ∙ (there c.row_laws.ensures c.args.table.now c.args.at.now c.args.first c.args.values.now c.requires.write c.requires.shown).root.0

pub mark-requires-clause-live : goal.mark-requires-clause-live
mark-requires-clause-live g c = ap (λ t. has t c.args.at.now.root) c.put.ensures.put ∙ c.row_laws.ensures.numbers.each_has _ c.args.table.now c.args.at.now.root ∙ (there c.row_laws.ensures c.args.table.now c.args.at.now c.args.first c.args.values.now c.requires.write c.requires.shown).root.0

pub mark-requires-clause-family : goal.mark-requires-clause-family
mark-requires-clause-family g c = ap (λ t. (row_at t c.args.at.now.root).root) c.put.ensures.put ∙ ap (λ (r : Row). r.root) (c.row_laws.ensures.numbers.each_at _ c.args.table.now c.args.at.now.root (there c.row_laws.ensures c.args.table.now c.args.at.now c.args.first c.args.values.now c.requires.write c.requires.shown).root.0) ∙ (there c.row_laws.ensures c.args.table.now c.args.at.now c.args.first c.args.values.now c.requires.write c.requires.shown).root.1

pub mark-requires-clause-buffered : goal.mark-requires-clause-buffered
mark-requires-clause-buffered g c = ap (λ t. is_buffered (row_at t c.args.at.now.root)) c.put.ensures.put ∙ ap is_buffered (c.row_laws.ensures.numbers.each_at _ c.args.table.now c.args.at.now.root (there c.row_laws.ensures c.args.table.now c.args.at.now c.args.first c.args.values.now c.requires.write c.requires.shown).root.0) ∙ c.row_laws.ensures.seen.root_buffered c.args.table.now c.requires.write.order.still c.args.at.now.root (there c.row_laws.ensures c.args.table.now c.args.at.now c.args.first c.args.values.now c.requires.write c.requires.shown).root.0 (there c.row_laws.ensures c.args.table.now c.args.at.now c.args.first c.args.values.now c.requires.write c.requires.shown).root.1

pub returns-clause-assigned : goal.returns-clause-assigned
returns-clause-assigned g c = (at_root c.row_laws.ensures c.args.table.now c.mark.new.self c.args.at.now.id c.args.first c.args.values.now c.requires.write (c.requires.target ∙ ap (λ (s : Shown). s.root) c.requires.shown) (c.mark.ensures ∙ ap (each (mark_in c.args.at.now.root c.args.at.now.root)) c.put.ensures.put ∙ ap (λ (s : Shown). each (mark_in s.root s.root) (each (put_in Root c.args.table.now c.args.at.now.id c.args.first c.args.values.now) c.args.table.now)) c.requires.shown)).0

pub returns-clause-waits : goal.returns-clause-waits
returns-clause-waits g c = (at_root c.row_laws.ensures c.args.table.now c.mark.new.self c.args.at.now.id c.args.first c.args.values.now c.requires.write (c.requires.target ∙ ap (λ (s : Shown). s.root) c.requires.shown) (c.mark.ensures ∙ ap (each (mark_in c.args.at.now.root c.args.at.now.root)) c.put.ensures.put ∙ ap (λ (s : Shown). each (mark_in s.root s.root) (each (put_in Root c.args.table.now c.args.at.now.id c.args.first c.args.values.now) c.args.table.now)) c.requires.shown)).1
