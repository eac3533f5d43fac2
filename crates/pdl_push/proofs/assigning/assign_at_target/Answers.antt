use Rattle.std.proofs.Common.{true, false, sym, ◌∙◌, ap}
use Rattle.pdl_nodes.specs.Row.{Row}
use Rattle.pdl_nodes.specs.declared.node.Shown.{Shown}
use Rattle.pdl_push.proofs.LateAssignments.{there}
use Rattle.pdl_push.proofs.TargetLemmas.{flag_is, target_repeats, target_root}
use Rattle.pdl_push.proofs.assigning.assign_at_target.Goals as goal

pub assign_at_root-requires-clause-target : goal.assign_at_root-requires-clause-target
assign_at_root-requires-clause-target g c = target_root c.args.table.now c.args.at.now.root c.args.at.now.base c.args.at.now.id (sym (ap (λ (s : Shown). s.root) c.requires.shown)) (sym (ap (λ (s : Shown). s.base) c.requires.shown)) c.if-at.true

pub node-requires : goal.node-requires
node-requires g c = record { live = (there c.row_laws.ensures c.args.table.now c.args.at.now c.args.first c.args.values.now c.requires.write c.requires.shown).live }

pub assign_at_root-requires-then-repeats-clause-target : goal.assign_at_root-requires-then-repeats-clause-target
assign_at_root-requires-then-repeats-clause-target g c = target_repeats c.args.table.now c.args.at.now.root c.args.at.now.base c.args.at.now.id true (sym (ap (λ (s : Shown). s.root) c.requires.shown)) (sym (ap (λ (s : Shown). s.base) c.requires.shown)) (sym (flag_is c.row_laws.ensures c.args.table.now c.args.at.now.root c.args.at.now.base c.args.at.now.id c.requires.write.order c.requires.write.live (sym (ap (λ (s : Shown). s.root) c.requires.shown)) (sym (ap (λ (s : Shown). s.base) c.requires.shown)) (there c.row_laws.ensures c.args.table.now c.args.at.now c.args.first c.args.values.now c.requires.write c.requires.shown).marked) ∙ ap (λ (r : Row). r.repeats) (sym c.node.ensures) ∙ sym c.repeats.ensures ∙ c.if-repeats.true)

pub assign_at_base-requires-clause-target : goal.assign_at_base-requires-clause-target
assign_at_base-requires-clause-target g c = target_repeats c.args.table.now c.args.at.now.root c.args.at.now.base c.args.at.now.id false (sym (ap (λ (s : Shown). s.root) c.requires.shown)) (sym (ap (λ (s : Shown). s.base) c.requires.shown)) (sym (flag_is c.row_laws.ensures c.args.table.now c.args.at.now.root c.args.at.now.base c.args.at.now.id c.requires.write.order c.requires.write.live (sym (ap (λ (s : Shown). s.root) c.requires.shown)) (sym (ap (λ (s : Shown). s.base) c.requires.shown)) (there c.row_laws.ensures c.args.table.now c.args.at.now c.args.first c.args.values.now c.requires.write c.requires.shown).marked) ∙ ap (λ (r : Row). r.repeats) (sym c.node.ensures) ∙ sym c.repeats.ensures ∙ c.if-repeats.false)
