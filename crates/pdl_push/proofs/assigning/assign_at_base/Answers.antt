use Rattle.std.proofs.Common.{◌≡◌, ℕ, Bool, Option, Some, None, true, false, is_some, sym, ◌∙◌, ap}
use Rattle.std.specs.Prelude.{not}
use Rattle.pdl_nodes.specs.Changes.{mark_in, wait_in}
use Rattle.pdl_nodes.specs.Put.{put_at, put_in}
use Rattle.pdl_nodes.specs.Row.{Row, is_buffered}
use Rattle.pdl_nodes.specs.Rows.{row_at, has, each}
use Rattle.pdl_nodes.specs.declared.node.Goal.TheVariants.{Base}
use Rattle.pdl_nodes.specs.declared.node.Shown.{Shown}
use Rattle.pdl_push.proofs.LateAssignments.{at_base, there}
use Rattle.pdl_push.proofs.LateRows.{again_all, based_all}
use Rattle.pdl_push.proofs.assigning.assign_at_base.Goals as goal

none_not : (o : Option ℕ) (b : Bool) → is_some o ≡ not b → b ≡ false → o ≡ None → ⊥
none_not o b e f n = let c : false ≡ true = sym (ap is_some n) ∙ e ∙ ap not f in cc

pub node-requires : goal.node-requires
node-requires g c = record { live = ap (λ t. has t c.args.at.now.root) c.put.ensures.put ∙ c.row_laws.ensures.numbers.each_has _ c.args.table.now c.args.at.now.root ∙ (there c.row_laws.ensures c.args.table.now c.args.at.now c.args.first c.args.values.now c.requires.write c.requires.shown).root.0 }

pub mark-requires-clause-root : goal.mark-requires-clause-root
mark-requires-clause-root g c = ap (λ t. has t c.args.at.now.root) c.put.ensures.put ∙ c.row_laws.ensures.numbers.each_has _ c.args.table.now c.args.at.now.root ∙ (there c.row_laws.ensures c.args.table.now c.args.at.now c.args.first c.args.values.now c.requires.write c.requires.shown).root.0

pub mark-requires-clause-live : goal.mark-requires-clause-live
mark-requires-clause-live g c = ap (λ t. has t c.args.at.now.base) c.put.ensures.put ∙ c.row_laws.ensures.numbers.each_has _ c.args.table.now c.args.at.now.base ∙ (there c.row_laws.ensures c.args.table.now c.args.at.now c.args.first c.args.values.now c.requires.write c.requires.shown).live

pub mark-requires-clause-family : goal.mark-requires-clause-family
mark-requires-clause-family g c = ap (λ t. (row_at t c.args.at.now.base).root) c.put.ensures.put ∙ ap (λ (r : Row). r.root) (c.row_laws.ensures.numbers.each_at _ c.args.table.now c.args.at.now.base (there c.row_laws.ensures c.args.table.now c.args.at.now c.args.first c.args.values.now c.requires.write c.requires.shown).live) ∙ (there c.row_laws.ensures c.args.table.now c.args.at.now c.args.first c.args.values.now c.requires.write c.requires.shown).root_is

pub mark-requires-clause-marked : goal.mark-requires-clause-marked
mark-requires-clause-marked g c = λ n. ap (λ t. (row_at t c.args.at.now.base).mark) c.put.ensures.put ∙ ap (λ (r : Row). r.mark) (c.row_laws.ensures.numbers.each_at _ c.args.table.now c.args.at.now.base (there c.row_laws.ensures c.args.table.now c.args.at.now c.args.first c.args.values.now c.requires.write c.requires.shown).live) ∙ (there c.row_laws.ensures c.args.table.now c.args.at.now c.args.first c.args.values.now c.requires.write c.requires.shown).marked

pub mark-requires-clause-buffered : goal.mark-requires-clause-buffered
mark-requires-clause-buffered g c = ap (λ t. is_buffered (row_at t c.args.at.now.base)) c.put.ensures.put ∙ ap is_buffered (c.row_laws.ensures.numbers.each_at _ c.args.table.now c.args.at.now.base (there c.row_laws.ensures c.args.table.now c.args.at.now c.args.first c.args.values.now c.requires.write c.requires.shown).live) ∙ c.row_laws.ensures.seen.mark_buffered (row_at c.args.table.now c.args.at.now.base) (there c.row_laws.ensures c.args.table.now c.args.at.now c.args.first c.args.values.now c.requires.write c.requires.shown).marked

pub set_waiting-requires : goal.set_waiting-requires
set_waiting-requires g c = record { live = ap (λ t. has t c.args.at.now.root) (c.mark.ensures ∙ ap (each _) c.put.ensures.put) ∙ c.row_laws.ensures.numbers.each_has _ _ c.args.at.now.root ∙ c.row_laws.ensures.numbers.each_has _ c.args.table.now c.args.at.now.root ∙ (there c.row_laws.ensures c.args.table.now c.args.at.now c.args.first c.args.values.now c.requires.write c.requires.shown).root.0 }

pub returns-then-is_none-clause-assigned : goal.returns-then-is_none-clause-assigned
returns-then-is_none-clause-assigned g c = (at_base c.row_laws.ensures c.args.table.now c.set_waiting.new.self c.args.at.now.id c.args.first c.args.values.now c.requires.write (c.requires.target ∙ ap (λ (s : Shown). s.base) c.requires.shown) (λ e. c.requires.view (ap (λ (s : Shown). s.base) c.requires.shown ∙ e ∙ ap (λ (s : Shown). s.root) (sym c.requires.shown))) (c.set_waiting.ensures ∙ ap (each (wait_in c.args.at.now.root (Some c.args.at.now.base))) (c.mark.ensures ∙ ap (each (mark_in c.args.at.now.root c.args.at.now.base)) c.put.ensures.put) ∙ ap (λ (s : Shown). each (wait_in s.root (Some s.base)) (each (mark_in s.root s.base) (each (put_in Base c.args.table.now c.args.at.now.id c.args.first c.args.values.now) c.args.table.now))) c.requires.shown ∙ based_all c.row_laws.ensures c.args.table.now (row_at c.args.table.now c.args.at.now.id).root (row_at c.args.table.now c.args.at.now.id).base (put_at Base c.args.table.now c.args.at.now.id c.args.first c.args.values.now) c.requires.write.order.still (c.row_laws.ensures.seen.is_seen c.args.table.now c.requires.write.order.still c.args.at.now.id c.requires.write.live).base_root)).0

pub returns-then-is_none-clause-waits : goal.returns-then-is_none-clause-waits
returns-then-is_none-clause-waits g c = (at_base c.row_laws.ensures c.args.table.now c.set_waiting.new.self c.args.at.now.id c.args.first c.args.values.now c.requires.write (c.requires.target ∙ ap (λ (s : Shown). s.base) c.requires.shown) (λ e. c.requires.view (ap (λ (s : Shown). s.base) c.requires.shown ∙ e ∙ ap (λ (s : Shown). s.root) (sym c.requires.shown))) (c.set_waiting.ensures ∙ ap (each (wait_in c.args.at.now.root (Some c.args.at.now.base))) (c.mark.ensures ∙ ap (each (mark_in c.args.at.now.root c.args.at.now.base)) c.put.ensures.put) ∙ ap (λ (s : Shown). each (wait_in s.root (Some s.base)) (each (mark_in s.root s.base) (each (put_in Base c.args.table.now c.args.at.now.id c.args.first c.args.values.now) c.args.table.now))) c.requires.shown ∙ based_all c.row_laws.ensures c.args.table.now (row_at c.args.table.now c.args.at.now.id).root (row_at c.args.table.now c.args.at.now.id).base (put_at Base c.args.table.now c.args.at.now.id c.args.first c.args.values.now) c.requires.write.order.still (c.row_laws.ensures.seen.is_seen c.args.table.now c.requires.write.order.still c.args.at.now.id c.requires.write.live).base_root)).1

pub returns-else-is_none-clause-assigned : goal.returns-else-is_none-clause-assigned
returns-else-is_none-clause-assigned g c = (at_base c.row_laws.ensures c.args.table.now c.put.new.self c.args.at.now.id c.args.first c.args.values.now c.requires.write (c.requires.target ∙ ap (λ (s : Shown). s.base) c.requires.shown) (λ e. c.requires.view (ap (λ (s : Shown). s.base) c.requires.shown ∙ e ∙ ap (λ (s : Shown). s.root) (sym c.requires.shown))) (c.put.ensures.put ∙ again_all c.row_laws.ensures c.args.table.now (row_at c.args.table.now c.args.at.now.id).root (row_at c.args.table.now c.args.at.now.id).base (put_at Base c.args.table.now c.args.at.now.id c.args.first c.args.values.now) c.requires.write.order ((c.row_laws.ensures.seen.is_seen c.args.table.now c.requires.write.order.still c.args.at.now.id c.requires.write.live).root_has, (c.row_laws.ensures.seen.is_seen c.args.table.now c.requires.write.order.still c.args.at.now.id c.requires.write.live).root_root) c.requires.write.fresh (c.row_laws.ensures.seen.is_seen c.args.table.now c.requires.write.order.still c.args.at.now.id c.requires.write.live).base_root (λ e. none_not c.waiting.result c.is_none.result c.is_none.ensures c.if-is_none.false (c.waiting.ensures ∙ ap (λ (r : Row). r.waiting) c.node.ensures ∙ ap (λ t. (row_at t c.args.at.now.root).waiting) c.put.ensures.put ∙ ap (λ (r : Row). r.waiting) (c.row_laws.ensures.numbers.each_at _ c.args.table.now c.args.at.now.root (there c.row_laws.ensures c.args.table.now c.args.at.now c.args.first c.args.values.now c.requires.write c.requires.shown).root.0) ∙ ap (λ (s : Shown). (row_at c.args.table.now s.root).waiting) c.requires.shown ∙ e)))).0

pub returns-else-is_none-clause-waits : goal.returns-else-is_none-clause-waits
returns-else-is_none-clause-waits g c = (at_base c.row_laws.ensures c.args.table.now c.put.new.self c.args.at.now.id c.args.first c.args.values.now c.requires.write (c.requires.target ∙ ap (λ (s : Shown). s.base) c.requires.shown) (λ e. c.requires.view (ap (λ (s : Shown). s.base) c.requires.shown ∙ e ∙ ap (λ (s : Shown). s.root) (sym c.requires.shown))) (c.put.ensures.put ∙ again_all c.row_laws.ensures c.args.table.now (row_at c.args.table.now c.args.at.now.id).root (row_at c.args.table.now c.args.at.now.id).base (put_at Base c.args.table.now c.args.at.now.id c.args.first c.args.values.now) c.requires.write.order ((c.row_laws.ensures.seen.is_seen c.args.table.now c.requires.write.order.still c.args.at.now.id c.requires.write.live).root_has, (c.row_laws.ensures.seen.is_seen c.args.table.now c.requires.write.order.still c.args.at.now.id c.requires.write.live).root_root) c.requires.write.fresh (c.row_laws.ensures.seen.is_seen c.args.table.now c.requires.write.order.still c.args.at.now.id c.requires.write.live).base_root (λ e. none_not c.waiting.result c.is_none.result c.is_none.ensures c.if-is_none.false (c.waiting.ensures ∙ ap (λ (r : Row). r.waiting) c.node.ensures ∙ ap (λ t. (row_at t c.args.at.now.root).waiting) c.put.ensures.put ∙ ap (λ (r : Row). r.waiting) (c.row_laws.ensures.numbers.each_at _ c.args.table.now c.args.at.now.root (there c.row_laws.ensures c.args.table.now c.args.at.now c.args.first c.args.values.now c.requires.write c.requires.shown).root.0) ∙ ap (λ (s : Shown). (row_at c.args.table.now s.root).waiting) c.requires.shown ∙ e)))).1
