use Rattle.std.proofs.Common.{◌∙◌, ap}
use Rattle.pdl_nodes.specs.Changes.{marked_in, wait_in}
use Rattle.pdl_nodes.specs.Families.{IsWaiting}
use Rattle.pdl_nodes.specs.Row.{Row, is_buffered}
use Rattle.pdl_nodes.specs.Rows.{row_at, has, each}
use Rattle.pdl_push.proofs.LateRows.{written}
use Rattle.pdl_push.proofs.settling.write_back.Goals as goal

pub mark_root-requires-clause-live : goal.mark_root-requires-clause-live
mark_root-requires-clause-live g c = ap (λ t. has t c.args.root) c.put_back.ensures.put ∙ c.row_laws.ensures.numbers.each_has _ c.args.table.now c.args.root ∙ c.requires.root.0

pub mark_root-requires-clause-root : goal.mark_root-requires-clause-root
mark_root-requires-clause-root g c = ap (λ t. (row_at t c.args.root).root) c.put_back.ensures.put ∙ ap (λ (r : Row). r.root) (c.row_laws.ensures.numbers.each_at _ c.args.table.now c.args.root c.requires.root.0) ∙ c.requires.root.1

pub mark_root-requires-clause-buffered : goal.mark_root-requires-clause-buffered
mark_root-requires-clause-buffered g c = ap (λ t. is_buffered (row_at t c.args.root)) c.put_back.ensures.put ∙ ap is_buffered (c.row_laws.ensures.numbers.each_at _ c.args.table.now c.args.root c.requires.root.0) ∙ c.row_laws.ensures.seen.root_buffered c.args.table.now c.requires.order.still c.args.root c.requires.root.0 c.requires.root.1

pub set_waiting-requires : goal.set_waiting-requires
set_waiting-requires g c = record { live = ap (λ t. has t c.args.root) (c.mark_root.ensures ∙ ap (each (marked_in c.args.root)) c.put_back.ensures.put) ∙ c.row_laws.ensures.numbers.each_has _ _ c.args.root ∙ c.row_laws.ensures.numbers.each_has _ c.args.table.now c.args.root ∙ c.requires.root.0 }

pub returns-clause-settled : goal.returns-clause-settled
returns-clause-settled g c =
    let w : IsWaiting c.args.table.now c.args.root c.args.id = (c.requires.order.family c.args.root c.requires.root).waits c.args.id c.requires.waits in
    c.set_waiting.ensures ∙ ap (each (wait_in c.args.root _)) (c.mark_root.ensures ∙ ap (each (marked_in c.args.root)) c.put_back.ensures.put)
    ∙ written c.row_laws.ensures c.args.table.now c.args.root c.args.id _ c.requires.order.still c.requires.root w
