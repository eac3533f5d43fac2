use Rattle.std.proofs.Common.{refl, sym, ◌∙◌, ap, subst}
use Rattle.pdl_nodes.specs.Row.{is_buffered}
use Rattle.pdl_nodes.specs.Rows.{Rows}
use Rattle.pdl_nodes.specs.Marked.{AreListed, listed}
use Rattle.pdl_nodes.specs.Table.{rows_of}
use Rattle.pdl_nodes.proofs.table.mark_at.Goals as goal
use Rattle.pdl_nodes.proofs.TableCalls.{table_falls}
use Rattle.pdl_nodes.proofs.MarkedListing.{table_one, unmarked, unmarked_base, kept_listed, marked_rows, listed_alone}

pub set_mark-requires : goal.set_mark-requires
set_mark-requires c = ap is_buffered (unmarked_base (rows_of c.args.nodes.now c.args.keys.now) c.args.marked.now c.args.keys.now c.unmark_one.new.nodes c.args.root c.args.base c.args.key c.index_mut.result.now (unmarked (rows_of c.args.nodes.now c.args.keys.now) c.args.marked.now c.args.keys.now c.args.nodes.now c.unmark.new.nodes c.unmark_one.new.nodes c.args.root c.args.base c.views.result.now refl c.views.ensures c.unmark.ensures.rows c.unmark_one.ensures.rows c.unmark_one.ensures.table) c.requires.live c.requires.key c.index_mut.ensures.value) ∙ c.requires.buffered

pub returns-clause-table : goal.returns-clause-table
returns-clause-table c = table_one c.args.keys.now c.unmark_one.new.nodes c.args.base c.args.key c.set_mark.new.self c.unmark_one.ensures.table c.requires.key

pub returns-clause-listed : goal.returns-clause-listed
returns-clause-listed c =
    subst (λ (t : Rows). AreListed t c.keep.new.self) (sym (marked_rows (rows_of c.args.nodes.now c.args.keys.now) c.args.marked.now c.args.keys.now c.unmark_one.new.nodes c.args.root c.args.base c.args.key c.index_mut.result.now c.set_mark.new.self (unmarked (rows_of c.args.nodes.now c.args.keys.now) c.args.marked.now c.args.keys.now c.args.nodes.now c.unmark.new.nodes c.unmark_one.new.nodes c.args.root c.args.base c.views.result.now refl c.views.ensures c.unmark.ensures.rows c.unmark_one.ensures.rows c.unmark_one.ensures.table) (table_falls (rows_of c.args.nodes.now c.args.keys.now) c.args.keys.now c.args.nodes.now refl c.requires.table) c.requires.listed c.requires.root c.requires.key c.index_mut.ensures.value c.set_mark.ensures))
    (listed_alone (rows_of c.args.nodes.now c.args.keys.now) c.args.marked.now c.keep.new.self c.args.root c.args.base c.requires.listed c.requires.family c.requires.live c.requires.was_marked (kept_listed c.args.base (listed c.args.marked.now c.args.root) (listed c.keep.new.self c.args.root) c.keep.ensures.kept) c.keep.ensures.others)

pub returns-clause-rows : goal.returns-clause-rows
returns-clause-rows c = marked_rows (rows_of c.args.nodes.now c.args.keys.now) c.args.marked.now c.args.keys.now c.unmark_one.new.nodes c.args.root c.args.base c.args.key c.index_mut.result.now c.set_mark.new.self (unmarked (rows_of c.args.nodes.now c.args.keys.now) c.args.marked.now c.args.keys.now c.args.nodes.now c.unmark.new.nodes c.unmark_one.new.nodes c.args.root c.args.base c.views.result.now refl c.views.ensures c.unmark.ensures.rows c.unmark_one.ensures.rows c.unmark_one.ensures.table) (table_falls (rows_of c.args.nodes.now c.args.keys.now) c.args.keys.now c.args.nodes.now refl c.requires.table) c.requires.listed c.requires.root c.requires.key c.index_mut.ensures.value c.set_mark.ensures
