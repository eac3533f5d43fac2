use Rattle.std.proofs.Common.{◌≡◌, ◌∷◌, [], refl, sym, ◌∙◌, arith}
use Rattle.pdl_nodes.specs.Changes.{unmark_in}
use Rattle.pdl_nodes.specs.Rows.{Rows}
use Rattle.pdl_nodes.specs.Table.{rows_of}
use Rattle.pdl_nodes.proofs.marked.unmark_one.Goals as goal
use Rattle.pdl_nodes.proofs.TableCalls.{changed_one, table_falls}
use Rattle.pdl_nodes.proofs.MarkedListing.{absent_one, base_one, one_here, one_others}
use Rattle.pdl_nodes.proofs.TableSlots.{shows}

pub returns-in-Some-clause-rows : goal.returns-in-Some-clause-rows
returns-in-Some-clause-rows c =
    let n : c.args.id ≡ c.args.base → ⊥ = λ e. omega (arith, e, c.if-id-base.true) in
    changed_one (unmark_in (c.args.id ∷ []) c.args.root c.args.base) (rows_of c.args.nodes.now c.args.keys.now) c.args.keys.now c.args.nodes.now c.args.id c.in-Some.key.now c.index_mut.result.now c.unmark.new.self
    refl c.requires (sym c.in-Some.ensures) c.index_mut.ensures.value (c.unmark.ensures ∙ one_here c.args.root c.args.base c.args.id c.index_mut.result.now n) (one_others c.args.root c.args.base c.args.id)

pub returns-in-None-clause-rows : goal.returns-in-None-clause-rows
returns-in-None-clause-rows c =
    let t : Rows = rows_of c.args.nodes.now c.args.keys.now in
    absent_one c.args.root c.args.base t c.args.id (table_falls t c.args.keys.now c.args.nodes.now refl c.requires)
    ((shows c.args.keys.now c.args.nodes.now c.requires.ordered).none c.args.id (sym c.in-None.ensures))

pub returns-else-id-base-clause-rows : goal.returns-else-id-base-clause-rows
returns-else-id-base-clause-rows c = base_one c.args.root c.args.base c.args.id (rows_of c.args.nodes.now c.args.keys.now) (omega (arith, c.if-id-base.false))
