use Rattle.std.proofs.Common.{◌≡◌, ◌+◌, ◌≤◌, ◌∙◌, ap, sym, arith}
use Rattle.pdl_lemmas.specs.Results.{on_err}
use Rattle.pdl_shape.specs.Shape.{size_of}
use Rattle.pdl_world.specs.World.{assign, elements}
use Rattle.pdl_nodes.specs.Outcomes.{IsReady, outdated_at}
use Rattle.pdl_nodes.specs.Rows.{row_at}
use Rattle.pdl_nodes.specs.Worlds.{world_of}
use Rattle.pdl_pull.specs.Outdated.{outdated}
use Rattle.pdl_engine.proofs.SeveredReadied.{less_path, ready_then}
use Rattle.pdl_engine.proofs.ThroughParts.{can_still, itself_outdated, less_above, marks_after, others_after}
use Rattle.pdl_engine.proofs.through.assign_through.Goals as goal

pub find-requires-clause-order : goal.find-requires-clause-order
find-requires-clause-order g c = c.settle.ensures.settled.ready.order

pub find-requires-clause-known : goal.find-requires-clause-known
find-requires-clause-known g c = c.settle.ensures.settled.ready.known

pub find-requires-clause-live : goal.find-requires-clause-live
find-requires-clause-live g c = c.settle.ensures.settled.ready.alike.has_is c.args.id ∙ c.requires.can.live

pub find-requires-clause-own : goal.find-requires-clause-own
find-requires-clause-own g c = c.settle.ensures.settled.ready.alike.base_is c.args.id ∙ c.requires.unmarked.own

pub find-requires-clause-view : goal.find-requires-clause-view
find-requires-clause-view g c = λ e. c.requires.unmarked.view (sym (c.settle.ensures.settled.ready.alike.root_is c.args.id) ∙ e)

pub find-requires-clause-settled : goal.find-requires-clause-settled
find-requires-clause-settled g c = c.settle.ensures.settled.nothing

pub put_elements-requires-clause-can : goal.put_elements-requires-clause-can
put_elements-requires-clause-can g c = can_still c.row_laws.ensures c.args.table.now c.find.new.table c.args.id c.args.source c.requires.can (ready_then c.row_laws.ensures c.args.table.now c.settle.new.table c.find.new.table c.settle.ensures.settled.ready c.find.ensures.kept)

pub put_elements-requires-clause-settled : goal.put_elements-requires-clause-settled
put_elements-requires-clause-settled g c = ap (λ r. (row_at c.find.new.table r).waiting) (c.find.ensures.kept.alike.root_is c.args.id) ∙ c.find.ensures.kept.waits _ ∙ c.settle.ensures.settled.nothing

pub put_elements-requires-clause-places : goal.put_elements-requires-clause-places
put_elements-requires-clause-places g c = c.as_slice.ensures ∙ c.in_ok-places.ensures.places

-- there is no memory for the places
pub returns-in_err-places-clause-alike : goal.returns-in_err-places-clause-alike
returns-in_err-places-clause-alike g c = (ready_then c.row_laws.ensures c.args.table.now c.settle.new.table c.find.new.table c.settle.ensures.settled.ready c.find.ensures.kept).alike

pub returns-in_err-places-clause-sound : goal.returns-in_err-places-clause-sound
returns-in_err-places-clause-sound g c = (can_still c.row_laws.ensures c.args.table.now c.find.new.table c.args.id c.args.source c.requires.can (ready_then c.row_laws.ensures c.args.table.now c.settle.new.table c.find.new.table c.settle.ensures.settled.ready c.find.ensures.kept)).sound

pub returns-in_err-places-clause-ready : goal.returns-in_err-places-clause-ready
returns-in_err-places-clause-ready g c = on_err c.from_residual.result (ready_then c.row_laws.ensures c.args.table.now c.settle.new.table c.find.new.table c.settle.ensures.settled.ready c.find.ensures.kept)

pub returns-in_err-places-clause-marks : goal.returns-in_err-places-clause-marks
returns-in_err-places-clause-marks g c = λ u h n m. c.find.ensures.kept.marks u (c.settle.ensures.settled.ready.marks u m)

pub returns-in_err-places-clause-settled : goal.returns-in_err-places-clause-settled
returns-in_err-places-clause-settled g c = ap (λ r. (row_at c.find.new.table r).waiting) (c.find.ensures.kept.alike.root_is c.args.id) ∙ c.find.ensures.kept.waits _ ∙ c.settle.ensures.settled.nothing

pub returns-in_err-places-clause-others : goal.returns-in_err-places-clause-others
returns-in_err-places-clause-others g c = λ r h n. c.find.ensures.kept.waits r ∙ c.settle.ensures.settled.others r h n

pub returns-in_err-places-clause-counted : goal.returns-in_err-places-clause-counted
returns-in_err-places-clause-counted g c =
    let l : outdated c.settle.new.table c.args.id ≤ outdated c.args.table.now c.args.id = less_path c.row_laws.ensures c.args.table.now c.settle.new.table c.args.id c.settle.ensures.settled.ready.alike c.settle.ensures.settled.ready.marks in
    omega (arith, l, c.settle.ensures.counted, c.find.ensures.counted)

-- the elements are put
pub returns-clause-order : goal.returns-clause-order
returns-clause-order g c = c.put_elements.ensures.through.order

pub returns-clause-known : goal.returns-clause-known
returns-clause-known g c = c.put_elements.ensures.through.known

pub returns-clause-alike : goal.returns-clause-alike
returns-clause-alike g c = c.row_laws.ensures.kept.alike_trans c.args.table.now c.find.new.table c.put_elements.new.table
    (ready_then c.row_laws.ensures c.args.table.now c.settle.new.table c.find.new.table c.settle.ensures.settled.ready c.find.ensures.kept).alike c.put_elements.ensures.through.alike

pub returns-clause-world : goal.returns-clause-world
returns-clause-world g c =
    let r : IsReady c.args.table.now c.find.new.table = ready_then c.row_laws.ensures c.args.table.now c.settle.new.table c.find.new.table c.settle.ensures.settled.ready c.find.ensures.kept in
    c.put_elements.ensures.through.world ∙ sym (c.part_laws.ensures.wholes (world_of c.find.new.table) c.args.id (elements (world_of c.find.new.table) c.args.source))
    ∙ ap (λ w. assign w c.args.id (elements w c.args.source)) r.world

pub returns-clause-sound : goal.returns-clause-sound
returns-clause-sound g c = c.put_elements.ensures.through.sound

pub returns-clause-marks : goal.returns-clause-marks
returns-clause-marks g c = marks_after c.args.table.now c.find.new.table c.put_elements.new.table c.args.id (elements (world_of c.find.new.table) c.args.source)
    (ready_then c.row_laws.ensures c.args.table.now c.settle.new.table c.find.new.table c.settle.ensures.settled.ready c.find.ensures.kept) c.put_elements.ensures.through

pub returns-clause-settled : goal.returns-clause-settled
returns-clause-settled g c = ap (λ r. (row_at c.put_elements.new.table r).waiting) (c.put_elements.ensures.through.alike.root_is c.args.id) ∙ c.put_elements.ensures.through.waits _
    ∙ ap (λ r. (row_at c.find.new.table r).waiting) (c.find.ensures.kept.alike.root_is c.args.id) ∙ c.find.ensures.kept.waits _ ∙ c.settle.ensures.settled.nothing

pub returns-clause-others : goal.returns-clause-others
returns-clause-others g c = others_after c.args.table.now c.settle.new.table c.find.new.table c.put_elements.new.table c.args.id c.settle.ensures.settled.others c.find.ensures.kept c.put_elements.ensures.through.waits

pub returns-clause-counted : goal.returns-clause-counted
returns-clause-counted g c =
    let old = c.args.table.now in
    let first = c.settle.new.table in
    let a : outdated first c.args.id + outdated_at old c.args.id ≤ outdated old c.args.id + outdated_at first c.args.id =
    less_above c.row_laws.ensures old first c.args.id c.requires.can.order.still c.requires.can.live c.settle.ensures.settled.ready.alike c.settle.ensures.settled.ready.marks in
    let i : outdated_at old c.args.id ≡ size_of (row_at old c.args.id).triple.dims = itself_outdated old c.args.id c.requires.unmarked in
    let n : size_of (row_at c.find.new.table c.args.id).triple.dims ≡ size_of (row_at old c.args.id).triple.dims =
    ap (λ t. size_of t.dims) (c.find.ensures.kept.alike.triple_is c.args.id ∙ c.settle.ensures.settled.ready.alike.triple_is c.args.id) in
    omega (arith, a, i, n, c.settle.ensures.counted, c.find.ensures.counted, c.put_elements.ensures.counted)
