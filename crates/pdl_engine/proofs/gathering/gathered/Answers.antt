use Rattle.std.proofs.Common.{◌≡◌, ◌+◌, ◌≤◌, ◌∙◌, ap, sym, arith}
use Rattle.pdl_shape.specs.Shape.{size_of}
use Rattle.pdl_world.specs.World.{elements}
use Rattle.pdl_nodes.specs.Outcomes.{IsReady, outdated_at}
use Rattle.pdl_nodes.specs.Rows.{row_at}
use Rattle.pdl_pull.specs.Outdated.{outdated}
use Rattle.pdl_engine.proofs.SeveredReadied.{less_path, others_on, ready_then}
use Rattle.pdl_engine.proofs.ThroughParts.{itself_outdated, less_above}
use Rattle.pdl_engine.proofs.TypedResults.{made_of}
use Rattle.pdl_engine.proofs.gathering.gathered.Goals as goal

pub find-requires-clause-order : goal.find-requires-clause-order
find-requires-clause-order g c = c.settle.ensures.settled.ready.order

pub find-requires-clause-known : goal.find-requires-clause-known
find-requires-clause-known g c = c.settle.ensures.settled.ready.known

pub find-requires-clause-live : goal.find-requires-clause-live
find-requires-clause-live g c = c.settle.ensures.settled.ready.alike.has_is c.args.id ∙ c.requires.live

pub find-requires-clause-own : goal.find-requires-clause-own
find-requires-clause-own g c = c.settle.ensures.settled.ready.alike.base_is c.args.id ∙ c.requires.unmarked.own

pub find-requires-clause-view : goal.find-requires-clause-view
find-requires-clause-view g c = λ e. c.requires.unmarked.view (sym (c.settle.ensures.settled.ready.alike.root_is c.args.id) ∙ e)

pub find-requires-clause-settled : goal.find-requires-clause-settled
find-requires-clause-settled g c = c.settle.ensures.settled.nothing

pub read_root-requires-clause-order : goal.read_root-requires-clause-order
read_root-requires-clause-order g c = c.find.ensures.kept.order

pub read_root-requires-clause-live : goal.read_root-requires-clause-live
read_root-requires-clause-live g c = c.find.ensures.kept.alike.has_is c.args.id ∙ c.settle.ensures.settled.ready.alike.has_is c.args.id ∙ c.requires.live

pub read_root-requires-clause-settled : goal.read_root-requires-clause-settled
read_root-requires-clause-settled g c = ap (λ r. (row_at c.find.new.table r).waiting) (c.find.ensures.kept.alike.root_is c.args.id) ∙ c.find.ensures.kept.waits _ ∙ c.settle.ensures.settled.nothing

pub read_root-requires-clause-places : goal.read_root-requires-clause-places
read_root-requires-clause-places g c = c.as_slice.ensures ∙ c.in_ok-places.ensures.places

-- there is no memory for the places
pub returns-in_err-places-clause-ready : goal.returns-in_err-places-clause-ready
returns-in_err-places-clause-ready g c = ready_then c.row_laws.ensures c.args.table.now c.settle.new.table c.find.new.table c.settle.ensures.settled.ready c.find.ensures.kept

pub returns-in_err-places-clause-settled : goal.returns-in_err-places-clause-settled
returns-in_err-places-clause-settled g c = ap (λ r. (row_at c.find.new.table r).waiting) (c.find.ensures.kept.alike.root_is c.args.id) ∙ c.find.ensures.kept.waits _ ∙ c.settle.ensures.settled.nothing

pub returns-in_err-places-clause-others : goal.returns-in_err-places-clause-others
returns-in_err-places-clause-others g c = others_on c.args.table.now c.settle.new.table c.find.new.table c.args.id c.settle.ensures.settled c.find.ensures.kept

pub returns-in_err-places-clause-counted : goal.returns-in_err-places-clause-counted
returns-in_err-places-clause-counted g c =
    let l : outdated c.settle.new.table c.args.id ≤ outdated c.args.table.now c.args.id = less_path c.row_laws.ensures c.args.table.now c.settle.new.table c.args.id c.settle.ensures.settled.ready.alike c.settle.ensures.settled.ready.marks in
    omega (arith, l, c.settle.ensures.counted, c.find.ensures.counted)

-- the elements are read
pub returns-clause-ready : goal.returns-clause-ready
returns-clause-ready g c = ready_then c.row_laws.ensures c.args.table.now c.settle.new.table c.find.new.table c.settle.ensures.settled.ready c.find.ensures.kept

pub returns-clause-value : goal.returns-clause-value
returns-clause-value g c =
    let r : IsReady c.args.table.now c.find.new.table = ready_then c.row_laws.ensures c.args.table.now c.settle.new.table c.find.new.table c.settle.ensures.settled.ready c.find.ensures.kept in
    made_of c.read_root.result _ _ _ _ (r.alike.ty_is c.args.id) (ap (λ w. elements w c.args.id) r.world) c.read_root.ensures.value

pub returns-clause-settled : goal.returns-clause-settled
returns-clause-settled g c = ap (λ r. (row_at c.find.new.table r).waiting) (c.find.ensures.kept.alike.root_is c.args.id) ∙ c.find.ensures.kept.waits _ ∙ c.settle.ensures.settled.nothing

pub returns-clause-others : goal.returns-clause-others
returns-clause-others g c = others_on c.args.table.now c.settle.new.table c.find.new.table c.args.id c.settle.ensures.settled c.find.ensures.kept

pub returns-clause-counted : goal.returns-clause-counted
returns-clause-counted g c =
    let old = c.args.table.now in
    let first = c.settle.new.table in
    let a : outdated first c.args.id + outdated_at old c.args.id ≤ outdated old c.args.id + outdated_at first c.args.id =
    less_above c.row_laws.ensures old first c.args.id c.requires.order.still c.requires.live c.settle.ensures.settled.ready.alike c.settle.ensures.settled.ready.marks in
    let i : outdated_at old c.args.id ≡ size_of (row_at old c.args.id).triple.dims = itself_outdated old c.args.id c.requires.unmarked in
    let n : size_of (row_at c.find.new.table c.args.id).triple.dims ≡ size_of (row_at old c.args.id).triple.dims =
    ap (λ t. size_of t.dims) (c.find.ensures.kept.alike.triple_is c.args.id ∙ c.settle.ensures.settled.ready.alike.triple_is c.args.id) in
    omega (arith, a, i, n, c.settle.ensures.counted, c.find.ensures.counted, c.read_root.ensures.counted)
