use Rattle.std.proofs.Common.{◌≡◌, [], ◌+◌, ◌≤◌, sym, ◌∙◌, ap, subst, arith, ℕ, Option, true, false, refl}
use Rattle.pdl_lemmas.specs.Results.{on_err}
use Rattle.pdl_shape.specs.Shape.{size_of}
use Rattle.pdl_shape.specs.Triple.{Triple}
use Rattle.pdl_numbers.specs.Typed.{TypedElements}
use Rattle.pdl_world.specs.World.{elements}
use Rattle.pdl_nodes.specs.Below.{AreBelow}
use Rattle.pdl_nodes.specs.Renewed.{CanCut, CanRenew, Layouts, renew}
use Rattle.pdl_nodes.specs.Outcomes.{waiting_of, waiting_size}
use Rattle.pdl_pull.specs.Outdated.{outdated}
use Rattle.pdl_nodes.specs.Row.{Row}
use Rattle.pdl_nodes.specs.Worlds.{world_of}
use Rattle.pdl_engine.specs.Loose.{listed_with}
use Rattle.pdl_engine.proofs.SeveredReadied.{ready_then, IsFreshly, others_on, settled_on, only_ready, freshly, ready_steps, ready_fresh}
use Rattle.pdl_engine.proofs.SeveredRenews.{RenewFacts, first_all, root_uncut, renewed_bases, renewed_settled, all_steps, renewed_fresh, can_cut, was_renewed, cut_world}
use Rattle.pdl_engine.proofs.LooseTight.{listed_alike, none_listed}
use Rattle.pdl_engine.proofs.severing.sever.Goals as goal

pub returns-then-root-id-clause-ok : goal.returns-then-root-id-clause-ok
returns-then-root-id-clause-ok g c = root_uncut c.row_laws.ensures c.args.table.now c.args.id c.requires.order c.requires.live (ap (λ (r : Row). r.root) (sym c.node.ensures) ∙ sym c.root.ensures ∙ c.if-root-id.true)

pub returns-in_err-refresh-clause-severed : goal.returns-in_err-refresh-clause-severed
returns-in_err-refresh-clause-severed g c = only_ready c.row_laws.ensures c.args.table.now c.refresh.new.table c.args.id c.requires.order c.requires.sized (ready_then c.row_laws.ensures c.args.table.now c.settle.new.table c.refresh.new.table c.settle.ensures.settled.ready c.refresh.ensures.kept)
    (others_on c.args.table.now c.settle.new.table c.refresh.new.table c.args.id c.settle.ensures.settled c.refresh.ensures.kept)

pub returns-in_err-below-clause-severed : goal.returns-in_err-below-clause-severed
returns-in_err-below-clause-severed g c = only_ready c.row_laws.ensures c.args.table.now c.refresh.new.table c.args.id c.requires.order c.requires.sized (ready_then c.row_laws.ensures c.args.table.now c.settle.new.table c.refresh.new.table c.settle.ensures.settled.ready c.refresh.ensures.kept)
    (others_on c.args.table.now c.settle.new.table c.refresh.new.table c.args.id c.settle.ensures.settled c.refresh.ensures.kept)

pub returns-in_err-refresh-clause-counted : goal.returns-in_err-refresh-clause-counted
returns-in_err-refresh-clause-counted g c =
    let l : c.refresh.new.steps ≤ c.args.steps.now + (outdated c.args.table.now c.args.id + waiting_size c.args.table.now (waiting_of c.args.table.now c.args.id)) =
    ready_steps c.row_laws.ensures c.args.table.now c.settle.new.table c.args.id c.settle.new.steps c.refresh.new.steps c.args.steps.now c.settle.ensures.settled c.settle.ensures.counted c.refresh.ensures.counted in
    omega (arith, l)

pub returns-in_err-below-clause-counted : goal.returns-in_err-below-clause-counted
returns-in_err-below-clause-counted g c =
    let l : c.refresh.new.steps ≤ c.args.steps.now + (outdated c.args.table.now c.args.id + waiting_size c.args.table.now (waiting_of c.args.table.now c.args.id)) =
    ready_steps c.row_laws.ensures c.args.table.now c.settle.new.table c.args.id c.settle.new.steps c.refresh.new.steps c.args.steps.now c.settle.ensures.settled c.settle.ensures.counted c.refresh.ensures.counted in
    omega (arith, l)

pub copied_and_listed-requires-clause-fresh : goal.copied_and_listed-requires-clause-fresh
copied_and_listed-requires-clause-fresh g c =
    c.row_laws.ensures.seen.path_first c.refresh.new.table c.args.id c.refresh.ensures.kept.order.still (c.refresh.ensures.kept.alike.has_is c.args.id ∙ c.settle.ensures.settled.ready.alike.has_is c.args.id ∙ c.requires.live) c.in_ok-refresh.ensures.fresh

pub below-requires : goal.below-requires
below-requires g c = c.refresh.ensures.kept.order.still

pub renew-requires-clause-below : goal.renew-requires-clause-below
renew-requires-clause-below g c = subst (AreBelow c.refresh.new.table c.args.id) (sym c.deref.ensures.value) c.in_ok-below.ensures

pub returns-in_err-kept-clause-severed : goal.returns-in_err-kept-clause-severed
returns-in_err-kept-clause-severed g c = only_ready c.row_laws.ensures c.args.table.now c.refresh.new.table c.args.id c.requires.order c.requires.sized (ready_then c.row_laws.ensures c.args.table.now c.settle.new.table c.refresh.new.table c.settle.ensures.settled.ready c.refresh.ensures.kept)
    (others_on c.args.table.now c.settle.new.table c.refresh.new.table c.args.id c.settle.ensures.settled c.refresh.ensures.kept)

pub returns-in_err-kept-clause-counted : goal.returns-in_err-kept-clause-counted
returns-in_err-kept-clause-counted g c =
    all_steps c.args.table.now c.settle.new.table c.refresh.new.table c.args.id c.refresh.new.steps c.copied_and_listed.new.steps c.args.steps.now c.settle.ensures.settled c.refresh.ensures.kept
    (ready_steps c.row_laws.ensures c.args.table.now c.settle.new.table c.args.id c.settle.new.steps c.refresh.new.steps c.args.steps.now c.settle.ensures.settled c.settle.ensures.counted c.refresh.ensures.counted) (subst (λ n. c.copied_and_listed.new.steps ≤ c.refresh.new.steps + n) (c.elements_of-count.ensures.count ∙ ap size_of (c.copy_dims-dims.ensures ∙ ap (λ (t : Triple). t.dims) (c.behind-node.view_is ∙ c.triple.ensures ∙ ap (λ (r : Row). r.triple) c.node-2.ensures))) c.copied_and_listed.ensures.counted)

pub renew-requires-clause-can : goal.renew-requires-clause-can
renew-requires-clause-can g c =
    let laws : RenewFacts = record {
      roots = c.renewed_row_laws.ensures.roots;
      reshapes = c.renewed_row_laws.ensures.reshapes;
      severs = c.renewed_row_laws.ensures.severs;
      relaid = c.renewed_row_laws.ensures.relaid;
      stay = c.renewed_row_laws.ensures.stay;
      outdated = c.renewed_row_laws.ensures.outdated;
      others = c.renewed_row_laws.ensures.others;
      families = c.renewed_row_laws.ensures.families;
      settled = c.renewed_row_laws.ensures.settled;
      known = c.renewed_row_laws.ensures.known;
      sized = c.renewed_row_laws.ensures.sized;
      numbers = c.renewed_row_laws.ensures.numbers;
      makes = c.renewed_row_laws.ensures.makes;
    } in
    let es : c.in_ok-kept.kept.elems ≡ elements (world_of c.refresh.new.table) c.args.id =
    first_all c.row_laws.ensures c.refresh.new.table c.args.id c.elements_of-count.result c.copy_dims-dims.result c.in_ok-kept.kept.elems c.refresh.ensures.kept.order.still
    (c.refresh.ensures.kept.alike.has_is c.args.id ∙ c.settle.ensures.settled.ready.alike.has_is c.args.id ∙ c.requires.live)
    c.elements_of-count.ensures.count (c.copy_dims-dims.ensures ∙ ap (λ (t : Triple). t.dims) (c.behind-node.view_is ∙ c.triple.ensures ∙ ap (λ (r : Row). r.triple) c.node-2.ensures)) (ap (λ (k : TypedElements). k.elems) c.in_ok-kept.ensures.value) in
    let f : IsFreshly c.args.table.now c.refresh.new.table c.args.id = freshly c.row_laws.ensures c.args.table.now c.settle.new.table c.refresh.new.table c.args.id c.requires.order c.requires.sized c.requires.live c.settle.ensures.settled c.refresh.ensures.kept
    (c.row_laws.ensures.seen.path_first c.refresh.new.table c.args.id c.refresh.ensures.kept.order.still (c.refresh.ensures.kept.alike.has_is c.args.id ∙ c.settle.ensures.settled.ready.alike.has_is c.args.id ∙ c.requires.live) c.in_ok-refresh.ensures.fresh) in
    let can : CanCut c.refresh.new.table c.args.id c.copy_dims-dims.result c.in_ok-kept.kept.elems = can_cut c.row_laws.ensures c.args.table.now c.refresh.new.table c.args.id c.copy_dims-dims.result c.in_ok-kept.kept.elems f
    (c.copy_dims-dims.ensures ∙ ap (λ (t : Triple). t.dims) (c.behind-node.view_is ∙ c.triple.ensures ∙ ap (λ (r : Row). r.triple) c.node-2.ensures))
    es in
    subst (λ (ls : Layouts). CanRenew ls c.refresh.new.table c.args.id c.copy_dims-dims.result c.in_ok-kept.kept.elems) (sym c.new.ensures) (laws.severs c.refresh.new.table c.args.id c.copy_dims-dims.result c.in_ok-kept.kept.elems can es).0

pub returns-clause-severed : goal.returns-clause-severed
returns-clause-severed g c =
    let es : c.in_ok-kept.kept.elems ≡ elements (world_of c.refresh.new.table) c.args.id =
    first_all c.row_laws.ensures c.refresh.new.table c.args.id c.elements_of-count.result c.copy_dims-dims.result c.in_ok-kept.kept.elems c.refresh.ensures.kept.order.still
    (c.refresh.ensures.kept.alike.has_is c.args.id ∙ c.settle.ensures.settled.ready.alike.has_is c.args.id ∙ c.requires.live)
    c.elements_of-count.ensures.count (c.copy_dims-dims.ensures ∙ ap (λ (t : Triple). t.dims) (c.behind-node.view_is ∙ c.triple.ensures ∙ ap (λ (r : Row). r.triple) c.node-2.ensures)) (ap (λ (k : TypedElements). k.elems) c.in_ok-kept.ensures.value) in
    let laws : RenewFacts = record {
      roots = c.renewed_row_laws.ensures.roots;
      reshapes = c.renewed_row_laws.ensures.reshapes;
      severs = c.renewed_row_laws.ensures.severs;
      relaid = c.renewed_row_laws.ensures.relaid;
      stay = c.renewed_row_laws.ensures.stay;
      outdated = c.renewed_row_laws.ensures.outdated;
      others = c.renewed_row_laws.ensures.others;
      families = c.renewed_row_laws.ensures.families;
      settled = c.renewed_row_laws.ensures.settled;
      known = c.renewed_row_laws.ensures.known;
      sized = c.renewed_row_laws.ensures.sized;
      numbers = c.renewed_row_laws.ensures.numbers;
      makes = c.renewed_row_laws.ensures.makes;
    } in
    let f : IsFreshly c.args.table.now c.refresh.new.table c.args.id = freshly c.row_laws.ensures c.args.table.now c.settle.new.table c.refresh.new.table c.args.id c.requires.order c.requires.sized c.requires.live c.settle.ensures.settled c.refresh.ensures.kept
    (c.row_laws.ensures.seen.path_first c.refresh.new.table c.args.id c.refresh.ensures.kept.order.still (c.refresh.ensures.kept.alike.has_is c.args.id ∙ c.settle.ensures.settled.ready.alike.has_is c.args.id ∙ c.requires.live) c.in_ok-refresh.ensures.fresh) in
    let can : CanCut c.refresh.new.table c.args.id c.copy_dims-dims.result c.in_ok-kept.kept.elems = can_cut c.row_laws.ensures c.args.table.now c.refresh.new.table c.args.id c.copy_dims-dims.result c.in_ok-kept.kept.elems f
    (c.copy_dims-dims.ensures ∙ ap (λ (t : Triple). t.dims) (c.behind-node.view_is ∙ c.triple.ensures ∙ ap (λ (r : Row). r.triple) c.node-2.ensures))
    es in
    let made : c.renew.new.self ≡ renew [] c.refresh.new.table c.args.id c.copy_dims-dims.result c.in_ok-kept.kept.elems = c.renew.ensures ∙ ap (λ (ls : Layouts). renew ls c.refresh.new.table c.args.id c.copy_dims-dims.result c.in_ok-kept.kept.elems) c.new.ensures in
    was_renewed c.row_laws.ensures laws [] c.args.table.now c.refresh.new.table c.renew.new.self c.args.id c.copy_dims-dims.result c.in_ok-kept.kept.elems c.requires.order c.requires.sized f (laws.severs c.refresh.new.table c.args.id c.copy_dims-dims.result c.in_ok-kept.kept.elems can es).0 made

pub returns-clause-outdated : goal.returns-clause-outdated
returns-clause-outdated g c = λ n.
    let es : c.in_ok-kept.kept.elems ≡ elements (world_of c.refresh.new.table) c.args.id =
    first_all c.row_laws.ensures c.refresh.new.table c.args.id c.elements_of-count.result c.copy_dims-dims.result c.in_ok-kept.kept.elems c.refresh.ensures.kept.order.still
    (c.refresh.ensures.kept.alike.has_is c.args.id ∙ c.settle.ensures.settled.ready.alike.has_is c.args.id ∙ c.requires.live)
    c.elements_of-count.ensures.count (c.copy_dims-dims.ensures ∙ ap (λ (t : Triple). t.dims) (c.behind-node.view_is ∙ c.triple.ensures ∙ ap (λ (r : Row). r.triple) c.node-2.ensures)) (ap (λ (k : TypedElements). k.elems) c.in_ok-kept.ensures.value) in
    let laws : RenewFacts = record {
      roots = c.renewed_row_laws.ensures.roots;
      reshapes = c.renewed_row_laws.ensures.reshapes;
      severs = c.renewed_row_laws.ensures.severs;
      relaid = c.renewed_row_laws.ensures.relaid;
      stay = c.renewed_row_laws.ensures.stay;
      outdated = c.renewed_row_laws.ensures.outdated;
      others = c.renewed_row_laws.ensures.others;
      families = c.renewed_row_laws.ensures.families;
      settled = c.renewed_row_laws.ensures.settled;
      known = c.renewed_row_laws.ensures.known;
      sized = c.renewed_row_laws.ensures.sized;
      numbers = c.renewed_row_laws.ensures.numbers;
      makes = c.renewed_row_laws.ensures.makes;
    } in
    let f : IsFreshly c.args.table.now c.refresh.new.table c.args.id = freshly c.row_laws.ensures c.args.table.now c.settle.new.table c.refresh.new.table c.args.id c.requires.order c.requires.sized c.requires.live c.settle.ensures.settled c.refresh.ensures.kept
    (c.row_laws.ensures.seen.path_first c.refresh.new.table c.args.id c.refresh.ensures.kept.order.still (c.refresh.ensures.kept.alike.has_is c.args.id ∙ c.settle.ensures.settled.ready.alike.has_is c.args.id ∙ c.requires.live) c.in_ok-refresh.ensures.fresh) in
    let can : CanCut c.refresh.new.table c.args.id c.copy_dims-dims.result c.in_ok-kept.kept.elems = can_cut c.row_laws.ensures c.args.table.now c.refresh.new.table c.args.id c.copy_dims-dims.result c.in_ok-kept.kept.elems f
    (c.copy_dims-dims.ensures ∙ ap (λ (t : Triple). t.dims) (c.behind-node.view_is ∙ c.triple.ensures ∙ ap (λ (r : Row). r.triple) c.node-2.ensures))
    es in
    let made : c.renew.new.self ≡ renew [] c.refresh.new.table c.args.id c.copy_dims-dims.result c.in_ok-kept.kept.elems = c.renew.ensures ∙ ap (λ (ls : Layouts). renew ls c.refresh.new.table c.args.id c.copy_dims-dims.result c.in_ok-kept.kept.elems) c.new.ensures in
    renewed_bases laws [] c.refresh.new.table c.renew.new.self c.args.id c.copy_dims-dims.result c.in_ok-kept.kept.elems (laws.severs c.refresh.new.table c.args.id c.copy_dims-dims.result c.in_ok-kept.kept.elems can es).0 made

pub returns-clause-ok : goal.returns-clause-ok
returns-clause-ok g c =
    let es : c.in_ok-kept.kept.elems ≡ elements (world_of c.refresh.new.table) c.args.id =
    first_all c.row_laws.ensures c.refresh.new.table c.args.id c.elements_of-count.result c.copy_dims-dims.result c.in_ok-kept.kept.elems c.refresh.ensures.kept.order.still
    (c.refresh.ensures.kept.alike.has_is c.args.id ∙ c.settle.ensures.settled.ready.alike.has_is c.args.id ∙ c.requires.live)
    c.elements_of-count.ensures.count (c.copy_dims-dims.ensures ∙ ap (λ (t : Triple). t.dims) (c.behind-node.view_is ∙ c.triple.ensures ∙ ap (λ (r : Row). r.triple) c.node-2.ensures)) (ap (λ (k : TypedElements). k.elems) c.in_ok-kept.ensures.value) in
    let laws : RenewFacts = record {
      roots = c.renewed_row_laws.ensures.roots;
      reshapes = c.renewed_row_laws.ensures.reshapes;
      severs = c.renewed_row_laws.ensures.severs;
      relaid = c.renewed_row_laws.ensures.relaid;
      stay = c.renewed_row_laws.ensures.stay;
      outdated = c.renewed_row_laws.ensures.outdated;
      others = c.renewed_row_laws.ensures.others;
      families = c.renewed_row_laws.ensures.families;
      settled = c.renewed_row_laws.ensures.settled;
      known = c.renewed_row_laws.ensures.known;
      sized = c.renewed_row_laws.ensures.sized;
      numbers = c.renewed_row_laws.ensures.numbers;
      makes = c.renewed_row_laws.ensures.makes;
    } in
    let f : IsFreshly c.args.table.now c.refresh.new.table c.args.id = freshly c.row_laws.ensures c.args.table.now c.settle.new.table c.refresh.new.table c.args.id c.requires.order c.requires.sized c.requires.live c.settle.ensures.settled c.refresh.ensures.kept
    (c.row_laws.ensures.seen.path_first c.refresh.new.table c.args.id c.refresh.ensures.kept.order.still (c.refresh.ensures.kept.alike.has_is c.args.id ∙ c.settle.ensures.settled.ready.alike.has_is c.args.id ∙ c.requires.live) c.in_ok-refresh.ensures.fresh) in
    let can : CanCut c.refresh.new.table c.args.id c.copy_dims-dims.result c.in_ok-kept.kept.elems = can_cut c.row_laws.ensures c.args.table.now c.refresh.new.table c.args.id c.copy_dims-dims.result c.in_ok-kept.kept.elems f
    (c.copy_dims-dims.ensures ∙ ap (λ (t : Triple). t.dims) (c.behind-node.view_is ∙ c.triple.ensures ∙ ap (λ (r : Row). r.triple) c.node-2.ensures))
    es in
    let made : c.renew.new.self ≡ renew [] c.refresh.new.table c.args.id c.copy_dims-dims.result c.in_ok-kept.kept.elems = c.renew.ensures ∙ ap (λ (ls : Layouts). renew ls c.refresh.new.table c.args.id c.copy_dims-dims.result c.in_ok-kept.kept.elems) c.new.ensures in
    cut_world laws c.args.table.now c.refresh.new.table c.renew.new.self c.args.id c.copy_dims-dims.result c.in_ok-kept.kept.elems f can es made

pub returns-clause-counted : goal.returns-clause-counted
returns-clause-counted g c =
    all_steps c.args.table.now c.settle.new.table c.refresh.new.table c.args.id c.refresh.new.steps c.copied_and_listed.new.steps c.args.steps.now c.settle.ensures.settled c.refresh.ensures.kept
    (ready_steps c.row_laws.ensures c.args.table.now c.settle.new.table c.args.id c.settle.new.steps c.refresh.new.steps c.args.steps.now c.settle.ensures.settled c.settle.ensures.counted c.refresh.ensures.counted) (subst (λ n. c.copied_and_listed.new.steps ≤ c.refresh.new.steps + n) (c.elements_of-count.ensures.count ∙ ap size_of (c.copy_dims-dims.ensures ∙ ap (λ (t : Triple). t.dims) (c.behind-node.view_is ∙ c.triple.ensures ∙ ap (λ (r : Row). r.triple) c.node-2.ensures))) c.copied_and_listed.ensures.counted)

pub returns-in_err-refresh-clause-stay : goal.returns-in_err-refresh-clause-stay
returns-in_err-refresh-clause-stay g c = on_err c.from_residual.result (ready_fresh c.args.table.now c.refresh.new.table (ready_then c.row_laws.ensures c.args.table.now c.settle.new.table c.refresh.new.table c.settle.ensures.settled.ready c.refresh.ensures.kept))

pub returns-in_err-below-clause-stay : goal.returns-in_err-below-clause-stay
returns-in_err-below-clause-stay g c = on_err c.from_residual-in_err-below.result (ready_fresh c.args.table.now c.refresh.new.table (ready_then c.row_laws.ensures c.args.table.now c.settle.new.table c.refresh.new.table c.settle.ensures.settled.ready c.refresh.ensures.kept))

pub returns-in_err-kept-clause-stay : goal.returns-in_err-kept-clause-stay
returns-in_err-kept-clause-stay g c = on_err c.from_residual-in_err-kept.result (ready_fresh c.args.table.now c.refresh.new.table (ready_then c.row_laws.ensures c.args.table.now c.settle.new.table c.refresh.new.table c.settle.ensures.settled.ready c.refresh.ensures.kept))

pub returns-clause-fresh : goal.returns-clause-fresh
returns-clause-fresh g c = λ n.
    let f : IsFreshly c.args.table.now c.refresh.new.table c.args.id = freshly c.row_laws.ensures c.args.table.now c.settle.new.table c.refresh.new.table c.args.id c.requires.order c.requires.sized c.requires.live c.settle.ensures.settled c.refresh.ensures.kept
    (c.row_laws.ensures.seen.path_first c.refresh.new.table c.args.id c.refresh.ensures.kept.order.still (c.refresh.ensures.kept.alike.has_is c.args.id ∙ c.settle.ensures.settled.ready.alike.has_is c.args.id ∙ c.requires.live) c.in_ok-refresh.ensures.fresh) in
    let made : c.renew.new.self ≡ renew [] c.refresh.new.table c.args.id c.copy_dims-dims.result c.in_ok-kept.kept.elems = c.renew.ensures ∙ ap (λ (ls : Layouts). renew ls c.refresh.new.table c.args.id c.copy_dims-dims.result c.in_ok-kept.kept.elems) c.new.ensures in
    renewed_fresh c.renewed_row_laws.ensures.makes [] c.args.table.now c.refresh.new.table c.renew.new.self c.args.id c.copy_dims-dims.result c.in_ok-kept.kept.elems f made

pub returns-in_err-refresh-clause-settled : goal.returns-in_err-refresh-clause-settled
returns-in_err-refresh-clause-settled g c = λ n. settled_on c.args.table.now c.settle.new.table c.refresh.new.table c.args.id c.settle.ensures.settled c.refresh.ensures.kept

pub returns-in_err-below-clause-settled : goal.returns-in_err-below-clause-settled
returns-in_err-below-clause-settled g c = λ n. settled_on c.args.table.now c.settle.new.table c.refresh.new.table c.args.id c.settle.ensures.settled c.refresh.ensures.kept

pub returns-in_err-kept-clause-settled : goal.returns-in_err-kept-clause-settled
returns-in_err-kept-clause-settled g c = λ n. settled_on c.args.table.now c.settle.new.table c.refresh.new.table c.args.id c.settle.ensures.settled c.refresh.ensures.kept

pub returns-clause-settled : goal.returns-clause-settled
returns-clause-settled g c = λ n.
    let es : c.in_ok-kept.kept.elems ≡ elements (world_of c.refresh.new.table) c.args.id =
    first_all c.row_laws.ensures c.refresh.new.table c.args.id c.elements_of-count.result c.copy_dims-dims.result c.in_ok-kept.kept.elems c.refresh.ensures.kept.order.still
    (c.refresh.ensures.kept.alike.has_is c.args.id ∙ c.settle.ensures.settled.ready.alike.has_is c.args.id ∙ c.requires.live)
    c.elements_of-count.ensures.count (c.copy_dims-dims.ensures ∙ ap (λ (t : Triple). t.dims) (c.behind-node.view_is ∙ c.triple.ensures ∙ ap (λ (r : Row). r.triple) c.node-2.ensures)) (ap (λ (k : TypedElements). k.elems) c.in_ok-kept.ensures.value) in
    let laws : RenewFacts = record {
      roots = c.renewed_row_laws.ensures.roots;
      reshapes = c.renewed_row_laws.ensures.reshapes;
      severs = c.renewed_row_laws.ensures.severs;
      relaid = c.renewed_row_laws.ensures.relaid;
      stay = c.renewed_row_laws.ensures.stay;
      outdated = c.renewed_row_laws.ensures.outdated;
      others = c.renewed_row_laws.ensures.others;
      families = c.renewed_row_laws.ensures.families;
      settled = c.renewed_row_laws.ensures.settled;
      known = c.renewed_row_laws.ensures.known;
      sized = c.renewed_row_laws.ensures.sized;
      numbers = c.renewed_row_laws.ensures.numbers;
      makes = c.renewed_row_laws.ensures.makes;
    } in
    let f : IsFreshly c.args.table.now c.refresh.new.table c.args.id = freshly c.row_laws.ensures c.args.table.now c.settle.new.table c.refresh.new.table c.args.id c.requires.order c.requires.sized c.requires.live c.settle.ensures.settled c.refresh.ensures.kept
    (c.row_laws.ensures.seen.path_first c.refresh.new.table c.args.id c.refresh.ensures.kept.order.still (c.refresh.ensures.kept.alike.has_is c.args.id ∙ c.settle.ensures.settled.ready.alike.has_is c.args.id ∙ c.requires.live) c.in_ok-refresh.ensures.fresh) in
    let can : CanCut c.refresh.new.table c.args.id c.copy_dims-dims.result c.in_ok-kept.kept.elems = can_cut c.row_laws.ensures c.args.table.now c.refresh.new.table c.args.id c.copy_dims-dims.result c.in_ok-kept.kept.elems f
    (c.copy_dims-dims.ensures ∙ ap (λ (t : Triple). t.dims) (c.behind-node.view_is ∙ c.triple.ensures ∙ ap (λ (r : Row). r.triple) c.node-2.ensures))
    es in
    let made : c.renew.new.self ≡ renew [] c.refresh.new.table c.args.id c.copy_dims-dims.result c.in_ok-kept.kept.elems = c.renew.ensures ∙ ap (λ (ls : Layouts). renew ls c.refresh.new.table c.args.id c.copy_dims-dims.result c.in_ok-kept.kept.elems) c.new.ensures in
    renewed_settled laws [] c.args.table.now c.refresh.new.table c.renew.new.self c.args.id c.copy_dims-dims.result c.in_ok-kept.kept.elems f (laws.severs c.refresh.new.table c.args.id c.copy_dims-dims.result c.in_ok-kept.kept.elems can es).0 made

pub returns-in_err-refresh-clause-root : goal.returns-in_err-refresh-clause-root
returns-in_err-refresh-clause-root g c = λ r. absurd (c.if-root-id.false (c.root.ensures ∙ ap (λ (x : Row). x.root) c.node.ensures ∙ r))

pub returns-in_err-below-clause-root : goal.returns-in_err-below-clause-root
returns-in_err-below-clause-root g c = λ r. absurd (c.if-root-id.false (c.root.ensures ∙ ap (λ (x : Row). x.root) c.node.ensures ∙ r))

pub returns-in_err-refresh-clause-spent : goal.returns-in_err-refresh-clause-spent
returns-in_err-refresh-clause-spent g c = λ r. absurd (c.if-root-id.false (c.root.ensures ∙ ap (λ (x : Row). x.root) c.node.ensures ∙ r))

pub returns-in_err-below-clause-spent : goal.returns-in_err-below-clause-spent
returns-in_err-below-clause-spent g c = λ r. absurd (c.if-root-id.false (c.root.ensures ∙ ap (λ (x : Row). x.root) c.node.ensures ∙ r))

pub returns-in_err-kept-clause-root : goal.returns-in_err-kept-clause-root
returns-in_err-kept-clause-root g c = λ r. absurd (c.if-root-id.false (c.root.ensures ∙ ap (λ (x : Row). x.root) c.node.ensures ∙ r))

pub returns-in_err-kept-clause-spent : goal.returns-in_err-kept-clause-spent
returns-in_err-kept-clause-spent g c = λ r. absurd (c.if-root-id.false (c.root.ensures ∙ ap (λ (x : Row). x.root) c.node.ensures ∙ r))

pub returns-clause-root : goal.returns-clause-root
returns-clause-root g c = λ r. absurd (c.if-root-id.false (c.root.ensures ∙ ap (λ (x : Row). x.root) c.node.ensures ∙ r))

pub returns-clause-spent : goal.returns-clause-spent
returns-clause-spent g c = λ r. absurd (c.if-root-id.false (c.root.ensures ∙ ap (λ (x : Row). x.root) c.node.ensures ∙ r))

pub returns-then-root-id-clause-settled : goal.returns-then-root-id-clause-settled
returns-then-root-id-clause-settled g c = λ n. absurd (n (ap (λ (r : Row). r.root) (sym c.node.ensures) ∙ sym c.root.ensures ∙ c.if-root-id.true))

pub refresh-requires-clause-live : goal.refresh-requires-clause-live
refresh-requires-clause-live g c = c.settle.ensures.settled.ready.alike.has_is c.args.id ∙ c.requires.live

pub copied_and_listed-requires-clause-live : goal.copied_and_listed-requires-clause-live
copied_and_listed-requires-clause-live g c = c.refresh.ensures.kept.alike.has_is c.args.id ∙ c.settle.ensures.settled.ready.alike.has_is c.args.id ∙ c.requires.live

pub copied_and_listed-requires-clause-order : goal.copied_and_listed-requires-clause-order
copied_and_listed-requires-clause-order g c = c.refresh.ensures.kept.order

pub renew-requires-clause-same_type : goal.renew-requires-clause-same_type
renew-requires-clause-same_type g c = ap (λ (k : TypedElements). k.ty) c.in_ok-kept.ensures.value

-- of a root nothing is changed
pub returns-then-root-id-clause-severed : goal.returns-then-root-id-clause-severed
returns-then-root-id-clause-severed g c = record {
  order = c.requires.order;
  known = c.requires.known;
  sized = c.requires.sized;
  numbers_are = refl;
  has_is = λ u. refl;
  fresh = λ u h n f. f;
  waits = λ u h n. refl;
}

pub returns-in_err-refresh-clause-done : goal.returns-in_err-refresh-clause-done
returns-in_err-refresh-clause-done g c = λ r. absurd (c.if-root-id.false (c.root.ensures ∙ ap (λ (x : Row). x.root) c.node.ensures ∙ r))

pub returns-in_err-below-clause-done : goal.returns-in_err-below-clause-done
returns-in_err-below-clause-done g c = λ r. absurd (c.if-root-id.false (c.root.ensures ∙ ap (λ (x : Row). x.root) c.node.ensures ∙ r))

pub returns-in_err-kept-clause-done : goal.returns-in_err-kept-clause-done
returns-in_err-kept-clause-done g c = λ r. absurd (c.if-root-id.false (c.root.ensures ∙ ap (λ (x : Row). x.root) c.node.ensures ∙ r))

pub returns-in_err-refresh-clause-err : goal.returns-in_err-refresh-clause-err
returns-in_err-refresh-clause-err g c = on_err c.from_residual.result (c.refresh.ensures.kept.world ∙ c.settle.ensures.settled.ready.world)

pub returns-in_err-below-clause-err : goal.returns-in_err-below-clause-err
returns-in_err-below-clause-err g c = on_err c.from_residual-in_err-below.result (c.refresh.ensures.kept.world ∙ c.settle.ensures.settled.ready.world)

pub returns-in_err-kept-clause-err : goal.returns-in_err-kept-clause-err
returns-in_err-kept-clause-err g c = on_err c.from_residual-in_err-kept.result (c.refresh.ensures.kept.world ∙ c.settle.ensures.settled.ready.world)

pub returns-clause-listed : goal.returns-clause-listed
returns-clause-listed g c = c.in_ok-kept.ensures.listed ∙ listed_alike c.args.table.now c.refresh.new.table c.args.holds.now c.args.loose.now.items _ (c.refresh.ensures.kept.alike.shape_is ∙ c.settle.ensures.settled.ready.alike.shape_is)
    ∙ ap (listed_with c.args.table.now c.args.holds.now c.args.loose.now.items) (c.refresh.ensures.kept.alike.parent_is c.args.id ∙ c.settle.ensures.settled.ready.alike.parent_is c.args.id)

pub returns-then-root-id-clause-listed : goal.returns-then-root-id-clause-listed
returns-then-root-id-clause-listed g c = none_listed c.row_laws.ensures c.args.table.now c.args.holds.now c.args.loose.now.items c.args.id c.requires.order.still c.requires.live (ap (λ (r : Row). r.root) (sym c.node.ensures) ∙ sym c.root.ensures ∙ c.if-root-id.true)

pub returns-then-root-id-clause-outdated : goal.returns-then-root-id-clause-outdated
returns-then-root-id-clause-outdated g c = λ n. absurd (n (ap (λ (r : Row). r.root) (sym c.node.ensures) ∙ sym c.root.ensures ∙ c.if-root-id.true))
