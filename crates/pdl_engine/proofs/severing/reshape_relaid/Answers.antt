use Rattle.std.proofs.Common.{◌≡◌, ◌+◌, ◌≤◌, ◌∙◌, ap, sym, subst, arith, ℕ, Option}
use Rattle.pdl_engine.specs.Loose.{listed_with}
use Rattle.pdl_lemmas.specs.Results.{on_err}
use Rattle.pdl_shape.specs.Shape.{size_of}
use Rattle.pdl_numbers.specs.Typed.{TypedElements}
use Rattle.pdl_world.specs.Cut.{fitted}
use Rattle.pdl_world.specs.World.{elements}
use Rattle.pdl_pull.specs.Outdated.{outdated}
use Rattle.pdl_nodes.specs.Outcomes.{waiting_of, waiting_size}
use Rattle.pdl_nodes.specs.Below.{AreBelow}
use Rattle.pdl_nodes.specs.Renewed.{CanRenew}
use Rattle.pdl_nodes.specs.Worlds.{world_of}
use Rattle.pdl_engine.proofs.SeveredReadied.{ready_then, IsFreshly, others_on, settled_on, only_ready, freshly, ready_steps, ready_fresh}
use Rattle.pdl_engine.proofs.SeveredRenews.{RenewFacts, can_reshape, was_renewed, reshaped_world, renewed_bases, renewed_fresh, renewed_settled, reshape_steps}
use Rattle.pdl_engine.proofs.LooseTight.{listed_alike}
use Rattle.pdl_engine.proofs.severing.reshape_relaid.Goals as goal

pub returns-in_err-refresh-clause-reshaped : goal.returns-in_err-refresh-clause-reshaped
returns-in_err-refresh-clause-reshaped g c = only_ready c.row_laws.ensures c.args.table.now c.refresh.new.table c.args.id c.requires.order c.requires.sized (ready_then c.row_laws.ensures c.args.table.now c.settle.new.table c.refresh.new.table c.settle.ensures.settled.ready c.refresh.ensures.kept)
    (others_on c.args.table.now c.settle.new.table c.refresh.new.table c.args.id c.settle.ensures.settled c.refresh.ensures.kept)

pub returns-in_err-below-clause-reshaped : goal.returns-in_err-below-clause-reshaped
returns-in_err-below-clause-reshaped g c = only_ready c.row_laws.ensures c.args.table.now c.refresh.new.table c.args.id c.requires.order c.requires.sized (ready_then c.row_laws.ensures c.args.table.now c.settle.new.table c.refresh.new.table c.settle.ensures.settled.ready c.refresh.ensures.kept)
    (others_on c.args.table.now c.settle.new.table c.refresh.new.table c.args.id c.settle.ensures.settled c.refresh.ensures.kept)

pub returns-in_err-refresh-clause-stay : goal.returns-in_err-refresh-clause-stay
returns-in_err-refresh-clause-stay g c = on_err c.from_residual.result (ready_fresh c.args.table.now c.refresh.new.table (ready_then c.row_laws.ensures c.args.table.now c.settle.new.table c.refresh.new.table c.settle.ensures.settled.ready c.refresh.ensures.kept))

pub returns-in_err-below-clause-stay : goal.returns-in_err-below-clause-stay
returns-in_err-below-clause-stay g c = on_err c.from_residual-in_err-below.result (ready_fresh c.args.table.now c.refresh.new.table (ready_then c.row_laws.ensures c.args.table.now c.settle.new.table c.refresh.new.table c.settle.ensures.settled.ready c.refresh.ensures.kept))

pub returns-in_err-refresh-clause-counted : goal.returns-in_err-refresh-clause-counted
returns-in_err-refresh-clause-counted g c =
    let l : c.refresh.new.steps ≤ c.args.steps.now + (outdated c.args.table.now c.args.id + waiting_size c.args.table.now (waiting_of c.args.table.now c.args.id)) =
    ready_steps c.row_laws.ensures c.args.table.now c.settle.new.table c.args.id c.settle.new.steps c.refresh.new.steps c.args.steps.now c.settle.ensures.settled c.settle.ensures.counted c.refresh.ensures.counted in
    omega (arith, l)

pub returns-in_err-below-clause-counted : goal.returns-in_err-below-clause-counted
returns-in_err-below-clause-counted g c =
    let l : c.refresh.new.steps ≤ c.args.steps.now + (outdated c.args.table.now c.args.id + waiting_size c.args.table.now (waiting_of c.args.table.now c.args.id)) =
    ready_steps c.row_laws.ensures c.args.table.now c.settle.new.table c.args.id c.settle.new.steps c.refresh.new.steps c.args.steps.now c.settle.ensures.settled c.settle.ensures.counted c.refresh.ensures.counted in
    omega (arith, l)

pub copied_and_listed-requires-clause-fresh : goal.copied_and_listed-requires-clause-fresh
copied_and_listed-requires-clause-fresh g c = c.row_laws.ensures.seen.path_first c.refresh.new.table c.args.id c.refresh.ensures.kept.order.still (c.refresh.ensures.kept.alike.has_is c.args.id ∙ c.settle.ensures.settled.ready.alike.has_is c.args.id ∙ c.requires.live) c.in_ok-refresh.ensures.fresh

pub below-requires : goal.below-requires
below-requires g c = c.refresh.ensures.kept.order.still

pub renew-requires-clause-below : goal.renew-requires-clause-below
renew-requires-clause-below g c = subst (AreBelow c.refresh.new.table c.args.id) (sym c.deref.ensures.value) c.in_ok-below.ensures

pub returns-in_err-kept-clause-reshaped : goal.returns-in_err-kept-clause-reshaped
returns-in_err-kept-clause-reshaped g c = only_ready c.row_laws.ensures c.args.table.now c.refresh.new.table c.args.id c.requires.order c.requires.sized (ready_then c.row_laws.ensures c.args.table.now c.settle.new.table c.refresh.new.table c.settle.ensures.settled.ready c.refresh.ensures.kept)
    (others_on c.args.table.now c.settle.new.table c.refresh.new.table c.args.id c.settle.ensures.settled c.refresh.ensures.kept)

pub returns-in_err-kept-clause-stay : goal.returns-in_err-kept-clause-stay
returns-in_err-kept-clause-stay g c = on_err c.from_residual-in_err-kept.result (ready_fresh c.args.table.now c.refresh.new.table (ready_then c.row_laws.ensures c.args.table.now c.settle.new.table c.refresh.new.table c.settle.ensures.settled.ready c.refresh.ensures.kept))

pub returns-in_err-kept-clause-counted : goal.returns-in_err-kept-clause-counted
returns-in_err-kept-clause-counted g c =
    let k : c.elements_of-count.result ≡ size_of c.args.dims.now = c.elements_of-count.ensures.count in
    subst (λ n. c.copied_and_listed.new.steps ≤ c.args.steps.now + (outdated c.args.table.now c.args.id + waiting_size c.args.table.now (waiting_of c.args.table.now c.args.id) + n)) k
    (reshape_steps c.args.table.now c.args.id c.refresh.new.steps c.copied_and_listed.new.steps c.args.steps.now c.elements_of-count.result (ready_steps c.row_laws.ensures c.args.table.now c.settle.new.table c.args.id c.settle.new.steps c.refresh.new.steps c.args.steps.now c.settle.ensures.settled c.settle.ensures.counted c.refresh.ensures.counted) c.copied_and_listed.ensures.counted)

pub returns-clause-reshaped : goal.returns-clause-reshaped
returns-clause-reshaped g c =
    let laws : RenewFacts = record {
      roots = c.renewed_row_laws.ensures.roots;
      reshapes = c.renewed_row_laws.ensures.reshapes;
      severs = c.renewed_row_laws.ensures.severs;
      relaid = c.renewed_row_laws.ensures.relaid;
      stay = c.renewed_row_laws.ensures.stay;
      outdated = c.renewed_row_laws.ensures.outdated;
      others = c.renewed_row_laws.ensures.others;
      families = c.renewed_row_laws.ensures.families;
      settled = c.renewed_row_laws.ensures.settled;
      known = c.renewed_row_laws.ensures.known;
      sized = c.renewed_row_laws.ensures.sized;
      numbers = c.renewed_row_laws.ensures.numbers;
      makes = c.renewed_row_laws.ensures.makes;
    } in
    let f : IsFreshly c.args.table.now c.refresh.new.table c.args.id = freshly c.row_laws.ensures c.args.table.now c.settle.new.table c.refresh.new.table c.args.id c.requires.order c.requires.sized c.requires.live c.settle.ensures.settled c.refresh.ensures.kept
    (c.row_laws.ensures.seen.path_first c.refresh.new.table c.args.id c.refresh.ensures.kept.order.still (c.refresh.ensures.kept.alike.has_is c.args.id ∙ c.settle.ensures.settled.ready.alike.has_is c.args.id ∙ c.requires.live) c.in_ok-refresh.ensures.fresh) in
    let es : c.in_ok-kept.kept.elems ≡ fitted (size_of c.args.dims.now) (elements (world_of c.refresh.new.table) c.args.id) =
    ap (λ (k : TypedElements). k.elems) c.in_ok-kept.ensures.value ∙ ap (λ n. fitted n (elements (world_of c.refresh.new.table) c.args.id)) c.elements_of-count.ensures.count in
    let can : CanRenew c.args.layouts c.refresh.new.table c.args.id c.args.dims.now c.in_ok-kept.kept.elems = can_reshape laws c.args.layouts c.args.table.now c.refresh.new.table c.args.id c.args.dims.now c.in_ok-kept.kept.elems f c.requires.relaid c.dims_list-limits.ensures.limits es in
    was_renewed c.row_laws.ensures laws c.args.layouts c.args.table.now c.refresh.new.table c.renew.new.self c.args.id c.args.dims.now c.in_ok-kept.kept.elems c.requires.order c.requires.sized f can c.renew.ensures

pub returns-clause-ok : goal.returns-clause-ok
returns-clause-ok g c =
    let laws : RenewFacts = record {
      roots = c.renewed_row_laws.ensures.roots;
      reshapes = c.renewed_row_laws.ensures.reshapes;
      severs = c.renewed_row_laws.ensures.severs;
      relaid = c.renewed_row_laws.ensures.relaid;
      stay = c.renewed_row_laws.ensures.stay;
      outdated = c.renewed_row_laws.ensures.outdated;
      others = c.renewed_row_laws.ensures.others;
      families = c.renewed_row_laws.ensures.families;
      settled = c.renewed_row_laws.ensures.settled;
      known = c.renewed_row_laws.ensures.known;
      sized = c.renewed_row_laws.ensures.sized;
      numbers = c.renewed_row_laws.ensures.numbers;
      makes = c.renewed_row_laws.ensures.makes;
    } in
    let f : IsFreshly c.args.table.now c.refresh.new.table c.args.id = freshly c.row_laws.ensures c.args.table.now c.settle.new.table c.refresh.new.table c.args.id c.requires.order c.requires.sized c.requires.live c.settle.ensures.settled c.refresh.ensures.kept
    (c.row_laws.ensures.seen.path_first c.refresh.new.table c.args.id c.refresh.ensures.kept.order.still (c.refresh.ensures.kept.alike.has_is c.args.id ∙ c.settle.ensures.settled.ready.alike.has_is c.args.id ∙ c.requires.live) c.in_ok-refresh.ensures.fresh) in
    let es : c.in_ok-kept.kept.elems ≡ fitted (size_of c.args.dims.now) (elements (world_of c.refresh.new.table) c.args.id) =
    ap (λ (k : TypedElements). k.elems) c.in_ok-kept.ensures.value ∙ ap (λ n. fitted n (elements (world_of c.refresh.new.table) c.args.id)) c.elements_of-count.ensures.count in
    let can : CanRenew c.args.layouts c.refresh.new.table c.args.id c.args.dims.now c.in_ok-kept.kept.elems = can_reshape laws c.args.layouts c.args.table.now c.refresh.new.table c.args.id c.args.dims.now c.in_ok-kept.kept.elems f c.requires.relaid c.dims_list-limits.ensures.limits es in
    reshaped_world laws c.args.layouts c.args.table.now c.refresh.new.table c.renew.new.self c.args.id c.args.dims.now c.in_ok-kept.kept.elems f can es c.renew.ensures

pub returns-clause-fresh : goal.returns-clause-fresh
returns-clause-fresh g c =
    let f : IsFreshly c.args.table.now c.refresh.new.table c.args.id = freshly c.row_laws.ensures c.args.table.now c.settle.new.table c.refresh.new.table c.args.id c.requires.order c.requires.sized c.requires.live c.settle.ensures.settled c.refresh.ensures.kept
    (c.row_laws.ensures.seen.path_first c.refresh.new.table c.args.id c.refresh.ensures.kept.order.still (c.refresh.ensures.kept.alike.has_is c.args.id ∙ c.settle.ensures.settled.ready.alike.has_is c.args.id ∙ c.requires.live) c.in_ok-refresh.ensures.fresh) in
    renewed_fresh c.renewed_row_laws.ensures.makes c.args.layouts c.args.table.now c.refresh.new.table c.renew.new.self c.args.id c.args.dims.now c.in_ok-kept.kept.elems f c.renew.ensures

pub returns-clause-counted : goal.returns-clause-counted
returns-clause-counted g c =
    let k : c.elements_of-count.result ≡ size_of c.args.dims.now = c.elements_of-count.ensures.count in
    subst (λ n. c.copied_and_listed.new.steps ≤ c.args.steps.now + (outdated c.args.table.now c.args.id + waiting_size c.args.table.now (waiting_of c.args.table.now c.args.id) + n)) k
    (reshape_steps c.args.table.now c.args.id c.refresh.new.steps c.copied_and_listed.new.steps c.args.steps.now c.elements_of-count.result (ready_steps c.row_laws.ensures c.args.table.now c.settle.new.table c.args.id c.settle.new.steps c.refresh.new.steps c.args.steps.now c.settle.ensures.settled c.settle.ensures.counted c.refresh.ensures.counted) c.copied_and_listed.ensures.counted)

pub returns-in_err-refresh-clause-settled : goal.returns-in_err-refresh-clause-settled
returns-in_err-refresh-clause-settled g c = settled_on c.args.table.now c.settle.new.table c.refresh.new.table c.args.id c.settle.ensures.settled c.refresh.ensures.kept

pub returns-in_err-below-clause-settled : goal.returns-in_err-below-clause-settled
returns-in_err-below-clause-settled g c = settled_on c.args.table.now c.settle.new.table c.refresh.new.table c.args.id c.settle.ensures.settled c.refresh.ensures.kept

pub returns-in_err-kept-clause-settled : goal.returns-in_err-kept-clause-settled
returns-in_err-kept-clause-settled g c = settled_on c.args.table.now c.settle.new.table c.refresh.new.table c.args.id c.settle.ensures.settled c.refresh.ensures.kept

pub returns-clause-settled : goal.returns-clause-settled
returns-clause-settled g c =
    let laws : RenewFacts = record {
      roots = c.renewed_row_laws.ensures.roots;
      reshapes = c.renewed_row_laws.ensures.reshapes;
      severs = c.renewed_row_laws.ensures.severs;
      relaid = c.renewed_row_laws.ensures.relaid;
      stay = c.renewed_row_laws.ensures.stay;
      outdated = c.renewed_row_laws.ensures.outdated;
      others = c.renewed_row_laws.ensures.others;
      families = c.renewed_row_laws.ensures.families;
      settled = c.renewed_row_laws.ensures.settled;
      known = c.renewed_row_laws.ensures.known;
      sized = c.renewed_row_laws.ensures.sized;
      numbers = c.renewed_row_laws.ensures.numbers;
      makes = c.renewed_row_laws.ensures.makes;
    } in
    let f : IsFreshly c.args.table.now c.refresh.new.table c.args.id = freshly c.row_laws.ensures c.args.table.now c.settle.new.table c.refresh.new.table c.args.id c.requires.order c.requires.sized c.requires.live c.settle.ensures.settled c.refresh.ensures.kept
    (c.row_laws.ensures.seen.path_first c.refresh.new.table c.args.id c.refresh.ensures.kept.order.still (c.refresh.ensures.kept.alike.has_is c.args.id ∙ c.settle.ensures.settled.ready.alike.has_is c.args.id ∙ c.requires.live) c.in_ok-refresh.ensures.fresh) in
    let es : c.in_ok-kept.kept.elems ≡ fitted (size_of c.args.dims.now) (elements (world_of c.refresh.new.table) c.args.id) =
    ap (λ (k : TypedElements). k.elems) c.in_ok-kept.ensures.value ∙ ap (λ n. fitted n (elements (world_of c.refresh.new.table) c.args.id)) c.elements_of-count.ensures.count in
    let can : CanRenew c.args.layouts c.refresh.new.table c.args.id c.args.dims.now c.in_ok-kept.kept.elems = can_reshape laws c.args.layouts c.args.table.now c.refresh.new.table c.args.id c.args.dims.now c.in_ok-kept.kept.elems f c.requires.relaid c.dims_list-limits.ensures.limits es in
    renewed_settled laws c.args.layouts c.args.table.now c.refresh.new.table c.renew.new.self c.args.id c.args.dims.now c.in_ok-kept.kept.elems f can c.renew.ensures

pub returns-clause-outdated : goal.returns-clause-outdated
returns-clause-outdated g c =
    let laws : RenewFacts = record {
      roots = c.renewed_row_laws.ensures.roots;
      reshapes = c.renewed_row_laws.ensures.reshapes;
      severs = c.renewed_row_laws.ensures.severs;
      relaid = c.renewed_row_laws.ensures.relaid;
      stay = c.renewed_row_laws.ensures.stay;
      outdated = c.renewed_row_laws.ensures.outdated;
      others = c.renewed_row_laws.ensures.others;
      families = c.renewed_row_laws.ensures.families;
      settled = c.renewed_row_laws.ensures.settled;
      known = c.renewed_row_laws.ensures.known;
      sized = c.renewed_row_laws.ensures.sized;
      numbers = c.renewed_row_laws.ensures.numbers;
      makes = c.renewed_row_laws.ensures.makes;
    } in
    let f : IsFreshly c.args.table.now c.refresh.new.table c.args.id = freshly c.row_laws.ensures c.args.table.now c.settle.new.table c.refresh.new.table c.args.id c.requires.order c.requires.sized c.requires.live c.settle.ensures.settled c.refresh.ensures.kept
    (c.row_laws.ensures.seen.path_first c.refresh.new.table c.args.id c.refresh.ensures.kept.order.still (c.refresh.ensures.kept.alike.has_is c.args.id ∙ c.settle.ensures.settled.ready.alike.has_is c.args.id ∙ c.requires.live) c.in_ok-refresh.ensures.fresh) in
    let es : c.in_ok-kept.kept.elems ≡ fitted (size_of c.args.dims.now) (elements (world_of c.refresh.new.table) c.args.id) =
    ap (λ (k : TypedElements). k.elems) c.in_ok-kept.ensures.value ∙ ap (λ n. fitted n (elements (world_of c.refresh.new.table) c.args.id)) c.elements_of-count.ensures.count in
    let can : CanRenew c.args.layouts c.refresh.new.table c.args.id c.args.dims.now c.in_ok-kept.kept.elems = can_reshape laws c.args.layouts c.args.table.now c.refresh.new.table c.args.id c.args.dims.now c.in_ok-kept.kept.elems f c.requires.relaid c.dims_list-limits.ensures.limits es in
    renewed_bases laws c.args.layouts c.refresh.new.table c.renew.new.self c.args.id c.args.dims.now c.in_ok-kept.kept.elems can c.renew.ensures

pub renew-requires-clause-can : goal.renew-requires-clause-can
renew-requires-clause-can g c =
    let laws : RenewFacts = record {
      roots = c.renewed_row_laws.ensures.roots;
      reshapes = c.renewed_row_laws.ensures.reshapes;
      severs = c.renewed_row_laws.ensures.severs;
      relaid = c.renewed_row_laws.ensures.relaid;
      stay = c.renewed_row_laws.ensures.stay;
      outdated = c.renewed_row_laws.ensures.outdated;
      others = c.renewed_row_laws.ensures.others;
      families = c.renewed_row_laws.ensures.families;
      settled = c.renewed_row_laws.ensures.settled;
      known = c.renewed_row_laws.ensures.known;
      sized = c.renewed_row_laws.ensures.sized;
      numbers = c.renewed_row_laws.ensures.numbers;
      makes = c.renewed_row_laws.ensures.makes;
    } in
    let f : IsFreshly c.args.table.now c.refresh.new.table c.args.id = freshly c.row_laws.ensures c.args.table.now c.settle.new.table c.refresh.new.table c.args.id c.requires.order c.requires.sized c.requires.live c.settle.ensures.settled c.refresh.ensures.kept
    (c.row_laws.ensures.seen.path_first c.refresh.new.table c.args.id c.refresh.ensures.kept.order.still (c.refresh.ensures.kept.alike.has_is c.args.id ∙ c.settle.ensures.settled.ready.alike.has_is c.args.id ∙ c.requires.live) c.in_ok-refresh.ensures.fresh) in
    let es : c.in_ok-kept.kept.elems ≡ fitted (size_of c.args.dims.now) (elements (world_of c.refresh.new.table) c.args.id) =
    ap (λ (k : TypedElements). k.elems) c.in_ok-kept.ensures.value ∙ ap (λ n. fitted n (elements (world_of c.refresh.new.table) c.args.id)) c.elements_of-count.ensures.count in
    let can : CanRenew c.args.layouts c.refresh.new.table c.args.id c.args.dims.now c.in_ok-kept.kept.elems = can_reshape laws c.args.layouts c.args.table.now c.refresh.new.table c.args.id c.args.dims.now c.in_ok-kept.kept.elems f c.requires.relaid c.dims_list-limits.ensures.limits es in
    can

pub renew-requires-clause-same_type : goal.renew-requires-clause-same_type
renew-requires-clause-same_type g c = ap (λ (k : TypedElements). k.ty) c.in_ok-kept.ensures.value

pub refresh-requires-clause-live : goal.refresh-requires-clause-live
refresh-requires-clause-live g c = c.settle.ensures.settled.ready.alike.has_is c.args.id ∙ c.requires.live

pub copied_and_listed-requires-clause-live : goal.copied_and_listed-requires-clause-live
copied_and_listed-requires-clause-live g c = c.refresh.ensures.kept.alike.has_is c.args.id ∙ c.settle.ensures.settled.ready.alike.has_is c.args.id ∙ c.requires.live

pub copied_and_listed-requires-clause-order : goal.copied_and_listed-requires-clause-order
copied_and_listed-requires-clause-order g c = c.refresh.ensures.kept.order

pub returns-clause-listed : goal.returns-clause-listed
returns-clause-listed g c = c.in_ok-kept.ensures.listed ∙ listed_alike c.args.table.now c.refresh.new.table c.args.holds.now c.args.loose.now.items _ (c.refresh.ensures.kept.alike.shape_is ∙ c.settle.ensures.settled.ready.alike.shape_is)
    ∙ ap (listed_with c.args.table.now c.args.holds.now c.args.loose.now.items) (c.refresh.ensures.kept.alike.parent_is c.args.id ∙ c.settle.ensures.settled.ready.alike.parent_is c.args.id)
