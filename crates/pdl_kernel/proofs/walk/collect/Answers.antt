use Rattle.std.proofs.Common.{◌≡◌, ◌<◌, ◌+◌, [], List, Err, ap, sym, ◌∙◌, subst, arith, refl}
use Rattle.std.specs.Prelude.{All, IfSome, Option}
use Rattle.pdl_broadcast.specs.Walk.{Walk, standing_at}
use Rattle.pdl_code.specs.TreeOf.{code_of}
use Rattle.pdl_shape.specs.Shape.{coordinates_of, size_of}
use Rattle.pdl_kernel.specs.Call.{PlacedFault, stores_from}
use Rattle.pdl_kernel.specs.Over.{IsCodeOver}
use Rattle.pdl_kernel.specs.Places.{IsWhole, Kind}
use Rattle.pdl_kernel.specs.Scenes.{left_in_order, rests_at, rests_of, store_of}
use Rattle.pdl_kernel.proofs.CallStores.{behind_all, behind_count, behind_fault, behind_more}
use Rattle.pdl_kernel.proofs.PlacesPut.{collected_all, kinds_at, locals_kept, none_collected, place_left, whole_all}
use Rattle.pdl_kernel.proofs.walk.collect.Goals as goal
use Rattle.pdl_kernel.proofs.walk.collect.Goals.{At-loop-place}

pub loop-place-init : goal.loop-place-init
loop-place-init c = record {
  walk = c.in_ok-walk.ensures;
  kinds = refl;
  locals = refl;
  bound = omega arith;
  behind = record { stores = []; are = refl; collected = none_collected c.args.scene.now.arguments.items };
}

pub at_place-requires-clause-over : goal.at_place-requires-clause-over
at_place-requires-clause-over c = subst (λ (ks : List Kind). IsCodeOver ks (code_of c.args.code.now)) (sym c.loop-place.invariant.kinds) c.requires.over

pub at_place-requires-clause-whole : goal.at_place-requires-clause-whole
at_place-requires-clause-whole c =
    let inv = c.loop-place.invariant in
    let bs = c.coordinates.ensures ∙ ap standing_at inv.walk in
    let lt : c.loop-place.place < size_of c.args.resolved.now.broadcast = omega (arith, c.loop-place-test.true, c.elements_of-place-end.ensures.count) in
    subst (λ xs. All IsWhole (rests_at xs c.loop-place.scene)) (sym bs)
    (whole_all c.shape_laws.ensures.positions c.args.resolved.now.broadcast inv.behind.stores c.args.scene.now.arguments.items c.loop-place.scene c.requires.laid inv.behind.collected c.loop-place.place
    (behind_count _ c.loop-place.place _ _ inv.behind) lt)

-- walks' next coordinates
abbrev moved_on : Walk → Walk
moved_on w = record w { index = w.index + 1 }

pub returns-in-Err : goal.returns-in-Err
returns-in-Err c =
    let inv = c.loop-place.invariant in
    let r = c.args.resolved.now in
    let f = left_in_order r (code_of c.args.code.now) c.args.scene.now in
    let n = size_of r.broadcast in
    let lt : c.loop-place.place < n = omega (arith, c.loop-place-test.true, c.elements_of-place-end.ensures.count) in
    let here = place_left c.shape_laws.ensures.positions r (code_of c.args.code.now) c.args.scene.now c.loop-place.scene c.loop-place.place c.coordinates.result.now c.requires.laid inv.behind inv.locals lt (c.coordinates.ensures ∙ ap standing_at inv.walk) in
    let P : Option PlacedFault → Type 0 = λ o. IfSome o (λ placed. stores_from f 0 n ≡ Err placed) in
    subst P (sym c.fault_at.ensures)
    (behind_fault f c.loop-place.place n c.args.scene.now.arguments.items c.loop-place.scene.arguments.items c.in-Err.fault lt inv.behind (sym here ∙ c.in-Err.ensures.store))

pub loop-place-preserved : goal.loop-place-preserved
loop-place-preserved c =
    let inv = c.loop-place.invariant in
    let r = c.args.resolved.now in
    let place = c.loop-place.place in
    let code = code_of c.args.code.now in
    let laws = c.shape_laws.ensures.positions in
    let lt : place < size_of r.broadcast = omega (arith, c.loop-place-test.true, c.elements_of-place-end.ensures.count) in
    let bs = c.coordinates.ensures ∙ ap standing_at inv.walk in
    let here = place_left laws r code c.args.scene.now c.loop-place.scene place c.coordinates.result.now c.requires.laid inv.behind inv.locals lt bs in
    let after = c.at_place.new.scene in
    let rests : rests_of after ≡ rests_at (coordinates_of r.broadcast place) c.loop-place.scene = c.in-Ok.ensures.rests ∙ ap (λ xs. rests_at xs c.loop-place.scene) bs in
    record {
      walk = c.next.ensures ∙ ap moved_on inv.walk;
      kinds = kinds_at (coordinates_of r.broadcast place) c.loop-place.scene (rests_of after) rests ∙ inv.kinds;
      locals = locals_kept r code c.coordinates.result.now c.loop-place.scene after c.in-Ok.ensures.store ∙ inv.locals;
      bound = omega (arith, lt);
      behind = behind_more (left_in_order r code c.args.scene.now) place c.args.scene.now.arguments.items c.loop-place.scene.arguments.items after.arguments.items (store_of after) inv.behind (sym here ∙ c.in-Ok.ensures.store)
          (collected_all laws r.broadcast inv.behind.stores c.args.scene.now.arguments.items c.loop-place.scene c.requires.laid inv.behind.collected place (behind_count _ place _ _ inv.behind) lt after rests);
    }

pub returns : goal.returns
returns c =
    let inv = c.loop-place.invariant in
    let n = size_of c.args.resolved.now.broadcast in
    let all : c.loop-place.place ≡ n = omega (arith, c.loop-place-test.false, c.elements_of-place-end.ensures.count, inv.bound) in
    behind_all (left_in_order c.args.resolved.now (code_of c.args.code.now) c.args.scene.now) c.loop-place.place n c.args.scene.now.arguments.items c.loop-place.scene.arguments.items all inv.behind
