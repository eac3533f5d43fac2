use Rattle.std.proofs.Common.{map, refl, ap, ◌∙◌, arith}
use Rattle.std.proofs.lemmas.List.{with_items_is}
use Rattle.std.specs.Vec.{with_items}
use Rattle.pdl_broadcast.specs.Cursor.{jumped}
use Rattle.pdl_broadcast.specs.declared.walk.BroadcastWalk.TheInside.{Inside}
use Rattle.pdl_broadcast.proofs.WalkLemmas.{Stepped, Went, going_on, jump_all, sound_jump, step_next, step_rolled, walk_end, walk_jump}
use Rattle.pdl_broadcast.proofs.walk.BroadcastWalk.next.Goals as goal
use Rattle.pdl_broadcast.proofs.walk.BroadcastWalk.next.Goals.{After-self-then-dimension-len-1}

pub jump-requires-clause-inside : goal.jump-requires-clause-inside
jump-requires-clause-inside c =
    let e = going_on c.self.inside _ c.self.view_is c.requires in
    let rolled = step_rolled c.self.inside _ _ _ _ (record { sizes_are = c.dims_list.ensures.list; coordinates_are = c.deref_mut.ensures.value; next_is = c.step-dimension.ensures.moved; rolled_is = c.step-dimension.ensures.rolled }) in
    jump_all c.shape_laws.ensures.cuts c.self.inside _ _ c.self.invariant e rolled (omega (arith, c.if-dimension-len.true, c.len.ensures, c.self.inside.coordinates.ok, c.self.invariant.count)) c.deref_mut-then-dimension-len.ensures.value

-- the fields after a jump
after : After-self-then-dimension-len-1 → Inside
after c = record {
  dims = c.self.inside.dims;
  triples = c.self.inside.triples;
  cursors = with_items c.self.inside.cursors c.jump.new.cursors;
  coordinates = with_items c.self.inside.coordinates c.step-dimension.new.coordinates;
  is_at_end = c.self.inside.is_at_end;
}

went : (c : After-self-then-dimension-len-1) → Went (after c) c.self.inside c.step-dimension.result
unfolding after
went c =
    let found : Stepped c.self.inside c.dims_list.result.now c.deref_mut.result.now c.step-dimension.new.coordinates c.step-dimension.result = record { sizes_are = c.dims_list.ensures.list; coordinates_are = c.deref_mut.ensures.value; next_is = c.step-dimension.ensures.moved; rolled_is = c.step-dimension.ensures.rolled } in
    record {
      dims_same = refl;
      triples_same = refl;
      ending_same = refl;
      coordinates_are = with_items_is c.self.inside.coordinates c.step-dimension.new.coordinates (c.step-dimension.auto.coordinates ∙ c.deref_mut.ensures.len) ∙ step_next c.self.inside _ _ _ _ found;
      cursors_are = with_items_is c.self.inside.cursors c.jump.new.cursors (c.jump.auto.cursors ∙ c.deref_mut-then-dimension-len.ensures.len) ∙ c.jump.ensures ∙ ap (map (jumped c.step-dimension.result)) c.deref_mut-then-dimension-len.ensures.value;
      rolled = step_rolled c.self.inside _ _ _ _ found;
      triples_room = refl;
      cursors_room = refl;
      on = omega (arith, c.if-dimension-len.true, c.len.ensures, c.self.inside.coordinates.ok, c.self.invariant.count);
    }

pub invariant_of-self : goal.invariant_of-self
unfolding after
invariant_of-self c = sound_jump c.shape_laws.ensures.positions c.shape_laws.ensures.cuts (after c) c.self.inside c.step-dimension.result c.self.invariant (going_on c.self.inside _ c.self.view_is c.requires) (went c)

pub returns-then-dimension-len : goal.returns-then-dimension-len
unfolding after
returns-then-dimension-len c = walk_jump (after c) c.self.inside _ c.step-dimension.result c.self.view_is c.self.invariant (going_on c.self.inside _ c.self.view_is c.requires) (went c)

pub returns-else-dimension-len : goal.returns-else-dimension-len
returns-else-dimension-len c =
    let e = going_on c.self.inside _ c.self.view_is c.requires in
    let rolled = step_rolled c.self.inside _ _ _ _ (record { sizes_are = c.dims_list.ensures.list; coordinates_are = c.deref_mut.ensures.value; next_is = c.step-dimension.ensures.moved; rolled_is = c.step-dimension.ensures.rolled }) in
    walk_end c.self.inside _ c.self.view_is c.self.invariant e (omega (arith, rolled, c.if-dimension-len.false, c.len.ensures, c.self.inside.coordinates.ok, c.self.invariant.count))
