use Rattle.std.proofs.Common.{◌==◌, length, replicate, ap, ◌∙◌}
use Rattle.pdl_broadcast.proofs.WalkLemmas.{sound_new, walk_new}
use Rattle.pdl_broadcast.proofs.walk.BroadcastWalk.new.Goals as goal

pub invariant_of-result : goal.invariant_of-result
invariant_of-result c = sound_new _ c.args.dims.now (record {
  dims_are = c.copy_dims.ensures;
  limits = c.dims_list.ensures.limits;
  no_triples = c.in_ok-with_capacity.ensures.items;
  no_cursors = c.in_ok-with_capacity-2.ensures.items;
  zeros = c.in_ok-vec.ensures.items_if_clones_equal (λ y e. e) ∙ ap (λ n. replicate n 0) (ap length c.dims_list.ensures.list);
  ending = ap (λ n. n == 0) c.elements_of.ensures.count;
  triples_room = c.in_ok-with_capacity.ensures.capacity;
  cursors_room = c.in_ok-with_capacity-2.ensures.capacity;
})

pub returns : goal.returns
returns c = walk_new (record { dims = c.copy_dims.result; triples = c.in_ok-with_capacity.field-0; cursors = c.in_ok-with_capacity-2.field-0; coordinates = c.in_ok-vec.field-0; is_at_end = c.elements_of.result == 0 }) c.args.dims.now (record {
  dims_are = c.copy_dims.ensures;
  limits = c.dims_list.ensures.limits;
  no_triples = c.in_ok-with_capacity.ensures.items;
  no_cursors = c.in_ok-with_capacity-2.ensures.items;
  zeros = c.in_ok-vec.ensures.items_if_clones_equal (λ y e. e) ∙ ap (λ n. replicate n 0) (ap length c.dims_list.ensures.list);
  ending = ap (λ n. n == 0) c.elements_of.ensures.count;
  triples_room = c.in_ok-with_capacity.ensures.capacity;
  cursors_room = c.in_ok-with_capacity-2.ensures.capacity;
})
