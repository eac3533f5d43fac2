use Rattle.std.proofs.Common.{arith, List, ◌++◌, ◌∷◌, [], ap, ◌∙◌, refl}
use Rattle.pdl_broadcast.specs.declared.cursors.Cursor.{Cursor}
use Rattle.pdl_broadcast.proofs.WalkLemmas.{added_follows, argument_count, sound_add}
use Rattle.pdl_broadcast.proofs.walk.BroadcastWalk.add.Goals as goal

pub invariant_of-self-2 : goal.invariant_of-self-2
invariant_of-self-2 c = sound_add _ c.self.inside c.args.triple.now (record { place = c.triple.inside.offset; jumps = c.jumps_of-jumps.result }) c.self.invariant (record {
  dims_same = refl;
  coordinates_same = refl;
  ending_same = refl;
  triples_are = c.in_ok-push.ensures.items ∙ ap (λ t. c.self.inside.triples.items ++ t ∷ []) c.copy_triple.ensures;
  cursors_are = c.in_ok-push-2.ensures.items ∙ ap (λ (cursors : List Cursor). cursors ++ record { place = c.triple.inside.offset; jumps = c.jumps_of-jumps.result } ∷ []) c.in_ok-reserve.ensures.items;
  first = ap (λ w. w.index) c.self.view_is ∙ c.requires.start;
  at_offset = ap (λ t. t.offset) c.triple.view_is;
  follows = added_follows _ _ _ _ _ _ c.args.self.now _ c.triple.view_is c.triple.invariant (ap (λ w. w.dims) c.self.view_is) c.requires.stretched c.dims_list-2.ensures.list c.incs_list.ensures.list c.dims_list.ensures.list c.jumps_of-jumps.ensures;
  triples_room = omega (arith, c.in_ok-push.ensures.capacity, c.self.invariant.triples_room);
  cursors_room = omega (arith, c.in_ok-push-2.ensures.capacity, c.in_ok-reserve.ensures.capacity, c.self.invariant.cursors_room);
})

pub returns-in_err-reserve-clause-room : goal.returns-in_err-reserve-clause-room
returns-in_err-reserve-clause-room c = λ few.
    let known = argument_count c.self.inside _ c.self.invariant c.self.view_is in
    absurd (omega (arith, few, known, c.in_err-reserve.ensures.full, c.self.inside.cursors.ok, c.self.invariant.cursors_room))
