use Rattle.std.proofs.Common.{get_or, sym, ◌∙◌, subst, arith}
use Rattle.std.specs.List.Sorted.{IsStrictlyIncreasing}
use Rattle.std.proofs.lemmas.Option.{slice_get-get_or}
use Rattle.pdl_scope.proofs.DumpingArrays.{has_trans, live_at, wrote_root, wrote_view}
use Rattle.pdl_scope.proofs.DumpingCosts.{root_read}
use Rattle.pdl_scope.proofs.DumpingNumbers.{Laws, laws_of}
use Rattle.pdl_scope.proofs.DumpingPlaces.{numbers_increase}
use Rattle.pdl_scope.proofs.dumping.write_array.Goals as goal

pub parent-requires : goal.parent-requires
parent-requires g c =
    let grown = c.write_arrays_laws.ensures in
    let laws : Laws = laws_of grown.below grown.older grown.older_elements grown.live grown.root_seen in
    live_at laws c.args.engine.now.world c.args.ids.now c.args.at (get_or c.args.ids.now c.args.at 0) c.requires.sound c.requires.ids (slice_get-get_or c.args.ids.now c.args.at 0 c.requires.here)

pub write_view-requires-clause-live : goal.write_view-requires-clause-live
write_view-requires-clause-live g c =
    let grown = c.write_arrays_laws.ensures in
    let laws : Laws = laws_of grown.below grown.older grown.older_elements grown.live grown.root_seen in
    live_at laws c.args.engine.now.world c.args.ids.now c.args.at (get_or c.args.ids.now c.args.at 0) c.requires.sound c.requires.ids (slice_get-get_or c.args.ids.now c.args.at 0 c.requires.here)

pub write_view-requires-clause-view : goal.write_view-requires-clause-view
write_view-requires-clause-view g c =
    let grown = c.write_arrays_laws.ensures in
    let laws : Laws = laws_of grown.below grown.older grown.older_elements grown.live grown.root_seen in
    has_trans laws c.args.engine.now.world c.args.ids.now c.args.at (get_or c.args.ids.now c.args.at 0) c.in-Some.parent c.requires.sound c.requires.ids
    (slice_get-get_or c.args.ids.now c.args.at 0 c.requires.here) (sym c.in-Some.is ∙ c.parent.ensures)

pub write_root-requires : goal.write_root-requires
write_root-requires g c =
    let grown = c.write_arrays_laws.ensures in
    let laws : Laws = laws_of grown.below grown.older grown.older_elements grown.live grown.root_seen in
    live_at laws c.args.engine.now.world c.args.ids.now c.args.at (get_or c.args.ids.now c.args.at 0) c.requires.sound c.requires.ids (slice_get-get_or c.args.ids.now c.args.at 0 c.requires.here)

pub returns-in-Some-clause-lines : goal.returns-in-Some-clause-lines
returns-in-Some-clause-lines g c =
    let grown = c.write_arrays_laws.ensures in
    let laws : Laws = laws_of grown.below grown.older grown.older_elements grown.live grown.root_seen in
    wrote_view laws c.args.engine.now.world c.args.ids.now c.args.at (get_or c.args.ids.now c.args.at 0) c.in-Some.parent c.place_of.result c.args.image.now c.write_view.new.image c.write_view.result
    c.requires.sound c.requires.ids (slice_get-get_or c.args.ids.now c.args.at 0 c.requires.here) (sym c.in-Some.is ∙ c.parent.ensures) c.place_of.ensures c.write_view.ensures

pub returns-in-None-clause-lines : goal.returns-in-None-clause-lines
returns-in-None-clause-lines g c =
    let grown = c.write_arrays_laws.ensures in
    let laws : Laws = laws_of grown.below grown.older grown.older_elements grown.live grown.root_seen in
    wrote_root laws c.args.engine.now.world c.args.ids.now c.args.at (get_or c.args.ids.now c.args.at 0) c.args.image.now c.write_root.new.image c.write_root.result
    c.requires.sound c.requires.ids (slice_get-get_or c.args.ids.now c.args.at 0 c.requires.here) (sym c.in-None.is ∙ c.parent.ensures) c.write_root.ensures.lines

pub place_of-requires : goal.place_of-requires
place_of-requires g c = subst IsStrictlyIncreasing (sym c.requires.ids) (numbers_increase c.args.engine.now.world c.requires.sound)

pub returns-in-Some-clause-costs : goal.returns-in-Some-clause-costs
returns-in-Some-clause-costs g c = λ v live. omega arith

pub returns-in-None-clause-counted : goal.returns-in-None-clause-counted
returns-in-None-clause-counted g c =
    let grown = c.write_arrays_laws.ensures in
    let laws : Laws = laws_of grown.below grown.older grown.older_elements grown.live grown.root_seen in
    let read = root_read laws c.args.engine.now c.args.ids.now c.args.at (get_or c.args.ids.now c.args.at 0) c.requires.sound c.requires.ids (slice_get-get_or c.args.ids.now c.args.at 0 c.requires.here) (sym c.in-None.is ∙ c.parent.ensures) in
    let counted = c.write_root.ensures.counted in
    omega (arith, read, counted)
