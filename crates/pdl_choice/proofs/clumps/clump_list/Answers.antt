use Rattle.std.proofs.Common.{List, ℕ, sym, ap, ◌∙◌, ◌∷◌, take, drop, Some, length, rules, SFits, w64, to_z-of_z}
use Rattle.pdl_shape.specs.Shape.{size_of}
use Rattle.pdl_shape.specs.Places.{places_of}
use Rattle.pdl_shape.specs.Clump.{clump_count}
use Rattle.pdl_choice.specs.Clump.{clumped_source}
use Rattle.pdl_choice.proofs.IndexInside.{count_inside}
use Rattle.pdl_choice.proofs.ClumpPlaces.{clump_places}
use Rattle.pdl_choice.proofs.clumps.clump_list.Goals as goal

pub returns-clause-places : goal.returns-clause-places
returns-clause-places c =
    let fits : SFits w64 c.args.count = search rules in
    c.in_ok-places.ensures ∙ c.in_ok-list.ensures
    ∙ clump_places c.shape_laws.ensures.positions c.args.source.now c.args.count c.in-Some.joined c.elements_of.result
    (simp to_z-of_z at c.in-Some.ensures.count ∙ ap (λ (ds : List ℕ). clump_count c.args.count (length ds)) c.dims_list-parent.ensures.list) c.elements_of.ensures.count
    ∙ ap (λ (ds : List ℕ). places_of ds c.args.source.now (λ at. Some (clumped_source c.args.source.now c.args.count at)))
    (sym (c.in_ok-dims.ensures ∙ ap (λ (ds : List ℕ). size_of (take c.in-Some.joined ds) ∷ drop c.in-Some.joined ds) c.dims_list-parent.ensures.list))

pub returns-clause-inside : goal.returns-clause-inside
returns-clause-inside c = count_inside c.elements_of.result _ _ (c.in_ok-places.ensures ∙ c.in_ok-list.ensures) c.elements_of.ensures.count
