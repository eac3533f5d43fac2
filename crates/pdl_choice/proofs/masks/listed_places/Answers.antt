use Rattle.std.proofs.Common.{rules, ◌≡◌, ◌<◌, ◌∙◌, List, ℕ, sym, ap, subst, Some, get_or, arith}
use Rattle.pdl_shape.specs.Places.{places_of}
use Rattle.pdl_shape.specs.Shape.{size_of}
use Rattle.pdl_choice.specs.Where.{where_source}
use Rattle.pdl_choice.proofs.ClumpPlaces.{listed_places}
use Rattle.pdl_choice.proofs.WhereRising.{rising_few, rising_below, rising_inside}
use Rattle.pdl_choice.proofs.masks.listed_places.Goals as goal

pub returns-clause-places : goal.returns-clause-places
returns-clause-places c =
    let same : c.args.source.now ≡ c.args.dims.now = search rules in
    c.in_ok-places.ensures ∙ c.in_ok-list.ensures
    ∙ listed_places c.shape_laws.ensures.positions c.args.source.now c.args.places.now (λ k h. subst (λ n. get_or c.args.places.now k 0 < n) (ap size_of (sym same)) (rising_below 0 (size_of c.args.dims.now) c.args.places.now c.requires k h))
    ∙ ap (λ (ds : List ℕ). places_of ds c.args.source.now (λ at. Some (where_source c.args.source.now c.args.places.now at))) (sym c.line-dims.ensures)

pub returns-clause-inside : goal.returns-clause-inside
returns-clause-inside c =
    let same : c.args.source.now ≡ c.args.dims.now = search rules in
    rw (c.in_ok-places.ensures, same) (rising_inside (size_of c.args.dims.now) c.args.places.now _ c.requires c.in_ok-list.ensures)

pub overflow_cast-places : goal.overflow_cast-places
overflow_cast-places c = omega (arith, rising_few 0 (size_of c.args.dims.now) c.args.places.now (omega arith) c.requires, c.elements_of-count.ensures.count, c.elements_of-count.ensures.bound)

pub line-dims-requires : goal.line-dims-requires
line-dims-requires c = omega (arith, rising_few 0 (size_of c.args.dims.now) c.args.places.now (omega arith) c.requires, c.elements_of-count.ensures.count, c.elements_of-count.ensures.bound)
