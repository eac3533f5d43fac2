use Rattle.std.proofs.Common.{◌+◌, ap, sym, refl, ◌∙◌, ◌∷◌, List, ℤ, Some, get_or, drop, pos, rules, w64}
use Rattle.std.specs.Prelude.{option_and_then, option_map}
use mir.Val.{SFits}
use Rattle.std.proofs.lemmas.Int.{to_z-of_z}
use Rattle.std.proofs.lemmas.List.{append-nil, at_drop_all}
use Rattle.pdl_shape.specs.Counting.{from_end}
use Rattle.pdl_affine.specs.Courses.{places_before}
use Rattle.pdl_affine.specs.Views.{all_counted}
use Rattle.pdl_affine.proofs.CoursePlaces.{number_next, number_taken}
use Rattle.pdl_affine.proofs.resolving.all_counted.Goals as goal

pub loop-number-preserved : goal.loop-number-preserved
loop-number-preserved c =
    let next = number_next (all_counted c.args.numbers.now c.args.count) c.args.numbers.now c.loop-number.places.items c.args.count c.loop-number.number-index (pos 0) c.loop-number-test.true c.loop-number.invariant in
    let fits : SFits w64 (get_or c.args.numbers.now c.loop-number.number-index (pos 0)) = search rules in
    number_taken (all_counted c.args.numbers.now c.args.count) c.loop-number.places.items c.put.new.items.items c.in-Some.place
    (from_end (get_or c.args.numbers.now c.loop-number.number-index (pos 0)) c.args.count) (all_counted (drop (c.loop-number.number-index + 1) c.args.numbers.now) c.args.count) next
    (c.in-Some.ensures.place ∙ ap (λ z. from_end z c.args.count) (to_z-of_z w64 _ fits)) c.in_ok-put-in-Some.ensures

pub returns-in-None-clause-err : goal.returns-in-None-clause-err
returns-in-None-clause-err c =
    let next = number_next (all_counted c.args.numbers.now c.args.count) c.args.numbers.now c.loop-number.places.items c.args.count c.loop-number.number-index (pos 0) c.loop-number-test.true c.loop-number.invariant in
    let fits : SFits w64 (get_or c.args.numbers.now c.loop-number.number-index (pos 0)) = search rules in
    let none = c.in-None.ensures.place ∙ ap (λ z. from_end z c.args.count) (to_z-of_z w64 _ fits) in
    (refl, next ∙ ap (λ o. places_before c.loop-number.places.items (option_and_then (λ i. option_map (λ is. i ∷ is) (all_counted (drop (c.loop-number.number-index + 1) c.args.numbers.now) c.args.count)) o)) (sym none))

pub returns-clause-ok : goal.returns-clause-ok
returns-clause-ok c =
    c.loop-number.invariant
    ∙ at_drop_all (λ (ks : List ℤ). places_before c.loop-number.places.items (all_counted ks c.args.count)) c.args.numbers.now c.loop-number.number-index c.loop-number-test.false
    ∙ ap Some (append-nil c.loop-number.places.items)
