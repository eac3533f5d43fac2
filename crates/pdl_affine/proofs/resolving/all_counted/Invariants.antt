use Rattle.std.proofs.Common.{◌≡◌, drop}
use Rattle.pdl_affine.specs.Views.{all_counted}
use Rattle.pdl_affine.specs.Courses.{places_before}
use Rattle.pdl_affine.proofs.resolving.all_counted.Given as goal

abbrev pub invariant-loop-number : goal.invariant-loop-number
invariant-loop-number l = all_counted l.numbers l.count ≡ places_before l.places.items (all_counted (drop l.number-index l.numbers) l.count)
