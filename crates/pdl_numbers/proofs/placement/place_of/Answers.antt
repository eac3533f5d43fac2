-- The walk's place is the one that the triple shows.
use Rattle.std.proofs.Common.{◌≡◌, ℕ, pos, ℤ, ◌+ℤ◌, List, arith, sym, subst, ap, ap₂, ◌∙◌, to_z, of_z, Fits}
use Rattle.std.proofs.lemmas.Int.{to_z-of_z}
use Rattle.std.specs.Int.{w32, w64}
use Rattle.std.specs.Int.RustNames.{unsigned_abs}
use Rattle.std.specs.Int.Signed.{non_neg}
use Rattle.std.specs.Prelude.{T}
use Rattle.pdl_shape.specs.Shape.{coordinates_of}
use Rattle.pdl_shape.specs.Triple.{Triple, IsTriple, moved, place_of}
use Rattle.pdl_numbers.specs.Shown.{place_at}
use Rattle.pdl_numbers.proofs.ShownWalks.{Shows, shows_at}
use Rattle.pdl_numbers.proofs.placement.place_of.Goals as goal

shows : (c : goal.After-place_of_position-place) → Shows c.args.triple.now c.args.position
shows c = shows_at c.shape_laws.ensures.positions c.args.triple.now c.args.position (subst (λ (t : Triple). IsTriple t) c.triple.view_is c.triple.invariant) c.requires

word : (c : goal.After-place_of_position-place) → to_z w64 (of_z w64 c.place_of_position-place.result) ≡ pos (place_at c.args.triple.now c.args.position)
word c =
    to_z-of_z w64 c.place_of_position-place.result (record { sfits = c.place_of_position-place.type_inv })
    ∙ c.place_of_position-place.ensures
    ∙ ap₂ (λ (is : List ℤ) (ds : List ℕ). pos c.triple.inside.offset +ℤ moved is (coordinates_of ds c.args.position)) c.incs_list-incs.ensures.list c.dims_list-sizes.ensures.list
    ∙ ap (λ (t : Triple). place_of t (coordinates_of t.dims c.args.position)) c.triple.view_is
    ∙ (shows c).is

pub overflow_cast-result : goal.overflow_cast-result
overflow_cast-result c = subst (λ (z : ℤ). T (non_neg z) × Fits w32 (unsigned_abs z)) (sym (word c)) (tt, record { fits = omega (arith, (shows c).small) })
