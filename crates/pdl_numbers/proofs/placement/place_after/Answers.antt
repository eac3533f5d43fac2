-- The words hold the place.
use Rattle.std.proofs.Common.{◌≡◌, ℤ, ap, sym, subst, ◌∙◌, to_z, of_z, Fits}
use Rattle.std.proofs.lemmas.Int.{to_z-of_z}
use Rattle.std.specs.Prelude.{T}
use Rattle.std.specs.Int.{w32, w64}
use Rattle.std.specs.Int.RustNames.{unsigned_abs}
use Rattle.std.specs.Int.Signed.{non_neg}
use Rattle.pdl_numbers.proofs.ReadRuns.{place_word, place_fits}
use Rattle.pdl_numbers.proofs.placement.place_after.Goals as goal

pub overflow_cast-result : goal.overflow_cast-result
overflow_cast-result c =
    let inc : to_z w32 (of_z w32 c.args.inc) ≡ c.args.inc = to_z-of_z w32 c.args.inc c.ranges.inc in
    let e = place_word c.from.result c.from-2.result c.args.inc c.args.place c.args.steps c.ranges.inc (record { sfits = c.from.type_inv }) (record { sfits = c.from-2.type_inv }) (c.from.ensures ∙ inc) c.from-2.ensures c.requires.steps c.requires.place in
    subst (λ (z : ℤ). T (non_neg z) × Fits w64 (unsigned_abs z)) (sym e) (place_fits _ c.requires.place)

pub returns : goal.returns
returns c =
    let inc : to_z w32 (of_z w32 c.args.inc) ≡ c.args.inc = to_z-of_z w32 c.args.inc c.ranges.inc in
    let e = place_word c.from.result c.from-2.result c.args.inc c.args.place c.args.steps c.ranges.inc (record { sfits = c.from.type_inv }) (record { sfits = c.from-2.type_inv }) (c.from.ensures ∙ inc) c.from-2.ensures c.requires.steps c.requires.place in
    ap unsigned_abs e
