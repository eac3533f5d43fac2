-- One place more of the run.
use Rattle.std.proofs.Common.{◌≡◌, ◌≢◌, ◌<◌, ℕ, ℤ, List, [], pos, ◌+ℤ◌, ◌*ℤ◌, length, get_or, get_or-set_same, get_or-set_other, below_more, arith, ap, ◌∙◌, to_z, of_z}
use Rattle.std.proofs.lemmas.Int.{to_z-of_z}
use Rattle.std.proofs.lemmas.List.{get_or_default}
use Rattle.std.specs.Int.{w32}
use Rattle.std.specs.Int.RustNames.{unsigned_abs}
use Rattle.pdl_numbers.proofs.ReadRuns.{inside_below}
use Rattle.pdl_numbers.proofs.copies.copy_steps.Goals as goal

pub loop-j-preserved : goal.loop-j-preserved
loop-j-preserved g c =
    let from : List (List ℕ) = c.args.from.now in
    let p : ℕ = c.place_after.result in
    let inc : to_z w32 (of_z w32 c.args.inc) ≡ c.args.inc = to_z-of_z w32 c.args.inc c.ranges.inc in
    let e : p ≡ unsigned_abs (pos c.args.place +ℤ c.args.inc *ℤ pos c.loop-j.j) = c.place_after.ensures ∙ ap (λ (z : ℤ). unsigned_abs (pos c.args.place +ℤ z *ℤ pos c.loop-j.j)) inc in
    let within : p < length from = omega (arith, e, inside_below _ _ (c.requires.inside c.loop-j.j (omega arith))) in
    let cell : c.index-from-place_after.result ≡ get_or from (unsigned_abs (pos c.args.place +ℤ to_z w32 (of_z w32 c.args.inc) *ℤ pos c.loop-j.j)) [] =
    c.index-from-place_after.is ∙ get_or_default from p c.index-from-place_after.result [] within ∙ ap (λ (q : ℕ). get_or from q []) c.place_after.ensures in
    below_more _ _
    (λ k h. let ne : k ≢ c.loop-j.j = omega arith in rw get_or-set_other (c.loop-j.invariant k h))
    (let lt : c.loop-j.j < length c.loop-j.cells = omega arith in rw get_or-set_same cell)
