-- One place more of the run.
use Rattle.std.proofs.Common.{◌≡◌, ◌≢◌, ◌<◌, ℕ, ℤ, List, pos, ◌+ℤ◌, ◌*ℤ◌, length, sym, get_or, get_or-set_same, get_or-set_other, below_more, arith, ap, ◌∙◌, to_z, of_z, FitsSigned}
use Rattle.std.proofs.lemmas.Int.{to_z-of_z}
use Rattle.std.proofs.lemmas.List.{length-map, get_or-map}
use Rattle.std.specs.Int.{w32, w64}
use Rattle.std.specs.Int.RustNames.{unsigned_abs}
use Rattle.pdl_numbers.specs.Bytes.{number_of}
use Rattle.pdl_numbers.proofs.ReadRuns.{inside_below}
use Rattle.pdl_numbers.proofs.reads.read_steps.Goals as goal

pub loop-j-preserved : goal.loop-j-preserved
loop-j-preserved g c =
    let n : List ℕ → ℤ = number_of g.T.PackedType.ty in
    let p : ℕ = c.place_after.result in
    let f : FitsSigned w64 c.unpack.result = record { sfits = c.unpack.type_inv } in
    let inc : to_z w32 (of_z w32 c.args.inc) ≡ c.args.inc = to_z-of_z w32 c.args.inc c.ranges.inc in
    let e : p ≡ unsigned_abs (pos c.args.place +ℤ c.args.inc *ℤ pos c.loop-j.j) = c.place_after.ensures ∙ ap (λ (z : ℤ). unsigned_abs (pos c.args.place +ℤ z *ℤ pos c.loop-j.j)) inc in
    let all : length c.cells-cells.result.now ≡ length c.args.numbers.now = sym (length-map c.cells-cells.result.now n) ∙ ap (λ (xs : List ℤ). length xs) c.cells-cells.ensures in
    let within : p < length c.cells-cells.result.now = omega (arith, e, all, inside_below _ _ (c.requires.inside c.loop-j.j (omega arith))) in
    let number : c.unpack.result ≡ get_or c.args.numbers.now p (pos 0) =
    c.unpack.ensures ∙ ap n c.index-cells-place_after.is
    ∙ sym (get_or-map n c.cells-cells.result.now p c.index-cells-place_after.result (pos 0) within)
    ∙ ap (λ (xs : List ℤ). get_or xs p (pos 0)) c.cells-cells.ensures in
    below_more _ _
    (λ k h. let ne : k ≢ c.loop-j.j = omega arith in rw get_or-set_other (c.loop-j.invariant k h))
    (let lt : c.loop-j.j < length c.loop-j.into = omega arith in
    rw get_or-set_same (to_z-of_z w64 c.unpack.result f ∙ number ∙ ap (λ (q : ℕ). get_or c.args.numbers.now q (pos 0)) c.place_after.ensures))
