-- The cells before and after stay, and those between are changed.
use Rattle.std.proofs.Common.{◌≡◌, ℕ, ℤ, List, ◌+◌, ◌-◌, ◌++◌, length, map, take, drop, arith, ap, sym, subst, ◌∙◌}
use Rattle.std.proofs.lemmas.Int.{to_z-of_z}
use Rattle.std.proofs.lemmas.List.{length-drop, length-map, length-take-le}
use Rattle.std.specs.Int.{w64}
use Rattle.pdl_elem.specs.declared.Ty.{Ty}
use Rattle.pdl_numbers.specs.Bytes.{ArePacked, bytes_of, number_of}
use Rattle.pdl_numbers.specs.Updates.{value_with}
use Rattle.pdl_numbers.proofs.UpdateLemmas.{part_updated, values_in_range}
use Rattle.pdl_numbers.proofs.WriteRuns.{splice_numbers, splice_packed, spliced}
use Rattle.pdl_numbers.proofs.packed.Packed.update_from.Goals as goal

pub invariant_of-self : goal.invariant_of-self
invariant_of-self g c =
    let t : Ty = g.T.PackedType.ty in
    let start : ℕ = c.args.start in
    let count : ℕ = c.args.count in
    let cells : List (List ℕ) = c.self.inside.cells.items in
    let part : List ℤ = take count (drop start c.args.self.now) in
    let es : List ℤ = map (value_with g.O.KnownOp.op t c.args.number) part in
    let many : length cells ≡ length c.args.self.now = sym (length-map cells (number_of t)) ∙ ap (λ (ns : List ℤ). length ns) c.self.view_is in
    let some : length es ≡ count = length-map part (value_with g.O.KnownOp.op t c.args.number) ∙ length-take-le count (drop start c.args.self.now) (omega (arith, length-drop start c.args.self.now)) in
    let is : c.update_all.new.cells ≡ map (bytes_of t) es = part_updated g.O.KnownOp.op t c.args.number _ cells _ c.update_all.new.cells c.args.self.now start count _ (to_z-of_z w64 c.args.number c.ranges.number) (omega arith) c.deref_mut.ensures.value c.self.view_is c.update_all.ensures in
    subst (ArePacked t) (sym (spliced t cells _ _ _ es start _ _ c.deref_mut.ensures.value (omega arith) (omega (arith, some)) (omega (arith, many, some)) is))
    (splice_packed t cells es start (start + length es) c.self.invariant (values_in_range c.wrapping_laws.ensures g.O.KnownOp.op t c.args.number part))

pub returns : goal.returns
returns g c =
    let t : Ty = g.T.PackedType.ty in
    let start : ℕ = c.args.start in
    let count : ℕ = c.args.count in
    let cells : List (List ℕ) = c.self.inside.cells.items in
    let part : List ℤ = take count (drop start c.args.self.now) in
    let es : List ℤ = map (value_with g.O.KnownOp.op t c.args.number) part in
    let many : length cells ≡ length c.args.self.now = sym (length-map cells (number_of t)) ∙ ap (λ (ns : List ℤ). length ns) c.self.view_is in
    let some : length es ≡ count = length-map part (value_with g.O.KnownOp.op t c.args.number) ∙ length-take-le count (drop start c.args.self.now) (omega (arith, length-drop start c.args.self.now)) in
    let is : c.update_all.new.cells ≡ map (bytes_of t) es = part_updated g.O.KnownOp.op t c.args.number _ cells _ c.update_all.new.cells c.args.self.now start count _ (to_z-of_z w64 c.args.number c.ranges.number) (omega arith) c.deref_mut.ensures.value c.self.view_is c.update_all.ensures in
    ap (map (number_of t)) (spliced t cells _ _ _ es start _ _ c.deref_mut.ensures.value (omega arith) (omega (arith, some)) (omega (arith, many, some)) is)
    ∙ splice_numbers t cells es start (start + length es) (values_in_range c.wrapping_laws.ensures g.O.KnownOp.op t c.args.number part)
    ∙ ap (λ (ns : List ℤ). take start ns ++ es ++ drop (start + length es) ns) c.self.view_is
    ∙ ap (λ (k : ℕ). take start c.args.self.now ++ es ++ drop (start + k) c.args.self.now) some
