-- The cells before and after stay, and those between are packed.
use Rattle.std.proofs.Common.{◌≡◌, ℕ, ℤ, List, ◌+◌, ◌++◌, length, map, take, drop, arith, ap, sym, subst, ◌∙◌}
use Rattle.std.proofs.lemmas.List.{length-map}
use Rattle.pdl_elem.specs.declared.Ty.{Ty}
use Rattle.pdl_numbers.specs.Bytes.{ArePacked, number_of}
use Rattle.pdl_numbers.proofs.WriteRuns.{splice_numbers, splice_packed, spliced}
use Rattle.pdl_numbers.proofs.packed.Packed.write_from.Goals as goal

pub invariant_of-self : goal.invariant_of-self
invariant_of-self g c =
    let t : Ty = g.T.PackedType.ty in
    let es : List ℤ = c.args.numbers.now in
    let many : length c.self.inside.cells.items ≡ length c.args.self.now = sym (length-map c.self.inside.cells.items (number_of t)) ∙ ap (λ (ns : List ℤ). length ns) c.self.view_is in
    subst (ArePacked t) (sym (spliced t c.self.inside.cells.items _ _ _ es c.args.start _ _ c.deref_mut.ensures.value (omega arith) (omega arith) (omega (arith, many)) c.pack_all.ensures))
    (splice_packed t c.self.inside.cells.items es c.args.start (c.args.start + length es) c.self.invariant c.requires.in_range)

pub returns : goal.returns
returns g c =
    let t : Ty = g.T.PackedType.ty in
    let es : List ℤ = c.args.numbers.now in
    let many : length c.self.inside.cells.items ≡ length c.args.self.now = sym (length-map c.self.inside.cells.items (number_of t)) ∙ ap (λ (ns : List ℤ). length ns) c.self.view_is in
    let n : ℕ = c.args.start + length es in
    ap (map (number_of t)) (spliced t c.self.inside.cells.items _ _ _ es c.args.start _ _ c.deref_mut.ensures.value (omega arith) (omega arith) (omega (arith, many)) c.pack_all.ensures)
    ∙ splice_numbers t c.self.inside.cells.items es c.args.start n c.requires.in_range
    ∙ ap (λ (ns : List ℤ). take c.args.start ns ++ es ++ drop n ns) c.self.view_is
