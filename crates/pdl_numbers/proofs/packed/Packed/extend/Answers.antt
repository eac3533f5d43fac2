-- The cells before stay, and those after them are packed.
use Rattle.std.proofs.Common.{◌+◌, ℤ, List, ◌++◌, length, map, arith, ap, sym, subst, ◌∙◌}
use Rattle.pdl_elem.specs.declared.Ty.{Ty}
use Rattle.pdl_numbers.specs.Bytes.{ArePacked, bytes_of, number_of}
use Rattle.pdl_numbers.proofs.ByteLemmas.{extended, packed_onto, numbers_onto}
use Rattle.pdl_numbers.proofs.packed.Packed.extend.Goals as goal

pub invariant_of-self : goal.invariant_of-self
invariant_of-self g c = subst (ArePacked g.T.PackedType.ty) (sym c.in_err-resize.ensures.items) c.self.invariant

pub invariant_of-self-2 : goal.invariant_of-self-2
invariant_of-self-2 g c =
    let t : Ty = g.T.PackedType.ty in
    subst (ArePacked t) (sym (extended t c.self.inside.cells.items _ _ _ _ _ _ c.args.numbers.now _ (c.len-start.result + length c.args.numbers.now) _ (omega arith) (omega arith) (omega (arith, c.in_ok-resize.ensures.len)) c.in_ok-resize.ensures.items c.deref_mut.ensures.value c.pack_all.ensures))
    (packed_onto t c.self.inside.cells.items c.args.numbers.now c.self.invariant c.requires)

pub returns-clause-ok : goal.returns-clause-ok
returns-clause-ok g c =
    let t : Ty = g.T.PackedType.ty in
    ap (map (number_of t)) (extended t c.self.inside.cells.items _ _ _ _ _ _ c.args.numbers.now _ (c.len-start.result + length c.args.numbers.now) _ (omega arith) (omega arith) (omega (arith, c.in_ok-resize.ensures.len)) c.in_ok-resize.ensures.items c.deref_mut.ensures.value c.pack_all.ensures)
    ∙ numbers_onto t c.self.inside.cells.items c.args.numbers.now c.requires
    ∙ ap (λ (ns : List ℤ). ns ++ c.args.numbers.now) c.self.view_is
