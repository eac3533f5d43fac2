-- The cells before stay, and those after them have the values.
use Rattle.std.proofs.Common.{◌≡◌, ◌≤◌, ◌+◌, ℤ, List, ◌++◌, length, map, All, arith, ap, sym, subst, ◌∙◌}
use Rattle.pdl_elem.specs.Blocks.{pairwise}
use Rattle.pdl_elem.specs.Operators.{value_of}
use Rattle.pdl_elem.specs.Types.{InRange}
use Rattle.pdl_elem.specs.declared.Ty.{Ty}
use Rattle.pdl_numbers.specs.Bytes.{ArePacked, bytes_of, number_of}
use Rattle.pdl_numbers.proofs.ByteLemmas.{extended, packed_onto, numbers_onto}
use Rattle.pdl_numbers.proofs.packed.Packed.extend_values.Goals as goal

pub invariant_of-self : goal.invariant_of-self
invariant_of-self g c = subst (ArePacked g.T.PackedType.ty) (sym c.in_err-resize.ensures.items) c.self.invariant

pub invariant_of-self-2 : goal.invariant_of-self-2
invariant_of-self-2 g c =
    let t : Ty = g.T.PackedType.ty in
    let values : List ℤ = pairwise (value_of g.O.KnownOp.op t) c.args.left.now c.args.right.now in
    let long : length values ≡ length c.args.left.now = c.block_laws.ensures.as_many (value_of g.O.KnownOp.op t) c.args.left.now c.args.right.now (sym c.requires.paired) in
    let all : All (InRange t) values = c.block_laws.ensures.in_range g.O.KnownOp.op t c.args.left.now c.args.right.now in
    subst (ArePacked t) (sym (extended t c.self.inside.cells.items _ _ _ _ _ _ values _ (c.len-start.result + length c.args.left.now) _ (omega arith) (omega arith) (omega (arith, long, c.in_ok-resize.ensures.len)) c.in_ok-resize.ensures.items c.deref_mut.ensures.value c.pack_values.ensures))
    (packed_onto t c.self.inside.cells.items values c.self.invariant all)

pub returns-clause-ok : goal.returns-clause-ok
returns-clause-ok g c =
    let t : Ty = g.T.PackedType.ty in
    let values : List ℤ = pairwise (value_of g.O.KnownOp.op t) c.args.left.now c.args.right.now in
    let long : length values ≡ length c.args.left.now = c.block_laws.ensures.as_many (value_of g.O.KnownOp.op t) c.args.left.now c.args.right.now (sym c.requires.paired) in
    let all : All (InRange t) values = c.block_laws.ensures.in_range g.O.KnownOp.op t c.args.left.now c.args.right.now in
    ap (map (number_of t)) (extended t c.self.inside.cells.items _ _ _ _ _ _ values _ (c.len-start.result + length c.args.left.now) _ (omega arith) (omega arith) (omega (arith, long, c.in_ok-resize.ensures.len)) c.in_ok-resize.ensures.items c.deref_mut.ensures.value c.pack_values.ensures)
    ∙ numbers_onto t c.self.inside.cells.items values all
    ∙ ap (λ (ns : List ℤ). ns ++ values) c.self.view_is
