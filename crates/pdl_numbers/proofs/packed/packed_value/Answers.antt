-- The operator's value is a number of the type.
use Rattle.std.proofs.Common.{◌≡◌, ℤ, rules, ap, ap₂, sym, subst, ◌∙◌, to_z, of_z}
use Rattle.std.proofs.lemmas.Int.{to_z-of_z}
use Rattle.std.specs.Int.{w64}
use Rattle.pdl_elem.specs.declared.BinaryOp.{BinaryOp}
use Rattle.pdl_elem.specs.declared.Ty.{Ty}
use Rattle.pdl_elem.specs.Operators.{binary_whole, value_of}
use Rattle.pdl_elem.specs.Types.{InRange}
use Rattle.pdl_numbers.specs.Bytes.{bytes_of}
use Rattle.pdl_numbers.proofs.packed.packed_value.Goals as goal

-- what the operator gives, by what its type and the operator are known to be
value_is : (op o : BinaryOp) (t y : Ty) (a m x n v : ℤ) → o ≡ op → y ≡ t → a ≡ x → m ≡ n → v ≡ value_of o y a m → v ≡ value_of op t x n
value_is op o t y a m x n v e f h k made =
    made ∙ ap₂ (λ (p : BinaryOp) (q : Ty). value_of p q a m) e f ∙ ap₂ (value_of op t) h k

pub pack-requires : goal.pack-requires
pack-requires g c =
    let t : Ty = g.T.PackedType.ty in
    let v : c.apply.result ≡ value_of g.O.KnownOp.op t c.args.left c.args.right = value_is g.O.KnownOp.op _ t _ _ _ _ _ _ c.known.ensures c.known-2.ensures (to_z-of_z w64 c.args.left c.ranges.left) (to_z-of_z w64 c.args.right c.ranges.right) c.apply.ensures in
    let r : InRange t (to_z w64 (of_z w64 c.apply.result)) = subst (InRange t) (sym (to_z-of_z w64 c.apply.result (record { sfits = c.apply.type_inv }) ∙ v)) (c.wrapping_laws.ensures.in_range t (binary_whole g.O.KnownOp.op t c.args.left c.args.right)) in
    (search rules, r)

pub returns : goal.returns
returns g c =
    let t : Ty = g.T.PackedType.ty in
    let v : c.apply.result ≡ value_of g.O.KnownOp.op t c.args.left c.args.right = value_is g.O.KnownOp.op _ t _ _ _ _ _ _ c.known.ensures c.known-2.ensures (to_z-of_z w64 c.args.left c.ranges.left) (to_z-of_z w64 c.args.right c.ranges.right) c.apply.ensures in
    c.pack.ensures ∙ ap (bytes_of t) (to_z-of_z w64 c.apply.result (record { sfits = c.apply.type_inv }) ∙ v)
