-- The wrapped number is one of the type.
use Rattle.std.proofs.Common.{◌≡◌, rules, ap, ap₂, sym, subst, ◌∙◌, to_z, of_z, FitsSigned}
use Rattle.std.proofs.lemmas.Int.{to_z-of_z}
use Rattle.std.specs.Int.{w64, w128}
use Rattle.pdl_elem.specs.declared.Ty.{Ty}
use Rattle.pdl_elem.specs.Numbers.{wrapped}
use Rattle.pdl_elem.specs.Types.{InRange}
use Rattle.pdl_numbers.specs.Bytes.{bytes_of}
use Rattle.pdl_numbers.proofs.prefixes.packed_wrapped.Goals as goal

pub pack-requires : goal.pack-requires
pack-requires g c =
    let t : Ty = g.T.PackedType.ty in
    let wide : FitsSigned w128 c.from.result = record { sfits = c.from.type_inv } in
    let number : to_z w128 (of_z w128 c.from.result) ≡ c.args.number = to_z-of_z w128 c.from.result wide ∙ c.from.ensures ∙ to_z-of_z w64 c.args.number c.ranges.number in
    let kept : to_z w64 (of_z w64 c.wrap.result) ≡ wrapped t c.args.number =
    to_z-of_z w64 c.wrap.result (record { sfits = c.wrap.type_inv }) ∙ c.wrap.ensures.value ∙ ap₂ wrapped c.known.ensures number in
    (search rules, subst (InRange t) (sym kept) (c.wrapping_laws.ensures.in_range t c.args.number))

pub returns : goal.returns
returns g c =
    let t : Ty = g.T.PackedType.ty in
    let wide : FitsSigned w128 c.from.result = record { sfits = c.from.type_inv } in
    let number : to_z w128 (of_z w128 c.from.result) ≡ c.args.number = to_z-of_z w128 c.from.result wide ∙ c.from.ensures ∙ to_z-of_z w64 c.args.number c.ranges.number in
    c.pack.ensures ∙ ap (bytes_of t) (to_z-of_z w64 c.wrap.result (record { sfits = c.wrap.type_inv }) ∙ c.wrap.ensures.value ∙ ap₂ wrapped c.known.ensures number)
