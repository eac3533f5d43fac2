-- A pairing has an output, and each of its elements is wrapped to the generic type.
use Rattle.std.proofs.Common.{◌≡◌, ℕ, ℤ, List, length, map, All, ap, sym, subst, ◌∙◌}
use Rattle.std.specs.List.{range_with_len}
use Rattle.std.proofs.lemmas.List.Elements.{All-map}
use Rattle.std.proofs.lemmas.List.FromFn.{length-map-range_with_len}
use Rattle.pdl_elem.specs.Types.{InRange}
use Rattle.pdl_shape.specs.Shape.{size_of}
use Rattle.pdl_sig.specs.declared.Resolved.{Resolved}
use Rattle.pdl_numbers.specs.Typed.{TypedElements}
use Rattle.pdl_buf.specs.Made.{array_of}
use Rattle.pdl_reduce.specs.Pairings.{paired_dims, paired_element}
use Rattle.pdl_reduce.proofs.PairingResolved.{three_shapes}
use Rattle.pdl_reduce.proofs.products.pair.Goals as goal

pub output_dims-requires : goal.output_dims-requires
output_dims-requires c = three_shapes c.args.kind c.args.a.now.ty c.args.b.now.ty c.args.a.now.dims c.args.b.now.dims c.in_ok-resolved.resolved c.in_ok-resolved.ensures.resolved

pub returns-clause-made : goal.returns-clause-made
returns-clause-made c =
    let r : Resolved = c.in_ok-resolved.resolved in
    let at : ℕ → ℤ = paired_element c.args.kind r (array_of c.args.a.now) (array_of c.args.b.now) in
    let n : ℕ = size_of (paired_dims r) in
    let elems : c.packed.result ≡ map at (range_with_len 0 n) = c.packed.ensures ∙ ap (λ (p : TypedElements). p.elems) c.in_ok-made.ensures in
    record {
      count = ap (λ (xs : List ℤ). length xs) elems ∙ length-map-range_with_len at 0 n ∙ ap size_of (sym c.output_dims.ensures);
      in_range = subst (All (InRange r.generic)) (sym elems) (All-map (InRange r.generic) at (range_with_len 0 n) (λ k d below. c.wrapping_laws.ensures.in_range r.generic _));
    }
