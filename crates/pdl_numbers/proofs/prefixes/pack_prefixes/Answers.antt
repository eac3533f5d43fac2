-- One prefix more is packed, and all are at the end.
use Rattle.std.proofs.Common.{rules, ◌≡◌, ◌+◌, ℕ, ℤ, List, length, pos, fold, map, take, get_or, arith, to_z, of_z, FitsSigned, ap, ap₂, sym, ◌∙◌}
use Rattle.std.proofs.lemmas.Int.{to_z-of_z}
use Rattle.std.proofs.lemmas.List.{length-set}
use Rattle.std.proofs.lemmas.List.Sums.{fold_more}
use Rattle.std.specs.Int.{w64}
use Rattle.pdl_elem.specs.declared.Ty.{Ty}
use Rattle.pdl_elem.specs.Numbers.{wrapped}
use Rattle.pdl_numbers.specs.Bytes.{bytes_of}
use Rattle.pdl_numbers.specs.Prefixes.{wrapped_prefixes}
use Rattle.pdl_numbers.proofs.ByteLemmas.{set_more, set_all}
use Rattle.pdl_numbers.proofs.PrefixLemmas.{prefix_at, prefix_count}
use Rattle.pdl_numbers.proofs.prefixes.pack_prefixes.Goals as goal

pub loop-i-preserved : goal.loop-i-preserved
loop-i-preserved g c =
    let t : Ty = g.T.PackedType.ty in
    let f : ℤ → ℤ → ℤ = g.F.Folding.taken in
    let a : ℤ = to_z w64 (of_z w64 c.args.start) in
    let i : ℕ = c.loop-i.i in
    let xs : List ℤ = c.args.numbers.now in
    let new : List ℤ = wrapped_prefixes t f a xs in
    let long : length new ≡ length xs = prefix_count t f a xs in
    let fits : FitsSigned w64 c.take-so_far.result = record { sfits = c.take-so_far.type_inv } in
    let number : FitsSigned w64 (get_or xs i (pos 0)) = search rules in
    let next : to_z w64 (of_z w64 c.take-so_far.result) ≡ fold f a (take (i + 1) xs) =
    to_z-of_z w64 c.take-so_far.result fits ∙ c.take-so_far.ensures ∙ ap₂ f c.loop-i.invariant.so_far (to_z-of_z w64 (get_or xs i (pos 0)) number)
    ∙ sym (fold_more f a xs i (pos 0) (omega arith)) in
    record {
      so_far = next;
      count = length-set c.loop-i.cells i c.packed_wrapped.result ∙ c.loop-i.invariant.count;
      packed = set_more (bytes_of t) c.loop-i.cells new i (pos 0) c.packed_wrapped.result (omega (arith, long)) (c.loop-i.invariant.count ∙ sym long)
          (c.packed_wrapped.ensures ∙ ap (bytes_of t) (ap (wrapped t) next ∙ sym (prefix_at t f a xs i (omega arith)))) c.loop-i.invariant.packed;
    }

pub returns-clause-packed : goal.returns-clause-packed
returns-clause-packed g c =
    let t : Ty = g.T.PackedType.ty in
    let f : ℤ → ℤ → ℤ = g.F.Folding.taken in
    let a : ℤ = to_z w64 (of_z w64 c.args.start) in
    let xs : List ℤ = c.args.numbers.now in
    let new : List ℤ = wrapped_prefixes t f a xs in
    let long : length new ≡ length xs = prefix_count t f a xs in
    set_all (bytes_of t) c.loop-i.cells new c.loop-i.i (omega (arith, long)) (c.loop-i.invariant.count ∙ sym long) c.loop-i.invariant.packed
    ∙ ap (λ (s : ℤ). map (bytes_of t) (wrapped_prefixes t f s xs)) (to_z-of_z w64 c.args.start c.ranges.start)
