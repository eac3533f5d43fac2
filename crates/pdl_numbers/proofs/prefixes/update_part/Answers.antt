-- One cell more has its prefix, and all have at the end.
use Rattle.std.proofs.Common.{◌≡◌, ◌+◌, ℕ, ℤ, List, [], length, pos, fold, map, take, get_or, refl, arith, to_z, of_z, ap, ap₂, sym, ◌∙◌}
use Rattle.std.proofs.lemmas.Int.{to_z-of_z}
use Rattle.std.proofs.lemmas.List.{get_or-map, get_or-set_other, length-map, take_all}
use Rattle.std.proofs.lemmas.List.Sums.{fold_more}
use Rattle.std.specs.Int.{w64}
use Rattle.pdl_elem.specs.declared.Ty.{Ty}
use Rattle.pdl_elem.specs.Numbers.{wrapped}
use Rattle.pdl_numbers.specs.Bytes.{bytes_of, number_of}
use Rattle.pdl_numbers.specs.Prefixes.{wrapped_prefixes}
use Rattle.pdl_numbers.proofs.ByteLemmas.{set_more, set_all}
use Rattle.pdl_numbers.proofs.PrefixLemmas.{prefix_at, prefix_count}
use Rattle.pdl_numbers.proofs.prefixes.update_part.Goals as goal

pub loop-place-init : goal.loop-place-init
loop-place-init g c = record { so_far = refl; packed = refl; left = λ k after. refl }

pub loop-place-preserved : goal.loop-place-preserved
loop-place-preserved g c =
    let t : Ty = g.T.PackedType.ty in
    let f : ℤ → ℤ → ℤ = g.F.Folding.taken in
    let a : ℤ = to_z w64 (of_z w64 c.args.start) in
    let i : ℕ = c.loop-place.place in
    let xs : List ℤ = map (number_of t) c.args.cells.now in
    let new : List ℤ = wrapped_prefixes t f a xs in
    let many : length xs ≡ length c.args.cells.now = length-map c.args.cells.now (number_of t) in
    let long : length new ≡ length xs = prefix_count t f a xs in
    let number : to_z w64 (of_z w64 c.unpack.result) ≡ get_or xs i (pos 0) =
    to_z-of_z w64 c.unpack.result (record { sfits = c.unpack.type_inv }) ∙ c.unpack.ensures ∙ ap (number_of t) (c.loop-place.invariant.left i (omega arith))
    ∙ sym (get_or-map (number_of t) c.args.cells.now i [] (pos 0) c.loop-place-test.true) in
    let next : to_z w64 (of_z w64 c.take-so_far.result) ≡ fold f a (take (i + 1) xs) =
    to_z-of_z w64 c.take-so_far.result (record { sfits = c.take-so_far.type_inv }) ∙ c.take-so_far.ensures ∙ ap₂ f c.loop-place.invariant.so_far number
    ∙ sym (fold_more f a xs i (pos 0) (omega (arith, many))) in
    record {
      so_far = next;
      packed = set_more (bytes_of t) c.loop-place.cells new i (pos 0) c.packed_wrapped.result (omega (arith, long, many)) (omega (arith, long, many))
          (c.packed_wrapped.ensures ∙ ap (bytes_of t) (ap (wrapped t) next ∙ sym (prefix_at t f a xs i (omega (arith, many))))) c.loop-place.invariant.packed;
      left = λ k after. get_or-set_other c.loop-place.cells i k c.packed_wrapped.result [] (omega (arith, after)) ∙ c.loop-place.invariant.left k (omega (arith, after));
    }

pub returns-clause-value : goal.returns-clause-value
returns-clause-value g c =
    let t : Ty = g.T.PackedType.ty in
    let xs : List ℤ = map (number_of t) c.args.cells.now in
    let many : length xs ≡ length c.args.cells.now = length-map c.args.cells.now (number_of t) in
    c.loop-place.invariant.so_far ∙ ap₂ (fold g.F.Folding.taken) (to_z-of_z w64 c.args.start c.ranges.start) (take_all c.loop-place.place xs (omega (arith, many)))

pub returns-clause-packed : goal.returns-clause-packed
returns-clause-packed g c =
    let t : Ty = g.T.PackedType.ty in
    let f : ℤ → ℤ → ℤ = g.F.Folding.taken in
    let a : ℤ = to_z w64 (of_z w64 c.args.start) in
    let xs : List ℤ = map (number_of t) c.args.cells.now in
    let new : List ℤ = wrapped_prefixes t f a xs in
    let many : length xs ≡ length c.args.cells.now = length-map c.args.cells.now (number_of t) in
    let long : length new ≡ length xs = prefix_count t f a xs in
    set_all (bytes_of t) c.loop-place.cells new c.loop-place.place (omega (arith, long, many)) (omega (arith, long, many)) c.loop-place.invariant.packed
    ∙ ap (λ (s : ℤ). map (bytes_of t) (wrapped_prefixes t f s xs)) (to_z-of_z w64 c.args.start c.ranges.start)
