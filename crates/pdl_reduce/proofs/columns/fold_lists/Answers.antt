-- One element of each list more.
use Rattle.std.proofs.Common.{◌≡◌, ◌<◌, ◌+◌, ◌*◌, ℕ, ℤ, pos, List, length, get_or, fold, arith, ap, ap₂, sym, ◌∙◌}
use Rattle.std.proofs.lemmas.Int.{to_z-of_z}
use Rattle.std.proofs.lemmas.List.{take_all}
use Rattle.std.proofs.lemmas.List.Sums.{fold_more}
use Rattle.std.specs.Int.{w64}
use Rattle.pdl_numbers.specs.Reads.{across}
use Rattle.pdl_reduce.specs.Reductions.{nth_list}
use Rattle.pdl_reduce.proofs.AcrossLemmas.{list_within, place_across, across_within, lie_across, list_length, list_element}
use Rattle.pdl_reduce.proofs.columns.fold_lists.Goals as goal

pub strided_take_across-requires-clause-along : goal.strided_take_across-requires-clause-along
strided_take_across-requires-clause-along g c =
    lie_across c.args.a.now.dims c.args.first c.loop-i.i (length c.loop-i.so_far) c.args.size c.requires.size c.loop-i-test.true (omega (arith, c.loop-i.invariant.kept, c.fill.ensures.len, c.requires.plane))

pub strided_take_across-requires-clause-within : goal.strided_take_across-requires-clause-within
strided_take_across-requires-clause-within g c = λ k h.
    across_within c.args.a.now.dims c.args.first c.loop-i.i k (length c.args.so_far.now) c.args.size (length c.args.a.now.elems) c.requires.size c.loop-i-test.true
    (omega (arith, h, c.loop-i.invariant.kept, c.fill.ensures.len)) c.requires.within

pub loop-i-preserved : goal.loop-i-preserved
loop-i-preserved g c =
    let f : ℤ → ℤ → ℤ = g.F.Folding.taken in
    let es : List ℤ = c.args.a.now.elems in
    let i : ℕ = c.loop-i.i in
    let size : ℕ = c.args.size in
    let first : ℕ = c.args.first in
    record {
      kept = omega (arith, c.loop-i.invariant.kept);
      taken = λ j h.
          let xs : List ℤ = nth_list size es (first + j) in
          let few : j < length c.args.so_far.now = omega (arith, h, c.fill.ensures.len) in
          let inside : length xs ≡ size = list_length size es (first + j) (list_within first j (length c.args.so_far.now) size (length es) few c.requires.within) in
          let number : get_or es (across c.args.a.now.dims (first * size + i) j) (pos 0) ≡ get_or xs i (pos 0) =
          ap (λ (m : ℕ). get_or es m (pos 0)) (place_across c.args.a.now.dims first i j size c.requires.size)
          ∙ sym (list_element size es (first + j) i c.loop-i-test.true) in
          c.strided_take_across.ensures j (omega (arith, h, c.loop-i.invariant.kept))
          ∙ ap₂ f (c.loop-i.invariant.taken j h) number
          ∙ sym (fold_more f _ xs i (pos 0) (omega (arith, inside, c.loop-i-test.true)));
    }

pub returns : goal.returns
returns g c = λ j h.
    let f : ℤ → ℤ → ℤ = g.F.Folding.taken in
    let es : List ℤ = c.args.a.now.elems in
    let xs : List ℤ = nth_list c.args.size es (c.args.first + j) in
    let inside : length xs ≡ c.args.size = list_length c.args.size es (c.args.first + j) (list_within c.args.first j (length c.args.so_far.now) c.args.size (length es) h c.requires.within) in
    c.loop-i.invariant.taken j (omega (arith, h, c.fill.ensures.len))
    ∙ ap₂ (λ (s : ℤ) (ys : List ℤ). fold f s ys) (to_z-of_z w64 c.args.start c.ranges.start) (take_all c.loop-i.i xs (omega (arith, inside, c.loop-i-test.false)))
