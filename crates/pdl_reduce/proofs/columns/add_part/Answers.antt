-- The lists' numbers, wrapped.
use Rattle.std.proofs.Common.{◌≡◌, ◌+◌, ◌++◌, ℕ, ℤ, pos, List, length, map, get_or, fold, arith, ap, ◌∙◌}
use Rattle.std.proofs.lemmas.Int.{to_z-of_z}
use Rattle.std.specs.Int.{w64}
use Rattle.pdl_reduce.specs.Reductions.{nth_list}
use Rattle.std.proofs.lemmas.List.{length-map, get_or-map}
use Rattle.pdl_elem.specs.Numbers.{wrapped}
use Rattle.pdl_numbers.specs.Typed.{TypedElements}
use Rattle.pdl_reduce.specs.Across.{come_to}
use Rattle.pdl_reduce.proofs.AcrossLemmas.{part_is}
use Rattle.pdl_reduce.proofs.columns.add_part.Goals as goal

pub returns-clause-value : goal.returns-clause-value
returns-clause-value g c =
    let f : ℤ → ℤ → ℤ = g.F.Folding.taken in
    let es : List ℤ = c.args.a.now.elems in
    let first : ℕ = c.args.first in
    let size : ℕ = c.args.size in
    let n : ℕ = length c.args.so_far.now in
    let xs : List ℤ = c.fold_lists.new.so_far in
    let ys : List ℤ = c.wrap_all.new.numbers in
    let folded : length xs ≡ n = omega arith in
    let mapped : length (map (wrapped c.args.ty) xs) ≡ length xs = simp length-map in
    let long : length ys ≡ n = ap (λ (zs : List ℤ). length zs) c.wrap_all.ensures.value ∙ mapped ∙ folded in
    ap (λ (p : TypedElements). p.elems) c.in_ok-extend.ensures.ok
    ∙ ap (λ (zs : List ℤ). c.args.made.now.elems ++ zs)
    (part_is (come_to c.args.ty f c.args.start size es) ys first n long
    (λ j h.
    ap (λ (zs : List ℤ). get_or zs j (pos 0)) c.wrap_all.ensures.value
    ∙ get_or-map (wrapped c.args.ty) xs j (pos 0) (pos 0) (omega (arith, folded, h))
    ∙ ap (wrapped c.args.ty) (c.fold_lists.ensures j h ∙ ap (λ (s : ℤ). fold f s (nth_list size es (first + j))) (to_z-of_z w64 c.args.start c.ranges.start))))
