-- One element of each list more, and all are taken in at the end.
use Rattle.std.proofs.Common.{◌≡◌, ◌<◌, ◌≤◌, ◌+◌, ◌*◌, ◌++◌, ℕ, ℤ, pos, List, length, get_or, map, replicate, arith, to_z, of_z, FitsSigned, ap, ap₂, sym, subst, ◌∙◌}
use Rattle.std.proofs.lemmas.Int.{to_z-of_z}
use Rattle.std.proofs.lemmas.List.{get_or-replicate}
use Rattle.std.specs.Int.{w64, w128}
use Rattle.std.specs.List.{range_with_len}
use Rattle.pdl_elem.specs.declared.Ty.{Ty}
use Rattle.pdl_elem.specs.Numbers.{wrapped}
use Rattle.pdl_elem.specs.Types.{InRange}
use Rattle.pdl_numbers.specs.Folds.{HasFolded}
use Rattle.pdl_numbers.specs.Numbers.{elements_in}
use Rattle.pdl_numbers.specs.Reads.{across}
use Rattle.pdl_numbers.specs.Typed.{TypedElements}
use Rattle.pdl_reduce.specs.Across.{come_to}
use Rattle.pdl_reduce.proofs.AcrossLemmas.{across_within, come_all, come_first, come_more}
use Rattle.pdl_reduce.proofs.BlockReadiness.{kept}
use Rattle.pdl_reduce.proofs.columns.put_lists.Goals as goal

filled : (ys : List ℤ) (n : ℕ) (x v : ℤ) → ys ≡ replicate n x → x ≡ v → (k : ℕ) (d : ℤ) → k < n → get_or ys k d ≡ v
filled ys n x v e f k d h = ap (λ (zs : List ℤ). get_or zs k d) e ∙ get_or-replicate n k x d h ∙ f

pub extend-requires : goal.extend-requires
extend-requires g c = λ k d h.
    let t : Ty = (elements_in c.args.made.now).ty in
    let start : ℤ = to_z w64 (of_z w64 c.args.start) in
    let wide : FitsSigned w128 c.from.result = record { sfits = c.from.type_inv } in
    let number : to_z w128 (of_z w128 c.from.result) ≡ start = to_z-of_z w128 c.from.result wide ∙ c.from.ensures in
    let first : to_z w64 (of_z w64 c.wrap.result) ≡ wrapped t start = to_z-of_z w64 c.wrap.result (record { sfits = c.wrap.type_inv }) ∙ c.wrap.ensures.value ∙ ap₂ wrapped c.ty.ensures number in
    subst (InRange t) (sym (filled c.fill.new.self (length c.args.starts.now) _ (wrapped t start) (c.fill.ensures.after (λ y e. e)) first k d (omega (arith, h, c.fill.ensures.len))))
    (c.wrapping_laws.ensures.in_range t start)

pub loop-i-init : goal.loop-i-init
loop-i-init g c =
    let old : TypedElements = elements_in c.args.made.now in
    let t : Ty = old.ty in
    let start : ℤ = to_z w64 (of_z w64 c.args.start) in
    let wide : FitsSigned w128 c.from.result = record { sfits = c.from.type_inv } in
    let number : to_z w128 (of_z w128 c.from.result) ≡ start = to_z-of_z w128 c.from.result wide ∙ c.from.ensures in
    let first : to_z w64 (of_z w64 c.wrap.result) ≡ wrapped t start = to_z-of_z w64 c.wrap.result (record { sfits = c.wrap.type_inv }) ∙ c.wrap.ensures.value ∙ ap₂ wrapped c.ty.ensures number in
    record {
      typed = ap (λ (k : TypedElements). k.ty) c.in_ok-extend.ensures.ok;
      come = come_first t g.F.Folding.taken start c.args.size c.args.a.now.elems c.args.first c.len-before.result (length c.args.starts.now) old.elems c.fill.new.self (elements_in c.extend.new.self).elems
          (sym c.len-before.ensures) c.fill.ensures.len
          (λ j h. filled c.fill.new.self (length c.args.starts.now) _ (wrapped t start) (c.fill.ensures.after (λ y e. e)) first j (pos 0) h)
          (ap (λ (k : TypedElements). k.elems) c.in_ok-extend.ensures.ok);
    }

pub strided_fold_across-requires-clause-within : goal.strided_fold_across-requires-clause-within
strided_fold_across-requires-clause-within g c = λ k h.
    across_within c.args.a.now.dims c.args.first c.loop-i.i k (length c.args.starts.now) c.args.size (length c.args.a.now.elems) c.requires.size c.loop-i-test.true h c.requires.within

pub loop-i-preserved : goal.loop-i-preserved
loop-i-preserved g c =
    let f : ℤ → ℤ → ℤ = g.F.Folding.taken in
    let es : List ℤ = c.args.a.now.elems in
    let ds : List ℕ = c.args.a.now.dims in
    let i : ℕ = c.loop-i.i in
    let size : ℕ = c.args.size in
    let first : ℕ = c.args.first in
    let before : ℕ = c.len-before.result in
    let count : ℕ = length c.args.starts.now in
    let old : TypedElements = elements_in c.args.made.now in
    let now : TypedElements = elements_in c.loop-i.made in
    let new : TypedElements = elements_in c.strided_fold_across.new.into in
    record {
      typed = c.strided_fold_across.ensures.typed ∙ c.loop-i.invariant.typed;
      come = come_more old.ty f (to_z w64 (of_z w64 c.args.start)) size es ds first before count i old.elems now.elems new.elems c.requires.late c.requires.size c.loop-i-test.true c.requires.within c.loop-i.invariant.come
          (subst (λ (t : Ty). HasFolded t f (λ k. get_or es (across ds (first * size + i) k) (pos 0)) before count now.elems new.elems) c.loop-i.invariant.typed c.strided_fold_across.ensures.value);
    }

pub returns : goal.returns
returns g c =
    let f : ℤ → ℤ → ℤ = g.F.Folding.taken in
    let es : List ℤ = c.args.a.now.elems in
    let count : ℕ = length c.args.starts.now in
    let old : TypedElements = elements_in c.args.made.now in
    ap₂ kept c.loop-i.invariant.typed
    (come_all old.ty f (to_z w64 (of_z w64 c.args.start)) c.args.size es c.args.first c.len-before.result count c.loop-i.i old.elems (elements_in c.loop-i.made).elems (sym c.len-before.ensures) (omega (arith, c.loop-i-test.false)) c.requires.within c.loop-i.invariant.come
    ∙ ap (λ (s : ℤ). old.elems ++ map (come_to old.ty f s c.args.size es) (range_with_len c.args.first count)) (to_z-of_z w64 c.args.start c.ranges.start))
