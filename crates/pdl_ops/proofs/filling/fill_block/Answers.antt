-- One element more is set, its coordinates are those of its position, and all are set at the end.
use Rattle.std.proofs.Common.{◌≡◌, ℕ, ◌+◌, All, map, length, ◌/◌, ◌%◌, ◌<◌, List, get_or, arith, pos, to_z, of_z, ap, ap₂, sym, subst, ◌∙◌}
use Rattle.std.proofs.lemmas.Int.{to_z-of_z}
use Rattle.std.proofs.lemmas.Nat.{mod_below}
use Rattle.std.specs.Int.{w64}
use Rattle.std.specs.List.{range_with_len}
use Rattle.pdl_elem.specs.Types.{InRange}
use Rattle.pdl_elem.specs.declared.Ty.TheVariants.{Long}
use Rattle.pdl_shape.specs.Shape.{coordinates_of, size_of}
use Rattle.pdl_ops.specs.Fills.{fill_element}
use Rattle.pdl_ops.proofs.FillCoordinates.{x_at, y_at, some_width, some_height, long_holds_block}
use Rattle.pdl_ops.proofs.BlockLists.{set_more, set_all}
use Rattle.pdl_ops.proofs.filling.fill_block.Goals as goal

pub next_coordinates-next-requires-clause-x : goal.next_coordinates-next-requires-clause-x
next_coordinates-next-requires-clause-x c =
    let p : ℕ = c.args.first + c.loop-i.i in
    let within : p < size_of c.args.sizes.now = omega (arith, c.requires.within) in
    let some : 0 < c.size_along-width.result = subst (λ (w : ℕ). 0 < w) (sym c.size_along-width.ensures) (some_width c.args.sizes.now p within) in
    omega (arith, mod_below p c.size_along-width.result some, c.loop-i.invariant.x)

pub next_coordinates-next-requires-clause-y : goal.next_coordinates-next-requires-clause-y
next_coordinates-next-requires-clause-y c =
    let p : ℕ = c.args.first + c.loop-i.i in
    let within : p < size_of c.args.sizes.now = omega (arith, c.requires.within) in
    let some : 0 < c.size_along-height.result = subst (λ (h : ℕ). 0 < h) (sym c.size_along-height.ensures) (some_height c.args.sizes.now p within) in
    omega (arith, mod_below (p / c.size_along-width.result) c.size_along-height.result some, c.loop-i.invariant.y)

pub loop-i-preserved : goal.loop-i-preserved
loop-i-preserved c =
    let ds : List ℕ = c.args.sizes.now in
    let p : ℕ = c.args.first + c.loop-i.i in
    let x : c.loop-i.x ≡ get_or (coordinates_of ds p) 0 0 = c.loop-i.invariant.x ∙ ap (λ (w : ℕ). p % w) c.size_along-width.ensures ∙ sym (x_at ds p) in
    let y : c.loop-i.y ≡ get_or (coordinates_of ds p) 1 0 =
    c.loop-i.invariant.y ∙ ap₂ (λ (w h : ℕ). p / w % h) c.size_along-width.ensures c.size_along-height.ensures ∙ sym (y_at ds p) in
    let e : c.element.result ≡ fill_element c.args.kind ds p = c.element.ensures ds x y in
    let z : to_z w64 (of_z w64 c.from.result) ≡ pos (fill_element c.args.kind ds p) = grind (arith, to_z-of_z, c.from.ensures, e) in
    let next : p + 1 ≡ c.args.first + (c.loop-i.i + 1) = omega arith in
    record {
      set = set_more (λ (i : ℕ). pos (fill_element c.args.kind ds (c.args.first + i))) (length c.args.into.now) c.loop-i.into c.loop-i.i _ (omega arith) (omega arith) c.loop-i.invariant.set z;
      x = c.next_coordinates-next.ensures.x p c.loop-i.invariant.x ∙ ap (λ (n : ℕ). n % c.size_along-width.result) next;
      y = c.next_coordinates-next.ensures.y p c.loop-i.invariant.x c.loop-i.invariant.y ∙ ap (λ (n : ℕ). n / c.size_along-width.result % c.size_along-height.result) next;
    }

pub returns-clause-value : goal.returns-clause-value
returns-clause-value c =
    set_all (λ (i : ℕ). pos (fill_element c.args.kind c.args.sizes.now (c.args.first + i))) (length c.args.into.now) c.loop-i.into c.loop-i.i (omega arith) (omega arith) c.loop-i.invariant.set

pub returns-clause-in_range : goal.returns-clause-in_range
returns-clause-in_range c =
    let n : ℕ = length c.args.into.now in
    let e : c.loop-i.into ≡ map (λ (i : ℕ). pos (fill_element c.args.kind c.args.sizes.now (c.args.first + i))) (range_with_len 0 n) =
    set_all (λ (i : ℕ). pos (fill_element c.args.kind c.args.sizes.now (c.args.first + i))) n c.loop-i.into c.loop-i.i (omega arith) (omega arith) c.loop-i.invariant.set in
    subst (All (InRange Long)) (sym e) (long_holds_block c.args.kind c.args.sizes.now c.args.first n c.requires.within c.requires.few)
