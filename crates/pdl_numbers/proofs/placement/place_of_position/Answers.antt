-- One dimension more of the walk.
use Rattle.std.proofs.Common.{◌≡◌, ℕ, pos, ℤ, ◌+◌, ◌<◌, ◌+ℤ◌, ◌*ℤ◌, ◌%◌, get_or, rules, arith, sym, subst, ap, ◌∙◌, to_z, of_z, FitsSigned}
use Rattle.std.proofs.lemmas.Int.{to_z-of_z}
use Rattle.std.proofs.Math.Nat.{mod-le}
use Rattle.std.specs.Int.{w32, w64}
use Rattle.pdl_shape.specs.Shape.{coordinates_of}
use Rattle.pdl_shape.specs.Triple.{moved}
use Rattle.pdl_numbers.proofs.ShownWalks.{Walk, IsStep, walk_start, walk_next, walk_end, step_bound, step_fits, sum_fits, product_is}
use Rattle.pdl_numbers.proofs.placement.place_of_position.Goals as goal

-- the product that the code finds is the increment times the coordinate, and it is small
record Turn (c : goal.After-from-in-loop-i) (z : ℤ) (k : ℕ) : Type 0 where
  small_inc : FitsSigned w32 z
  is : to_z w64 (of_z w64 c.from.result) *ℤ to_z w64 (of_z w64 c.from-in-loop-i.result) ≡ z *ℤ pos k
  small : IsStep (z *ℤ pos k)

turn : (c : goal.After-from-in-loop-i) → Turn c (get_or c.args.incs.now c.loop-i.i (pos 0)) (c.loop-i.rest % get_or c.args.sizes.now c.loop-i.i 0)
turn c =
    let z : ℤ = get_or c.args.incs.now c.loop-i.i (pos 0) in
    let k : ℕ = c.loop-i.rest % get_or c.args.sizes.now c.loop-i.i 0 in
    let f : FitsSigned w32 z = search rules in
    let e : c.from.result ≡ z = c.from.ensures ∙ to_z-of_z w32 z f in
    let part : k < 1048576 = omega (arith, mod-le c.loop-i.rest (get_or c.args.sizes.now c.loop-i.i 0), c.loop-i.invariant.small) in
    record {
      small_inc = f;
      is = product_is c.from.result c.from-in-loop-i.result z k (record { sfits = c.from.type_inv }) (record { sfits = c.from-in-loop-i.type_inv }) e (c.from-in-loop-i.ensures ∙ ap pos c.coordinate_at-coordinate.ensures);
      small = step_bound z k f part;
    }

pub loop-i-init : goal.loop-i-init
loop-i-init c =
    let e : to_z w64 (of_z w64 c.from-place.result) ≡ pos c.args.offset = to_z-of_z w64 c.from-place.result (record { sfits = c.from-place.type_inv }) ∙ c.from-place.ensures in
    subst (λ p. Walk c.args.incs.now c.args.sizes.now 0 c.args.position p (pos c.args.offset +ℤ moved c.args.incs.now (coordinates_of c.args.sizes.now c.args.position))) (sym e)
    (walk_start c.shape_laws.ensures.sizes c.args.incs.now c.args.sizes.now c.args.position c.args.offset c.requires.dims c.requires.within (omega (arith, c.ranges.offset.fits)))

pub overflow_mul-step : goal.overflow_mul-step
overflow_mul-step c =
    let t = turn c in
    subst (λ p. FitsSigned w64 p) (sym t.is) (step_fits _ t.small)

word_of : (c : goal.After-from-in-loop-i) (z : ℤ) (k : ℕ) → Turn c z k → to_z w64 (of_z w64 (to_z w64 (of_z w64 c.from.result) *ℤ to_z w64 (of_z w64 c.from-in-loop-i.result))) ≡ z *ℤ pos k
word_of c z k t = ap (λ p. to_z w64 (of_z w64 p)) t.is ∙ to_z-of_z w64 (z *ℤ pos k) (step_fits (z *ℤ pos k) t.small)

-- the place so far and the turn fit a word
sum_of : (c : goal.After-from-in-loop-i) (z : ℤ) (k : ℕ) → Turn c z k → FitsSigned w64 (to_z w64 c.loop-i.place-bits +ℤ z *ℤ pos k)
sum_of c z k t = sum_fits c.loop-i.i (to_z w64 c.loop-i.place-bits) (z *ℤ pos k) (omega (arith, c.loop-i-test.true, c.requires.dims.count)) c.loop-i.invariant.high c.loop-i.invariant.low t.small

pub overflow_add-place : goal.overflow_add-place
overflow_add-place c =
    let t = turn c in
    subst (λ s. FitsSigned w64 (to_z w64 c.loop-i.place-bits +ℤ s)) (sym (word_of c _ _ t)) (sum_of c _ _ t)

pub loop-i-preserved : goal.loop-i-preserved
loop-i-preserved c =
    let z : ℤ = get_or c.args.incs.now c.loop-i.i (pos 0) in
    let d : ℕ = get_or c.args.sizes.now c.loop-i.i 0 in
    let k : ℕ = c.loop-i.rest % d in
    let t : Turn c z k = turn c in
    let place : ℤ = to_z w64 c.loop-i.place-bits in
    let e : to_z w64 (of_z w64 (place +ℤ to_z w64 (of_z w64 (to_z w64 (of_z w64 c.from.result) *ℤ to_z w64 (of_z w64 c.from-in-loop-i.result))))) ≡ place +ℤ z *ℤ pos k =
    ap (λ s. to_z w64 (of_z w64 (place +ℤ s))) (word_of c z k t) ∙ to_z-of_z w64 (place +ℤ z *ℤ pos k) (sum_of c z k t) in
    let end : ℤ = pos c.args.offset +ℤ moved c.args.incs.now (coordinates_of c.args.sizes.now c.args.position) in
    subst (λ p. Walk c.args.incs.now c.args.sizes.now (c.loop-i.i + 1) c.left_after-rest.result p end) (sym e)
    (subst (λ rest. Walk c.args.incs.now c.args.sizes.now (c.loop-i.i + 1) rest (place +ℤ z *ℤ pos k) end) (sym c.left_after-rest.ensures)
    (walk_next c.shape_laws.ensures.positions c.args.incs.now c.args.sizes.now c.loop-i.i c.loop-i.rest place end (omega (arith, c.loop-i-test.true, c.requires.paired)) c.loop-i-test.true c.loop-i.invariant t.small_inc))

pub returns : goal.returns
returns c = walk_end c.args.incs.now c.args.sizes.now c.loop-i.i c.loop-i.rest (to_z w64 c.loop-i.place-bits) _ (omega (arith, c.loop-i-test.false, c.requires.paired)) c.loop-i.invariant
