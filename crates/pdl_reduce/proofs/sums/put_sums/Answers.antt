-- The sums at so many places more.
use Rattle.std.proofs.Common.{◌≡◌, ℕ, ◌+◌, ◌*◌, ◌/◌, ◌%◌, ◌<◌, ◌≤◌, ◌++◌, ℤ, pos, List, length, take, drop, get_or, arith, ap, ap₂, sym, ◌∙◌, length-append, length-drop}
use Rattle.std.proofs.lemmas.List.{get_or-map, length-map, length-take-le}
use Rattle.pdl_elem.specs.Numbers.{wrapped}
use Rattle.pdl_numbers.specs.Typed.{TypedElements}
use Rattle.pdl_shape.specs.Shape.{size_of}
use Rattle.pdl_reduce.specs.Blocks.{nth_block, products_at, sum_at}
use Rattle.pdl_reduce.proofs.BlockProducts.{range_more}
use Rattle.pdl_reduce.proofs.BlockShortRows.{sum_is}
use Rattle.pdl_reduce.proofs.sums.put_sums.Goals as goal

pub places_left-few-requires-clause-most : goal.places_left-few-requires-clause-most
places_left-few-requires-clause-most c = omega (arith, c.min.ensures, c.places_at_once-most.ensures.some (omega (arith, c.loop-done-test.true)), c.loop-done-test.true)

pub places_left-few-requires-clause-rows : goal.places_left-few-requires-clause-rows
places_left-few-requires-clause-rows c = c.requires.right_turn.some_rows (omega (arith, c.elements_of-total.ensures.count, c.loop-done-test.true))

pub places_left-few-requires-clause-times : goal.places_left-few-requires-clause-times
places_left-few-requires-clause-times c = c.requires.right_turn.some_times (omega (arith, c.elements_of-total.ensures.count, c.loop-done-test.true))

pub places_left-places-requires-clause-rows : goal.places_left-places-requires-clause-rows
places_left-places-requires-clause-rows c = c.requires.left_turn.some_rows (omega (arith, c.elements_of-total.ensures.count, c.loop-done-test.true))

pub places_left-places-requires-clause-times : goal.places_left-places-requires-clause-times
places_left-places-requires-clause-times c = c.requires.left_turn.some_times (omega (arith, c.elements_of-total.ensures.count, c.loop-done-test.true))

pub read_rows-left_step-requires-clause-rows : goal.read_rows-left_step-requires-clause-rows
read_rows-left_step-requires-clause-rows c = c.requires.left_turn.some_rows (omega (arith, c.elements_of-total.ensures.count, c.loop-done-test.true))

pub read_rows-left_step-requires-clause-times : goal.read_rows-left_step-requires-clause-times
read_rows-left_step-requires-clause-times c = c.requires.left_turn.some_times (omega (arith, c.elements_of-total.ensures.count, c.loop-done-test.true))

pub read_rows-right_step-requires-clause-rows : goal.read_rows-right_step-requires-clause-rows
read_rows-right_step-requires-clause-rows c = c.requires.right_turn.some_rows (omega (arith, c.elements_of-total.ensures.count, c.loop-done-test.true))

pub read_rows-right_step-requires-clause-times : goal.read_rows-right_step-requires-clause-times
read_rows-right_step-requires-clause-times c = c.requires.right_turn.some_times (omega (arith, c.elements_of-total.ensures.count, c.loop-done-test.true))

pub read_rows-left_step-requires-clause-all : goal.read_rows-left_step-requires-clause-all
read_rows-left_step-requires-clause-all c =
    let s = c.args.sizes in
    let one : s.left_depth * s.height ≡ s.left_depth = ap (λ (n : ℕ). s.left_depth * n) c.requires.rows.height ∙ omega arith in
    c.requires.ready.left_count ∙ ap₂ (λ (m n : ℕ). m * n) (sym c.requires.left_turn.rows) one

pub read_rows-right_step-requires-clause-all : goal.read_rows-right_step-requires-clause-all
read_rows-right_step-requires-clause-all c =
    let s = c.args.sizes in
    let one : s.width * s.right_depth ≡ s.right_depth = ap (λ (n : ℕ). n * s.right_depth) c.requires.rows.width ∙ omega arith in
    c.requires.ready.right_count ∙ ap₂ (λ (m n : ℕ). m * n) (sym c.requires.right_turn.rows) one

pub loop-done-preserved : goal.loop-done-preserved
loop-done-preserved c =
    let s = c.args.sizes in
    let d : ℕ = c.loop-done.done in
    let n : ℕ = c.places_left-places.result in
    let ls : List ℕ = c.args.left_sizes.now in
    let rs : List ℕ = c.args.right_sizes.now in
    let joined : List ℕ = c.args.joined.now in
    let les : List ℤ = c.args.left.now.elems in
    let res : List ℤ = c.args.right.now.elems in
    let P : ℕ → ℤ = products_at c.args.ty s les res ls rs joined in
    let sums : List ℤ = c.set_sums.new.sums in
    let ys : List ℤ = c.wrap_all.new.numbers in
    let some : 0 < size_of joined = omega (arith, c.elements_of-total.ensures.count, c.loop-done-test.true) in
    let room : n ≤ length c.loop-done.sums = omega (arith, c.loop-done.invariant.sums, c.min.ensures) in
    let part : length (take n c.loop-done.sums) ≡ n = length-take-le n c.loop-done.sums room in
    let long : length sums ≡ n = c.set_sums.ensures.count ∙ part in
    let size : length ys ≡ n = ap (λ (zs : List ℤ). length zs) c.wrap_all.ensures.value ∙ length-map sums (wrapped c.args.ty) ∙ long in
    let element : (j : ℕ) → j < n → get_or ys j (pos 0) ≡ P (d + j) = λ j h.
    (let lb : List ℤ = take s.left_depth (drop (j * c.read_rows-left_step.result) c.read_rows-left_step.new.room) in
    let rb : List ℤ = take s.right_depth (drop (j * c.read_rows-right_step.result) c.read_rows-right_step.new.room) in
    let l : lb ≡ nth_block c.args.ty s.left_depth les ((d + j) / c.args.turns.left.times % c.args.turns.left.rows) = c.read_rows-left_step.ensures.rows j h in
    let r : rb ≡ nth_block c.args.ty s.right_depth res ((d + j) / c.args.turns.right.times % c.args.turns.right.rows) = c.read_rows-right_step.ensures.rows j h in
    ap (λ (zs : List ℤ). get_or zs j (pos 0)) c.wrap_all.ensures.value
    ∙ get_or-map (wrapped c.args.ty) sums j (pos 0) (pos 0) (omega (arith, long, h))
    ∙ ap (wrapped c.args.ty) (c.set_sums.ensures.sums j (omega (arith, part, h)))
    ∙ c.wrapping_laws.ensures.late c.args.ty (sum_at s lb rb s.depth 0 0)
    ∙ sum_is c.args.ty s les res ls rs joined (d + j) ((d + j) / c.args.turns.left.times % c.args.turns.left.rows) ((d + j) / c.args.turns.right.times % c.args.turns.right.rows) lb rb c.requires.rows.height c.requires.rows.width
    (c.requires.left_turn.row some (d + j)) (c.requires.right_turn.row some (d + j)) l r) in
    record {
      inside = omega (arith, c.min.ensures);
      left = c.read_rows-left_step.ensures.count ∙ c.loop-done.invariant.left;
      right = c.read_rows-right_step.ensures.count ∙ c.loop-done.invariant.right;
      sums = omega (arith, size, room, c.loop-done.invariant.sums, length-append ys (drop n c.loop-done.sums), length-drop n c.loop-done.sums);
      ty = ap (λ (p : TypedElements). p.ty) c.in_ok-extend.ensures.ok ∙ c.loop-done.invariant.ty;
      made = ap (λ (p : TypedElements). p.elems) c.in_ok-extend.ensures.ok ∙ ap (λ (zs : List ℤ). zs ++ ys) c.loop-done.invariant.made ∙ sym (range_more P d n ys size element);
    }
