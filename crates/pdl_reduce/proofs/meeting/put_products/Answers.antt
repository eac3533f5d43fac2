-- One place of the broadcast more, and all at the end.
use Rattle.std.proofs.Common.{◌≡◌, ◌<◌, ◌+◌, ◌*◌, ◌++◌, ℕ, ℤ, List, Some, length, map, arith, length-append, ap, ap₂, sym, ◌∙◌}
use Rattle.std.specs.Prelude.{slice_get}
use Rattle.std.specs.List.{range_with_len}
use Rattle.pdl_broadcast.specs.Walk.{Walk}
use Rattle.pdl_numbers.specs.Typed.{TypedElements}
use Rattle.pdl_shape.specs.Shape.{size_of}
use Rattle.pdl_shape.specs.Stretched.{stretched_position}
use Rattle.pdl_shape.specs.Triple.{whole_triple}
use Rattle.pdl_reduce.specs.Blocks.{block_at, product_at, products_at}
use Rattle.pdl_reduce.proofs.BlockMeets.{products_more, block_read}
use Rattle.pdl_reduce.proofs.BlockReadiness.{kept}
use Rattle.pdl_reduce.proofs.ReductionResults.{row_inside}
use Rattle.pdl_reduce.proofs.meeting.put_products.Goals as goal

pub loop-q-init : goal.loop-q-init
loop-q-init c =
    let P : ℕ → ℤ = products_at c.args.ty c.args.sizes c.args.left.now.elems c.args.right.now.elems c.args.left_sizes.now c.args.right_sizes.now c.args.joined.now in
    let left : List ℤ = c.split_at_mut-left_block.result.0.now in
    let right : List ℤ = c.split_at_mut-left_block.result.1.now in
    let both : length c.deref_mut.result.now ≡ length left + length right = ap (λ (zs : List ℤ). length zs) c.split_at_mut-left_block.ensures.value ∙ length-append left right in
    let none : 0 ≡ 0 * (c.args.sizes.height * c.args.sizes.width) = omega arith in
    record {
      walk = c.in_ok-walk.ensures;
      left = c.split_at_mut-left_block.ensures.front_len;
      right = omega (arith, both, c.split_at_mut-left_block.ensures.front_len, c.deref_mut.ensures.len, c.in_ok-room.ensures.len);
      row = omega (arith, c.as_mut_slice-row.ensures.len, c.in_ok-row_room.ensures.len);
      left_held = tt;
      right_held = tt;
      ty = ap (λ (p : TypedElements). p.ty) c.requires.empty;
      made = ap (λ (p : TypedElements). p.elems) c.requires.empty ∙ ap (λ (m : ℕ). map P (range_with_len 0 m)) none;
    }

pub hold_block-requires-clause-within : goal.hold_block-requires-clause-within
hold_block-requires-clause-within c =
    let n : ℕ = length c.loop-q.left_block in
    let ds : List ℕ = c.args.left_sizes.now in
    let there : slice_get c.loop-q.walk.triples 0 ≡ Some (whole_triple ds) = ap (λ (w : Walk). slice_get w.triples 0) c.loop-q.invariant.walk in
    let below : c.position_at-first.result < size_of ds = c.position_at-first.ensures.within ds there in
    let all : length c.args.left.now.elems ≡ size_of ds * n = c.requires.ready.left_count ∙ ap (λ (m : ℕ). size_of ds * m) (sym c.loop-q.invariant.left) in
    omega (arith, row_inside c.position_at-first.result (size_of ds) n below, all)

pub hold_block-requires-in-loop-q-clause-within : goal.hold_block-requires-in-loop-q-clause-within
hold_block-requires-in-loop-q-clause-within c =
    let n : ℕ = length c.loop-q.right_block in
    let ds : List ℕ = c.args.right_sizes.now in
    let there : slice_get c.loop-q.walk.triples 1 ≡ Some (whole_triple ds) = ap (λ (w : Walk). slice_get w.triples 1) c.loop-q.invariant.walk in
    let below : c.position_at-second.result < size_of ds = c.position_at-second.ensures.within ds there in
    let all : length c.args.right.now.elems ≡ size_of ds * n = c.requires.ready.right_count ∙ ap (λ (m : ℕ). size_of ds * m) (sym c.loop-q.invariant.right) in
    omega (arith, row_inside c.position_at-second.result (size_of ds) n below, all)

pub loop-q-preserved : goal.loop-q-preserved
loop-q-preserved c =
    let s = c.args.sizes in
    let q : ℕ = c.loop-q._q in
    let ls : List ℕ = c.args.left_sizes.now in
    let rs : List ℕ = c.args.right_sizes.now in
    let joined : List ℕ = c.args.joined.now in
    let les : List ℤ = c.args.left.now.elems in
    let res : List ℤ = c.args.right.now.elems in
    let left_there : slice_get c.loop-q.walk.triples 0 ≡ Some (whole_triple ls) = ap (λ (w : Walk). slice_get w.triples 0) c.loop-q.invariant.walk in
    let right_there : slice_get c.loop-q.walk.triples 1 ≡ Some (whole_triple rs) = ap (λ (w : Walk). slice_get w.triples 1) c.loop-q.invariant.walk in
    let left_at : c.position_at-first.result ≡ stretched_position ls joined q =
    c.position_at-first.ensures.position ls left_there ∙ ap (λ (w : Walk). stretched_position ls w.dims w.index) c.loop-q.invariant.walk in
    let right_at : c.position_at-second.result ≡ stretched_position rs joined q =
    c.position_at-second.ensures.position rs right_there ∙ ap (λ (w : Walk). stretched_position rs w.dims w.index) c.loop-q.invariant.walk in
    let lb : c.hold_block.new.block ≡ block_at c.args.ty (s.left_depth * s.height) les ls joined q =
    block_read c.args.ty les ls joined q (s.left_depth * s.height) (length c.loop-q.left_block) c.position_at-first.result c.hold_block.new.block c.loop-q.invariant.left left_at c.hold_block.ensures.block in
    let rb : c.hold_block-in-loop-q.new.block ≡ block_at c.args.ty (s.width * s.right_depth) res rs joined q =
    block_read c.args.ty res rs joined q (s.width * s.right_depth) (length c.loop-q.right_block) c.position_at-second.result c.hold_block-in-loop-q.new.block c.loop-q.invariant.right right_at c.hold_block-in-loop-q.ensures.block in
    record {
      walk = c.next.ensures ∙ ap (λ (w : Walk). record w { index = w.index + 1 }) c.loop-q.invariant.walk;
      left = omega (arith, c.loop-q.invariant.left);
      right = omega (arith, c.loop-q.invariant.right);
      left_held = c.hold_block.ensures.held;
      right_held = c.hold_block-in-loop-q.ensures.held;
      row = omega (arith, c.loop-q.invariant.row);
      ty = c.in_ok-add_product.ensures.typed ∙ c.loop-q.invariant.ty;
      made = c.in_ok-add_product.ensures.value
          ∙ ap (λ (zs : List ℤ). zs ++ map (product_at c.args.ty s c.hold_block.new.block c.hold_block-in-loop-q.new.block) (range_with_len 0 (s.height * s.width))) c.loop-q.invariant.made
          ∙ sym (products_more c.args.ty s les res ls rs joined q c.hold_block.new.block c.hold_block-in-loop-q.new.block lb rb);
    }

pub hold_block-requires-clause-small : goal.hold_block-requires-clause-small
hold_block-requires-clause-small c = c.requires.ready.left_few

pub hold_block-requires-clause-held : goal.hold_block-requires-clause-held
hold_block-requires-clause-held c = c.loop-q.invariant.left_held

pub hold_block-requires-in-loop-q-clause-small : goal.hold_block-requires-in-loop-q-clause-small
hold_block-requires-in-loop-q-clause-small c = c.requires.ready.right_few

pub hold_block-requires-in-loop-q-clause-held : goal.hold_block-requires-in-loop-q-clause-held
hold_block-requires-in-loop-q-clause-held c = c.loop-q.invariant.right_held

pub position_at-first-requires : goal.position_at-first-requires
position_at-first-requires c =
    let two : length c.loop-q.walk.triples ≡ 2 = ap (λ (w : Walk). length w.triples) c.loop-q.invariant.walk in
    let index : c.loop-q.walk.index ≡ c.loop-q._q = ap (λ (w : Walk). w.index) c.loop-q.invariant.walk in
    record {
      known = omega (arith, two);
      inside = omega (arith, index, ap (λ (w : Walk). size_of w.dims) c.loop-q.invariant.walk, c.elements_of-q-end.ensures.count, c.loop-q-test.true);
    }

pub position_at-second-requires : goal.position_at-second-requires
position_at-second-requires c =
    let two : length c.loop-q.walk.triples ≡ 2 = ap (λ (w : Walk). length w.triples) c.loop-q.invariant.walk in
    let index : c.loop-q.walk.index ≡ c.loop-q._q = ap (λ (w : Walk). w.index) c.loop-q.invariant.walk in
    record {
      known = omega (arith, two);
      inside = omega (arith, index, ap (λ (w : Walk). size_of w.dims) c.loop-q.invariant.walk, c.elements_of-q-end.ensures.count, c.loop-q-test.true);
    }

pub next-requires : goal.next-requires
next-requires c =
    let index : c.loop-q.walk.index ≡ c.loop-q._q = ap (λ (w : Walk). w.index) c.loop-q.invariant.walk in
    omega (arith, index, ap (λ (w : Walk). size_of w.dims) c.loop-q.invariant.walk, c.elements_of-q-end.ensures.count, c.loop-q-test.true)

pub add_product-requires : goal.add_product-requires
add_product-requires c =
    let left : length c.hold_block.new.block ≡ c.args.sizes.left_depth * c.args.sizes.height = omega (arith, c.loop-q.invariant.left) in
    let right : length c.hold_block-in-loop-q.new.block ≡ c.args.sizes.width * c.args.sizes.right_depth = omega (arith, c.loop-q.invariant.right) in
    record {
      fit = record { left_count = left; right_count = right; left_deep = c.requires.ready.left_deep; right_deep = c.requires.ready.right_deep };
      width = c.loop-q.invariant.row;
      small_left = omega (arith, left, c.requires.ready.left_small);
      small_right = omega (arith, right, c.requires.ready.right_small);
      typed = c.loop-q.invariant.ty;
    }

pub returns : goal.returns
returns c =
    let P : ℕ → ℤ = products_at c.args.ty c.args.sizes c.args.left.now.elems c.args.right.now.elems c.args.left_sizes.now c.args.right_sizes.now c.args.joined.now in
    let each : ℕ = c.args.sizes.height * c.args.sizes.width in
    let all : c.loop-q._q ≡ size_of c.args.joined.now = omega (arith, c.elements_of-q-end.ensures.count, c.loop-q-test.false) in
    ap₂ kept c.loop-q.invariant.ty (c.loop-q.invariant.made ∙ ap (λ (n : ℕ). map P (range_with_len 0 (n * each))) all)
