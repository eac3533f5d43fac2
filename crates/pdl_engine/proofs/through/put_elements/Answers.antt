-- One block more is put.
use Rattle.std.proofs.Common.{◌≡◌, ◌+◌, ◌≤◌, ℕ, ℤ, List, ◌++◌, All, length, length-append, length-drop, take, drop, None, refl, sym, ◌∙◌, ap, subst, arith}
use Rattle.std.proofs.lemmas.List.{length-take-le, take_all}
use Rattle.pdl_elem.specs.Types.{InRange}
use Rattle.pdl_lemmas.specs.Lists.{take_written}
use Rattle.pdl_shape.specs.Shape.{size_of}
use Rattle.pdl_shape.specs.Triple.{Triple}
use Rattle.pdl_world.specs.World.{elements}
use Rattle.pdl_nodes.specs.Outcomes.{waiting_of}
use Rattle.pdl_nodes.specs.Row.{Row}
use Rattle.pdl_nodes.specs.RowLaws.{RowLaws}
use Rattle.pdl_nodes.specs.Rows.{Rows, row_at}
use Rattle.pdl_nodes.specs.Worlds.{world_of}
use Rattle.pdl_push.specs.Targets.{IsWriteThrough}
use Rattle.pdl_engine.specs.Through.{CanGoThrough, WentThrough}
use Rattle.pdl_engine.proofs.SeveredRenews.{elements_count}
use Rattle.pdl_engine.proofs.ThroughParts.{none_passed, passed_more, passes_on, places_stay, source_elements, source_fresh, source_size}
use Rattle.pdl_engine.proofs.through.put_elements.Goals as goal

pub loop-done-init : goal.loop-done-init
loop-done-init g c = record {
  inside = omega arith;
  block = refl;
  passed = none_passed c.row_laws.ensures c.part_laws.ensures.nothing c.args.table.now c.args.id c.args.source c.requires.can;
  counted = omega arith;
}

-- as many are read as the block is long
read_many : (n k : ℕ) (vs block into : List ℤ) → n ≤ length block → k + n ≤ length vs → into ≡ take (length (take n block)) (drop k vs) → length into ≡ n
read_many n k vs block into room within is =
    let size : length (take n block) ≡ n = length-take-le n block room in
    ap length (is ∙ ap (λ i. take i (drop k vs)) size) ∙ length-take-le n (drop k vs) (omega (arith, within, length-drop k vs))

pub read_block-requires : goal.read_block-requires
read_block-requires g c =
    let t : Rows = c.args.table.now in
    let n : ℕ = c.min-size.result in
    let all : c.elements_of-all.result ≡ size_of (row_at t c.args.id).triple.dims = c.elements_of-all.ensures.count ∙ ap (λ (t : Triple). size_of t.dims) (c.behind-node.view_is ∙ c.triple.ensures ∙ ap (λ (r : Row). r.triple) c.node.ensures) in
    let size : length (take n c.loop-done.block) ≡ n = length-take-le n c.loop-done.block (omega (arith, c.min-size.ensures, c.loop-done.invariant.block)) in
    let count = source_size t c.loop-done.table c.args.id c.args.source _ c.requires.can c.loop-done.invariant.passed in
    record {
      order = c.loop-done.invariant.passed.order;
      live = c.loop-done.invariant.passed.alike.has_is c.args.source ∙ c.requires.can.source;
      fresh = source_fresh c.row_laws.ensures t c.loop-done.table c.args.id c.args.source _ c.requires.can c.loop-done.invariant.passed;
      within = omega (arith, all, size, count, c.min-size.ensures, c.loop-done-test.true);
    }

-- so the block that is passed on begins with what is read
read_first : (n k : ℕ) (vs block into : List ℤ) → n ≤ length block → k + n ≤ length vs → into ≡ take (length (take n block)) (drop k vs) → take n (into ++ drop n block) ≡ into
read_first n k vs block into room within is = take_written n into (drop n block) (read_many n k vs block into room within is)

-- and can be put where it belongs
put_here : (facts : RowLaws) → (t now : Rows) (v u k n a : ℕ) (xs block into : List ℤ) → CanGoThrough t v u → waiting_of t v ≡ None → WentThrough t v xs now → length block ≡ 512 → n ≤ 512 → k + n ≤ a → a ≡ size_of (row_at t v).triple.dims
    → into ≡ take (length (take n block)) (drop k (elements (world_of now) u)) → All (InRange (row_at now u).ty) into → IsWriteThrough now v k (take n (into ++ drop n block))
put_here facts t now v u k n a xs block into can settled p size few within all is range =
    let vs : List ℤ = elements (world_of now) u in
    let many : length vs ≡ size_of (row_at t v).triple.dims = elements_count facts now u p.order.still (p.alike.has_is u ∙ can.source) ∙ source_size t now v u xs can p in
    let room : n ≤ length block = omega (arith, size, few) in
    let inside : k + n ≤ length vs = omega (arith, all, many, within) in
    let count : length into ≡ n = read_many n k vs block into room inside is in
    let first : take n (into ++ drop n block) ≡ into = read_first n k vs block into room inside is in
    passes_on t now v u k xs (take n (into ++ drop n block)) can settled p (omega (arith, ap length first, count, many, inside))
    (subst (λ (ys : List ℤ). All (InRange (row_at now u).ty) ys) (sym first) range)

pub assign_through-requires-clause-write : goal.assign_through-requires-clause-write
assign_through-requires-clause-write g c =
    put_here c.row_laws.ensures c.args.table.now c.loop-done.table c.args.id c.args.source c.loop-done.done c.min-size.result c.elements_of-all.result _ c.loop-done.block c.read_block.new.block c.requires.can c.requires.settled c.loop-done.invariant.passed
    c.loop-done.invariant.block (omega (arith, c.min-size.ensures)) (omega (arith, c.min-size.ensures, c.loop-done-test.true))
    (c.elements_of-all.ensures.count ∙ ap (λ (t : Triple). size_of t.dims) (c.behind-node.view_is ∙ c.triple.ensures ∙ ap (λ (r : Row). r.triple) c.node.ensures))
    c.read_block.ensures.value c.read_block.ensures.in_range

pub assign_through-requires-clause-places : goal.assign_through-requires-clause-places
assign_through-requires-clause-places g c = c.requires.places ∙ sym (places_stay c.args.table.now c.loop-done.table c.args.id _ c.loop-done.invariant.passed)

pub loop-done-preserved : goal.loop-done-preserved
loop-done-preserved g c =
    let t : Rows = c.args.table.now in
    let now : Rows = c.loop-done.table in
    let n : ℕ = c.min-size.result in
    let k : ℕ = c.loop-done.done in
    let vs : List ℤ = elements (world_of t) c.args.source in
    let same : elements (world_of now) c.args.source ≡ vs = source_elements c.row_laws.ensures c.part_laws.ensures.others t now c.args.id c.args.source _ c.requires.can c.loop-done.invariant.passed in
    let all : c.elements_of-all.result ≡ size_of (row_at t c.args.id).triple.dims = c.elements_of-all.ensures.count ∙ ap (λ (t : Triple). size_of t.dims) (c.behind-node.view_is ∙ c.triple.ensures ∙ ap (λ (r : Row). r.triple) c.node.ensures) in
    let many : length vs ≡ size_of (row_at t c.args.id).triple.dims = elements_count c.row_laws.ensures t c.args.source c.requires.can.order.still c.requires.can.source ∙ c.requires.can.count in
    let room : n ≤ length c.loop-done.block = omega (arith, c.min-size.ensures, c.loop-done.invariant.block) in
    let within : k + n ≤ length vs = omega (arith, all, many, c.min-size.ensures, c.loop-done-test.true) in
    let found : c.read_block.new.block ≡ take (length (take n c.loop-done.block)) (drop k vs) = c.read_block.ensures.value ∙ ap (λ es. take (length (take n c.loop-done.block)) (drop k es)) same in
    let count : length c.read_block.new.block ≡ n = read_many n k vs c.loop-done.block c.read_block.new.block room within found in
    let first : take n (c.read_block.new.block ++ drop n c.loop-done.block) ≡ c.read_block.new.block = read_first n k vs c.loop-done.block c.read_block.new.block room within found in
    let block : take n (c.read_block.new.block ++ drop n c.loop-done.block) ≡ take n (drop k vs) = first ∙ found ∙ ap (λ i. take i (drop k vs)) (length-take-le n c.loop-done.block room) in
    record {
      inside = omega (arith, c.min-size.ensures, c.loop-done-test.true);
      block = omega (arith, count, length-append c.read_block.new.block (drop n c.loop-done.block), length-drop n c.loop-done.block, c.loop-done.invariant.block, c.min-size.ensures);
      passed = passed_more c.row_laws.ensures c.part_laws.ensures.join c.part_laws.ensures.sound t now c.assign_through.new.table c.args.id k n _ vs _ within c.loop-done.invariant.passed block
          (put_here c.row_laws.ensures t now c.args.id c.args.source k n c.elements_of-all.result _ c.loop-done.block c.read_block.new.block c.requires.can c.requires.settled c.loop-done.invariant.passed
          c.loop-done.invariant.block (omega (arith, c.min-size.ensures)) (omega (arith, c.min-size.ensures, c.loop-done-test.true)) all c.read_block.ensures.value c.read_block.ensures.in_range) c.assign_through.ensures.assigned c.assign_through.ensures.waits;
      counted = omega (arith, c.loop-done.invariant.counted, c.assign_through.ensures.counted, ap length first, count);
    }

pub returns-clause-through : goal.returns-clause-through
returns-clause-through g c =
    let t : Rows = c.args.table.now in
    let vs : List ℤ = elements (world_of t) c.args.source in
    let all : c.elements_of-all.result ≡ size_of (row_at t c.args.id).triple.dims = c.elements_of-all.ensures.count ∙ ap (λ (t : Triple). size_of t.dims) (c.behind-node.view_is ∙ c.triple.ensures ∙ ap (λ (r : Row). r.triple) c.node.ensures) in
    let many : length vs ≡ size_of (row_at t c.args.id).triple.dims = elements_count c.row_laws.ensures t c.args.source c.requires.can.order.still c.requires.can.source ∙ c.requires.can.count in
    subst (λ (xs : List ℤ). WentThrough t c.args.id xs c.loop-done.table) (take_all c.loop-done.done vs (omega (arith, all, many, c.loop-done-test.false))) c.loop-done.invariant.passed

pub returns-clause-counted : goal.returns-clause-counted
returns-clause-counted g c =
    let all : c.elements_of-all.result ≡ size_of (row_at c.args.table.now c.args.id).triple.dims = c.elements_of-all.ensures.count ∙ ap (λ (t : Triple). size_of t.dims) (c.behind-node.view_is ∙ c.triple.ensures ∙ ap (λ (r : Row). r.triple) c.node.ensures) in
    omega (arith, all, c.loop-done.invariant.counted, c.loop-done.invariant.inside, c.loop-done-test.false)
