-- One increment more, and all of them at the end.
use Rattle.std.proofs.Common.{◌≡◌, List, ℕ, ℤ, pos, ◌+ℤ◌, ◌<ℤ◌, length, arith, subst, sym, ap, ap₂, ◌∙◌}
use Rattle.std.proofs.lemmas.Int.{to_z-of_z}
use Rattle.std.specs.Int.{w32}
use Rattle.pdl_shape.specs.Broadcast.{BroadcastsTo, cut_to}
use Rattle.pdl_shape.specs.Shape.{IsWithin}
use Rattle.pdl_shape.specs.Triple.{Triple, moved, place_of}
use Rattle.pdl_shape.proofs.BroadcastLemmas.{cut_within}
use Rattle.pdl_shape.proofs.TripleStretches.{stretched_incs, stretching_shows, IsTriple-stretching, listed_more, listed_count, listed_all}
use Rattle.pdl_shape.proofs.stretched.stretched_triple.Goals as goal

pub push_reserved-requires : goal.push_reserved-requires
push_reserved-requires c =
    let same : length c.dims_list-joined.result.now ≡ length c.args.dims.now = ap (λ (xs : List ℕ). length xs) c.dims_list-joined.ensures.list in
    let count : length c.loop-dimension.items.items ≡ c.loop-dimension.dimension = listed_count _ _ _ _ _ _ (omega arith) c.loop-dimension.invariant in
    (omega arith, omega (arith, c.loop-dimension.invariant.room_is, c.dims_list-joined.ensures.limits.count))

pub loop-dimension-preserved : goal.loop-dimension-preserved
loop-dimension-preserved c =
    let same : length c.dims_list-joined.result.now ≡ length c.args.dims.now = ap (λ (xs : List ℕ). length xs) c.dims_list-joined.ensures.list in
    let paired : length c.incs_list-incs.result.now ≡ length c.dims_list-sizes.result.now =
    ap (λ (xs : List ℤ). length xs) c.incs_list-incs.ensures.list ∙ c.triple.invariant.paired ∙ ap (λ (xs : List ℕ). length xs) (sym c.dims_list-sizes.ensures.list) in
    rw (c.push_reserved.ensures.items, c.push_reserved.ensures.capacity, to_z-of_z w32 c.stretched_increment.result (record { sfits = c.stretched_increment.type_inv }))
    (listed_more _ _ _ _ _ _ _ (omega arith) paired c.stretched_increment.ensures c.loop-dimension.invariant)

-- the increments listed are those of the stretched window
listed : (c : goal.After-copy_dims) → c.loop-dimension.items.items ≡ stretched_incs c.triple.inside.incs c.triple.inside.dims c.args.dims.now
listed c =
    let same : length c.dims_list-joined.result.now ≡ length c.args.dims.now = ap (λ (xs : List ℕ). length xs) c.dims_list-joined.ensures.list in
    listed_all _ _ c.loop-dimension.dimension _ _ _ (omega (arith, c.loop-dimension-test.false)) c.loop-dimension.invariant
    ∙ ap₂ (λ (is : List ℤ) (ds : List ℕ). stretched_incs is ds c.args.dims.now) c.incs_list-incs.ensures.list c.dims_list-sizes.ensures.list

pub invariant_of-result : goal.invariant_of-result
invariant_of-result c =
    let same : length c.dims_list-joined.result.now ≡ length c.args.dims.now = ap (λ (xs : List ℕ). length xs) c.dims_list-joined.ensures.list in
    let count : length c.loop-dimension.items.items ≡ c.loop-dimension.dimension = listed_count _ _ _ _ _ _ (omega (arith, c.loop-dimension.auto.dimension-end)) c.loop-dimension.invariant in
    omega (arith, c.loop-dimension.auto.dimension-end, c.dims_list-joined.ensures.limits.count)

-- the window as its fields have it
given : (c : goal.After-copy_dims) → Triple
given c = record { offset = c.triple.inside.offset; incs = c.triple.inside.incs; dims = c.triple.inside.dims }

broadcasts : (c : goal.After-copy_dims) → BroadcastsTo c.triple.inside.dims c.args.dims.now
broadcasts c = subst (λ (t : Triple). BroadcastsTo t.dims c.args.dims.now) (sym c.triple.view_is) c.requires

pub invariant_of-result-2 : goal.invariant_of-result-2
unfolding given
invariant_of-result-2 c =
    rw (c.copy_dims.ensures, listed c) (IsTriple-stretching (given c) c.args.dims.now c.triple.invariant (broadcasts c))

pub returns-clause-shows : goal.returns-clause-shows
unfolding given
returns-clause-shows c cs w =
    ap (λ (is : List ℤ). pos c.triple.inside.offset +ℤ moved is cs) (listed c)
    ∙ stretching_shows (given c) c.args.dims.now cs c.triple.invariant (broadcasts c) w
    ∙ ap (λ (t : Triple). place_of t (cut_to t.dims cs)) c.triple.view_is

pub returns-clause-reaches : goal.returns-clause-reaches
unfolding given
returns-clause-reaches c n reach cs w =
    let inside : IsWithin c.args.dims.now cs = subst (λ (ds : List ℕ). IsWithin ds cs) c.copy_dims.ensures w in
    let shows : place_of (record { offset = c.triple.inside.offset; incs = c.loop-dimension.items.items; dims = c.copy_dims.result }) cs ≡ place_of c.args.triple.now (cut_to c.args.triple.now.dims cs) =
    ap (λ (is : List ℤ). pos c.triple.inside.offset +ℤ moved is cs) (listed c)
    ∙ stretching_shows (given c) c.args.dims.now cs c.triple.invariant (broadcasts c) inside
    ∙ ap (λ (t : Triple). place_of t (cut_to t.dims cs)) c.triple.view_is in
    subst (λ (z : ℤ). z <ℤ pos n) (sym shows) (reach (cut_to c.args.triple.now.dims cs) (cut_within c.args.triple.now.dims c.args.dims.now cs c.requires inside))
