use Rattle.std.proofs.Common.{◌≡◌, ◌∙◌, ◌++◌, ◌*◌, ap, sym, List, ℕ, ℤ, [], length, drop, arith, IfSome, IsSome, Option, Some, None}
use Rattle.std.specs.Prelude.{vec_len}
use Rattle.pdl_shape.specs.Shape.{size_of}
use Rattle.pdl_shape.specs.Limits.{checked_dims}
use Rattle.pdl_shape.specs.Places.{places_of}
use Rattle.pdl_choice.specs.declared.corners.Corners.{Corners}
use Rattle.pdl_choice.specs.declared.edges.Edge.TheVariants.{Refuse}
use Rattle.pdl_choice.specs.Rounds.{AreCorners, window_starts}
use Rattle.pdl_choice.specs.Range.{AllAllowed, first_refused, corner_len, inner_dims, windowed_dims, window_sizes, window_refusal, range_source}
use Rattle.pdl_choice.proofs.InsidePlaces.{known_allowed}
use Rattle.pdl_choice.proofs.RangeCorners.{window_places_are, corner_size}
use Rattle.pdl_choice.proofs.ShapePositions.{size_of-append}
use Rattle.pdl_choice.proofs.RangeDims.{range_dims-fit, checked_dims-back, checked_dims-ok, nowhere_said, refused_as_well}
use Rattle.pdl_choice.proofs.windows.ranged.Goals as goal

-- where none is known to reach beyond, no edge refuses a window
inside_allowed : (o : Option Corners) (parent windows : List ℕ) (ind : List ℤ) (corners : ℕ) → length ind ≡ length windows * corners → IfSome o (λ k. vec_len k.bases ≡ corners) → IfSome o (λ k. AreCorners parent (window_starts parent windows) ind k.bases.items k.beyond.items)
    → IsSome o → IfSome o (λ k. k.beyond.items ≡ []) → AllAllowed Refuse parent windows ind
inside_allowed None parent windows ind corners whole long known some none = absurd (cc)
inside_allowed (Some k) parent windows ind corners whole long known some none =
    let bases : corners ≡ length k.bases.items = omega (arith, k.bases.ok, long) in
    known_allowed parent windows ind k.bases.items k.beyond.items (whole ∙ ap (λ (n : ℕ). length windows * n) bases) known none

pub first_refusal-requires-clause-inside : goal.first_refusal-requires-clause-inside
first_refusal-requires-clause-inside c inside =
    let windows : List ℕ = c.as_slice-windows.result.now in
    let len : length windows ≡ corner_len c.args.ind_dims.now = c.as_slice-windows.ensures.len ∙ c.in-Ok.ensures.len ∙ c.corner_dims-count.ensures.count in
    let corners : c.count_of-corners.result ≡ size_of (drop 1 c.args.ind_dims.now) = c.count_of-corners.ensures ∙ ap size_of c.corner_dims-count.ensures.outer in
    inside_allowed c.in_ok-known.known c.args.parent.now windows c.args.ind.now c.count_of-corners.result
    (c.requires.whole ∙ corner_size c.args.ind_dims.now ∙ ap (λ (n : ℕ). n * size_of (drop 1 c.args.ind_dims.now)) (sym len) ∙ ap (λ (n : ℕ). length windows * n) (sym corners))
    c.in_ok-known.ensures.long c.in_ok-known.ensures.known (c.are_inside-inside.ensures.some inside) (c.are_inside-inside.ensures.none_beyond inside)

pub overflow_cast-result : goal.overflow_cast-result
overflow_cast-result c =
    omega (arith, c.in-Some.ensures.within, c.requires.whole, c.shape_laws.ensures.sizes.size_within c.args.ind_dims.now, c.requires.ind_limits.within)

pub returns-in-Some-clause-refusal : goal.returns-in-Some-clause-refusal
returns-in-Some-clause-refusal c =
    let count = c.corner_dims-count.ensures.count in
    range_dims-fit c.args.parent.now c.args.ind_dims.now c.args.ind.now c.args.sizes.now c.args.edge c.as_slice-windows.result.now (Some c.in-Some.at)
    (ap (λ (n : ℕ). window_refusal (length c.args.parent.now) n c.args.sizes.now) (sym count) ∙ c.in-Ok.ensures.fit)
    (c.as_slice-windows.ensures.value ∙ c.in-Ok.ensures.windows ∙ ap (λ (n : ℕ). window_sizes n c.args.sizes.now) count)
    c.in-Some.ensures.first

pub returns-in-Err-windowed-clause-refusal : goal.returns-in-Err-windowed-clause-refusal
returns-in-Err-windowed-clause-refusal c =
    let count = c.corner_dims-count.ensures.count in
    refused_as_well _ _ _ (range_dims-fit c.args.parent.now c.args.ind_dims.now c.args.ind.now c.args.sizes.now c.args.edge c.as_slice-windows.result.now None
    (ap (λ (n : ℕ). window_refusal (length c.args.parent.now) n c.args.sizes.now) (sym count) ∙ c.in-Ok.ensures.fit)
    (c.as_slice-windows.ensures.value ∙ c.in-Ok.ensures.windows ∙ ap (λ (n : ℕ). window_sizes n c.args.sizes.now) count)
    c.in_default.ensures.first
    ∙ ap (λ (ds : List ℕ). checked_dims (ds ++ inner_dims c.args.parent.now c.as_slice-windows.result.now)) (sym c.corner_dims-count.ensures.outer)) c.in-Err-windowed.ensures.refusal

pub window_places-requires-clause-counts : goal.window_places-requires-clause-counts
window_places-requires-clause-counts c =
    let outer = c.corner_dims-count.result.1.now in
    let inner = inner_dims c.args.parent.now c.as_slice-windows.result.now in
    c.elements_of-count.ensures.count
    ∙ ap size_of (sym (checked_dims-ok (outer ++ inner) c.in-Ok-windowed.dims c.in-Ok-windowed.ensures.dims))
    ∙ size_of-append outer inner
    ∙ ap (λ (n : ℕ). n * size_of inner) (sym c.count_of-corners.ensures)

pub window_places-requires-clause-inner_bounded : goal.window_places-requires-clause-inner_bounded
window_places-requires-clause-inner_bounded c =
    checked_dims-back c.shape_laws.ensures.sizes c.corner_dims-count.result.1.now (inner_dims c.args.parent.now c.as_slice-windows.result.now) c.in-Ok-windowed.dims c.in-Ok-windowed.ensures.dims

pub returns-clause-dims : goal.returns-clause-dims
returns-clause-dims c =
    let count = c.corner_dims-count.ensures.count in
    range_dims-fit c.args.parent.now c.args.ind_dims.now c.args.ind.now c.args.sizes.now c.args.edge c.as_slice-windows.result.now None
    (ap (λ (n : ℕ). window_refusal (length c.args.parent.now) n c.args.sizes.now) (sym count) ∙ c.in-Ok.ensures.fit)
    (c.as_slice-windows.ensures.value ∙ c.in-Ok.ensures.windows ∙ ap (λ (n : ℕ). window_sizes n c.args.sizes.now) count)
    c.in_default.ensures.first
    ∙ ap (λ (ds : List ℕ). checked_dims (ds ++ inner_dims c.args.parent.now c.as_slice-windows.result.now)) (sym c.corner_dims-count.ensures.outer)
    ∙ c.in-Ok-windowed.ensures.dims

pub returns-clause-places : goal.returns-clause-places
returns-clause-places c =
    let count = c.corner_dims-count.ensures.count in
    let windows = c.as_slice-windows.result.now in
    let len : length windows ≡ corner_len c.args.ind_dims.now = c.as_slice-windows.ensures.len ∙ c.in-Ok.ensures.len ∙ count in
    let corners : c.count_of-corners.result ≡ size_of (drop 1 c.args.ind_dims.now) = c.count_of-corners.ensures ∙ ap size_of c.corner_dims-count.ensures.outer in
    let dims : windowed_dims c.args.parent.now c.args.ind_dims.now windows ≡ c.in-Ok-windowed.dims =
    ap (λ (ds : List ℕ). ds ++ inner_dims c.args.parent.now windows) (sym c.corner_dims-count.ensures.outer)
    ∙ checked_dims-ok (c.corner_dims-count.result.1.now ++ inner_dims c.args.parent.now windows) c.in-Ok-windowed.dims c.in-Ok-windowed.ensures.dims in
    c.in_ok-places.ensures ∙ c.in_ok-list.ensures.places
    ∙ window_places_are c.shape_laws.ensures.positions c.args.edge c.args.parent.now c.args.ind_dims.now c.args.ind.now c.args.sizes.now windows c.count_of-corners.result c.elements_of-count.result
    (c.as_slice-windows.ensures.value ∙ c.in-Ok.ensures.windows ∙ ap (λ (n : ℕ). window_sizes n c.args.sizes.now) count)
    len corners
    (c.elements_of-count.ensures.count ∙ ap size_of (sym dims))
    (c.requires.whole ∙ corner_size c.args.ind_dims.now ∙ ap (λ (n : ℕ). n * size_of (drop 1 c.args.ind_dims.now)) (sym len) ∙ ap (λ (n : ℕ). length windows * n) (sym corners))
    ∙ ap (λ (ds : List ℕ). places_of ds c.args.parent.now (range_source c.args.parent.now c.args.ind_dims.now c.args.ind.now c.args.sizes.now c.args.edge)) dims

pub returns-in-Some-clause-at : goal.returns-in-Some-clause-at
returns-in-Some-clause-at c =
    let count = c.corner_dims-count.ensures.count in
    let windows = c.as_slice-windows.ensures.value ∙ c.in-Ok.ensures.windows ∙ ap (λ (n : ℕ). window_sizes n c.args.sizes.now) count in
    ap (λ us. first_refused c.args.edge c.args.parent.now us c.args.ind.now) (sym windows) ∙ sym c.in-Some.ensures.first

pub returns-in-Err-windowed-clause-at : goal.returns-in-Err-windowed-clause-at
returns-in-Err-windowed-clause-at c = nowhere_said _ _ c.in-Err-windowed.ensures.nowhere

pub returns-in-Err-clause-at : goal.returns-in-Err-clause-at
returns-in-Err-clause-at c = nowhere_said _ _ c.in-Err.ensures.nowhere
