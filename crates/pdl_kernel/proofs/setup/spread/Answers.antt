use Rattle.std.proofs.Common.{◌≡◌, ℕ, ℤ, ◌+◌, ◌++◌, ◌∷◌, [], List, ap, sym, ◌∙◌, arith, rules, map, w64, to_z, of_z}
use mir.Val.{SFits}
use Rattle.std.specs.List.{range_with_len}
use Rattle.std.proofs.lemmas.Int.{to_z-of_z}
use Rattle.std.proofs.lemmas.List.FromFn.{map-range_with_len_more}
use Rattle.pdl_broadcast.specs.Walk.{Walk, standing_at}
use Rattle.pdl_buf.specs.Made.{broadcast_element}
use Rattle.pdl_shape.specs.Shape.{coordinates_of, size_of}
use Rattle.pdl_kernel.proofs.setup.spread.Goals as goal

-- the walk's next coordinates
abbrev moved_on : Walk → Walk
moved_on w = record w { index = w.index + 1 }

pub loop-place-preserved : goal.loop-place-preserved
loop-place-preserved c =
    let inv = c.loop-place.invariant in
    let ty = c.args.ty in
    let g = c.args.given.now in
    let f : ℕ → ℤ = λ q. broadcast_element ty g (coordinates_of c.args.shape.now q) in
    let i = c.loop-place._place in
    let fits : SFits w64 c.given_element.result = search rules in
    let z : ℤ = to_z w64 (of_z w64 c.given_element.result) in
    let x : z ≡ f i = to_z-of_z w64 c.given_element.result fits ∙ c.given_element.ensures ∙ ap (broadcast_element ty g) (c.coordinates.ensures ∙ ap standing_at inv.walk) in
    record {
      walk = c.next.ensures ∙ ap moved_on inv.walk;
      made = c.in_ok-push.ensures.items ∙ ap (λ (xs : List ℤ). xs ++ z ∷ []) inv.made ∙ ap (λ (y : ℤ). map f (range_with_len 0 i) ++ y ∷ []) x ∙ sym (map-range_with_len_more f 0 i i (omega arith));
      bound = omega (arith, c.loop-place-test.true, c.elements_of-place-end.ensures.count);
    }

pub returns : goal.returns
returns c =
    let inv = c.loop-place.invariant in
    let g = c.args.given.now in
    let f : ℕ → ℤ = λ q. broadcast_element c.args.ty g (coordinates_of c.args.shape.now q) in
    let all : c.loop-place._place ≡ size_of c.args.shape.now = omega (arith, c.loop-place-test.false, c.elements_of-place-end.ensures.count, inv.bound) in
    inv.made ∙ ap (λ n. map f (range_with_len 0 n)) all
