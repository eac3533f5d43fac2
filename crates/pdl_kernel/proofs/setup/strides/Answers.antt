use Rattle.std.proofs.Common.{rules, ◌≡◌, ◌<◌, ◌≤◌, ◌*◌, ◌+◌, ◌++◌, ◌∷◌, [], ℕ, List, All, drop, length, get_or, max, ap, sym, ◌∙◌, arith, subst, append-nil}
use Rattle.pdl_lemmas.specs.Numbers.{product_within}
use Rattle.std.proofs.lemmas.List.{at_drop_more, drop_all}
use Rattle.std.proofs.lemmas.List.Elements.{All-push}
use Rattle.pdl_shape.specs.Shape.{extent, extent_limit}
use Rattle.pdl_kernel.specs.Places.{strides_from}
use Rattle.pdl_kernel.proofs.SetupLaid.{along_small, one_more, stride_small, strides_long}
use Rattle.pdl_kernel.proofs.setup.strides.Goals as goal

pub loop-size-preserved : goal.loop-size-preserved
loop-size-preserved c =
    let ds = c.dims_list-sizes.result.now in
    let i = c.loop-size.size-index in
    let n = c.loop-size.stride in
    let d = get_or ds i 0 in
    let lt : i < length ds = omega arith in
    let rest = strides_from (n * d) (drop (i + 1) ds) in
    let e = c.in_ok-push.ensures.items in
    let from : strides_from n (drop i ds) ≡ c.stride_along.result ∷ rest = at_drop_more (strides_from n) ds i 0 lt ∙ ap (λ x. x ∷ rest) (sym c.stride_along.ensures) in
    let within : n * (max d 1 * extent (drop (i + 1) ds)) ≤ extent_limit = subst (λ z. n * z ≤ extent_limit) (at_drop_more extent ds i 0 lt) c.loop-size.invariant.within in
    let small : n ≤ extent_limit = stride_small n (extent (drop i ds)) (c.shape_laws.ensures.sizes.extent_above (drop i ds)) c.loop-size.invariant.within in
    record {
      same = ap (λ (xs : List ℕ). xs ++ rest) e ∙ one_more c.loop-size.strides.items rest (strides_from 1 ds) c.stride_along.result (strides_from n (drop i ds)) from c.loop-size.invariant.same;
      within = product_within n d (extent (drop (i + 1) ds)) extent_limit within;
      small = subst (All (λ s. s ≤ extent_limit)) (sym e) (All-push (λ s. s ≤ extent_limit) c.loop-size.strides.items c.stride_along.result c.loop-size.invariant.small (subst (λ z. z ≤ extent_limit) (sym c.stride_along.ensures) (along_small d n small)));
    }

pub returns-clause-few : goal.returns-clause-few
returns-clause-few c =
    let ds = c.dims_list-sizes.result.now in
    let none : drop c.loop-size.size-index ds ≡ [] = drop_all c.loop-size.size-index ds c.loop-size-test.false in
    let all : c.loop-size.strides.items ≡ strides_from 1 ds =
    sym (append-nil c.loop-size.strides.items) ∙ ap (λ xs. c.loop-size.strides.items ++ strides_from c.loop-size.stride xs) (sym none) ∙ c.loop-size.invariant.same in
    let count : length c.loop-size.strides.items ≡ length ds = ap (length {A = ℕ}) all ∙ strides_long 1 ds in
    let few : length ds ≤ 16 = search rules in
    omega (arith, count, few)
