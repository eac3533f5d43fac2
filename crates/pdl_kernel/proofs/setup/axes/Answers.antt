use Rattle.std.proofs.Common.{rules, ◌≡◌, ◌<◌, ◌≤◌, ◌+◌, ◌++◌, ◌∷◌, ℕ, List, All, map, drop, length, get_or, ap, ap₂, sym, ◌∙◌, arith, subst}
use Rattle.std.proofs.Math.ListN.{get_or-map}
use Rattle.std.proofs.lemmas.List.{length-map}
use Rattle.std.proofs.lemmas.List.Elements.{All-push}
use Rattle.pdl_shape.specs.Shape.{extent_limit}
use Rattle.pdl_sig.specs.Resolution.{size_in}
use Rattle.pdl_kernel.specs.declared.axes.Axis.{Axis}
use Rattle.pdl_kernel.specs.Places.{IsSmall, axes_of}
use Rattle.pdl_kernel.proofs.SetupLaid.{axes_at, one_more, small_at}
use Rattle.pdl_kernel.proofs.setup.axes.Goals as goal

pub loop-k-preserved : goal.loop-k-preserved
loop-k-preserved c =
    let f = size_in c.args.resolved.now.sizes in
    let ns = c.args.numbers.now in
    let k = c.loop-k.k in
    let x : Axis = record { size = c.size_in-size.result; stride = c.stride_at.result } in
    let number : get_or ns k 0 ≡ c.from.result = search rules in
    let size : get_or (map f ns) k (f 0) ≡ c.size_in-size.result = get_or-map f ns k 0 ∙ ap f number ∙ sym c.size_in-size.ensures in
    let rest = axes_of (drop (k + 1) (map f ns)) (drop (k + 1) c.args.strides.now) in
    let lt : k < length (map f ns) = rw (length-map ns f) (omega arith) in
    let from : axes_of (drop k (map f ns)) (drop k c.args.strides.now) ≡ x ∷ rest =
    axes_at (map f ns) c.args.strides.now k (f 0) lt ∙ ap₂ (λ (s t : ℕ). let y : Axis = record { size = s; stride = t } in y ∷ rest) size (sym c.stride_at.ensures) in
    let small : IsSmall x = subst (λ z. z ≤ extent_limit) (sym c.stride_at.ensures) (small_at c.args.strides.now k c.requires) in
    let e = c.in_ok-push.ensures.items in
    record {
      same = ap (λ (xs : List Axis). xs ++ rest) e ∙ one_more c.loop-k.axes.items rest (axes_of (map f ns) c.args.strides.now) x (axes_of (drop k (map f ns)) (drop k c.args.strides.now)) from c.loop-k.invariant.same;
      small = subst (All IsSmall) (sym e) (All-push IsSmall c.loop-k.axes.items x c.loop-k.invariant.small small);
    }
