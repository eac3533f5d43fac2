use Rattle.std.proofs.Common.{◌≡◌, ◌≤◌, ℕ, List, All, length, drop, ap, sym, ◌∙◌, arith, subst}
use Rattle.std.proofs.lemmas.List.{length-drop}
use Rattle.std.proofs.lemmas.List.Elements.{All-drop}
use Rattle.pdl_shape.specs.Shape.{extent_limit}
use Rattle.pdl_sig.specs.Resolution.{core_sizes}
use Rattle.pdl_kernel.specs.Places.{AreInOrder, axes_of}
use Rattle.pdl_kernel.proofs.SetupLaid.{laid_in_order}
use Rattle.pdl_kernel.proofs.setup.argument.Goals as goal

pub invariant_of-result : goal.invariant_of-result
invariant_of-result c =
    let r = c.args.resolved.now in
    let a = c.args.arg.now in
    let core = core_sizes r.sizes a in
    let n = length c.as_slice-numbers.result.now in
    let outer = c.in_ok-rest_of.ensures ∙ ap (drop n) c.deref-2.ensures.value in
    record {
      small = c.in_ok-axes.ensures.small;
      few_outer = subst (λ (xs : List ℕ). length xs ≤ 16) (sym outer) (omega (arith, length-drop n c.in_ok-strides.strides.items, c.in_ok-strides.ensures.few));
      small_outer = subst (All (λ s. s ≤ extent_limit)) (sym outer) (All-drop (λ s. s ≤ extent_limit) n c.in_ok-strides.strides.items c.in_ok-strides.ensures.small);
      start_below = omega arith;
      in_order = λ written.
          let axes : c.in_ok-axes.field-0.items ≡ axes_of core c.in_ok-strides.strides.items =
          c.in_ok-axes.ensures.value ∙ ap (λ (ns : List ℕ). axes_of (core_sizes r.sizes (record a { dims = ns })) c.deref.result.now) c.as_slice-numbers.ensures ∙ ap (axes_of core) c.deref.ensures.value in
          subst AreInOrder (sym (axes ∙ ap (axes_of core) c.in_ok-strides.ensures.strides)) (laid_in_order a.role core r.broadcast c.args.shape.now c.args.given written c.requires);
    }
