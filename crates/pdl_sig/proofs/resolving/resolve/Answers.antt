use Rattle.std.proofs.Common.{[], ◌≡◌, false, length, Some, ap, ap₂, sym, ◌∙◌, subst, Result}
use Rattle.std.specs.List.{list_any}
use Rattle.pdl_sig.specs.declared.Resolved.{Resolved}
use Rattle.pdl_sig.specs.Resolution.{Unresolved, inputs, handed, cores, sizes_from, is_unfit, joined_with, named_sizes, resolved_by, resolution, Answers}
use Rattle.pdl_sig.proofs.ResolutionOutcomes.{reached}
use Rattle.pdl_sig.proofs.SolutionLemmas.{answers_solve}
use Rattle.pdl_sig.proofs.resolving.resolve.Goals as goal

pub returns : goal.returns
returns c = record { resolved = answer; solved = answers_solve c.args.signature.now c.args.given.now c.resolved_by.result answer } where
  answer : Answers (resolution c.args.signature.now c.args.given.now) c.resolved_by.result
  answer =
      let signature = c.args.signature.now in
      let given = c.args.given.now in
      let args_are : c.as_slice-args.result.now ≡ signature.args = c.as_slice-args.ensures in
      let cores_are : c.as_slice.result.now ≡ cores (handed signature.args given) =
      c.as_slice.ensures.value ∙ c.in_ok-cores.ensures ∙ ap (λ x. cores (handed x given)) args_are in
      let sizes_are : c.in_ok-sizes.sizes.items ≡ named_sizes signature given =
      c.in_ok-sizes.ensures ∙ ap₂ (λ x y. sizes_from x 0 y) cores_are c.as_slice-2.ensures in
      let fit : list_any (is_unfit c.in_ok-sizes.sizes.items) (cores (handed signature.args given)) ≡ false =
      sym (ap₂ (λ x y. list_any (is_unfit x) y) c.as_slice-3.ensures.value (c.as_slice-4.ensures.value ∙ c.in_ok-cores.ensures ∙ ap (λ x. cores (handed x given)) args_are)) ∙ sym c.if-any_unfit.ensures in
      let joined : Some c.in-Some.broadcast.items ≡ joined_with [] (handed signature.args given) =
      c.in-Some.ensures.joined ∙ ap (λ x. joined_with [] (handed x given)) args_are in
      let same : resolved_by signature.args given c.in_ok-sizes.sizes.items (Some c.in-Some.broadcast.items) ≡ resolution signature given =
      reached signature given c.in_ok-sizes.sizes.items (Some c.in-Some.broadcast.items)
      (record { count = c.if-given-count_inputs.false ∙ c.count_inputs.ensures ∙ ap (λ x. length (inputs x)) args_are; sizes_are = sizes_are; fit = fit; joined_is = joined }) in
      let call : resolved_by c.as_slice-args.result.now given c.as_slice-in-Some.result.now (Some c.as_slice-in-Some-2.result.now) ≡ resolution signature given =
      ap (λ x. resolved_by x given c.as_slice-in-Some.result.now (Some c.as_slice-in-Some-2.result.now)) args_are
      ∙ ap₂ (λ x y. resolved_by signature.args given x (Some y)) c.as_slice-in-Some.ensures.value c.as_slice-in-Some-2.ensures
      ∙ same in
      let P : Result Resolved Unresolved → Type 0 = λ x. Answers x c.resolved_by.result in
      subst P call c.resolved_by.ensures
