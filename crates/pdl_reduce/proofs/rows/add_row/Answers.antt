-- Each number is one of the result's type, and prefixes are wrapped late.
use Rattle.std.proofs.Common.{◌≡◌, ℤ, pos, List, ◌++◌, take, drop, to_z, of_z, FitsSigned, ap, sym, subst, ◌∙◌}
use Rattle.std.proofs.lemmas.Int.{to_z-of_z}
use Rattle.std.specs.Int.{w64}
use Rattle.pdl_elem.specs.declared.Ty.{Ty}
use Rattle.pdl_elem.specs.Numbers.{wrapped}
use Rattle.pdl_elem.specs.Types.{InRange}
use Rattle.pdl_numbers.specs.Prefixes.{wrapped_prefixes}
use Rattle.pdl_reduce.specs.declared.Reduction.{Reduction}
use Rattle.pdl_reduce.specs.declared.Reduction.TheVariants.{Sumover, Prodover, Maximum, Minimum, MaximumInd, MinimumInd}
use Rattle.pdl_reduce.specs.Reductions.{reduced_row, reduced_type, sum_type}
use Rattle.pdl_reduce.specs.Folds.{total, product, at_prefixes}
use Rattle.pdl_reduce.proofs.FoldNumbers.{added_as, adding, multiplying, wrapped_sum, wrapped_product}
use Rattle.pdl_reduce.proofs.FoldPrefixes.{prefixes_are}
use Rattle.pdl_reduce.proofs.rows.add_row.Goals as goal

-- a number of the type of one reduction
of_kind : (t : Ty) (k m : Reduction) (ty : Ty) (z : ℤ) (fits : FitsSigned w64 z) → t ≡ reduced_type k ty → k ≡ m → InRange (reduced_type m ty) z → InRange t (to_z w64 (of_z w64 z))
of_kind t k m ty z fits e f h =
    subst (λ (u : Ty). InRange u (to_z w64 (of_z w64 z))) (sym (e ∙ ap (λ (j : Reduction). reduced_type j ty) f)) (subst (InRange (reduced_type m ty)) (sym (to_z-of_z w64 z fits)) h)

pub push-requires : goal.push-requires
push-requires c =
    of_kind c.args.made.now.ty c.args.kind Sumover c.args.a.now.ty c.sum_of.result (record { sfits = c.sum_of.type_inv }) c.requires.typed c.in-Sumover.is c.sum_of.ensures.in_range

pub push-requires-in-Prodover : goal.push-requires-in-Prodover
push-requires-in-Prodover c =
    of_kind c.args.made.now.ty c.args.kind Prodover c.args.a.now.ty c.product_of.result (record { sfits = c.product_of.type_inv }) c.requires.typed c.in-Prodover.is c.product_of.ensures.in_range

pub push-requires-in-Maximum : goal.push-requires-in-Maximum
push-requires-in-Maximum c =
    of_kind c.args.made.now.ty c.args.kind Maximum c.args.a.now.ty c.greatest_of.result (record { sfits = c.greatest_of.type_inv }) c.requires.typed c.in-Maximum.is c.greatest_of.ensures.in_range

pub push-requires-in-Minimum : goal.push-requires-in-Minimum
push-requires-in-Minimum c =
    of_kind c.args.made.now.ty c.args.kind Minimum c.args.a.now.ty c.least_of.result (record { sfits = c.least_of.type_inv }) c.requires.typed c.in-Minimum.is c.least_of.ensures.in_range

pub push-requires-in-MaximumInd : goal.push-requires-in-MaximumInd
push-requires-in-MaximumInd c =
    of_kind c.args.made.now.ty c.args.kind MaximumInd c.args.a.now.ty c.greatest_place.result (record { sfits = c.greatest_place.type_inv }) c.requires.typed c.in-MaximumInd.is c.greatest_place.ensures.in_range

pub push-requires-in-MinimumInd : goal.push-requires-in-MinimumInd
push-requires-in-MinimumInd c =
    of_kind c.args.made.now.ty c.args.kind MinimumInd c.args.a.now.ty c.least_place.result (record { sfits = c.least_place.type_inv }) c.requires.typed c.in-MinimumInd.is c.least_place.ensures.in_range

pub returns-in-Cumusumover-clause-value : goal.returns-in-Cumusumover-clause-value
returns-in-Cumusumover-clause-value c =
    let xs : List ℤ = take c.args.count (drop c.args.first c.args.a.now.elems) in
    let old : List ℤ = c.args.made.now.elems in
    let t : Ty = c.args.made.now.ty in
    let ty : t ≡ sum_type c.args.a.now.ty = c.requires.typed ∙ ap (λ (k : Reduction). reduced_type k c.args.a.now.ty) c.in-Cumusumover.is in
    let all : wrapped_prefixes t adding (pos 0) xs ≡ at_prefixes (λ ys. wrapped t (total ys)) xs =
    prefixes_are c.prefix_laws.ensures t adding (pos 0) (λ ys. wrapped t (total ys)) xs (wrapped_sum c.wrapping_laws.ensures t) in
    added_as _ _ _ _ c.run_window.ensures.value
    (ap (λ (zs : List ℤ). old ++ zs) (all ∙ ap (λ (u : Ty). at_prefixes (λ ys. wrapped u (total ys)) xs) ty)
    ∙ ap (λ (k : Reduction). old ++ reduced_row k c.args.a.now.ty xs) (sym c.in-Cumusumover.is))

pub returns-in-Cumuprodover-clause-value : goal.returns-in-Cumuprodover-clause-value
returns-in-Cumuprodover-clause-value c =
    let xs : List ℤ = take c.args.count (drop c.args.first c.args.a.now.elems) in
    let old : List ℤ = c.args.made.now.elems in
    let t : Ty = c.args.made.now.ty in
    let ty : t ≡ sum_type c.args.a.now.ty = c.requires.typed ∙ ap (λ (k : Reduction). reduced_type k c.args.a.now.ty) c.in-Cumuprodover.is in
    let all : wrapped_prefixes t multiplying (pos 1) xs ≡ at_prefixes (λ ys. wrapped t (product ys)) xs =
    prefixes_are c.prefix_laws.ensures t multiplying (pos 1) (λ ys. wrapped t (product ys)) xs (wrapped_product c.wrapping_laws.ensures t) in
    added_as _ _ _ _ c.run_window-in-Cumuprodover.ensures.value
    (ap (λ (zs : List ℤ). old ++ zs) (all ∙ ap (λ (u : Ty). at_prefixes (λ ys. wrapped u (product ys)) xs) ty)
    ∙ ap (λ (k : Reduction). old ++ reduced_row k c.args.a.now.ty xs) (sym c.in-Cumuprodover.is))
