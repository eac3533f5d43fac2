-- Lists that are folded across are reduced one by one.
use Rattle.std.proofs.Common.{◌≡◌, refl, ap, ap₂, sym, ◌∙◌}
use Rattle.std.specs.List.{flat_map}
use Rattle.pdl_numbers.specs.Typed.{TypedElements}
use Rattle.pdl_reduce.specs.declared.Reduction.{Reduction}
use Rattle.pdl_reduce.specs.declared.Reduction.TheVariants.{Sumover, Prodover, Maximum, Minimum}
use Rattle.pdl_reduce.specs.Reductions.{is_extreme, lists, reduced_row, reduced_type}
use Rattle.pdl_reduce.proofs.AcrossLemmas.{sums_across, products_across, greatest_across, least_across}
use Rattle.pdl_reduce.proofs.BlockReadiness.{if_ok_as, kept}
use Rattle.pdl_reduce.proofs.reducing.reduced_window.Goals as goal

pub returns-in-Sumover : goal.returns-in-Sumover
returns-in-Sumover c =
    let made : Reduction → TypedElements = λ k. record { ty = reduced_type k c.args.a.now.ty; elems = flat_map (reduced_row k c.args.a.now.ty) (lists c.args.count c.args.size c.args.a.now.elems) } in
    let ty : c.reduced_type-ty.result ≡ reduced_type Sumover c.args.a.now.ty = c.reduced_type-ty.ensures ∙ ap₂ reduced_type c.in-Sumover.is c.strided_type.ensures in
    if_ok_as c.folded_lists.result _ _ c.folded_lists.ensures
    (ap₂ kept ty (sums_across c.wrapping_laws.ensures c.args.a.now.ty c.reduced_type-ty.result c.args.count c.args.size c.args.a.now.elems ty)
    ∙ ap made (sym c.in-Sumover.is))

pub returns-in-Prodover : goal.returns-in-Prodover
returns-in-Prodover c =
    let made : Reduction → TypedElements = λ k. record { ty = reduced_type k c.args.a.now.ty; elems = flat_map (reduced_row k c.args.a.now.ty) (lists c.args.count c.args.size c.args.a.now.elems) } in
    let ty : c.reduced_type-ty.result ≡ reduced_type Prodover c.args.a.now.ty = c.reduced_type-ty.ensures ∙ ap₂ reduced_type c.in-Prodover.is c.strided_type.ensures in
    if_ok_as c.folded_lists-in-Prodover.result _ _ c.folded_lists-in-Prodover.ensures
    (ap₂ kept ty (products_across c.wrapping_laws.ensures c.args.a.now.ty c.reduced_type-ty.result c.args.count c.args.size c.args.a.now.elems ty)
    ∙ ap made (sym c.in-Prodover.is))

pub returns-in-Maximum : goal.returns-in-Maximum
returns-in-Maximum c =
    let made : Reduction → TypedElements = λ k. record { ty = reduced_type k c.args.a.now.ty; elems = flat_map (reduced_row k c.args.a.now.ty) (lists c.args.count c.args.size c.args.a.now.elems) } in
    let ty : c.reduced_type-ty.result ≡ reduced_type Maximum c.args.a.now.ty = c.reduced_type-ty.ensures ∙ ap₂ reduced_type c.in-Maximum.is c.strided_type.ensures in
    if_ok_as c.folded_lists-in-Maximum.result _ _ c.folded_lists-in-Maximum.ensures
    (ap₂ kept ty (greatest_across c.wrapping_laws.ensures c.args.a.now.ty c.reduced_type-ty.result _ c.args.count c.args.size c.args.a.now.elems ty refl (c.requires.some (ap is_extreme c.in-Maximum.is)) c.requires.whole c.strided_is_in_range.ensures)
    ∙ ap made (sym c.in-Maximum.is))

pub returns-in-Minimum : goal.returns-in-Minimum
returns-in-Minimum c =
    let made : Reduction → TypedElements = λ k. record { ty = reduced_type k c.args.a.now.ty; elems = flat_map (reduced_row k c.args.a.now.ty) (lists c.args.count c.args.size c.args.a.now.elems) } in
    let ty : c.reduced_type-ty.result ≡ reduced_type Minimum c.args.a.now.ty = c.reduced_type-ty.ensures ∙ ap₂ reduced_type c.in-Minimum.is c.strided_type.ensures in
    if_ok_as c.folded_lists-in-Minimum.result _ _ c.folded_lists-in-Minimum.ensures
    (ap₂ kept ty (least_across c.wrapping_laws.ensures c.args.a.now.ty c.reduced_type-ty.result _ c.args.count c.args.size c.args.a.now.elems ty refl (c.requires.some (ap is_extreme c.in-Minimum.is)) c.requires.whole c.strided_is_in_range.ensures)
    ∙ ap made (sym c.in-Minimum.is))
