-- What is copied is of the type already.
use Rattle.std.proofs.Common.{rules, ◌≡◌, ℕ, ℤ, List, take, map, All, ap, ap₂, sym, subst, ◌∙◌}
use Rattle.pdl_elem.specs.declared.Ty.{Ty}
use Rattle.pdl_elem.specs.Numbers.{wrapped}
use Rattle.pdl_elem.specs.Types.{InRange}
use Rattle.pdl_numbers.specs.Typed.{TypedElements}
use Rattle.pdl_ops.proofs.BlockLists.{wrapped_first}
use Rattle.pdl_ops.proofs.changes.converted_elements.Goals as goal
use Rattle.pdl_ops.proofs.changes.converted_elements.Goals.{then-eq+in_ok-begun, else-eq}

pub changed_elements-requires-clause-begun : goal.changed_elements-requires-clause-begun
changed_elements-requires-clause-begun c =
    let es : List ℤ = c.args.a.now.elems in
    elim c.if-eq.branch [
      | then-eq+in_ok-begun w ↦
          let same : c.args.a.now.ty ≡ c.args.ty = search rules in
          let stay : map (wrapped c.args.ty) (take w.in_ok-begun.begun es) ≡ take w.in_ok-begun.begun es =
          wrapped_first c.wrapping_laws.ensures c.args.ty es w.in_ok-begun.begun (subst (λ (t : Ty). All (InRange t) es) same c.strided_is_in_range.ensures) in
          w.made-is ∙ w.in_ok-begun.ensures.made ∙ ap₂ (λ (t : Ty) (xs : List ℤ). record { ty = t; elems = xs }) same (sym stay ∙ ap (λ (k : ℕ). map (wrapped c.args.ty) (take k es)) (sym w.begun-is))
      | else-eq w ↦
          w.made-is ∙ c.requires ∙ ap (λ (k : ℕ). record { ty = c.args.ty; elems = map (wrapped c.args.ty) (take k es) }) (sym w.begun-is)
    ]
