-- A step along dimension 1 goes as far as its increment says, and the cells stay packed.
use Rattle.std.proofs.Common.{◌≡◌, ℕ, ℤ, List, pos, ◌+ℤ◌, ◌*ℤ◌, ◌++◌, length, map, take, drop, get_or, rules, arith, to_z, of_z, ap, ap₂, sym, subst, ◌∙◌}
use Rattle.std.proofs.lemmas.Int.{to_z-of_z}
use Rattle.std.proofs.lemmas.List.{length-map, take_at}
use Rattle.std.specs.Int.{w32}
use Rattle.std.specs.Int.RustNames.{unsigned_abs}
use Rattle.pdl_elem.specs.declared.Ty.{Ty}
use Rattle.pdl_shape.specs.Triple.{Triple}
use Rattle.pdl_numbers.specs.Bytes.{ArePacked, number_of}
use Rattle.pdl_numbers.specs.Folds.{HasFolded, shown_across}
use Rattle.pdl_numbers.specs.Reads.{IsInside}
use Rattle.pdl_numbers.proofs.FoldLemmas.{folded_as}
use Rattle.pdl_numbers.proofs.ReadRuns.{Across, across_at}
use Rattle.pdl_numbers.proofs.packed.Packed.fold_across.Goals as goal

pub fold_by_step-requires : goal.fold_by_step-requires
fold_by_step-requires g c =
    let t : Triple = c.args.placement.now in
    let n : ℕ = length c.args.from.now in
    let inc : to_z w32 (of_z w32 c.inc_along-inc.result) ≡ get_or t.incs 1 (pos 0) =
    to_z-of_z w32 c.inc_along-inc.result (record { sfits = c.inc_along-inc.type_inv })
    ∙ c.inc_along-inc.ensures ∙ ap (λ (u : Triple). get_or u.incs 1 (pos 0)) c.triple.ensures in
    let many : length c.as_mut_slice-cells.result.now ≡ length c.args.self.now =
    ap (λ (cells : List (List ℕ)). length cells) c.as_mut_slice-cells.ensures.value ∙ sym (length-map c.self.inside.cells.items (number_of g.T.PackedType.ty)) ∙ ap (λ (ns : List ℤ). length ns) c.self.view_is in (
      omega arith,
      (
        search rules,
        (
          c.requires.small,
          (
            λ j h.
                let a : Across t n c.args.first j = across_at c.shape_laws.ensures.positions t n c.args.first j c.args.count c.place-place.ensures.sound c.requires.reaches c.requires.some (c.requires.within j h) c.requires.along h in
                subst (λ z. IsInside n z) (sym (ap₂ (λ k z. pos k +ℤ z *ℤ pos j) c.place-place.ensures.place inc)) a.inside,
            (omega (arith, many, c.requires.room), subst (ArePacked g.T.PackedType.ty) (sym c.as_mut_slice-cells.ensures.value) c.self.invariant),
          ),
        ),
      ),
    )

pub invariant_of-self : goal.invariant_of-self
invariant_of-self g c =
    let cells : List (List ℕ) = c.fold_by_step.new.cells in
    let rest : List (List ℕ) = drop (length cells) c.self.inside.cells.items in
    subst (ArePacked g.T.PackedType.ty) (sym (take_at cells rest c.self.inside.cells.len (omega arith))) c.fold_by_step.ensures.packed

pub returns : goal.returns
returns g c =
    let ty : Ty = g.T.PackedType.ty in
    let f : ℤ → ℤ → ℤ = g.F.Folding.taken in
    let t : Triple = c.args.placement.now in
    let es : List ℤ = c.args.from.now in
    let n : ℕ = length es in
    let start : ℕ = c.args.start in
    let count : ℕ = c.args.count in
    let inc : to_z w32 (of_z w32 c.inc_along-inc.result) ≡ get_or t.incs 1 (pos 0) =
    to_z-of_z w32 c.inc_along-inc.result (record { sfits = c.inc_along-inc.type_inv })
    ∙ c.inc_along-inc.ensures ∙ ap (λ (u : Triple). get_or u.incs 1 (pos 0)) c.triple.ensures in
    let cells : List (List ℕ) = c.fold_by_step.new.cells in
    let rest : List (List ℕ) = drop (length cells) c.self.inside.cells.items in
    let old : map (number_of ty) c.as_mut_slice-cells.result.now ≡ c.args.self.now = ap (map (number_of ty)) c.as_mut_slice-cells.ensures.value ∙ c.self.view_is in
    let new : map (number_of ty) (take c.self.inside.cells.len (cells ++ rest)) ≡ map (number_of ty) cells = ap (map (number_of ty)) (take_at cells rest c.self.inside.cells.len (omega arith)) in
    let all : HasFolded ty f (shown_across t es c.args.first) start count (map (number_of ty) c.as_mut_slice-cells.result.now) (map (number_of ty) cells) =
    folded_as ty f _ (shown_across t es c.args.first) start count (map (number_of ty) c.as_mut_slice-cells.result.now) (map (number_of ty) cells)
    (λ j h.
    let a : Across t n c.args.first j = across_at c.shape_laws.ensures.positions t n c.args.first j count c.place-place.ensures.sound c.requires.reaches c.requires.some (c.requires.within j h) c.requires.along h in
    ap (λ (z : ℤ). get_or es (unsigned_abs z) (pos 0)) (ap₂ (λ k z. pos k +ℤ z *ℤ pos j) c.place-place.ensures.place inc ∙ a.is))
    c.fold_by_step.ensures.value in
    subst (λ (ns : List ℤ). HasFolded ty f (shown_across t es c.args.first) start count ns (map (number_of ty) (take c.self.inside.cells.len (cells ++ rest)))) old
    (subst (λ (ns : List ℤ). HasFolded ty f (shown_across t es c.args.first) start count (map (number_of ty) c.as_mut_slice-cells.result.now) ns) (sym new) all)
