-- Neighbours are a part of the cells, and the cells at other places are changed one by one.
use Rattle.std.proofs.Common.{◌≡◌, ℕ, ℤ, List, pos, ◌+◌, ◌+ℤ◌, ◌*ℤ◌, ◌++◌, length, map, drop, take, rules, arith, ap, sym, subst, ◌∙◌, to_z, of_z}
use Rattle.std.proofs.lemmas.Int.{to_z-of_z}
use Rattle.std.proofs.lemmas.List.{length-map, take_at}
use Rattle.std.specs.Int.{w32, w64}
use Rattle.pdl_elem.specs.declared.Ty.{Ty}
use Rattle.pdl_elem.specs.Types.{InRange}
use Rattle.pdl_numbers.specs.Bytes.{ArePacked, number_of}
use Rattle.pdl_numbers.specs.Reads.{IsInside, LiesInside}
use Rattle.pdl_numbers.specs.Updates.{value_with}
use Rattle.pdl_numbers.proofs.UpdateLemmas.{neighbours_changed, run_below}
use Rattle.pdl_numbers.proofs.packed.Packed.update_run.Goals as goal

-- the places are among the cells that stand for the numbers
among_cells : (t : Ty) (cells items : List (List ℕ)) (ns : List ℤ) (place count : ℕ) (inc z : ℤ) → cells ≡ items → map (number_of t) items ≡ ns → inc ≡ z → LiesInside (length ns) place inc count → LiesInside (length cells) place z count
among_cells t cells items ns place count inc z same are e inside j h =
    let many : length cells ≡ length ns = ap (λ (xs : List (List ℕ)). length xs) same ∙ sym (length-map items (number_of t)) ∙ ap (λ (xs : List ℤ). length xs) are in
    subst (λ (n : ℕ). IsInside n (pos place +ℤ z *ℤ pos j)) (sym many) (subst (λ (y : ℤ). IsInside (length ns) (pos place +ℤ y *ℤ pos j)) e (inside j h))

pub update_along-requires : goal.update_along-requires
update_along-requires g c =
    let t : Ty = g.T.PackedType.ty in
    let two : c.args.inc ≡ pos 2 = sym (to_z-of_z w32 c.args.inc c.ranges.inc) ∙ ap (to_z w32) c.if-inc-eq2.true in
    let number : to_z w64 (of_z w64 c.args.number) ≡ c.args.number = to_z-of_z w64 c.args.number c.ranges.number in (
      search rules,
      (
        subst (InRange t) (sym number) c.requires.number,
        (
          λ d h. c.requires.divisor d (sym number ∙ h),
          (
            c.requires.small,
            (
              among_cells t c.as_mut_slice.result.now c.self.inside.cells.items c.args.self.now c.args.place c.args.count c.args.inc (pos 2) c.as_mut_slice.ensures.value c.self.view_is two c.requires.inside,
              subst (ArePacked t) (sym c.as_mut_slice.ensures.value) c.self.invariant,
            ),
          ),
        ),
      ),
    )

pub update_along-requires-else-inc-eq2 : goal.update_along-requires-else-inc-eq2
update_along-requires-else-inc-eq2 g c =
    let t : Ty = g.T.PackedType.ty in
    let inc : c.args.inc ≡ to_z w32 (of_z w32 c.args.inc) = sym (to_z-of_z w32 c.args.inc c.ranges.inc) in
    let number : to_z w64 (of_z w64 c.args.number) ≡ c.args.number = to_z-of_z w64 c.args.number c.ranges.number in (
      search rules,
      (
        subst (InRange t) (sym number) c.requires.number,
        (
          λ d h. c.requires.divisor d (sym number ∙ h),
          (
            c.requires.small,
            (
              among_cells t c.as_mut_slice-else-inc-eq2.result.now c.self.inside.cells.items c.args.self.now c.args.place c.args.count c.args.inc _ c.as_mut_slice-else-inc-eq2.ensures.value c.self.view_is inc c.requires.inside,
              subst (ArePacked t) (sym c.as_mut_slice-else-inc-eq2.ensures.value) c.self.invariant,
            ),
          ),
        ),
      ),
    )

pub invariant_of-self : goal.invariant_of-self
invariant_of-self g c =
    let cells : List (List ℕ) = c.update_along.new.cells in
    let rest : List (List ℕ) = drop (length cells) c.self.inside.cells.items in
    let all : take c.self.inside.cells.len (cells ++ rest) ≡ cells = take_at cells rest c.self.inside.cells.len (omega arith) in
    subst (ArePacked g.T.PackedType.ty) (sym all) c.update_along.ensures.packed

pub invariant_of-self-else-inc-eq2 : goal.invariant_of-self-else-inc-eq2
invariant_of-self-else-inc-eq2 g c =
    let cells : List (List ℕ) = c.update_along-else-inc-eq2.new.cells in
    let rest : List (List ℕ) = drop (length cells) c.self.inside.cells.items in
    let all : take c.self.inside.cells.len (cells ++ rest) ≡ cells = take_at cells rest c.self.inside.cells.len (omega arith) in
    subst (ArePacked g.T.PackedType.ty) (sym all) c.update_along-else-inc-eq2.ensures.packed

pub returns-then-inc-eq1 : goal.returns-then-inc-eq1
returns-then-inc-eq1 g c =
    let f : ℤ → ℤ → ℤ = value_with g.O.KnownOp.op g.T.PackedType.ty in
    let one : c.args.inc ≡ pos 1 = sym (to_z-of_z w32 c.args.inc c.ranges.inc) ∙ ap (to_z w32) c.if-inc-eq1.true in
    c.update_from.ensures
    ∙ ap (λ n. take c.args.place c.args.self.now ++ map (f n) (take c.args.count (drop c.args.place c.args.self.now)) ++ drop (c.args.place + c.args.count) c.args.self.now) (to_z-of_z w64 c.args.number c.ranges.number)
    ∙ neighbours_changed (f c.args.number) c.args.place c.args.count c.args.inc c.args.self.now one (run_below (length c.args.self.now) c.args.place c.args.count c.args.inc one c.requires.some c.requires.inside)
