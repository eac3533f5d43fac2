-- The cells before and after stay, and those between are copied.
use Rattle.std.proofs.Common.{◌≡◌, ℕ, ℤ, List, ◌+◌, ◌-◌, pos, ◌+ℤ◌, ◌*ℤ◌, ◌++◌, length, map, take, drop, rules, arith, ap, sym, subst, ◌∙◌, All, to_z, of_z}
use Rattle.std.proofs.lemmas.Int.{to_z-of_z}
use Rattle.std.proofs.lemmas.List.{length-map}
use Rattle.std.specs.Int.{w32}
use Rattle.pdl_elem.specs.declared.Ty.{Ty}
use Rattle.pdl_elem.specs.Types.{InRange}
use Rattle.pdl_shape.specs.Places.{read}
use Rattle.pdl_numbers.specs.Bytes.{ArePacked, bytes_of, number_of}
use Rattle.pdl_numbers.specs.Reads.{IsInside}
use Rattle.pdl_numbers.specs.Writes.{stepped}
use Rattle.pdl_numbers.proofs.CopyLemmas.{length_read, part_long, run_copied}
use Rattle.pdl_numbers.proofs.PlacedCells.{read_in_range}
use Rattle.pdl_numbers.proofs.WriteRuns.{splice_numbers, splice_packed, spliced}
use Rattle.pdl_numbers.proofs.packed.Packed.copy_onward.Goals as goal

pub copy_by_step-requires : goal.copy_by_step-requires
copy_by_step-requires g c =
    let t : Ty = g.T.PackedType.ty in
    let step : to_z w32 (of_z w32 c.args.step) ≡ c.args.step = to_z-of_z w32 c.args.step c.ranges.step in
    let held : length c.as_slice.result.now ≡ length c.args.from.now =
    ap (λ (cells : List (List ℕ)). length cells) c.as_slice.ensures.value ∙ sym (length-map c.from.inside.cells.items (number_of t)) ∙ ap (λ (ns : List ℤ). length ns) c.from.view_is in
    let many : length c.deref_mut.result.now ≡ length c.args.self.now =
    ap (λ (cells : List (List ℕ)). length cells) c.deref_mut.ensures.value ∙ sym (length-map c.self.inside.cells.items (number_of t)) ∙ ap (λ (ns : List ℤ). length ns) c.self.view_is in
    let long : length (take (c.args.start + c.args.count - c.args.start) (drop c.args.start c.deref_mut.result.now)) ≡ c.args.count = part_long c.deref_mut.result.now c.args.start c.args.count (length c.args.self.now) many c.requires.within in (
      search rules,
      (
        omega (arith, long),
        (
          omega (arith, long),
          (
            λ j h.
                subst (λ (n : ℕ). IsInside n (pos c.args.first +ℤ to_z w32 (of_z w32 c.args.step) *ℤ pos j)) (sym held)
                (subst (λ (y : ℤ). IsInside (length c.args.from.now) (pos c.args.first +ℤ y *ℤ pos j)) (sym step) (c.requires.inside j (omega (arith, long, h)))),
            subst (ArePacked t) (sym c.as_slice.ensures.value) c.from.invariant,
          ),
        ),
      ),
    )

pub invariant_of-self : goal.invariant_of-self
invariant_of-self g c =
    let t : Ty = g.T.PackedType.ty in
    let start : ℕ = c.args.start in
    let count : ℕ = c.args.count in
    let cells : List (List ℕ) = c.self.inside.cells.items in
    let es : List ℤ = read (stepped c.args.first c.args.step count) c.args.from.now in
    let many : length cells ≡ length c.args.self.now = sym (length-map cells (number_of t)) ∙ ap (λ (ns : List ℤ). length ns) c.self.view_is in
    let some : length es ≡ count = length_read c.args.first c.args.step count c.args.from.now in
    let held : length c.deref_mut.result.now ≡ length c.args.self.now = ap (λ (xs : List (List ℕ)). length xs) c.deref_mut.ensures.value ∙ many in
    let is : c.copy_by_step.new.cells ≡ map (bytes_of t) es =
    run_copied t c.as_slice.result.now c.from.inside.cells.items c.copy_by_step.new.cells c.args.from.now c.args.first _ c.args.step _ count (to_z-of_z w32 c.args.step c.ranges.step)
    (part_long c.deref_mut.result.now start count (length c.args.self.now) held c.requires.within) c.as_slice.ensures.value c.from.view_is c.copy_by_step.ensures in
    let all : All (InRange t) es = subst (λ (ns : List ℤ). All (InRange t) (read (stepped c.args.first c.args.step count) ns)) c.from.view_is (read_in_range c.wrapping_laws.ensures t (stepped c.args.first c.args.step count) c.from.inside.cells.items) in
    subst (ArePacked t) (sym (spliced t cells _ _ _ es start _ _ c.deref_mut.ensures.value (omega arith) (omega (arith, some)) (omega (arith, many, some)) is))
    (splice_packed t cells es start (start + length es) c.self.invariant all)

pub returns : goal.returns
returns g c =
    let t : Ty = g.T.PackedType.ty in
    let start : ℕ = c.args.start in
    let count : ℕ = c.args.count in
    let cells : List (List ℕ) = c.self.inside.cells.items in
    let es : List ℤ = read (stepped c.args.first c.args.step count) c.args.from.now in
    let many : length cells ≡ length c.args.self.now = sym (length-map cells (number_of t)) ∙ ap (λ (ns : List ℤ). length ns) c.self.view_is in
    let some : length es ≡ count = length_read c.args.first c.args.step count c.args.from.now in
    let held : length c.deref_mut.result.now ≡ length c.args.self.now = ap (λ (xs : List (List ℕ)). length xs) c.deref_mut.ensures.value ∙ many in
    let is : c.copy_by_step.new.cells ≡ map (bytes_of t) es =
    run_copied t c.as_slice.result.now c.from.inside.cells.items c.copy_by_step.new.cells c.args.from.now c.args.first _ c.args.step _ count (to_z-of_z w32 c.args.step c.ranges.step)
    (part_long c.deref_mut.result.now start count (length c.args.self.now) held c.requires.within) c.as_slice.ensures.value c.from.view_is c.copy_by_step.ensures in
    let all : All (InRange t) es = subst (λ (ns : List ℤ). All (InRange t) (read (stepped c.args.first c.args.step count) ns)) c.from.view_is (read_in_range c.wrapping_laws.ensures t (stepped c.args.first c.args.step count) c.from.inside.cells.items) in
    ap (map (number_of t)) (spliced t cells _ _ _ es start _ _ c.deref_mut.ensures.value (omega arith) (omega (arith, some)) (omega (arith, many, some)) is)
    ∙ splice_numbers t cells es start (start + length es) all
    ∙ ap (λ (ns : List ℤ). take start ns ++ es ++ drop (start + length es) ns) c.self.view_is
    ∙ ap (λ (k : ℕ). take start c.args.self.now ++ es ++ drop (start + k) c.args.self.now) some
