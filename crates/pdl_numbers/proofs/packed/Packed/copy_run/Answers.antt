-- Neighbours are a part of the cells, and the cells at other places are copied one by one.
use Rattle.std.proofs.Common.{◌≡◌, ◌≤◌, ℕ, ℤ, List, pos, ◌+◌, ◌+ℤ◌, ◌*ℤ◌, ◌++◌, length, map, drop, take, rules, arith, ap, ap₂, sym, subst, ◌∙◌, to_z, of_z}
use Rattle.std.proofs.lemmas.Int.{to_z-of_z}
use Rattle.std.proofs.lemmas.List.{length-map, take_at}
use Rattle.std.specs.Int.{w32}
use Rattle.pdl_elem.specs.declared.Ty.{Ty}
use Rattle.pdl_shape.specs.Places.{read, write}
use Rattle.pdl_numbers.specs.Bytes.{ArePacked, number_of}
use Rattle.pdl_numbers.specs.Reads.{IsInside}
use Rattle.pdl_numbers.specs.Writes.{stepped}
use Rattle.pdl_numbers.proofs.CopyLemmas.{length_read}
use Rattle.pdl_numbers.proofs.UpdateLemmas.{run_below}
use Rattle.pdl_numbers.proofs.WriteRuns.{neighbours_written}
use Rattle.pdl_numbers.proofs.packed.Packed.copy_run.Goals as goal

pub copy_along-requires : goal.copy_along-requires
copy_along-requires g c =
    let t : Ty = g.T.PackedType.ty in
    let inc : to_z w32 (of_z w32 c.args.inc) ≡ c.args.inc = to_z-of_z w32 c.args.inc c.ranges.inc in
    let step : to_z w32 (of_z w32 c.args.step) ≡ c.args.step = to_z-of_z w32 c.args.step c.ranges.step in
    let held : length c.as_slice.result.now ≡ length c.args.from.now =
    ap (λ (cells : List (List ℕ)). length cells) c.as_slice.ensures.value ∙ sym (length-map c.from.inside.cells.items (number_of t)) ∙ ap (λ (ns : List ℤ). length ns) c.from.view_is in
    let many : length c.as_mut_slice.result.now ≡ length c.args.self.now =
    ap (λ (cells : List (List ℕ)). length cells) c.as_mut_slice.ensures.value ∙ sym (length-map c.self.inside.cells.items (number_of t)) ∙ ap (λ (ns : List ℤ). length ns) c.self.view_is in (
      search rules,
      (
        c.requires.small,
        (
          λ j h.
              subst (λ (n : ℕ). IsInside n (pos c.args.first +ℤ to_z w32 (of_z w32 c.args.step) *ℤ pos j)) (sym held)
              (subst (λ (y : ℤ). IsInside (length c.args.from.now) (pos c.args.first +ℤ y *ℤ pos j)) (sym step) (c.requires.from_inside j h)),
          (
            λ j h.
                subst (λ (n : ℕ). IsInside n (pos c.args.place +ℤ to_z w32 (of_z w32 c.args.inc) *ℤ pos j)) (sym many)
                (subst (λ (y : ℤ). IsInside (length c.args.self.now) (pos c.args.place +ℤ y *ℤ pos j)) (sym inc) (c.requires.inside j h)),
            (
              subst (ArePacked t) (sym c.as_slice.ensures.value) c.from.invariant,
              subst (ArePacked t) (sym c.as_mut_slice.ensures.value) c.self.invariant,
            ),
          ),
        ),
      ),
    )

pub invariant_of-self : goal.invariant_of-self
invariant_of-self g c =
    let cells : List (List ℕ) = c.copy_along.new.cells in
    let rest : List (List ℕ) = drop (length cells) c.self.inside.cells.items in
    let all : take c.self.inside.cells.len (cells ++ rest) ≡ cells = take_at cells rest c.self.inside.cells.len (omega arith) in
    subst (ArePacked g.T.PackedType.ty) (sym all) c.copy_along.ensures.packed

pub returns-then-inc-eq1 : goal.returns-then-inc-eq1
returns-then-inc-eq1 g c =
    let place : ℕ = c.args.place in
    let count : ℕ = c.args.count in
    let old : List ℤ = c.args.self.now in
    let es : List ℤ = read (stepped c.args.first c.args.step count) c.args.from.now in
    let long : length es ≡ count = length_read c.args.first c.args.step count c.args.from.now in
    let one : c.args.inc ≡ pos 1 = sym (to_z-of_z w32 c.args.inc c.ranges.inc) ∙ ap (to_z w32) c.if-inc-eq1.true in
    let fits : place + count ≤ length old = run_below (length old) place count c.args.inc one c.requires.some c.requires.inside in
    c.copy_onward.ensures
    ∙ ap (λ (z : ℤ). take place old ++ read (stepped c.args.first z count) c.args.from.now ++ drop (place + count) old) (to_z-of_z w32 c.args.step c.ranges.step)
    ∙ ap (λ (k : ℕ). take place old ++ es ++ drop (place + k) old) (sym long)
    ∙ neighbours_written place c.args.inc es old one (omega (arith, long, fits))
    ∙ ap (λ (k : ℕ). write (stepped place c.args.inc k) es old) long

pub returns-else-inc-eq1 : goal.returns-else-inc-eq1
returns-else-inc-eq1 g c =
    let t : Ty = g.T.PackedType.ty in
    let count : ℕ = c.args.count in
    let cells : List (List ℕ) = c.copy_along.new.cells in
    let rest : List (List ℕ) = drop (length cells) c.self.inside.cells.items in
    let before : map (number_of t) c.as_mut_slice.result.now ≡ c.args.self.now = ap (map (number_of t)) c.as_mut_slice.ensures.value ∙ c.self.view_is in
    ap (map (number_of t)) (take_at cells rest c.self.inside.cells.len (omega arith))
    ∙ c.copy_along.ensures.value
    ∙ ap₂ (λ (y z : ℤ). write (stepped c.args.place y count) (read (stepped c.args.first z count) (map (number_of t) c.as_slice.result.now)) (map (number_of t) c.as_mut_slice.result.now)) (to_z-of_z w32 c.args.inc c.ranges.inc) (to_z-of_z w32 c.args.step c.ranges.step)
    ∙ ap₂ (λ (us vs : List ℤ). write (stepped c.args.place c.args.inc count) (read (stepped c.args.first c.args.step count) us) vs) (ap (map (number_of t)) c.as_slice.ensures.value ∙ c.from.view_is) before
