-- The cells at the places are packed, and the others stay.
use Rattle.std.proofs.Common.{◌≡◌, ℕ, ℤ, List, pos, ◌+ℤ◌, ◌*ℤ◌, ◌++◌, length, drop, take, rules, arith, ap, sym, subst, ◌∙◌, to_z, of_z}
use Rattle.std.proofs.lemmas.Int.{to_z-of_z}
use Rattle.std.proofs.lemmas.List.{length-map, take_at}
use Rattle.std.specs.Int.{w32}
use Rattle.pdl_elem.specs.declared.Ty.{Ty}
use Rattle.pdl_numbers.specs.Bytes.{ArePacked, number_of}
use Rattle.pdl_numbers.specs.Reads.{IsInside}
use Rattle.pdl_numbers.proofs.packed.Packed.write_along.Goals as goal

pub pack_along-requires : goal.pack_along-requires
pack_along-requires g c =
    let t : Ty = g.T.PackedType.ty in
    let inc : to_z w32 (of_z w32 c.args.inc) ≡ c.args.inc = to_z-of_z w32 c.args.inc c.ranges.inc in
    let many : length c.as_mut_slice.result.now ≡ length c.args.self.now =
    ap (λ (cells : List (List ℕ)). length cells) c.as_mut_slice.ensures.value ∙ sym (length-map c.self.inside.cells.items (number_of t)) ∙ ap (λ (ns : List ℤ). length ns) c.self.view_is in (
      search rules,
      (
        c.requires.small,
        (
          λ j h.
              subst (λ (n : ℕ). IsInside n (pos c.args.place +ℤ to_z w32 (of_z w32 c.args.inc) *ℤ pos j)) (sym many)
              (subst (λ (y : ℤ). IsInside (length c.args.self.now) (pos c.args.place +ℤ y *ℤ pos j)) (sym inc) (c.requires.inside j h)),
          (c.requires.in_range, subst (ArePacked t) (sym c.as_mut_slice.ensures.value) c.self.invariant),
        ),
      ),
    )

pub invariant_of-self : goal.invariant_of-self
invariant_of-self g c =
    let cells : List (List ℕ) = c.pack_along.new.cells in
    let rest : List (List ℕ) = drop (length cells) c.self.inside.cells.items in
    let all : take c.self.inside.cells.len (cells ++ rest) ≡ cells = take_at cells rest c.self.inside.cells.len (omega arith) in
    subst (ArePacked g.T.PackedType.ty) (sym all) c.pack_along.ensures.packed
