-- The cells before stay, and those after them have the prefixes.
use Rattle.std.proofs.Common.{◌≡◌, ◌+◌, ℤ, List, ◌++◌, length, map, All, arith, to_z, of_z, ap, ap₂, sym, subst, ◌∙◌}
use Rattle.std.proofs.lemmas.Int.{to_z-of_z}
use Rattle.std.specs.Int.{w64}
use Rattle.pdl_elem.specs.Types.{InRange}
use Rattle.pdl_elem.specs.declared.Ty.{Ty}
use Rattle.pdl_numbers.specs.Bytes.{ArePacked, number_of}
use Rattle.pdl_numbers.specs.Prefixes.{wrapped_prefixes}
use Rattle.pdl_numbers.proofs.ByteLemmas.{extended, packed_onto, numbers_onto}
use Rattle.pdl_numbers.proofs.PrefixLemmas.{prefix_count, prefixes_in}
use Rattle.pdl_numbers.proofs.packed.Packed.extend_prefixes.Goals as goal

pub invariant_of-self : goal.invariant_of-self
invariant_of-self g c = subst (ArePacked g.T.PackedType.ty) (sym c.in_err-resize.ensures.items) c.self.invariant

pub invariant_of-self-2 : goal.invariant_of-self-2
invariant_of-self-2 g c =
    let t : Ty = g.T.PackedType.ty in
    let f : ℤ → ℤ → ℤ = g.F.Folding.taken in
    let a : ℤ = to_z w64 (of_z w64 c.args.start) in
    let xs : List ℤ = c.args.numbers.now in
    let new : List ℤ = wrapped_prefixes t f a xs in
    let long : length new ≡ length xs = prefix_count t f a xs in
    let all : All (InRange t) new = prefixes_in c.wrapping_laws.ensures t f a xs in
    subst (ArePacked t) (sym (extended t c.self.inside.cells.items _ _ _ _ _ _ new _ (c.len-first.result + length xs) _ (omega arith) (omega arith) (omega (arith, long, c.in_ok-resize.ensures.len)) c.in_ok-resize.ensures.items c.deref_mut.ensures.value c.pack_prefixes-end.ensures.packed))
    (packed_onto t c.self.inside.cells.items new c.self.invariant all)

pub returns-clause-ok : goal.returns-clause-ok
returns-clause-ok g c =
    let t : Ty = g.T.PackedType.ty in
    let f : ℤ → ℤ → ℤ = g.F.Folding.taken in
    let a : ℤ = to_z w64 (of_z w64 c.args.start) in
    let xs : List ℤ = c.args.numbers.now in
    let new : List ℤ = wrapped_prefixes t f a xs in
    let long : length new ≡ length xs = prefix_count t f a xs in
    let all : All (InRange t) new = prefixes_in c.wrapping_laws.ensures t f a xs in
    ap (map (number_of t)) (extended t c.self.inside.cells.items _ _ _ _ _ _ new _ (c.len-first.result + length xs) _ (omega arith) (omega arith) (omega (arith, long, c.in_ok-resize.ensures.len)) c.in_ok-resize.ensures.items c.deref_mut.ensures.value c.pack_prefixes-end.ensures.packed)
    ∙ numbers_onto t c.self.inside.cells.items new all
    ∙ ap₂ (λ (ns es : List ℤ). ns ++ es) c.self.view_is (ap (λ (s : ℤ). wrapped_prefixes t f s xs) (to_z-of_z w64 c.args.start c.ranges.start))
