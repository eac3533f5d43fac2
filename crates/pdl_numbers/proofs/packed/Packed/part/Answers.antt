-- The cells from a place on are those of the numbers from it on.
use Rattle.std.proofs.Common.{◌≡◌, ℕ, ◌+◌, ◌-◌, ℤ, List, map, take, drop, arith, ap, sym, subst, ◌∙◌}
use Rattle.std.proofs.lemmas.List.Elements.{All-drop, All-take}
use Rattle.pdl_elem.specs.declared.Ty.{Ty}
use Rattle.pdl_numbers.specs.Bytes.{ArePacked, IsPacked, number_of}
use Rattle.pdl_numbers.proofs.PlaceLists.{block_map}
use Rattle.pdl_numbers.proofs.packed.Packed.part.Goals as goal

pub returns-clause-value : goal.returns-clause-value
returns-clause-value g c =
    let f : List ℕ → ℤ = number_of g.T.PackedType.ty in
    let start : ℕ = c.args.start in
    let count : ℕ = c.args.count in
    let same : start + count - start ≡ count = omega arith in
    ap (λ (cells : List (List ℕ)). map f (take (start + count - start) (drop start cells))) c.deref.ensures.value
    ∙ ap (λ (k : ℕ). map f (take k (drop start c.self.inside.cells.items))) same
    ∙ block_map f c.self.inside.cells.items start count ∙ ap (λ (es : List ℤ). take count (drop start es)) c.self.view_is

pub returns-clause-packed : goal.returns-clause-packed
returns-clause-packed g c =
    let t : Ty = g.T.PackedType.ty in
    let start : ℕ = c.args.start in
    let many : ℕ = start + c.args.count - start in
    All-take (IsPacked t) many (drop start c.deref.result.now) (All-drop (IsPacked t) start c.deref.result.now (subst (ArePacked t) (sym c.deref.ensures.value) c.self.invariant))
