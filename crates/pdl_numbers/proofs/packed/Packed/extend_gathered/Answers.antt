-- The cells before stay, and those after them are the bytes of the numbers at the places.
use Rattle.std.proofs.Common.{◌≡◌, ◌+◌, ◌-◌, ℕ, ℤ, pos, List, ◌++◌, length, length-drop, length-take, map, take, drop, replicate, All, rules, arith, ap, sym, subst, ◌∙◌}
use Rattle.std.specs.Prelude.{Option}
use Rattle.std.proofs.lemmas.List.{length-map, take_all}
use Rattle.std.proofs.lemmas.List.Elements.{All-replicate}
use Rattle.pdl_elem.specs.Types.{InRange}
use Rattle.pdl_elem.specs.declared.Ty.{Ty}
use Rattle.pdl_shape.specs.Places.{element_at, read}
use Rattle.pdl_numbers.specs.Bytes.{ArePacked, bytes_of, number_of}
use Rattle.pdl_numbers.proofs.ByteLemmas.{extended, packed_onto, numbers_onto, put_behind}
use Rattle.pdl_numbers.proofs.PlacedCells.{read_in_range}
use Rattle.pdl_numbers.proofs.packed.Packed.extend_gathered.Goals as goal

pub invariant_of-self : goal.invariant_of-self
invariant_of-self g c = subst (ArePacked g.T.PackedType.ty) (sym c.in_err-resize.ensures.items) c.self.invariant

pub gather_cells-requires : goal.gather_cells-requires
gather_cells-requires g c =
    let t : Ty = g.T.PackedType.ty in
    let P : List ℕ → Type 0 = λ cell. cell ≡ bytes_of t (pos 0) in
    let start : ℕ = c.len-start.result in
    let old : List (List ℕ) = c.self.inside.cells.items in
    let now : List (List ℕ) = c.deref_mut.result.now in
    let count : ℕ = start + length c.args.places.now - c.self.inside.cells.len in
    let fill : List (List ℕ) = replicate count c.pack.result in
    let all : now ≡ old ++ fill = c.deref_mut.ensures.value ∙ c.in_ok-resize.ensures.items ∙ ap (λ (xs : List (List ℕ)). xs ++ fill) (take_all (start + length c.args.places.now) old (omega arith)) in
    let put : take (length now - start) (drop start now) ≡ fill = put_behind old now fill start (length now - start) (omega arith) all (omega arith) in
    let paired : length (take (length now - start) (drop start now)) ≡ length c.args.places.now =
    omega (arith, length-take (length now - start) (drop start now), length-drop start now, c.deref_mut.ensures.len, c.in_ok-resize.ensures.len) in
    (search rules, (paired, (subst (All P) (sym put) (All-replicate P count c.pack.result c.pack.ensures), subst (ArePacked t) (sym c.as_slice.ensures.value) c.from.invariant)))

pub invariant_of-self-2 : goal.invariant_of-self-2
invariant_of-self-2 g c =
    let t : Ty = g.T.PackedType.ty in
    let ps : List (Option ℕ) = c.args.places.now in
    let numbers : List ℤ = map (number_of t) c.as_slice.result.now in
    let long : length (read ps numbers) ≡ length ps = length-map ps (element_at numbers) in
    let all : All (InRange t) (read ps numbers) = read_in_range c.wrapping_laws.ensures t ps c.as_slice.result.now in
    subst (ArePacked t) (sym (extended t c.self.inside.cells.items _ _ _ _ _ _ (read ps numbers) _ (c.len-start.result + length ps) _ (omega arith) (omega arith) (omega (arith, long, c.in_ok-resize.ensures.len)) c.in_ok-resize.ensures.items c.deref_mut.ensures.value c.gather_cells.ensures))
    (packed_onto t c.self.inside.cells.items (read ps numbers) c.self.invariant all)

pub returns-clause-ok : goal.returns-clause-ok
returns-clause-ok g c =
    let t : Ty = g.T.PackedType.ty in
    let ps : List (Option ℕ) = c.args.places.now in
    let numbers : List ℤ = map (number_of t) c.as_slice.result.now in
    let long : length (read ps numbers) ≡ length ps = length-map ps (element_at numbers) in
    let all : All (InRange t) (read ps numbers) = read_in_range c.wrapping_laws.ensures t ps c.as_slice.result.now in
    let from : numbers ≡ c.args.from.now = ap (map (number_of t)) c.as_slice.ensures.value ∙ c.from.view_is in
    ap (map (number_of t)) (extended t c.self.inside.cells.items _ _ _ _ _ _ (read ps numbers) _ (c.len-start.result + length ps) _ (omega arith) (omega arith) (omega (arith, long, c.in_ok-resize.ensures.len)) c.in_ok-resize.ensures.items c.deref_mut.ensures.value c.gather_cells.ensures)
    ∙ numbers_onto t c.self.inside.cells.items (read ps numbers) all
    ∙ ap (λ (ns : List ℤ). ns ++ read ps numbers) c.self.view_is
    ∙ ap (λ (es : List ℤ). c.args.self.now ++ read ps es) from
