-- The cells before stay, and those put behind them have the prefixes.
use Rattle.std.proofs.Common.{◌≡◌, ◌-◌, ℕ, ℤ, List, ◌++◌, length, fold, map, take, drop, All, arith, to_z, of_z, ap, ap₂, sym, subst, ◌∙◌}
use Rattle.std.proofs.lemmas.Int.{to_z-of_z}
use Rattle.std.proofs.lemmas.List.{length-map}
use Rattle.std.specs.Int.{w64}
use Rattle.pdl_elem.specs.Types.{InRange}
use Rattle.pdl_elem.specs.declared.Ty.{Ty}
use Rattle.pdl_numbers.specs.Bytes.{ArePacked, bytes_of, number_of}
use Rattle.pdl_numbers.specs.Prefixes.{wrapped_prefixes}
use Rattle.pdl_numbers.proofs.ByteLemmas.{changed_behind, packed_onto, numbers_onto, put_behind}
use Rattle.pdl_numbers.proofs.PrefixLemmas.{prefix_count, prefixes_in}
use Rattle.pdl_numbers.proofs.packed.Packed.extend_prefixes_of.Goals as goal

pub invariant_of-self : goal.invariant_of-self
invariant_of-self g c = subst (ArePacked g.T.PackedType.ty) (sym c.in_err-extend_from_slice.ensures.items) c.self.invariant

pub invariant_of-self-2 : goal.invariant_of-self-2
invariant_of-self-2 g c =
    let t : Ty = g.T.PackedType.ty in
    let f : ℤ → ℤ → ℤ = g.F.Folding.taken in
    let a : ℤ = to_z w64 (of_z w64 c.args.start) in
    let xs : List ℤ = map (number_of t) c.args.cells.now in
    let new : List ℤ = wrapped_prefixes t f a xs in
    let first : ℕ = c.len-first.result in
    let cells : List (List ℕ) = c.self.inside.cells.items in
    let now : List (List ℕ) = c.deref_mut.result.now in
    let long : length new ≡ length c.args.cells.now = prefix_count t f a xs ∙ length-map c.args.cells.now (number_of t) in
    let all : All (InRange t) new = prefixes_in c.wrapping_laws.ensures t f a xs in
    let put : take (length now - first) (drop first now) ≡ c.args.cells.now = put_behind cells now c.args.cells.now first (length now - first) (omega arith) (c.deref_mut.ensures.value ∙ c.in_ok-extend_from_slice.ensures.items) (omega arith) in
    let set : c.update_prefixes-end.new.cells ≡ map (bytes_of t) new = c.update_prefixes-end.ensures.packed ∙ ap (λ (zs : List (List ℕ)). map (bytes_of t) (wrapped_prefixes t f a (map (number_of t) zs))) put in
    subst (ArePacked t)
    (sym (changed_behind t cells _ _ _ _ _ c.args.cells.now new first _ (omega arith) (omega (arith, long, c.in_ok-extend_from_slice.ensures.len)) c.in_ok-extend_from_slice.ensures.items c.deref_mut.ensures.value set))
    (packed_onto t cells new c.self.invariant all)

pub returns-clause-value : goal.returns-clause-value
returns-clause-value g c =
    let t : Ty = g.T.PackedType.ty in
    let first : ℕ = c.len-first.result in
    let cells : List (List ℕ) = c.self.inside.cells.items in
    let now : List (List ℕ) = c.deref_mut.result.now in
    let put : take (length now - first) (drop first now) ≡ c.args.cells.now = put_behind cells now c.args.cells.now first (length now - first) (omega arith) (c.deref_mut.ensures.value ∙ c.in_ok-extend_from_slice.ensures.items) (omega arith) in
    to_z-of_z w64 c.update_prefixes-end.result (record { sfits = c.update_prefixes-end.type_inv }) ∙ c.update_prefixes-end.ensures.value
    ∙ ap₂ (λ (s : ℤ) (zs : List (List ℕ)). fold g.F.Folding.taken s (map (number_of t) zs)) (to_z-of_z w64 c.args.start c.ranges.start) put

pub returns-clause-ok : goal.returns-clause-ok
returns-clause-ok g c =
    let t : Ty = g.T.PackedType.ty in
    let f : ℤ → ℤ → ℤ = g.F.Folding.taken in
    let a : ℤ = to_z w64 (of_z w64 c.args.start) in
    let xs : List ℤ = map (number_of t) c.args.cells.now in
    let new : List ℤ = wrapped_prefixes t f a xs in
    let first : ℕ = c.len-first.result in
    let cells : List (List ℕ) = c.self.inside.cells.items in
    let now : List (List ℕ) = c.deref_mut.result.now in
    let long : length new ≡ length c.args.cells.now = prefix_count t f a xs ∙ length-map c.args.cells.now (number_of t) in
    let all : All (InRange t) new = prefixes_in c.wrapping_laws.ensures t f a xs in
    let put : take (length now - first) (drop first now) ≡ c.args.cells.now = put_behind cells now c.args.cells.now first (length now - first) (omega arith) (c.deref_mut.ensures.value ∙ c.in_ok-extend_from_slice.ensures.items) (omega arith) in
    let set : c.update_prefixes-end.new.cells ≡ map (bytes_of t) new = c.update_prefixes-end.ensures.packed ∙ ap (λ (zs : List (List ℕ)). map (bytes_of t) (wrapped_prefixes t f a (map (number_of t) zs))) put in
    ap (map (number_of t))
    (changed_behind t cells _ _ _ _ _ c.args.cells.now new first _ (omega arith) (omega (arith, long, c.in_ok-extend_from_slice.ensures.len)) c.in_ok-extend_from_slice.ensures.items c.deref_mut.ensures.value set)
    ∙ numbers_onto t cells new all
    ∙ ap₂ (λ (ns es : List ℤ). ns ++ es) c.self.view_is (ap (λ (s : ℤ). wrapped_prefixes t f s xs) (to_z-of_z w64 c.args.start c.ranges.start))
