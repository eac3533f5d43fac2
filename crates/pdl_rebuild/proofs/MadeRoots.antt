-- The line of a root.
use Rattle.std.proofs.Common.{◌≡◌, ℕ, zero, suc, ◌+◌, List, [], ◌∷◌, length, refl, ◌∙◌, ap, ap₂, arith, map, replicate, pos}
use Rattle.std.proofs.lemmas.Bool.{le-ltb}
use Rattle.std.specs.List.{range_with_len}
use Rattle.std.specs.Prelude.{Some, Ok, codes}
use Rattle.pdl_elem.specs.declared.Ty.{Ty}
use Rattle.pdl_elem.specs.Laws.{WrappingLaws}
use Rattle.pdl_elem.specs.Numbers.{wrapped}
use Rattle.pdl_buf.specs.declared.made.Made.{Made}
use Rattle.pdl_ops.specs.Fills.{filled}
use Rattle.pdl_ops.specs.declared.fills.Fill.TheVariants.{Zeroes}
use Rattle.pdl_shape.specs.Shape.{IsDims, extent, size_of}
use Rattle.pdl_syntax.specs.Tree.{call, none, of_type}
use Rattle.pdl_reread.specs.Trees.{with_sizes}
use Rattle.pdl_world.specs.KeepingLaws.{MoreKeepAll}
use Rattle.pdl_world.specs.World.{ArrayDef, root}
use Rattle.pdl_machine.specs.declared.fault.Fault.TheVariants.{WrongArguments}
use Rattle.pdl_machine.specs.Arrays.{Arrays}
use Rattle.pdl_machine.specs.Calls.{call_value}
use Rattle.pdl_machine.specs.Fills.{size, dims_for}
use Rattle.pdl_machine.specs.Names.{Names}
use Rattle.pdl_machine.specs.Outcome.{type_word, made, new_root, placed}
use Rattle.pdl_machine.specs.Then.{and_then, or_fault, and_more, all_of}
use Rattle.pdl_machine.specs.Value.{value_of}
use Rattle.pdl_rebuild.specs.Made.{RootsAreMade}
use Rattle.pdl_rebuild.proofs.TreeArguments.{NumberLaws, all_defs, numbers_from, numbers_taken, numbers_seen, sizes_negate, sizes_are_numbers}
use Rattle.pdl_rebuild.proofs.RebuiltBindings.{new_bound}
use Rattle.pdl_rebuild.proofs.RebuiltPassing.{with_all, with_all_is, numbered_from, numbered_within, order_below, AreFine}

sizes_again : (ds : List ℕ) → all_of size (map pos ds) ≡ Some ds
sizes_again [] = refl
sizes_again (d ∷ ds) = ap (λ o. and_more (Some d) o) (sizes_again ds)

dims_checked : (ds : List ℕ) → IsDims ds → dims_for (map pos ds) ≡ Ok ds
dims_checked ds are = rw (sizes_again ds, le-ltb 16 (length ds) are.count, le-ltb 1048576 (extent ds) are.within) refl

-- a new array of zeros
zeros_are : WrappingLaws → (ty : Ty) (a n : ℕ) → map (λ (p : ℕ). wrapped ty (pos 0)) (range_with_len a n) ≡ replicate n (pos 0)
zeros_are laws ty a zero = refl
zeros_are laws ty a (suc n) = ap₂ (λ x xs. x ∷ xs) (laws.same ty (pos 0) (laws.zero ty)) (zeros_are laws ty (a + 1) n)

zeroes_valued : NumberLaws → (names : Names) (a : Arrays) (ty : Ty) (ds : List ℕ) → AreFine a → IsDims ds →
    value_of names a (call (codes "zeroes") (with_sizes (of_type none ty) ds)) ≡ new_root (with_all a (all_defs (map pos ds))) (record { ty = ty; dims = ds; elems = replicate (size_of ds) (pos 0) })
zeroes_valued laws names a ty ds fine are =
    let b : Arrays = with_all a (all_defs (map pos ds)) in
    let given = type_word ty ∷ numbers_from a.next (map pos ds) in
    ap (λ args. value_of names a (call (codes "zeroes") args)) (sizes_are_numbers (of_type none ty) ds)
    ∙ ap (λ t. and_then t (λ g. call_value names (codes "zeroes") g.0 g.1)) (numbers_taken laws names a a (of_type none ty) (type_word ty ∷ []) (map pos ds) (sizes_negate ds) refl)
    ∙ ap (λ o. placed b given (and_then (or_fault WrongArguments o) (λ ns. and_then (dims_for ns) (λ es. Ok (made (filled Zeroes ty es)))))) (numbers_seen laws a (map pos ds) fine)
    ∙ ap (λ r. placed b given (and_then r (λ es. Ok (made (filled Zeroes ty es))))) (dims_checked ds are)
    ∙ ap (λ es. new_root b (record { ty = ty; dims = ds; elems = es })) (zeros_are laws.wrapping ty 0 (size_of ds))

pub roots_are_made : NumberLaws → MoreKeepAll → RootsAreMade
roots_are_made laws more ws kernels names w x ty ds resting fresh few are =
    let n : ℕ = length w in
    let defs : List ArrayDef = all_defs (map pos ds) in
    let m : Made = record { ty = ty; dims = ds; elems = replicate (size_of ds) (pos 0) } in
    new_bound more ws kernels names w x (call (codes "zeroes") (with_sizes (of_type none ty) ds)) (n + length defs) (root ty ds m.elems) (numbered_from n defs)
    resting fresh few tt (omega arith) (numbered_within n defs)
    (zeroes_valued laws (record { arrays = names; kernels = kernels }) (record { world = w; next = n }) ty ds (order_below w resting.order) are
    ∙ ap (λ b. new_root b m) (with_all_is w n defs))
