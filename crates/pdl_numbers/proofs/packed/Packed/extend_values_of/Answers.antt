-- The cells before stay, and those put behind them have the values.
use Rattle.std.proofs.Common.{◌≡◌, ◌-◌, ℕ, ℤ, List, ◌++◌, length, map, take, drop, All, arith, ap, sym, subst, ◌∙◌}
use Rattle.std.proofs.lemmas.List.{length-map}
use Rattle.pdl_elem.specs.Blocks.{pairwise}
use Rattle.pdl_elem.specs.Operators.{value_of}
use Rattle.pdl_elem.specs.Types.{InRange}
use Rattle.pdl_elem.specs.declared.Ty.{Ty}
use Rattle.pdl_numbers.specs.Bytes.{ArePacked, bytes_of, number_of}
use Rattle.pdl_numbers.proofs.ByteLemmas.{changed_behind, packed_onto, numbers_onto, put_behind}
use Rattle.pdl_numbers.proofs.packed.Packed.extend_values_of.Goals as goal

pub invariant_of-self : goal.invariant_of-self
invariant_of-self g c = subst (ArePacked g.T.PackedType.ty) (sym c.in_err-extend_from_slice.ensures.items) c.self.invariant

pub invariant_of-self-2 : goal.invariant_of-self-2
invariant_of-self-2 g c =
    let t : Ty = g.T.PackedType.ty in
    let f : ℤ → ℤ → ℤ = value_of g.O.KnownOp.op t in
    let xs : List ℤ = map (number_of t) c.args.left.now in
    let ys : List ℤ = map (number_of t) c.args.right.now in
    let values : List ℤ = pairwise f xs ys in
    let start : ℕ = c.len-start.result in
    let cells : List (List ℕ) = c.self.inside.cells.items in
    let now : List (List ℕ) = c.deref_mut.result.now in
    let xs_long : length xs ≡ length c.args.left.now = length-map c.args.left.now (number_of t) in
    let ys_long : length ys ≡ length c.args.right.now = length-map c.args.right.now (number_of t) in
    let long : length values ≡ length xs = c.block_laws.ensures.as_many f xs ys (omega (arith, xs_long, ys_long, c.requires.paired)) in
    let all : All (InRange t) values = c.block_laws.ensures.in_range g.O.KnownOp.op t xs ys in
    let left : take (length now - start) (drop start now) ≡ c.args.left.now = put_behind cells now c.args.left.now start (length now - start) (omega arith) (c.deref_mut.ensures.value ∙ c.in_ok-extend_from_slice.ensures.items) (omega arith) in
    let set : c.update_each.new.cells ≡ map (bytes_of t) values = c.update_each.ensures ∙ ap (λ (zs : List (List ℕ)). map (bytes_of t) (pairwise f (map (number_of t) zs) ys)) left in
    subst (ArePacked t)
    (sym (changed_behind t cells _ _ _ _ _ c.args.left.now values start _ (omega arith) (omega (arith, long, xs_long, c.in_ok-extend_from_slice.ensures.len)) c.in_ok-extend_from_slice.ensures.items c.deref_mut.ensures.value set))
    (packed_onto t cells values c.self.invariant all)

pub returns-clause-ok : goal.returns-clause-ok
returns-clause-ok g c =
    let t : Ty = g.T.PackedType.ty in
    let f : ℤ → ℤ → ℤ = value_of g.O.KnownOp.op t in
    let xs : List ℤ = map (number_of t) c.args.left.now in
    let ys : List ℤ = map (number_of t) c.args.right.now in
    let values : List ℤ = pairwise f xs ys in
    let start : ℕ = c.len-start.result in
    let cells : List (List ℕ) = c.self.inside.cells.items in
    let now : List (List ℕ) = c.deref_mut.result.now in
    let xs_long : length xs ≡ length c.args.left.now = length-map c.args.left.now (number_of t) in
    let ys_long : length ys ≡ length c.args.right.now = length-map c.args.right.now (number_of t) in
    let long : length values ≡ length xs = c.block_laws.ensures.as_many f xs ys (omega (arith, xs_long, ys_long, c.requires.paired)) in
    let all : All (InRange t) values = c.block_laws.ensures.in_range g.O.KnownOp.op t xs ys in
    let left : take (length now - start) (drop start now) ≡ c.args.left.now = put_behind cells now c.args.left.now start (length now - start) (omega arith) (c.deref_mut.ensures.value ∙ c.in_ok-extend_from_slice.ensures.items) (omega arith) in
    let set : c.update_each.new.cells ≡ map (bytes_of t) values = c.update_each.ensures ∙ ap (λ (zs : List (List ℕ)). map (bytes_of t) (pairwise f (map (number_of t) zs) ys)) left in
    ap (map (number_of t))
    (changed_behind t cells _ _ _ _ _ c.args.left.now values start _ (omega arith) (omega (arith, long, xs_long, c.in_ok-extend_from_slice.ensures.len)) c.in_ok-extend_from_slice.ensures.items c.deref_mut.ensures.value set)
    ∙ numbers_onto t cells values all
    ∙ ap (λ (ns : List ℤ). ns ++ values) c.self.view_is
