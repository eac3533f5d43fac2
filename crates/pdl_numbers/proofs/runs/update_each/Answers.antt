-- One cell more has its value, and all are at the end.
use Rattle.std.proofs.Common.{◌≡◌, ℕ, ℤ, List, [], length, pos, map, get_or, rules, refl, arith, ap, ap₂, sym, subst, ◌∙◌, to_z, of_z}
use Rattle.std.proofs.lemmas.Int.{to_z-of_z}
use Rattle.std.proofs.lemmas.List.{get_or-map, get_or-set_other, length-map}
use Rattle.std.proofs.lemmas.List.Elements.{All-get_or}
use Rattle.std.specs.Int.{w64}
use Rattle.pdl_elem.specs.declared.Ty.{Ty}
use Rattle.pdl_elem.specs.Blocks.{pairwise}
use Rattle.pdl_elem.specs.Operators.{value_of}
use Rattle.pdl_elem.specs.Types.{InRange}
use Rattle.pdl_numbers.specs.Bytes.{bytes_of, number_of}
use Rattle.pdl_numbers.proofs.ByteLemmas.{set_more, set_all}
use Rattle.pdl_numbers.proofs.UpdateLemmas.{number_in_range}
use Rattle.pdl_numbers.proofs.runs.update_each.Goals as goal

pub loop-i-init : goal.loop-i-init
loop-i-init g c = record { done = refl; left = λ k after. refl }

pub packed_value-requires : goal.packed_value-requires
packed_value-requires g c =
    let t : Ty = g.T.PackedType.ty in
    let ys : List ℤ = map (number_of t) c.args.right.now in
    let many : length ys ≡ length c.args.right.now = length-map c.args.right.now (number_of t) in
    let x : to_z w64 (of_z w64 c.unpack.result) ≡ number_of t (get_or c.loop-i.cells c.loop-i.i []) = to_z-of_z w64 c.unpack.result (record { sfits = c.unpack.type_inv }) ∙ c.unpack.ensures in
    let y : to_z w64 (of_z w64 c.unpack-in-loop-i.result) ≡ number_of t c.index-right-i.result = to_z-of_z w64 c.unpack-in-loop-i.result (record { sfits = c.unpack-in-loop-i.type_inv }) ∙ c.unpack-in-loop-i.ensures in
    let there : number_of t c.index-right-i.result ≡ get_or ys c.loop-i.i (pos 0) = ap (number_of t) c.index-right-i.is ∙ sym (get_or-map (number_of t) c.args.right.now c.loop-i.i c.index-right-i.result (pos 0) c.loop-i-test.true) in (
      search rules,
      (
        subst (InRange t) (sym x) (number_in_range c.wrapping_laws.ensures t (get_or c.loop-i.cells c.loop-i.i [])),
        (
          subst (InRange t) (sym y) (number_in_range c.wrapping_laws.ensures t c.index-right-i.result),
          λ d zero. All-get_or (λ n. n ≡ pos 0 → ⊥) ys c.loop-i.i (pos 0) (omega (arith, many)) (c.requires.divisors d) (sym there ∙ sym y ∙ zero),
        ),
      ),
    )

pub loop-i-preserved : goal.loop-i-preserved
loop-i-preserved g c =
    let t : Ty = g.T.PackedType.ty in
    let f : ℤ → ℤ → ℤ = value_of g.O.KnownOp.op t in
    let i : ℕ = c.loop-i.i in
    let xs : List ℤ = map (number_of t) c.args.cells.now in
    let ys : List ℤ = map (number_of t) c.args.right.now in
    let values : List ℤ = pairwise f xs ys in
    let xs_long : length xs ≡ length c.args.cells.now = length-map c.args.cells.now (number_of t) in
    let ys_long : length ys ≡ length c.args.right.now = length-map c.args.right.now (number_of t) in
    let long : length values ≡ length xs = c.block_laws.ensures.as_many f xs ys (omega (arith, xs_long, ys_long, c.requires.paired)) in
    let x : to_z w64 (of_z w64 c.unpack.result) ≡ get_or xs i (pos 0) =
    to_z-of_z w64 c.unpack.result (record { sfits = c.unpack.type_inv }) ∙ c.unpack.ensures ∙ ap (number_of t) (c.loop-i.invariant.left i (omega arith))
    ∙ sym (get_or-map (number_of t) c.args.cells.now i [] (pos 0) (omega (arith, c.requires.paired))) in
    let y : to_z w64 (of_z w64 c.unpack-in-loop-i.result) ≡ get_or ys i (pos 0) =
    to_z-of_z w64 c.unpack-in-loop-i.result (record { sfits = c.unpack-in-loop-i.type_inv }) ∙ c.unpack-in-loop-i.ensures ∙ ap (number_of t) c.index-right-i.is
    ∙ sym (get_or-map (number_of t) c.args.right.now i c.index-right-i.result (pos 0) c.loop-i-test.true) in
    let here : f (get_or xs i (pos 0)) (get_or ys i (pos 0)) ≡ get_or values i (pos 0) = sym (c.block_laws.ensures.at f xs ys i (omega (arith, xs_long, ys_long, c.requires.paired)) (omega (arith, xs_long, c.requires.paired))) in
    record {
      done = set_more (bytes_of t) c.loop-i.cells values i (pos 0) c.packed_value.result (omega (arith, long, xs_long, c.requires.paired)) (omega (arith, long, xs_long)) (c.packed_value.ensures ∙ ap (bytes_of t) (ap₂ f x y ∙ here)) c.loop-i.invariant.done;
      left = λ k after. get_or-set_other c.loop-i.cells i k c.packed_value.result [] (omega (arith, after)) ∙ c.loop-i.invariant.left k (omega (arith, after));
    }

pub returns : goal.returns
returns g c =
    let t : Ty = g.T.PackedType.ty in
    let f : ℤ → ℤ → ℤ = value_of g.O.KnownOp.op t in
    let xs : List ℤ = map (number_of t) c.args.cells.now in
    let ys : List ℤ = map (number_of t) c.args.right.now in
    let xs_long : length xs ≡ length c.args.cells.now = length-map c.args.cells.now (number_of t) in
    let ys_long : length ys ≡ length c.args.right.now = length-map c.args.right.now (number_of t) in
    let long : length (pairwise f xs ys) ≡ length xs = c.block_laws.ensures.as_many f xs ys (omega (arith, xs_long, ys_long, c.requires.paired)) in
    set_all (bytes_of t) c.loop-i.cells (pairwise f xs ys) c.loop-i.i (omega (arith, long, xs_long, c.requires.paired)) (omega (arith, long, xs_long)) c.loop-i.invariant.done
