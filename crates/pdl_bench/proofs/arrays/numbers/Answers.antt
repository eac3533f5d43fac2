-- One more number of the type.
use Rattle.std.proofs.Common.{◌≡◌, ◌+◌, length, ℤ, List, ap, sym, ◌∙◌, subst, to_z, of_z}
use Rattle.std.specs.Prelude.{All}
use Rattle.std.specs.Int.{w64}
use Rattle.std.proofs.lemmas.Int.{to_z-of_z}
use Rattle.std.proofs.lemmas.List.{length_push}
use Rattle.std.proofs.lemmas.List.Elements.{All-push}
use Rattle.pdl_elem.specs.Types.{InRange}
use Rattle.pdl_bench.proofs.arrays.numbers.Goals as goal

pub loop-i-preserved : goal.loop-i-preserved
loop-i-preserved c =
    let z : ℤ = to_z w64 (of_z w64 c.wrap.result) in
    let e : z ≡ c.wrap.result = to_z-of_z w64 c.wrap.result (record { sfits = c.wrap.type_inv }) in
    record {
      count = ap (λ (xs : List ℤ). length xs) c.in_ok-push.ensures.items ∙ length_push c.loop-i.numbers.items z ∙ ap (λ n. n + 1) c.loop-i.invariant.count;
      in_range = subst (λ (xs : List ℤ). All (InRange c.args.ty) xs) (sym c.in_ok-push.ensures.items)
          (All-push (InRange c.args.ty) c.loop-i.numbers.items z c.loop-i.invariant.in_range (subst (λ (y : ℤ). InRange c.args.ty y) (sym e) c.wrap.ensures.wraps.in_range));
    }
