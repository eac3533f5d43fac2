use Rattle.std.proofs.Common.{◌≡◌, ◌∙◌, ℕ, ℤ, List, All, length, sym, ap, subst, arith}
use Rattle.std.proofs.lemmas.Result.{IfOk-weaker}
use Rattle.pdl_elem.specs.declared.Ty.{Ty}
use Rattle.pdl_elem.specs.Types.{InRange}
use Rattle.pdl_numbers.specs.Typed.{count_moved}
use Rattle.pdl_shape.specs.Shape.{size_of}
use Rattle.pdl_flow.specs.Inputs.{Given}
use Rattle.pdl_world.specs.World.{World, dims_in, ty_in}
use Rattle.pdl_scope.specs.Plans.{AreFor, listed}
use Rattle.pdl_scope.specs.declared.following.Values.TheVariants.{Kept}
use Rattle.pdl_scope.proofs.FlowCostLemmas.{moved_once}
use Rattle.pdl_scope.proofs.PlanInputs.{input_of, inputs_same}
use Rattle.pdl_scope.proofs.following.input_of_values.Goals as goal

pub returns-in-Kept-clause-input : goal.returns-in-Kept-clause-input
returns-in-Kept-clause-input g c =
    let w : World = c.args.engine.now.world in
    let v : ℕ = c.args.change.now.target in
    let fit : AreFor w v (Kept c.in-Kept.kept) = subst (AreFor w v) c.in-Kept.is c.requires.fit in
    c.lent.ensures ∙ inputs_same v fit.0 fit.1 (ap listed (sym c.in-Kept.is))

pub new-requires : goal.new-requires
new-requires g c =
    let w : World = c.args.engine.now.world in
    let v : ℕ = c.args.change.now.target in
    let es : List ℤ = c.deref.result.now in
    let same : es ≡ listed c.args.change.now.values = c.deref.ensures.value ∙ ap listed (sym c.in-Listed.is) in
    record {
      count = ap length same ∙ c.requires.can.count ∙ ap size_of (sym c.dims.ensures.now);
      in_range = subst (λ (ty : Ty). All (InRange ty) es) (sym c.ty.ensures) (subst (All (InRange (ty_in w v))) (sym same) c.requires.can.in_range);
    }

pub returns-in-Listed-clause-input : goal.returns-in-Listed-clause-input
returns-in-Listed-clause-input g c =
    let w : World = c.args.engine.now.world in
    let v : ℕ = c.args.change.now.target in
    let vs : List ℤ = listed c.args.change.now.values in
    IfOk-weaker c.new.result (λ (i : Given). i ≡ input_of v c.ty.result c.dims.result.now c.deref.result.now) (λ (i : Given). i ≡ input_of v (ty_in w v) (dims_in w v) vs)
    (λ i is. is ∙ inputs_same v c.ty.ensures c.dims.ensures.now (c.deref.ensures.value ∙ ap listed (sym c.in-Listed.is))) c.new.ensures.input

pub returns-in-Listed-clause-counted : goal.returns-in-Listed-clause-counted
returns-in-Listed-clause-counted g c =
    let moved = moved_once c.new.result c.args.steps.now c.new.new.steps (count_moved c.deref.result.now) c.new.ensures.counted c.new.ensures.err in
    let same : count_moved c.deref.result.now ≡ count_moved (listed c.args.change.now.values) = ap count_moved (c.deref.ensures.value ∙ ap listed (sym c.in-Listed.is)) in
    omega (arith, moved, same)
