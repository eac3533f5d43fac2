use Rattle.std.proofs.Common.{◌≡◌, ℕ, ℤ, List, All, length, sym, ◌∙◌, ap, subst}
use Rattle.pdl_elem.specs.Types.{InRange}
use Rattle.pdl_elem.specs.declared.Ty.{Ty}
use Rattle.pdl_shape.specs.Shape.{size_of}
use Rattle.pdl_numbers.specs.Typed.{TypedElements}
use Rattle.pdl_buf.specs.declared.made.Made.{Made}
use Rattle.pdl_world.specs.World.{dims_in, elements, ty_in}
use Rattle.pdl_machine.specs.Arrays.{array_in}
use Rattle.pdl_scope.specs.Scope.{Scope as Seen}
use Rattle.pdl_scope.proofs.scope.Scope.gathered.Goals as goal

-- an array of a type, dimensions and elements
abbrev made : Ty → List ℕ → List ℤ → Made
made ty ds es = record { ty = ty; dims = ds; elems = es }

pub returns-clause-value : goal.returns-clause-value
returns-clause-value g c =
    let w = c.self.inside.engine.world in
    let v = c.args.id in
    let dims : c.copy_dims-dims.result ≡ dims_in w v = c.copy_dims-dims.ensures ∙ c.dims.ensures.now in
    let elems : c.kept.result ≡ elements w v = c.kept.ensures.value ∙ ap (λ (b : TypedElements). b.elems) c.in_ok-buf.ensures.value in
    subst (λ (s : Seen). made c.ty-ty.result c.copy_dims-dims.result c.kept.result ≡ array_in s.arrays v) c.self.view_is
    (ap (λ ty. made ty c.copy_dims-dims.result c.kept.result) c.ty-ty.ensures ∙ ap (λ ds. made (ty_in w v) ds c.kept.result) dims ∙ ap (made (ty_in w v) (dims_in w v)) elems)

pub returns-clause-made : goal.returns-clause-made
returns-clause-made g c =
    let ty : c.in_ok-buf.buf.ty ≡ c.ty-ty.result = ap (λ (b : TypedElements). b.ty) c.in_ok-buf.ensures.value ∙ sym c.ty-ty.ensures in
    record {
      count = ap length c.kept.ensures.value ∙ c.in_ok-buf.ensures.count ∙ ap size_of (sym (c.copy_dims-dims.ensures ∙ c.dims.ensures.now));
      in_range = subst (λ (y : Ty). All (InRange y) c.kept.result) ty c.kept.ensures.in_range;
    }
