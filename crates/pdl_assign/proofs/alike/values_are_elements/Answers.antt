use Rattle.std.proofs.Common.{◌≡◌, ◌∙◌, ℕ, ℤ, Bool, true, List, [], ◌∷◌, Result, Ok, Err, refl, sym, ap, ap₂, subst, length, arith}
use Rattle.std.specs.Prelude.{◌==◌, ◌&&◌, ◌||◌, if◌then◌else◌, All}
use Rattle.std.proofs.lemmas.Bool.Decides.{nat_tests}
use Rattle.pdl_elem.specs.Laws.{WrappingLaws}
use Rattle.pdl_elem.specs.Types.{InRange}
use Rattle.pdl_shape.specs.Refusals.{mismatch}
use Rattle.pdl_shape.specs.Shape.{size_of}
use Rattle.pdl_buf.specs.Window.{Window}
use Rattle.pdl_lexemes.specs.declared.AssignOp.{AssignOp}
use Rattle.pdl_ops.specs.Elementwise.{OpRefusal, no_dims}
use Rattle.pdl_ops.specs.Parts.{StretchedToItself}
use Rattle.pdl_ops.specs.Values.{fits, new_values}
use Rattle.pdl_world.specs.World.{World, dims_in, elements, ty_in}
use Rattle.pdl_engine.specs.State.{State}
use Rattle.pdl_assign.specs.Alike.{SetsAlike}
use Rattle.pdl_assign.specs.Blocks.{right_in, values_in, written_in}
use Rattle.pdl_assign.proofs.TypeLemmas.{copy_written}
use Rattle.pdl_assign.proofs.alike.values_are_elements.Goals as goal

-- sizes fit themselves
fits_itself : (ds : List ℕ) → fits ds ds ≡ true
fits_itself [] = refl
fits_itself (d ∷ ds) = ap₂ (λ (p q : Bool). p && q) (one_or_itself d) (fits_itself ds)
  where
    one_or_itself : (d : ℕ) → (d == 1 || d == d) ≡ true
    one_or_itself d = grind (arith, nat_tests)

-- what is set is written as it is
set_written : WrappingLaws → StretchedToItself → (sign : AssignOp) (w : World) (v u : ℕ) → SetsAlike sign w v u → length (elements w u) ≡ size_of (dims_in w u) → All (InRange (ty_in w u)) (elements w u)
    → written_in sign w v u ≡ Ok (elements w u)
set_written wraps itself sign w v u alike long all =
    ap (λ (s : AssignOp). written_in s w v u) alike.set
    ∙ copy_written wraps itself (ty_in w v) (ty_in w u) (dims_in w u) (dims_in w v) (elements w v) (elements w u) alike.same_type alike.same_dims long all

-- and nothing refuses it
set_found : WrappingLaws → StretchedToItself → (sign : AssignOp) (e : State) (v u : ℕ) → SetsAlike sign e.world v u → length (elements e.world u) ≡ size_of (dims_in e.world u) → All (InRange (ty_in e.world u)) (elements e.world u)
    → values_in sign e v u ≡ Ok (elements e.world u)
set_found wraps itself sign e v u alike long all =
    let w : World = e.world in
    let values : Bool → Result (List ℤ) OpRefusal = λ b. if b then new_values sign (ty_in w v) (ty_in w u) (elements w v) (right_in w v u) else Err (no_dims mismatch) in
    ap values (ap (λ (ds : List ℕ). fits (dims_in w u) ds) (sym alike.same_dims) ∙ fits_itself (dims_in w u))
    ∙ set_written wraps itself sign w v u alike long all

pub returns-clause-found : goal.returns-clause-found
returns-clause-found c =
    set_found c.wrapping_laws.ensures c.value_laws.ensures.itself c.args.sign c.args.engine.now c.args.target c.args.source c.requires.alike
    (subst (λ (x : Window). length x.elems ≡ size_of x.dims) c.lend-from.ensures c.strided_dims-count.ensures.count)
    (subst (λ (x : Window). All (InRange x.ty) x.elems) c.lend-from.ensures c.strided_is_in_range.ensures)

pub returns-clause-written : goal.returns-clause-written
returns-clause-written c =
    set_written c.wrapping_laws.ensures c.value_laws.ensures.itself c.args.sign c.args.engine.now.world c.args.target c.args.source c.requires.alike
    (subst (λ (x : Window). length x.elems ≡ size_of x.dims) c.lend-from.ensures c.strided_dims-count.ensures.count)
    (subst (λ (x : Window). All (InRange x.ty) x.elems) c.lend-from.ensures c.strided_is_in_range.ensures)
