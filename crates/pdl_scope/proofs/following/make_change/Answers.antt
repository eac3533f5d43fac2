use Rattle.std.proofs.Common.{◌≡◌, ℕ, ℤ, List, All, length, sym, ap, subst, ◌∙◌, arith}
use Rattle.pdl_elem.specs.Types.{InRange}
use Rattle.pdl_numbers.specs.Typed.{TypedElements}
use Rattle.pdl_buf.specs.declared.made.Made.{Made}
use Rattle.pdl_world.specs.World.{World, assign, dims_in, ty_in}
use Rattle.pdl_scope.specs.Assigning.{CanAssign}
use Rattle.pdl_scope.specs.Plans.{AreFor, listed}
use Rattle.pdl_scope.specs.declared.following.Values.{Values}
use Rattle.pdl_scope.specs.declared.following.Values.TheVariants.{Kept, Listed}
use Rattle.pdl_scope.proofs.LetGoBounds.{warmed}
use Rattle.pdl_scope.proofs.following.make_change.Goals as goal

-- ---- a buffer that a root takes over
pub replace-requires : goal.replace-requires
replace-requires g c =
    let w : World = c.args.engine.now.world in
    let v : ℕ = c.args.change.target in
    let own : AreFor w v (Kept c.in-Kept.kept) = subst (AreFor w v) c.in-Kept.is c.requires.fit in
    let values : c.into_buf.result.elems ≡ listed c.args.change.values = ap (λ (b : TypedElements). b.elems) c.into_buf.ensures ∙ ap listed (sym c.in-Kept.is) in
    record {
      live = c.requires.can.live;
      fresh = c.requires.can.fresh;
      root = sym c.requires.root ∙ c.if-root-target.true;
      type_is = ap (λ (b : TypedElements). b.ty) c.into_buf.ensures ∙ own.0;
      count = ap length values ∙ c.requires.can.count;
      in_range = subst (All (InRange (ty_in w v))) (sym values) c.requires.can.in_range;
    }

-- ---- a buffer that is written block by block
pub assign_shown-requires : goal.assign_shown-requires
assign_shown-requires g c =
    let w : World = c.args.engine.now.world in
    let v : ℕ = c.args.change.target in
    let fit : AreFor w v (Kept c.in-Kept.kept) = subst (AreFor w v) c.in-Kept.is c.requires.fit in
    record {
      sound = c.requires.sound;
      live = c.requires.can.live;
      fresh = c.requires.can.fresh;
      steady = fit.2;
      type_is = ap (λ (m : Made). m.ty) c.whole.ensures ∙ fit.0;
      count = ap (λ (m : Made). length m.elems) c.whole.ensures ∙ ap (λ (x : Values). length (listed x)) (sym c.in-Kept.is) ∙ c.requires.can.count;
    }

-- ---- a list
pub assign-requires-clause-count : goal.assign-requires-clause-count
assign-requires-clause-count g c = ap length (c.deref.ensures.value ∙ ap listed (sym c.in-Listed.is)) ∙ c.requires.can.count

pub assign-requires-clause-in_range : goal.assign-requires-clause-in_range
assign-requires-clause-in_range g c =
    subst (All (InRange (ty_in c.args.engine.now.world c.args.change.target))) (sym (c.deref.ensures.value ∙ ap listed (sym c.in-Listed.is))) c.requires.can.in_range

pub returns-clause-world : goal.returns-clause-world
returns-clause-world g c =
    c.assign.ensures.world ∙ ap (assign c.args.engine.now.world c.args.change.target) (c.deref.ensures.value ∙ ap listed (sym c.in-Listed.is))

pub returns-clause-warm : goal.returns-clause-warm
returns-clause-warm g c =
    warmed c.assignment_laws.ensures.bases c.args.engine.now c.assign.new.self c.args.change.target c.deref.result.now c.requires.can.live c.assign.ensures.world c.assign.ensures.target

pub returns-clause-counted : goal.returns-clause-counted
returns-clause-counted g c =
    let same : length c.deref.result.now ≡ length (listed c.args.change.values) = ap length (c.deref.ensures.value ∙ ap listed (sym c.in-Listed.is)) in
    omega (arith, c.assign.ensures.counted, same)
