use Rattle.std.proofs.Common.{ℕ, List, [], rules, sym, ◌∙◌, subst}
use Rattle.std.specs.Prelude.{IsOk}
use Rattle.pdl_world.specs.Formula.{child_dims}
use Rattle.pdl_world.specs.Paths.{path}
use Rattle.pdl_world.specs.Refused.{refusal_at}
use Rattle.pdl_world.specs.World.{dims_in}
use Rattle.pdl_nodes.specs.Faults.{Names}
use Rattle.pdl_engine.proofs.FaultRefusals.{deep_at, names_at}
use Rattle.pdl_engine.proofs.engine.Engine.layout_of.Goals as goal

pub returns-then-is_deep-clause-refused : goal.returns-then-is_deep-clause-refused
returns-then-is_deep-clause-refused c =
    deep_at (path c.args.self.now.world c.args.parent) (child_dims c.args.trans.now (dims_in c.args.self.now.world c.args.parent))
    (subst (λ (ds : List ℕ). IsOk (child_dims c.args.trans.now ds)) c.dims.ensures.now c.in_ok-layout.ensures.dims) (sym c.is_deep.ensures ∙ c.if-is_deep.true)

pub returns-in_err-layout-clause-refused : goal.returns-in_err-layout-clause-refused
returns-in_err-layout-clause-refused c =
    let h =
    (names_at c.in_err-layout.field-0.0 (path c.args.self.now.world c.args.parent) (child_dims c.args.trans.now (dims_in c.args.self.now.world c.args.parent))
    (subst (λ (ds : List ℕ). Names c.in_err-layout.field-0.0 (refusal_at [] (child_dims c.args.trans.now ds))) c.dims.ensures.now c.in_err-layout.ensures.refused)) in
    first_of (search (rules, h), search (rules, h, c.from_residual.ensures), grind (rules, h), grind (rules, h, c.from_residual.ensures))
