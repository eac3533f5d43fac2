use Rattle.std.proofs.Common.{◌≡◌, true, rules, sym, ◌∙◌, ap, subst, arith}
use Rattle.pdl_world.specs.BreakLaws.{IsDerivedBelow}
use Rattle.pdl_world.specs.Cut.{breaks}
use Rattle.pdl_world.specs.declared.Trans.{Trans}
use Rattle.pdl_world.specs.Formula.{child_dims, is_well_formed}
use Rattle.pdl_world.specs.Refused.{refusal_at}
use Rattle.std.specs.Prelude.{IsTrue, []}
use Rattle.pdl_nodes.specs.declared.origin.Origin.TheVariants.{View}
use Rattle.pdl_nodes.specs.declared.relaid.RelayFault.TheVariants as relay
use Rattle.pdl_nodes.specs.Faults.{Names, of_view}
use Rattle.pdl_nodes.specs.Renewed.{Fits}
use Rattle.pdl_nodes.specs.Row.{Row}
use Rattle.pdl_nodes.specs.Rows.{row_at}
use Rattle.pdl_nodes.specs.Sized.{IsLayout}
use Rattle.pdl_nodes.specs.Worlds.{world_of}
use Rattle.pdl_nodes.proofs.RelayingLemmas.{fault_breaks, is_there, new_dims_below, relaying_aside, relaying_more, well_formed_at}
use Rattle.pdl_nodes.proofs.table.Table.relay.Goals as goal

pub returns-in_default-new_dims-clause-after : goal.returns-in_default-new_dims-clause-after
returns-in_default-new_dims-clause-after c =
    let o : (row_at c.args.self.now c.args.newer).origin ≡ View c.in-View.parent c.in-View.trans c.in-View.layout = ap (λ (r : Row). r.origin) (sym c.node.ensures) ∙ sym c.origin.ensures ∙ c.in-View.is in
    relaying_aside c.breaking_laws.ensures.below c.args.layouts.now c.args.self.now c.args.id c.args.dims.now c.args.newer c.in-View.parent c.in-View.trans c.in-View.layout c.requires.sound c.requires.still c.requires.before o c.in_default-new_dims.ensures

pub layout-requires : goal.layout-requires
layout-requires c =
    let o : (row_at c.args.self.now c.args.newer).origin ≡ View c.in-View.parent c.in-View.trans c.in-View.layout = ap (λ (r : Row). r.origin) (sym c.node.ensures) ∙ sym c.origin.ensures ∙ c.in-View.is in
    subst (λ (t : Trans). IsTrue (is_well_formed t)) (sym c.get.ensures) (well_formed_at c.args.self.now c.args.newer c.in-View.parent c.in-View.trans c.in-View.layout c.requires.sound c.requires.live o)

pub returns-in_err-made-clause-breaks : goal.returns-in_err-made-clause-breaks
returns-in_err-made-clause-breaks c =
    let o : (row_at c.args.self.now c.args.newer).origin ≡ View c.in-View.parent c.in-View.trans c.in-View.layout = ap (λ (r : Row). r.origin) (sym c.node.ensures) ∙ sym c.origin.ensures ∙ c.in-View.is in
    let n : c.args.newer ≡ c.args.id → ⊥ = λ q. absurd (omega (arith, q, c.requires.newer)) in
    let b : IsDerivedBelow (world_of c.args.self.now) c.args.id c.args.dims.now c.in-View.parent c.in-Some.above.now = new_dims_below c.breaking_laws.ensures.below c.args.layouts.now c.args.self.now c.args.id c.args.dims.now c.args.newer c.in-View.parent c.in-Some.above.now c.requires.sound (is_there c.args.self.now c.args.id c.requires.still c.requires.top) c.requires.before c.in-Some.ensures in
    let names : Names c.in_err-made.field-0.0 (refusal_at [] (child_dims c.in-View.trans c.in-Some.above.now)) = subst (λ (t : Trans). Names c.in_err-made.field-0.0 (refusal_at [] (child_dims t c.in-Some.above.now))) c.get.ensures c.in_err-made.ensures.refused in
    let h : of_view c.in_err-made.field-0.0 ≡ relay.Breaks → breaks (world_of c.args.self.now) c.args.id c.args.dims.now ≡ true = λ is. fault_breaks c.breaking_laws.ensures.below c.args.self.now c.args.id c.args.dims.now c.args.newer c.in-View.parent c.in-View.trans c.in-View.layout c.in-Some.above.now c.in_err-made.field-0.0 c.requires.sound c.requires.live n o b names is in
    first_of (search (rules, h), search (rules, h, c.from_residual.ensures), grind (rules, h), grind (rules, h, c.from_residual.ensures))

pub returns-clause-after : goal.returns-clause-after
returns-clause-after c =
    let o : (row_at c.args.self.now c.args.newer).origin ≡ View c.in-View.parent c.in-View.trans c.in-View.layout = ap (λ (r : Row). r.origin) (sym c.node.ensures) ∙ sym c.origin.ensures ∙ c.in-View.is in
    let n : c.args.newer ≡ c.args.id → ⊥ = λ q. absurd (omega (arith, q, c.requires.newer)) in
    let b : IsDerivedBelow (world_of c.args.self.now) c.args.id c.args.dims.now c.in-View.parent c.in-Some.above.now = new_dims_below c.breaking_laws.ensures.below c.args.layouts.now c.args.self.now c.args.id c.args.dims.now c.args.newer c.in-View.parent c.in-Some.above.now c.requires.sound (is_there c.args.self.now c.args.id c.requires.still c.requires.top) c.requires.before c.in-Some.ensures in
    let laid : IsLayout c.in-View.trans c.in-Some.above.now c.in_ok-made.made = subst (λ (t : Trans). IsLayout t c.in-Some.above.now c.in_ok-made.made) c.get.ensures c.in_ok-made.ensures.layout in
    let f : Fits c.in-View.trans c.in-Some.above.now c.in_ok-made.made = record { dims = c.dims.result.now; layout = laid; has_dims = c.dims.ensures; limits = c.dims_list-limits.ensures.limits } in
    relaying_more c.breaking_laws.ensures.below c.args.layouts.now c.insert.new.self c.args.self.now c.args.id c.args.dims.now c.args.newer c.in-View.parent c.in-View.trans c.in-View.layout c.in_ok-made.made c.in-Some.above.now c.requires.sound c.requires.before c.requires.live n o b f c.in_ok-insert.ensures.here c.in_ok-insert.ensures.others
