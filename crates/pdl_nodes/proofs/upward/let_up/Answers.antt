use Rattle.std.proofs.Common.{◌≡◌, ℕ, ◌+◌, ◌<◌, true, false, Option, None, sym, ◌∙◌, ap, subst}
use Rattle.pdl_nodes.specs.Children.{children}
use Rattle.pdl_nodes.specs.Holds.{goes_in, hold_at}
use Rattle.pdl_nodes.specs.Risen.{IsNoted}
use Rattle.pdl_nodes.specs.Row.{parent_of}
use Rattle.pdl_nodes.specs.Rows.{row_at}
use Rattle.pdl_nodes.proofs.upward.let_up.Goals as goal
use Rattle.pdl_nodes.proofs.RowRests.{size_of}
use Rattle.pdl_nodes.proofs.HoldsRising.{IsRising, rising_none, rising_goes, rising_room, rising_smaller, rising_stays}

pub loop-next-init : goal.loop-next-init
loop-next-init c = rising_none c.args.table.now c.args.holds.now c.args.id c.requires.marked c.requires.live

pub node-requires : goal.node-requires
node-requires c = record { live = c.loop-next.invariant.live c.in-Some.at c.in-Some.is }

pub note_parent-requires : goal.note_parent-requires
note_parent-requires c = λ q e.
    let p : c.parent-next.result ≡ parent_of (row_at c.args.table.now c.in-Some.at) = c.parent-next.ensures ∙ ap parent_of c.node.ensures in
    let g : goes_in (children c.args.table.now c.in-Some.at) (hold_at c.loop-next.holds c.in-Some.at) ≡ true = sym (c.goes.ensures ∙ ap (λ n. goes_in n (hold_at c.loop-next.holds c.in-Some.at)) c.children.ensures) ∙ c.if-goes.true in
    rising_room c.args.table.now c.args.holds.now c.loop-next.holds c.args.id c.loop-next.next c.in-Some.at q c.requires.still c.loop-next.invariant c.in-Some.is g (sym p ∙ e)

pub loop-next-smaller-then-goes : goal.loop-next-smaller-then-goes
loop-next-smaller-then-goes c =
    let p : c.parent-next.result ≡ parent_of (row_at c.args.table.now c.in-Some.at) = c.parent-next.ensures ∙ ap parent_of c.node.ensures in
    let P : Option ℕ → Type 0 = λ x. size_of x < size_of c.loop-next.next in
    let Q : Option ℕ → Type 0 = λ x. size_of (parent_of (row_at c.args.table.now c.in-Some.at)) < size_of x in
    subst P (sym p) (subst Q (sym c.in-Some.is) (rising_smaller c.args.table.now c.in-Some.at c.requires.still (c.loop-next.invariant.live c.in-Some.at c.in-Some.is)))

pub loop-next-preserved-then-goes : goal.loop-next-preserved-then-goes
loop-next-preserved-then-goes c =
    let p : c.parent-next.result ≡ parent_of (row_at c.args.table.now c.in-Some.at) = c.parent-next.ensures ∙ ap parent_of c.node.ensures in
    let g : goes_in (children c.args.table.now c.in-Some.at) (hold_at c.loop-next.holds c.in-Some.at) ≡ true = sym (c.goes.ensures ∙ ap (λ n. goes_in n (hold_at c.loop-next.holds c.in-Some.at)) c.children.ensures) ∙ c.if-goes.true in
    let P : Option ℕ → Type 0 = λ x. IsRising c.args.table.now c.args.holds.now c.remove.new.self c.args.id x in
    let N : Option ℕ → Type 0 = λ x. IsNoted (λ n. n + 1) c.loop-next.holds c.note_parent.new.holds x in
    subst P (sym p) (rising_goes c.args.table.now c.args.holds.now c.loop-next.holds c.note_parent.new.holds c.remove.new.self c.args.id c.loop-next.next c.in-Some.at c.requires.still c.loop-next.invariant c.in-Some.is g
    (subst N p c.note_parent.ensures) c.remove.ensures.here c.remove.ensures.others)

pub loop-next-preserved : goal.loop-next-preserved
loop-next-preserved c =
    let g : goes_in (children c.args.table.now c.in-Some.at) (hold_at c.loop-next.holds c.in-Some.at) ≡ false = sym (c.goes.ensures ∙ ap (λ n. goes_in n (hold_at c.loop-next.holds c.in-Some.at)) c.children.ensures) ∙ c.if-goes.false in
    rising_stays c.args.table.now c.args.holds.now c.loop-next.holds c.args.id c.loop-next.next c.in-Some.at c.loop-next.invariant c.in-Some.is g

pub returns-clause-marked : goal.returns-clause-marked
returns-clause-marked c = c.loop-next.invariant.marked

pub returns-clause-fewer : goal.returns-clause-fewer
returns-clause-fewer c = c.loop-next.invariant.fewer

pub returns-clause-loose : goal.returns-clause-loose
returns-clause-loose c =
    let P : Option ℕ → Type 0 = λ x. IsRising c.args.table.now c.args.holds.now c.loop-next.holds c.args.id x in
    let i : IsRising c.args.table.now c.args.holds.now c.loop-next.holds c.args.id None = subst P c.in_default.is c.loop-next.invariant in
    λ v l. i.loose v l (λ e. absurd (cc))
