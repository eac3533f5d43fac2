use Rattle.std.proofs.Common.{◌≡◌, ℕ, ◌-◌, ◌<◌, ◌&&◌, not, false, Option, refl, sym, ◌∙◌, subst}
use Rattle.pdl_nodes.specs.Holds.{stands}
use Rattle.pdl_nodes.specs.Risen.{IsNoted}
use Rattle.pdl_nodes.specs.Row.{parent_of}
use Rattle.pdl_nodes.specs.Rows.{has, row_at}
use Rattle.pdl_nodes.proofs.upward.remove_up.Goals as goal
use Rattle.pdl_nodes.proofs.HoldsRemoved.{IsFalling, falling_none, falling_stays, falling_on, falling_smaller, falling_done}
use Rattle.pdl_nodes.proofs.RowRests.{size_of}

pub loop-next-init : goal.loop-next-init
loop-next-init c = falling_none c.args.id c.args.table.now c.args.holds.now c.requires.noted

pub loop-next-smaller-then-not-has : goal.loop-next-smaller-then-not-has
loop-next-smaller-then-not-has c =
    let P : Option ℕ → Type 0 = λ x. size_of x < size_of c.loop-next.next in
    let Q : Option ℕ → Type 0 = λ x. size_of (parent_of (row_at c.loop-next.table c.in-Some.at)) < size_of x in
    subst P (sym c.remove-next.ensures.parent) (subst Q (sym c.in-Some.is) (falling_smaller c.args.id c.args.table.now c.args.holds.now c.loop-next.table c.loop-next.holds c.loop-next.next c.in-Some.at c.requires.older c.loop-next.invariant))

pub loop-next-preserved-then-not-has : goal.loop-next-preserved-then-not-has
loop-next-preserved-then-not-has c =
    let P : Option ℕ → Type 0 = λ x. IsFalling c.args.id c.args.table.now c.args.holds.now c.remove-next.new.self c.take_parent_note.new.holds x in
    let N : Option ℕ → Type 0 = λ x. IsNoted (λ n. n - 1) c.loop-next.holds c.take_parent_note.new.holds x in
    subst P (sym c.remove-next.ensures.parent) (falling_on c.args.id c.args.table.now c.args.holds.now c.loop-next.table c.remove-next.new.self c.loop-next.holds c.take_parent_note.new.holds c.loop-next.next c.in-Some.at c.requires.falls c.loop-next.invariant c.in-Some.is
    (sym c.has.ensures ∙ c.if-not-has.true) c.remove-next.ensures.rows (subst N c.remove-next.ensures.parent c.take_parent_note.ensures))

pub loop-next-preserved : goal.loop-next-preserved
loop-next-preserved c =
    let s : (not (stands c.loop-next.holds c.in-Some.at) && has c.loop-next.table c.in-Some.at) ≡ false = rw (sym c.has.ensures ∙ c.if-not-has.false) refl in
    falling_stays c.args.id c.args.table.now c.args.holds.now c.loop-next.table c.loop-next.holds c.loop-next.next c.in-Some.at c.loop-next.invariant c.in-Some.is s

pub returns : goal.returns
returns c =
    let P : Option ℕ → Type 0 = λ x. IsFalling c.args.id c.args.table.now c.args.holds.now c.loop-next.table c.loop-next.holds x in
    falling_done c.args.id c.args.table.now c.args.holds.now c.loop-next.table c.loop-next.holds (subst P c.in_default.is c.loop-next.invariant)
