use Rattle.std.proofs.Common.{◌||◌, sym, ◌∙◌, ap, subst}
use Rattle.pdl_nodes.specs.Children.{has_number, is_view}
use Rattle.pdl_nodes.proofs.ChildrenFound.{IsPopped, IsSearch, search_begins, search_goes, search_smaller}
use Rattle.pdl_nodes.proofs.table.Table.below.Goals as goal

pub loop-next-init : goal.loop-next-init
loop-next-init c =
    subst (λ us. IsSearch c.args.self.now c.args.id us c.pop_first-next.result c.pop_first-next.new.self.keys) (sym c.new-below.ensures.items)
    (search_begins c.args.self.now c.args.id c.pop_first-next.result c.copy_views.new.known.keys c.pop_first-next.new.self.keys c.requires
    (λ u. c.in_ok-copy_views.ensures u ∙ ap (λ ks. has_number ks u || is_view c.args.self.now c.args.id u) c.new-known.ensures.empty)
    (record { variant = c.pop_first-next.ensures.variant; removal = c.pop_first-next.ensures.removal; above = c.pop_first-next.ensures.all_above; unchanged = c.pop_first-next.ensures.unchanged }))

pub loop-next-preserved : goal.loop-next-preserved
loop-next-preserved c =
    let popped : IsPopped c.pop_first-next-in-Some.result c.copy_views-in-Some.new.known.keys c.pop_first-next-in-Some.new.self.keys =
    record { variant = c.pop_first-next-in-Some.ensures.variant; removal = c.pop_first-next-in-Some.ensures.removal; above = c.pop_first-next-in-Some.ensures.all_above; unchanged = c.pop_first-next-in-Some.ensures.unchanged } in
    subst (λ us. IsSearch c.args.self.now c.args.id us c.pop_first-next-in-Some.result c.pop_first-next-in-Some.new.self.keys) (sym c.in_ok-push.ensures.items)
    (search_goes c.args.self.now c.args.id c.loop-next.below.items c.in-Some.view c.loop-next.next c.pop_first-next-in-Some.result c.loop-next.known.keys c.copy_views-in-Some.new.known.keys c.pop_first-next-in-Some.new.self.keys c.requires c.loop-next.invariant c.in-Some.is c.in_ok-copy_views-2.ensures popped)

pub loop-next-smaller : goal.loop-next-smaller
loop-next-smaller c =
    let popped : IsPopped c.pop_first-next-in-Some.result c.copy_views-in-Some.new.known.keys c.pop_first-next-in-Some.new.self.keys =
    record { variant = c.pop_first-next-in-Some.ensures.variant; removal = c.pop_first-next-in-Some.ensures.removal; above = c.pop_first-next-in-Some.ensures.all_above; unchanged = c.pop_first-next-in-Some.ensures.unchanged } in
    search_smaller c.args.self.now c.args.id c.loop-next.below.items c.in-Some.view c.loop-next.next c.pop_first-next-in-Some.result c.loop-next.known.keys c.pop_first-next-in-Some.new.self.keys c.requires c.loop-next.invariant c.in-Some.is
    (search_goes c.args.self.now c.args.id c.loop-next.below.items c.in-Some.view c.loop-next.next c.pop_first-next-in-Some.result c.loop-next.known.keys c.copy_views-in-Some.new.known.keys c.pop_first-next-in-Some.new.self.keys c.requires c.loop-next.invariant c.in-Some.is c.in_ok-copy_views-2.ensures popped)
