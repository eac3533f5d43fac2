use Rattle.std.proofs.Common.{sym, ap, refl, subst}
use Rattle.slab.specs.Slab.{get}
use Rattle.pdl_nodes.specs.Marked.{AreListed}
use Rattle.pdl_nodes.specs.Rows.{Rows}
use Rattle.pdl_nodes.specs.Table.{rows_of}
use Rattle.pdl_nodes.proofs.table.Table.insert.Goals as goal
use Rattle.pdl_nodes.proofs.TableCalls.{joined, keys_below, unchanged, vacant, filled, table_same}
use Rattle.pdl_nodes.proofs.ChildrenCounted.{counted_joined, counted_noted, counted_same, none_noted}
use Rattle.pdl_nodes.proofs.MarkedListing.{listed_joined}

pub make_room-requires : goal.make_room-requires
make_room-requires c = record {
  ordered = c.self.invariant.0.0.ordered;
  above = keys_below c.args.self.now c.self.inside.keys c.self.inside.nodes c.args.id c.self.view_is c.self.invariant.0.0 c.requires.below;
  absent = λ v. none_noted c.args.self.now c.args.id v c.self.inside.children c.requires.below (counted_same (rows_of c.self.inside.nodes c.self.inside.keys) c.args.self.now c.self.inside.children c.self.view_is c.self.invariant.1);
}

pub invariant_of-self : goal.invariant_of-self
invariant_of-self c =
    let j = (joined c.args.self.now c.self.inside.keys c.make_room.new.keys c.self.inside.nodes c.insert_reserved.new.self c.args.id c.make_room.new.nodes.vacant_key c.args.node c.self.view_is c.self.invariant.0.0 c.requires.below c.make_room.ensures.ordered c.in-Ok.ensures.updates
    (vacant c.self.inside.nodes c.make_room.new.nodes c.make_room.new.nodes.vacant_key c.insert_reserved.result c.make_room.ensures.rest c.insert_reserved.ensures.key refl c.insert_reserved.ensures.was_vacant)
    (filled c.self.inside.nodes c.make_room.new.nodes c.insert_reserved.new.self c.make_room.new.nodes.vacant_key c.insert_reserved.result c.args.node c.make_room.ensures.rest c.insert_reserved.ensures.key refl c.insert_reserved.ensures.updates)) in (
      (j.0, subst (λ (t : Rows). AreListed t c.self.inside.marked) (sym j.1) (listed_joined c.args.self.now c.self.inside.marked c.args.id c.args.node c.requires.below c.requires.new_root c.requires.unmarked (subst (λ (t : Rows). AreListed t c.self.inside.marked) c.self.view_is c.self.invariant.0.1))),
      counted_joined c.args.self.now _ c.args.id c.args.node c.self.inside.children c.make_room.new.children c.parent-parent.result j.1 c.parent-parent.ensures c.in-Ok.ensures.more (counted_same (rows_of c.self.inside.nodes c.self.inside.keys) c.args.self.now c.self.inside.children c.self.view_is c.self.invariant.1),
    )

pub returns-in-Ok-clause-ok : goal.returns-in-Ok-clause-ok
returns-in-Ok-clause-ok c = (joined c.args.self.now c.self.inside.keys c.make_room.new.keys c.self.inside.nodes c.insert_reserved.new.self c.args.id c.make_room.new.nodes.vacant_key c.args.node c.self.view_is c.self.invariant.0.0 c.requires.below c.make_room.ensures.ordered c.in-Ok.ensures.updates
    (vacant c.self.inside.nodes c.make_room.new.nodes c.make_room.new.nodes.vacant_key c.insert_reserved.result c.make_room.ensures.rest c.insert_reserved.ensures.key refl c.insert_reserved.ensures.was_vacant)
    (filled c.self.inside.nodes c.make_room.new.nodes c.insert_reserved.new.self c.make_room.new.nodes.vacant_key c.insert_reserved.result c.args.node c.make_room.ensures.rest c.insert_reserved.ensures.key refl c.insert_reserved.ensures.updates)).1

pub invariant_of-self-in-Err : goal.invariant_of-self-in-Err
invariant_of-self-in-Err c =
    let e = unchanged (rows_of c.self.inside.nodes c.self.inside.keys) c.self.inside.keys c.make_room.new.keys c.self.inside.nodes c.make_room.new.nodes refl c.self.invariant.0.0 c.in-Err.ensures.kept (λ k. ap (λ s. get s k) c.make_room.ensures.rest) in (
      (table_same c.self.inside.keys c.make_room.new.keys c.self.inside.nodes c.make_room.new.nodes c.self.invariant.0.0 c.make_room.ensures.ordered c.in-Err.ensures.kept (λ k. ap (λ s. get s k) c.make_room.ensures.rest), subst (λ (t : Rows). AreListed t c.self.inside.marked) (sym e) c.self.invariant.0.1),
      counted_noted (rows_of c.self.inside.nodes c.self.inside.keys) _ c.self.inside.children c.make_room.new.children (sym e) c.in-Err.ensures.same c.self.invariant.1,
    )

pub returns-in-Err-clause-err : goal.returns-in-Err-clause-err
returns-in-Err-clause-err c = unchanged c.args.self.now c.self.inside.keys c.make_room.new.keys c.self.inside.nodes c.make_room.new.nodes c.self.view_is c.self.invariant.0.0 c.in-Err.ensures.kept (λ k. ap (λ s. get s k) c.make_room.ensures.rest)
