use Rattle.pdl_nodes.proofs.AlikeLemmas.{root_live, base_live, root_own, each_numbers, is_alike, alike_trans, each_past, ready_same, ready_trans}
use Rattle.pdl_nodes.proofs.HoldsAlone.{nothing_goes, all_stand, kept_tells, last_beside, root_waits, alone_from, alone_tells, alone_let_go}
use Rattle.pdl_nodes.proofs.WorldsOverBases.{over_known}
use Rattle.pdl_nodes.proofs.RenewLawOrder.{world_ty, world_dims}
use Rattle.pdl_nodes.proofs.SizedBelow.{sized_at}
use Rattle.pdl_nodes.proofs.GoingFalling.{none_goes, none_sum, stays_all, is_going}
use Rattle.pdl_nodes.proofs.WorldFamilies.{still_falls, elements_are, latest_none, latest_some, root_each, places_each, order_each, world_same, world_assigned}
use Rattle.pdl_nodes.proofs.RowFinds.{each_has, each_at, has_below, below_more, not_newest, newest_gone}
use Rattle.pdl_nodes.proofs.HoldsGone.{let_go_is, noted_ready, under_first, under_listed, under_next, under_end}
use Rattle.pdl_nodes.proofs.JoinedLemmas.{pushed, world_pushed, new_root}
use Rattle.pdl_nodes.proofs.StayingLeavings.{sweep_stays}
use Rattle.pdl_nodes.proofs.AlikePaths.{parent_live, parent_root, path_is, path_first, fresh_stays, less_outdated}
use Rattle.pdl_nodes.proofs.RowsSeen.{has_older, row_older, places_older, is_seen, view_at}
use Rattle.pdl_nodes.proofs.RowElements.{root_shows, length_latest, length_write}
use Rattle.pdl_nodes.proofs.AlikeSizes.{sized_alike}
use Rattle.pdl_nodes.proofs.RowShapes.{marked_live, mark_buffered}
use Rattle.pdl_nodes.proofs.SpotLemmas.{below_at}
use Rattle.pdl_nodes.proofs.WorldLemmas.{look_with}
use Rattle.pdl_nodes.proofs.RowOrigins.{own_root, root_buffered}
use Rattle.pdl_nodes.proofs.ChangesMarks.{each_each, each_live}
use Rattle.pdl_nodes.proofs.laws.row_laws.Goals as goal

pub returns : goal.returns
returns c = record {
  numbers = record {
    each_has = each_has;
    each_at = each_at;
    each_numbers = each_numbers;
    each_past = each_past;
    each_each = each_each;
    each_live = each_live;
    has_below = has_below;
    below_more = below_more;
    newest_gone = newest_gone;
    not_newest = not_newest;
    has_older = has_older;
    row_older = row_older;
    places_older = places_older;
    marked_live = marked_live;
  };
  seen = record {
    is_seen = is_seen;
    falls = still_falls;
    root_live = root_live;
    base_live = base_live;
    root_own = root_own;
    parentless = own_root;
    parent_live = parent_live;
    parent_root = parent_root;
    view_at = view_at;
    path_is = path_is;
    path_first = path_first;
    over_known = over_known;
    elements_are = elements_are;
    ty_are = world_ty;
    dims_are = world_dims;
    root_shows = root_shows;
    latest_none = latest_none;
    latest_some = latest_some;
    length_latest = length_latest;
    length_write = length_write;
    mark_buffered = mark_buffered;
    root_buffered = root_buffered;
    sized_at = sized_at;
    look_with = look_with;
    below_at = below_at;
  };
  kept = record {
    sized_alike = sized_alike;
    alike_trans = alike_trans;
    ready_same = ready_same;
    ready_trans = ready_trans;
    fresh_stays = fresh_stays;
    less_outdated = less_outdated;
  };
  quiet = record {
    is_alike = is_alike;
    root_each = root_each;
    places_each = places_each;
    order_each = order_each;
    world_same = world_same;
    world_assigned = world_assigned;
  };
  joins = record {
    new_root = new_root c.shape_laws.ensures.positions c.shape_laws.ensures.wholes;
    pushed = pushed;
    world_pushed = world_pushed;
  };
  leaving = record {
    sweep_stays = sweep_stays;
    let_go_is = let_go_is;
    noted_ready = noted_ready;
    none_goes = none_goes;
    is_going = is_going;
    none_sum = none_sum;
    nothing_goes = nothing_goes;
    stays_all = stays_all;
    all_stand = all_stand;
    kept_tells = kept_tells;
    last_beside = last_beside;
    root_waits = root_waits;
    alone_from = alone_from;
    alone_tells = alone_tells;
    alone_let_go = alone_let_go;
    under_first = under_first;
    under_listed = under_listed;
    under_next = under_next;
    under_end = under_end;
  };
}
