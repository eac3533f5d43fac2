use Rattle.std.proofs.Common.{◌≡◌, map, drop}
use Rattle.pdl_syntax.specs.Ragged.{in_views}
use Rattle.pdl_syntax.specs.StatementTree.{view_of}
use Rattle.pdl_syntax.proofs.ragged.in_views.Given as goal

abbrev pub invariant-loop-view : goal.invariant-loop-view
invariant-loop-view l = in_views (map view_of l.views) ≡ in_views (map view_of (drop l.view-index l.views))
