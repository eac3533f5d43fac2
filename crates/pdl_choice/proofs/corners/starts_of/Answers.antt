-- One more dimension has its starts.
use Rattle.std.proofs.Common.{◌∙◌, ap, arith, get_or, map}
use Rattle.std.specs.List.{range_with_len}
use Rattle.pdl_choice.specs.Edges.{start_count}
use Rattle.pdl_choice.proofs.WhereLists.{places_grow}
use Rattle.pdl_choice.proofs.corners.starts_of.Goals as goal

pub loop-number-preserved : goal.loop-number-preserved
loop-number-preserved c =
    places_grow (λ j. start_count (get_or c.args.parent.now j 0) (get_or c.args.windows.now j 0)) _ _ c.loop-number.number _ c.loop-number.invariant c.in_ok-push.ensures.items c.starts_along.ensures

pub returns : goal.returns
returns c =
    c.loop-number.invariant ∙ ap (λ n. map (λ j. start_count (get_or c.args.parent.now j 0) (get_or c.args.windows.now j 0)) (range_with_len 0 n)) (omega arith)
