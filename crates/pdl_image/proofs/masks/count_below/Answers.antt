use Rattle.std.proofs.Common.{ltb, ltb-true, ltb-false, arith, rules}
use Rattle.std.proofs.lemmas.List.Sorted.{IsPartitionPoint-from_clause, IsPartitionedBy-ltb}
use Rattle.pdl_image.proofs.DumpMasks.{dropped_past, taken_below}
use Rattle.pdl_image.proofs.masks.count_below.Goals as goal

pub returns : goal.returns
returns c =
    let parted = IsPartitionedBy-ltb (λ q. q) _ c.args.position c.requires in
    let point = IsPartitionPoint-from_clause (λ q. ltb q c.args.position) _ _ c.partition_point.ensures.partitioned parted (λ a r q k. search rules) in
    record {
      bound = c.partition_point.ensures.bound;
      below = taken_below c.args.places.now _ c.args.position c.partition_point.ensures.bound (λ k d h. ltb-true _ _ (point.0 k d (omega arith) h));
      past = dropped_past c.args.places.now _ c.args.position (λ k d low within. ltb-false _ _ (point.1 k d low within));
    }
