use Rattle.std.proofs.Common.{arith}
use Rattle.pdl_registry.proofs.numbered.place.Goals as goal
use Rattle.pdl_registry.proofs.NumberedLemmas.{none_empty, none_low}
use Rattle.pdl_registry.proofs.numbered.place.Goals.{then-at-eq0-via-then-at-eq0, then-at-eq0-via-else-at-eq0+then-id-entries}

-- nothing stands there, or all stand above
pub returns-then-at-eq0-clause-absent : goal.returns-then-at-eq0-clause-absent
returns-then-at-eq0-clause-absent g c = elim c.then-at-eq0.branch [
  | then-at-eq0-via-then-at-eq0 w ↦ none_empty c.args.entries.now c.args.id (omega (arith, w.if-at-eq0.true))
  | then-at-eq0-via-else-at-eq0+then-id-entries w ↦ none_low c.args.entries.now c.args.id w.index-entries-0.result c.requires (omega (arith, w.if-id-entries.true))
]
