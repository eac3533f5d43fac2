use Rattle.std.proofs.Common.{◌≡◌, ◌+◌, ℕ, take}
use Rattle.pdl_engine.specs.Held.{count_at}
use Rattle.pdl_scope.specs.Holding.{SameButHolds}
use Rattle.pdl_scope.specs.Scope.{times}
use Rattle.pdl_scope.proofs.flowing.hold_all.Given as goal

-- those before this place are held once more
abbrev pub invariant-loop-id : goal.invariant-loop-id
invariant-loop-id l = record {
  same : SameButHolds l.fn.engine l.engine;
  counts : (v : ℕ) → count_at l.engine.holds v ≡ count_at l.fn.engine.holds v + times (take l.id-index l.ids) v;
}
