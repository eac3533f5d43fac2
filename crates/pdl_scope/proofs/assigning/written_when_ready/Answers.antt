use Rattle.std.proofs.Common.{◌≡◌, Bool, true, false, Option, Some, None}
use Rattle.std.specs.Prelude.{◌&&◌, is_some}
use Rattle.pdl_engine.specs.State.{is_fresh}
use Rattle.pdl_scope.proofs.assigning.written_when_ready.Goals as goal

-- what two tests say is there isn't missing
not_missing : {X : Type 0} (o : Option X) (a b : Bool) → is_some o ≡ (a && b) → a ≡ true → b ≡ true → o ≡ None → ⊥
not_missing (Some x) a b found left right is = cc
not_missing None true true found left right is = cc
not_missing None true false found left right is = cc
not_missing None false b found left right is = cc

pub unreachable-requires : goal.unreachable-requires
unreachable-requires g c =
    let e = c.ready_two.new.engine in
    not_missing c.written_at_once.result (is_fresh e c.args.target) (is_fresh e c.args.value) c.written_at_once.ensures.fresh c.in_ok-ready_two.ensures.left_fresh c.in_ok-ready_two.ensures.right_fresh c.in-None.is
