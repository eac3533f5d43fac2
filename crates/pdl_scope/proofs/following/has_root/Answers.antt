use Rattle.std.proofs.Common.{◌≢◌, ℕ, Option, sym, subst}
use Rattle.std.specs.Prelude.{IfSome}
use Rattle.pdl_world.specs.Paths.{root_of}
use Rattle.pdl_scope.proofs.FlowFollowers.{not_root}
use Rattle.pdl_scope.proofs.following.has_root.Goals as goal

pub returns-then-is_noted-clause-has : goal.returns-then-is_noted-clause-has
returns-then-is_noted-clause-has c =
    let w = c.args.engine.now.world in
    let apart : IfSome c.args.apart.now (λ k. root_of w k ≢ c.args.root) = c.requires.apart in
    sym (not_root c.args.root (root_of w c.args.id) (subst (λ (o : Option ℕ). IfSome o (λ k. root_of w k ≢ c.args.root)) (c.is_noted.ensures.0 c.if-is_noted.true) apart))
