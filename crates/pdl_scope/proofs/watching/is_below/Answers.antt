use Rattle.std.proofs.Common.{◌∷◌, [], Option, ℕ, sym, ap, ◌∙◌}
use Rattle.std.proofs.Math.Bool.{or-false}
use Rattle.pdl_world.specs.Paths.{path}
use Rattle.pdl_world.specs.Swept.{is_listed}
use Rattle.pdl_machine.specs.Cuts.{is_watched}
use Rattle.pdl_scope.proofs.watching.is_below.Goals as goal

pub returns-in-Some : goal.returns-in-Some
returns-in-Some c =
    c.reaches.ensures ∙ sym (or-false (is_listed (path c.args.engine.now.world c.in-Some.seen) c.args.id))
    ∙ ap (λ (o : Option ℕ). is_watched (o ∷ []) c.args.engine.now.world c.args.id) (sym c.in-Some.is)
