use Rattle.std.proofs.Common.{sym, subst}
use Rattle.pdl_world.specs.Sound.{IsLive}
use Rattle.pdl_cases.proofs.KeptLemmas.{stay}
use Rattle.pdl_cases.proofs.board.Board.reshape.Goals as goal

pub returns-in-Ok : goal.returns-in-Ok
returns-in-Ok g c k d lt =
    stay c.args.self.now.engine c.reshape.new.self
    (λ v live. subst (λ w. IsLive w v) (sym c.in-Ok.ensures.ok)
    ((c.reshape_laws.ensures.numbers c.args.self.now.engine.world c.args.array.now.id c.args.dims.now c.requires.array.sound c.in-Ok.ensures.allowed).live v live))
    c.reshape.ensures.sound c.reshape.ensures.family.holds _ (c.requires.kept k d lt)
