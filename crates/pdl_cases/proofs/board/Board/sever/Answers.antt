use Rattle.std.proofs.Common.{sym, subst}
use Rattle.pdl_world.specs.Sound.{IsLive}
use Rattle.pdl_cases.proofs.KeptLemmas.{stay}
use Rattle.pdl_cases.proofs.board.Board.sever.Goals as goal

pub returns-in-Ok : goal.returns-in-Ok
returns-in-Ok g c k d lt =
    stay c.args.self.now.engine c.sever.new.self
    (λ v live. subst (λ w. IsLive w v) (sym c.in-Ok.ensures.ok) ((c.cut_laws.ensures.numbers c.args.self.now.engine.world c.args.array.now.id c.requires.array.sound).live v live))
    c.sever.ensures.sound c.sever.ensures.family.holds _ (c.requires.kept k d lt)
