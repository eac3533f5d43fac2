use Rattle.std.proofs.Common.{sym, subst, refl}
use Rattle.pdl_cases.specs.Kept.{AreKept}
use Rattle.pdl_cases.proofs.KeptLemmas.{joined}
use Rattle.pdl_cases.proofs.board.Board.view.Goals as goal

pub returns-in_ok-put-in-Ok : goal.returns-in_ok-put-in-Ok
returns-in_ok-put-in-Ok g c =
    subst (AreKept c.view.new.self) (sym c.in_ok-put-in-Ok.ensures)
    (joined c.growth_laws.ensures.older c.growth_laws.ensures.below c.growth_laws.ensures.live c.args.self.now.engine c.view.new.self c.in-Ok.id _ c.in-Ok.ensures.made c.view.ensures.sound
    c.args.self.now.arrays.items _ refl refl c.requires.kept)
