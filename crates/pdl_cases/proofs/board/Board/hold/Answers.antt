use Rattle.std.proofs.Common.{sym, subst}
use Rattle.pdl_cases.specs.Kept.{AreKept}
use Rattle.pdl_cases.proofs.KeptLemmas.{holding}
use Rattle.pdl_cases.proofs.board.Board.hold.Goals as goal

pub returns : goal.returns
returns g c =
    c.in_ok-self.ensures c.args.self.now.engine c.hold.new.self (holding c.args.self.now.engine c.hold.new.self c.args.array.now.id c.hold.ensures)
    (subst (AreKept c.args.self.now.engine) (sym c.deref.ensures.value) c.requires.kept)
