use Rattle.std.proofs.Common.{sym, subst}
use Rattle.pdl_cases.specs.Kept.{AreKept}
use Rattle.pdl_cases.proofs.KeptLemmas.{releasing}
use Rattle.pdl_cases.proofs.board.Board.release.Goals as goal

pub returns : goal.returns
returns g c =
    c.in_ok-self.ensures c.args.self.now.engine c.release.new.self
    (releasing c.sweep_laws.ensures.seen c.args.self.now.engine c.release.new.self c.args.array.now.id c.release.ensures.sound c.release.ensures.released)
    (subst (AreKept c.args.self.now.engine) (sym c.deref.ensures.value) c.requires.kept)
