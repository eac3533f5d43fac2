use Rattle.pdl_watch.proofs.SlotsUnchanged.{no_changes}
use Rattle.pdl_watch.proofs.comparing.change_laws.Goals as goal

pub returns : goal.returns
returns c = λ n es. no_changes n 0 es
