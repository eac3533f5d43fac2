use Rattle.pdl_choice.proofs.RoundsStrides.{Placing}
use Rattle.pdl_choice.proofs.windows.corner_place.Given as goal

abbrev pub invariant-loop-number : goal.invariant-loop-number
invariant-loop-number l = Placing l.number l.place l.stride l.edge l.parent l.corner l.at
