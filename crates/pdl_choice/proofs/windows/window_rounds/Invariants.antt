use Rattle.std.proofs.Common.{◌≡◌, map, max, take}
use Rattle.pdl_choice.specs.Range.{capped}
use Rattle.pdl_choice.proofs.windows.window_rounds.Given as goal

abbrev pub invariant-loop-window : goal.invariant-loop-window
invariant-loop-window l = l.sizes.items ≡ map (λ w. max (capped w) 1) (take l.window-index l.windows)
