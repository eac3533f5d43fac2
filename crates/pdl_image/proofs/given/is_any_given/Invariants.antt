use Rattle.std.proofs.Common.{◌≡◌, ◌*◌, false, take}
use Rattle.std.specs.List.{list_any}
use Rattle.pdl_choice.specs.Where.{is_set}
use Rattle.pdl_image.specs.declared.TheConstants.{PART}
use Rattle.pdl_image.specs.Dump.{as_listed}
use Rattle.pdl_image.proofs.given.is_any_given.Given as goal

-- no number of the parts before this one
abbrev pub invariant-loop-p : goal.invariant-loop-p
invariant-loop-p l = list_any (λ n. is_set (as_listed n)) (take (PART * l.p) l.numbers) ≡ false
