use Rattle.std.proofs.Common.{◌≡◌, ◌+◌, ◌-◌, ℕ, List, Option, length, take, drop, ap, ◌∙◌, sym, arith}
use Rattle.std.proofs.Math.Seq.{take-length}
use Rattle.std.proofs.lemmas.List.{length-drop}
use Rattle.pdl_nodes.specs.Families.{is_among}
use Rattle.pdl_pull.proofs.PlacedGathered.{twice_here}
use Rattle.pdl_pull.proofs.gathering.has_twice_of_few.Goals as goal

-- all that come from a position on
rest_is : (ps : List (Option ℕ)) (j : ℕ) → take (length ps - j) (drop j ps) ≡ drop j ps
rest_is ps j = ap (λ k. take k (drop j ps)) (sym (length-drop j ps)) ∙ take-length (drop j ps)

pub returns-then-is_among : goal.returns-then-is_among
returns-then-is_among c =
    let j : ℕ = c.loop-from.from - 1 + 1 in
    twice_here c.args.places.now (c.loop-from.from - 1) j c.in-Some.at (omega arith) (omega arith) c.in-Some.is (ap (is_among c.in-Some.at) (sym (rest_is c.args.places.now j)) ∙ sym c.is_among.ensures ∙ c.if-is_among.true)
