-- A place came twice, and so it does in the whole, or all positions are behind this one.
use Rattle.std.proofs.Common.{◌≡◌, ◌∙◌, ℕ, List, Option, drop, ap, sym, arith}
use Rattle.pdl_nodes.specs.Families.{has_repeats}
use Rattle.pdl_pull.proofs.PlacedGathered.{repeats_drop}
use Rattle.pdl_pull.proofs.gathering.has_twice_by_bytes.Goals as goal
use Rattle.pdl_pull.proofs.gathering.has_twice_by_bytes.Goals.{then-loop-end-test+else-not-twice, else-loop-end-test}

pub returns : goal.returns
returns c =
    let places : List (Option ℕ) = c.args.places.now in
    elim c.loop-end-test.branch [
      | then-loop-end-test+else-not-twice w ↦ w.if-not-twice.false ∙ sym (repeats_drop places c.loop-end.end (sym c.loop-end.invariant.twice ∙ w.if-not-twice.false))
      | else-loop-end-test w ↦
          let none : c.loop-end.end ≡ 0 = omega arith in
          c.loop-end.invariant.twice ∙ ap (λ (k : ℕ). has_repeats (drop k places)) none
    ]
