use Rattle.std.proofs.Common.{◌≡◌, ℕ, ◌<◌, List, length}
use Rattle.std.specs.Prelude.{slice_index}
use Rattle.pdl_nice.specs.declared.looks.Look.{Look}
use Rattle.pdl_nice.specs.Ends.{AreEnds}
use Rattle.pdl_nice.proofs.brackets.closing.Given as goal

pub record Found (looks : List Look) (ends : List ℕ) (from : ℕ) : Type 0 where
  pub as_many : length ends ≡ length looks
  pub known : AreEnds looks ends from
  pub zeros : (k : ℕ) → k < from → slice_index ends k ≡ 0

abbrev pub invariant-loop-i : goal.invariant-loop-i
invariant-loop-i l = Found l.looks l.into.items l.i
