-- A step of the proof: what the lists along dimension 0 come to, one by one.
use Rattle.std.specs.Prelude.{ℕ, ℤ, List, fold}
use Rattle.pdl_elem.specs.declared.Ty.{Ty}
use Rattle.pdl_elem.specs.Numbers.{wrapped}
use Rattle.pdl_reduce.specs.Reductions.{nth_list}

-- what the nth list of so many numbers comes to from a start on, wrapped to a type
abbrev pub come_to : Ty → (step : ℤ → ℤ → ℤ) → (start : ℤ) → (size : ℕ) → List ℤ → (n : ℕ) → ℤ
come_to ty f start size es n = wrapped ty (fold f start (nth_list size es n))
