-- What the reader holds of the arguments so far. It keeps the list only as long as
-- no argument is too large and they aren't too many, since the list isn't answered otherwise.
use Rattle.std.specs.Prelude.{◌≡◌, ◌≤◌, suc, min, Bool, true, false, List, length, Option, Some, None}
use Rattle.std.specs.List.{list_any}
use Rattle.pdl_slices.specs.declared.SliceArg.{SliceArg}
use Rattle.pdl_slices.specs.declared.reader.Reader.{Reader}
use Rattle.pdl_slices.specs.Refusals.{args_limit, has_large_number, has_zero_step}
use Rattle.pdl_slices.specs.SliceReading.{Stage}

-- the reader has taken these arguments
pub record Collects (done : List SliceArg) (r : Reader) : Type 0 where
  pub counted : r.count ≡ min (length done) (suc args_limit)
  pub too_large : r.too_large ≡ list_any has_large_number done
  pub zero_step : r.too_large ≡ false → r.zero_step ≡ list_any has_zero_step done
  pub kept : r.too_large ≡ false → r.count ≤ args_limit → r.args ≡ done

-- the reader has what the bytes up to this stage mean
pub record Holds (s : Stage) (r : Reader) : Type 0 where
  pub place : r.place ≡ s.place
  pub args : Collects s.done r

-- whether a byte may stand there, and the stage after it
abbrev pub Takes : Bool → Option Stage → Reader → Type 0
Takes true (Some s) r = Holds s r
Takes false None r = Unit {0}
Takes _ _ r = ⊥

-- whether the text may end there, and all of its arguments
abbrev pub Ends : Bool → Option (List SliceArg) → Reader → Type 0
Ends true (Some args) r = Collects args r
Ends false None r = Unit {0}
Ends _ _ r = ⊥
