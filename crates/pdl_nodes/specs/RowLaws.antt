-- What holds of all rows, by subject.
use Rattle.pdl_nodes.specs.JoinLaws.{JoinLaws}
use Rattle.pdl_nodes.specs.KeptLaws.{KeptLaws}
use Rattle.pdl_nodes.specs.LeavingLaws.{LeavingLaws}
use Rattle.pdl_nodes.specs.NumberLaws.{NumberLaws}
use Rattle.pdl_nodes.specs.QuietLaws.{QuietLaws}
use Rattle.pdl_nodes.specs.SeenLaws.{SeenLaws}

pub record RowLaws : Type 0 where
  -- of rows by their numbers
  pub numbers : NumberLaws
  -- of what the row of an array says of it
  pub seen : SeenLaws
  -- of what changes leave
  pub kept : KeptLaws
  -- of a change that leaves what is derived of each row, within one family
  pub quiet : QuietLaws
  -- of a row that joins others
  pub joins : JoinLaws
  -- of arrays that go
  pub leaving : LeavingLaws
