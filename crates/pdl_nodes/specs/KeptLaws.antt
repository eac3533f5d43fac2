-- Laws of what changes of rows leave: of tables of the same arrays, of cuts, and of what stays
-- ready.
use Rattle.std.specs.Prelude.{◌≡◌, ◌≤◌, ℕ, true}
use Rattle.pdl_nodes.specs.Alike.{IsAlike, KeepsMarks, is_fresh_in}
use Rattle.pdl_nodes.specs.Families.{InOrder}
use Rattle.pdl_nodes.specs.Known.{AreKnown}
use Rattle.pdl_nodes.specs.Outcomes.{IsReady, outdated_at}
use Rattle.pdl_nodes.specs.Rows.{Rows}
use Rattle.pdl_nodes.specs.Sized.{AreSized}
use Rattle.pdl_nodes.specs.Still.{IsStill}

pub record KeptLaws : Type 0 where
  -- rows that are alike keep what their types keep
  pub sized_alike :
      (old new : Rows) → IsStill old → IsStill new → IsAlike old new → AreSized old → AreSized new
  -- and what is alike to them is alike
  pub alike_trans : (a b c : Rows) → IsAlike a b → IsAlike b c → IsAlike a c
  -- where also no mark is lost what could be lent can be lent
  pub fresh_stays :
      (old new : Rows) (v : ℕ) → IsAlike old new → KeepsMarks old new → is_fresh_in old v ≡ true
      → is_fresh_in new v ≡ true
  -- and no view is outdated that wasn't
  pub less_outdated :
      (old new : Rows) (v : ℕ) → IsAlike old new → KeepsMarks old new
      → outdated_at new v ≤ outdated_at old v
  -- rows that are left as they are lose no mark, and mean the same world
  pub ready_same : (rs : Rows) → InOrder rs → AreKnown rs → IsReady rs rs
  -- and what one change and then another keep both keep
  pub ready_trans : (a b c : Rows) → IsReady a b → IsReady b c → IsReady a c
