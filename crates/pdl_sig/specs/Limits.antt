-- The limits of signatures and of calls.
use Rattle.std.specs.Prelude.{◌≡◌}
use Rattle.pdl_sig.specs.Refusals.{args_limit, dim_names_limit}
use Rattle.pdl_sig.specs.Resolution.{work_limit}

-- how many arguments and names of dimensions a signature has at most, and how much work a call does
pub record LimitsAre : Type 0 where
  pub args : args_limit ≡ 16
  pub dim_names : dim_names_limit ≡ 8
  pub work : work_limit ≡ 16777216
