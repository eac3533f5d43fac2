-- How many rounds a generated script has, and how many bytes are read at once.
use Rattle.std.specs.Prelude.{◌≡◌, ℕ}
use Rattle.pdl_shell.specs.declared.limits.TheConstants.{MOST_ROUNDS, MOST_READ}

-- the most rounds of a generated script
abbrev pub rounds_limit : ℕ
rounds_limit = MOST_ROUNDS

-- the most bytes that a source is asked for at once
abbrev pub read_limit : ℕ
read_limit = MOST_READ

-- how many rounds a generated script has at most, and how many bytes are read at once
pub record LimitsAre : Type 0 where
  pub rounds : rounds_limit ≡ 2000
  pub read : read_limit ≡ 4096
