-- How long scripts and their statements may be, and how deep their brackets.
use Rattle.std.specs.Prelude.{◌≡◌, ℕ}
use Rattle.pdl_lex.specs.declared.limits.TheConstants.{STATEMENT_LIMIT, SCRIPT_LIMIT, MOST_OPEN}

-- the most bytes of a statement's text
abbrev pub statement_limit : ℕ
statement_limit = STATEMENT_LIMIT

-- the most bytes of a script
abbrev pub script_limit : ℕ
script_limit = SCRIPT_LIMIT

-- at most so many brackets are open at once
abbrev pub bracket_limit : ℕ
bracket_limit = MOST_OPEN

-- how long a statement's text and a script are at most, and how many brackets are open
pub record LimitsAre : Type 0 where
  pub statement : statement_limit ≡ 65536
  pub script : script_limit ≡ 16777216
  pub brackets : bracket_limit ≡ 64
