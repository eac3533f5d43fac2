-- How large the numbers of a text are.
use Rattle.std.specs.Prelude.{ℕ}
use Rattle.pdl_lexemes.specs.declared.limits.TheConstants.{LARGEST_NUMBER, LARGEST_LONG}

-- the greatest number of a text
abbrev pub number_limit : ℕ
number_limit = LARGEST_NUMBER

-- the greatest size of the numbers of a list of long
abbrev pub long_limit : ℕ
long_limit = LARGEST_LONG
