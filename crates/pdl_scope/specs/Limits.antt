-- How many slots a scope may have.
use Rattle.std.specs.Prelude.{◌≡◌}
use Rattle.pdl_scope.specs.Scope.{slots_limit}

-- at most so many slots are there
abbrev pub LimitIs : Type 0
LimitIs = slots_limit ≡ 1024
