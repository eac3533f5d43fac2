-- One list of indices, or of statements, behind another.
use Rattle.std.specs.Prelude.{ℕ, Bool, false, if◌then◌else◌, List, get_or}
use Rattle.pdl_code.specs.declared.names.Variable.TheVariants.{Index}
use Rattle.pdl_code.specs.Tree.{AnyIndices, AnyCode, Indices, named, none, along, done, next}

abbrev pub join : {W A D : Type 0} → AnyIndices W A D → AnyIndices W A D → AnyIndices W A D
join none rest = rest
join (along d e is) rest = along d e (join is rest)

abbrev pub join_code : {W A D S : Type 0} → AnyCode W A D S → AnyCode W A D S → AnyCode W A D S
join_code done rest = rest
join_code (next s c) rest = next s (join_code c rest)

-- the index of a dimension's loop, where none was given
abbrev pub one_loop : List Bool → ℕ → ℕ → Indices
one_loop given k d = if get_or given k false then none else along k (named (Index d)) none
