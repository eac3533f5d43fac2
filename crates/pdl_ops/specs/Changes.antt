-- What is done to each element of an array.
use Rattle.std.specs.Prelude.{ℤ}
use Rattle.pdl_elem.specs.declared.Ty.{Ty}
use Rattle.pdl_elem.specs.Types.{unary_result}
use Rattle.pdl_elem.specs.Numbers.{wrapped}
use Rattle.pdl_elem.specs.Operators.{unary_value}
use Rattle.pdl_ops.specs.declared.changes.Change.{Change}
use Rattle.pdl_ops.specs.declared.changes.Change.TheVariants.{Operator, Convert}

-- a number of a type, changed
abbrev pub changed : Change → Ty → ℤ → ℤ
changed (Operator op) ty z = unary_value op ty z
changed (Convert to) ty z = wrapped to z

-- the type that it has then
abbrev pub changed_type : Change → Ty → Ty
changed_type (Operator op) ty = unary_result op ty
changed_type (Convert to) ty = to
