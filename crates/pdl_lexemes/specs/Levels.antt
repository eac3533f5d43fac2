-- The levels of binary operators, which scripts and kernel code share.
use Rattle.std.specs.Prelude.{ℕ, zero, suc, Bool, true, false}
use Rattle.pdl_elem.specs.declared.BinaryOp.{BinaryOp}
use Rattle.pdl_elem.specs.declared.BinaryOp.TheVariants.{Add, Sub, Mul, Div, Rem, Shl, Shr, Lt, Le, Gt, Ge, Eq, Ne, And, Or, Xor}

-- the level of an operator: the lower one binds tighter
abbrev pub level_of : BinaryOp → ℕ
level_of Mul = 1
level_of Div = 1
level_of Rem = 1
level_of Add = 2
level_of Sub = 2
level_of Shl = 3
level_of Shr = 3
level_of Lt = 4
level_of Gt = 4
level_of Le = 4
level_of Ge = 4
level_of Eq = 5
level_of Ne = 5
level_of And = 6
level_of Or = 7
level_of Xor = 7

-- whether a level has any number of operators, grouped to the left; the others have at most one
abbrev pub many : ℕ → Bool
many zero = true
many (suc zero) = true
many (suc (suc zero)) = true
many (suc (suc (suc zero))) = true
many (suc (suc (suc (suc zero)))) = false
many (suc (suc (suc (suc (suc zero))))) = false
many (suc (suc (suc (suc (suc (suc n)))))) = true
