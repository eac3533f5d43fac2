-- Where the first divisor 0 stands in a list that is read in blocks.
use Rattle.std.proofs.Common.{◌≡◌, ℕ, ◌+◌, ℤ, pos, List, ◌++◌, length, Option, Some, None}
use Rattle.std.specs.Prelude.{Bool, true, false, position, if◌then◌else◌}
use Rattle.std.specs.Ordering.{int_eq}
use Rattle.pdl_lemmas.specs.Lists.{position_none, position_after, position_before}
use Rattle.pdl_elem.specs.declared.BinaryOp.{BinaryOp}
use Rattle.pdl_elem.specs.Blocks.{zero_at}
use Rattle.pdl_elem.specs.Operators.{divides}

-- a test for 0, where it is asked for
abbrev tested : Bool → List ℤ → Option ℕ
tested b us = if b then position (λ z. int_eq z (pos 0)) us else None

tested_none : (b : Bool) (us vs : List ℤ) → tested b us ≡ None → tested b vs ≡ None → tested b (us ++ vs) ≡ None
tested_none true us vs e f = position_none _ us vs e f
tested_none false us vs e f = e

tested_after : (b : Bool) (us vs : List ℤ) (p : ℕ) → tested b us ≡ None → tested b vs ≡ Some p → tested b (us ++ vs) ≡ Some (length us + p)
tested_after true us vs p e f = position_after _ us vs p e f
tested_after false us vs p e f = absurd (cc)

tested_before : (b : Bool) (us vs : List ℤ) (p : ℕ) → tested b us ≡ Some p → tested b (us ++ vs) ≡ Some p
tested_before true us vs p e = position_before _ us vs p e
tested_before false us vs p e = absurd (cc)

-- no divisor in either part
pub zero_none : (op : BinaryOp) (us vs : List ℤ) → zero_at op us ≡ None → zero_at op vs ≡ None → zero_at op (us ++ vs) ≡ None
zero_none op us vs e f = tested_none (divides op) us vs e f

-- the first one in the second part
pub zero_after : (op : BinaryOp) (us vs : List ℤ) (p : ℕ) → zero_at op us ≡ None → zero_at op vs ≡ Some p → zero_at op (us ++ vs) ≡ Some (length us + p)
zero_after op us vs p e f = tested_after (divides op) us vs p e f

-- the first one in the first part
pub zero_before : (op : BinaryOp) (us vs : List ℤ) (p : ℕ) → zero_at op us ≡ Some p → zero_at op (us ++ vs) ≡ Some p
zero_before op us vs p e = tested_before (divides op) us vs p e
