-- Calls whose outcomes were worked out by hand.
use Rattle.std.specs.Prelude.{◌≡◌, ℕ, ℤ, pos, List, [], ◌∷◌, Some, None, Ok, Err, codes}
use Rattle.std.proofs.Common.{refl}
use Rattle.pdl_elem.specs.declared.Ty.TheVariants.{Long}
use Rattle.pdl_elem.specs.declared.BinaryOp.TheVariants.{Add, Div}
use Rattle.pdl_buf.specs.declared.made.Made.{Made}
use Rattle.pdl_sig.specs.declared.Role.TheVariants.{Input, Output}
use Rattle.pdl_sig.specs.declared.Resolved.{Resolved}
use Rattle.pdl_sig.specs.Known.{generic_arg}
use Rattle.pdl_code.specs.declared.names.Variable.TheVariants.{Index}
use Rattle.pdl_code.specs.Tree.{number, named, access, binary, none, along, repeat, put, done, next}
use Rattle.pdl_kernel.specs.declared.faults.Fault.TheVariants.{DivideByZero, IndexOutOfRange}
use Rattle.pdl_kernel.specs.Call.{called, fault_at}
use Rattle.pdl_kernel.specs.Kernels.{Kernel}

abbrev long : List ℕ → List ℤ → Made
long ds es = record { ty = Long; dims = ds; elems = es }

-- `a(n); [o]b()` and `loop(n) %{ $b() += $a(); %}`
abbrev tot : Kernel
tot = record {
  signature = record {
    args = generic_arg (codes "a") Input (0 ∷ []) ∷ generic_arg (codes "b") Output [] ∷ [];
    names = codes "n" ∷ [];
    fixed = None ∷ [];
  };
  code = next (repeat 0 (next (put 1 none (Some Add) (access 0 (along 0 (named (Index 0)) none))) done)) done;
}

abbrev rows : Resolved
rows = record { generic = Long; types = Long ∷ Long ∷ []; sizes = 3 ∷ []; broadcast = 2 ∷ []; shapes = (3 ∷ 2 ∷ []) ∷ (2 ∷ []) ∷ [] }

sums : called tot rows (long (3 ∷ 2 ∷ []) (pos 0 ∷ pos 1 ∷ pos 2 ∷ pos 3 ∷ pos 4 ∷ pos 5 ∷ []) ∷ []) ≡ Ok (long (2 ∷ []) (pos 3 ∷ pos 12 ∷ []) ∷ [])
sums = refl

-- `a(); [o]b()` and `$b() = 1 / $a();`
abbrev inverse : Kernel
inverse = record {
  signature = record {
    args = generic_arg (codes "a") Input [] ∷ generic_arg (codes "b") Output [] ∷ [];
    names = [];
    fixed = [];
  };
  code = next (put 1 none None (binary Div (number (pos 1)) (access 0 none))) done;
}

abbrev square : Resolved
square = record { generic = Long; types = Long ∷ Long ∷ []; sizes = []; broadcast = 2 ∷ 2 ∷ []; shapes = (2 ∷ 2 ∷ []) ∷ (2 ∷ 2 ∷ []) ∷ [] }

-- the place after the first one in broadcast order
first_place : called inverse square (long (2 ∷ 2 ∷ []) (pos 1 ∷ pos 0 ∷ pos 0 ∷ pos 1 ∷ []) ∷ []) ≡ Err (fault_at 1 DivideByZero)
first_place = refl

-- a column is stretched over the other dimension
stretched_column : called inverse square (long (1 ∷ 2 ∷ []) (pos 1 ∷ pos 0 ∷ []) ∷ []) ≡ Err (fault_at 2 DivideByZero)
stretched_column = refl

-- `a(n); [o]b(n)` and `loop(n) %{ $b() = $a(n=>n+1); %}`
abbrev shift : Kernel
shift = record {
  signature = record {
    args = generic_arg (codes "a") Input (0 ∷ []) ∷ generic_arg (codes "b") Output (0 ∷ []) ∷ [];
    names = codes "n" ∷ [];
    fixed = None ∷ [];
  };
  code = next (repeat 0 (next (put 1 (along 0 (named (Index 0)) none) None (access 0 (along 0 (binary Add (named (Index 0)) (number (pos 1))) none))) done)) done;
}

abbrev row : Resolved
row = record { generic = Long; types = Long ∷ Long ∷ []; sizes = 3 ∷ []; broadcast = []; shapes = (3 ∷ []) ∷ (3 ∷ []) ∷ [] }

past_the_end : called shift row (long (3 ∷ []) (pos 0 ∷ pos 1 ∷ pos 2 ∷ []) ∷ []) ≡ Err (fault_at 0 IndexOutOfRange)
past_the_end = refl
