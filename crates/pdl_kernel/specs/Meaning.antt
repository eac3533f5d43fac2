-- The meaning of kernel code (PDL::PP, Code): from a store to a store or a fault, by
-- recursion on the code.
use Rattle.std.specs.Prelude.{ℕ, zero, suc, ◌+◌, ℤ, pos, List, [], get_or, slice_set, replicate, Option, Some, None, Result, Ok, Err, nat_lt, if◌then◌else◌, ◌∷◌, negsuc, option_map, option_and_then}
use Rattle.pdl_elem.specs.declared.Ty.{Ty}
use Rattle.pdl_elem.specs.declared.Ty.TheVariants.{Byte, Long as LongTy, Longlong as LonglongTy}
use Rattle.pdl_elem.specs.declared.BinaryOp.{BinaryOp}
use Rattle.pdl_elem.specs.Numbers.{wrapped}
use Rattle.pdl_shape.specs.Shape.{position_of}
use Rattle.pdl_elem.specs.Operators.{unary_value, binary_value}
use Rattle.pdl_buf.specs.declared.made.Made.{Made}
use Rattle.pdl_sig.specs.declared.Resolved.{Resolved}
use Rattle.pdl_sig.specs.Refusals.{dim_names_limit}
use Rattle.pdl_sig.specs.Resolution.{size_in}
use Rattle.pdl_code.specs.declared.names.LocalType.{LocalType}
use Rattle.pdl_code.specs.declared.names.LocalType.TheVariants.{Long, Longlong, Generic}
use Rattle.pdl_code.specs.declared.names.Variable.{Variable}
use Rattle.pdl_code.specs.declared.names.Variable.TheVariants.{Slot, Index}
use Rattle.pdl_code.specs.Tree.{Tree, Indices, Step, Code, number, size, named, access, unary, binary, none, along, repeat, choose, keep, put, done, next}
use Rattle.pdl_kernel.specs.declared.faults.Fault.{Fault}
use Rattle.pdl_kernel.specs.declared.faults.Fault.TheVariants.{DivideByZero, IndexOutOfRange}

-- an index that is from 0 to a size less 1
abbrev pub within : ℤ → (size : ℕ) → Option ℕ
within (negsuc i) n = None
within (pos i) n = if nat_lt i n then Some i else None

-- the coordinates that indices are, where each is from 0 to its size less 1
abbrev pub coordinates_in : (sizes : List ℕ) → (indices : List ℤ) → Option (List ℕ)
coordinates_in [] is = Some []
coordinates_in (d ∷ ds) [] = None
coordinates_in (d ∷ ds) (i ∷ is) =
    option_and_then (λ c. option_map (λ cs. c ∷ cs) (coordinates_in ds is)) (within i d)

-- the element at coordinates
abbrev pub element : Made → List ℕ → ℤ
element a cs = get_or a.elems (position_of a.dims cs) (pos 0)

-- with a number, wrapped to the argument's type, at coordinates
abbrev pub stored : Made → List ℕ → ℤ → Made
stored a cs x = record a { elems = slice_set a.elems (position_of a.dims cs) (wrapped a.ty x) }

-- a number for each argument and core coordinates, and for each local
pub record Store : Type 0 where
  pub arguments : List Made
  pub locals : List ℤ

-- the type at which a local is kept: its word's, or the call's generic one
abbrev pub local_type : Ty → LocalType → Ty
local_type generic Long = LongTy
local_type generic Longlong = LonglongTy
local_type generic Generic = generic

abbrev pub and_then : {A B : Type 0} → Result A Fault → (A → Result B Fault) → Result B Fault
and_then (Ok x) f = f x
and_then (Err e) f = Err e

abbrev pub or_divide : Option ℤ → Result ℤ Fault
or_divide (Some x) = Ok x
or_divide None = Err DivideByZero

-- every operation is a longlong's
abbrev pub operate : BinaryOp → ℤ → ℤ → Result ℤ Fault
operate op x y = or_divide (binary_value op LonglongTy x y)

-- what an assignment puts where there was a number
abbrev pub changed : Option BinaryOp → (before x : ℤ) → Result ℤ Fault
changed None before x = Ok x
changed (Some op) before x = operate op before x

abbrev pub nothing : Made
nothing = record { ty = Byte; dims = []; elems = [] }

-- an argument by its number
abbrev pub argument : Store → ℕ → Made
argument m a = get_or m.arguments a nothing

abbrev pub or_range : {A : Type 0} → Option A → Result A Fault
or_range (Some x) = Ok x
or_range None = Err IndexOutOfRange

-- the element at indices
abbrev pub element_at : Made → List ℤ → Result ℤ Fault
element_at a is = and_then (or_range (coordinates_in a.dims is)) (λ cs. Ok (element a cs))

-- after an assignment of a number to the element at indices
abbrev pub assigned : Made → Option BinaryOp → (number : ℤ) → (indices : List ℤ) → Result Made Fault
assigned a op x is =
    and_then (or_range (coordinates_in a.dims is)) (λ cs.
    and_then (changed op (element a cs) x) (λ y. Ok (stored a cs y)))

-- a store with another array for an argument
abbrev pub with_argument : Store → ℕ → Made → Result Store Fault
with_argument m k a = Ok (record m { arguments = slice_set m.arguments k a })

-- no index yet: an argument has no more dimensions than there are names
abbrev pub start : List ℤ
start = replicate dim_names_limit (pos 0)

-- the number of a word: a local, or the index of a loop
abbrev pub number_of : (loops : List ℕ) → Store → Variable → ℤ
number_of loops m (Slot k) = get_or m.locals k (pos 0)
number_of loops m (Index d) = pos (get_or loops d 0)

abbrev mutual
  -- the number of an expression, where `loops` has the index of the loop over each dimension
  pub value : (sizes loops : List ℕ) → Store → Tree → Result ℤ Fault
  value sizes loops m (number n) = Ok n
  value sizes loops m (size d) = Ok (pos (size_in sizes d))
  value sizes loops m (named w) = Ok (number_of loops m w)
  value sizes loops m (access a is) = and_then (indices sizes loops m is start)
      (element_at (argument m a))
  value sizes loops m (unary op e) = and_then (value sizes loops m e) (λ x.
      Ok (unary_value op LonglongTy x))
  value sizes loops m (binary op e f) = and_then (value sizes loops m e) (λ x.
      and_then (value sizes loops m f) (operate op x))

  -- indices, each put at the place of its dimension, in the order in which they stand
  pub indices : (sizes loops : List ℕ) → Store → Indices → List ℤ → Result (List ℤ) Fault
  indices sizes loops m none is = Ok is
  indices sizes loops m (along k e rest) is =
      and_then (value sizes loops m e) (λ i. indices sizes loops m rest (slice_set is k i))

-- f at the n numbers from i on, until a fault
abbrev pub turns : {A : Type 0} → (ℕ → A → Result A Fault) → (i n : ℕ) → A → Result A Fault
turns f i zero m = Ok m
turns f i (suc n) m = and_then (f i m) (turns f (i + 1) n)

-- 0 is false, and every other number is true
abbrev pub branch : {A : Type 0} → ℤ → (whole other : A) → A
branch (pos zero) whole other = other
branch _ whole other = whole

-- a store to a local of the type
abbrev pub kept : Ty → (local : ℕ) → Store → (number : ℤ) → Store
kept ty k m x = record m { locals = slice_set m.locals k (wrapped ty x) }

abbrev mutual
  -- one statement: the right side first, then the indices, then the operation
  pub step : Resolved → (loops : List ℕ) → Step → Store → Result Store Fault
  step r loops (repeat d body) m = turns (λ i now. run r (slice_set loops d i) body now)
      0 (size_in r.sizes d) m
  step r loops (choose e whole other) m =
      and_then (value r.sizes loops m e) (λ x. branch x (run r loops whole m) (run r loops other m))
  step r loops (keep t op e) m =
      and_then (value r.sizes loops m e) (λ x.
      and_then (changed op (get_or m.locals t.slot (pos 0)) x) (λ y.
      Ok (kept (local_type r.generic t.ty) t.slot m y)))
  step r loops (put a is op e) m =
      and_then (value r.sizes loops m e) (λ x. and_then (indices r.sizes loops m is start) (λ is.
      and_then (assigned (argument m a) op x is) (with_argument m a)))

  -- statements one after another
  pub run : Resolved → (loops : List ℕ) → Code → Store → Result Store Fault
  run r loops done m = Ok m
  run r loops (next s rest) m = and_then (step r loops s m) (run r loops rest)
