-- A whole call (PDL::PP; PDL::Broadcasting): the code at each broadcast place, in broadcast order.
use Rattle.std.specs.Prelude.{ℕ, zero, suc, ◌+◌, ℤ, pos, Bool, true, List, [], ◌∷◌, ◌++◌, map, get_or, take, drop, length, replicate, if◌then◌else◌, Option, Some, None, Result, Ok, Err}
use Rattle.std.specs.List.{range_with_len}
use Rattle.pdl_elem.specs.declared.Ty.{Ty}
use Rattle.pdl_shape.specs.Shape.{size_of, position_of, coordinates_of}
use Rattle.pdl_buf.specs.declared.made.Made.{Made}
use Rattle.pdl_buf.specs.Made.{broadcast_element}
use Rattle.pdl_sig.specs.declared.Resolved.{Resolved}
use Rattle.pdl_sig.specs.declared.SigArg.{SigArg}
use Rattle.pdl_sig.specs.Refusals.{dim_names_limit}
use Rattle.pdl_sig.specs.Resolution.{is_given, is_output, core_sizes, type_in}
use Rattle.pdl_code.specs.Fit.{code_locals}
use Rattle.pdl_kernel.specs.Kernels.{Kernel}
use Rattle.pdl_code.specs.Tree.{Code}
use Rattle.pdl_kernel.specs.declared.faults.Fault.{Fault}
use Rattle.pdl_kernel.specs.declared.faults.Fault.TheVariants.{DivideByZero as Divides, IndexOutOfRange as OutOfRange}
use Rattle.pdl_kernel.specs.declared.faults.RunFault.{RunFault}
use Rattle.pdl_kernel.specs.declared.faults.RunFault.TheVariants.{DivideByZero, IndexOutOfRange, NoMemory}
use Rattle.pdl_kernel.specs.Meaning.{Store, argument, element, run}

-- the first of the given arrays, where one is given
abbrev pub first_given : Bool → List Made → Option Made
first_given true (g ∷ given) = Some g
first_given _ _ = None

-- each argument, with what is given for it
abbrev pub with_given : List SigArg → List Made → List (SigArg × Option Made)
with_given [] given = []
with_given (a ∷ args) given =
    (a, first_given (is_given a.role) given) ∷ with_given args (if is_given a.role
    then drop 1 given else given)

-- what an argument of a type starts with at core coordinates and then broadcast
-- coordinates: the given element, where a size of 1 and a missing one are stretched, wrapped to
-- the type; and 0 where nothing is given
abbrev pub start_element : Ty → Option Made → (coordinates : List ℕ) → ℤ
start_element ty None cs = pos 0
start_element ty (Some g) cs = broadcast_element ty g cs

-- what an argument is at broadcast coordinates before the code runs
abbrev pub started : Resolved → (coordinates : List ℕ) → SigArg × Option Made → Made
started r bs a =
    let ty = type_in r.generic a.0.ty in
    let core = core_sizes r.sizes a.0 in
    let elems = map (λ q. start_element ty a.1 (coordinates_of core q ++ bs))
    (range_with_len 0 (size_of core)) in
    record { ty = ty; dims = core; elems = elems }

-- what code leaves at a broadcast place: it runs over the arguments as they start
-- there, and locals of 0
abbrev pub outcome : (args : List SigArg) → Code → Resolved → (given : List Made) → (place : ℕ)
    → Result Store Fault
outcome args code r given p =
    let arguments = map (started r (coordinates_of r.broadcast p)) (with_given args given) in
    run r (replicate dim_names_limit 0) code
    (record { arguments = arguments; locals = replicate (code_locals 0 code) (pos 0) })

-- a fault of code, with the broadcast place that has it
pub record PlacedFault : Type 0 where
  pub place : ℕ
  pub fault : Fault

abbrev pub fault_at : (place : ℕ) → Fault → PlacedFault
fault_at p fault = record { place = p; fault = fault }

-- the fault of code that a call's fault names; `NoMemory` names none
abbrev pub fault_named : RunFault → Option PlacedFault
fault_named (DivideByZero p) = Some (fault_at p Divides)
fault_named (IndexOutOfRange p) = Some (fault_at p OutOfRange)
fault_named NoMemory = None

abbrev pub store_before : (place : ℕ) → Result Store Fault → Result (List Store) PlacedFault →
    Result (List Store) PlacedFault
store_before p (Err e) rest = Err (fault_at p e)
store_before p (Ok m) (Err e) = Err e
store_before p (Ok m) (Ok ms) = Ok (m ∷ ms)

-- what is left at each of the n places from p on, or the fault of the first place that has one
abbrev pub stores_from : (ℕ → Result Store Fault) → (p n : ℕ) → Result (List Store) PlacedFault
stores_from f p zero = Ok []
stores_from f p (suc n) = store_before p (f p) (stores_from f (p + 1) n)

-- the element of an argument at its core coordinates, so many of them, and
-- then broadcast coordinates
abbrev pub output_element : (broadcast : List ℕ) → List Store → (number rank : ℕ) →
    (coordinates : List ℕ) → ℤ
output_element broadcast stores k n cs =
    let left = get_or stores (position_of broadcast (drop n cs))
    (record { arguments = []; locals = [] }) in
    element (argument left k) (take n cs)

-- an output: its core dimensions and then the broadcast dimensions
abbrev pub output : Resolved → List Store → (number : ℕ) → SigArg → Made
output r stores k a =
    let dims = core_sizes r.sizes a ++ r.broadcast in
    let at = λ (q : ℕ). output_element r.broadcast stores k (length a.dims)
    (coordinates_of dims q) in
    let elems = map at (range_with_len 0 (size_of dims)) in
    record { ty = type_in r.generic a.ty; dims = dims; elems = elems }

-- the outputs among arguments, of which the first has number k
abbrev pub outputs : Resolved → List Store → (k : ℕ) → List SigArg → List Made
outputs r stores k [] = []
outputs r stores k (a ∷ args) =
    let rest = outputs r stores (k + 1) args in
    if is_output a.role then output r stores k a ∷ rest else rest

abbrev pub outputs_of : Resolved → List SigArg → Result (List Store) PlacedFault →
    Result (List Made) PlacedFault
outputs_of r args (Err e) = Err e
outputs_of r args (Ok stores) = Ok (outputs r stores 0 args)

-- The outputs of a call, in the order of the signature, or the fault at the first broadcast place
-- that has one: what was resolved, and the inputs and `[io]` arguments in order are given.
abbrev pub called : Kernel → Resolved → (given : List Made) → Result (List Made) PlacedFault
called kernel r given =
    let args = kernel.signature.args in
    outputs_of r args (stores_from (outcome args kernel.code r given) 0 (size_of r.broadcast))
