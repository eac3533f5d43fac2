-- What the arguments of a call resolve to, or what refuses them (PDL::PP, Signatures;
-- PDL::Broadcasting).
use Rattle.std.specs.Prelude.{◌≡◌, ℕ, ◌+◌, ◌*◌, Bool, true, false, not, ◌&&◌, ◌||◌, ◌==◌, nat_lt, nat_eq, List, [], ◌∷◌, ◌++◌, length, map, drop, slice_index_or, Option, Some, None, option_and_then, IfSome, Result, Ok, Err, if◌then◌else◌}
use Rattle.std.specs.List.{filter, list_any, flat_map, zip}
use Rattle.std.specs.Option.{unwrap_or}
use Rattle.std.specs.Cmp.Lexicographic.{pointwise}
use Rattle.pdl_elem.specs.declared.Ty.{Ty}
use Rattle.pdl_elem.specs.declared.Ty.TheVariants.{Long}
use Rattle.pdl_elem.specs.Types.{promoted}
use Rattle.pdl_shape.specs.Broadcast.{join}
use Rattle.pdl_shape.specs.Shape.{dims_limit, extent_limit, extent, size_of}
use Rattle.pdl_sig.specs.declared.Role.{Role}
use Rattle.pdl_sig.specs.declared.Role.TheVariants.{Input, Output, Both, Temp}
use Rattle.pdl_sig.specs.declared.ArgType.{ArgType}
use Rattle.pdl_sig.specs.declared.ArgType.TheVariants.{Generic, Fixed, AtLeast}
use Rattle.pdl_sig.specs.declared.shapes.TheConstants.{MOST_WORK}
use Rattle.pdl_sig.specs.declared.SigArg.{SigArg}
use Rattle.pdl_sig.specs.declared.Signature.{Signature}
use Rattle.pdl_sig.specs.declared.ArgShape.{ArgShape}
use Rattle.pdl_sig.specs.declared.Resolved.{Resolved}
use Rattle.pdl_sig.specs.declared.ResolveFault.{ResolveFault}
use Rattle.pdl_sig.specs.declared.ResolveFault.TheVariants.{ArgCount, CoreMismatch, BroadcastMismatch, StretchedInOut, TooManyDims, TooLarge, TooMuchWork, NoMemory}

-- a call does at most so much work
abbrev pub work_limit : ℕ
work_limit = MOST_WORK

-- whether the caller hands in an argument of this role
abbrev pub is_given : Role → Bool
is_given Input = true
is_given Output = false
is_given Both = true
is_given Temp = false

-- whether the call answers an argument of this role
abbrev pub is_output : Role → Bool
is_output Input = false
is_output Output = true
is_output Both = true
is_output Temp = false

-- whether an argument of this role is both
abbrev pub is_both : Role → Bool
is_both r = is_given r && is_output r

-- the arguments that the caller hands in, in order
abbrev pub inputs : List SigArg → List SigArg
inputs args = filter (λ a. is_given a.role) args

-- each argument that the caller hands in, with what is given for it
abbrev pub handed : List SigArg → List ArgShape → List (SigArg × ArgShape)
handed args given = zip (inputs args) given

-- the type of higher rank of a generic argument's and the one so far
abbrev pub higher : ArgType → Ty → Option Ty → Option Ty
higher Generic ty None = Some ty
higher Generic ty (Some found) = Some (promoted found ty)
higher _ ty found = found

-- the highest type of what is given for arguments without a type word, from the one found so far on
abbrev pub highest_from : Option Ty → List (SigArg × ArgShape) → Option Ty
highest_from found [] = found
highest_from found (p ∷ ps) = highest_from (higher p.0.ty p.1.ty found) ps

-- the generic type of a call: that highest type, or long
abbrev pub generic_type : List SigArg → List ArgShape → Ty
generic_type args given = unwrap_or (highest_from None (handed args given)) Long

-- an argument's type, by the generic one
abbrev pub type_in : Ty → ArgType → Ty
type_in generic Generic = generic
type_in generic (Fixed ty) = ty
type_in generic (AtLeast ty) = promoted generic ty

-- an argument's core dimensions, by their numbers, each with the size of the given shape there: 1
-- where it is missing
abbrev pub core : List ℕ → List ℕ → List (ℕ × ℕ)
core [] sizes = []
core (n ∷ ns) [] = (n, 1) ∷ core ns []
core (n ∷ ns) (s ∷ sizes) = (n, s) ∷ core ns sizes

-- the sizes of a given shape at the core dimensions of its argument: 1 where one is missing
abbrev pub padded : List ℕ → List ℕ → List ℕ
padded ns sizes = map (λ c. c.1) (core ns sizes)

-- the core dimensions of all given arguments
abbrev pub cores : List (SigArg × ArgShape) → List (ℕ × ℕ)
cores ps = flat_map (λ p. core p.0.dims p.1.dims) ps

-- the first size that isn't 1 among those of the dimension of number n, or 1
abbrev pub found_size : List (ℕ × ℕ) → ℕ → ℕ
found_size [] n = 1
found_size (c ∷ cs) n = if (c.0 == n) && not (c.1 == 1) then c.1 else found_size cs n

-- the sizes of the named dimensions from number n on: the fixed one, or the one found
abbrev pub sizes_from : List (ℕ × ℕ) → ℕ → List (Option ℕ) → List ℕ
sizes_from cs n [] = []
sizes_from cs n (fixed ∷ rest) = unwrap_or fixed (found_size cs n) ∷ sizes_from cs (n + 1) rest

-- the size of the dimension of number n
abbrev pub size_in : List ℕ → ℕ → ℕ
size_in sizes n = slice_index_or sizes n 1

-- whether a core size is neither 1 nor its dimension's size
abbrev pub is_unfit : List ℕ → ℕ × ℕ → Bool
is_unfit sizes c = not (c.1 == 1) && not (c.1 == size_in sizes c.0)

-- the dimensions of a given shape after the core ones
abbrev pub outer : SigArg × ArgShape → List ℕ
outer p = drop (length p.0.dims) p.1.dims

-- these dimensions joined with those after the core ones of all given arguments, where they join
abbrev pub joined_with : List ℕ → List (SigArg × ArgShape) → Option (List ℕ)
joined_with joined [] = Some joined
joined_with joined (p ∷ ps) = option_and_then (λ more. joined_with more ps) (join joined (outer p))

-- the core sizes of an argument
abbrev pub core_sizes : List ℕ → SigArg → List ℕ
core_sizes sizes a = map (size_in sizes) a.dims

-- whether something else than the core sizes and then the broadcast dimensions is given for an
-- `[io]` argument
abbrev pub is_stretched : List ℕ → List ℕ → SigArg × ArgShape → Bool
is_stretched sizes broadcast p =
    let own = padded p.0.dims p.1.dims ++ outer p in
    is_both p.0.role && not (pointwise nat_eq own (core_sizes sizes p.0 ++ broadcast))

-- the shape that a call makes for an argument: nothing is made for an input
abbrev pub made : Role → List ℕ → List ℕ → List ℕ
made Input core broadcast = []
made Output core broadcast = core ++ broadcast
made Both core broadcast = core ++ broadcast
made Temp core broadcast = core

-- the shape that a call makes for an argument, by the named sizes and the broadcast dimensions
abbrev pub made_for : List ℕ → List ℕ → SigArg → List ℕ
made_for sizes broadcast a = made a.role (core_sizes sizes a) broadcast

-- whether that shape has too many dimensions, as only an output's may: a signature has 8 names at
-- most
abbrev pub has_too_many : List ℕ → List ℕ → SigArg → Bool
has_too_many sizes broadcast a = nat_lt dims_limit (length (made_for sizes broadcast a))

-- whether that shape is too large
abbrev pub is_too_large : List ℕ → List ℕ → SigArg → Bool
is_too_large sizes broadcast a = nat_lt extent_limit (extent (made_for sizes broadcast a))

-- the shape of an argument of this role: the given one of an input, else the one made
abbrev pub argument_dims : Role → List ArgShape → List ℕ → List ℕ
argument_dims Input (g ∷ given) made = g.dims
argument_dims role given made = made

-- what is left of the given shapes after an argument of this role
abbrev pub given_after : Role → List ArgShape → List ArgShape
given_after role given = if is_given role then drop 1 given else given

-- the shapes of the arguments, for which these are given
abbrev pub shapes : (sizes broadcast : List ℕ) → (args : List SigArg) → (given : List ArgShape)
    → List (List ℕ)
shapes sizes broadcast [] given = []
shapes sizes broadcast (a ∷ args) given =
    argument_dims a.role given (made_for sizes broadcast a)
    ∷ shapes sizes broadcast args (given_after a.role given)

-- what a call resolves to, by the named sizes and the broadcast dimensions
abbrev pub solution : (args : List SigArg) → (given : List ArgShape) → (sizes broadcast : List ℕ)
    → Resolved
solution args given sizes broadcast = record {
  generic = generic_type args given;
  types = map (λ a. type_in (generic_type args given) a.ty) args;
  sizes = sizes;
  broadcast = broadcast;
  shapes = shapes sizes broadcast args given;
}

-- why the arguments of a call don't resolve, in the order of the checks; `NoMemory` is none of
-- the reasons
pub data Unresolved : Type 0 where
  arg_count : Unresolved
  core_mismatch : Unresolved
  broadcast_mismatch : Unresolved
  stretched_in_out : Unresolved
  too_many_dims : Unresolved
  too_large : Unresolved
  too_much_work : Unresolved

-- what a call resolves to by the named sizes and the joined dimensions, or the first refusal from a
-- mismatch of these on
abbrev pub resolved_by : (args : List SigArg) → (given : List ArgShape) → (sizes : List ℕ)
    → (broadcast : Option (List ℕ)) → Result Resolved Unresolved
resolved_by args given sizes None = Err broadcast_mismatch
resolved_by args given sizes (Some broadcast) =
    if list_any (is_stretched sizes broadcast) (handed args given) then Err stretched_in_out
    else (if list_any (has_too_many sizes broadcast) args then Err too_many_dims
    else (if nat_lt extent_limit (extent broadcast) || list_any (is_too_large sizes broadcast) args
    then Err too_large
    else (if nat_lt work_limit (size_of broadcast * extent sizes) then Err too_much_work
    else Ok (solution args given sizes broadcast))))

-- what a call resolves to by the named sizes, or the first refusal from a mismatch of core sizes on
abbrev pub resolved_in : List SigArg → List ArgShape → List ℕ → Result Resolved Unresolved
resolved_in args given sizes =
    if list_any (is_unfit sizes) (cores (handed args given)) then Err core_mismatch
    else resolved_by args given sizes (joined_with [] (handed args given))

-- the sizes of the named dimensions in a call
abbrev pub named_sizes : Signature → List ArgShape → List ℕ
named_sizes signature given = sizes_from (cores (handed signature.args given)) 0 signature.fixed

-- what a call resolves to, or the first refusal
abbrev pub resolution : Signature → List ArgShape → Result Resolved Unresolved
resolution signature given =
    if not (length given == length (inputs signature.args)) then Err arg_count
    else resolved_in signature.args given (named_sizes signature given)

-- the reason that a fault names
abbrev pub reason_named : ResolveFault → Option Unresolved
reason_named ArgCount = Some arg_count
reason_named CoreMismatch = Some core_mismatch
reason_named BroadcastMismatch = Some broadcast_mismatch
reason_named StretchedInOut = Some stretched_in_out
reason_named TooManyDims = Some too_many_dims
reason_named TooLarge = Some too_large
reason_named TooMuchWork = Some too_much_work
reason_named NoMemory = None

-- the answer is this one; `NoMemory` says nothing
abbrev pub Answers : Result Resolved Unresolved → Result Resolved ResolveFault → Type 0
Answers wanted (Ok resolved) = Ok resolved ≡ wanted
Answers wanted (Err fault) = IfSome (reason_named fault) (λ reason. Err reason ≡ wanted)
