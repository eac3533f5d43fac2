-- What is known by a name: arrays, in the order of their first bindings, and kernels, in the order
-- of their first definitions.
use Rattle.std.specs.Prelude.{ℕ, nat_eq, List, [], ◌∷◌, length, nat_lt, Bool, not, ◌&&◌, Option, Some, None, is_none, if◌then◌else◌, Result, Ok, Err}
use Rattle.std.specs.Cmp.Lexicographic.{pointwise}
use Rattle.pdl_machine.specs.declared.limits.TheConstants.{MOST_NAMES, MOST_KERNELS}
use Rattle.pdl_machine.specs.declared.fault.Fault.{Fault}
use Rattle.pdl_machine.specs.declared.fault.Fault.TheVariants.{UnknownName, TooManyNames, TooManyKernels}
use Rattle.pdl_machine.specs.Then.{and_then, or_fault}

-- things by their names
abbrev pub Named : Type 0 → Type 0
Named A = List (List ℕ × A)

-- the one of this name, if there is one
abbrev pub found : {A : Type 0} → Named A → List ℕ → Option A
found [] x = None
found (n ∷ names) x = if pointwise nat_eq x n.0 then Some n.1 else found names x

-- with one of this name: a known name keeps its place, and a new one goes last
abbrev pub with_name : {A : Type 0} → Named A → List ℕ → A → Named A
with_name [] x a = (x, a) ∷ []
with_name (n ∷ names) x a = if pointwise nat_eq x n.0 then (n.0, a) ∷ names
    else n ∷ with_name names x a

-- without the one of this name; the others keep their order
abbrev pub without_name : {A : Type 0} → Named A → List ℕ → Named A
without_name [] x = []
without_name (n ∷ names) x = if pointwise nat_eq x n.0 then names
    else n ∷ without_name names x

-- whether there is no room for a name: it is new, and there are as many as may be
abbrev pub is_full_for : {A : Type 0} → (limit : ℕ) → Named A → List ℕ → Bool
is_full_for limit names x = is_none (found names x) && not (nat_lt (length names) limit)

-- with one of this name, or that there are too many
abbrev pub entered : {A : Type 0} → (limit : ℕ) → (full : Fault) → Named A → (name : List ℕ) → A
    → Result (Named A) Fault
entered limit fault names x a = if is_full_for limit names x then Err fault
    else Ok (with_name names x a)

-- The two texts by which a kernel was defined.
pub record KernelTexts : Type 0 where
  pub signature : List ℕ
  pub code : List ℕ

-- The numbers of arrays, and kernels, by their names. A kernel is known by its texts: a call reads
-- them (`kernel_of`).
pub record Names : Type 0 where
  pub arrays : Named ℕ
  pub kernels : Named KernelTexts

abbrev pub nothing_named : Names
nothing_named = record { arrays = []; kernels = [] }

-- at most so many arrays' names are bound at once
abbrev pub names_limit : ℕ
names_limit = MOST_NAMES

-- at most so many kernels are there at once
abbrev pub kernels_limit : ℕ
kernels_limit = MOST_KERNELS

-- the array of a name, if it is bound
abbrev pub number_of : Names → List ℕ → Option ℕ
number_of names x = found names.arrays x

-- the array of a name, or that it isn't bound
abbrev pub bound_to : Names → List ℕ → Result ℕ Fault
bound_to names x = or_fault UnknownName (number_of names x)

-- the names after a binding, or that there are too many
abbrev pub bind : Names → List ℕ → ℕ → Result Names Fault
bind names x v = and_then (entered names_limit TooManyNames names.arrays x v) (λ arrays.
    Ok (record names { arrays = arrays }))

-- the names without one of them, or that it isn't bound
abbrev pub unbind : Names → List ℕ → Result Names Fault
unbind names x = and_then (bound_to names x) (λ v.
    Ok (record names { arrays = without_name names.arrays x }))

-- the names after the definition of a kernel, or that there are too many
abbrev pub define : Names → List ℕ → KernelTexts → Result Names Fault
define names f k =
    and_then (entered kernels_limit TooManyKernels names.kernels f k) (λ kernels.
    Ok (record names { kernels = kernels }))
