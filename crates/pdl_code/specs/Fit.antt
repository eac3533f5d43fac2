-- What a reader promises of code: it speaks of what the signature has and of visible locals alone,
-- and assigns to no input.
use Rattle.std.specs.Prelude.{◌≡◌, ◌≢◌, ℕ, suc, ◌<◌, ◌≤◌, ◌==◌, max, Bool, true, false, List, [], ◌∷◌, length, get_or, replicate, slice_set, if◌then◌else◌}
use Rattle.pdl_sig.specs.declared.Role.TheVariants.{Input}
use Rattle.pdl_sig.specs.declared.ArgType.TheVariants.{Generic}
use Rattle.pdl_sig.specs.declared.SigArg.{SigArg}
use Rattle.pdl_sig.specs.declared.Signature.{Signature}
use Rattle.pdl_sig.specs.Refusals.{dim_names_limit}
use Rattle.pdl_code.specs.declared.names.Variable.TheVariants.{Slot, Index}
use Rattle.pdl_code.specs.Tree.{Tree, Indices, Step, Code, number, size, named, access, unary, binary, none, along, repeat, choose, keep, put, done, next}

-- an argument of the signature
abbrev pub nobody : SigArg
nobody = record { name = []; role = Input; ty = Generic; dims = [] }

abbrev pub argument_of : Signature → ℕ → SigArg
argument_of s a = get_or s.args a nobody

-- how many core dimensions an argument has
abbrev pub rank_of : Signature → ℕ → ℕ
rank_of s a = length (argument_of s a).dims

-- the places of the dimensions that indices are for
abbrev pub places_of : Indices → List ℕ
places_of none = []
places_of (along k e rest) = k ∷ places_of rest

-- each of so many dimensions that isn't marked yet has one index, and each marked one has none
abbrev pub IsLeft : (rank : ℕ) → (marks : List Bool) → Indices → Type 0
IsLeft n marks none = (k : ℕ) → k < n → get_or marks k false ≡ true
IsLeft n marks (along k e rest) = (k < n) × (get_or marks k false ≡ false) ×
    IsLeft n (slice_set marks k true) rest

-- one index for each of so many dimensions, of which a signature names at most `dim_names_limit`
abbrev pub IsEachOnce : (rank : ℕ) → Indices → Type 0
IsEachOnce n is = IsLeft n (replicate dim_names_limit false) is

abbrev mutual
  -- an expression among n visible locals
  pub IsTreeFit : Signature → ℕ → Tree → Type 0
  IsTreeFit s n (number z) = Unit {0}
  IsTreeFit s n (size d) = d < length s.names
  IsTreeFit s n (named (Index d)) = d < length s.names
  IsTreeFit s n (named (Slot k)) = k < n
  IsTreeFit s n (access a is) = (a < length s.args) × (length (places_of is) ≡ rank_of s a) ×
      AreIndicesFit s n (rank_of s a) is × IsEachOnce (rank_of s a) is
  IsTreeFit s n (unary op e) = IsTreeFit s n e
  IsTreeFit s n (binary op x y) = IsTreeFit s n x × IsTreeFit s n y

  -- indices of an argument with so many dimensions
  pub AreIndicesFit : Signature → (locals rank : ℕ) → Indices → Type 0
  AreIndicesFit s n rank none = Unit {0}
  AreIndicesFit s n rank (along k e rest) = (k < rank) × IsTreeFit s n e ×
      AreIndicesFit s n rank rest

-- an access to an argument: as many indices as it has dimensions
abbrev pub IsAccessFit : Signature → (locals arg : ℕ) → Indices → Type 0
IsAccessFit s n a is = (a < length s.args) × (length (places_of is) ≡ rank_of s a) ×
    AreIndicesFit s n (rank_of s a) is × IsEachOnce (rank_of s a) is

-- how many locals are visible after a statement: a declaration is a store to the next slot
abbrev pub locals_after : ℕ → Step → ℕ
locals_after n (repeat d body) = n
locals_after n (choose e whole other) = n
locals_after n (keep t op e) = if t.slot == n then suc n else n
locals_after n (put a is op e) = n

abbrev mutual
  -- a statement among n visible locals: a store goes to a visible local or declares the next one,
  -- or goes to an argument that is no input
  pub IsStepFit : Signature → ℕ → Step → Type 0
  IsStepFit s n (repeat d body) = (d < length s.names) × IsCodeFit s n body
  IsStepFit s n (choose e whole other) = IsTreeFit s n e × IsCodeFit s n whole × IsCodeFit s n other
  IsStepFit s n (keep t op e) = (t.slot ≤ n) × IsTreeFit s n e
  IsStepFit s n (put a is op e) = ((argument_of s a).role ≢ Input) ×
      IsAccessFit s n a is × IsTreeFit s n e

  -- statements among n visible locals
  pub IsCodeFit : Signature → ℕ → Code → Type 0
  IsCodeFit s n done = Unit {0}
  IsCodeFit s n (next step rest) = IsStepFit s n step × IsCodeFit s (locals_after n step) rest

-- the code of a kernel of this signature
abbrev pub IsFit : Signature → Code → Type 0
IsFit s code = IsCodeFit s 0 code

abbrev mutual
  -- how many locals are visible at once, at most, in a statement among n of them or behind it
  pub step_locals : ℕ → Step → ℕ
  step_locals n (repeat d body) = code_locals n body
  step_locals n (choose e whole other) = max (code_locals n whole) (code_locals n other)
  step_locals n (keep t op e) = locals_after n (keep t op e)
  step_locals n (put a is op e) = n

  -- how many locals are visible at once, at most, in statements among n of them
  pub code_locals : ℕ → Code → ℕ
  code_locals n done = n
  code_locals n (next step rest) = max (step_locals n step) (code_locals (locals_after n step) rest)
