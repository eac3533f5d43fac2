-- Which names of a text are refused, in the order of the text, and the code of a text in which
-- none is (PDL::PP, Code).
use Rattle.std.specs.Prelude.{ℕ, ◌+◌, pos, if◌then◌else◌, Bool, true, false, ◌||◌, not, List, [], ◌∷◌, ◌++◌, length, get_or, slice_set, Option, Some, None, is_some, Result, Ok, Err}
use Rattle.pdl_sig.specs.declared.Role.{Role}
use Rattle.pdl_sig.specs.declared.Role.TheVariants.{Input, Output, Both, Temp}
use Rattle.pdl_sig.specs.declared.SigArg.{SigArg}
use Rattle.pdl_sig.specs.declared.Signature.{Signature}
use Rattle.pdl_code.specs.declared.fault.KernelFault.{KernelFault}
use Rattle.pdl_code.specs.declared.fault.KernelFault.TheVariants.{UnknownArgument, WriteToInput, UnknownDim, NestedSame}
use Rattle.pdl_code.specs.declared.lexeme.Span.{Span}
use Rattle.pdl_code.specs.declared.scope.Local.{Local}
use Rattle.pdl_code.specs.declared.scope.Meant.{Meant}
use Rattle.pdl_code.specs.declared.scope.Meant.TheVariants.{InSlot, Dim, Unknown}
use Rattle.pdl_code.specs.declared.names.LocalType.{LocalType}
use Rattle.pdl_code.specs.declared.names.LocalType.TheVariants.{Longlong}
use Rattle.pdl_code.specs.Fit.{argument_of}
use Rattle.pdl_code.specs.declared.names.Target.TheVariants.{New, Named}
use Rattle.pdl_code.specs.declared.names.Variable.TheVariants.{Slot, Index}
use Rattle.pdl_code.specs.Tree.{Tree, Indices, Step, Code, number, size, named, access, unary, binary, none, along, repeat, choose, keep, put, done, next, RawTree, RawIndices, RawStep, RawCode}
use Rattle.pdl_code.specs.Scope.{Scope, argument_place, axis_of, bare, bytes_of, dim_place, meant, no_flags, slot_in, within}

abbrev pub or_zero : Option ℕ → ℕ
or_zero (Some k) = k
or_zero None = 0

abbrev pub is_input : Role → Bool
is_input Input = true
is_input Output = false
is_input Both = false
is_input Temp = false

abbrev pub mark : List Bool → Option ℕ → List Bool
mark given None = given
mark given (Some k) = slice_set given k true

abbrev pub when : Bool → KernelFault → List KernelFault
when true r = r ∷ []
when false r = []

-- a word that must be a dimension of the signature
abbrev pub no_dim : Span → Option ℕ → List KernelFault
no_dim w (Some d) = []
no_dim w None = UnknownDim w.from ∷ []

-- a word that stands as a primary
abbrev pub primary_wrong : List Bool → Span → Meant → List KernelFault
primary_wrong loops w (InSlot k) = []
primary_wrong loops w (Dim d) = when (not (get_or loops d false)) (UnknownDim w.from)
primary_wrong loops w Unknown = UnknownArgument w.from ∷ []

-- a word that is assigned to
abbrev pub target_wrong : Span → Meant → List KernelFault
target_wrong w (InSlot k) = []
target_wrong w (Dim d) = WriteToInput w.from ∷ []
target_wrong w Unknown = UnknownArgument w.from ∷ []

-- the word of an index: no dimension of the argument, or one that was given before
abbrev pub axis_wrong : Span → List Bool → Option ℕ → List KernelFault
axis_wrong w given None = UnknownDim w.from ∷ []
axis_wrong w given (Some k) = when (get_or given k false) (UnknownDim w.from)

-- at the closing bracket: some dimension, from place k on, is neither given nor looped
abbrev pub lacks : (loops : List Bool) → (dims : List ℕ) → (k : ℕ) → (given : List Bool) → Bool
lacks loops [] k given = false
lacks loops (d ∷ ds) k given = not (get_or given k false || get_or loops d false)
    || lacks loops ds (k + 1) given

-- the argument's name; then what stands behind it, where there is such an argument
abbrev pub behind_name : Span → Option ℕ → List KernelFault → List KernelFault
behind_name w None ws = UnknownArgument w.from ∷ []
behind_name w (Some a) ws = ws

-- the word of a loop
abbrev pub loop_wrong : List Bool → Span → Option ℕ → List KernelFault
loop_wrong loops w None = UnknownDim w.from ∷ []
loop_wrong loops w (Some d) = when (get_or loops d false) (NestedSame w.from)

-- the dimensions that aren't given, at the indices of their loops
abbrev pub looped : List ℕ → ℕ → List Bool → Indices
looped [] k given = none
looped (d ∷ ds) k given =
    if get_or given k false then looped ds (k + 1) given
    else along k (named (Index d)) (looped ds (k + 1) given)

abbrev pub meant_tree : Meant → Tree
meant_tree (InSlot k) = named (Slot k)
meant_tree (Dim d) = named (Index d)
meant_tree Unknown = number (pos 0)

abbrev pub slot_of : Meant → ℕ
slot_of (InSlot k) = k
slot_of _ = 0

-- the declared type of a local
abbrev pub no_local : Local
no_local = record { word = record { from = 0; to = 0 }; ty = Longlong }

abbrev pub type_of_local : List Local → ℕ → LocalType
type_of_local locals k = (get_or locals k no_local).ty

-- the argument of a number, where there is one
abbrev pub argument_at : Signature → Option ℕ → SigArg
argument_at s p = argument_of s (or_zero p)

-- the scope after a statement: a declared word is visible to the end of its block
abbrev pub scope_after : Scope → RawStep → Scope
scope_after c (keep (New ty w) op e) = record c { locals = c.locals ++ record { word = w; ty = ty } ∷ [] }
scope_after c _ = c

module _ (source : List ℕ) (s : Signature) where
  -- the number of the argument of a name
  abbrev pub named_argument : Span → Option ℕ
  named_argument w = argument_place s (bare source w)

  abbrev pub named_dim : Span → Option ℕ
  named_dim w = dim_place s (bytes_of source w)

  abbrev mutual
    -- all refusals of an expression
    pub tree_wrongs : Scope → RawTree → List KernelFault
    tree_wrongs c (number z) = []
    tree_wrongs c (size w) = no_dim w (named_dim w)
    tree_wrongs c (named w) = primary_wrong c.loops w (meant source s c.locals w)
    tree_wrongs c (access o is) =
        behind_name o.name (named_argument o.name)
        (index_wrongs c (argument_at s (named_argument o.name)).dims no_flags o.close is)
    tree_wrongs c (unary op e) = tree_wrongs c e
    tree_wrongs c (binary op x y) = tree_wrongs c x ++ tree_wrongs c y

    pub index_wrongs : Scope → (dims : List ℕ) → (given : List Bool) → (close : ℕ) → RawIndices
        → List KernelFault
    index_wrongs c ds given at none = when (lacks c.loops ds 0 given) (UnknownDim at)
    index_wrongs c ds given at (along w e rest) =
        let k = axis_of s ds (bytes_of source w) in
        axis_wrong w given k ++ (tree_wrongs c e ++ index_wrongs c ds (mark given k) at rest)

  abbrev mutual
    -- all refusals of a statement
    pub step_wrongs : Scope → RawStep → List KernelFault
    step_wrongs c (repeat w body) = loop_wrong c.loops w (named_dim w)
        ++ code_wrongs (within c (or_zero (named_dim w))) body
    step_wrongs c (choose e whole other) =
        tree_wrongs c e ++ (code_wrongs c whole ++ code_wrongs c other)
    step_wrongs c (keep (New ty w) op e) = tree_wrongs c e
    step_wrongs c (keep (Named w) op e) = target_wrong w (meant source s c.locals w) ++ tree_wrongs c e
    step_wrongs c (put o is op e) =
        let a = argument_at s (named_argument o.name) in
        behind_name o.name (named_argument o.name)
        (when (is_input a.role) (WriteToInput o.name.from)
        ++ index_wrongs c a.dims no_flags o.close is)
        ++ tree_wrongs c e

    pub code_wrongs : Scope → RawCode → List KernelFault
    code_wrongs c done = []
    code_wrongs c (next t rest) = step_wrongs c t ++ code_wrongs (scope_after c t) rest

  abbrev mutual
    -- the code of an expression whose names aren't refused
    pub tree_code : Scope → RawTree → Tree
    tree_code c (number z) = number z
    tree_code c (size w) = size (or_zero (named_dim w))
    tree_code c (named w) = meant_tree (meant source s c.locals w)
    tree_code c (access o is) =
        access (or_zero (named_argument o.name))
        (index_code c (argument_at s (named_argument o.name)).dims no_flags is)
    tree_code c (unary op e) = unary op (tree_code c e)
    tree_code c (binary op x y) = binary op (tree_code c x) (tree_code c y)

    pub index_code : Scope → (dims : List ℕ) → (given : List Bool) → RawIndices → Indices
    index_code c ds given none = looped ds 0 given
    index_code c ds given (along w e rest) =
        let k = axis_of s ds (bytes_of source w) in
        along (or_zero k) (tree_code c e) (index_code c ds (mark given k) rest)

  abbrev mutual
    -- the code of a statement whose names aren't refused
    pub step_code : Scope → RawStep → Step
    step_code c (repeat w body) = repeat (or_zero (named_dim w))
        (code_code (within c (or_zero (named_dim w))) body)
    step_code c (choose e whole other) =
        choose (tree_code c e) (code_code c whole) (code_code c other)
    step_code c (keep (New ty w) op e) =
        keep (record { slot = length c.locals; ty = ty }) op (tree_code c e)
    step_code c (keep (Named w) op e) =
        let k = slot_of (meant source s c.locals w) in
        keep (record { slot = k; ty = type_of_local c.locals k }) op (tree_code c e)
    step_code c (put o is op e) =
        put (or_zero (named_argument o.name))
        (index_code c (argument_at s (named_argument o.name)).dims no_flags is) op (tree_code c e)

    pub code_code : Scope → RawCode → Code
    code_code c done = done
    code_code c (next t rest) = next (step_code c t) (code_code (scope_after c t) rest)

  abbrev mutual
    -- whether a statement declares a word that is a dimension or a visible local
    pub step_declares : Scope → RawStep → Bool
    step_declares c (repeat w body) = code_declares c body
    step_declares c (choose e whole other) = code_declares c whole || code_declares c other
    step_declares c (keep (New ty w) op e) = is_some (slot_in source c.locals (bytes_of source w))
        || is_some (named_dim w)
    step_declares c (keep (Named w) op e) = false
    step_declares c (put o is op e) = false

    pub code_declares : Scope → RawCode → Bool
    code_declares c done = false
    code_declares c (next t rest) = step_declares c t || code_declares (scope_after c t) rest

-- the value, or the first refusal in the text
abbrev pub answer : {A : Type 0} → List KernelFault → A → Result A KernelFault
answer [] x = Ok x
answer (r ∷ rs) x = Err r
