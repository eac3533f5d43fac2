-- Resolving step by step, in the order of the text. Only private functions speak of this.
use Rattle.std.specs.Prelude.{◌≡◌, ℕ, List, [], ◌∷◌, length, Bool, Option, Some, None, Result, Ok, Err}
use Rattle.pdl_sig.specs.declared.Signature.{Signature}
use Rattle.pdl_code.specs.declared.fault.KernelFault.{KernelFault}
use Rattle.pdl_code.specs.declared.fault.KernelFault.TheVariants.{BadText, UnknownArgument, UnknownDim, WriteToInput, NoMemory}
use Rattle.pdl_code.specs.declared.lexeme.Span.{Span}
use Rattle.pdl_code.specs.declared.names.Target.TheVariants.{New, Named}
use Rattle.pdl_code.specs.Tree.{Tree, Indices, Step, Code, number, size, access, unary, binary, along, repeat, choose, keep, put, done, next, RawTree, RawIndices, RawStep, RawCode, named, none}
use Rattle.pdl_code.specs.Scope.{Scope, axis_of, bytes_of, meant, no_flags, within}
use Rattle.pdl_code.specs.Refused.{answer, argument_at, axis_wrong, type_of_local, is_input, lacks, loop_wrong, looped, mark, meant_tree, named_argument, named_dim, no_dim, or_zero, primary_wrong, scope_after, slot_of, target_wrong, when}

infixl 10 ◌>>=◌
abbrev pub ◌>>=◌ : {A B : Type 0} → Result A KernelFault → (A → Result B KernelFault) →
    Result B KernelFault
(Ok x) >>= f = f x
(Err e) >>= f = Err e

-- what a function returned is this, unless memory ran out
abbrev pub Agrees : {X Y : Type 0} → (X → Y) → Result X KernelFault → Result Y KernelFault → Type 0
Agrees view (Ok x) r = r ≡ Ok (view x)
Agrees view (Err NoMemory) r = Unit {0}
Agrees view (Err f) r = r ≡ Err f

-- what is read, or else the refusal of a text of another form
abbrev pub or_bad : {A : Type 0} → Option A → Result A KernelFault
or_bad None = Err BadText
or_bad (Some x) = Ok x

abbrev pub known : {A : Type 0} → Span → Option ℕ → Result A KernelFault → Result A KernelFault
known w None r = Err (UnknownArgument w.from)
known w (Some a) r = r

abbrev pub checked : {A : Type 0} → List KernelFault → Result A KernelFault → Result A KernelFault
checked [] r = r
checked (w ∷ ws) r = Err w

module _ (source : List ℕ) (s : Signature) where
  abbrev mutual
    pub resolve_tree : Scope → RawTree → Result Tree KernelFault
    resolve_tree c (number z) = Ok (number z)
    resolve_tree c (size w) = answer (no_dim w (named_dim source s w))
        (size (or_zero (named_dim source s w)))
    resolve_tree c (named w) = answer (primary_wrong c.loops w (meant source s c.locals w))
        (meant_tree (meant source s c.locals w))
    resolve_tree c (access o is) =
        known o.name (named_argument source s o.name)
        (resolve_indices c (argument_at s (named_argument source s o.name)).dims no_flags o.close is
        >>= λ found. Ok (access (or_zero (named_argument source s o.name)) found))
    resolve_tree c (unary op e) = resolve_tree c e >>= λ a. Ok (unary op a)
    resolve_tree c (binary op x y) =
        resolve_tree c x >>= λ a. resolve_tree c y >>= λ b. Ok (binary op a b)

    pub resolve_indices : Scope → (dims : List ℕ) → (given : List Bool) → (close : ℕ) → RawIndices
        → Result Indices KernelFault
    resolve_indices c ds given at none =
        answer (when (lacks c.loops ds 0 given) (UnknownDim at)) (looped ds 0 given)
    resolve_indices c ds given at (along w e rest) =
        answer (axis_wrong w given (axis_of s ds (bytes_of source w)))
        (or_zero (axis_of s ds (bytes_of source w))) >>= λ k.
        resolve_tree c e >>= λ a.
        resolve_indices c ds (mark given (axis_of s ds (bytes_of source w))) at rest >>= λ found.
        Ok (along k a found)

  abbrev mutual
    pub resolve_step : Scope → RawStep → Result Step KernelFault
    resolve_step c (repeat w body) =
        answer (loop_wrong c.loops w (named_dim source s w))
        (or_zero (named_dim source s w)) >>= λ d.
        resolve_code (within c (or_zero (named_dim source s w))) body >>= λ b. Ok (repeat d b)
    resolve_step c (choose e whole other) =
        resolve_tree c e >>= λ x. resolve_code c whole >>= λ a.
        resolve_code c other >>= λ b. Ok (choose x a b)
    resolve_step c (keep (New ty w) op e) =
        resolve_tree c e >>= λ x. Ok (keep (record { slot = length c.locals; ty = ty }) op x)
    resolve_step c (keep (Named w) op e) =
        answer (target_wrong w (meant source s c.locals w))
        (slot_of (meant source s c.locals w)) >>= λ k.
        resolve_tree c e >>= λ x.
        Ok (keep (record { slot = k; ty = type_of_local c.locals k }) op x)
    resolve_step c (put o is op e) =
        known o.name (named_argument source s o.name)
        (checked (when (is_input (argument_at s (named_argument source s o.name)).role)
        (WriteToInput o.name.from))
        (resolve_indices c (argument_at s (named_argument source s o.name)).dims no_flags o.close is))
        >>= λ found.
        resolve_tree c e >>= λ x. Ok (put (or_zero (named_argument source s o.name)) found op x)

    pub resolve_code : Scope → RawCode → Result Code KernelFault
    resolve_code c done = Ok done
    resolve_code c (next t rest) =
        resolve_step c t >>= λ a.
        resolve_code (scope_after c t) rest >>= λ b. Ok (next a b)
