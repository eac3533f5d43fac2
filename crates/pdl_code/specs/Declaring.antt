-- Refusing declared words and counting locals step by step, in the order of the text. Only private
-- functions speak of this.
use Rattle.std.specs.Prelude.{ℕ, suc, max, Bool, true, false, ◌||◌, List, length, is_some, Result, Ok, Err}
use Rattle.pdl_sig.specs.declared.Signature.{Signature}
use Rattle.pdl_code.specs.declared.fault.KernelFault.{KernelFault}
use Rattle.pdl_code.specs.declared.fault.KernelFault.TheVariants.{BadText}
use Rattle.pdl_code.specs.declared.lexeme.Span.{Span}
use Rattle.pdl_code.specs.declared.scope.Local.{Local}
use Rattle.pdl_code.specs.declared.names.Target.TheVariants.{New, Named}
use Rattle.pdl_code.specs.Tree.{RawStep, RawCode, repeat, choose, keep, put, done, next}
use Rattle.pdl_code.specs.Refused.{named_dim, scope_after}
use Rattle.pdl_code.specs.Resolving.{◌>>=◌}
use Rattle.pdl_code.specs.Scope.{Scope, bytes_of, slot_in}

-- a count, where no declared word is refused
abbrev pub counted : Bool → ℕ → Result ℕ KernelFault
counted true n = Err BadText
counted false n = Ok n

-- how many locals are visible at once, at most, among n of them
abbrev mutual
  pub raw_step_locals : ℕ → RawStep → ℕ
  raw_step_locals n (repeat w body) = raw_locals n body
  raw_step_locals n (choose e whole other) = max (raw_locals n whole) (raw_locals n other)
  raw_step_locals n (keep (New ty w) op e) = suc n
  raw_step_locals n (keep (Named w) op e) = n
  raw_step_locals n (put o is op e) = n

  pub raw_locals : ℕ → RawCode → ℕ
  raw_locals n done = n
  raw_locals n (next t rest) = max (raw_step_locals n t) (raw_locals (raw_after n t) rest)

  -- how many are visible after a statement
  pub raw_after : ℕ → RawStep → ℕ
  raw_after n (keep (New ty w) op e) = suc n
  raw_after n _ = n

module _ (source : List ℕ) (s : Signature) where
  -- a dimension's word, or a visible local's
  abbrev pub is_taken : List Local → Span → Bool
  is_taken locals w = is_some (slot_in source locals (bytes_of source w))
      || is_some (named_dim source s w)

  abbrev mutual
    pub declared_step : Scope → RawStep → Result ℕ KernelFault
    declared_step c (repeat w body) = declared_code c body
    declared_step c (choose e whole other) =
        declared_code c whole >>= λ a. declared_code c other >>= λ b. Ok (max a b)
    declared_step c (keep (New ty w) op e) = counted (is_taken c.locals w) (suc (length c.locals))
    declared_step c (keep (Named w) op e) = Ok (length c.locals)
    declared_step c (put o is op e) = Ok (length c.locals)

    pub declared_code : Scope → RawCode → Result ℕ KernelFault
    declared_code c done = Ok (length c.locals)
    declared_code c (next t rest) =
        declared_step c t >>= λ a. declared_code (scope_after c t) rest >>= λ b. Ok (max a b)
