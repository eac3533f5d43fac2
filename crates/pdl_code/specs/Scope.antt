-- What names stand for at a place of the text.
use Rattle.std.specs.Prelude.{ℕ, suc, ◌+◌, ◌-◌, nat_eq, bytes_eq, if◌then◌else◌, Bool, true, false, List, [], ◌∷◌, take, drop, slice_set, replicate, Option, Some, None, option_map, option_and_then}
use Rattle.pdl_sig.specs.declared.Signature.{Signature}
use Rattle.pdl_sig.specs.Refusals.{dim_names_limit}
use Rattle.pdl_code.specs.declared.lexeme.Span.{Span}
use Rattle.pdl_code.specs.declared.scope.Local.{Local}
use Rattle.pdl_code.specs.declared.scope.Meant.{Meant}
use Rattle.pdl_code.specs.declared.scope.Meant.TheVariants.{InSlot, Dim, Unknown}

-- the bytes that a span names
abbrev pub bytes_of : List ℕ → Span → List ℕ
bytes_of source w = take (w.to - w.from) (drop w.from source)

-- the bytes of a name without its `$`
abbrev pub bare : List ℕ → Span → List ℕ
bare source w = take (w.to - (w.from + 1)) (drop (w.from + 1) source)

-- the place of the first one that passes a test
abbrev pub place_by : {A : Type 0} → (A → Bool) → List A → Option ℕ
place_by test [] = None
place_by test (x ∷ xs) = if test x then Some 0 else option_map (λ k. suc k) (place_by test xs)

-- the number of an argument, of a dimension, and of a dimension among those of an argument
abbrev pub argument_place : Signature → List ℕ → Option ℕ
argument_place s name = place_by (λ a. bytes_eq a.name name) s.args

abbrev pub dim_place : Signature → List ℕ → Option ℕ
dim_place s name = place_by (λ d. bytes_eq d name) s.names

abbrev pub axis_of : Signature → List ℕ → List ℕ → Option ℕ
axis_of s dims name = option_and_then (λ d. place_by (λ other. nat_eq other d) dims)
    (dim_place s name)

-- the visible locals, of which each has its place among them as its slot, and for each dimension
-- whether a loop over it is open
pub record Scope : Type 0 where
  pub locals : List Local
  pub loops : List Bool

-- the slot of a word
abbrev pub slot_in : List ℕ → List Local → List ℕ → Option ℕ
slot_in source locals name = place_by (λ l. bytes_eq (bytes_of source l.word) name) locals

-- a word may stand for a local, or else for a dimension
abbrev pub or_dim : Option ℕ → Meant
or_dim (Some d) = Dim d
or_dim None = Unknown

abbrev pub or_local : Option ℕ → Option ℕ → Meant
or_local (Some k) d = InSlot k
or_local None d = or_dim d

abbrev pub meant : (source : List ℕ) → Signature → (locals : List Local) → Span → Meant
meant source s locals w = or_local (slot_in source locals (bytes_of source w))
    (dim_place s (bytes_of source w))

-- within a loop over a dimension
abbrev pub within : Scope → ℕ → Scope
within s d = record s { loops = slice_set s.loops d true }

-- for each dimension of a signature or of an argument: none is marked
abbrev pub no_flags : List Bool
no_flags = replicate dim_names_limit false

-- nothing is declared and no loop is open
abbrev pub top : Scope
top = record { locals = []; loops = no_flags }
