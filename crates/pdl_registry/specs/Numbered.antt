-- Values by numbers, in rising order.
use Rattle.std.specs.Prelude.{◌≡◌, ◌≢◌, ℕ, ◌<◌, nat_le, if◌then◌else◌, List, [], ◌∷◌, length, Option, Some, None, slice_index_or}
use Rattle.std.specs.Ordering.{nat_cmp}
use Rattle.std.specs.Map.{lookup}
use Rattle.std.specs.BTreeMap.{is_at}
use Rattle.pdl_registry.specs.declared.limits.TheConstants.{MOST_NEWEST}

-- the value of the number v, if it has one
abbrev pub value_at : {V : Type 0} → List (ℕ × V) → ℕ → Option V
value_at es v = lookup (is_at (nat_cmp v)) es

-- the first of these numbers that isn't below n
abbrev pub first_from : List ℕ → (n : ℕ) → Option ℕ
first_from [] n = None
first_from (k ∷ ks) n = if nat_le n k then Some k else first_from ks n

-- each number is above v
abbrev pub AllAbove : {V : Type 0} → ℕ → List (ℕ × V) → Type 0
AllAbove v [] = Unit {0}
AllAbove v (e ∷ es) = (v < e.0) × AllAbove v es

-- each number is below those after it
abbrev pub Rises : {V : Type 0} → List (ℕ × V) → Type 0
Rises [] = Unit {0}
Rises (e ∷ es) = AllAbove e.0 es × Rises es

-- v is above each number
abbrev pub IsAbove : {V : Type 0} → ℕ → List (ℕ × V) → Type 0
IsAbove v [] = Unit {0}
IsAbove v (e ∷ es) = (e.0 < v) × IsAbove v es

-- v has what is said then, and each other number what it had
pub record IsPut {V : Type 0} (old new : List (ℕ × V)) (v : ℕ) (o : Option V) : Type 0 where
  pub here : value_at new v ≡ o
  pub others : (u : ℕ) → u ≢ v → value_at new u ≡ value_at old u

-- how many of the newest numbers stand before the others, at most
abbrev pub most_newest : ℕ
most_newest = MOST_NEWEST

-- v stands at place i
pub record IsPlace {V : Type 0} (es : List (ℕ × V)) (v i : ℕ) : Type 0 where
  pub in_range : i < length es
  pub number : (d : ℕ × V) → (let e = slice_index_or es i d in e.0 ≡ v)
