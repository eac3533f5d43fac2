-- What is written of a pattern, and where its expressions stand. Only private functions speak of
-- this.
use Rattle.std.specs.Prelude.{option_and_then}
use Rattle.std.specs.Prelude.{◌≡◌, ℕ, ◌+◌, ◌-◌, ◌<◌, ◌≤◌, Bool, true, false, not, ◌&&◌, nat_lt, List, [], ◌∷◌, ◌++◌, drop, map, Option, Some, None, slice_index_or as get_or}
use Rattle.pdl_lex.specs.Written.{Written}
use Rattle.pdl_nice.specs.declared.looks.Look.TheVariants.{Opens as opens}
use Rattle.pdl_nice.specs.declared.looks.Look.{Look}
use Rattle.pdl_nice.specs.Looks.{look}
use Rattle.pdl_nice.specs.Nice.{cut, is_level, inner_of, is_shut, is_star}
use Rattle.pdl_nice.specs.Reading.{Read, Front, front, second_of, third_of}
use Rattle.pdl_nice.specs.Ends.{range, no_token}

-- the tokens between each of these places
abbrev pub shown : List Written → List (ℕ × ℕ) → List (List Written)
shown ws places = map (λ r. range ws r.0 r.1) places

-- places of tokens, at least one, that lie between two others
abbrev pub LieIn : (from to : ℕ) → ℕ × ℕ → Type 0
LieIn from to r = (from ≤ r.0) × (r.0 < r.1) × (r.1 ≤ to)

abbrev pub AllLieIn : (from to : ℕ) → List (ℕ × ℕ) → Type 0
AllLieIn from to [] = Unit {0}
AllLieIn from to (r ∷ rs) = LieIn from to r × AllLieIn from to rs

-- a pattern stands behind the one before it, and the places of its expressions behind the others
pub record Adds (ws : List Written) (from to : ℕ) (before after : List ℕ)
    (old new : List (ℕ × ℕ)) (what : Read) : Type 0 where
  pub pattern : after ≡ before ++ what.pattern
  pub more : List (ℕ × ℕ)
  pub behind : new ≡ old ++ more
  pub values : shown ws more ≡ what.values
  pub lie : AllLieIn from to more

-- it is what was read, if anything was
pub record AddsRead (ws : List Written) (from to : ℕ) (before after : List ℕ)
    (old new : List (ℕ × ℕ)) (o : Option Read) : Type 0 where
  pub what : Read
  pub is : o ≡ Some what
  pub adds : Adds ws from to before after old new what

abbrev pub AddsIf : (found : Bool) → List Written → (from to : ℕ) → (before after : List ℕ) →
    (old new : List (ℕ × ℕ)) → Option Read → Type 0
AddsIf true ws from to before after old new o = AddsRead ws from to before after old new o
AddsIf false ws from to before after old new o = o ≡ None

-- what is read from one place to another, of any tokens with these looks
abbrev pub AddsOf : (reading : List Written → Option Read) → (found : Bool) → List Look →
    (from to : ℕ) → (before after : List ℕ) → (old new : List (ℕ × ℕ)) → Type 0
AddsOf reading found looks from to before after old new =
    (ws : List Written) → map look ws ≡ looks → is_level [] (range ws from to) ≡ true →
    AddsIf found ws from to before after old new (reading (range ws from to))

-- what is read from a place on ends at a later one
pub record AddsFront (ws : List Written) (from at : ℕ) (before after : List ℕ)
    (old new : List (ℕ × ℕ)) (o : Option Front) : Type 0 where
  pub what : Read
  pub is : o ≡ Some (front (get_or ws at no_token) (drop (at + 1) ws) what)
  pub adds : Adds ws from at before after old new what

abbrev pub AddsUpTo : (end : Option ℕ) → List Written → (from : ℕ) → (before after : List ℕ) →
    (old new : List (ℕ × ℕ)) → Option Front → Type 0
AddsUpTo (Some at) ws from before after old new o = AddsFront ws from at before after old new o
AddsUpTo None ws from before after old new o = o ≡ None

-- what is read from a place on, of any tokens with these looks
abbrev pub AddsBehind : (reading : List Written → Option Front) → (end : Option ℕ) → List Look →
    (from : ℕ) → (before after : List ℕ) → (old new : List (ℕ × ℕ)) → Type 0
AddsBehind reading end looks from before after old new =
    (ws : List Written) → map look ws ≡ looks →
    AddsUpTo end ws from before after old new (reading (drop from ws))

abbrev pub third_at : List Written → Option Front
third_at ts = option_and_then third_of (cut [] ts)

abbrev pub second_at : List Written → Option Front
second_at ts = option_and_then second_of (cut [] ts)

abbrev pub only : Bool → List Written → Option (List Written)
only true ws = Some ws
only false ws = None

-- whether the tokens between two places are just a value in round brackets
abbrev pub TellsInner : Bool → List Look → (from to : ℕ) → Type 0
TellsInner found looks from to =
    (ws : List Written) → map look ws ≡ looks →
    inner_of (range ws from to) ≡ only found (range ws (from + 1) (to - 1))

abbrev pub ends_value : List Look → (from at : ℕ) → Bool
ends_value looks from at =
    nat_lt from at && is_shut (get_or looks at opens) && not (is_star (get_or looks from opens))
