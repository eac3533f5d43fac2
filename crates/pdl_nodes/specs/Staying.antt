-- What is left of numbered entries when arrays are let go: those that a held array reaches by
-- parents.
use Rattle.std.specs.Prelude.{◌≡◌, ℕ, ◌==◌, if◌then◌else◌, Bool, true, List, [], ◌∷◌, Option, Some, None}
use Rattle.pdl_world.specs.World.{World, root, view}

-- the entries of whose numbers the test holds
abbrev pub staying : {A : Type 0} → (ℕ → Bool) → List (ℕ × A) → List (ℕ × A)
staying t [] = []
staying t ((k, a) ∷ xs) = if t k then (k, a) ∷ staying t xs else staying t xs

-- a number, if the test holds of it
abbrev pub stays_from : (ℕ → Bool) → Option ℕ → Option ℕ
stays_from t None = None
stays_from t (Some v) = if t v then Some v else None

-- what is held of the older arrays once one with this parent was passed, which is held itself or
-- isn't
abbrev pub passed : (parent : Option ℕ) → (keeps : Bool) → (held : ℕ → Bool) → (v : ℕ) → Bool
passed None keeps held v = held v
passed (Some p) keeps held v = if p == v then (if keeps then true else held v) else held v

-- the test holds of the parent of each view of which it holds
abbrev pub KeepsParents : (ℕ → Bool) → World → Type 0
KeepsParents t [] = Unit {0}
KeepsParents t ((k, root ty ds es) ∷ w) = KeepsParents t w
KeepsParents t ((k, view p u) ∷ w) = (t k ≡ true → t p ≡ true) × KeepsParents t w
