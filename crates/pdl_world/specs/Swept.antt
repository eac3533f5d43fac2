-- The arrays that held ones reach, and the world of these alone.
use Rattle.std.specs.Prelude.{◌≡◌, ◌⊎◌, ℕ, ◌==◌, true, List, [], ◌∷◌, ◌++◌, Bool, if◌then◌else◌}
use Rattle.std.specs.List.{list_any}
use Rattle.pdl_world.specs.declared.Trans.{Trans}
use Rattle.pdl_world.specs.World.{World, ArrayDef, root, view}

-- the number stands in the list
abbrev pub is_listed : (numbers : List ℕ) → ℕ → Bool
is_listed ns k = list_any (λ v. v == k) ns

-- the parent of a view
abbrev pub parents : ArrayDef → List ℕ
parents (root ty ds es) = []
parents (view p t) = p ∷ []

abbrev pub kept_onto : Bool → ℕ × ArrayDef → World → World
kept_onto keeps a w = if keeps then a ∷ w else w

-- the arrays that the held ones reach by parents, themselves counted
abbrev pub sweep : World → (held : List ℕ) → World
sweep [] held = []
sweep ((k, d) ∷ w) held =
    let keeps = is_listed held k in
    kept_onto keeps (k, d) (sweep w (if keeps then parents d ++ held else held))

-- a sweep by these keeps all arrays
abbrev pub KeepsAll : World → List ℕ → Type 0
KeepsAll w held = sweep w held ≡ w

-- the world has this array under this number
abbrev pub Has : World → ℕ → ArrayDef → Type 0
Has [] k d = ⊥
Has ((j, e) ∷ w) k d = ((j ≡ k) × (e ≡ d)) ⊎ Has w k d

-- an array is reached where it is held, or is the parent of a view that is reached
pub data IsReached (w : World) (held : List ℕ) : ℕ → Type 0 where
  held_itself : (k : ℕ) → is_listed held k ≡ true → IsReached w held k
  parent_of : (k p : ℕ) (t : Trans) → Has w k (view p t) → IsReached w held k → IsReached w held p
