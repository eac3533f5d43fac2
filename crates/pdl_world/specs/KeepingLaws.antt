-- What holds of arrays of which a sweep keeps all.
use Rattle.std.specs.Prelude.{◌≡◌, ℕ, ℤ, true, List, ◌∷◌, ◌++◌, IfSome}
use Rattle.pdl_world.specs.Cut.{sever, reshape}
use Rattle.pdl_world.specs.Paths.{parent_in}
use Rattle.pdl_world.specs.Sound.{IsSound, IsLive}
use Rattle.pdl_world.specs.Swept.{is_listed, parents, KeepsAll}
use Rattle.pdl_world.specs.World.{World, ArrayDef, assign}

-- all are kept with a newest array where it is held, and its parent beside the held ones keeps
-- the others
abbrev pub NewestKeepsAll : Type 0
NewestKeepsAll =
    (w : World) (k : ℕ) (d : ArrayDef) (held : List ℕ) → is_listed held k ≡ true
    → KeepsAll w (parents d ++ held) → KeepsAll ((k, d) ∷ w) held

-- and only there
pub record IsNewestKept (w : World) (k : ℕ) (d : ArrayDef) (held : List ℕ) : Type 0 where
  pub newest : is_listed held k ≡ true
  pub others : KeepsAll w (parents d ++ held)

abbrev pub NewestIsKept : Type 0
NewestIsKept =
    (w : World) (k : ℕ) (d : ArrayDef) (held : List ℕ) → KeepsAll ((k, d) ∷ w) held
    → IsNewestKept w k d held

-- what keeps all does so with more
abbrev pub MoreKeepAll : Type 0
MoreKeepAll =
    (w : World) (few many : List ℕ) → ((v : ℕ) → is_listed few v ≡ true → is_listed many v ≡ true)
    → KeepsAll w few → KeepsAll w many

-- and after an assignment
abbrev pub AssignsKeepAll : Type 0
AssignsKeepAll =
    (w : World) (v : ℕ) (vs : List ℤ) (held : List ℕ) → KeepsAll w held
    → KeepsAll (assign w v vs) held

-- after a cut it does so if the parent is held too
abbrev pub CutsKeepAll : Type 0
CutsKeepAll =
    (w : World) (v : ℕ) (held : List ℕ) → IsSound w → KeepsAll w held
    → IfSome (parent_in w v) (λ p. is_listed held p ≡ true) → KeepsAll (sever w v) held

-- and so with other dimensions
abbrev pub ReshapesKeepAll : Type 0
ReshapesKeepAll =
    (w : World) (v : ℕ) (ds held : List ℕ) → IsSound w → KeepsAll w held
    → IfSome (parent_in w v) (λ p. is_listed held p ≡ true) → KeepsAll (reshape w v ds) held

-- the parent of a view is there
abbrev pub ParentsAreLive : Type 0
ParentsAreLive = (w : World) (v : ℕ) → IsSound w → IfSome (parent_in w v) (IsLive w)
