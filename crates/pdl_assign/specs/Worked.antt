-- Assignments worked by hand where blocks of one value aren't the whole assignment: where the sign
-- reads the target and this has repeats, and where the right side is another array of its root. The
-- rest of the condition isn't worked.
use Rattle.std.specs.Prelude.{◌≡◌, ℕ, ◌+◌, ◌+ℤ◌, ℤ, pos, List, [], ◌∷◌, length, map, take, drop}
use Rattle.pdl_elem.specs.declared.Ty.TheVariants.{Long}
use Rattle.pdl_world.specs.declared.Trans.{Trans}
use Rattle.pdl_world.specs.declared.Trans.TheVariants.{Index}
use Rattle.pdl_world.specs.World.{World, root, view, assign, elements}
use Rattle.pdl_world.specs.Parts.{assign_part}

abbrev pub index_at : List ℕ → Trans
index_at is = Index (length is ∷ []) (map pos is)

-- the root 0 has the elements 5 and 7, the view 1 shows the first one twice, and the view 2 both the
-- other way round
abbrev pub arrays : World
arrays =
    (2, view 0 (index_at (1 ∷ 0 ∷ [])))
    ∷ (1, view 0 (index_at (0 ∷ 0 ∷ [])))
    ∷ (0, root Long (2 ∷ []) (pos 5 ∷ pos 7 ∷ []))
    ∷ []

-- `+= 1` to v, and `.=` of u, found in the world as it is
abbrev pub one_more : (v : ℕ) → World → (first count : ℕ) → List ℤ
one_more v w n c = map (λ x. x +ℤ pos 1) (take c (drop n (elements w v)))

abbrev pub elements_of : (u : ℕ) → World → (first count : ℕ) → List ℤ
elements_of u w n c = take c (drop n (elements w u))

abbrev pub singly : List ℕ
singly = 1 ∷ 1 ∷ []

-- the world after values were assigned in blocks of these sizes, each found in the world as it is
-- when its turn comes
abbrev pub in_blocks : (found : World → (first count : ℕ) → List ℤ) → World → (v first : ℕ)
    → (counts : List ℕ) → World
in_blocks found w v first [] = w
in_blocks found w v first (n ∷ ns) =
    in_blocks found (assign_part w v first (found w first n)) v (first + n) ns

-- `+=` where the target repeats a place: 6 by the definition, 7 in blocks
pub record RepeatsAddUp : Type 0 where
  pub whole : elements (assign arrays 1 (one_more 1 arrays 0 2)) 0 ≡ pos 6 ∷ pos 7 ∷ []
  pub blocks : elements (in_blocks (one_more 1) arrays 1 0 singly) 0 ≡ pos 7 ∷ pos 7 ∷ []

-- `.=` of another array of the same root, without repeats: both exchanged by the definition
pub record SiblingsMix : Type 0 where
  pub whole : elements (assign arrays 0 (elements_of 2 arrays 0 2)) 0 ≡ pos 7 ∷ pos 5 ∷ []
  pub blocks : elements (in_blocks (elements_of 2) arrays 0 0 singly) 0 ≡ pos 7 ∷ pos 7 ∷ []
