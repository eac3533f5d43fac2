-- What is left of a state after a statement: the arrays and flows that it keeps, numbered anew.
use Rattle.std.specs.Prelude.{ℕ, ◌==◌, [], ◌∷◌, map, length, option_map, if◌then◌else◌}
use Rattle.pdl_world.specs.World.{World, ArrayDef, root, view}
use Rattle.pdl_machine.specs.Names.{Named, Names}
use Rattle.pdl_machine.specs.Flows.{flow_by}
use Rattle.pdl_machine.specs.State.{State, with_arrays, needs, kept}

-- how many arrays of the world are older than this one
abbrev pub older : World → ℕ → ℕ
older [] v = 0
older ((k, d) ∷ w) v = if k == v then length w else older w v

abbrev pub with_parent : (ℕ → ℕ) → ArrayDef → ArrayDef
with_parent f (root ty ds es) = root ty ds es
with_parent f (view p t) = view (f p) t

-- the arrays numbered 0, 1, 2 and so on in their order
abbrev pub renumber : World → World
renumber [] = []
renumber ((k, d) ∷ w) = (length w, with_parent (older w) d) ∷ renumber w

-- other numbers by the same names
abbrev pub renumbered : (ℕ → ℕ) → Named ℕ → Named ℕ
renumbered f [] = []
renumbered f (n ∷ names) = (n.0, f n.1) ∷ renumbered f names

-- names with other numbers of their arrays
abbrev pub with_numbers : (ℕ → ℕ) → Names → Names
with_numbers f names = record names { arrays = renumbered f names.arrays }

-- the state with other numbers in all that names arrays
abbrev pub map_numbers : (ℕ → ℕ) → State → State
map_numbers f s = record s {
  names = with_numbers f s.names;
  watches = map (option_map f) s.watches;
  flows = map (flow_by f) s.flows;
}

-- a state whose arrays are these, numbered anew
abbrev pub numbered : State → World → State
numbered s w = with_arrays (map_numbers (older w) s)
    (record { world = renumber w; next = length w })

-- the state without the flows that it doesn't keep
abbrev pub settled : State → State
settled s = record s { flows = (needs s).flows }

-- the state without the flows and the arrays that it doesn't keep, numbered anew
abbrev pub tidy : State → State
tidy s = numbered (settled s) (kept s)
