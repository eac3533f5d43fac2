-- What an assignment of an array to another writes, whole and in blocks.
use Rattle.std.specs.Prelude.{◌≡◌, ◌≢◌, ◌⊎◌, ◌≤◌, ℕ, ℤ, pos, false, List, [], length, get_or, Result, Ok, Err}
use Rattle.pdl_elem.specs.declared.Ty.{Ty}
use Rattle.pdl_elem.specs.Numbers.{wrapped}
use Rattle.pdl_elem.specs.Types.{promoted}
use Rattle.pdl_shape.specs.Shape.{size_of}
use Rattle.pdl_shape.specs.Stretched.{stretched}
use Rattle.pdl_buf.specs.Made.{array_of}
use Rattle.pdl_buf.specs.Window.{Window}
use Rattle.pdl_lexemes.specs.declared.AssignOp.{AssignOp}
use Rattle.pdl_lexemes.specs.declared.AssignOp.TheVariants.{Set, With}
use Rattle.pdl_ops.specs.Elementwise.{OpRefusal}
use Rattle.pdl_ops.specs.Parts.{part_values}
use Rattle.pdl_ops.specs.Values.{new_values, values_for}
use Rattle.pdl_world.specs.Paths.{root_of}
use Rattle.pdl_world.specs.Sound.{IsSound}
use Rattle.pdl_world.specs.Windows.{base}
use Rattle.pdl_world.specs.World.{World, assign, dims_in, elements, has_repeats, places_in, ty_in}
use Rattle.pdl_engine.specs.State.{State, shown_in}

-- the values that an assignment of u to v writes, or why there are none
abbrev pub values_in : AssignOp → State → (v u : ℕ) → Result (List ℤ) OpRefusal
values_in sign e v u = values_for sign (array_of (shown_in e v)) (array_of (shown_in e u))

-- the right side's elements at the positions of the target
abbrev pub right_in : World → (v u : ℕ) → List ℤ
right_in w v u = stretched (dims_in w u) (dims_in w v) (elements w u)

-- the values where the right side fits
abbrev pub written_in : AssignOp → World → (v u : ℕ) → Result (List ℤ) OpRefusal
written_in sign w v u =
    new_values sign (ty_in w v) (ty_in w u) (elements w v) (right_in w v u)

-- those of so many positions from one on, found from the elements there
abbrev pub block_in : AssignOp → World → (v u first count : ℕ) → Result (List ℤ) OpRefusal
block_in sign w v u first count =
    part_values sign (ty_in w v) (ty_in w u) first count (elements w v) (right_in w v u)

-- the right side is of another root, or it is the target itself
abbrev pub IsApartOrItself : World → (v u : ℕ) → Type 0
IsApartOrItself w v u = (root_of w u ≡ root_of w v → ⊥) ⊎ (u ≡ v)

-- no block reads what a block before it wrote: the right side is of another root, or it is the
-- target itself and this has no repeats; and where the sign reads the target this has none
abbrev pub ReadsAsAtStart : AssignOp → World → (v u : ℕ) → Type 0
ReadsAsAtStart Set w v u =
    (root_of w u ≡ root_of w v → ⊥) ⊎ ((u ≡ v) × (has_repeats (places_in w v) ≡ false))
ReadsAsAtStart (With op) w v u =
    (has_repeats (places_in w v) ≡ false) × IsApartOrItself w v u

-- An assignment of u to v can be made block by block: the target can be lent after each block, the
-- right side has no further dimensions, and no block reads what a block before it wrote.
pub record CanBlock (sign : AssignOp) (w : World) (v u : ℕ) : Type 0 where
  pub steady : has_repeats (places_in w (base w v)) ≡ false
  pub few : length (dims_in w u) ≤ length (dims_in w v)
  pub reads : ReadsAsAtStart sign w v u

-- the first element of a window, wrapped to a type
abbrev pub number_at : Ty → Window → ℤ
number_at ty x = wrapped ty (get_or x.elems 0 (pos 0))

-- a window shows one number, which isn't 0 at a type, and an operator on it and on numbers of the
-- type works at the type
pub record IsOneNumber (ty : Ty) (x : Window) : Type 0 where
  pub one : size_of x.dims ≡ 1
  pub works_at : promoted ty x.ty ≡ ty
  pub some : number_at ty x ≢ pos 0

-- an assignment of u to v changes each element of v by one number where it stands: the sign is an
-- operator, v's elements stand in its root, and u is the number
abbrev pub IsUpdate : AssignOp → State → (v u : ℕ) → Type 0
IsUpdate Set e v u = ⊥
IsUpdate (With op) e v u =
    (base e.world v ≡ root_of e.world v) × IsOneNumber (ty_in e.world v) (shown_in e u)

-- the values that were found, and none where the first refusal came
abbrev pub list_of : Result (List ℤ) OpRefusal → List ℤ
list_of (Ok vs) = vs
list_of (Err e) = []

-- these values were written; nothing else changed
pub record IsWritten (old : State) (v : ℕ) (values : List ℤ) (new : State) : Type 0 where
  pub world : new.world ≡ assign old.world v values
  pub holds : new.holds ≡ old.holds
  pub next : new.next ≡ old.next
  pub sound : IsSound new.world

-- all values of an assignment were written that fits
abbrev pub AreWritten : AssignOp → (old : State) → (v u : ℕ) → (new : State) → Type 0
AreWritten sign old v u new =
    IsWritten old v (list_of (written_in sign old.world v u)) new

-- there are values of the assignment of u to v, and they were written
pub record IsAssigned (sign : AssignOp) (old : State) (v u : ℕ) (new : State) : Type 0 where
  pub values : List ℤ
  pub found : values_in sign old v u ≡ Ok values
  pub written : IsWritten old v values new
