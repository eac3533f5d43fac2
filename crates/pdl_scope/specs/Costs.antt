-- What reading and making arrays costs.
use Rattle.std.specs.Prelude.{◌≡◌, ℕ, ◌+◌, ◌≤◌, ◌==◌, ◌&&◌, if◌then◌else◌, Bool, false, List, [], ◌∷◌, Option, Some, None, Result, Ok, Err, is_ok}
use Rattle.pdl_numbers.specs.Typed.{count_moved}
use Rattle.pdl_shape.specs.Shape.{size_of}
use Rattle.pdl_buf.specs.declared.made.Made.{Made}
use Rattle.pdl_sig.specs.Resolution.{resolution}
use Rattle.pdl_sig.specs.declared.ArgShape.{ArgShape}
use Rattle.pdl_kernel.specs.Kernels.{Kernel}
use Rattle.pdl_world.specs.Refused.{view_refusal}
use Rattle.pdl_world.specs.Sound.{IsLive}
use Rattle.pdl_world.specs.Windows.{base}
use Rattle.pdl_world.specs.World.{World, dims_in, root, view}
use Rattle.pdl_world.specs.declared.Trans.{Trans}
use Rattle.pdl_engine.specs.Held.{written_back}
use Rattle.pdl_engine.specs.Reading.{read_steps}
use Rattle.pdl_engine.specs.State.{State as Engine, IsLazy, ready_steps}
use Rattle.pdl_machine.specs.Arrays.{Arrays}
use Rattle.pdl_machine.specs.Kernels.{kernel_of, outputs_count}
use Rattle.pdl_machine.specs.Names.{KernelTexts, Names, found}
use Rattle.pdl_machine.specs.Outcome.{new_root, new_view}
use Rattle.pdl_machine.specs.State.{IsWhole}
use Rattle.pdl_machine.specs.Step.{Stepped}
use Rattle.pdl_machine.specs.declared.fault.Fault.{Fault}
use Rattle.pdl_scope.specs.Scope.{Scope, engine_of, machine, Grows}

-- no array takes more steps to read than before
abbrev pub ReadsNoDearer : (old new : Engine) → Type 0
ReadsNoDearer old new = (v : ℕ) → IsLive old.world v → read_steps new v ≤ read_steps old v

-- the most steps that it takes to make the array of a value: one for each element that isn't 0, and
-- none where the value is refused
abbrev pub make_steps : Result Made Fault → ℕ
make_steps (Ok m) = count_moved m.elems
make_steps (Err e) = 0

-- no array takes more steps to be made ready than before, nor to read
pub record CostsNoMore (old new : Engine) : Type 0 where
  pub readies : (v : ℕ) → IsLive old.world v → ready_steps new v ≤ ready_steps old v
  pub reads : ReadsNoDearer old new

-- Nothing was moved: no step was taken, the same arrays can be lent, and the same waits.
pub record MovesNothing (old new : Engine) (before after : ℕ) : Type 0 where
  pub unmoved : after ≡ before
  pub fresh : new.fresh ≡ old.fresh
  pub pending : new.pending ≡ old.pending

-- how many elements a view keeps: its own where it is its own base, none where it is shown over
-- another
abbrev pub kept_size : World → ℕ → ℕ
kept_size w v = if base w v == v then size_of (dims_in w v) else 0

-- how many elements move at most for the arrays of a world: those of the roots that aren't 0, and
-- those that views keep
abbrev pub total_size : World → ℕ
total_size [] = 0
total_size ((k, root ty ds es) ∷ w) = count_moved es + total_size w
total_size ((k, view p t) ∷ w) = kept_size ((k, view p t) ∷ w) k + total_size w

-- the arrays of a state that a statement leaves; where it is refused, those that were left
abbrev pub arrays_after : Stepped → (left : Arrays) → Arrays
arrays_after (Ok after) left = after.0.arrays
arrays_after (Err e) left = left

-- it takes at most a step for each element that moves for the arrays that came up to these, and so
-- many besides
abbrev pub MovesUpTo : (most : ℕ) → (old : Scope) → (late : Arrays) → (before after : ℕ) → Type 0
MovesUpTo most old late before after =
    after + total_size old.arrays.world ≤ before + total_size late.world + most

-- whether a kernel can run on arrays of these shapes: it has so many outputs, and they resolve
abbrev pub can_run : Kernel → (wanted : ℕ) → List ArgShape → Bool
can_run k wanted shapes =
    (outputs_count k.signature == wanted) && is_ok (resolution k.signature shapes)

abbrev pub can_run_read : Result Kernel Fault → (wanted : ℕ) → List ArgShape → Bool
can_run_read (Ok k) wanted shapes = can_run k wanted shapes
can_run_read (Err e) wanted shapes = false

abbrev pub can_run_found : Option KernelTexts → (wanted : ℕ) → List ArgShape → Bool
can_run_found (Some texts) wanted shapes = can_run_read (kernel_of texts) wanted shapes
can_run_found None wanted shapes = false

-- whether the kernel of a name can
abbrev pub can_call : Names → (name : List ℕ) → (wanted : ℕ) → List ArgShape → Bool
can_call names f wanted shapes = can_run_found (found names.kernels f) wanted shapes

-- What is so of a scope between any two calls: it is whole, and its views are lazy.
pub record IsInOrder (s : Scope) : Type 0 where
  pub whole : IsWhole (machine s)
  pub lazy : IsLazy (engine_of s)

-- arrays that came, or were read, make none dearer that was there
abbrev pub GrowingMakesNoneDearer : Type 0
GrowingMakesNoneDearer =
    (old new : Scope) → IsInOrder old → IsInOrder new → Grows old new
    → CostsNoMore (engine_of old) (engine_of new)

-- to make a new root ready takes no step
abbrev pub NewRootsAreReady : Type 0
NewRootsAreReady =
    (old new : Scope) (m : Made) (v : ℕ) → IsInOrder new
    → new_root old.arrays m ≡ Ok (new.arrays, v) → ready_steps (engine_of new) v ≡ 0

-- to make a new view ready takes what its parent takes, and at most a step for each element that it
-- keeps
abbrev pub NewViewsCostTheirSize : Type 0
NewViewsCostTheirSize =
    (old new : Scope) (p v : ℕ) (t : Trans) → IsInOrder new → IsLive old.arrays.world p
    → new_view old.arrays p t (view_refusal old.arrays.world p t) ≡ Ok (new.arrays, v)
    → ready_steps (engine_of new) v
    ≤ ready_steps (engine_of new) p + kept_size new.arrays.world v

-- the elements of a new root that aren't 0 are those that came
abbrev pub NewRootsMoveTheirSize : Type 0
NewRootsMoveTheirSize =
    (old new : Scope) (m : Made) (v : ℕ) → new_root old.arrays m ≡ Ok (new.arrays, v)
    → total_size new.arrays.world ≡ count_moved m.elems + total_size old.arrays.world

-- those that a new view keeps are, and no element goes
abbrev pub NewViewsAddTheirSize : Type 0
NewViewsAddTheirSize =
    (old new : Scope) (p v : ℕ) (t : Trans)
    → new_view old.arrays p t (view_refusal old.arrays.world p t) ≡ Ok (new.arrays, v)
    → total_size new.arrays.world
    ≡ kept_size new.arrays.world v + total_size old.arrays.world

abbrev pub GrowingLosesNothing : Type 0
GrowingLosesNothing =
    (old new : Scope) → Grows old new
    → total_size old.arrays.world ≤ total_size new.arrays.world

-- where nothing but new arrays came, nothing is written back when arrays go, if all stay that were
-- there
abbrev pub NewArraysGoUnwritten : Type 0
NewArraysGoUnwritten =
    (old new : Scope) → IsInOrder old → IsInOrder new → Grows old new → (left : World)
    → ((v : ℕ) → IsLive old.arrays.world v → IsLive left v)
    → written_back (engine_of new) left new.arrays.world ≡ 0
