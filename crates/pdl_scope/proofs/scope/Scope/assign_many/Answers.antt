use Rattle.std.proofs.Common.{◌≡◌, ℕ, ◌+◌, ◌≤◌, refl, ap, subst, sym, arith}
use Rattle.pdl_shape.specs.Shape.{size_of}
use Rattle.pdl_world.specs.World.{dims_in}
use Rattle.pdl_engine.specs.Reading.{read_steps}
use Rattle.pdl_machine.specs.Arrays.{Arrays}
use Rattle.pdl_scope.specs.Scope.{Scope as Seen, engine_of}
use Rattle.pdl_scope.proofs.scope.Scope.assign_many.Goals as goal
use Rattle.pdl_scope.proofs.scope.Scope.assign_many.Goals.{else-not-readable-via-then-not-readable+in_ok-goes_through+else-branch, else-not-readable-via-else-not-readable}

-- the steps that it takes to read both arrays
abbrev both : Seen → (v u : ℕ) → ℕ
both s v u = read_steps (engine_of s) v + read_steps (engine_of s) u

-- what was read before is read for nothing
within : (s mid : Seen) (v u before now after : ℕ) → mid.arrays ≡ s.arrays → now + both mid v u ≤ before + both s v u → after ≤ now + both mid v u + size_of (dims_in mid.arrays.world v)
    → after ≤ before + both s v u + size_of (dims_in s.arrays.world v)
within s mid v u before now after same spent counted =
    let size : size_of (dims_in mid.arrays.world v) ≡ size_of (dims_in s.arrays.world v) = ap (λ (a : Arrays). size_of (dims_in a.world v)) same in
    omega (arith, spent, counted, size)

pub returns-clause-counted : goal.returns-clause-counted
returns-clause-counted g c =
    let s = c.args.self.now in
    let v = c.args.target in
    let u = c.args.value in
    let before = c.args.steps.now in
    let mid = c.else-not-readable.self in
    let now = c.else-not-readable.steps in
    let spent : Seen → ℕ → Type 0 = λ x n. (x.arrays ≡ s.arrays) × (n + both x v u ≤ before + both s v u) in
    let by : spent mid now → c.assign_lent.new.steps ≤ before + both s v u + size_of (dims_in s.arrays.world v) =
    λ h. within s mid v u before now c.assign_lent.new.steps h.0 h.1 c.assign_lent.ensures.counted in
    elim c.else-not-readable.branch [
      | else-not-readable-via-then-not-readable+in_ok-goes_through+else-branch w ↦ by (subst (λ (x : Seen). spent x now) (sym w.self-is) (subst (spent w.goes_through.new.self) (sym w.steps-is)
          (w.in_ok-goes_through.ensures.same.arrays, w.in_ok-goes_through.ensures.spent)))
      | else-not-readable-via-else-not-readable w ↦ by (subst (λ (x : Seen). spent x now) (sym w.self-is) (subst (spent s) (sym w.steps-is) (refl, omega arith)))
    ]
