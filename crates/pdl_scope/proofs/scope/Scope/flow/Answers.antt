use Rattle.std.proofs.Common.{◌≡◌, ℕ, ◌+◌, ◌≤◌, false, arith, sym, ap, ◌∙◌}
use Rattle.pdl_flow.specs.Formula.{tree_of}
use Rattle.pdl_numbers.specs.Typed.{count_moved}
use Rattle.pdl_world.specs.World.{elements}
use Rattle.pdl_engine.specs.Reading.{read_steps}
use Rattle.pdl_machine.specs.Arrays.{array_in}
use Rattle.pdl_machine.specs.Names.{Named, is_full_for, names_limit}
use Rattle.pdl_machine.specs.Outcome.{new_root}
use Rattle.pdl_machine.specs.Step.{begun, bound}
use Rattle.pdl_scope.specs.Costs.{total_size}
use Rattle.pdl_scope.specs.Scope.{engine_of, machine, Scope as Seen}
use Rattle.pdl_scope.proofs.CostsBound.{root_loses_nothing, root_moves, size_after}
use Rattle.pdl_scope.proofs.scope.Scope.flow.Goals as goal

pub returns-then-is_full_for-clause-within : goal.returns-then-is_full_for-clause-within
returns-then-is_full_for-clause-within g c =
    let s = c.args.self.now in
    let less = root_loses_nothing (begun (machine s) s.arrays (tree_of c.args.formula)) c.args.name.now s.arrays (array_in s.arrays c.args.value) in
    omega (arith, less)

pub returns-clause-within : goal.returns-clause-within
returns-clause-within g c =
    let s = c.args.self.now in
    let v = c.args.value in
    let flowing = begun (machine s) s.arrays (tree_of c.args.formula) in
    let same = ap (λ (names : Named ℕ). is_full_for names_limit names c.args.name.now) (ap (λ (t : Seen). t.names.arrays) c.self.view_is) in
    let free : is_full_for names_limit s.names.arrays c.args.name.now ≡ false = sym same ∙ sym c.is_full_for.ensures ∙ c.if-is_full_for.false in
    let one : size_after (bound flowing c.args.name.now (new_root s.arrays (array_in s.arrays v))) s.arrays ≡ count_moved (elements s.arrays.world v) + total_size s.arrays.world = root_moves flowing c.args.name.now s.arrays (array_in s.arrays v) free in
    let counted : c.flow_as.new.steps ≤ c.args.steps.now + (read_steps (engine_of s) v + count_moved (elements s.arrays.world v)) = c.flow_as.ensures.counted in
    omega (arith, one, counted)
