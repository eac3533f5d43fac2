-- The formulas of expressions, as code finds them.
use Rattle.std.specs.Prelude.{◌≡◌, Result, Ok, Err}
use Rattle.pdl_flow.specs.declared.formula.Formula.{Formula}
use Rattle.pdl_flow.specs.Formula.{IsFormula, arrays_in, tree_of}
use Rattle.pdl_world.specs.World.{World}
use Rattle.pdl_machine.specs.Formulas.{Formed}
use Rattle.pdl_machine.specs.State.{AreLive}
use Rattle.pdl_scope.specs.declared.fault.ScopeFault.{ScopeFault}
use Rattle.pdl_scope.specs.Answers.{IsFault}

-- the answer is the wanted formula, no operator of it divides, and the arrays that it reads are
-- there
abbrev pub Forms : (wanted : Formed) → World → Result Formula ScopeFault → Type 0
Forms wanted w (Ok f) =
    (wanted ≡ Ok (tree_of f)) × IsFormula (tree_of f) × AreLive w (arrays_in (tree_of f))
Forms wanted w (Err e) = IsFault wanted e
