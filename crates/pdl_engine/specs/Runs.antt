-- Whole scripts: what is so after one call is so after all of them, one behind another.
use Rattle.std.specs.Prelude.{◌≡◌, ◌+◌, ◌≤◌, ℕ, List, [], ◌∷◌}
use Rattle.pdl_engine.specs.Resting.{IsResting}
use Rattle.pdl_engine.specs.State.{State}
use Rattle.pdl_engine.specs.Worked.{IsAs, IsWorked, Line, after, shows, state_then, steps_of}

-- the state that a script has after its lines
abbrev pub state_at : State → List Line → State
state_at s [] = s
state_at s (after c lent waits steps ∷ lines) = state_at (state_then s c) lines
state_at s (shows v es ∷ lines) = state_at s lines

-- the most steps that its calls take together
abbrev pub steps_at : State → List Line → ℕ
steps_at s [] = 0
steps_at s (after c lent waits steps ∷ lines) = steps_of s c + steps_at (state_then s c) lines
steps_at s (shows v es ∷ lines) = steps_at s lines

-- an engine made the calls of the lines, each from the state in which the one before left it
abbrev pub Makes : (old : State) → List Line → (new : State) → (before steps : ℕ) → Type 0
Makes old [] new before steps = (new ≡ old) × (steps ≡ before)
Makes old (after c lent waits n ∷ lines) new before steps =
    (mid : State) × (so_far : ℕ) × IsResting mid × IsWorked old c mid before so_far
    × Makes mid lines new so_far steps
Makes old (shows v es ∷ lines) new before steps = Makes old lines new before steps

-- an engine that is as a script has it, and makes the script's calls, is as the script has it after
-- them, and took no more steps
abbrev pub ScriptsAreFollowed : Type 0
ScriptsAreFollowed =
    (lines : List Line) (script old new : State) (before steps : ℕ) → IsResting old
    → IsAs script old → Makes old lines new before steps
    → IsAs (state_at script lines) new × (steps ≤ before + steps_at script lines)
