-- What is left of a run.
use Rattle.std.specs.Prelude.{ℕ, ◌+◌, List, [], ◌∷◌, ◌++◌, map, Bool, true, false}
use Rattle.pdl_lex.specs.Bytes.{newlines}
use Rattle.pdl_lex.specs.Pieces.{State, Mark, statement, script_too_long, to_come, settled_from}
use Rattle.pdl_machine.specs.Run.{Terms, Progress, after_marks}

-- what stands behind the bytes that are left of a script, as far as they are at hand: the
-- end of input, a byte past the limit of a script, or what isn't known yet
pub data Behind : Type 0 where
  end_of_input : Behind
  past_limit : Behind
  unknown : Behind

-- what a run finds behind all the bytes that it takes
abbrev pub behind : (is_cut : Bool) → Behind
behind false = end_of_input
behind true = past_limit

-- the statements that a cutter has still to answer, where these bytes are left
abbrev pub marks_left : Behind → State → (bytes : List ℕ) → List Mark
marks_left end_of_input cutter bytes = map statement (to_come cutter bytes)
marks_left past_limit cutter bytes =
    map statement (settled_from cutter bytes) ++ script_too_long (cutter.line + newlines bytes) ∷ []
marks_left unknown cutter bytes = map statement (settled_from cutter bytes)

-- what a run comes to that has come this far, where these bytes are left
abbrev pub outcome : Terms → Behind → (cutter : State) → (run : Progress) → (bytes : List ℕ)
    → Progress
outcome terms follows cutter run bytes = after_marks terms run (marks_left follows cutter bytes)
