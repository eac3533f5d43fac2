-- What a writer of a dump is seen as.
use Rattle.std.specs.Prelude.{ℕ, ◌+◌, List, ◌++◌}
use Rattle.pdl_image.specs.Lines.{Line, script_of}

-- The stem of its names, how many arrays were written, and the text so far.
pub record Image : Type 0 where
  pub stem : List ℕ
  pub arrays : ℕ
  pub text : List ℕ

-- with more lines
abbrev pub with_lines : Image → List Line → Image
with_lines m lines = record m { text = m.text ++ script_of lines }

-- with the lines of one array more
abbrev pub with_array : Image → List Line → Image
with_array m lines = record m { arrays = m.arrays + 1; text = m.text ++ script_of lines }
