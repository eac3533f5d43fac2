-- What a dump reads of a scope, part by part, and what it leaves of the image that it writes.
use Rattle.std.specs.Prelude.{◌≡◌, ℕ, ◌+◌, ◌==◌, ◌||◌, nat_lt, is_some, if◌then◌else◌, Bool, true, false, List, [], ◌∷◌, ◌++◌, length, map, Result, Ok, Err}
use Rattle.std.specs.List.{list_any}
use Rattle.pdl_elem.specs.declared.Ty.TheVariants.{Byte}
use Rattle.pdl_world.specs.World.{World, ArrayDef, root, view}
use Rattle.pdl_engine.specs.Reading.{read_steps}
use Rattle.pdl_engine.specs.State.{State as Engine}
use Rattle.pdl_image.specs.declared.ImageFault.{ImageFault}
use Rattle.pdl_image.specs.declared.ImageFault.TheVariants as image
use Rattle.pdl_image.specs.Image.{Image}
use Rattle.pdl_image.specs.Lines.{Line, same_line, script_of}
use Rattle.pdl_image.specs.Stems.{name_at}
use Rattle.pdl_image.specs.Dump.{array_lines, definition_line, is_too_long}
use Rattle.pdl_machine.specs.declared.fault.Fault.TheVariants.{DumpTooLong}
use Rattle.pdl_machine.specs.Dumps.{definition, names_wanted}
use Rattle.pdl_machine.specs.Names.{KernelTexts, Named, names_limit}
use Rattle.pdl_machine.specs.State.{State}
use Rattle.pdl_machine.specs.Tidy.{older, with_parent}
use Rattle.pdl_scope.specs.declared.fault.ScopeFault.{ScopeFault}
use Rattle.pdl_scope.specs.declared.fault.ScopeFault.TheVariants.{Script, NoMemory}

-- why lines weren't written
abbrev pub of_image : ImageFault → ScopeFault
of_image image.TooLong = Script DumpTooLong
of_image image.NoMemory = NoMemory

-- an image with more lines, which are those of so many arrays
abbrev pub with_more : Image → (count : ℕ) → List Line → Image
with_more m count lines =
    record m { arrays = m.arrays + count; text = m.text ++ script_of lines }

-- The lines of so many arrays were written behind the text, where they aren't too long. A fault of
-- the script is that they are; `NoMemory` says nothing.
abbrev pub WritesLines : (old new : Image) (count : ℕ) → List Line
    → Result (Unit {0}) ScopeFault → Type 0
WritesLines old new count lines (Ok x) =
    (new ≡ with_more old count lines) × (is_too_long old.text lines ≡ false)
WritesLines old new count lines (Err (Script e)) =
    (e ≡ DumpTooLong) × (is_too_long old.text lines ≡ true)
WritesLines old new count lines (Err NoMemory) = Unit {0}

-- the text of an image isn't too long already
abbrev pub HasRoom : Image → Type 0
HasRoom m = is_too_long m.text [] ≡ false

-- a line for each kernel, in the order of their first definitions
abbrev pub kernel_lines : Named KernelTexts → List Line
kernel_lines kernels = map (λ k. definition_line (definition k)) kernels

-- the place of an array's number among those from a place on, and 0 where it isn't there
abbrev pub place_from : List ℕ → (v at : ℕ) → ℕ
place_from [] v at = 0
place_from (k ∷ ks) v at = if k == v then at else place_from ks v (at + 1)

-- the lines of names, whose arrays are named by the places of their numbers
abbrev pub name_lines : (stem : List ℕ) → (numbers : List ℕ) → Named ℕ → List Line
name_lines stem numbers names =
    map (λ n. same_line n.0 (name_at stem (place_from numbers n.1 0))) names

-- the array that has so many older ones, with its number
abbrev pub array_at : World → ℕ → ℕ × ArrayDef
array_at [] i = (0, root Byte [] [])
array_at (a ∷ w) i = if length w == i then a else array_at w i

-- the oldest i arrays
abbrev pub oldest : ℕ → World → World
oldest i [] = []
oldest i (a ∷ w) = if nat_lt (length w) i then a ∷ w else oldest i w

-- the lines of the array that has i older ones, as the i-th
abbrev pub lines_at : (stem : List ℕ) → World → (i : ℕ) → List Line
lines_at stem w i = let a = array_at w i in array_lines stem i (with_parent (older w) a.1)

-- the most steps that the lines of an array take: those of a root, to read it; a view isn't read
abbrev pub dump_steps : Engine → ℕ × ArrayDef → ℕ
dump_steps e (k, root ty ds es) = read_steps e k
dump_steps e (k, view p t) = 0

-- whether a dump is refused before anything is read: a slot is attached, or there is a flow, or it
-- binds too many names
abbrev pub is_refused_unread : State → Bool
is_refused_unread s =
    list_any is_some s.watches || (nat_lt 0 (length s.flows) || nat_lt names_limit (names_wanted s))
