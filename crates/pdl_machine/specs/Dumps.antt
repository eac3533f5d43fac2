-- What `dump` prints: a script that makes a state's kernels, its arrays and its names again.
use Rattle.std.specs.Prelude.{ℕ, ◌+◌, nat_lt, List, [], map, length, is_some, if◌then◌else◌, Result, Ok, Err}
use Rattle.std.specs.List.{list_any}
use Rattle.pdl_image.specs.Lines.{Line, script_of}
use Rattle.pdl_image.specs.Dump.{Definition, dump, is_too_long}
use Rattle.pdl_world.specs.World.{World}
use Rattle.pdl_machine.specs.declared.fault.Fault.{Fault}
use Rattle.pdl_machine.specs.declared.fault.Fault.TheVariants.{DumpFlow, DumpTooLong, StillWatched, TooManyNames}
use Rattle.pdl_machine.specs.Names.{KernelTexts, Named, names_limit}
use Rattle.pdl_machine.specs.State.{State}
use Rattle.pdl_machine.specs.Tidy.{older, renumber, renumbered}

-- a kernel as it was defined
abbrev pub definition : List ℕ × KernelTexts → Definition
definition k = record { name = k.0; signature = k.1.signature; code = k.1.code }

-- the lines that make kernels, the arrays of a world and their names again
abbrev pub lines_of : Named KernelTexts → World → (names : Named ℕ) → List Line
lines_of kernels w names =
    dump (map definition kernels) (renumber w) (renumbered (older w) names)

-- the lines of a state's dump, in which its arrays are numbered 0, 1, 2 and so on in their order
abbrev pub dump_lines : State → List Line
dump_lines s = lines_of s.names.kernels s.arrays.world s.names.arrays

-- how many names are bound at once where these lines run, at most: one of each array, the names,
-- and one of the array that a view chooses by
abbrev pub names_wanted : State → ℕ
names_wanted s = length s.arrays.world + length s.names.arrays + 1

-- the text of lines, if it isn't too long
abbrev pub text_within : List Line → Result (List ℕ) Fault
text_within lines = if is_too_long [] lines then Err DumpTooLong else Ok (script_of lines)

-- the text of a state's dump, which is refused while a slot is attached, then while there is a
-- flow, then where its lines bind too many names, and then where it is too long
abbrev pub dumped : State → Result (List ℕ) Fault
dumped s =
    if list_any is_some s.watches then Err StillWatched
    else if nat_lt 0 (length s.flows) then Err DumpFlow
    else if nat_lt names_limit (names_wanted s) then Err TooManyNames
    else text_within (dump_lines s)
