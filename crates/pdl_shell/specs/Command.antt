-- The words of the command line.
use Rattle.std.specs.Prelude.{ℕ, nat_eq, ◌+◌, ◌-◌, ◌*◌, nat_lt, nat_le, List, [], ◌∷◌, ◌++◌, length, drop, fold, map, Bool, true, false, ◌&&◌, Option, Some, None, String, string_bytes, codes, if◌then◌else◌}
use Rattle.std.specs.Char.{is_ascii_digit}
use Rattle.std.specs.List.{starts_with, list_all}
use Rattle.std.specs.Str.{bytes_eq}
use Rattle.pdl_machine.specs.Step.{newline}
use Rattle.pdl_shell.specs.Limits.{rounds_limit}
use Rattle.pdl_shell.specs.declared.words.Command.{Command}
use Rattle.pdl_shell.specs.declared.words.Command.TheVariants.{Run, Generate}

-- the word that asks to go on after faults
abbrev pub is_keep_going : (word : List ℕ) → Bool
is_keep_going word = bytes_eq word (codes "--keep-going")

-- the word before a number of rounds
abbrev pub is_generate : (word : List ℕ) → Bool
is_generate word = bytes_eq word (codes "--generate")

-- what a row of decimal digits is worth
abbrev pub value_of : (digits : List ℕ) → ℕ
value_of digits = fold (λ value digit. value * 10 + (digit - 48)) 0 digits

abbrev pub is_number_of_rounds : (word : List ℕ) → Bool
is_number_of_rounds word =
    nat_lt 0 (length word) && nat_le (length word) 4 && list_all is_ascii_digit word
    && nat_le (value_of word) rounds_limit

-- a number of rounds: one to four decimal digits, at most the limit of rounds
abbrev pub generating : (keep_going : Bool) → (word : List ℕ) → Option Command
generating keep word = if is_number_of_rounds word then Some (Generate keep (value_of word))
    else None

-- both in one word
abbrev pub generating_joined : (keep_going : Bool) → (word : List ℕ) → Option Command
generating_joined keep word =
    if starts_with nat_eq word (codes "--generate=") then generating keep (drop 11 word) else None

abbrev pub command_of_one : (word : List ℕ) → Option Command
command_of_one word = if is_keep_going word then Some (Run true) else generating_joined false word

abbrev pub command_of_two : (first second : List ℕ) → Option Command
command_of_two first second =
    if is_keep_going first then generating_joined true second
    else (if is_keep_going second then generating_joined true first
    else (if is_generate first then generating false second else None))

abbrev pub command_of_three : (first second third : List ℕ) → Option Command
command_of_three first second third =
    if is_keep_going first && is_generate second then generating true third
    else (if is_generate first && is_keep_going third then generating true second else None)

-- what the words ask for, or nothing where they are no spelling of the command
abbrev pub command_of : (words : List (List ℕ)) → Option Command
command_of [] = Some (Run false)
command_of (first ∷ []) = command_of_one first
command_of (first ∷ second ∷ []) = command_of_two first second
command_of (first ∷ second ∷ third ∷ []) = command_of_three first second third
command_of (first ∷ second ∷ third ∷ fourth ∷ words) = None

-- what these words of a command line ask for
abbrev pub asked_by : {A : Type 0} → (words : List (String A)) → Option Command
asked_by words = command_of (map string_bytes words)

-- whether the source is read: for a run of its script alone
abbrev pub reads_source : Option Command → Bool
reads_source None = false
reads_source (Some (Run keep)) = true
reads_source (Some (Generate keep rounds)) = false

-- what is written where they are none
abbrev pub usage_line : List ℕ
usage_line = codes "usage: pdl [--keep-going] [--generate N]" ++ newline
