-- The script that the program makes for itself: two lines, and then a line for each round.
use Rattle.std.specs.Prelude.{ℕ, zero, suc, ◌+◌, ◌*◌, ◌/◌, ◌%◌, ◌==◌, List, [], ◌++◌, codes, decimal, if◌then◌else◌}
use Rattle.pdl_machine.specs.Step.{newline}

-- a round adds to a column of the array,
abbrev pub column_line : (column number : ℕ) → List ℕ
column_line column number = codes "$a->slice(\"" ++ decimal column ++ codes ",:\") += "
    ++ decimal number ++ codes ";" ++ newline

-- writes two rows of a view of the array by their indices,
abbrev pub index_line : (row number : ℕ) → List ℕ
index_line row number =
    codes "$v->xchg(0,1)->index(pdl [[" ++ decimal row ++ codes "],[0]]) .= " ++ decimal number
    ++ codes ";" ++ newline

-- writes a part of the array over another part of it that it overlaps,
abbrev pub overlap_line : (number : ℕ) → List ℕ
overlap_line number = codes "$v .= $a->slice(\"0:5,0:3\") + " ++ decimal number
    ++ codes ";" ++ newline

-- or prints sums
abbrev pub sums_line : List ℕ
sums_line = codes "p $v->sumover;" ++ newline

-- the line of a round, by the high bits of its seed
abbrev pub round_line : (bits : ℕ) → List ℕ
round_line bits =
    if bits % 4 == 0 then column_line (bits % 8) ((bits / 48) % 100)
    else (if bits % 4 == 1 then index_line (((bits / 8) % 6) % 4) ((bits / 48) % 100)
    else (if bits % 4 == 2 then overlap_line ((bits / 48) % 100)
    else sums_line))

-- the seed of a round, from the one before
abbrev pub next_seed : (seed : ℕ) → ℕ
next_seed seed = (seed * 1103515245 + 12345) % 2147483648

-- the lines of so many rounds, of which the first has this seed
abbrev pub round_lines : (seed rounds : ℕ) → List ℕ
round_lines seed zero = []
round_lines seed (suc rounds) = round_line (seed / 65536) ++ round_lines (next_seed seed) rounds

abbrev pub first_lines : List ℕ
first_lines = codes "$a = sequence(8,6);" ++ newline ++ codes "$v = $a->slice(\"1:6,1:4\");"
    ++ newline

-- the script of so many rounds
abbrev pub generated_script : (rounds : ℕ) → List ℕ
generated_script rounds = if rounds == 0 then [] else first_lines
    ++ round_lines (next_seed 1) rounds
