-- The printed text of arrays.
use Rattle.std.specs.Prelude.{◌≡◌, ℕ, zero, suc, ◌+◌, ◌-◌, ◌/◌, max, ℤ, pos, nat_lt, ◌==◌, if◌then◌else◌, List, [], ◌∷◌, ◌++◌, length, map, fold, flat_map, take, drop, replicate, get_or, codes, decimal}
use Rattle.std.specs.List.{join_with_byte}
use Rattle.std.specs.Fmt.{signed_decimal}
use Rattle.pdl_elem.specs.declared.Ty.{Ty}
use Rattle.pdl_elem.specs.Types.{name_of}
use Rattle.pdl_shape.specs.Shape.{size_of}
use Rattle.pdl_print.specs.declared.pieces.TheConstants.{MOST_PRINTED}

abbrev pub spaces : ℕ → List ℕ
spaces n = replicate n 32

-- a number with spaces before it, up to a width
abbrev pub aligned : ℕ → ℤ → List ℕ
aligned width n = spaces (width - length (signed_decimal n)) ++ signed_decimal n

-- the width of the widest number
abbrev pub widest : List ℤ → ℕ
widest es = fold (λ w n. max w (length (signed_decimal n))) 0 es

-- a row: an indent and the aligned numbers, joined by one space, in brackets
abbrev pub line : ℕ → ℕ → List ℤ → List ℕ
line indent width es = spaces indent ++ codes "[" ++ join_with_byte 32 (map (aligned width) es)
    ++ codes "]\n"

-- the list cut into so many pieces of n elements each
abbrev pub pieces : ℕ → ℕ → List ℤ → List (List ℤ)
pieces zero n es = []
pieces (suc count) n es = take n es ∷ pieces count n (drop n es)

-- so many rows of n elements each, aligned to their widest number
abbrev pub lines : (indent rows columns : ℕ) → (elems : List ℤ) → List ℕ
lines indent rows n es = flat_map (line indent (widest es)) (pieces rows n es)

-- what stands between an opening and a closing bracket, each on a line of its own
abbrev pub bracketed : ℕ → List ℕ → List ℕ
bracketed indent inner = spaces indent ++ codes "[\n" ++ inner ++ spaces indent ++ codes "]\n"

-- an array of so many dimensions around the first two, at an indent: a plane is its
-- rows, aligned to its widest number, and around it each dimension is a block of its members
abbrev pub block : (dims : List ℕ) → (around indent : ℕ) → (elems : List ℤ) → List ℕ
block ds zero indent es = bracketed indent (lines (indent + 1) (get_or ds 1 0)
    (length es / get_or ds 1 0) es)
block ds (suc m) indent es =
    bracketed indent (flat_map (block ds m (indent + 1))
    (pieces (get_or ds (m + 2) 0) (length es / get_or ds (m + 2) 0) es))

-- an array with elements, and not too many of them
abbrev pub elements_text : List ℕ → List ℤ → List ℕ
elements_text [] es = signed_decimal (get_or es 0 (pos 0)) ++ codes "\n"
elements_text (d ∷ []) es = line 0 0 es
elements_text (d ∷ e ∷ ds) es = codes "\n" ++ block (d ∷ e ∷ ds) (length ds) 0 es

-- sizes in decimal with a byte between them
abbrev pub decimals_joined : ℕ → List ℕ → List ℕ
decimals_joined byte ds = join_with_byte byte (map decimal ds)

-- an array of more elements isn't printed
abbrev pub printed_limit : ℕ
printed_limit = MOST_PRINTED

-- so many elements are printed at most
abbrev pub LimitIs : Type 0
LimitIs = printed_limit ≡ 10000

-- an array's text, with its last newline
abbrev pub array_text : List ℕ → List ℤ → List ℕ
array_text ds es =
    if size_of ds == 0 then codes "Empty[" ++ decimals_joined 120 ds ++ codes "]\n"
    else if nat_lt printed_limit (size_of ds) then codes "TOO LONG TO PRINT\n" else elements_text ds es

-- what `info` tells of an array
abbrev pub info : Ty → List ℕ → List ℕ
info ty ds = codes "PDL: " ++ name_of ty ++ codes " D [" ++ decimals_joined 44 ds ++ codes "]"
