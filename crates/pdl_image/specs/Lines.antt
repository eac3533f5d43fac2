-- The lines of a dump, one form of statement each, and their texts.
use Rattle.std.specs.Prelude.{ℕ, ℤ, ◌==◌, if◌then◌else◌, List, [], ◌∷◌, ◌++◌, flat_map, codes, decimal}
use Rattle.std.specs.Fmt.{signed_decimal}
use Rattle.std.specs.List.{concat, list_any}
use Rattle.pdl_elem.specs.declared.Ty.{Ty}
use Rattle.pdl_elem.specs.Types.{type_word}
use Rattle.pdl_slices.specs.declared.SliceArg.{SliceArg}
use Rattle.pdl_slices.specs.Written.{slice_text}

-- What a view's line calls on its parent: a slice by its text, a view word with numbers, `index` or
-- `where` with the array that chooses, or a range with its index, its sizes and what stands beyond
-- the edges.
pub data Call : Type 0 where
  sliced : (args : List SliceArg) → Call
  numbered : (word : List ℕ) (numbers : List ℤ) → Call
  chosen : (word index : List ℕ) → Call
  ranged : (index : List ℕ) (sizes : List ℤ) (edge : ℕ) → Call

-- A line: a kernel's definition; an array of zeros; elements from a first to a last position, at
-- least one; the least longlong at a position; a view; a second name of an array; the end of a name.
pub data Line : Type 0 where
  kernel_line : (name signature code : List ℕ) → Line
  root_line : (name : List ℕ) (ty : Ty) (dims : List ℕ) → Line
  piece_line : (name : List ℕ) (first last : ℕ) (number : ℤ) (more : List ℤ) → Line
  least_line : (name : List ℕ) (position : ℕ) → Line
  view_line : (name parent : List ℕ) (call : Call) → Line
  same_line : (name other : List ℕ) → Line
  undef_line : (name : List ℕ) → Line

-- numbers, each behind a comma
abbrev pub more_text : List ℤ → List ℕ
more_text ns = flat_map (λ n. 44 ∷ signed_decimal n) ns

-- numbers with commas between them
abbrev pub numbers_text : List ℤ → List ℕ
numbers_text [] = []
numbers_text (n ∷ ns) = signed_decimal n ++ more_text ns

-- sizes, each behind a comma
abbrev pub sizes_text : List ℕ → List ℕ
sizes_text ds = flat_map (λ d. 44 ∷ decimal d) ds

-- the quote in which a text stands: `'` where it has a `"`
abbrev pub quote_of : List ℕ → ℕ
quote_of text = if list_any (λ b. b == 34) text then 39 else 34

-- a text between two of its quotes
abbrev pub quoted : List ℕ → List ℕ
quoted text = quote_of text ∷ (text ++ quote_of text ∷ [])

abbrev pub call_text : Call → List ℕ
call_text (sliced args) = concat (codes "slice(\"" ∷ slice_text args ∷ codes "\")" ∷ [])
call_text (numbered word ns) = concat (word ∷ codes "(" ∷ numbers_text ns ∷ codes ")" ∷ [])
call_text (chosen word index) = concat (word ∷ codes "(" ∷ index ∷ codes ")" ∷ [])
call_text (ranged index sizes edge) = concat
    (codes "range(" ∷ index ∷ codes ",pdl [" ∷ numbers_text sizes ∷ codes "]," ∷ decimal edge
    ∷ codes ")" ∷ [])

-- the text of a line, without its end
abbrev pub line_text : Line → List ℕ
line_text (kernel_line name signature code) = concat
    (codes "pp_def(" ∷ quoted name ∷ codes "," ∷ quoted signature ∷ codes "," ∷ quoted code
    ∷ codes ")" ∷ [])
line_text (root_line name ty dims) = concat
    (name ∷ codes " = zeroes(" ∷ type_word ty ∷ sizes_text dims ∷ codes ")" ∷ [])
line_text (piece_line name first last n ns) = concat
    (name ∷ codes "->flat->slice(\"" ∷ decimal first ∷ codes ":" ∷ decimal last
    ∷ codes "\") .= pdl [" ∷ numbers_text (n ∷ ns) ∷ codes "]" ∷ [])
line_text (least_line name position) = concat
    (name ∷ codes "->flat->slice(\"" ∷ decimal position ∷ codes "\") .= longlong(1) << 63" ∷ [])
line_text (view_line name parent call) =
    name ++ (codes " = " ++ (parent ++ (codes "->" ++ call_text call)))
line_text (same_line name other) = name ++ (codes " = " ++ other)
line_text (undef_line name) = codes "undef " ++ name

-- a line with its end
abbrev pub whole_line : Line → List ℕ
whole_line line = line_text line ++ codes ";\n"

-- lines one after another, each with its end
abbrev pub script_of : List Line → List ℕ
script_of lines = flat_map whole_line lines
