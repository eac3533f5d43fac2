-- The dump of a session: the lines of a script that makes its kernels, its arrays and its names
-- again.
use Rattle.std.specs.Prelude.{ℕ, ◌+◌, ◌-◌, ◌*◌, ◌/◌, ◌==◌, if◌then◌else◌, Bool, false, ◌||◌, ℤ, pos, negsuc, List, [], ◌∷◌, ◌++◌, length, map, take, drop, flat_map, nat_lt, codes}
use Rattle.std.specs.List.{range_with_len, list_any}
use Rattle.pdl_elem.specs.declared.Ty.{Ty}
use Rattle.pdl_elem.specs.declared.Ty.TheVariants.{Byte, Longlong}
use Rattle.pdl_shape.specs.Shape.{size_of}
use Rattle.pdl_affine.specs.declared.Affine.{Affine}
use Rattle.pdl_affine.specs.declared.Affine.TheVariants as affine
use Rattle.pdl_choice.specs.declared.edges.Edge.{Edge}
use Rattle.pdl_choice.specs.declared.edges.Edge.TheVariants.{Refuse, Zero, Nearest, Periodic}
use Rattle.pdl_choice.specs.Where.{is_set}
use Rattle.pdl_world.specs.declared.Trans.{Trans}
use Rattle.pdl_world.specs.declared.Trans.TheVariants as trans
use Rattle.pdl_world.specs.World.{World, ArrayDef, root, view}
use Rattle.pdl_lex.specs.Limits.{statement_limit}
use Rattle.pdl_image.specs.declared.TheConstants.{LONGEST_DUMP, PIECE}
use Rattle.pdl_image.specs.Lines.{Call, sliced, numbered, chosen, ranged, Line, kernel_line, root_line, piece_line, least_line, view_line, same_line, undef_line, line_text, script_of}
use Rattle.pdl_image.specs.Stems.{stem_of, name_at, index_name, is_in}

-- ---- the elements of a root

-- the least longlong, which no list of numbers can hold
abbrev pub is_least : ℤ → Bool
is_least (pos n) = false
is_least (negsuc n) = n == 9223372036854775807

-- a number as it stands in a list: 0 for the least longlong
abbrev pub as_listed : ℤ → ℤ
as_listed n = if is_least n then pos 0 else n

-- the line that gives numbers to the elements from a position on, unless all of them are 0
abbrev pub given_lines : (name : List ℕ) (first : ℕ) → List ℤ → List Line
given_lines name first [] = []
given_lines name first (n ∷ ns) =
    if list_any is_set (n ∷ ns) then piece_line name first (first + length ns) n ns ∷ [] else []

-- a line for each least longlong among the elements from a position on
abbrev pub least_lines : (name : List ℕ) (first : ℕ) → List ℤ → List Line
least_lines name first [] = []
least_lines name first (n ∷ ns) =
    if is_least n then least_line name first ∷ least_lines name (first + 1) ns
    else least_lines name (first + 1) ns

-- the lines that fill the elements from a position on
abbrev pub filling_lines : (name : List ℕ) (first : ℕ) → List ℤ → List Line
filling_lines name first es = given_lines name first (map as_listed es) ++ least_lines name first es

-- the lines of the k-th piece of elements, counted from 0
abbrev pub piece_lines : (name : List ℕ) → List ℤ → (k : ℕ) → List Line
piece_lines name es k = filling_lines name (PIECE * k) (take PIECE (drop (PIECE * k) es))

-- how many pieces so many elements have
abbrev pub piece_count : ℕ → ℕ
piece_count n = (n + (PIECE - 1)) / PIECE

-- a root: zeros, and then its elements piece by piece
abbrev pub root_lines : (name : List ℕ) → Ty → (dims : List ℕ) → List ℤ → List Line
root_lines name ty dims es = root_line name ty dims
    ∷ flat_map (piece_lines name es) (range_with_len 0 (piece_count (length es)))

-- ---- views

abbrev pub affine_call : Affine → Call
affine_call (affine.Slice args) = sliced args
affine_call (affine.Xchg a b) = numbered (codes "xchg") (a ∷ b ∷ [])
affine_call (affine.Mv a b) = numbered (codes "mv") (a ∷ b ∷ [])
affine_call (affine.Reorder order) = numbered (codes "reorder") order
affine_call (affine.Dummy place size) = numbered (codes "dummy") (place ∷ size ∷ [])
affine_call (affine.Diagonal listed) = numbered (codes "diagonal") listed
affine_call affine.Squeeze = numbered (codes "squeeze") []
affine_call (affine.Clump count) = numbered (codes "clump") (count ∷ [])

-- the number of what stands beyond the edges
abbrev pub edge_number : Edge → ℕ
edge_number Refuse = 0
edge_number Zero = 1
edge_number Nearest = 2
edge_number Periodic = 3

-- the mask of so many elements that is 1 at the listed positions
abbrev pub mask_of : ℕ → (places : List ℕ) → List ℤ
mask_of n places = map (λ p. if is_in places p then pos 1 else pos 0) (range_with_len 0 n)

-- a view that chooses by an array, which is made before it and undone behind it
abbrev pub choosing_lines : (name parent index : List ℕ) → Call → List Line → List Line
choosing_lines name parent index call made =
    made ++ (view_line name parent call ∷ undef_line index ∷ [])

abbrev pub view_lines : (name parent index : List ℕ) → Trans → List Line
view_lines name parent index (trans.Affine t) = view_line name parent (affine_call t) ∷ []
view_lines name parent index (trans.Index dims ind) =
    choosing_lines name parent index (chosen (codes "index") index)
    (root_lines index Longlong dims ind)
view_lines name parent index (trans.Where dims places) =
    choosing_lines name parent index (chosen (codes "where") index)
    (root_lines index Byte dims (mask_of (size_of dims) places))
view_lines name parent index (trans.Range dims ind sizes edge) =
    choosing_lines name parent index (ranged index sizes (edge_number edge))
    (root_lines index Longlong dims ind)

-- ---- the whole

-- an array by its number
abbrev pub array_lines : (stem : List ℕ) (k : ℕ) → ArrayDef → List Line
array_lines stem k (root ty dims es) = root_lines (name_at stem k) ty dims es
array_lines stem k (view p t) =
    view_lines (name_at stem k) (name_at stem p) (index_name stem) t

-- all arrays, by rising number
abbrev pub world_lines : (stem : List ℕ) → World → List Line
world_lines stem [] = []
world_lines stem ((k, d) ∷ w) = world_lines stem w ++ array_lines stem k d

-- A kernel as it was defined: its name, its signature and its code.
pub record Definition : Type 0 where
  pub name : List ℕ
  pub signature : List ℕ
  pub code : List ℕ

abbrev pub definition_line : Definition → Line
definition_line d = kernel_line d.name d.signature d.code

-- a bound name
abbrev pub name_line : (stem : List ℕ) → List ℕ × ℕ → Line
name_line stem bound = same_line bound.0 (name_at stem bound.1)

-- the ends of the names of so many arrays
abbrev pub undef_lines : (stem : List ℕ) → ℕ → List Line
undef_lines stem count = map (λ k. undef_line (name_at stem k)) (range_with_len 0 count)

-- The lines of kernels, of arrays that are numbered from 0 on, and of names with the numbers of
-- their arrays.
abbrev pub dump : List Definition → World → List (List ℕ × ℕ) → List Line
dump kernels w names =
    let stem = stem_of (map (λ n. n.0) names) in
    map definition_line kernels
    ++ (world_lines stem w ++ (map (name_line stem) names ++ undef_lines stem (length w)))

-- behind a text there is no room for these lines: the whole would be too long, or one of them is
abbrev pub is_too_long : (text : List ℕ) → List Line → Bool
is_too_long text lines = nat_lt LONGEST_DUMP (length text + length (script_of lines))
    || list_any (λ l. nat_lt statement_limit (length (line_text l))) lines
