-- The statements of a script. The definitions cut the whole list of bytes at
-- the semicolons that end a statement, and know nothing of the way in which the bytes come.
use Rattle.std.specs.Prelude.{ℕ, ◌+◌, ◌==◌, nat_lt, Bool, true, false, ◌||◌, if◌then◌else◌, List, [], ◌∷◌, ◌++◌, length, take, map, Option, Some, None}
use Rattle.pdl_lex.specs.Bytes.{is_blank, is_hash, is_semicolon, newlines}
use Rattle.pdl_lex.specs.Limits.{statement_limit, script_limit}
use Rattle.pdl_lex.specs.declared.cutter.Mode.{Mode}
use Rattle.pdl_lex.specs.declared.cutter.Mode.TheVariants.{Code, Comment, Double, Single}
use Rattle.pdl_lex.specs.declared.Piece.{Piece}
use Rattle.pdl_lex.specs.declared.Piece.TheVariants.{Whole, TooLong}

-- where the byte after byte b stands: in code, in a comment, or in a string of either quote
abbrev pub mode_after : Mode → ℕ → Mode
mode_after Code b = if b == 35 then Comment else (if b == 34 then Double
    else (if b == 39 then Single else Code))
mode_after Comment b = if b == 10 then Code else Comment
mode_after Double b = if b == 34 then Code else Double
mode_after Single b = if b == 39 then Code else Single

-- whether byte b ends a statement: a semicolon outside strings and comments
abbrev pub is_end : Mode → ℕ → Bool
is_end Code b = is_semicolon b
is_end Comment b = false
is_end Double b = false
is_end Single b = false

-- whether byte b, before a statement, belongs to none: a blank, or a byte of a comment
abbrev pub is_between : Mode → ℕ → Bool
is_between Code b = is_blank b || is_hash b
is_between Comment b = true
is_between Double b = false
is_between Single b = false

-- a byte before the first chunk
abbrev pub onto_first : ℕ → List (List ℕ) → List (List ℕ)
onto_first b [] = []
onto_first b (chunk ∷ chunks) = (b ∷ chunk) ∷ chunks

-- the bytes cut at each semicolon that ends a statement; the last chunk is
-- what has no semicolon yet
abbrev pub chunks : Mode → List ℕ → List (List ℕ)
chunks now [] = [] ∷ []
chunks now (b ∷ bs) = if is_end now b then [] ∷ chunks Code bs
    else onto_first b (chunks (mode_after now b) bs)

-- the statement with a text, or that its text is too long
abbrev pub text_piece : ℕ → List ℕ → Piece
text_piece line text = if nat_lt statement_limit (length text) then TooLong line
    else Whole (record { text = text; line = line })

-- the statement of a chunk that begins on a line: its text begins at its first
-- byte that is no blank and not in a comment; without such a byte it is none
abbrev pub chunk_piece : ℕ → Mode → List ℕ → Option Piece
chunk_piece line now [] = None
chunk_piece line now (b ∷ bs) =
    if is_between now b then chunk_piece (line + newlines (b ∷ [])) (mode_after now b) bs
    else Some (text_piece line (b ∷ bs))

-- what is settled of a chunk's statement: all of it once the chunk has ended, before that
-- only that it is too long
abbrev pub settled_piece : Bool → Option Piece → List Piece
settled_piece ended None = []
settled_piece ended (Some (TooLong line)) = TooLong line ∷ []
settled_piece ended (Some (Whole cut)) = if ended then Whole cut ∷ [] else []

-- whether a chunk has ended, from the chunks after it and from whether the last one has
abbrev pub has_ended : Bool → List (List ℕ) → Bool
has_ended last [] = last
has_ended last (chunk ∷ chunks) = true

-- the statements of chunks, the first of which begins on a line
abbrev pub numbered : Bool → ℕ → List (List ℕ) → List Piece
numbered last line [] = []
numbered last line (chunk ∷ chunks) =
    settled_piece (has_ended last chunks) (chunk_piece line Code chunk)
    ++ numbered last (line + newlines chunk) chunks

-- the statements of a script with their lines, the last one ended by the end of input
abbrev pub pieces : List ℕ → List Piece
pieces bytes = numbered true 1 (chunks Code bytes)

-- those that are settled: the same whatever bytes follow
abbrev pub settled : List ℕ → List Piece
settled bytes = numbered false 1 (chunks Code bytes)

-- a statement of a script, or that the script is too long, on a line
pub data Mark : Type 0 where
  statement : Piece → Mark
  script_too_long : ℕ → Mark

-- the statements of a script with its limit: the ones that are settled before a byte past the
-- limit, and then that mark
abbrev pub script_marks : List ℕ → List Mark
script_marks bytes =
    if nat_lt script_limit (length bytes)
    then map statement (settled (take script_limit bytes))
    ++ script_too_long (1 + newlines (take script_limit bytes)) ∷ []
    else map statement (pieces bytes)

-- what a cutter knows: where the next byte stands, the text of the begun statement
-- (none where it is empty), whether that statement is too long and is being passed, the line on
-- which it began, the line of the next byte, how many bytes were taken, and
-- whether it is out of memory
pub record State : Type 0 where
  pub mode : Mode
  pub text : List ℕ
  pub over : Bool
  pub start : ℕ
  pub line : ℕ
  pub taken : ℕ
  pub failed : Bool

-- a cutter before the first byte
abbrev pub start_state : State
start_state = record {
  mode = Code;
  text = [];
  over = false;
  start = 1;
  line = 1;
  taken = 0;
  failed = false;
}

-- the statement that a cutter is in, when a chunk's bytes are put onto those that it has
abbrev pub begun_piece : State → List ℕ → Option Piece
begun_piece s chunk =
    if s.over then None
    else (if length s.text == 0 then chunk_piece s.line s.mode chunk
    else Some (text_piece s.start (s.text ++ chunk)))

abbrev pub from_chunks : Bool → State → List (List ℕ) → List Piece
from_chunks last s [] = []
from_chunks last s (chunk ∷ chunks) =
    settled_piece (has_ended last chunks) (begun_piece s chunk)
    ++ numbered last (s.line + newlines chunk) chunks

-- the pieces that a cutter has still to answer when these are all the bytes that come
abbrev pub to_come : State → List ℕ → List Piece
to_come s bytes = from_chunks true s (chunks s.mode bytes)

-- the pieces that it has to answer by the end of these bytes, whatever follows them
abbrev pub settled_from : State → List ℕ → List Piece
settled_from s bytes = from_chunks false s (chunks s.mode bytes)
