-- What a cutter does at one byte. Of the public calls `end` alone speaks of this,
-- by `begun` and `ended`.
use Rattle.std.specs.Prelude.{ℕ, ◌+◌, ◌==◌, Bool, true, false, not, ◌||◌, List, [], ◌∷◌, ◌++◌, length, Option, Some, None, if◌then◌else◌, ◌≡◌, ◌<◌, ◌≤◌, take, slice_index}
use Rattle.pdl_lex.specs.Bytes.{newlines}
use Rattle.pdl_lex.specs.Pieces.{State, mode_after, is_end, is_between}
use Rattle.pdl_lex.specs.Limits.{statement_limit}
use Rattle.pdl_lex.specs.declared.cutter.Mode.{Mode}
use Rattle.pdl_lex.specs.declared.cutter.Mode.TheVariants.{Code, Comment, Double, Single}
use Rattle.pdl_lex.specs.declared.Piece.{Piece}
use Rattle.pdl_lex.specs.declared.Piece.TheVariants.{Whole, TooLong}

-- no statement has begun
abbrev pub is_idle : State → Bool
is_idle s = length s.text == 0

-- the begun statement, where there is one that isn't being passed
abbrev pub begun : State → Option Piece
begun s = if s.over then None else (if is_idle s then None
    else Some (Whole (record { text = s.text; line = s.start })))

-- whether the begun statement has as many bytes as a text may have
abbrev pub is_full : State → Bool
is_full s = length s.text == statement_limit

-- the piece that byte b completes
abbrev pub cut_at : State → ℕ → Option Piece
cut_at s b =
    if is_end s.mode b then begun s
    else (if s.over then None
    else (if is_full s then Some (TooLong s.start)
    else None))

-- the cutter after a semicolon that ends a statement, or after the end of input
abbrev pub ended : State → State
ended s = record s { mode = Code; text = []; over = false }

-- the cutter after byte b, which is no end, but for the statement
abbrev pub passed : State → ℕ → State
passed s b = record s
    { mode = mode_after s.mode b; line = s.line + newlines (b ∷ []); taken = s.taken + 1 }

-- byte b, which stands on a line, is put onto the statement, or begins it
abbrev pub grown_on : State → ℕ → ℕ → State
grown_on s b line =
    let start = if is_idle s then line else s.start in
    if is_full s then record s { text = []; over = true; start = start }
    else record s { text = s.text ++ b ∷ []; start = start }

-- the cutter after byte b
abbrev pub next : State → ℕ → State
next s b =
    if is_end s.mode b then record (ended s) { taken = s.taken + 1 }
    else (if s.over then passed s b
    else (if is_idle s then (if is_between s.mode b then passed s b
    else grown_on (passed s b) b s.line)
    else grown_on (passed s b) b s.line))

-- the cutter goes from s to t over bytes that complete no piece
abbrev pub IsQuiet : State → List ℕ → State → Type 0
IsQuiet s [] t = s ≡ t
IsQuiet s (b ∷ bs) t = (cut_at s b ≡ None) × IsQuiet (next s b) bs t

-- the cutter goes from s to t over as many bytes as were used, of which the last alone
-- completes a piece, or none does
abbrev pub Reaches : (before : State) → (bytes : List ℕ) → (used : ℕ) → Option Piece
    → (after : State) → Type 0
Reaches s bs used None t = (used ≡ length bs) × IsQuiet s bs t
Reaches s bs used (Some piece) t =
    (i : ℕ) × (u : State) × (i < length bs) × (used ≡ i + 1) × IsQuiet s (take i bs) u ×
    (cut_at u (slice_index bs i) ≡ Some piece) × (t ≡ next u (slice_index bs i))

-- the begun text is within the limit
abbrev pub Fits : State → Type 0
Fits s = length s.text ≤ statement_limit

-- whether a byte of a statement's text leaves all but the text as it is: it ends no statement,
-- begins and ends no string or comment, and is no newline
abbrev pub is_plain : Mode → ℕ → Bool
is_plain Code b = not (b == 59 || b == 35 || b == 34 || b == 39 || b == 10)
is_plain Comment b = not (b == 10)
is_plain Double b = not (b == 34 || b == 10)
is_plain Single b = not (b == 39 || b == 10)

-- plain bytes are put onto the begun text
abbrev pub extended : State → List ℕ → State
extended s bs = record s { text = s.text ++ bs; taken = s.taken + length bs }
