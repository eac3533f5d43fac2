-- No line has a nice part, so each is read as it stands.
use Rattle.std.proofs.Common.{◌≡◌, ℕ, ◌+◌, ◌-◌, ◌≤◌, false, List, [], ◌∷◌, ◌++◌, length, ℤ, pos, negsuc, refl, ◌∙◌, ap, ap₂, subst, arith, take, drop, Ok}
use Rattle.std.proofs.Math.Seq.{take-append_seam}
use Rattle.pdl_lemmas.specs.Lists.{drop_behind}
use Rattle.pdl_lex.specs.declared.Token.{Token}
use Rattle.pdl_lex.specs.Limits.{statement_limit}
use Rattle.pdl_lex.specs.Tokens.{toks}
use Rattle.pdl_lex.specs.Written.{Written, text_of, placed, between, written, WrittenAreRead, ApartAreLongest, QuotedAreStrings}
use Rattle.pdl_lexemes.specs.Laws.{TypeWordsAreWords}
use Rattle.pdl_nice.specs.declared.looks.Before.TheVariants.{Other as another}
use Rattle.pdl_nice.specs.Looks.{look}
use Rattle.pdl_nice.specs.Nice.{has_nice}
use Rattle.pdl_image.specs.Lines.{sliced, numbered, chosen, ranged, Line, kernel_line, root_line, piece_line, least_line, view_line, same_line, undef_line, line_text}
use Rattle.pdl_machine.specs.Parsed.{as_read}
use Rattle.pdl_machine.specs.Reads.{reads, reads_tokens, holds_nice, PlainTextsStay}
use Rattle.pdl_reread.specs.Scripts.{AreLines}
use Rattle.pdl_reread.specs.Trees.{IsLine, ReadsAs, LinesAreRead, line_tree}
use Rattle.pdl_reread.specs.Rereading.{AreReread}
use Rattle.pdl_reread.proofs.PartItems.{sizes_items, number_items, more_items, numbers_items, close, close_square, edge_items, line_items, line_is, line_apart}
use Rattle.pdl_reread.proofs.PartPlaces.{apart_are_read}

-- ---- tokens that are written are found again as they are

found_between : (text : List ℕ) (at : ℕ) (bytes rest : List ℕ) (to : ℕ) → to ≡ at + length bytes → drop at text ≡ bytes ++ rest → between text at to ≡ bytes
found_between text at bytes rest to is here =
    ap₂ take (long at (length bytes) to is) here ∙ take-append_seam bytes rest
  where
    long : (a n b : ℕ) → b ≡ a + n → b - a ≡ n
    long a n b e = omega (arith, e)

written_again : (text : List ℕ) (at : ℕ) (ws : List Written) → drop at text ≡ text_of ws [] → written text at (placed at ws) ≡ ws
written_again text at [] here = refl
written_again text at (w ∷ ws) here =
    let from : ℕ = at + length w.gap in
    let behind_gap : drop from text ≡ w.bytes ++ text_of ws [] = drop_behind text at w.gap (w.bytes ++ text_of ws []) here in
    let gap_is : between text at from ≡ w.gap = found_between text at w.gap (w.bytes ++ text_of ws []) from refl here in
    let bytes_are : between text from (from + length w.bytes) ≡ w.bytes = found_between text from w.bytes (text_of ws []) (from + length w.bytes) refl behind_gap in
    let rest : written text (from + length w.bytes) (placed (from + length w.bytes) ws) ≡ ws =
    written_again text (from + length w.bytes) ws (drop_behind text from w.bytes (text_of ws []) behind_gap) in
    all_same gap_is bytes_are rest
  where
    all_same : {g h x y : List ℕ} {us vs : List Written} → g ≡ h → x ≡ y → us ≡ vs
        → record { gap = g; kind = w.kind; bytes = x } ∷ us ≡ record { gap = h; kind = w.kind; bytes = y } ∷ vs
    all_same p q r = cc

-- ---- no bracket stands behind a name or an arrow

number_plain : (n : ℤ) (rest : List Written) → has_nice another rest ≡ false → has_nice another (number_items n rest) ≡ false
unfolding has_nice look
number_plain (pos n) rest plain = plain
number_plain (negsuc n) rest plain = plain

more_plain : (ns : List ℤ) (rest : List Written) → has_nice another rest ≡ false → has_nice another (more_items ns rest) ≡ false
unfolding has_nice look
more_plain [] rest plain = plain
more_plain (n ∷ ns) rest plain = number_plain n (more_items ns rest) (more_plain ns rest plain)

numbers_plain : (ns : List ℤ) (rest : List Written) → has_nice another rest ≡ false → has_nice another (numbers_items ns rest) ≡ false
numbers_plain [] rest plain = plain
numbers_plain (n ∷ ns) rest plain = number_plain n (more_items ns rest) (more_plain ns rest plain)

sizes_plain : (ds : List ℕ) → has_nice another (sizes_items ds close) ≡ false
unfolding has_nice look
sizes_plain [] = refl
sizes_plain (d ∷ ds) = sizes_plain ds

close_plain : has_nice another close ≡ false
unfolding has_nice look
close_plain = refl

square_plain : has_nice another close_square ≡ false
unfolding has_nice look
square_plain = refl

edge_plain : (edge : ℕ) → has_nice another (edge_items edge) ≡ false
unfolding has_nice look
edge_plain edge = refl

line_plain : (l : Line) → has_nice another (line_items l) ≡ false
unfolding has_nice look
line_plain (kernel_line name signature code) = refl
line_plain (root_line x ty ds) = sizes_plain ds
line_plain (piece_line x first last n ns) = number_plain n (more_items ns close_square) (more_plain ns close_square square_plain)
line_plain (least_line x p) = refl
line_plain (view_line x y (sliced args)) = refl
line_plain (view_line x y (numbered word ns)) = numbers_plain ns close close_plain
line_plain (view_line x y (chosen word index)) = refl
line_plain (view_line x y (ranged index sizes edge)) = numbers_plain sizes (edge_items edge) (edge_plain edge)
line_plain (same_line x y) = refl
line_plain (undef_line x) = refl

-- ---- how lines are read

pub record Laws : Type 0 where
  pub read : WrittenAreRead
  pub longest : ApartAreLongest
  pub strings : QuotedAreStrings
  pub types : TypeWordsAreWords
  pub lines : LinesAreRead
  pub stays : PlainTextsStay

-- a text with these tokens, none of them nice
plain_text : (text : List ℕ) (tokens : List Token) → toks text ≡ Ok tokens → has_nice another (written text 0 tokens) ≡ false → holds_nice text (toks text) ≡ false
plain_text text tokens is plain = ap (holds_nice text) is ∙ plain

no_nice : Laws → (l : Line) → IsLine l → holds_nice (line_text l) (toks (line_text l)) ≡ false
no_nice laws l is =
    let items : List Written = line_items l in
    let text : List ℕ = text_of items [] in
    let same : has_nice another (written text 0 (placed 0 items)) ≡ false = ap (has_nice another) (written_again text 0 items refl) ∙ line_plain l in
    let P : List ℕ → Type 0 = λ t. holds_nice t (toks t) ≡ false in
    subst P (line_is l) (plain_text text (placed 0 items) (apart_are_read laws.longest laws.read items (line_apart laws.strings laws.types l is)) same)

pub line_is_read : Laws → (l : Line) → IsLine l → length (line_text l) ≤ statement_limit → reads (line_text l) ≡ Ok (line_tree l)
line_is_read laws l is short =
    let r : ReadsAs (line_text l) (line_tree l) = laws.lines l is in
    laws.stays (line_text l) (no_nice laws l is) short
    ∙ ap (reads_tokens (line_text l)) r.lexed ∙ ap as_read r.is

pub lines_reread : Laws → (lines : List Line) → AreLines lines → AreReread lines
lines_reread laws [] are = tt
lines_reread laws (l ∷ lines) are = (line_is_read laws l are.0 are.1, lines_reread laws lines are.2)
