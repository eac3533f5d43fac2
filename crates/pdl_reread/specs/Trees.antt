-- The statement that each line of a dump is.
use Rattle.std.specs.Prelude.{◌≡◌, ℕ, ℤ, pos, negsuc, ◌≤◌, suc, nat_abs, true, false, List, [], ◌∷◌, ◌++◌, length, Some, Ok, codes, decimal}
use Rattle.pdl_elem.specs.declared.BinaryOp.TheVariants.{Shl}
use Rattle.pdl_elem.specs.declared.UnaryOp.TheVariants.{Neg}
use Rattle.pdl_lex.specs.declared.Token.{Token}
use Rattle.pdl_lex.specs.declared.TokenKind.TheVariants.{Word}
use Rattle.pdl_lex.specs.Tokens.{kind_of, toks}
use Rattle.pdl_lexemes.specs.declared.AssignOp.TheVariants.{Set}
use Rattle.pdl_lexemes.specs.declared.Lexeme.TheVariants.{Word as a_word}
use Rattle.pdl_lexemes.specs.declared.Span.{Span}
use Rattle.pdl_lexemes.specs.declared.WordKind.TheVariants.{View}
use Rattle.pdl_lexemes.specs.Lexing.{word_of}
use Rattle.pdl_lexemes.specs.Limits.{number_limit}
use Rattle.pdl_lexemes.specs.Lists.{type_of}
use Rattle.pdl_lexemes.specs.Texts.{IsName, IsQuotable, lacks}
use Rattle.pdl_shape.specs.Shape.{extent_limit}
use Rattle.pdl_slices.specs.Written.{slice_text}
use Rattle.pdl_syntax.specs.Tree.{Tree, Args, number, named, literal, unary, binary, call, none, value, text, of_type}
use Rattle.pdl_syntax.specs.StatementTree.{StatementTree, bind, assign, pp_def, undef}
use Rattle.pdl_syntax.specs.Parsed.{parsed}
use Rattle.pdl_image.specs.Lines.{Call, sliced, numbered, chosen, ranged, Line, kernel_line, root_line, piece_line, least_line, view_line, same_line, undef_line, line_text}

-- sizes behind other arguments
abbrev pub with_sizes : Args → List ℕ → Args
with_sizes front [] = front
with_sizes front (d ∷ ds) = with_sizes (value front (number (pos d))) ds

-- a number outside of a list: a minus is an operator there
abbrev pub number_tree : ℤ → Tree
number_tree (pos n) = number (pos n)
number_tree (negsuc n) = unary Neg (number (pos (suc n)))

-- numbers behind other arguments
abbrev pub with_numbers : Args → List ℤ → Args
with_numbers front [] = front
with_numbers front (n ∷ ns) = with_numbers (value front (number_tree n)) ns

-- a list of numbers
abbrev pub list_tree : List ℤ → Tree
list_tree ns = literal (type_of ns) (length ns ∷ []) ns

-- from a first to a last position
abbrev pub range_text : ℕ → ℕ → List ℕ
range_text first last = decimal first ++ 58 ∷ decimal last

abbrev pub call_tree : (parent : List ℕ) → Call → Tree
call_tree y (sliced args) = call (codes "slice") (text (value none (named y)) (slice_text args))
call_tree y (numbered word ns) = call word (with_numbers (value none (named y)) ns)
call_tree y (chosen word index) = call word (value (value none (named y)) (named index))
call_tree y (ranged index sizes edge) = call (codes "range")
    (value (value (value (value none (named y)) (named index)) (list_tree sizes)) (number (pos edge)))

abbrev pub line_tree : Line → StatementTree
line_tree (kernel_line name signature code) = pp_def name signature code
line_tree (root_line x ty ds) = bind x (call (codes "zeroes") (with_sizes (of_type none ty) ds)) false
line_tree (piece_line x first last n ns) =
    assign x ((codes "flat", none) ∷ (codes "slice", text none (range_text first last)) ∷ []) Set
    (list_tree (n ∷ ns))
line_tree (least_line x p) =
    assign x ((codes "flat", none) ∷ (codes "slice", text none (decimal p)) ∷ []) Set
    (binary Shl (call (codes "longlong") (value none (number (pos 1)))) (number (pos 63)))
line_tree (view_line x y c) = bind x (call_tree y c) false
line_tree (same_line x y) = bind x (named y) false
line_tree (undef_line x) = undef x

-- a number that a literal can have
abbrev pub Fits : ℤ → Type 0
Fits n = nat_abs n ≤ number_limit

abbrev pub AllSmall : List ℕ → Type 0
AllSmall [] = Unit {0}
AllSmall (d ∷ ds) = (d ≤ extent_limit) × AllSmall ds

abbrev pub AllFit : List ℤ → Type 0
AllFit [] = Unit {0}
AllFit (n ∷ ns) = Fits n × AllFit ns

-- a word that the lexer knows as that of a view
abbrev pub IsViewWord : List ℕ → Type 0
IsViewWord word = (kind_of word ≡ Some Word) × ((w : Span) → word_of word w ≡ a_word View w)

abbrev pub IsCall : Call → Type 0
IsCall (sliced args) = lacks 34 (slice_text args) ≡ true
IsCall (numbered word ns) = IsViewWord word × AllFit ns × (length ns ≤ 100)
IsCall (chosen word index) = IsViewWord word × IsName index
IsCall (ranged index sizes edge) = IsName index × AllFit sizes × (edge ≤ 3)

-- names are names, sizes and numbers are within their limits, and a text can stand in a string
abbrev pub IsLine : Line → Type 0
IsLine (kernel_line name signature code) = IsQuotable name × IsQuotable signature × IsQuotable code
IsLine (root_line x ty ds) = IsName x × AllSmall ds
IsLine (piece_line x first last n ns) = IsName x × (first ≤ extent_limit) × (last ≤ extent_limit) × AllFit (n ∷ ns)
IsLine (least_line x p) = IsName x × (p ≤ extent_limit)
IsLine (view_line x y c) = IsName x × IsName y × IsCall c
IsLine (same_line x y) = IsName x × IsName y
IsLine (undef_line x) = IsName x

-- a text reads as this statement
pub record ReadsAs (source : List ℕ) (tree : StatementTree) : Type 0 where
  pub tokens : List Token
  pub lexed : toks source ≡ Ok tokens
  pub is : parsed source tokens ≡ Ok tree

-- each line reads as its statement
abbrev pub LinesAreRead : Type 0
LinesAreRead = (l : Line) → IsLine l → ReadsAs (line_text l) (line_tree l)
