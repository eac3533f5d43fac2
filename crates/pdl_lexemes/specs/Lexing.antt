-- The lexeme that a token is.
use Rattle.std.specs.Prelude.{ℕ, ◌+◌, ◌-◌, ◌*◌, min, List, [], ◌∷◌, map, fold, codes}
use Rattle.pdl_lemmas.specs.Options.{choose}
use Rattle.pdl_elem.specs.declared.BinaryOp.{BinaryOp}
use Rattle.pdl_elem.specs.declared.BinaryOp.TheVariants.{Add, Sub, Mul, Div, Rem, Shl, Shr, Lt, Le, Gt, Ge, Eq, Ne, And, Or, Xor}
use Rattle.pdl_elem.specs.declared.UnaryOp.TheVariants.{Not, Complement}
use Rattle.pdl_elem.specs.Tables.{found_in}
use Rattle.pdl_elem.specs.Types.{type_named}
use Rattle.pdl_lex.specs.declared.Token.{Token}
use Rattle.pdl_lex.specs.declared.TokenKind.{TokenKind}
use Rattle.pdl_lex.specs.declared.TokenKind.TheVariants.{Name as IsName, Word as IsWord, Number as IsNumber, Str as IsStr, Sign as IsSign}
use Rattle.pdl_lexemes.specs.declared.AssignOp.{AssignOp}
use Rattle.pdl_lexemes.specs.declared.AssignOp.TheVariants.{Set, With}
use Rattle.pdl_lexemes.specs.declared.Span.{Span}
use Rattle.pdl_lexemes.specs.declared.Keyword.{Keyword as Key}
use Rattle.pdl_lexemes.specs.declared.Keyword.TheVariants.{My, Print, Undef, Vars, Dump, Flow, PpDef, Watch, Unwatch, Pdl, Info, Sever, Reshape}
use Rattle.pdl_lexemes.specs.declared.WordKind.{WordKind}
use Rattle.pdl_lexemes.specs.declared.WordKind.TheVariants.{OfType, View, Pars, Code, Plain}
use Rattle.pdl_lexemes.specs.declared.Lexeme.{Lexeme}
use Rattle.pdl_lexemes.specs.declared.Lexeme.TheVariants.{Name, Keyword, Word, Number, Quoted, Open, Close, OpenSquare, CloseSquare, Comma, Equals, Arrow, FatArrow, Assign, Operator, Prefix, Unknown}
use Rattle.pdl_lexemes.specs.Bytes.{bytes_at}
use Rattle.pdl_lexemes.specs.Limits.{number_limit}

-- the words that name no call
abbrev pub keywords : List (List ℕ × Key)
keywords =
    (codes "my", My) ∷ (codes "p", Print) ∷ (codes "print", Print) ∷ (codes "undef", Undef)
    ∷ (codes "vars", Vars) ∷ (codes "dump", Dump) ∷ (codes "flow", Flow)
    ∷ (codes "pp_def", PpDef) ∷ (codes "watch", Watch) ∷ (codes "unwatch", Unwatch) ∷ (codes "pdl", Pdl)
    ∷ (codes "info", Info) ∷ (codes "sever", Sever) ∷ (codes "reshape", Reshape) ∷ []

-- the words beside those of the types that are something beside the name of a call
abbrev pub word_kinds : List (List ℕ × WordKind)
word_kinds =
    (codes "slice", View) ∷ (codes "nice", View) ∷ (codes "xchg", View) ∷ (codes "mv", View)
    ∷ (codes "reorder", View) ∷ (codes "diagonal", View) ∷ (codes "dummy", View)
    ∷ (codes "clump", View) ∷ (codes "squeeze", View) ∷ (codes "flat", View)
    ∷ (codes "index", View) ∷ (codes "where", View) ∷ (codes "range", View)
    ∷ (codes "Pars", Pars) ∷ (codes "Code", Code) ∷ []

-- the signs of operators on two values
abbrev pub operators : List (List ℕ × BinaryOp)
operators =
    (codes "+", Add) ∷ (codes "-", Sub) ∷ (codes "*", Mul) ∷ (codes "/", Div) ∷ (codes "%", Rem)
    ∷ (codes "<<", Shl) ∷ (codes ">>", Shr) ∷ (codes "<", Lt) ∷ (codes ">", Gt) ∷ (codes "<=", Le)
    ∷ (codes ">=", Ge) ∷ (codes "==", Eq) ∷ (codes "!=", Ne) ∷ (codes "&", And) ∷ (codes "|", Or)
    ∷ (codes "^", Xor) ∷ []

-- the signs of assignments
abbrev pub assignments : List (List ℕ × AssignOp)
assignments =
    (codes ".=", Set) ∷ (codes "+=", With Add) ∷ (codes "-=", With Sub) ∷ (codes "*=", With Mul)
    ∷ (codes "/=", With Div) ∷ (codes "%=", With Rem) ∷ (codes "<<=", With Shl)
    ∷ (codes ">>=", With Shr) ∷ (codes "&=", With And) ∷ (codes "|=", With Or)
    ∷ (codes "^=", With Xor) ∷ []

-- the other signs
abbrev pub signs : List (List ℕ × Lexeme)
signs =
    (codes "(", Open) ∷ (codes ")", Close) ∷ (codes "[", OpenSquare) ∷ (codes "]", CloseSquare)
    ∷ (codes ",", Comma) ∷ (codes "=", Equals) ∷ (codes "->", Arrow) ∷ (codes "=>", FatArrow)
    ∷ (codes "!", Prefix Not) ∷ (codes "~", Prefix Complement) ∷ (codes ":", Unknown) ∷ []

-- the value of decimal digits, or one more than the greatest number where it is above that
abbrev pub with_digit : ℕ → ℕ → ℕ
with_digit n digit = min (10 * n + (digit - 48)) (number_limit + 1)

abbrev pub number_of : List ℕ → ℕ
number_of digits = fold with_digit 0 digits

-- what a word is beside the name of a call
abbrev pub kind_of_word : List ℕ → WordKind
kind_of_word text =
    choose (choose Plain (λ k. k) (found_in word_kinds text)) (λ ty. OfType ty) (type_named text)

-- a word as a keyword, or as the name of a call
abbrev pub word_of : List ℕ → Span → Lexeme
word_of text span =
    choose (Word (kind_of_word text) span) (λ k. Keyword k) (found_in keywords text)

-- a sign; a text that is none, which no token has, is a lexeme that no rule of the grammar has
abbrev pub sign_of : List ℕ → Lexeme
sign_of text =
    choose
    (choose
    (choose Unknown (λ op. Assign op) (found_in assignments text))
    (λ op. Operator op)
    (found_in operators text))
    (λ s. s)
    (found_in signs text)

abbrev pub span_of : Token → Span
span_of t = record { from = t.from; to = t.to }

-- the bytes of a string without its quotes
abbrev pub inside_of : Token → Span
inside_of t = record { from = t.from + 1; to = t.to - 1 }

abbrev pub of_kind : List ℕ → Token → TokenKind → Lexeme
of_kind source t IsName = Name (span_of t)
of_kind source t IsWord = word_of (bytes_at source (span_of t)) (span_of t)
of_kind source t IsNumber = Number (number_of (bytes_at source (span_of t)))
of_kind source t IsStr = Quoted (inside_of t)
of_kind source t IsSign = sign_of (bytes_at source (span_of t))

-- a token's lexeme
abbrev pub lexeme_of : List ℕ → Token → Lexeme
lexeme_of source t = of_kind source t t.kind

-- the lexemes of the tokens of a text
abbrev pub lexemes_of : List ℕ → List Token → List Lexeme
lexemes_of source tokens = map (lexeme_of source) tokens
