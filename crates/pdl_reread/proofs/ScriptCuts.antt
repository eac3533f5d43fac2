-- The lines of a dump are statements, and a script that begins with them has these.
use Rattle.std.proofs.Common.{◌≡◌, ℕ, ◌+◌, Bool, true, false, List, [], ◌∷◌, ◌++◌, length, refl, sym, ◌∙◌, ap, ap₂, subst, arith, append_assoc, eqb-true}
use Rattle.std.proofs.lemmas.Bool.{le-ltb}
use Rattle.std.specs.Prelude.{Some, None, not, ◌==◌, ◌&&◌, option_and_then, bytes_eq, codes}
use Rattle.std.specs.List.{list_all, list_any}
use Rattle.std.specs.Char.{is_ascii_digit}
use Rattle.pdl_lemmas.specs.Tests.{by_test}
use Rattle.pdl_lex.specs.Bytes.{is_blank, is_quote, is_letter, is_word_byte, newlines}
use Rattle.pdl_lex.specs.Joining.{mode_behind, IsStatement, pieces_from, StatementsJoin, BlanksJoin, PartsJoin}
use Rattle.pdl_lex.specs.Limits.{statement_limit}
use Rattle.pdl_lex.specs.Pieces.{is_between}
use Rattle.pdl_lex.specs.Tokens.{is_sign, is_word, pairs, triples, only_where, kind_of, is_closed}
use Rattle.pdl_lex.specs.Written.{Written, text_of, QuotedAreStrings}
use Rattle.pdl_lex.specs.declared.cutter.Mode.{Mode}
use Rattle.pdl_lex.specs.declared.cutter.Mode.TheVariants.{Code, Double, Single}
use Rattle.pdl_lex.specs.declared.TokenKind.{TokenKind}
use Rattle.pdl_lex.specs.declared.TokenKind.TheVariants.{Name, Word, Number, Str, Sign}
use Rattle.pdl_lexemes.specs.Laws.{TypeWordsAreWords}
use Rattle.pdl_image.specs.Lines.{Line, kernel_line, root_line, piece_line, least_line, view_line, same_line, undef_line, line_text, script_of}
use Rattle.pdl_reread.specs.Parts.{AreApart}
use Rattle.pdl_reread.specs.Scripts.{AreLines, statements, line_behind, LinesAreStatements}
use Rattle.pdl_reread.specs.Trees.{IsLine}
use Rattle.pdl_reread.proofs.PartItems.{line_items, line_is, line_apart}

-- a byte that ends no statement and begins neither a comment nor a string
abbrev is_code : ℕ → Bool
is_code b = not (b == 59) && (not (b == 35) && (not (b == 34) && not (b == 39)))

-- a test that fails of those four bytes
by_four : (p : ℕ → Bool) (b : ℕ) → p 59 ≡ false → p 35 ≡ false → p 34 ≡ false → p 39 ≡ false → p b ≡ true → is_code b ≡ true
by_four p b no59 no35 no34 no39 passes = rw (other 59 no59, other 35 no35, other 34 no34, other 39 no39) refl where
  other : (c : ℕ) → p c ≡ false → (b == c) ≡ false
  other c fails = by_test (b == c) (λ same. absurd (both c fails (eqb-true b c same))) (λ differs. differs) where
    both : (c : ℕ) → p c ≡ false → b ≡ c → ⊥
    both c fails same = let never : p b ≡ false = subst (λ x. p x ≡ false) (sym same) fails in absurd (cc)

all_code : (p : ℕ → Bool) (bs : List ℕ) → p 59 ≡ false → p 35 ≡ false → p 34 ≡ false → p 39 ≡ false → list_all p bs ≡ true → list_all is_code bs ≡ true
all_code p [] no59 no35 no34 no39 all = refl
all_code p (b ∷ bs) no59 no35 no34 no39 all =
    by_test (p b)
    (λ yes. rw (by_four p b no59 no35 no34 no39 yes) (all_code p bs no59 no35 no34 no39 (rw yes at all)))
    (λ no. let never : false ≡ true = rw no at all in absurd (cc))

-- such bytes leave code
code_stays : (bs : List ℕ) → list_all is_code bs ≡ true → mode_behind Code bs ≡ Some Code
code_stays [] all = refl
code_stays (b ∷ bs) all =
    by_test (b == 59)
    (λ yes. let never : false ≡ true = rw yes at all in absurd (cc))
    (λ no59. by_test (b == 35)
    (λ yes. let never : false ≡ true = rw (no59, yes) at all in absurd (cc))
    (λ no35. by_test (b == 34)
    (λ yes. let never : false ≡ true = rw (no59, no35, yes) at all in absurd (cc))
    (λ no34. by_test (b == 39)
    (λ yes. let never : false ≡ true = rw (no59, no35, no34, yes) at all in absurd (cc))
    (λ no39. rw (no59, no35, no34, no39) (code_stays bs (rw (no59, no35, no34, no39) at all))))))

-- each sign of a table is code
same_bytes : (xs ys : List ℕ) → bytes_eq xs ys ≡ true → xs ≡ ys
same_bytes [] [] same = refl
same_bytes [] (y ∷ ys) same = absurd (cc)
same_bytes (x ∷ xs) [] same = absurd (cc)
same_bytes (x ∷ xs) (y ∷ ys) same =
    by_test (x == y)
    (λ yes. ap₂ (λ a cs. a ∷ cs) (eqb-true x y yes) (same_bytes xs ys (rw yes at same)))
    (λ no. let never : false ≡ true = rw no at same in absurd (cc))

in_table : (table : List (List ℕ)) (xs : List ℕ) → list_all (λ t. list_all is_code t) table ≡ true → list_any (bytes_eq xs) table ≡ true → list_all is_code xs ≡ true
in_table [] xs all found = absurd (cc)
in_table (t ∷ table) xs all found =
    by_test (list_all is_code t)
    (λ code. by_test (bytes_eq xs t)
    (λ same. subst (λ ys. list_all is_code ys ≡ true) (sym (same_bytes xs t same)) code)
    (λ other. in_table table xs (rw code at all) (rw other at found)))
    (λ no. let never : false ≡ true = rw no at all in absurd (cc))

sign_code : (xs : List ℕ) → is_sign xs ≡ true → list_all is_code xs ≡ true
sign_code [] is = absurd (cc)
sign_code (a ∷ []) is = rw (by_four (λ c. is_sign (c ∷ [])) a refl refl refl refl is) refl
sign_code (a ∷ b ∷ []) is = in_table pairs (a ∷ b ∷ []) refl is
sign_code (a ∷ b ∷ c ∷ []) is = in_table triples (a ∷ b ∷ c ∷ []) refl is
sign_code (a ∷ b ∷ c ∷ d ∷ rest) is = absurd (cc)

fits_kind : (fits : Bool) (K kind : TokenKind) → only_where fits K ≡ Some kind → (fits ≡ true) × (K ≡ kind)
fits_kind true K kind h = (refl, some_inj K kind h) where
  some_inj : (x y : TokenKind) → Some x ≡ Some y → x ≡ y
  some_inj x y e = cc
fits_kind false K kind h = absurd (cc)

word_code : (bs : List ℕ) → is_word bs ≡ true → list_all is_code bs ≡ true
word_code [] is = absurd (cc)
word_code (b ∷ bs) is =
    by_test (is_letter b)
    (λ letter. rw (by_four is_letter b refl refl refl refl letter) (all_code is_word_byte bs refl refl refl refl (rw letter at is)))
    (λ no. let never : false ≡ true = rw no at is in absurd (cc))

-- a token that is no string is code
kind_code : (kind : TokenKind) (bytes : List ℕ) → kind_of bytes ≡ Some kind → (kind ≡ Str → ⊥) → list_all is_code bytes ≡ true
kind_code kind [] is plain = absurd (cc)
kind_code kind (b ∷ bs) is plain =
    by_test (is_letter b)
    (λ letter.
    let f = fits_kind (list_all is_word_byte bs) Word kind (rw letter at is) in
    rw (by_four is_letter b refl refl refl refl letter) (all_code is_word_byte bs refl refl refl refl f.0))
    (λ no_letter. by_test (b == 36)
    (λ dollar.
    let f = fits_kind (is_word bs) Name kind (rw (no_letter, dollar) at is) in
    rw (by_four (λ c. c == 36) b refl refl refl refl dollar) (word_code bs f.0))
    (λ no_dollar. by_test (b == 48)
    (λ nought.
    let f = fits_kind (length bs == 0) Number kind (rw (no_letter, no_dollar, nought) at is) in
    rw (by_four (λ c. c == 48) b refl refl refl refl nought) (empty_code bs f.0))
    (λ no_nought. by_test (is_ascii_digit b)
    (λ digit.
    let f = fits_kind (list_all is_ascii_digit bs) Number kind (rw (no_letter, no_dollar, no_nought, digit) at is) in
    rw (by_four is_ascii_digit b refl refl refl refl digit) (all_code is_ascii_digit bs refl refl refl refl f.0))
    (λ no_digit. by_test (is_quote b)
    (λ quote.
    let f = fits_kind (is_closed b bs) Str kind (rw (no_letter, no_dollar, no_nought, no_digit, quote) at is) in
    absurd (plain (sym f.1)))
    (λ no_quote.
    let f = fits_kind (is_sign (b ∷ bs)) Sign kind (rw (no_letter, no_dollar, no_nought, no_digit, no_quote) at is) in
    sign_code (b ∷ bs) f.0)))))
  where
    empty_code : (xs : List ℕ) → (length xs == 0) ≡ true → list_all is_code xs ≡ true
    empty_code [] none = refl
    empty_code (x ∷ xs) none = absurd (omega (arith, eqb-true (length (x ∷ xs)) 0 none))

-- a string token is closed by its quote
string_kind : (b : ℕ) (bs : List ℕ) → kind_of (b ∷ bs) ≡ Some Str → (is_quote b ≡ true) × (is_closed b bs ≡ true)
string_kind b bs is =
    by_test (is_letter b)
    (λ letter. absurd (no_word (fits_kind (list_all is_word_byte bs) Word Str (rw letter at is)).1))
    (λ no_letter. by_test (b == 36)
    (λ dollar. absurd (no_name (fits_kind (is_word bs) Name Str (rw (no_letter, dollar) at is)).1))
    (λ no_dollar. by_test (b == 48)
    (λ nought. absurd (no_number (fits_kind (length bs == 0) Number Str (rw (no_letter, no_dollar, nought) at is)).1))
    (λ no_nought. by_test (is_ascii_digit b)
    (λ digit. absurd (no_number (fits_kind (list_all is_ascii_digit bs) Number Str (rw (no_letter, no_dollar, no_nought, digit) at is)).1))
    (λ no_digit. by_test (is_quote b)
    (λ quote. (quote, (fits_kind (is_closed b bs) Str Str (rw (no_letter, no_dollar, no_nought, no_digit, quote) at is)).0))
    (λ no_quote. absurd (no_sign (fits_kind (is_sign (b ∷ bs)) Sign Str (rw (no_letter, no_dollar, no_nought, no_digit, no_quote) at is)).1))))))
  where
    no_word : Word ≡ Str → ⊥
    no_word e = cc

    no_name : Name ≡ Str → ⊥
    no_name e = cc

    no_number : Number ≡ Str → ⊥
    no_number e = cc

    no_sign : Sign ≡ Str → ⊥
    no_sign e = cc

-- a string leaves code too
closed_leaves : (quote : ℕ) (inside : Mode) → (quote == 59) ≡ false → ((b : ℕ) → (b == quote) ≡ true → mode_behind inside (b ∷ []) ≡ Some Code) → ((b : ℕ) (bs : List ℕ) → (b == quote) ≡ false → mode_behind inside (b ∷ bs) ≡ mode_behind inside bs)
    → (bs : List ℕ) → is_closed quote bs ≡ true → mode_behind inside bs ≡ Some Code
closed_leaves quote inside no59 ends goes_on [] closed = absurd (cc)
closed_leaves quote inside no59 ends goes_on (b ∷ bs) closed =
    by_test (b == quote)
    (λ same. last b bs same (rw same at closed) (ends b same))
    (λ other. goes_on b bs other ∙ closed_leaves quote inside no59 ends goes_on bs (rw other at closed))
  where
    last : (b : ℕ) (bs : List ℕ) → (b == quote) ≡ true → (length bs == 0) ≡ true → mode_behind inside (b ∷ []) ≡ Some Code → mode_behind inside (b ∷ bs) ≡ Some Code
    last b [] same none one = one
    last b (c ∷ bs) same none one = absurd (omega (arith, eqb-true (length (c ∷ bs)) 0 none))

string_stays : (b : ℕ) (bs : List ℕ) → is_quote b ≡ true → is_closed b bs ≡ true → mode_behind Code (b ∷ bs) ≡ Some Code
string_stays b bs is closed =
    by_test (b == 34)
    (λ double. subst (λ q. mode_behind Code (q ∷ bs) ≡ Some Code) (sym (eqb-true b 34 double))
    (closed_leaves 34 Double refl (λ c e. rw e refl) (λ c cs e. rw e refl) bs (subst (λ q. is_closed q bs ≡ true) (eqb-true b 34 double) closed)))
    (λ other.
    let single : (b == 39) ≡ true = rw other at is in
    subst (λ q. mode_behind Code (q ∷ bs) ≡ Some Code) (sym (eqb-true b 39 single))
    (closed_leaves 39 Single refl (λ c e. rw e refl) (λ c cs e. rw e refl) bs (subst (λ q. is_closed q bs ≡ true) (eqb-true b 39 single) closed)))

-- the bytes of a token leave code
token_stays : (kind : TokenKind) (bytes : List ℕ) → kind_of bytes ≡ Some kind → mode_behind Code bytes ≡ Some Code
token_stays Name bytes is = code_stays bytes (kind_code Name bytes is (λ e. absurd (cc)))
token_stays Word bytes is = code_stays bytes (kind_code Word bytes is (λ e. absurd (cc)))
token_stays Number bytes is = code_stays bytes (kind_code Number bytes is (λ e. absurd (cc)))
token_stays Sign bytes is = code_stays bytes (kind_code Sign bytes is (λ e. absurd (cc)))
token_stays Str [] is = absurd (cc)
token_stays Str (b ∷ bs) is =
    let f = string_kind b bs is in string_stays b bs f.0 f.1

-- no gap stands before the first token
abbrev IsTight : List Written → Type 0
IsTight [] = ⊥
IsTight (w ∷ ws) = w.gap ≡ []

tight_line : (l : Line) → IsTight (line_items l)
tight_line (kernel_line name signature code) = refl
tight_line (root_line x ty ds) = refl
tight_line (piece_line x first last n ns) = refl
tight_line (least_line x p) = refl
tight_line (view_line x y c) = refl
tight_line (same_line x y) = refl
tight_line (undef_line x) = refl

module _ (parts : PartsJoin) where
  items_stay : (ws : List Written) → AreApart ws → mode_behind Code (text_of ws []) ≡ Some Code
  items_stay [] apart = refl
  items_stay (w ∷ ws) apart =
      parts Code w.gap (w.bytes ++ text_of ws [])
      ∙ ap (option_and_then (λ m. mode_behind m (w.bytes ++ text_of ws []))) (code_stays w.gap (all_code is_blank w.gap refl refl refl refl apart.0))
      ∙ parts Code w.bytes (text_of ws [])
      ∙ ap (option_and_then (λ m. mode_behind m (text_of ws []))) (token_stays w.kind w.bytes apart.1)
      ∙ items_stay ws apart.3

  -- no token begins with a blank or `#`
  first_is : (kind : TokenKind) (b : ℕ) (bs : List ℕ) → kind_of (b ∷ bs) ≡ Some kind → is_between Code b ≡ false
  first_is kind b bs is = rw (other 32 (no32 bs), other 9 (no9 bs), other 10 (no10 bs), other 13 (no13 bs), other 35 (no35 bs)) refl where
    other : (c : ℕ) → kind_of (c ∷ bs) ≡ None → (b == c) ≡ false
    other c fails = by_test (b == c) (λ same. absurd (both c fails (eqb-true b c same))) (λ differs. differs) where
      both : (c : ℕ) → kind_of (c ∷ bs) ≡ None → b ≡ c → ⊥
      both c fails same = let never : kind_of (b ∷ bs) ≡ None = subst (λ x. kind_of (x ∷ bs) ≡ None) (sym same) fails in absurd (cc)

    no32 : (bs : List ℕ) → kind_of (32 ∷ bs) ≡ None
    no32 [] = refl
    no32 (c ∷ []) = refl
    no32 (c ∷ d ∷ []) = refl
    no32 (c ∷ d ∷ e ∷ rest) = refl

    no9 : (bs : List ℕ) → kind_of (9 ∷ bs) ≡ None
    no9 [] = refl
    no9 (c ∷ []) = refl
    no9 (c ∷ d ∷ []) = refl
    no9 (c ∷ d ∷ e ∷ rest) = refl

    no10 : (bs : List ℕ) → kind_of (10 ∷ bs) ≡ None
    no10 [] = refl
    no10 (c ∷ []) = refl
    no10 (c ∷ d ∷ []) = refl
    no10 (c ∷ d ∷ e ∷ rest) = refl

    no13 : (bs : List ℕ) → kind_of (13 ∷ bs) ≡ None
    no13 [] = refl
    no13 (c ∷ []) = refl
    no13 (c ∷ d ∷ []) = refl
    no13 (c ∷ d ∷ e ∷ rest) = refl

    no35 : (bs : List ℕ) → kind_of (35 ∷ bs) ≡ None
    no35 [] = refl
    no35 (c ∷ []) = refl
    no35 (c ∷ d ∷ []) = refl
    no35 (c ∷ d ∷ e ∷ rest) = refl

  -- a token at the front, and what leaves code behind it, are one statement
  begun_by : (kind : TokenKind) (bytes rest : List ℕ) → kind_of bytes ≡ Some kind → mode_behind Code (bytes ++ rest) ≡ Some Code → IsStatement (bytes ++ rest)
  begun_by kind [] rest is ends = absurd (no_kind kind is)
    where
      no_kind : (k : TokenKind) → kind_of [] ≡ Some k → ⊥
      no_kind k e = cc
  begun_by kind (b ∷ bs) rest is ends = record {
    first = b;
    others = bs ++ rest;
    begins = first_is kind b bs is;
    ends = ends;
    is = refl;
  }

  tokens_are_a_statement : (ws : List Written) → AreApart ws → IsTight ws → IsStatement (text_of ws [])
  tokens_are_a_statement [] apart front = absurd front
  tokens_are_a_statement (w ∷ ws) apart front =
      let rest : List ℕ = w.bytes ++ text_of ws [] in
      subst (λ gap. IsStatement (gap ++ rest)) (sym front)
      (begun_by w.kind w.bytes (text_of ws []) apart.1 (subst (λ gap. mode_behind Code (gap ++ rest) ≡ Some Code) front (items_stay (w ∷ ws) apart)))

  -- a line is one statement
  line_is_a_statement : QuotedAreStrings → TypeWordsAreWords → (l : Line) → IsLine l → IsStatement (line_text l)
  line_is_a_statement strings types l is = subst IsStatement (line_is l) (tokens_are_a_statement (line_items l) (line_apart strings types l is) (tight_line l))

module _ (parts : PartsJoin) (statements_join : StatementsJoin) (blanks : BlanksJoin) (strings : QuotedAreStrings) (types : TypeWordsAreWords) where
  scripts_from : (line : ℕ) (lines : List Line) (rest : List ℕ) → AreLines lines → pieces_from line (script_of lines ++ rest) ≡ statements line lines ++ pieces_from (line_behind line lines) rest
  scripts_from line [] rest are = refl
  scripts_from line (l ∷ lines) rest are =
      ap (pieces_from line) (append_assoc (line_text l ++ codes ";\n") (script_of lines) rest ∙ append_assoc (line_text l) (codes ";\n") (script_of lines ++ rest))
      ∙ statements_join line (line_text l) (10 ∷ (script_of lines ++ rest)) (line_is_a_statement parts strings types l are.0)
      ∙ ap₂ (λ p ps. p ∷ ps) (rw (le-ltb statement_limit (length (line_text l)) are.1) refl)
      (blanks (line + newlines (line_text l)) 10 (script_of lines ++ rest) refl ∙ scripts_from (line + newlines (line_text l) + 1) lines rest are.2)

  pub lines_are_statements : LinesAreStatements
  lines_are_statements lines rest are = scripts_from 1 lines rest are
