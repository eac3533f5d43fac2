-- The lines of a dump token by token: their texts, and that no token joins what follows it.
use Rattle.std.proofs.Common.{◌≡◌, ℕ, suc, ◌≤◌, Bool, true, false, List, [], ◌∷◌, ◌++◌, refl, sym, ◌∙◌, ap, arith, append_assoc, ℤ, pos, negsuc}
use Rattle.std.proofs.lemmas.List.{append-nil}
use Rattle.std.proofs.lemmas.List.Folds.{list_all-append}
use Rattle.std.specs.Prelude.{Some, ◌==◌, not, ◌&&◌, ◌||◌, if◌then◌else◌, codes, decimal}
use Rattle.std.specs.List.{list_all, list_any}
use Rattle.std.specs.Fmt.{signed_decimal}
use Rattle.pdl_elem.specs.Types.{type_word}
use Rattle.pdl_lemmas.specs.Tests.{by_test}
use Rattle.pdl_lex.specs.Bytes.{is_quote}
use Rattle.pdl_lex.specs.Tokens.{kind_of}
use Rattle.pdl_lex.specs.declared.TokenKind.{TokenKind}
use Rattle.pdl_lex.specs.declared.TokenKind.TheVariants.{Name, Word, Number, Str, Sign}
use Rattle.pdl_lex.specs.Written.{Written, text_of, joins, QuotedAreStrings}
use Rattle.pdl_lex.specs.Written as lex
use Rattle.pdl_lexemes.specs.Laws.{TypeWordsAreWords}
use Rattle.pdl_lexemes.specs.Texts.{IsQuotable, lacks}
use Rattle.pdl_slices.specs.Written.{slice_text}
use Rattle.pdl_image.specs.Lines.{Call, sliced, numbered, chosen, ranged, Line, kernel_line, root_line, piece_line, least_line, view_line, same_line, undef_line, sizes_text, more_text, numbers_text, quote_of, call_text, line_text}
use Rattle.pdl_reread.specs.Parts.{AreApart}
use Rattle.pdl_reread.specs.Trees.{range_text, Fits, AllSmall, AllFit, IsCall, IsLine}
use Rattle.pdl_reread.proofs.TokenNumerals.{decimal_is_token, minus_apart, decimal_no_quote}

-- a token right behind the one before it, and one behind a space
abbrev pub tight : TokenKind → List ℕ → Written
tight kind bytes = record { gap = []; kind = kind; bytes = bytes }

abbrev pub spaced : TokenKind → List ℕ → Written
spaced kind bytes = record { gap = 32 ∷ []; kind = kind; bytes = bytes }

abbrev pub sign : List ℕ → Written
sign bytes = tight Sign bytes

-- a string
abbrev pub string : (quote : ℕ) → List ℕ → Written
string quote inside = tight Str (lex.quoted quote inside)

-- sizes, each behind a comma, before other tokens
abbrev pub sizes_items : List ℕ → List Written → List Written
sizes_items [] rest = rest
sizes_items (d ∷ ds) rest = sign (codes ",") ∷ tight Number (decimal d) ∷ sizes_items ds rest

abbrev pub number_items : ℤ → List Written → List Written
number_items (pos n) rest = tight Number (decimal n) ∷ rest
number_items (negsuc n) rest = sign (codes "-") ∷ tight Number (decimal (suc n)) ∷ rest

abbrev pub more_items : List ℤ → List Written → List Written
more_items [] rest = rest
more_items (n ∷ ns) rest = sign (codes ",") ∷ number_items n (more_items ns rest)

abbrev pub numbers_items : List ℤ → List Written → List Written
numbers_items [] rest = rest
numbers_items (n ∷ ns) rest = number_items n (more_items ns rest)

abbrev pub close : List Written
close = sign (codes ")") ∷ []

abbrev pub close_square : List Written
close_square = sign (codes "]") ∷ []

-- what ends a range: the list's bracket, and the number of what stands beyond the edges
abbrev pub edge_items : ℕ → List Written
edge_items edge = sign (codes "]") ∷ sign (codes ",") ∷ tight Number (decimal edge) ∷ close

abbrev pub call_items : Call → List Written
call_items (sliced args) = tight Word (codes "slice") ∷ sign (codes "(") ∷ string 34 (slice_text args) ∷ close
call_items (numbered word ns) = tight Word word ∷ sign (codes "(") ∷ numbers_items ns close
call_items (chosen word index) = tight Word word ∷ sign (codes "(") ∷ tight Name index ∷ close
call_items (ranged index sizes edge) =
    tight Word (codes "range") ∷ sign (codes "(") ∷ tight Name index ∷ sign (codes ",") ∷ tight Word (codes "pdl")
    ∷ spaced Sign (codes "[") ∷ numbers_items sizes (edge_items edge)

abbrev pub line_items : Line → List Written
line_items (kernel_line name signature code) =
    tight Word (codes "pp_def") ∷ sign (codes "(") ∷ string (quote_of name) name ∷ sign (codes ",")
    ∷ string (quote_of signature) signature ∷ sign (codes ",") ∷ string (quote_of code) code ∷ close
line_items (root_line x ty ds) =
    tight Name x ∷ spaced Sign (codes "=") ∷ spaced Word (codes "zeroes") ∷ sign (codes "(") ∷ tight Word (type_word ty) ∷ sizes_items ds close
line_items (piece_line x first last n ns) =
    tight Name x ∷ sign (codes "->") ∷ tight Word (codes "flat") ∷ sign (codes "->") ∷ tight Word (codes "slice") ∷ sign (codes "(")
    ∷ string 34 (range_text first last) ∷ sign (codes ")") ∷ spaced Sign (codes ".=") ∷ spaced Word (codes "pdl") ∷ spaced Sign (codes "[")
    ∷ number_items n (more_items ns close_square)
line_items (least_line x p) =
    tight Name x ∷ sign (codes "->") ∷ tight Word (codes "flat") ∷ sign (codes "->") ∷ tight Word (codes "slice") ∷ sign (codes "(")
    ∷ string 34 (decimal p) ∷ sign (codes ")") ∷ spaced Sign (codes ".=") ∷ spaced Word (codes "longlong") ∷ sign (codes "(")
    ∷ tight Number (codes "1") ∷ sign (codes ")") ∷ spaced Sign (codes "<<") ∷ spaced Number (codes "63") ∷ []
line_items (view_line x y c) = tight Name x ∷ spaced Sign (codes "=") ∷ spaced Name y ∷ sign (codes "->") ∷ call_items c
line_items (same_line x y) = tight Name x ∷ spaced Sign (codes "=") ∷ spaced Name y ∷ []
line_items (undef_line x) = tight Word (codes "undef") ∷ spaced Name x ∷ []

-- ---- their texts

sizes_are : (ds : List ℕ) (rest : List Written) → text_of (sizes_items ds rest) [] ≡ sizes_text ds ++ text_of rest []
sizes_are [] rest = refl
sizes_are (d ∷ ds) rest = ap (λ t. 44 ∷ (decimal d ++ t)) (sizes_are ds rest) ∙ ap (λ t. 44 ∷ t) (sym (append_assoc (decimal d) (sizes_text ds) (text_of rest [])))

number_is : (n : ℤ) (rest : List Written) → text_of (number_items n rest) [] ≡ signed_decimal n ++ text_of rest []
number_is (pos n) rest = refl
number_is (negsuc n) rest = refl

more_are : (ns : List ℤ) (rest : List Written) → text_of (more_items ns rest) [] ≡ more_text ns ++ text_of rest []
more_are [] rest = refl
more_are (n ∷ ns) rest =
    ap (λ t. 44 ∷ t) (number_is n (more_items ns rest) ∙ ap (λ t. signed_decimal n ++ t) (more_are ns rest) ∙ sym (append_assoc (signed_decimal n) (more_text ns) (text_of rest [])))

numbers_are : (ns : List ℤ) (rest : List Written) → text_of (numbers_items ns rest) [] ≡ numbers_text ns ++ text_of rest []
numbers_are [] rest = refl
numbers_are (n ∷ ns) rest = number_is n (more_items ns rest) ∙ ap (λ t. signed_decimal n ++ t) (more_are ns rest) ∙ sym (append_assoc (signed_decimal n) (more_text ns) (text_of rest []))

-- a string before more text
string_is : (quote : ℕ) (inside rest : List ℕ) → lex.quoted quote inside ++ rest ≡ quote ∷ (inside ++ quote ∷ rest)
string_is quote inside rest = ap (λ t. quote ∷ t) (append_assoc inside (quote ∷ []) rest)

call_is : (c : Call) → text_of (call_items c) [] ≡ call_text c
call_is (sliced args) = ap (λ t. codes "slice(" ++ t) (string_is 34 (slice_text args) (codes ")"))
call_is (numbered word ns) = ap (λ t. word ++ (codes "(" ++ t)) (numbers_are ns close)
call_is (chosen word index) = refl
call_is (ranged index sizes edge) = ap (λ t. codes "range(" ++ (index ++ (codes ",pdl [" ++ t))) (numbers_are sizes (edge_items edge))

pub line_is : (l : Line) → text_of (line_items l) [] ≡ line_text l
line_is (kernel_line name signature code) = refl
line_is (root_line x ty ds) = ap (λ t. x ++ (codes " = zeroes(" ++ (type_word ty ++ t))) (sizes_are ds close)
line_is (piece_line x first last n ns) =
    ap (λ t. x ++ (codes "->flat->slice(" ++ t))
    (string_is 34 (range_text first last) (codes ") .= pdl [" ++ text_of (number_items n (more_items ns close_square)) [])
    ∙ ap (λ t. 34 ∷ t) (append_assoc (decimal first) (58 ∷ decimal last) (codes "\") .= pdl [" ++ text_of (number_items n (more_items ns close_square)) []))
    ∙ ap (λ t. 34 ∷ (decimal first ++ (58 ∷ (decimal last ++ (codes "\") .= pdl [" ++ t))))) (numbers_are (n ∷ ns) close_square))
line_is (least_line x p) = ap (λ t. x ++ (codes "->flat->slice(" ++ t)) (string_is 34 (decimal p) (codes ") .= longlong(1) << 63"))
line_is (view_line x y c) = ap (λ t. x ++ (codes " = " ++ (y ++ (codes "->" ++ t)))) (call_is c)
line_is (same_line x y) = ap (λ t. x ++ (codes " = " ++ t)) (append-nil y)
line_is (undef_line x) = ap (λ t. codes "undef " ++ t) (append-nil x)

-- ---- no token joins what follows it

-- a comma and an opening bracket join nothing
comma_apart : (rest : List ℕ) → joins Sign (codes ",") rest ≡ false
comma_apart [] = refl
comma_apart (b ∷ rest) = refl

open_apart : (rest : List ℕ) → joins Sign (codes "(") rest ≡ false
open_apart [] = refl
open_apart (b ∷ rest) = refl

-- and so does an arrow before a word and its bracket
arrow_then : (word rest : List ℕ) → joins Sign (codes "->") (word ++ (codes "(" ++ rest)) ≡ false
arrow_then [] rest = refl
arrow_then (b ∷ word) rest = refl

square_apart : (rest : List ℕ) → joins Sign (codes "[") rest ≡ false
square_apart [] = refl
square_apart (b ∷ rest) = refl

sizes_apart : (ds : List ℕ) → AllSmall ds → AreApart (sizes_items ds close)
sizes_apart [] small = (refl, refl, refl, tt)
sizes_apart (d ∷ ds) small =
    (refl, refl, comma_apart (text_of (tight Number (decimal d) ∷ sizes_items ds close) []), (refl, decimal_is_token d (omega (arith, small.0)), next ds, sizes_apart ds small.1))
  where
    next : (es : List ℕ) → joins Number (decimal d) (text_of (sizes_items es close) []) ≡ false
    next [] = refl
    next (e ∷ es) = refl

number_apart : (n : ℤ) (rest : List Written) → Fits n → ((bytes : List ℕ) → joins Number bytes (text_of rest []) ≡ false) → AreApart rest → AreApart (number_items n rest)
number_apart (pos n) rest fits next apart = (refl, decimal_is_token n (omega (arith, fits)), next (decimal n), apart)
number_apart (negsuc n) rest fits next apart =
    (refl, refl, minus_apart n (text_of rest []) (omega (arith, fits)), (refl, decimal_is_token (suc n) (omega (arith, fits)), next (decimal (suc n)), apart))

-- more numbers, before what doesn't join a number
more_next : (ns : List ℤ) (rest : List Written) → ((bytes : List ℕ) → joins Number bytes (text_of rest []) ≡ false) → (bytes : List ℕ) → joins Number bytes (text_of (more_items ns rest) []) ≡ false
more_next [] rest next bytes = next bytes
more_next (n ∷ ns) rest next bytes = refl

more_apart : (ns : List ℤ) (rest : List Written) → AllFit ns → ((bytes : List ℕ) → joins Number bytes (text_of rest []) ≡ false) → AreApart rest → AreApart (more_items ns rest)
more_apart [] rest fit next apart = apart
more_apart (n ∷ ns) rest fit next apart =
    (refl, refl, comma_apart (text_of (number_items n (more_items ns rest)) []), number_apart n (more_items ns rest) fit.0 (more_next ns rest next) (more_apart ns rest fit.1 next apart))

numbers_apart : (ns : List ℤ) (rest : List Written) → AllFit ns → ((bytes : List ℕ) → joins Number bytes (text_of rest []) ≡ false) → AreApart rest → AreApart (numbers_items ns rest)
numbers_apart [] rest fit next apart = apart
numbers_apart (n ∷ ns) rest fit next apart = number_apart n (more_items ns rest) fit.0 (more_next ns rest next) (more_apart ns rest fit.1 next apart)

range_no_quote : (a b : ℕ) → a ≤ 1048576 → b ≤ 1048576 → list_all (λ c. not (c == 34)) (range_text a b) ≡ true
range_no_quote a b small small' =
    list_all-append (λ c. not (c == 34)) (decimal a) (58 ∷ decimal b)
    ∙ ap (λ t. t && list_all (λ c. not (c == 34)) (58 ∷ decimal b)) (decimal_no_quote a (omega arith))
    ∙ decimal_no_quote b (omega arith)

quote_is : (t : List ℕ) → is_quote (quote_of t) ≡ true
quote_is t = at (list_any (λ b. b == 34) t)
  where
    at : (b : Bool) → is_quote (if b then 39 else 34) ≡ true
    at true = refl
    at false = refl

-- a text that a string can hold lacks its own quote
lacks_one : (t : List ℕ) → list_any (λ b. b == 34) t ≡ false → lacks 34 t ≡ true
lacks_one [] none = refl
lacks_one (b ∷ t) none =
    by_test (b == 34)
    (λ same. let never : true ≡ false = rw same at none in absurd (cc))
    (λ other. rw other (lacks_one t (rw other at none)))

lacks_other : (t : List ℕ) → list_any (λ b. b == 34) t ≡ true → lacks 34 t ≡ false
lacks_other [] some = absurd (cc)
lacks_other (b ∷ t) some =
    by_test (b == 34)
    (λ same. rw same refl)
    (λ other. rw other (lacks_other t (rw other at some)))

own_quote : (t : List ℕ) → IsQuotable t → lacks (quote_of t) t ≡ true
own_quote t quotable =
    by_test (list_any (λ b. b == 34) t)
    (λ some. ap (λ q. lacks (if q then 39 else 34) t) some ∙ second (lacks 34 t) (lacks 39 t) (lacks_other t some) quotable)
    (λ none. ap (λ q. lacks (if q then 39 else 34) t) none ∙ lacks_one t none)
  where
    second : (a b : Bool) → a ≡ false → (a || b) ≡ true → b ≡ true
    second a b lacking either = rw lacking at either

module _ (strings : QuotedAreStrings) (types : TypeWordsAreWords) where
  text_apart : (t : List ℕ) → IsQuotable t → kind_of (lex.quoted (quote_of t) t) ≡ Some Str
  text_apart t quotable = strings (quote_of t) t (quote_is t) (own_quote t quotable)

  call_apart : (c : Call) → IsCall c → AreApart (call_items c)
  call_apart (sliced args) is = (refl, refl, refl, (refl, refl, refl, (refl, strings 34 (slice_text args) refl is, refl, (refl, refl, refl, tt))))
  call_apart (numbered word ns) is = (refl, is.0.0, refl, (refl, refl, open_apart (text_of (numbers_items ns close) []), numbers_apart ns close is.1 (λ bytes. refl) (refl, refl, refl, tt)))
  call_apart (chosen word index) is = (refl, is.0.0, refl, (refl, refl, open_apart (index ++ codes ")"), (refl, is.1, refl, (refl, refl, refl, tt))))
  call_apart (ranged index sizes edge) is = (
    refl,
    refl,
    refl,
    (
      refl,
      refl,
      open_apart (text_of (tight Name index ∷ sign (codes ",") ∷ tight Word (codes "pdl") ∷ spaced Sign (codes "[") ∷ numbers_items sizes (edge_items edge)) []),
      (
        refl,
        is.0,
        refl,
        (
          refl,
          refl,
          refl,
          (
            refl,
            refl,
            refl,
            (
              refl,
              refl,
              square_apart (text_of (numbers_items sizes (edge_items edge)) []),
              numbers_apart sizes (edge_items edge) is.1 (λ bytes. refl)
                  (refl, refl, refl, (refl, refl, comma_apart (decimal edge ++ codes ")"), (refl, decimal_is_token edge (omega (arith, is.2)), refl, (refl, refl, refl, tt)))),
            ),
          ),
        ),
      ),
    ),
  )

  pub line_apart : (l : Line) → IsLine l → AreApart (line_items l)
  line_apart (kernel_line name signature code) is = (
    refl,
    refl,
    refl,
    (
      refl,
      refl,
      open_apart (lex.quoted (quote_of name) name ++ (codes "," ++ (lex.quoted (quote_of signature) signature ++ (codes "," ++ (lex.quoted (quote_of code) code ++ codes ")"))))),
      (
        refl,
        text_apart name is.0,
        refl,
        (
          refl,
          refl,
          comma_apart (lex.quoted (quote_of signature) signature ++ (codes "," ++ (lex.quoted (quote_of code) code ++ codes ")"))),
          (
            refl,
            text_apart signature is.1,
            refl,
            (refl, refl, comma_apart (lex.quoted (quote_of code) code ++ codes ")"), (refl, text_apart code is.2, refl, (refl, refl, refl, tt))),
          ),
        ),
      ),
    ),
  )
  line_apart (root_line x ty ds) is =
      (refl, is.0, refl, (refl, refl, refl, (refl, refl, refl, (refl, refl, open_apart (text_of (tight Word (type_word ty) ∷ sizes_items ds close) []), (refl, types.words ty, next ds, sizes_apart ds is.1)))))
    where
      next : (es : List ℕ) → joins Word (type_word ty) (text_of (sizes_items es close) []) ≡ false
      next [] = refl
      next (e ∷ es) = refl
  line_apart (piece_line x first last n ns) is = (
    refl,
    is.0,
    refl,
    (
      refl,
      refl,
      refl,
      (
        refl,
        refl,
        refl,
        (
          refl,
          refl,
          refl,
          (
            refl,
            refl,
            refl,
            (
              refl,
              refl,
              refl,
              (
                refl,
                strings 34 (range_text first last) refl (range_no_quote first last is.1 is.2),
                refl,
                (
                  refl,
                  refl,
                  refl,
                  (
                    refl,
                    refl,
                    refl,
                    (
                      refl,
                      refl,
                      refl,
                      (
                        refl,
                        refl,
                        square_apart (text_of (number_items n (more_items ns close_square)) []),
                        numbers_apart (n ∷ ns) close_square is.3 (λ bytes. refl) (refl, refl, refl, tt),
                      ),
                    ),
                  ),
                ),
              ),
            ),
          ),
        ),
      ),
    ),
  )
  line_apart (least_line x p) is = (
    refl,
    is.0,
    refl,
    (
      refl,
      refl,
      refl,
      (
        refl,
        refl,
        refl,
        (
          refl,
          refl,
          refl,
          (
            refl,
            refl,
            refl,
            (
              refl,
              refl,
              refl,
              (
                refl,
                strings 34 (decimal p) refl (decimal_no_quote p (omega (arith, is.1))),
                refl,
                (
                  refl,
                  refl,
                  refl,
                  (
                    refl,
                    refl,
                    refl,
                    (refl, refl, refl, (refl, refl, refl, (refl, refl, refl, (refl, refl, refl, (refl, refl, refl, (refl, refl, refl, tt)))))),
                  ),
                ),
              ),
            ),
          ),
        ),
      ),
    ),
  )
  line_apart (view_line x y c) is = (refl, is.0, refl, (refl, refl, refl, (refl, is.1, refl, (refl, refl, arrow_apart c, call_apart c is.2))))
    where
      arrow_apart : (d : Call) → joins Sign (codes "->") (text_of (call_items d) []) ≡ false
      arrow_apart (sliced args) = refl
      arrow_apart (numbered word ns) = arrow_then word (text_of (numbers_items ns close) [])
      arrow_apart (chosen word index) = arrow_then word (index ++ codes ")")
      arrow_apart (ranged index sizes edge) = refl
  line_apart (same_line x y) is = (refl, is.0, refl, (refl, refl, refl, (refl, is.1, refl, tt)))
  line_apart (undef_line x) is = (refl, refl, refl, (refl, is, refl, tt))
