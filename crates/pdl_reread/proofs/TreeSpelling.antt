-- What the lexemes of a dump's lines spell, and that no check refuses them.
use Rattle.std.proofs.Common.{◌≡◌, ℕ, suc, ◌+◌, ◌≤◌, Bool, true, false, List, [], ◌∷◌, ◌++◌, length, refl, sym, ◌∙◌, ap, ap₂, subst, arith, append_assoc, ℤ, pos, negsuc}
use Rattle.std.proofs.lemmas.Bool.{le-leb, le-ltb}
use Rattle.std.proofs.lemmas.List.{append-nil}
use Rattle.std.specs.Prelude.{Some, None, Ok, ◌||◌, codes, decimal, if◌then◌else◌, nat_lt}
use Rattle.pdl_elem.specs.declared.Ty.{Ty}
use Rattle.pdl_elem.specs.declared.Ty.TheVariants.{Longlong}
use Rattle.pdl_elem.specs.declared.BinaryOp.TheVariants.{Sub, Shl}
use Rattle.pdl_elem.specs.Types.{type_word}
use Rattle.pdl_lex.specs.Written.{Written, text_of, placed, WrittenAreRead, ApartAreLongest, QuotedAreStrings}
use Rattle.pdl_lexemes.specs.declared.AssignOp.TheVariants.{Set}
use Rattle.pdl_lexemes.specs.declared.checks.Counts.{Counts}
use Rattle.pdl_lexemes.specs.declared.Keyword.TheVariants.{Pdl}
use Rattle.pdl_lexemes.specs.declared.Lexeme.{Lexeme}
use Rattle.pdl_lexemes.specs.declared.Lexeme.TheVariants.{Name, Keyword, Word, Number, Quoted, Open, Close, OpenSquare, CloseSquare, Comma, Equals, Arrow, Assign, Operator}
use Rattle.pdl_lexemes.specs.declared.Span.{Span}
use Rattle.pdl_lexemes.specs.declared.WordKind.TheVariants.{OfType, View, Plain}
use Rattle.pdl_lexemes.specs.Bytes.{bytes_at}
use Rattle.pdl_lexemes.specs.Peeks.{after}
use Rattle.pdl_lexemes.specs.Depth.{goes_beyond, is_beyond, is_too_deep, is_large, has_large, ragged_in}
use Rattle.pdl_lexemes.specs.Laws.{RaggedIsScanned, TypeWordsAreWords}
use Rattle.pdl_lexemes.specs.Lists.{signed, SpellsList, an_item, some_items, a_list, number, minus, first, more, empty, filled, type_of, HoldsRagged}
use Rattle.pdl_slices.specs.Written.{slice_text}
use Rattle.pdl_syntax.specs.Tree.{Tree, Args, named, literal, binary, call, none, value, text, of_type, number as a_tree}
use Rattle.pdl_syntax.specs.Grammar as grammar
use Rattle.pdl_syntax.specs.Grammar.{Spells, an_expr, a_postfix, maybe_args, some_args, same, plain, bare, method, negated, a_number, a_name, list, called, a_value, a_text, a_type, one, all_args, no_args, without, within}
use Rattle.pdl_syntax.specs.StatementTree.{StatementTree, bind, assign, pp_def, undef}
use Rattle.pdl_syntax.specs.Statements.{SpellsStatement, binds_value, binds, assigns, undefs, defines, plain_text, no_views, one_view}
use Rattle.pdl_syntax.specs.Refusals.{Found}
use Rattle.pdl_syntax.specs.Laws.{TokensAreParsed}
use Rattle.pdl_image.specs.Lines.{sliced, numbered, chosen, ranged, Line, kernel_line, root_line, piece_line, least_line, view_line, same_line, undef_line, quote_of}
use Rattle.pdl_reread.specs.Parts.{span_at, inside_at, lexemes_at, Stand}
use Rattle.pdl_reread.specs.Trees.{with_sizes, with_numbers, number_tree, list_tree, range_text, line_tree, Fits, AllSmall, AllFit, IsLine, ReadsAs, LinesAreRead}
use Rattle.pdl_reread.proofs.PartItems.{sizes_items, number_items, more_items, numbers_items, edge_items, close, close_square, line_items, line_is, line_apart}
use Rattle.pdl_reread.proofs.TokenNumerals.{decimal_and_back}
use Rattle.pdl_reread.proofs.PartPlaces.{apart_are_read, all_stand, all_lexed}

-- the lexemes of the parts that have any number of them: none has a place
abbrev sizes_lexemes : List ℕ → List Lexeme → List Lexeme
sizes_lexemes [] rest = rest
sizes_lexemes (d ∷ ds) rest = Comma ∷ Number d ∷ sizes_lexemes ds rest

abbrev number_lexemes : ℤ → List Lexeme → List Lexeme
number_lexemes (pos n) rest = Number n ∷ rest
number_lexemes (negsuc n) rest = Operator Sub ∷ Number (suc n) ∷ rest

abbrev more_lexemes : List ℤ → List Lexeme → List Lexeme
more_lexemes [] rest = rest
more_lexemes (n ∷ ns) rest = Comma ∷ number_lexemes n (more_lexemes ns rest)

sizes_lexed : (at : ℕ) (ds : List ℕ) → AllSmall ds → lexemes_at at (sizes_items ds close) ≡ sizes_lexemes ds (Close ∷ [])
sizes_lexed at [] small = refl
sizes_lexed at (d ∷ ds) small = ap₂ (λ n ts. Comma ∷ Number n ∷ ts) (decimal_and_back d (omega (arith, small.0))) (sizes_lexed (at + 1 + length (decimal d)) ds small.1)

number_lexed : (at : ℕ) (n : ℤ) (rest : List Written) (ts : List Lexeme) → Fits n → ((place : ℕ) → lexemes_at place rest ≡ ts) → lexemes_at at (number_items n rest) ≡ number_lexemes n ts
number_lexed at (pos n) rest ts fits behind = ap₂ (λ m us. Number m ∷ us) (decimal_and_back n (omega (arith, fits))) (behind (at + length (decimal n)))
number_lexed at (negsuc n) rest ts fits behind = ap₂ (λ m us. Operator Sub ∷ Number m ∷ us) (decimal_and_back (suc n) (omega (arith, fits))) (behind (at + 1 + length (decimal (suc n))))

more_lexed : (at : ℕ) (ns : List ℤ) (rest : List Written) (ts : List Lexeme) → AllFit ns → ((place : ℕ) → lexemes_at place rest ≡ ts) → lexemes_at at (more_items ns rest) ≡ more_lexemes ns ts
more_lexed at [] rest ts fit behind = behind at
more_lexed at (n ∷ ns) rest ts fit behind =
    ap (λ us. Comma ∷ us) (number_lexed (at + 1) n (more_items ns rest) (more_lexemes ns ts) fit.0 (λ place. more_lexed place ns rest ts fit.1 behind))

abbrev numbers_lexemes : List ℤ → List Lexeme → List Lexeme
numbers_lexemes [] rest = rest
numbers_lexemes (n ∷ ns) rest = number_lexemes n (more_lexemes ns rest)

numbers_lexed : (at : ℕ) (ns : List ℤ) (rest : List Written) (ts : List Lexeme) → AllFit ns → ((place : ℕ) → lexemes_at place rest ≡ ts) → lexemes_at at (numbers_items ns rest) ≡ numbers_lexemes ns ts
numbers_lexed at [] rest ts fit behind = behind at
numbers_lexed at (n ∷ ns) rest ts fit behind = number_lexed at n (more_items ns rest) (more_lexemes ns ts) fit.0 (λ place. more_lexed place ns rest ts fit.1 behind)

edge_lexed : (at edge : ℕ) → edge ≤ 3 → lexemes_at at (edge_items edge) ≡ CloseSquare ∷ Comma ∷ Number edge ∷ Close ∷ []
edge_lexed at edge small = ap (λ n. CloseSquare ∷ Comma ∷ Number n ∷ Close ∷ []) (decimal_and_back edge (omega arith))

-- what they spell
is_signed : (n : ℕ) → n ≤ 9223372036854775807 → signed n ≡ Some (pos n)
is_signed n small = rw (le-leb n 9223372036854775807 small)

-- a postfix form is an expression of every level
as_expr : {source : List ℕ} {t : Tree} {ts rest : List Lexeme} → Spells source (a_postfix t) ts rest → Spells source (an_expr 7 t) ts rest
as_expr spelled = same (same (same (same (same (same (same (plain spelled)))))))

module _ (source : List ℕ) where
  number_expr : (n : ℕ) (rest : List Lexeme) → n ≤ 9223372036854775807 → Spells source (an_expr 7 (a_tree (pos n))) (Number n ∷ rest) rest
  number_expr n rest small = as_expr (bare (a_number (is_signed n small)))

  sizes_spelled : (front args : Args) (ts : List Lexeme) (ds : List ℕ) (rest : List Lexeme) → AllSmall ds → Spells source (some_args front args) ts (sizes_lexemes ds rest) → Spells source (some_args front (with_sizes args ds)) ts rest
  sizes_spelled front args ts [] rest small so_far = so_far
  sizes_spelled front args ts (d ∷ ds) rest small so_far =
      sizes_spelled front (value args (a_tree (pos d))) ts ds rest small.1 (grammar.more so_far (a_value (number_expr d (sizes_lexemes ds rest) (omega (arith, small.0)))))

  root_spelled : (x w v : Span) (ty : Ty) (ds : List ℕ) → AllSmall ds
      → SpellsStatement source (bind (bytes_at source x) (call (bytes_at source w) (with_sizes (of_type none ty) ds)) false) (Name x ∷ Equals ∷ Word Plain w ∷ Open ∷ Word (OfType ty) v ∷ sizes_lexemes ds (Close ∷ []))
  root_spelled x w v ty ds small =
      binds (binds_value (as_expr (bare (called (all_args (sizes_spelled none (of_type none ty) _ ds (Close ∷ []) small (one a_type)))))))

  -- a number outside of a list
  signed_expr : (n : ℤ) (rest : List Lexeme) → Fits n → Spells source (an_expr 7 (number_tree n)) (number_lexemes n rest) rest
  signed_expr (pos n) rest fits = number_expr n rest (omega (arith, fits))
  signed_expr (negsuc n) rest fits =
      same (same (same (same (same (same (same (negated (plain (bare (a_number (is_signed (suc n) (omega (arith, fits)))))))))))))

  numbers_on : (front args : Args) (ts : List Lexeme) (ns : List ℤ) (rest : List Lexeme) → AllFit ns → Spells source (some_args front args) ts (more_lexemes ns rest) → Spells source (some_args front (with_numbers args ns)) ts rest
  numbers_on front args ts [] rest fit so_far = so_far
  numbers_on front args ts (n ∷ ns) rest fit so_far =
      numbers_on front (value args (number_tree n)) ts ns rest fit.1 (grammar.more so_far (a_value (signed_expr n (more_lexemes ns rest) fit.0)))

  numbers_spelled : (front : Args) (ns : List ℤ) → AllFit ns → Spells source (maybe_args front (with_numbers front ns)) (Open ∷ numbers_lexemes ns (Close ∷ [])) []
  numbers_spelled front [] fit = within no_args
  numbers_spelled front (n ∷ ns) fit =
      within (all_args (numbers_on front (value front (number_tree n)) _ ns (Close ∷ []) fit.1 (one (a_value (signed_expr n (more_lexemes ns (Close ∷ [])) fit.0)))))

  -- a view word called on an array
  view_spelled : (x y w : Span) (args : Args) (us : List Lexeme) → Spells source (maybe_args (value none (named (bytes_at source y))) args) us []
      → SpellsStatement source (bind (bytes_at source x) (call (bytes_at source w) args) false) (Name x ∷ Equals ∷ Name y ∷ Arrow ∷ Word View w ∷ us)
  view_spelled x y w args us spelled = binds (binds_value (as_expr (method (bare a_name) spelled)))

item_spelled : (n : ℤ) (front : List ℤ) (rest : List Lexeme) → Fits n → SpellsList (an_item (Some []) front (front ++ n ∷ [])) (number_lexemes n rest) rest
item_spelled (pos n) front rest fits = number (is_signed n (omega (arith, fits)))
item_spelled (negsuc n) front rest fits = minus (is_signed (suc n) (omega (arith, fits)))

least_spelled : (source : List ℕ) (x f s t w : Span)
    → SpellsStatement source (assign (bytes_at source x) ((bytes_at source f, none) ∷ (bytes_at source s, text none (bytes_at source t)) ∷ []) Set (binary Shl (call (bytes_at source w) (value none (a_tree (pos 1)))) (a_tree (pos 63))))
    (Name x ∷ Arrow ∷ Word View f ∷ Arrow ∷ Word View s ∷ Open ∷ Quoted t ∷ Close ∷ Assign Set ∷ Word (OfType Longlong) w ∷ Open ∷ Number 1 ∷ Close ∷ Operator Shl ∷ Number 63 ∷ [])
least_spelled source x f s t w =
    assigns (one_view (one_view no_views without) (within (all_args (one a_text)))) (up (grammar.joined left refl refl right))
  where
    up : {tree : Tree} {ts rest : List Lexeme} → Spells source (an_expr 3 tree) ts rest → Spells source (an_expr 7 tree) ts rest
    up spelled = same (same (same (same spelled)))

    left : Spells source (an_expr 3 (call (bytes_at source w) (value none (a_tree (pos 1))))) (Word (OfType Longlong) w ∷ Open ∷ Number 1 ∷ Close ∷ Operator Shl ∷ Number 63 ∷ []) (Operator Shl ∷ Number 63 ∷ [])
    left = same (same (same (plain (bare (called (all_args (one (a_value (number_expr source 1 (Close ∷ Operator Shl ∷ Number 63 ∷ []) (omega arith))))))))))

    right : Spells source (an_expr 2 (a_tree (pos 63))) (Number 63 ∷ []) []
    right = same (same (plain (bare (a_number refl))))

-- how many items there are, and which numbers, behind those before
abbrev count_on : ℕ → List ℤ → ℕ
count_on k [] = k
count_on k (n ∷ ns) = count_on (suc k) ns

abbrev all_on : List ℤ → List ℤ → List ℤ
all_on so_far [] = so_far
all_on so_far (n ∷ ns) = all_on (so_far ++ n ∷ []) ns

more_spelled : (k : ℕ) (so_far : List ℤ) (ts : List Lexeme) (ns : List ℤ) (rest : List Lexeme) → AllFit ns → SpellsList (some_items k (Some []) [] so_far) ts (more_lexemes ns rest) → SpellsList (some_items (count_on k ns) (Some []) [] (all_on so_far ns)) ts rest
more_spelled k so_far ts [] rest fit spelled = spelled
more_spelled k so_far ts (n ∷ ns) rest fit spelled =
    more_spelled (suc k) (so_far ++ n ∷ []) ts ns rest fit.1 (more spelled (item_spelled n so_far (more_lexemes ns rest) fit.0))

count_is : (k : ℕ) (ns : List ℤ) → count_on k ns ≡ k + length ns
count_is k [] = omega arith
count_is k (n ∷ ns) = omega (arith, count_is (suc k) ns)

all_is : (so_far ns : List ℤ) → all_on so_far ns ≡ so_far ++ ns
all_is so_far [] = sym (append-nil so_far)
all_is so_far (n ∷ ns) = all_is (so_far ++ n ∷ []) ns ∙ append_assoc so_far (n ∷ []) ns

list_spelled : (n : ℤ) (ns : List ℤ) (rest : List Lexeme) → AllFit (n ∷ ns) → SpellsList (a_list (Some (length (n ∷ ns) ∷ [])) [] (n ∷ ns)) (OpenSquare ∷ number_lexemes n (more_lexemes ns (CloseSquare ∷ rest))) rest
list_spelled n ns rest fit =
    let spelled = filled (more_spelled 1 (n ∷ []) _ ns (CloseSquare ∷ rest) fit.1 (first (item_spelled n [] (more_lexemes ns (CloseSquare ∷ rest)) fit.0))) in
    let count : count_on 1 ns ≡ length (n ∷ ns) = omega (arith, count_is 1 ns) in
    subst (λ k. SpellsList (a_list (Some (k ∷ [])) [] (n ∷ ns)) (OpenSquare ∷ number_lexemes n (more_lexemes ns (CloseSquare ∷ rest))) rest) count
    (subst (λ es. SpellsList (a_list (Some (count_on 1 ns ∷ [])) [] es) (OpenSquare ∷ number_lexemes n (more_lexemes ns (CloseSquare ∷ rest))) rest) (all_is (n ∷ []) ns) spelled)

any_list_spelled : (ns : List ℤ) (rest : List Lexeme) → AllFit ns → SpellsList (a_list (Some (length ns ∷ [])) [] ns) (OpenSquare ∷ numbers_lexemes ns (CloseSquare ∷ rest)) rest
any_list_spelled [] rest fit = empty
any_list_spelled (n ∷ ns) rest fit = list_spelled n ns rest fit

range_spelled : (source : List ℕ) (front : Args) (i : Span) (sizes : List ℤ) (edge : ℕ) → AllFit sizes → edge ≤ 3
    → Spells source (maybe_args front (value (value (value front (named (bytes_at source i))) (list_tree sizes)) (a_tree (pos edge))))
    (Open ∷ Name i ∷ Comma ∷ Keyword Pdl ∷ OpenSquare ∷ numbers_lexemes sizes (CloseSquare ∷ Comma ∷ Number edge ∷ Close ∷ [])) []
range_spelled source front i sizes edge fit small =
    within (all_args (grammar.more (grammar.more (one (a_value (as_expr (bare a_name))))
    (a_value (as_expr (bare (list (any_list_spelled sizes (Comma ∷ Number edge ∷ Close ∷ []) fit))))))
    (a_value (number_expr source edge (Close ∷ []) (omega arith)))))

piece_spelled : (source : List ℕ) (x f s t : Span) (n : ℤ) (ns : List ℤ) (p : Span) → AllFit (n ∷ ns)
    → SpellsStatement source (assign (bytes_at source x) ((bytes_at source f, none) ∷ (bytes_at source s, text none (bytes_at source t)) ∷ []) Set (literal (type_of (n ∷ ns)) (length (n ∷ ns) ∷ []) (n ∷ ns)))
    (Name x ∷ Arrow ∷ Word View f ∷ Arrow ∷ Word View s ∷ Open ∷ Quoted t ∷ Close ∷ Assign Set ∷ Keyword Pdl ∷ OpenSquare ∷ number_lexemes n (more_lexemes ns (CloseSquare ∷ [])))
piece_spelled source x f s t n ns p fit =
    assigns (one_view (one_view no_views without) (within (all_args (one a_text))))
    (as_expr (bare (list (list_spelled n ns [] fit))))

-- the checks
unless : (b x : Bool) → b ≡ false → (if b then true else x) ≡ x
unless true x never = absurd (cc)
unless false x never = refl

sizes_deep : (c : Counts) (ds : List ℕ) (rest : List Lexeme) → is_beyond c ≡ false → goes_beyond c (sizes_lexemes ds rest) ≡ goes_beyond c rest
sizes_deep c [] rest quiet = refl
sizes_deep c (d ∷ ds) rest quiet =
    unless (is_beyond c) (goes_beyond c (Number d ∷ sizes_lexemes ds rest)) quiet ∙ unless (is_beyond c) (goes_beyond c (sizes_lexemes ds rest)) quiet ∙ sizes_deep c ds rest quiet

-- within one square bracket a minus is no operator
abbrev in_square : (round operators : ℕ) → Counts
in_square r o = record { round = r; square = 1; operators = o }

number_deep : (r o : ℕ) (n : ℤ) (rest : List Lexeme) → is_beyond (in_square r o) ≡ false → goes_beyond (in_square r o) (number_lexemes n rest) ≡ goes_beyond (in_square r o) rest
number_deep r o (pos n) rest quiet = unless (is_beyond (in_square r o)) (goes_beyond (in_square r o) rest) quiet
number_deep r o (negsuc n) rest quiet =
    unless (is_beyond (in_square r o)) (goes_beyond (in_square r o) (Number (suc n) ∷ rest)) quiet ∙ unless (is_beyond (in_square r o)) (goes_beyond (in_square r o) rest) quiet

more_deep : (r o : ℕ) (ns : List ℤ) (rest : List Lexeme) → is_beyond (in_square r o) ≡ false → goes_beyond (in_square r o) (more_lexemes ns rest) ≡ goes_beyond (in_square r o) rest
more_deep r o [] rest quiet = refl
more_deep r o (n ∷ ns) rest quiet =
    unless (is_beyond (in_square r o)) (goes_beyond (in_square r o) (number_lexemes n (more_lexemes ns rest))) quiet
    ∙ number_deep r o n (more_lexemes ns rest) quiet ∙ more_deep r o ns rest quiet

numbers_deep : (r o : ℕ) (ns : List ℤ) (rest : List Lexeme) → is_beyond (in_square r o) ≡ false → goes_beyond (in_square r o) (numbers_lexemes ns rest) ≡ goes_beyond (in_square r o) rest
numbers_deep r o [] rest quiet = refl
numbers_deep r o (n ∷ ns) rest quiet = number_deep r o n (more_lexemes ns rest) quiet ∙ more_deep r o ns rest quiet

-- in a call each minus is one
abbrev in_call : ℕ → Counts
in_call o = record { round = 1; square = 0; operators = o }

quiet_call : (o : ℕ) → o ≤ 256 → is_beyond (in_call o) ≡ false
quiet_call o few = le-ltb 256 o few

closed_deep : (o : ℕ) → o ≤ 256 → goes_beyond (in_call o) (Close ∷ []) ≡ false
closed_deep o few = unless (nat_lt 256 o) false (le-ltb 256 o few)

given_deep : (o : ℕ) (n : ℤ) (rest : List Lexeme) → o + 1 ≤ 256 → ((k : ℕ) → k ≤ o + 1 → goes_beyond (in_call k) rest ≡ false) → goes_beyond (in_call o) (number_lexemes n rest) ≡ false
given_deep o (pos n) rest few behind =
    unless (is_beyond (in_call o)) (goes_beyond (in_call o) rest) (quiet_call o (omega arith)) ∙ behind o (omega arith)
given_deep o (negsuc n) rest few behind =
    unless (is_beyond (in_call (o + 1))) (goes_beyond (in_call (o + 1)) (Number (suc n) ∷ rest)) (quiet_call (o + 1) few)
    ∙ unless (is_beyond (in_call (o + 1))) (goes_beyond (in_call (o + 1)) rest) (quiet_call (o + 1) few)
    ∙ behind (o + 1) (omega arith)

further_deep : (o : ℕ) (ns : List ℤ) → o + length ns ≤ 256 → goes_beyond (in_call o) (more_lexemes ns (Close ∷ [])) ≡ false
further_deep o [] few = closed_deep o (omega arith)
further_deep o (n ∷ ns) few =
    unless (is_beyond (in_call o)) (goes_beyond (in_call o) (number_lexemes n (more_lexemes ns (Close ∷ [])))) (quiet_call o (omega arith))
    ∙ given_deep o n (more_lexemes ns (Close ∷ [])) (omega arith) (λ k within'. further_deep k ns (omega arith))

call_deep : (ns : List ℤ) → length ns ≤ 100 → goes_beyond (in_call 1) (numbers_lexemes ns (Close ∷ [])) ≡ false
call_deep [] few = refl
call_deep (n ∷ ns) few = given_deep 1 n (more_lexemes ns (Close ∷ [])) (omega arith) (λ k within'. further_deep k ns (omega arith))

not_large : (n : ℕ) → n ≤ 9223372036854775807 → is_large (Number n) ≡ false
not_large n small = le-ltb 9223372036854775807 n small

sizes_large : (ds : List ℕ) (rest : List Lexeme) → AllSmall ds → has_large (sizes_lexemes ds rest) ≡ has_large rest
sizes_large [] rest small = refl
sizes_large (d ∷ ds) rest small = ap (λ b. b || has_large (sizes_lexemes ds rest)) (not_large d (omega (arith, small.0))) ∙ sizes_large ds rest small.1

number_large : (n : ℤ) (rest : List Lexeme) → Fits n → has_large (number_lexemes n rest) ≡ has_large rest
number_large (pos n) rest fits = ap (λ b. b || has_large rest) (not_large n (omega (arith, fits)))
number_large (negsuc n) rest fits = ap (λ b. b || has_large rest) (not_large (suc n) (omega (arith, fits)))

more_large : (ns : List ℤ) (rest : List Lexeme) → AllFit ns → has_large (more_lexemes ns rest) ≡ has_large rest
more_large [] rest fit = refl
more_large (n ∷ ns) rest fit = number_large n (more_lexemes ns rest) fit.0 ∙ more_large ns rest fit.1

numbers_large : (ns : List ℤ) (rest : List Lexeme) → AllFit ns → has_large (numbers_lexemes ns rest) ≡ has_large rest
numbers_large [] rest fit = refl
numbers_large (n ∷ ns) rest fit = number_large n (more_lexemes ns rest) fit.0 ∙ more_large ns rest fit.1

module _ (scan : RaggedIsScanned) where
  sizes_ragged : (ds : List ℕ) (rest : List Lexeme) → ragged_in (sizes_lexemes ds rest) ≡ ragged_in rest
  sizes_ragged [] rest = refl
  sizes_ragged (d ∷ ds) rest = scan.passes Comma (Number d ∷ sizes_lexemes ds rest) refl ∙ scan.passes (Number d) (sizes_lexemes ds rest) refl ∙ sizes_ragged ds rest

  number_ragged : (n : ℤ) (rest : List Lexeme) → ragged_in (number_lexemes n rest) ≡ ragged_in rest
  number_ragged (pos n) rest = scan.passes (Number n) rest refl
  number_ragged (negsuc n) rest = scan.passes (Operator Sub) (Number (suc n) ∷ rest) refl ∙ scan.passes (Number (suc n)) rest refl

  more_ragged : (ns : List ℤ) (rest : List Lexeme) → ragged_in (more_lexemes ns rest) ≡ ragged_in rest
  more_ragged [] rest = refl
  more_ragged (n ∷ ns) rest = scan.passes Comma (number_lexemes n (more_lexemes ns rest)) refl ∙ number_ragged n (more_lexemes ns rest) ∙ more_ragged ns rest

  numbers_ragged : (ns : List ℤ) (rest : List Lexeme) → ragged_in (numbers_lexemes ns rest) ≡ ragged_in rest
  numbers_ragged [] rest = refl
  numbers_ragged (n ∷ ns) rest = number_ragged n (more_lexemes ns rest) ∙ more_ragged ns rest

-- lexemes that are no `[` are passed
abbrev Passed : List Lexeme → Type 0
Passed [] = Unit {0}
Passed (t ∷ ts) = ((us : List Lexeme) → after OpenSquare (t ∷ us) ≡ None) × Passed ts

passes_front : RaggedIsScanned → (front rest : List Lexeme) → Passed front → ragged_in (front ++ rest) ≡ ragged_in rest
passes_front scan [] rest passed = refl
passes_front scan (t ∷ ts) rest passed = scan.passes t (ts ++ rest) (passed.0 (ts ++ rest)) ∙ passes_front scan ts rest passed.1

-- what holds of the lexemes of a line
record IsSpelled (source : List ℕ) (tree : StatementTree) (ts : List Lexeme) : Type 0 where
  not_deep : is_too_deep ts ≡ false
  not_large : has_large ts ≡ false
  not_ragged : ragged_in ts ≡ false
  spells : SpellsStatement source tree ts

pub record Laws : Type 0 where
  pub read : WrittenAreRead
  pub longest : ApartAreLongest
  pub strings : QuotedAreStrings
  pub types : TypeWordsAreWords
  pub parsed_law : TokensAreParsed
  pub scan : RaggedIsScanned

module _ (laws : Laws) where
  spelled_line : (source : List ℕ) (l : Line) → IsLine l → Stand source 0 (line_items l) → IsSpelled source (line_tree l) (lexemes_at 0 (line_items l))
  spelled_line source (root_line x ty ds) is stand =
      let at : ℕ = 0 + length x + 1 + length (codes "=") + 1 in
      let w : Span = span_at at (codes "zeroes") in
      let v : Span = span_at (at + length (codes "zeroes") + length (codes "(")) (type_word ty) in
      let ts : List Lexeme = Name (span_at 0 x) ∷ Equals ∷ Word Plain w ∷ Open ∷ Word (OfType ty) v ∷ sizes_lexemes ds (Close ∷ []) in
      let lexed : lexemes_at 0 (line_items (root_line x ty ds)) ≡ ts =
      ap₂ (λ t us. Name (span_at 0 x) ∷ Equals ∷ Word Plain w ∷ Open ∷ t ∷ us) (laws.types.types ty v) (sizes_lexed (v.to) ds is.1) in
      subst (λ us. IsSpelled source (line_tree (root_line x ty ds)) us) (sym lexed) (record {
        not_deep = sizes_deep (record { round = 1; square = 0; operators = 0 }) ds (Close ∷ []) refl;
        not_large = sizes_large ds (Close ∷ []) is.1;
        not_ragged = passes_front laws.scan (Name (span_at 0 x) ∷ Equals ∷ Word Plain w ∷ Open ∷ Word (OfType ty) v ∷ []) (sizes_lexemes ds (Close ∷ [])) (λ us. refl, (λ us. refl, (λ us. refl, (λ us. refl, (λ us. refl, tt)))))
            ∙ sizes_ragged laws.scan ds (Close ∷ []) ∙ passes_front laws.scan (Close ∷ []) [] (λ us. refl, tt);
        spells = subst (λ t. SpellsStatement source t ts) (ap₂ (λ a f. bind a (call f (with_sizes (of_type none ty) ds)) false) stand.0 stand.1.1.0)
            (root_spelled source (span_at 0 x) w v ty ds is.1);
      })
  spelled_line source (kernel_line name signature code) is stand =
      let a : ℕ = 0 + length (codes "pp_def") + length (codes "(") in
      let ts : List Lexeme = lexemes_at 0 (line_items (kernel_line name signature code)) in
      record {
        not_deep = refl;
        not_large = refl;
        not_ragged = passes_front laws.scan ts [] (λ us. refl, (λ us. refl, (λ us. refl, (λ us. refl, (λ us. refl, (λ us. refl, (λ us. refl, (λ us. refl, tt))))))));
        spells = subst (λ t. SpellsStatement source t ts)
            (ap₂ (λ (f : List ℕ) (gh : List ℕ × List ℕ). pp_def f gh.0 gh.1) (stand.1.1.0 (quote_of name) name refl)
            (ap₂ {C = List ℕ × List ℕ} (λ g h. (g, h)) (stand.1.1.1.1.0 (quote_of signature) signature refl) (stand.1.1.1.1.1.1.0 (quote_of code) code refl)))
            (defines plain_text plain_text);
      }
  spelled_line source (view_line x y (sliced args)) is stand =
      let at : ℕ = 0 + length x + 1 + length (codes "=") + 1 in
      let w : ℕ = at + length y + length (codes "->") in
      let q : ℕ = w + length (codes "slice") + length (codes "(") in
      let t : List ℕ = slice_text args in
      let ts : List Lexeme = lexemes_at 0 (line_items (view_line x y (sliced args))) in
      record {
        not_deep = refl;
        not_large = refl;
        not_ragged = passes_front laws.scan ts [] (λ us. refl, (λ us. refl, (λ us. refl, (λ us. refl, (λ us. refl, (λ us. refl, (λ us. refl, (λ us. refl, tt))))))));
        spells = subst (λ t'. SpellsStatement source t' ts)
            (ap₂ (λ a e. bind a e false) stand.0
            (ap₂ call stand.1.1.1.1.0 (ap₂ (λ b c. text (value none (named b)) c) stand.1.1.0 (stand.1.1.1.1.1.1.0 34 t refl))))
            (view_spelled source (span_at 0 x) (span_at at y) (span_at w (codes "slice")) _ _ (within (all_args (one a_text))));
      }
  spelled_line source (view_line x y (numbered word ns)) is stand =
      let at : ℕ = 0 + length x + 1 + length (codes "=") + 1 in
      let w : ℕ = at + length y + length (codes "->") in
      let ts : List Lexeme = Name (span_at 0 x) ∷ Equals ∷ Name (span_at at y) ∷ Arrow ∷ Word View (span_at w word) ∷ Open ∷ numbers_lexemes ns (Close ∷ []) in
      let lexed : lexemes_at 0 (line_items (view_line x y (numbered word ns))) ≡ ts =
      ap₂ (λ u us. Name (span_at 0 x) ∷ Equals ∷ Name (span_at at y) ∷ Arrow ∷ u ∷ Open ∷ us) (is.2.0.1 (span_at w word))
      (numbers_lexed (w + length word + length (codes "(")) ns close (Close ∷ []) is.2.1 (λ place. refl)) in
      subst (λ us. IsSpelled source (line_tree (view_line x y (numbered word ns))) us) (sym lexed) (record {
        not_deep = call_deep ns is.2.2;
        not_large = numbers_large ns (Close ∷ []) is.2.1;
        not_ragged = passes_front laws.scan (Name (span_at 0 x) ∷ Equals ∷ Name (span_at at y) ∷ Arrow ∷ Word View (span_at w word) ∷ Open ∷ []) (numbers_lexemes ns (Close ∷ [])) (λ us. refl, (λ us. refl, (λ us. refl, (λ us. refl, (λ us. refl, (λ us. refl, tt))))))
            ∙ numbers_ragged laws.scan ns (Close ∷ []) ∙ passes_front laws.scan (Close ∷ []) [] (λ us. refl, tt);
        spells = subst (λ t'. SpellsStatement source t' ts)
            (ap₂ (λ a e. bind a e false) stand.0 (ap₂ (λ f b. call f (with_numbers (value none (named b)) ns)) stand.1.1.1.1.0 stand.1.1.0))
            (view_spelled source (span_at 0 x) (span_at at y) (span_at w word) _ _ (numbers_spelled source _ ns is.2.1));
      })
  spelled_line source (view_line x y (chosen word index)) is stand =
      let at : ℕ = 0 + length x + 1 + length (codes "=") + 1 in
      let w : ℕ = at + length y + length (codes "->") in
      let i : ℕ = w + length word + length (codes "(") in
      let ts : List Lexeme = Name (span_at 0 x) ∷ Equals ∷ Name (span_at at y) ∷ Arrow ∷ Word View (span_at w word) ∷ Open ∷ Name (span_at i index) ∷ Close ∷ [] in
      let lexed : lexemes_at 0 (line_items (view_line x y (chosen word index))) ≡ ts =
      ap (λ u. Name (span_at 0 x) ∷ Equals ∷ Name (span_at at y) ∷ Arrow ∷ u ∷ Open ∷ Name (span_at i index) ∷ Close ∷ []) (is.2.0.1 (span_at w word)) in
      subst (λ us. IsSpelled source (line_tree (view_line x y (chosen word index))) us) (sym lexed) (record {
        not_deep = refl;
        not_large = refl;
        not_ragged = passes_front laws.scan ts [] (λ us. refl, (λ us. refl, (λ us. refl, (λ us. refl, (λ us. refl, (λ us. refl, (λ us. refl, (λ us. refl, tt))))))));
        spells = subst (λ t'. SpellsStatement source t' ts)
            (ap₂ (λ a e. bind a e false) stand.0
            (ap₂ call stand.1.1.1.1.0 (ap₂ (λ b c. value (value none (named b)) (named c)) stand.1.1.0 stand.1.1.1.1.1.1.0)))
            (view_spelled source (span_at 0 x) (span_at at y) (span_at w word) _ _ (within (all_args (one (a_value (as_expr (bare a_name)))))));
      })
  spelled_line source (view_line x y (ranged index sizes edge)) is stand =
      let at : ℕ = 0 + length x + 1 + length (codes "=") + 1 in
      let w : ℕ = at + length y + length (codes "->") in
      let i : ℕ = w + length (codes "range") + length (codes "(") in
      let end : List Lexeme = CloseSquare ∷ Comma ∷ Number edge ∷ Close ∷ [] in
      let list : List Lexeme = OpenSquare ∷ numbers_lexemes sizes end in
      let front : List Lexeme = Name (span_at 0 x) ∷ Equals ∷ Name (span_at at y) ∷ Arrow ∷ Word View (span_at w (codes "range")) ∷ Open ∷ Name (span_at i index) ∷ Comma ∷ Keyword Pdl ∷ [] in
      let ts : List Lexeme = front ++ list in
      let lexed : lexemes_at 0 (line_items (view_line x y (ranged index sizes edge))) ≡ ts =
      ap (λ us. Name (span_at 0 x) ∷ Equals ∷ Name (span_at at y) ∷ Arrow ∷ Word View (span_at w (codes "range")) ∷ Open ∷ Name (span_at i index) ∷ Comma ∷ Keyword Pdl ∷ OpenSquare ∷ us)
      (numbers_lexed (i + length index + length (codes ",") + length (codes "pdl") + 1 + length (codes "[")) sizes (edge_items edge) end is.2.1 (λ place. edge_lexed place edge is.2.2)) in
      subst (λ us. IsSpelled source (line_tree (view_line x y (ranged index sizes edge))) us) (sym lexed) (record {
        not_deep = numbers_deep 1 1 sizes end refl;
        not_large = numbers_large sizes end is.2.1 ∙ ap (λ b. b || false) (not_large edge (omega (arith, is.2.2)));
        not_ragged = passes_front laws.scan front list (λ us. refl, (λ us. refl, (λ us. refl, (λ us. refl, (λ us. refl, (λ us. refl, (λ us. refl, (λ us. refl, (λ us. refl, tt)))))))))
            ∙ laws.scan.lists list (Comma ∷ Number edge ∷ Close ∷ []) (Some (length sizes ∷ [])) sizes (any_list_spelled sizes (Comma ∷ Number edge ∷ Close ∷ []) is.2.1)
            ∙ passes_front laws.scan (Comma ∷ Number edge ∷ Close ∷ []) [] (λ us. refl, (λ us. refl, (λ us. refl, tt)));
        spells = subst (λ t'. SpellsStatement source t' ts)
            (ap₂ (λ a e. bind a e false) stand.0
            (ap₂ call stand.1.1.1.1.0 (ap₂ (λ b c. value (value (value (value none (named b)) (named c)) (list_tree sizes)) (a_tree (pos edge))) stand.1.1.0 stand.1.1.1.1.1.1.0)))
            (view_spelled source (span_at 0 x) (span_at at y) (span_at w (codes "range")) _ _ (range_spelled source _ (span_at i index) sizes edge is.2.1 is.2.2));
      })
  spelled_line source (piece_line x a b n ns) is stand =
      let f : ℕ = 0 + length x + length (codes "->") in
      let w : ℕ = f + length (codes "flat") + length (codes "->") in
      let q : ℕ = w + length (codes "slice") + length (codes "(") in
      let string : List ℕ = 34 ∷ (range_text a b ++ 34 ∷ []) in
      let numbers : List Lexeme = number_lexemes n (more_lexemes ns (CloseSquare ∷ [])) in
      let ts : List Lexeme = Name (span_at 0 x) ∷ Arrow ∷ Word View (span_at f (codes "flat")) ∷ Arrow ∷ Word View (span_at w (codes "slice")) ∷ Open ∷ Quoted (inside_at q string) ∷ Close ∷ Assign Set ∷ Keyword Pdl ∷ OpenSquare ∷ numbers in
      let lexed : lexemes_at 0 (line_items (piece_line x a b n ns)) ≡ ts =
      ap (λ us. Name (span_at 0 x) ∷ Arrow ∷ Word View (span_at f (codes "flat")) ∷ Arrow ∷ Word View (span_at w (codes "slice")) ∷ Open ∷ Quoted (inside_at q string) ∷ Close ∷ Assign Set ∷ Keyword Pdl ∷ OpenSquare ∷ us)
      (numbers_lexed (q + length string + length (codes ")") + 1 + length (codes ".=") + 1 + length (codes "pdl") + 1 + length (codes "[")) (n ∷ ns) close_square (CloseSquare ∷ []) is.3 (λ place. refl)) in
      subst (λ us. IsSpelled source (line_tree (piece_line x a b n ns)) us) (sym lexed) (record {
        not_deep = numbers_deep 0 2 (n ∷ ns) (CloseSquare ∷ []) refl;
        not_large = number_large n (more_lexemes ns (CloseSquare ∷ [])) is.3.0 ∙ more_large ns (CloseSquare ∷ []) is.3.1;
        not_ragged = passes_front laws.scan (Name (span_at 0 x) ∷ Arrow ∷ Word View (span_at f (codes "flat")) ∷ Arrow ∷ Word View (span_at w (codes "slice")) ∷ Open ∷ Quoted (inside_at q string) ∷ Close ∷ Assign Set ∷ Keyword Pdl ∷ []) (OpenSquare ∷ numbers)
            (λ us. refl, (λ us. refl, (λ us. refl, (λ us. refl, (λ us. refl, (λ us. refl, (λ us. refl, (λ us. refl, (λ us. refl, (λ us. refl, tt))))))))))
            ∙ laws.scan.lists (OpenSquare ∷ numbers) [] (Some (length (n ∷ ns) ∷ [])) (n ∷ ns) (list_spelled n ns [] is.3);
        spells = subst (λ t'. SpellsStatement source t' ts)
            (ap₂ (λ a' vs. assign a' vs Set (literal (type_of (n ∷ ns)) (length (n ∷ ns) ∷ []) (n ∷ ns))) stand.0
            (ap₂ (λ v v'. v ∷ v' ∷ []) (ap (λ t'. (t', none)) stand.1.1.0) (ap₂ (λ t' c. (t', text none c)) stand.1.1.1.1.0 (stand.1.1.1.1.1.1.0 34 (range_text a b) refl))))
            (piece_spelled source (span_at 0 x) (span_at f (codes "flat")) (span_at w (codes "slice")) (inside_at q string) n ns (span_at 0 x) is.3);
      })
  spelled_line source (least_line x p) is stand =
      let f : ℕ = 0 + length x + length (codes "->") in
      let w : ℕ = f + length (codes "flat") + length (codes "->") in
      let q : ℕ = w + length (codes "slice") + length (codes "(") in
      let string : List ℕ = 34 ∷ (decimal p ++ 34 ∷ []) in
      let v : ℕ = q + length string + length (codes ")") + 1 + length (codes ".=") + 1 in
      record {
        not_deep = refl;
        not_large = refl;
        not_ragged = passes_front laws.scan (lexemes_at 0 (line_items (least_line x p))) [] (λ us. refl, (λ us. refl, (λ us. refl, (λ us. refl, (λ us. refl, (λ us. refl, (λ us. refl, (λ us. refl, (λ us. refl, (λ us. refl, (λ us. refl, (λ us. refl, (λ us. refl, (λ us. refl, (λ us. refl, tt)))))))))))))));
        spells = subst (λ t'. SpellsStatement source t' (lexemes_at 0 (line_items (least_line x p))))
            (ap₂ (λ a vs. assign a vs Set (binary Shl (call (bytes_at source (span_at v (codes "longlong"))) (value none (a_tree (pos 1)))) (a_tree (pos 63)))) stand.0
            (ap₂ (λ v' v''. v' ∷ v'' ∷ []) (ap (λ t'. (t', none)) stand.1.1.0) (ap₂ (λ t' c. (t', text none c)) stand.1.1.1.1.0 (stand.1.1.1.1.1.1.0 34 (decimal p) refl)))
            ∙ ap (λ w'. assign x ((codes "flat", none) ∷ (codes "slice", text none (decimal p)) ∷ []) Set (binary Shl (call w' (value none (a_tree (pos 1)))) (a_tree (pos 63)))) stand.1.1.1.1.1.1.1.1.1.0)
            (least_spelled source (span_at 0 x) (span_at f (codes "flat")) (span_at w (codes "slice")) (inside_at q string) (span_at v (codes "longlong")));
      }
  spelled_line source (same_line x y) is stand =
      let at : ℕ = 0 + length x + 1 + length (codes "=") + 1 in
      record {
        not_deep = refl;
        not_large = refl;
        not_ragged = passes_front laws.scan (lexemes_at 0 (line_items (same_line x y))) [] (λ us. refl, (λ us. refl, (λ us. refl, tt)));
        spells = subst (λ t'. SpellsStatement source t' (lexemes_at 0 (line_items (same_line x y)))) (ap₂ (λ a b. bind a (named b) false) stand.0 stand.1.1.0)
            (binds (binds_value (as_expr (bare a_name))));
      }
  spelled_line source (undef_line x) is stand =
      record {
        not_deep = refl;
        not_large = refl;
        not_ragged = passes_front laws.scan (lexemes_at 0 (line_items (undef_line x))) [] (λ us. refl, (λ us. refl, tt));
        spells = subst (λ t'. SpellsStatement source t' (lexemes_at 0 (line_items (undef_line x)))) (ap undef stand.1.0) undefs;
      }

  pub lines_are_read : LinesAreRead
  lines_are_read l is =
      let items = line_items l in
      let source : List ℕ = text_of items [] in
      let stand = all_stand source 0 items refl in
      let spelled = spelled_line source l is stand in
      subst (λ bytes. ReadsAs bytes (line_tree l)) (line_is l) (record {
        tokens = placed 0 items;
        lexed = apart_are_read laws.longest laws.read items (line_apart laws.strings laws.types l is);
        is = (laws.parsed_law source (placed 0 items) (Ok (line_tree l))).1 (subst (λ ts. Found source ts (line_tree l)) (sym (all_lexed source 0 items stand)) (record {
          passes = record { not_deep = spelled.not_deep; not_large = spelled.not_large };
          spells = spelled.spells;
          not_ragged = λ holds. no_ragged (lexemes_at 0 items) spelled.not_ragged holds;
        }));
      })
    where
      no_ragged : (ts : List Lexeme) → ragged_in ts ≡ false → HoldsRagged ts → ⊥
      no_ragged ts never holds = let some : ragged_in ts ≡ true = (laws.scan.held ts).1 holds in absurd (cc)
