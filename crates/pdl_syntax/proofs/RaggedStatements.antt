-- The statement that lexemes spell has a ragged list exactly where they hold one.
use Rattle.std.proofs.Common.{◌≡◌, ℕ, ℤ, suc, ◌*◌, List, [], ◌∷◌, ◌++◌, length, Bool, true, false, ◌||◌, not, Option, Some, None, refl, ap, sym, ◌∙◌, arith, eq-eqb, ne_eqb}
use Rattle.std.proofs.Math.Bool.{or_assoc, or-false}
use Rattle.std.specs.List.{list_any}
use Rattle.pdl_shape.specs.Shape.{size_of}
use Rattle.pdl_lexemes.specs.declared.Lexeme.{Lexeme}
use Rattle.pdl_lexemes.specs.declared.Lexeme.TheVariants.{Name, Keyword, Word, Number, Quoted, Open, Close, Comma, Equals, Arrow, FatArrow, Assign, Operator, Prefix}
use Rattle.pdl_lexemes.specs.declared.WordKind.{WordKind}
use Rattle.pdl_lexemes.specs.declared.WordKind.TheVariants.{View as IsView, OfType}
use Rattle.pdl_lexemes.specs.declared.Keyword.TheVariants.{My, Print, Undef, Vars, Dump, Flow, PpDef, Watch, Unwatch, Pdl, Info, Sever, Reshape}
use Rattle.pdl_elem.specs.declared.BinaryOp.TheVariants.{Sub}
use Rattle.pdl_lexemes.specs.Lists.{HoldsRagged}
use Rattle.pdl_lexemes.specs.Depth.{without_shape, ragged_in}
use Rattle.pdl_lexemes.specs.Laws.{FillsArray, ListsAreArrays, RaggedIsScanned}
use Rattle.pdl_syntax.specs.Tree.{Tree}
use Rattle.pdl_syntax.specs.Grammar.{literal_of, Spells, Part, an_expr, a_postfix, a_primary, an_arg, some_args, closed_args, maybe_args, same, joined, once, negated, prefixed, plain, bare, method, a_number, a_name, list, round_list, called, round, a_value, a_text, a_type, one, more as more_args, no_args, all_args, without, within}
use Rattle.pdl_syntax.specs.Ragged.{is_ragged, are_ragged, in_views, in_statement}
use Rattle.pdl_syntax.specs.StatementTree.{StatementTree, View}
use Rattle.pdl_syntax.specs.Statements.{SpellsBrackets, no_brackets, brackets, SpellsNames, one_name, more_names, SpellsViews, no_views, one_view, SpellsText, plain_text, labelled, SpellsCalled, by_word, by_method, SpellsBinding, binds_value, binds_severed, binds_names, SpellsStatement, binds, my_binds, assigns, shows_text, shows, shows_info, severs, reshapes, undefs, lists_names, dumps, flows, defines, watches, unwatches}

pub any_last : {A : Type 0} (p : A → Bool) (xs : List A) (y : A) → list_any p (xs ++ y ∷ []) ≡ (list_any p xs || p y)
any_last p [] y = or-false (p y)
any_last p (x ∷ xs) y = ap (λ b. p x || b) (any_last p xs y) ∙ sym (or_assoc (p x) (list_any p xs) (p y))

-- a ragged list is no array, and each other one is
literal_ragged : (shape : Option (List ℕ)) (elems : List ℤ) → FillsArray shape elems → is_ragged (literal_of shape elems) ≡ without_shape shape
literal_ragged None elems fills = ap not (ne_eqb (length elems) (suc (length elems) * 1) (λ e. omega (arith, e)))
literal_ragged (Some d) elems fills = ap not (eq-eqb (length elems) (size_of d) fills.count)

module _ (scan : RaggedIsScanned) (arrays : ListsAreArrays) where
  -- what stands behind a value, by what stands behind its front
  chain : (a b : Bool) (x y z : Bool) → x ≡ (a || y) → y ≡ (b || z) → x ≡ ((a || b) || z)
  chain a b x y z first next = first ∙ ap (λ u. a || u) next ∙ sym (or_assoc a b z)

  -- where the rest holds one, or the part has one that what stands before it hasn't, the lexemes hold one
  abbrev Counts : Part → List Lexeme → List Lexeme → Type 0
  Counts (an_expr l t) ts rest = ragged_in ts ≡ (is_ragged t || ragged_in rest)
  Counts (a_postfix t) ts rest = ragged_in ts ≡ (is_ragged t || ragged_in rest)
  Counts (a_primary t) ts rest = ragged_in ts ≡ (is_ragged t || ragged_in rest)
  Counts (an_arg front all) ts rest = (are_ragged front || ragged_in ts) ≡ (are_ragged all || ragged_in rest)
  Counts (some_args front all) ts rest = (are_ragged front || ragged_in ts) ≡ (are_ragged all || ragged_in rest)
  Counts (closed_args front all) ts rest = (are_ragged front || ragged_in ts) ≡ (are_ragged all || ragged_in rest)
  Counts (maybe_args front all) ts rest = (are_ragged front || ragged_in ts) ≡ (are_ragged all || ragged_in rest)

  counts : {source : List ℕ} {p : Part} {ts rest : List Lexeme} → Spells source p ts rest → Counts p ts rest
  counts (same h) = counts h
  counts (joined {a = a} {b = b} {op = op} {us = us} {rest = rest} h e m k) = chain (is_ragged a) (is_ragged b) _ _ (ragged_in rest) (counts h) (scan.passes (Operator op) us refl ∙ counts k)
  counts (once {a = a} {b = b} {op = op} {us = us} {rest = rest} h e m k) = chain (is_ragged a) (is_ragged b) _ _ (ragged_in rest) (counts h) (scan.passes (Operator op) us refl ∙ counts k)
  counts (negated {ts = ts} h) = scan.passes (Operator Sub) ts refl ∙ counts h
  counts (prefixed {op = op} {ts = ts} h) = scan.passes (Prefix op) ts refl ∙ counts h
  counts (plain h) = counts h
  counts (bare h) = counts h
  counts (method {t = t} {kind = kind} {w = w} {us = us} h k) =
      counts h ∙ ap (λ u. is_ragged t || u) (scan.passes Arrow (Word kind w ∷ us) refl ∙ scan.passes (Word kind w) us refl) ∙ counts k
  counts (a_number {n = n} {rest = rest} e) = scan.passes (Number n) rest refl
  counts (a_name {w = w} {rest = rest}) = scan.passes (Name w) rest refl
  counts (list {shape = shape} {elems = elems} {ts = ts} {rest = rest} h) =
      scan.passes (Keyword Pdl) ts refl ∙ scan.lists ts rest shape elems h
      ∙ ap (λ u. u || ragged_in rest) (sym (literal_ragged shape elems (arrays ts rest shape elems h)))
  counts (round_list {shape = shape} {elems = elems} {ts = ts} {rest = rest} h) =
      scan.passes (Keyword Pdl) (Open ∷ ts) refl ∙ scan.passes Open ts refl ∙ scan.lists ts (Close ∷ rest) shape elems h
      ∙ ap (λ u. without_shape shape || u) (scan.passes Close rest refl)
      ∙ ap (λ u. u || ragged_in rest) (sym (literal_ragged shape elems (arrays ts (Close ∷ rest) shape elems h)))
  counts (called {kind = kind} {w = w} {ts = ts} h) = scan.passes (Word kind w) (Open ∷ ts) refl ∙ scan.passes Open ts refl ∙ counts h
  counts (round {t = t} {ts = ts} {rest = rest} h) = scan.passes Open ts refl ∙ counts h ∙ ap (λ u. is_ragged t || u) (scan.passes Close rest refl)
  counts (a_value {front = front} {t = t} {rest = rest} h) =
      ap (λ u. are_ragged front || u) (counts h) ∙ sym (or_assoc (are_ragged front) (is_ragged t) (ragged_in rest))
  counts (a_text {front = front} {w = w} {rest = rest}) = ap (λ u. are_ragged front || u) (scan.passes (Quoted w) rest refl)
  counts (a_type {front = front} {ty = ty} {w = w} {rest = rest}) = ap (λ u. are_ragged front || u) (scan.passes (Word (OfType ty) w) rest refl)
  counts (one h) = counts h
  counts (more_args {args = args} {us = us} h k) = counts h ∙ ap (λ u. are_ragged args || u) (scan.passes Comma us refl) ∙ counts k
  counts (no_args {front = front} {rest = rest}) = ap (λ u. are_ragged front || u) (scan.passes Close rest refl)
  counts (all_args {args = args} {rest = rest} h) = counts h ∙ ap (λ u. are_ragged args || u) (scan.passes Close rest refl)
  counts without = refl
  counts (within {front = front} {ts = ts} h) = ap (λ u. are_ragged front || u) (scan.passes Open ts refl) ∙ counts h

  brackets_scanned : {us : List Lexeme} → SpellsBrackets us → ragged_in us ≡ false
  brackets_scanned no_brackets = refl
  brackets_scanned brackets = scan.passes Open (Close ∷ []) refl ∙ scan.passes Close [] refl

  names_scanned : {source : List ℕ} {front names : List (List ℕ)} {ts rest : List Lexeme} → SpellsNames source front names ts rest → ragged_in ts ≡ ragged_in rest
  names_scanned (one_name {w = w} {rest = rest}) = scan.passes (Name w) rest refl
  names_scanned (more_names {w = w} {rest = rest} h) = names_scanned h ∙ scan.passes Comma (Name w ∷ rest) refl ∙ scan.passes (Name w) rest refl

  text_scanned : {source : List ℕ} {label : WordKind} {text : List ℕ} {ts rest : List Lexeme} → SpellsText source label text ts rest → ragged_in ts ≡ ragged_in rest
  text_scanned (plain_text {w = w} {rest = rest}) = scan.passes (Quoted w) rest refl
  text_scanned {label = label} (labelled {v = v} {w = w} {rest = rest}) =
      scan.passes (Word label v) (FatArrow ∷ Quoted w ∷ rest) refl ∙ scan.passes FatArrow (Quoted w ∷ rest) refl ∙ scan.passes (Quoted w) rest refl

  views_scanned : {source : List ℕ} {front views : List View} {ts rest : List Lexeme} → SpellsViews source front views ts rest
      → (in_views front || ragged_in ts) ≡ (in_views views || ragged_in rest)
  views_scanned no_views = refl
  views_scanned (one_view {views = views} {w = w} {args = args} {us = us} {rest = rest} h k) =
      views_scanned h
      ∙ ap (λ u. in_views views || u) (scan.passes Arrow (Word IsView w ∷ us) refl ∙ scan.passes (Word IsView w) us refl ∙ counts k)
      ∙ sym (or_assoc (in_views views) (are_ragged args) (ragged_in rest))
      ∙ ap (λ u. u || ragged_in rest) (sym (any_last (λ v. are_ragged v.1) views _))

  called_scanned : {source : List ℕ} {t : Tree} {ts : List Lexeme} → SpellsCalled source t ts → ragged_in ts ≡ is_ragged t
  called_scanned (by_word {kind = kind} {w = w} {args = args} {ts = ts} h) =
      scan.passes (Word kind w) (Open ∷ ts) refl ∙ scan.passes Open ts refl ∙ counts h ∙ or-false (are_ragged args)
  called_scanned (by_method {t = t} {kind = kind} {w = w} {args = args} {us = us} h k) =
      counts h ∙ ap (λ u. is_ragged t || u) (scan.passes Arrow (Word kind w ∷ us) refl ∙ scan.passes (Word kind w) us refl) ∙ counts k ∙ or-false (are_ragged args)

  -- a value up to the end, or before a word and brackets
  value_scanned : {source : List ℕ} {l : ℕ} {t : Tree} {ts : List Lexeme} → Spells source (an_expr l t) ts [] → ragged_in ts ≡ is_ragged t
  value_scanned {t = t} h = counts h ∙ or-false (is_ragged t)

  before_scanned : {source : List ℕ} {t : Tree} {ts : List Lexeme} (rest : List Lexeme) → Spells source (a_postfix t) ts rest → ragged_in rest ≡ false → ragged_in ts ≡ is_ragged t
  before_scanned {t = t} rest h none = counts h ∙ ap (λ u. is_ragged t || u) none ∙ or-false (is_ragged t)

  binding_scanned : {source : List ℕ} {s : StatementTree} {ts : List Lexeme} → SpellsBinding source s ts → ragged_in ts ≡ in_statement s
  binding_scanned (binds_value {w = w} {ts = ts} h) = scan.passes (Name w) (Equals ∷ ts) refl ∙ scan.passes Equals ts refl ∙ value_scanned h
  binding_scanned (binds_severed {w = w} {ts = ts} {us = us} h b) =
      scan.passes (Name w) (Equals ∷ ts) refl ∙ scan.passes Equals ts refl
      ∙ before_scanned (Arrow ∷ Keyword Sever ∷ us) h (scan.passes Arrow (Keyword Sever ∷ us) refl ∙ scan.passes (Keyword Sever) us refl ∙ brackets_scanned b)
  binding_scanned (binds_names {ts = ts} {us = us} h c) =
      scan.passes Open ts refl ∙ names_scanned h ∙ scan.passes Close (Equals ∷ us) refl ∙ scan.passes Equals us refl ∙ called_scanned c

  -- the scan of the lexemes finds what the statement has
  pub statement_scanned : {source : List ℕ} {s : StatementTree} {ts : List Lexeme} → SpellsStatement source s ts → ragged_in ts ≡ in_statement s
  statement_scanned (binds h) = binding_scanned h
  statement_scanned (my_binds {ts = ts} h) = scan.passes (Keyword My) ts refl ∙ binding_scanned h
  statement_scanned (assigns {w = w} {views = views} {op = op} {t = t} {ts = ts} {us = us} v h) =
      scan.passes (Name w) ts refl ∙ views_scanned v ∙ ap (λ u. in_views views || u) (scan.passes (Assign op) us refl ∙ value_scanned h)
  statement_scanned (shows_text {w = w}) = scan.passes (Keyword Print) (Quoted w ∷ []) refl ∙ scan.passes (Quoted w) [] refl
  statement_scanned (shows {ts = ts} h) = scan.passes (Keyword Print) ts refl ∙ value_scanned h
  statement_scanned (shows_info {ts = ts} {us = us} h b) =
      scan.passes (Keyword Print) ts refl
      ∙ before_scanned (Arrow ∷ Keyword Info ∷ us) h (scan.passes Arrow (Keyword Info ∷ us) refl ∙ scan.passes (Keyword Info) us refl ∙ brackets_scanned b)
  statement_scanned (severs {w = w} {us = us} b) =
      scan.passes (Name w) (Arrow ∷ Keyword Sever ∷ us) refl ∙ scan.passes Arrow (Keyword Sever ∷ us) refl ∙ scan.passes (Keyword Sever) us refl ∙ brackets_scanned b
  statement_scanned (reshapes {w = w} {args = args} {ts = ts} h) =
      scan.passes (Name w) (Arrow ∷ Keyword Reshape ∷ Open ∷ ts) refl ∙ scan.passes Arrow (Keyword Reshape ∷ Open ∷ ts) refl
      ∙ scan.passes (Keyword Reshape) (Open ∷ ts) refl ∙ scan.passes Open ts refl ∙ counts h ∙ or-false (are_ragged args)
  statement_scanned (undefs {w = w}) = scan.passes (Keyword Undef) (Name w ∷ []) refl ∙ scan.passes (Name w) [] refl
  statement_scanned lists_names = scan.passes (Keyword Vars) [] refl
  statement_scanned dumps = scan.passes (Keyword Dump) [] refl
  statement_scanned (flows {w = w} {ts = ts} h formula arrow) =
      scan.passes (Keyword Flow) (Name w ∷ Equals ∷ ts) refl ∙ scan.passes (Name w) (Equals ∷ ts) refl ∙ scan.passes Equals ts refl ∙ value_scanned h
  statement_scanned (defines {w = w} {ts = ts} {us = us} h k) =
      scan.passes (Keyword PpDef) (Open ∷ Quoted w ∷ Comma ∷ ts) refl ∙ scan.passes Open (Quoted w ∷ Comma ∷ ts) refl
      ∙ scan.passes (Quoted w) (Comma ∷ ts) refl ∙ scan.passes Comma ts refl
      ∙ text_scanned h ∙ scan.passes Comma us refl ∙ text_scanned k ∙ scan.passes Close [] refl
  statement_scanned (watches {w = w} {n = n} e) =
      scan.passes (Keyword Watch) (Name w ∷ Comma ∷ Number n ∷ []) refl ∙ scan.passes (Name w) (Comma ∷ Number n ∷ []) refl
      ∙ scan.passes Comma (Number n ∷ []) refl ∙ scan.passes (Number n) [] refl
  statement_scanned (unwatches {n = n} e) = scan.passes (Keyword Unwatch) (Number n ∷ []) refl ∙ scan.passes (Number n) [] refl

  -- so it has none where the lexemes hold none
  pub statement_clean : {source : List ℕ} {s : StatementTree} {ts : List Lexeme} → SpellsStatement source s ts → (HoldsRagged ts → ⊥) → in_statement s ≡ false
  statement_clean {s = s} {ts = ts} h none = of_test (in_statement s) refl
    where
      of_test : (b : Bool) → in_statement s ≡ b → b ≡ false
      of_test true e = absurd (none ((scan.held ts).0 (statement_scanned h ∙ e)))
      of_test false e = refl
