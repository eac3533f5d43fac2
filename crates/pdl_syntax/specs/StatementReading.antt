-- How a statement is read: the one way in which its lexemes spell it, if there is one.
use Rattle.std.specs.Prelude.{ℕ, zero, suc, nat_lt, List, [], ◌∷◌, ◌++◌, length, Bool, true, false, not, ◌&&◌, ◌||◌, Option, Some, None, option_map, option_and_then, if◌then◌else◌}
use Rattle.pdl_lemmas.specs.Options.{choose}
use Rattle.pdl_lexemes.specs.declared.Span.{Span}
use Rattle.pdl_lexemes.specs.declared.WordKind.TheVariants.{Pars, Code}
use Rattle.pdl_lexemes.specs.declared.Keyword.{Keyword as AnyKeyword}
use Rattle.pdl_lexemes.specs.declared.Keyword.TheVariants.{My, Print, Undef, Vars, Dump, Flow, PpDef, Watch, Unwatch, Info, Sever}
use Rattle.pdl_lexemes.specs.declared.Lexeme.{Lexeme}
use Rattle.pdl_lexemes.specs.declared.Lexeme.TheVariants.{Name, Keyword, Open, Close, Equals, Comma}
use Rattle.pdl_lexemes.specs.Bytes.{bytes_at}
use Rattle.pdl_lexemes.specs.Depth.{has_arrow}
use Rattle.pdl_lexemes.specs.Peeks.{Read, after, after_keyword, after_reshape, after_names, after_label, prefix_at, quoted_at, name_at, view_at, assign_at, slot_at, is_brackets, begins_word}
use Rattle.pdl_syntax.specs.Tree.{Tree, none}
use Rattle.pdl_syntax.specs.ExpressionReading.{Kind, expression, maybe_at, closed_at, primary_at, methods_at, postfix_at, grown_at, reader}
use Rattle.pdl_syntax.specs.Formulas.{is_formula}
use Rattle.pdl_syntax.specs.StatementTree.{StatementTree, View, bind, bind_list, assign, show, show_text, sever, reshape, undef, vars, dump, flow, pp_def, watch, unwatch}

-- what there is where nothing follows
abbrev pub at_end : {A : Type 0} → A → List Lexeme → Option A
at_end x [] = Some x
at_end x (t ∷ ts) = None

-- the sever of a name
abbrev pub sever_at : List ℕ → List Lexeme → Option StatementTree
sever_at name ts = if is_brackets ts then Some (sever name) else None

-- the flow of a formula in which no arrow stands
abbrev pub formula_at : List ℕ → List Lexeme → Tree → Option StatementTree
formula_at name ts t = if is_formula t && not (has_arrow ts) then Some (flow name t) else None

module _ (source : List ℕ) where
  -- a definition of the three strings at these places
  abbrev pub texts_at : Span → Span → Span → StatementTree
  texts_at name signature code = pp_def (bytes_at source name) (bytes_at source signature)
      (bytes_at source code)

  -- a definition from its code on, and from its signature on
  abbrev pub code_at : Span → Span → List Lexeme → Option StatementTree
  code_at name signature ts =
      option_and_then (λ c. option_and_then (at_end (texts_at name signature c.0))
      (after Close c.1)) (quoted_at (after_label Code ts))

  abbrev pub signature_at : Span → List Lexeme → Option StatementTree
  signature_at name ts =
      option_and_then (λ s. option_and_then (code_at name s.0) (after Comma s.1))
      (quoted_at (after_label Pars ts))

  abbrev pub define_at : List Lexeme → Option StatementTree
  define_at ts =
      option_and_then (λ us. option_and_then (λ n.
      option_and_then (signature_at n.0) (after Comma n.1)) (quoted_at us)) (after Open ts)

  abbrev pub undef_at : List Lexeme → Option StatementTree
  undef_at ts = option_and_then (λ x. at_end (undef (bytes_at source x.0)) x.1) (name_at ts)

  abbrev pub watch_at : List Lexeme → Option StatementTree
  watch_at ts =
      option_and_then (λ x. option_and_then (λ us.
      option_map (watch (bytes_at source x.0)) (slot_at us)) (after Comma x.1)) (name_at ts)

  -- the further names, at most k of them
  unfoldable pub names_at : ℕ → List (List ℕ) → List Lexeme → Read (List (List ℕ))
  names_at zero names ts = Some (names, ts)
  names_at (suc k) names ts =
      choose (Some (names, ts))
      (λ us. option_and_then (λ x. names_at k (names ++ bytes_at source x.0 ∷ []) x.1) (name_at us))
      (after Comma ts)

  abbrev pub all_names_at : List Lexeme → Read (List (List ℕ))
  all_names_at ts = option_and_then (λ x. names_at (length x.1) (bytes_at source x.0
      ∷ []) x.1) (name_at ts)

module _ (source : List ℕ) (f : Kind → List Lexeme → Read Tree) where
  -- an expression up to the end
  unfoldable pub expression_to_end_at : List Lexeme → Option Tree
  expression_to_end_at ts = option_and_then (λ x. at_end x.0 x.1) (f expression ts)

  -- what stands behind a postfix form: an arrow, this word and the end, or the rest of an
  -- expression up to the end; with the value, whether it's the first
  abbrev pub behind_at : AnyKeyword → Tree × List Lexeme → Option (Tree × Bool)
  behind_at word x =
      choose (option_map (λ t. (t, false)) (option_and_then (λ y.
      at_end y.0 y.1) (grown_at source f 7 x.0 x.1)))
      (λ us. if is_brackets us then Some (x.0, true) else None) (after_keyword word x.1)

  -- a postfix form before an arrow, this word and the end, or else an expression up to the end
  unfoldable pub valued_at : AnyKeyword → List Lexeme → Option (Tree × Bool)
  valued_at word ts =
      choose (option_and_then (behind_at word) (postfix_at source f ts)) (λ p.
      option_map (λ t. (t, false)) (expression_to_end_at ts)) (prefix_at ts)

  -- a call up to the end, by a word or by a method
  abbrev pub called_step : Bool → Tree × List Lexeme → Option Tree
  called_step by_word x =
      option_and_then (λ y. if by_word || nat_lt (length y.1) (length x.1)
      then at_end y.0 y.1 else None)
      (methods_at source f (length x.1) x.0 x.1)

  unfoldable pub called_at : List Lexeme → Option Tree
  called_at ts = option_and_then (called_step (begins_word ts)) (primary_at source f ts)

  abbrev pub bind_at : List ℕ → List Lexeme → Option StatementTree
  bind_at name ts = option_map (λ x. bind name x.0 x.1) (valued_at Sever ts)

  abbrev pub bind_names : List (List ℕ) × List Lexeme → Option StatementTree
  bind_names x =
      option_and_then (λ us. option_map (bind_list x.0) (called_at us)) (after_names x.1)

  unfoldable pub bind_list_at : List Lexeme → Option StatementTree
  bind_list_at ts = option_and_then bind_names (all_names_at source ts)

  -- the further views of a target, at most k of them
  unfoldable pub views_at : ℕ → List View → List Lexeme → Read (List View)
  views_at zero views ts = Some (views, ts)
  views_at (suc k) views ts =
      choose (Some (views, ts))
      (λ v. option_and_then (λ x. views_at k (views ++ (bytes_at source v.0, x.0) ∷ []) x.1)
      (maybe_at source f none v.1))
      (view_at ts)

  abbrev pub assign_value : List ℕ → List View × List Lexeme → Option StatementTree
  assign_value name x =
      option_and_then (λ a. option_map (assign name x.0 a.0) (expression_to_end_at a.1))
      (assign_at x.1)

  unfoldable pub assignment_at : List ℕ → List Lexeme → Option StatementTree
  assignment_at name ts = option_and_then (assign_value name) (views_at (length ts) [] ts)

  abbrev pub reshape_at : List ℕ → List Lexeme → Option StatementTree
  reshape_at name ts = option_and_then (λ x. at_end (reshape name x.0) x.1)
      (closed_at source f none ts)

  -- a statement that begins with a name
  unfoldable pub statement_of_name_at : List ℕ → List Lexeme → Option StatementTree
  statement_of_name_at name ts =
      choose
      (choose
      (choose (assignment_at name ts) (reshape_at name) (after_reshape ts))
      (sever_at name)
      (after_keyword Sever ts))
      (bind_at name)
      (after Equals ts)

  -- a binding behind `my`
  abbrev pub bind_name : Span × List Lexeme → Option StatementTree
  bind_name x = option_and_then (bind_at (bytes_at source x.0)) (after Equals x.1)

  unfoldable pub binding_at : List Lexeme → Option StatementTree
  binding_at ts = choose (option_and_then bind_name (name_at ts)) bind_list_at (after Open ts)

  -- what `p` shows
  abbrev pub value_at : List Lexeme → Option StatementTree
  value_at ts = option_map (λ x. show x.0 x.1) (valued_at Info ts)

  unfoldable pub show_at : List Lexeme → Option StatementTree
  show_at ts =
      choose (value_at ts) (λ x. at_end (show_text (bytes_at source x.0)) x.1) (quoted_at ts)

  -- a flow of a name from its formula on, and from its name on
  abbrev pub flow_value_at : List ℕ → List Lexeme → Option StatementTree
  flow_value_at name ts = option_and_then (formula_at name ts) (expression_to_end_at ts)

  abbrev pub flow_at : List Lexeme → Option StatementTree
  flow_at ts =
      option_and_then (λ x. option_and_then (flow_value_at (bytes_at source x.0))
      (after Equals x.1)) (name_at ts)

  -- the statement that all lexemes spell together, by the first of them
  unfoldable pub statement_at : List Lexeme → Option StatementTree
  statement_at [] = None
  statement_at (Keyword My ∷ ts) = binding_at ts
  statement_at (Keyword Print ∷ ts) = show_at ts
  statement_at (Keyword Undef ∷ ts) = undef_at source ts
  statement_at (Keyword Vars ∷ ts) = at_end vars ts
  statement_at (Keyword Dump ∷ ts) = at_end dump ts
  statement_at (Keyword Flow ∷ ts) = flow_at ts
  statement_at (Keyword PpDef ∷ ts) = define_at source ts
  statement_at (Keyword Watch ∷ ts) = watch_at source ts
  statement_at (Keyword Unwatch ∷ ts) = option_map unwatch (slot_at ts)
  statement_at (Open ∷ ts) = bind_list_at ts
  statement_at (Name w ∷ ts) = statement_of_name_at (bytes_at source w) ts
  statement_at _ = None

-- the statement that the lexemes of a text spell
abbrev pub read_statement : List ℕ → List Lexeme → Option StatementTree
read_statement source ts = statement_at source (reader source (suc (length ts))) ts
