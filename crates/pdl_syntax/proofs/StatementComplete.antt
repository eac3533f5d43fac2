-- Each spelled statement is read, so that lexemes are spelled by at most one.
use Rattle.std.proofs.Common.{◌≡◌, ℕ, ℤ, zero, suc, ◌<◌, ◌≤◌, List, [], ◌∷◌, ◌++◌, length, Bool, true, false, ◌||◌, nat_lt, Option, Some, None, option_map, option_and_then, if◌then◌else◌, refl, ap, sym, ◌∙◌, arith, lt-ltb}
use Rattle.pdl_elem.specs.declared.UnaryOp.{UnaryOp}
use Rattle.pdl_lexemes.specs.declared.AssignOp.{AssignOp}
use Rattle.pdl_lexemes.specs.declared.Span.{Span}
use Rattle.pdl_lexemes.specs.declared.WordKind.{WordKind}
use Rattle.pdl_lexemes.specs.declared.WordKind.TheVariants.{View as IsView, Pars, Code}
use Rattle.pdl_lexemes.specs.declared.Keyword.{Keyword as AnyKeyword}
use Rattle.pdl_lexemes.specs.declared.Keyword.TheVariants.{My, Print, Undef, Vars, Dump, Flow, PpDef, Watch, Unwatch, Info, Sever, Reshape}
use Rattle.pdl_lexemes.specs.declared.Lexeme.{Lexeme}
use Rattle.pdl_lexemes.specs.declared.Lexeme.TheVariants.{Name, Keyword, Word, Number, Quoted, Open, Close, Comma, Equals, Arrow, Assign}
use Rattle.pdl_lexemes.specs.Bytes.{bytes_at}
use Rattle.pdl_lexemes.specs.Depth.{has_arrow}
use Rattle.pdl_lexemes.specs.Lists.{signed}
use Rattle.pdl_lexemes.specs.Laws.{ListsAreRead}
use Rattle.pdl_lemmas.specs.Options.{some_inj, then_elim, choose}
use Rattle.pdl_lexemes.specs.Peeks.{Read, after, after_keyword, after_reshape, after_label, begins_word, is_brackets, prefix_at, quoted_at, slot_at, view_at}
use Rattle.pdl_syntax.specs.Tree.{Tree, Args, call, none, value}
use Rattle.pdl_syntax.specs.Grammar.{Spells, an_expr, a_postfix, called}
use Rattle.pdl_syntax.specs.ExpressionReading.{Kind, maybe_at, closed_at, primary_at, methods_at, postfix_at, grown_at, reader}
use Rattle.pdl_syntax.specs.Formulas.{is_formula}
use Rattle.pdl_syntax.specs.StatementTree.{StatementTree, View, bind, bind_list, assign, show, show_text, sever, reshape, vars, dump, flow, pp_def, watch, unwatch}
use Rattle.pdl_syntax.specs.Statements.{SpellsBrackets, no_brackets, brackets, SpellsNames, one_name, more_names, SpellsViews, no_views, one_view, SpellsText, plain_text, labelled, SpellsCalled, by_word, by_method, SpellsBinding, binds_value, binds_severed, binds_names, SpellsStatement, binds, my_binds, assigns, shows_text, shows, shows_info, severs, reshapes, undefs, lists_names, dumps, flows, defines, watches, unwatches}
use Rattle.pdl_syntax.specs.StatementReading.{at_end, texts_at, code_at, define_at, undef_at, watch_at, names_at, all_names_at, expression_to_end_at, behind_at, valued_at, called_step, called_at, bind_at, bind_list_at, views_at, assignment_at, statement_of_name_at, binding_at, show_at, statement_at, read_statement}
use Rattle.pdl_syntax.proofs.ExpressionReadingTurns.{methods_stop, methods_turn}
use Rattle.pdl_syntax.proofs.GrammarComplete.{Ends, ends_nothing, Methods, complete, finished, read_whole, read_postfix, begins, shorter}
use Rattle.pdl_syntax.proofs.StatementSound.{after_keyword_is, statement_sound}
use Rattle.pdl_syntax.proofs.ExpressionReadingGrowing.{level_grown, grown_stop}

names_stop : (source : List ℕ) (k : ℕ) (names : List (List ℕ)) (ts : List Lexeme) → after Comma ts ≡ None → names_at source k names ts ≡ Some (names, ts)
unfolding names_at
names_stop source zero names ts e = refl
names_stop source (suc k) names ts e = rw e

names_turn : (source : List ℕ) (k : ℕ) (names : List (List ℕ)) (w : Span) (rest : List Lexeme) →
    names_at source (suc k) names (Comma ∷ Name w ∷ rest) ≡ names_at source k (names ++ bytes_at source w ∷ []) rest
unfolding names_at
names_turn source k names w rest = refl

brackets_read : {ts : List Lexeme} → SpellsBrackets ts → is_brackets ts ≡ true
brackets_read no_brackets = refl
brackets_read brackets = refl

module _ (source : List ℕ) where
  record Names (names : List (List ℕ)) (ts rest : List Lexeme) : Type 0 where
    turns : ℕ
    same : all_names_at source ts ≡ names_at source turns names rest
    enough : length rest ≤ turns

  next_name : (names : List (List ℕ)) (w : Span) (ts rest : List Lexeme) → Names names ts (Comma ∷ Name w ∷ rest) → Names (names ++ bytes_at source w ∷ []) ts rest
  next_name names w ts rest c = of_turns c.turns refl
    where
      of_turns : (k : ℕ) → c.turns ≡ k → Names (names ++ bytes_at source w ∷ []) ts rest
      of_turns zero z = absurd (omega (arith, c.enough, z))
      of_turns (suc k) z = record {
        turns = k;
        same = c.same ∙ (ap (λ j. names_at source j names (Comma ∷ Name w ∷ rest)) z ∙ names_turn source k names w rest);
        enough = omega (arith, c.enough, z);
      }

  names_complete : {names : List (List ℕ)} {ts rest : List Lexeme} → SpellsNames source [] names ts rest → Names names ts rest
  names_complete (one_name {rest = rest}) = record { turns = length rest; same = refl; enough = omega arith }
  names_complete (more_names {names = names} {w = w} {ts = ts} {rest = rest} h) = next_name names w ts rest (names_complete h)

  names_read : (names : List (List ℕ)) (ts us : List Lexeme) → SpellsNames source [] names ts (Close ∷ us) → all_names_at source ts ≡ Some (names, Close ∷ us)
  names_read names ts us h = let c = names_complete h in c.same ∙ names_stop source c.turns names (Close ∷ us) refl

  text_pars : {text : List ℕ} {ts rest : List Lexeme} → SpellsText source Pars text ts rest → (w : Span) × (quoted_at (after_label Pars ts) ≡ Some (w, rest)) × (text ≡ bytes_at source w)
  text_pars (plain_text {w = w}) = (w, refl, refl)
  text_pars (labelled {w = w}) = (w, refl, refl)

  text_code : {text : List ℕ} {ts rest : List Lexeme} → SpellsText source Code text ts rest → (w : Span) × (quoted_at (after_label Code ts) ≡ Some (w, rest)) × (text ≡ bytes_at source w)
  text_code (plain_text {w = w}) = (w, refl, refl)
  text_code (labelled {w = w}) = (w, refl, refl)

  define_complete : (w : Span) (signature code : List ℕ) (ts us : List Lexeme) → SpellsText source Pars signature ts (Comma ∷ us) → SpellsText source Code code us (Close ∷ []) →
      define_at source (Open ∷ Quoted w ∷ Comma ∷ ts) ≡ Some (pp_def (bytes_at source w) signature code)
  define_complete w signature code ts us h k =
      let a = text_pars h in
      let b = text_code k in
      let last : code_at source w a.0 us ≡ Some (texts_at source w a.0 b.0) = rw b.1 in
      let whole' : define_at source (Open ∷ Quoted w ∷ Comma ∷ ts) ≡ Some (texts_at source w a.0 b.0) = rw a.1 last in
      whole' ∙ ap (λ s. Some (pp_def (bytes_at source w) s (bytes_at source b.0))) (sym a.2) ∙ ap (λ c. Some (pp_def (bytes_at source w) signature c)) (sym b.2)

  watch_complete : (w : Span) (m : ℕ) (z : ℤ) → signed m ≡ Some z → watch_at source (Name w ∷ Comma ∷ Number m ∷ []) ≡ Some (watch (bytes_at source w) m)
  watch_complete w m z e = rw e

unwatch_complete : (m : ℕ) (z : ℤ) → signed m ≡ Some z → option_map unwatch (slot_at (Number m ∷ [])) ≡ Some (unwatch m)
unwatch_complete m z e = rw e

ends_word : (l : ℕ) (word : AnyKeyword) (us : List Lexeme) → Ends l (Arrow ∷ Keyword word ∷ us)
ends_word l word us = record { no_open = refl; no_method = refl; no_operator = λ j le. refl }

module _ (lists : ListsAreRead) (source : List ℕ) (n : ℕ) where
  abbrev f : Kind → List Lexeme → Read Tree
  f = reader source n

  ended_complete : (t : Tree) (ts : List Lexeme) → length ts < n → Spells source (an_expr 7 t) ts [] → expression_to_end_at source f ts ≡ Some t
  unfolding expression_to_end_at
  ended_complete t ts lt h = rw (read_whole lists source n t ts [] (complete lists source h) lt (ends_nothing 7))

  not_empty : (a b : Tree) (t : Lexeme) (us : List Lexeme) → ◌≡◌ {A = Read Tree} (Some (a, [])) (Some (b, t ∷ us)) → ⊥
  not_empty a b t us e = let same' : ◌≡◌ {A = List Lexeme} [] (t ∷ us) = ap (λ x. x.1) (some_inj e) in absurd (omega (arith, ap length same'))

  -- behind a whole expression's first postfix form stands no arrow with this word
  behind_complete : (word : AnyKeyword) (t : Tree) (y : Tree × List Lexeme) → grown_at source f 7 y.0 y.1 ≡ Some (t, []) → behind_at source f word y ≡ Some (t, false)
  behind_complete word t y g = of_word (after_keyword word y.1) refl
    where
      of_word : (o : Option (List Lexeme)) → after_keyword word y.1 ≡ o →
          choose (option_map {U = Tree × Bool} (λ u. (u, false)) (option_and_then (λ z. at_end z.0 z.1) (grown_at source f 7 y.0 y.1))) (λ us. if is_brackets us then Some (y.0, true) else None) o ≡ Some (t, false)
      of_word None e = rw g
      of_word (Some us) e =
          let is : y.1 ≡ Arrow ∷ Keyword word ∷ us = after_keyword_is word y.1 e in
          let stop : grown_at source f 7 y.0 (Arrow ∷ Keyword word ∷ us) ≡ Some (y.0, Arrow ∷ Keyword word ∷ us) = grown_stop source f 7 y.0 (Arrow ∷ Keyword word ∷ us) (ends_word 7 word us).no_operator in
          absurd (not_empty t y.0 Arrow (Keyword word ∷ us) (sym g ∙ ap (grown_at source f 7 y.0) is ∙ stop))

  value_complete : (word : AnyKeyword) (t : Tree) (ts : List Lexeme) → length ts < n → Spells source (an_expr 7 t) ts [] → valued_at source f word ts ≡ Some (t, false)
  unfolding valued_at
  value_complete word t ts lt h = of_prefix (prefix_at ts) refl
    where
      of_prefix : (o : Option (UnaryOp × List Lexeme)) → prefix_at ts ≡ o →
          choose (option_and_then (behind_at source f word) (postfix_at source f ts)) (λ p. option_map {U = Tree × Bool} (λ u. (u, false)) (expression_to_end_at source f ts)) o ≡ Some (t, false)
      of_prefix (Some p) e = ap (option_map {U = Tree × Bool} (λ u. (u, false))) (ended_complete t ts lt h)
      of_prefix None e =
          then_elim (option_and_then (behind_at source f word) (postfix_at source f ts) ≡ Some (t, false)) (λ x. grown_at source f 7 x.0 x.1) (postfix_at source f ts)
          (sym (level_grown source f 7 ts e) ∙ finished lists source 7 t ts [] (complete lists source h) n (omega arith) (ends_nothing 7))
          (λ y g k. ap (option_and_then (behind_at source f word)) g ∙ behind_complete word t y k)

  before_complete : (word : AnyKeyword) (t : Tree) (ts us : List Lexeme) → after (Keyword word) (Keyword word ∷ us) ≡ Some us → length ts < n →
      Spells source (a_postfix t) ts (Arrow ∷ Keyword word ∷ us) → SpellsBrackets us → valued_at source f word ts ≡ Some (t, true)
  unfolding valued_at
  before_complete word t ts us found lt h b =
      rw (begins h).prefix (rw (read_postfix lists source n t ts (Arrow ∷ Keyword word ∷ us) (complete lists source h n (omega arith) refl) refl) (rw found (rw (brackets_read b))))

  word_step : (t : Tree) → called_step source f true (t, []) ≡ Some t
  unfolding methods_at
  word_step t = refl

  called_by_word : (t : Tree) (kind : WordKind) (w : Span) (ts : List Lexeme) → primary_at source f (Word kind w ∷ ts) ≡ Some (t, []) →
      called_at source f (Word kind w ∷ ts) ≡ Some t
  unfolding called_at
  called_by_word t kind w ts h = rw h (word_step t)

  or_less : (b : Bool) (x y : ℕ) → x < y → (b || nat_lt x y) ≡ true
  or_less true x y lt = refl
  or_less false x y lt = lt-ltb x y lt

  called_by_method : (start t : Tree) (ts left : List Lexeme) → primary_at source f ts ≡ Some (start, left) →
      methods_at source f (length left) start left ≡ Some (t, []) → 0 < length left → called_at source f ts ≡ Some t
  unfolding called_at
  called_by_method start t ts left h k lt = rw h (rw k (rw (or_less (begins_word ts) 0 (length left) lt)))

  called_complete : {t : Tree} {ts : List Lexeme} → SpellsCalled source t ts → length ts < n → called_at source f ts ≡ Some t
  called_complete (by_word {kind = kind} {w = w} {args = args} {ts = ts} h) lt =
      called_by_word (call (bytes_at source w) args) kind w (Open ∷ ts) (complete lists source (called h) n (omega arith))
  called_complete (by_method {t = t} {kind = kind} {w = w} {args = args} {ts = ts} {us = us} h k) lt =
      let m = complete lists source h n (omega arith) refl in
      let le = shorter lists h in
      let args_read : maybe_at source f (value none t) us ≡ Some (args, []) = complete lists source k n (omega arith) refl in
      of_turns m args_read m.turns refl
    where
      of_turns : (m : Methods lists source n t ts (Arrow ∷ Word kind w ∷ us)) → maybe_at source f (value none t) us ≡ Some (args, []) →
          (j : ℕ) → m.turns ≡ j → called_at source f ts ≡ Some (call (bytes_at source w) args)
      of_turns m a zero z = absurd (omega (arith, m.enough, z))
      of_turns m a (suc j) z =
          called_by_method m.start (call (bytes_at source w) args) ts m.left m.begun
          (m.same ∙ (ap (λ i. methods_at source f i t (Arrow ∷ Word kind w ∷ us)) z
          ∙ (methods_turn source f j t (Arrow ∷ Word kind w ∷ us) us [] w args refl a ∙ methods_stop source f j (call (bytes_at source w) args) [] refl)))
          (omega (arith, m.within_left))

  bind_read : (name : List ℕ) (t : Tree) (severed : Bool) (ts : List Lexeme) → valued_at source f Sever ts ≡ Some (t, severed) → bind_at source f name ts ≡ Some (bind name t severed)
  bind_read name t severed ts h = rw h

  bind_list_read : (names : List (List ℕ)) (t : Tree) (ts us : List Lexeme) → all_names_at source ts ≡ Some (names, Close ∷ Equals ∷ us) →
      called_at source f us ≡ Some t → bind_list_at source f ts ≡ Some (bind_list names t)
  unfolding bind_list_at
  bind_list_read names t ts us h k = rw h (rw k)

  -- what a binding is read as, behind `my` and without
  record Bound (s : StatementTree) (ts : List Lexeme) : Type 0 where
    behind_my : binding_at source f ts ≡ Some s
    alone : statement_at source f ts ≡ Some s

  bound_name : (w : Span) (ts : List Lexeme) (s : StatementTree) → bind_at source f (bytes_at source w) ts ≡ Some s → Bound s (Name w ∷ Equals ∷ ts)
  unfolding binding_at statement_at statement_of_name_at
  bound_name w ts s h = record { behind_my = h; alone = h }

  bound_list : (ts : List Lexeme) (s : StatementTree) → bind_list_at source f ts ≡ Some s → Bound s (Open ∷ ts)
  unfolding binding_at statement_at
  bound_list ts s h = record { behind_my = h; alone = h }

  names_shorter : {front names : List (List ℕ)} {ts rest : List Lexeme} → SpellsNames source front names ts rest → length rest ≤ length ts
  names_shorter one_name = omega arith
  names_shorter (more_names h) = let a = names_shorter h in omega arith

  binding_complete : {s : StatementTree} {ts : List Lexeme} → SpellsBinding source s ts → length ts ≤ n → Bound s ts
  binding_complete (binds_value {w = w} {t = t} {ts = ts} h) le =
      bound_name w ts (bind (bytes_at source w) t false)
      (bind_read (bytes_at source w) t false ts (value_complete Sever t ts (omega arith) h))
  binding_complete (binds_severed {w = w} {t = t} {ts = ts} {us = us} h b) le =
      bound_name w ts (bind (bytes_at source w) t true)
      (bind_read (bytes_at source w) t true ts (before_complete Sever t ts us refl (omega arith) h b))
  binding_complete (binds_names {names = names} {t = t} {ts = ts} {us = us} h c) le =
      let a = names_shorter h in
      bound_list ts (bind_list names t) (bind_list_read names t ts us (names_read source names ts (Equals ∷ us) h) (called_complete c (omega arith)))

  -- what no view begins with
  record Viewing (ts : List Lexeme) : Type 0 where
    equals : after Equals ts ≡ None
    severs' : after_keyword Sever ts ≡ None
    reshapes' : after_reshape ts ≡ None

  views_begin : {front views : List View} {ts rest : List Lexeme} → SpellsViews source front views ts rest → Viewing rest → Viewing ts
  views_begin no_views v = v
  views_begin (one_view h k) v = views_begin h (record { equals = refl; severs' = refl; reshapes' = refl })

  views_shorter : {front views : List View} {ts rest : List Lexeme} → SpellsViews source front views ts rest → length rest ≤ length ts
  views_shorter no_views = omega arith
  views_shorter (one_view h k) = let a = views_shorter h in let b = shorter lists k in omega arith

  views_stop : (k : ℕ) (views : List View) (ts : List Lexeme) → view_at ts ≡ None → views_at source f k views ts ≡ Some (views, ts)
  unfolding views_at
  views_stop zero views ts e = refl
  views_stop (suc k) views ts e = rw e

  views_turn : (k : ℕ) (views : List View) (w : Span) (args : Args) (us rest : List Lexeme) → maybe_at source f none us ≡ Some (args, rest) →
      views_at source f (suc k) views (Arrow ∷ Word IsView w ∷ us) ≡ views_at source f k (views ++ (bytes_at source w, args) ∷ []) rest
  unfolding views_at
  views_turn k views w args us rest h = rw h

  record Views (front views : List View) (ts rest : List Lexeme) : Type 0 where
    turns : ℕ
    same : views_at source f (length ts) front ts ≡ views_at source f turns views rest
    enough : length rest ≤ turns

  next_view : (front views : List View) (w : Span) (args : Args) (ts us rest : List Lexeme) → Views front views ts (Arrow ∷ Word IsView w ∷ us) →
      maybe_at source f none us ≡ Some (args, rest) → length rest ≤ length us → Views front (views ++ (bytes_at source w, args) ∷ []) ts rest
  next_view front views w args ts us rest c h le = of_turns c.turns refl
    where
      of_turns : (k : ℕ) → c.turns ≡ k → Views front (views ++ (bytes_at source w, args) ∷ []) ts rest
      of_turns zero z = absurd (omega (arith, c.enough, z))
      of_turns (suc k) z = record {
        turns = k;
        same = c.same ∙ (ap (λ j. views_at source f j views (Arrow ∷ Word IsView w ∷ us)) z ∙ views_turn k views w args us rest h);
        enough = omega (arith, c.enough, z);
      }

  views_complete : {front views : List View} {ts rest : List Lexeme} → SpellsViews source front views ts rest → length ts ≤ n → after Open rest ≡ None →
      Views front views ts rest
  views_complete (no_views {rest = rest}) le e = record { turns = length rest; same = refl; enough = omega arith }
  views_complete (one_view {front = front} {views = views} {w = w} {args = args} {ts = ts} {us = us} {rest = rest} h k) le e =
      let a = views_shorter h in
      next_view front views w args ts us rest (views_complete h le refl) (complete lists source k n (omega arith) e) (shorter lists k)

  assignment_read : (name : List ℕ) (views : List View) (op : AssignOp) (t : Tree) (ts us : List Lexeme) →
      views_at source f (length ts) [] ts ≡ Some (views, Assign op ∷ us) → expression_to_end_at source f us ≡ Some t → assignment_at source f name ts ≡ Some (assign name views op t)
  unfolding assignment_at
  assignment_read name views op t ts us h k = rw h (rw k)

  named_assignment : (w : Span) (ts : List Lexeme) (s : StatementTree) → Viewing ts → assignment_at source f (bytes_at source w) ts ≡ Some s →
      statement_at source f (Name w ∷ ts) ≡ Some s
  unfolding statement_at statement_of_name_at
  named_assignment w ts s v h = rw v.equals (rw v.severs' (rw v.reshapes' h))

  named_sever : (w : Span) (us : List Lexeme) → is_brackets us ≡ true → statement_at source f (Name w ∷ Arrow ∷ Keyword Sever ∷ us) ≡ Some (sever (bytes_at source w))
  unfolding statement_at statement_of_name_at
  named_sever w us b = rw b

  named_reshape : (w : Span) (args : Args) (ts : List Lexeme) → closed_at source f none ts ≡ Some (args, []) →
      statement_at source f (Name w ∷ Arrow ∷ Keyword Reshape ∷ Open ∷ ts) ≡ Some (reshape (bytes_at source w) args)
  unfolding statement_at statement_of_name_at
  named_reshape w args ts h = rw h

  my_read : (ts : List Lexeme) (s : StatementTree) → binding_at source f ts ≡ Some s → statement_at source f (Keyword My ∷ ts) ≡ Some s
  unfolding statement_at
  my_read ts s h = h

  show_text_read : (w : Span) → statement_at source f (Keyword Print ∷ Quoted w ∷ []) ≡ Some (show_text (bytes_at source w))
  unfolding statement_at show_at
  show_text_read w = refl

  show_read : (t : Tree) (info : Bool) (ts : List Lexeme) → quoted_at ts ≡ None → valued_at source f Info ts ≡ Some (t, info) → statement_at source f (Keyword Print ∷ ts) ≡ Some (show t info)
  unfolding statement_at show_at
  show_read t info ts q i = rw q (rw i)

  flow_read : (w : Span) (t : Tree) (ts : List Lexeme) → is_formula t ≡ true → has_arrow ts ≡ false → expression_to_end_at source f ts ≡ Some t →
      statement_at source f (Keyword Flow ∷ Name w ∷ Equals ∷ ts) ≡ Some (flow (bytes_at source w) t)
  unfolding statement_at
  flow_read w t ts formula arrow h = rw h (rw (formula, arrow) refl)

  keyword_reads : (ts : List Lexeme) → (statement_at source f (Keyword Undef ∷ ts) ≡ undef_at source ts)
      × (statement_at source f (Keyword Vars ∷ ts) ≡ at_end vars ts)
      × (statement_at source f (Keyword PpDef ∷ ts) ≡ define_at source ts)
      × (statement_at source f (Keyword Watch ∷ ts) ≡ watch_at source ts)
      × (statement_at source f (Keyword Unwatch ∷ ts) ≡ option_map unwatch (slot_at ts))
      × (statement_at source f (Keyword Dump ∷ ts) ≡ at_end dump ts)
  unfolding statement_at
  keyword_reads ts = (refl, refl, refl, refl, refl, refl)

  -- a spelled statement is read
  pub statement_complete : {s : StatementTree} {ts : List Lexeme} → SpellsStatement source s ts → length ts ≤ n → statement_at source f ts ≡ Some s
  statement_complete (binds h) le = (binding_complete h le).alone
  statement_complete (my_binds {s = s} {ts = ts} h) le = my_read ts s (binding_complete h (omega arith)).behind_my
  statement_complete (assigns {w = w} {views = views} {op = op} {t = t} {ts = ts} {us = us} v h) le =
      let a = views_shorter v in
      let c = views_complete v (omega arith) refl in
      named_assignment w ts (assign (bytes_at source w) views op t) (views_begin v (record { equals = refl; severs' = refl; reshapes' = refl }))
      (assignment_read (bytes_at source w) views op t ts us (c.same ∙ views_stop c.turns views (Assign op ∷ us) refl) (ended_complete t us (omega arith) h))
  statement_complete (shows_text {w = w}) le = show_text_read w
  statement_complete (shows {t = t} {ts = ts} h) le =
      show_read t false ts (begins h).quoted (value_complete Info t ts (omega arith) h)
  statement_complete (shows_info {t = t} {ts = ts} {us = us} h b) le =
      show_read t true ts (begins h).opening.quoted (before_complete Info t ts us refl (omega arith) h b)
  statement_complete (severs {w = w} {us = us} b) le = named_sever w us (brackets_read b)
  statement_complete (reshapes {w = w} {args = args} {ts = ts} h) le = named_reshape w args ts (complete lists source h n (omega arith))
  statement_complete (undefs {w = w}) le = (keyword_reads (Name w ∷ [])).0
  statement_complete lists_names le = (keyword_reads []).1
  statement_complete dumps le = (keyword_reads []).5
  statement_complete (flows {w = w} {t = t} {ts = ts} h formula arrow) le = flow_read w t ts formula arrow (ended_complete t ts (omega arith) h)
  statement_complete (defines {w = w} {signature = signature} {code = code} {ts = ts} {us = us} h k) le =
      (keyword_reads (Open ∷ Quoted w ∷ Comma ∷ ts)).2 ∙ define_complete source w signature code ts us h k
  statement_complete (watches {w = w} {n = m} {z = z} e) le = (keyword_reads (Name w ∷ Comma ∷ Number m ∷ [])).3 ∙ watch_complete source w m z e
  statement_complete (unwatches {n = m} {z = z} e) le = (keyword_reads (Number m ∷ [])).4 ∙ unwatch_complete m z e

-- a statement is spelled exactly where it is read
module _ (lists : ListsAreRead) where
  pub statement_found : (source : List ℕ) (ts : List Lexeme) (s : StatementTree) → SpellsStatement source s ts → read_statement source ts ≡ Some s
  statement_found source ts s h = statement_complete lists source (suc (length ts)) h (omega arith)

  pub statement_spelled : (source : List ℕ) (ts : List Lexeme) (s : StatementTree) → read_statement source ts ≡ Some s → SpellsStatement source s ts
  statement_spelled source ts s h = statement_sound lists source (suc (length ts)) ts s (omega arith) h

  -- lexemes are spelled by at most one statement
  pub one_statement_lem : (source : List ℕ) (ts : List Lexeme) (a b : StatementTree) → SpellsStatement source a ts → SpellsStatement source b ts → a ≡ b
  one_statement_lem source ts a b h k = some_inj (sym (statement_found source ts a h) ∙ statement_found source ts b k)
