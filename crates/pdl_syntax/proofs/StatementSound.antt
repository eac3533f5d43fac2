-- What the reader of statements takes is spelled.
use Rattle.std.proofs.Common.{◌≡◌, ℕ, ℤ, zero, suc, ◌<◌, ◌≤◌, List, [], ◌∷◌, ◌++◌, length, Bool, true, false, ◌||◌, nat_lt, Option, Some, None, option_map, option_and_then, if◌then◌else◌, refl, ap, sym, ◌∙◌, subst, arith, true≢false, ltb-true, not, ◌&&◌}
use Rattle.pdl_lexemes.specs.declared.AssignOp.{AssignOp}
use Rattle.pdl_lexemes.specs.declared.Span.{Span}
use Rattle.pdl_lexemes.specs.declared.WordKind.TheVariants.{View as IsView, Pars, Code}
use Rattle.pdl_lexemes.specs.declared.Keyword.{Keyword as AnyKeyword}
use Rattle.pdl_lexemes.specs.declared.Keyword.TheVariants.{My, Print, Undef, Vars, Dump, Flow, PpDef, Watch, Unwatch, Info, Sever, Reshape}
use Rattle.pdl_lexemes.specs.declared.Lexeme.{Lexeme}
use Rattle.pdl_lexemes.specs.declared.Lexeme.TheVariants.{Name, Keyword, Word, Number, Quoted, Open, Close, Comma, Equals, Arrow, FatArrow, Assign}
use Rattle.pdl_lexemes.specs.Bytes.{bytes_at}
use Rattle.std.proofs.lemmas.Bool.{and_parts, not-true}
use Rattle.pdl_lexemes.specs.Depth.{has_arrow}
use Rattle.pdl_lexemes.specs.Lists.{signed}
use Rattle.pdl_lemmas.specs.Options.{some_inj, none_some, then_elim, map_elim, choose_elim, choose}
use Rattle.pdl_lexemes.specs.Laws.{ListsAreRead}
use Rattle.pdl_lexemes.specs.Peeks.{Read, after, after_keyword, after_reshape, after_label, assign_at, begins_word, is_brackets, name_at, prefix_at, quoted_at, slot_at, view_at, view_word}
use Rattle.pdl_syntax.specs.Tree.{Tree, none, value}
use Rattle.pdl_syntax.specs.Grammar.{Spells, an_expr, a_postfix, a_primary, closed_args, maybe_args, bare, method, a_number, a_name, list, round_list, called, round}
use Rattle.pdl_syntax.specs.ExpressionReading.{Kind, expression, maybe_at, closed_at, primary_at, methods_at, postfix_at, level_at, grown_at, reader}
use Rattle.pdl_syntax.specs.Formulas.{is_formula}
use Rattle.pdl_syntax.specs.StatementTree.{StatementTree, View, bind, bind_list, assign, show, show_text, sever, reshape, undef, vars, dump, flow, watch, unwatch}
use Rattle.pdl_syntax.specs.Statements.{SpellsBrackets, no_brackets, brackets, SpellsNames, one_name, more_names, SpellsViews, no_views, one_view, SpellsText, plain_text, labelled, SpellsCalled, by_word, by_method, SpellsBinding, binds_value, binds_severed, binds_names, SpellsStatement, binds, my_binds, assigns, shows_text, shows, shows_info, severs, reshapes, undefs, lists_names, dumps, flows, defines, watches, unwatches}
use Rattle.pdl_syntax.specs.StatementReading.{at_end, texts_at, code_at, signature_at, define_at, undef_at, watch_at, names_at, all_names_at, expression_to_end_at, behind_at, valued_at, called_step, called_at, bind_at, bind_names, bind_list_at, views_at, assign_value, assignment_at, reshape_at, sever_at, statement_of_name_at, bind_name, binding_at, value_at, show_at, formula_at, flow_value_at, flow_at, statement_at}
use Rattle.pdl_syntax.proofs.ExpressionReadingPeeks.{after_is, quoted_is}
use Rattle.pdl_syntax.proofs.GrammarSound.{closed_sound, maybe_sound, primary_sound, methods_sound, postfix_sound, level_sound, reader_sound_expr}
use Rattle.pdl_syntax.proofs.ExpressionReadingGrowing.{level_grown}
use Rattle.pdl_syntax.proofs.GrammarComplete.{complete}

pub after_keyword_is : (word : AnyKeyword) (ts : List Lexeme) {us : List Lexeme} → after_keyword word ts ≡ Some us → ts ≡ Arrow ∷ Keyword word ∷ us
after_keyword_is word ts {us = us} e =
    then_elim (ts ≡ Arrow ∷ Keyword word ∷ us) (after (Keyword word)) (after Arrow ts) e
    (λ vs h k. after_is Arrow ts h ∙ ap (λ x. Arrow ∷ x) (after_is (Keyword word) vs k))

reshape_is : (ts : List Lexeme) {us : List Lexeme} → after_reshape ts ≡ Some us → ts ≡ Arrow ∷ Keyword Reshape ∷ Open ∷ us
reshape_is ts {us = us} e =
    then_elim (ts ≡ Arrow ∷ Keyword Reshape ∷ Open ∷ us) (after Open) (after_keyword Reshape ts) e
    (λ ws g k. after_keyword_is Reshape ts g ∙ ap (λ x. Arrow ∷ Keyword Reshape ∷ x) (after_is Open ws k))

name_is : (ts : List Lexeme) (x : Span × List Lexeme) → name_at ts ≡ Some x → ts ≡ Name x.0 ∷ x.1
name_is [] x e = absurd (none_some e)
name_is (Name w ∷ ts) x e = ap (λ y. Name y.0 ∷ y.1) (some_inj e)
name_is (_ ∷ ts) x e = absurd (none_some e)

view_word_is : (ts : List Lexeme) (x : Span × List Lexeme) → view_word ts ≡ Some x → ts ≡ Word IsView x.0 ∷ x.1
view_word_is [] x e = absurd (none_some e)
view_word_is (Word IsView w ∷ ts) x e = ap (λ y. Word IsView y.0 ∷ y.1) (some_inj e)
view_word_is (Word _ w ∷ ts) x e = absurd (none_some e)
view_word_is (_ ∷ ts) x e = absurd (none_some e)

view_is : (ts : List Lexeme) (x : Span × List Lexeme) → view_at ts ≡ Some x → ts ≡ Arrow ∷ Word IsView x.0 ∷ x.1
view_is ts x e =
    then_elim (ts ≡ Arrow ∷ Word IsView x.0 ∷ x.1) view_word (after Arrow ts) e
    (λ vs h k. after_is Arrow ts h ∙ ap (λ y. Arrow ∷ y) (view_word_is vs x k))

assign_is : (ts : List Lexeme) (x : AssignOp × List Lexeme) → assign_at ts ≡ Some x → ts ≡ Assign x.0 ∷ x.1
assign_is [] x e = absurd (none_some e)
assign_is (Assign op ∷ ts) x e = ap (λ y. Assign y.0 ∷ y.1) (some_inj e)
assign_is (_ ∷ ts) x e = absurd (none_some e)

-- a number stands at the end
record SlotAt (ts : List Lexeme) (n : ℕ) : Type 0 where
  number : ℤ
  fits : signed n ≡ Some number
  is : ts ≡ Number n ∷ []

slot_is : (ts : List Lexeme) {n : ℕ} → slot_at ts ≡ Some n → SlotAt ts n
slot_is [] e = absurd (none_some e)
slot_is (Number m ∷ []) {n = n} e =
    map_elim (SlotAt (Number m ∷ []) n) (λ z. m) (signed m) e
    (λ z h same. subst (SlotAt (Number m ∷ [])) same (record { number = z; fits = h; is = refl }))
slot_is (Number m ∷ t ∷ ts) e = absurd (none_some e)
slot_is (_ ∷ ts) e = absurd (none_some e)

record EndIs (A : Type 0) (x : A) (ts : List Lexeme) (y : A) : Type 0 where
  empty : ts ≡ []
  same : x ≡ y

end_is : {A : Type 0} (x : A) (ts : List Lexeme) {y : A} → at_end x ts ≡ Some y → EndIs A x ts y
end_is x [] e = record { empty = refl; same = some_inj e }
end_is x (t ∷ ts) e = absurd (none_some e)

test_elim : {A : Type 0} (P : Type 0) (b : Bool) (o : Option A) {y : A} → (if b then o else None) ≡ Some y → (b ≡ true → o ≡ Some y → P) → P
test_elim P true o e h = h refl e
test_elim P false o e h = absurd (none_some e)

brackets_are : (ts : List Lexeme) → is_brackets ts ≡ true → SpellsBrackets ts
brackets_are [] e = no_brackets
brackets_are (Open ∷ []) e = absurd (true≢false (sym e))
brackets_are (Open ∷ Close ∷ []) e = brackets
brackets_are (Open ∷ Close ∷ t ∷ ts) e = absurd (true≢false (sym e))
brackets_are (Open ∷ _ ∷ ts) e = absurd (true≢false (sym e))
brackets_are (_ ∷ ts) e = absurd (true≢false (sym e))

-- a string is read behind its label, if one stands there
pars_text : (source : List ℕ) (ts : List Lexeme) (x : Span × List Lexeme) → quoted_at (after_label Pars ts) ≡ Some x → SpellsText source Pars (bytes_at source x.0) ts x.1
pars_text source ts x e = of_front ts (quoted_is (after_label Pars ts) x e)
  where
    of_front : (us : List Lexeme) → after_label Pars us ≡ Quoted x.0 ∷ x.1 → SpellsText source Pars (bytes_at source x.0) us x.1
    of_front (Word Pars v ∷ FatArrow ∷ us) h = subst (λ vs. SpellsText source Pars (bytes_at source x.0) (Word Pars v ∷ FatArrow ∷ vs) x.1) (sym h) labelled
    of_front (Word kind v ∷ FatArrow ∷ us) h = subst (λ vs. SpellsText source Pars (bytes_at source x.0) vs x.1) (sym h) plain_text
    of_front (Word kind v ∷ t ∷ us) h = subst (λ vs. SpellsText source Pars (bytes_at source x.0) vs x.1) (sym h) plain_text
    of_front us h = subst (λ vs. SpellsText source Pars (bytes_at source x.0) vs x.1) (sym h) plain_text

code_text : (source : List ℕ) (ts : List Lexeme) (x : Span × List Lexeme) → quoted_at (after_label Code ts) ≡ Some x → SpellsText source Code (bytes_at source x.0) ts x.1
code_text source ts x e = of_front ts (quoted_is (after_label Code ts) x e)
  where
    of_front : (us : List Lexeme) → after_label Code us ≡ Quoted x.0 ∷ x.1 → SpellsText source Code (bytes_at source x.0) us x.1
    of_front (Word Code v ∷ FatArrow ∷ us) h = subst (λ vs. SpellsText source Code (bytes_at source x.0) (Word Code v ∷ FatArrow ∷ vs) x.1) (sym h) labelled
    of_front (Word kind v ∷ FatArrow ∷ us) h = subst (λ vs. SpellsText source Code (bytes_at source x.0) vs x.1) (sym h) plain_text
    of_front (Word kind v ∷ t ∷ us) h = subst (λ vs. SpellsText source Code (bytes_at source x.0) vs x.1) (sym h) plain_text
    of_front us h = subst (λ vs. SpellsText source Code (bytes_at source x.0) vs x.1) (sym h) plain_text

module _ (source : List ℕ) where
  abbrev Stated : List Lexeme → StatementTree → Type 0
  Stated ts s = SpellsStatement source s ts

  code_sound : (name signature : Span) (ts front : List Lexeme) (s : StatementTree) → code_at source name signature ts ≡ Some s →
      SpellsText source Pars (bytes_at source signature) front (Comma ∷ ts) →
      Stated (Keyword PpDef ∷ Open ∷ Quoted name ∷ Comma ∷ front) s
  code_sound name signature ts front s e sig =
      then_elim (Stated (Keyword PpDef ∷ Open ∷ Quoted name ∷ Comma ∷ front) s)
      (λ c. option_and_then (at_end (texts_at source name signature c.0)) (after Close c.1)) (quoted_at (after_label Code ts)) e
      (λ c h k. then_elim (Stated (Keyword PpDef ∷ Open ∷ Quoted name ∷ Comma ∷ front) s) (at_end (texts_at source name signature c.0)) (after Close c.1) k
      (λ us l m. let end = end_is (texts_at source name signature c.0) us m in
      subst (Stated (Keyword PpDef ∷ Open ∷ Quoted name ∷ Comma ∷ front)) end.same
      (defines sig (subst (SpellsText source Code (bytes_at source c.0) ts) (after_is Close c.1 l ∙ ap (λ x. Close ∷ x) end.empty) (code_text source ts c h)))))

  signature_sound : (name : Span) (ts : List Lexeme) (s : StatementTree) → signature_at source name ts ≡ Some s →
      Stated (Keyword PpDef ∷ Open ∷ Quoted name ∷ Comma ∷ ts) s
  signature_sound name ts s e =
      then_elim (Stated (Keyword PpDef ∷ Open ∷ Quoted name ∷ Comma ∷ ts) s)
      (λ c. option_and_then (code_at source name c.0) (after Comma c.1)) (quoted_at (after_label Pars ts)) e
      (λ c h k. then_elim (Stated (Keyword PpDef ∷ Open ∷ Quoted name ∷ Comma ∷ ts) s) (code_at source name c.0) (after Comma c.1) k
      (λ us l m. code_sound name c.0 us ts s m (subst (SpellsText source Pars (bytes_at source c.0) ts) (after_is Comma c.1 l) (pars_text source ts c h))))

  define_sound : (ts : List Lexeme) (s : StatementTree) → define_at source ts ≡ Some s → Stated (Keyword PpDef ∷ ts) s
  define_sound ts s e =
      then_elim (Stated (Keyword PpDef ∷ ts) s)
      (λ us. option_and_then (λ n. option_and_then (signature_at source n.0) (after Comma n.1)) (quoted_at us)) (after Open ts) e
      (λ us h k. then_elim (Stated (Keyword PpDef ∷ ts) s) (λ n. option_and_then (signature_at source n.0) (after Comma n.1)) (quoted_at us) k
      (λ n l m. then_elim (Stated (Keyword PpDef ∷ ts) s) (signature_at source n.0) (after Comma n.1) m
      (λ vs c d. subst (λ xs. Stated (Keyword PpDef ∷ xs) s)
      (sym (after_is Open ts h ∙ ap (λ x. Open ∷ x) (quoted_is us n l ∙ ap (λ x. Quoted n.0 ∷ x) (after_is Comma n.1 c))))
      (signature_sound n.0 vs s d))))

  undef_sound : (ts : List Lexeme) (s : StatementTree) → undef_at source ts ≡ Some s → Stated (Keyword Undef ∷ ts) s
  undef_sound ts s e =
      then_elim (Stated (Keyword Undef ∷ ts) s) (λ x. at_end (undef (bytes_at source x.0)) x.1) (name_at ts) e
      (λ x h k. let end = end_is (undef (bytes_at source x.0)) x.1 k in
      subst (Stated (Keyword Undef ∷ ts)) end.same
      (subst (λ vs. Stated (Keyword Undef ∷ vs) (undef (bytes_at source x.0))) (sym (name_is ts x h ∙ ap (λ v. Name x.0 ∷ v) end.empty)) undefs))

  watch_sound : (ts : List Lexeme) (s : StatementTree) → watch_at source ts ≡ Some s → Stated (Keyword Watch ∷ ts) s
  watch_sound ts s e =
      then_elim (Stated (Keyword Watch ∷ ts) s)
      (λ x. option_and_then (λ us. option_map (watch (bytes_at source x.0)) (slot_at us)) (after Comma x.1)) (name_at ts) e
      (λ x h k. then_elim (Stated (Keyword Watch ∷ ts) s) (λ us. option_map (watch (bytes_at source x.0)) (slot_at us)) (after Comma x.1) k
      (λ us l m. map_elim (Stated (Keyword Watch ∷ ts) s) (watch (bytes_at source x.0)) (slot_at us) m
      (λ n c same. let slot = slot_is us c in
      subst (Stated (Keyword Watch ∷ ts)) same
      (subst (λ vs. Stated (Keyword Watch ∷ vs) (watch (bytes_at source x.0) n))
      (sym (name_is ts x h ∙ ap (λ v. Name x.0 ∷ v) (after_is Comma x.1 l ∙ ap (λ v. Comma ∷ v) slot.is))) (watches slot.fits)))))

  unwatch_sound : (ts : List Lexeme) (s : StatementTree) → option_map unwatch (slot_at ts) ≡ Some s → Stated (Keyword Unwatch ∷ ts) s
  unwatch_sound ts s e =
      map_elim (Stated (Keyword Unwatch ∷ ts) s) unwatch (slot_at ts) e
      (λ n c same. let slot = slot_is ts c in
      subst (Stated (Keyword Unwatch ∷ ts)) same (subst (λ vs. Stated (Keyword Unwatch ∷ vs) (unwatch n)) (sym slot.is) (unwatches slot.fits)))

  abbrev Named : List Lexeme → List (List ℕ) × List Lexeme → Type 0
  Named ts x = SpellsNames source [] x.0 ts x.1

  names_sound : (k : ℕ) (names : List (List ℕ)) (us ts : List Lexeme) (x : List (List ℕ) × List Lexeme) →
      names_at source k names us ≡ Some x → Named ts (names, us) → Named ts x
  unfolding names_at
  names_sound zero names us ts x e h = subst (Named ts) (some_inj e) h
  names_sound (suc k) names us ts x e h =
      choose_elim (Named ts x) (Some (names, us))
      (λ vs. option_and_then (λ y. names_at source k (names ++ bytes_at source y.0 ∷ []) y.1) (name_at vs)) (after Comma us) e
      (λ c d. subst (Named ts) (some_inj d) h)
      (λ vs c d. then_elim (Named ts x) (λ y. names_at source k (names ++ bytes_at source y.0 ∷ []) y.1) (name_at vs) d
      (λ y m r. names_sound k (names ++ bytes_at source y.0 ∷ []) y.1 ts x r
      (more_names (subst (SpellsNames source [] names ts) (after_is Comma us c ∙ ap (λ v. Comma ∷ v) (name_is vs y m)) h))))

  all_names_sound : (ts : List Lexeme) (x : List (List ℕ) × List Lexeme) → all_names_at source ts ≡ Some x → Named ts x
  all_names_sound ts x e =
      then_elim (Named ts x) (λ y. names_at source (length y.1) (bytes_at source y.0 ∷ []) y.1) (name_at ts) e
      (λ y h k. names_sound (length y.1) (bytes_at source y.0 ∷ []) y.1 ts x k
      (subst (λ vs. SpellsNames source [] (bytes_at source y.0 ∷ []) vs y.1) (sym (name_is ts y h)) one_name))

module _ (lists : ListsAreRead) (source : List ℕ) (n : ℕ) where
  abbrev f : Kind → List Lexeme → Read Tree
  f = reader source n

  ended_sound : (ts : List Lexeme) (t : Tree) → expression_to_end_at source f ts ≡ Some t → Spells source (an_expr 7 t) ts []
  unfolding expression_to_end_at
  ended_sound ts t e =
      then_elim (Spells source (an_expr 7 t) ts []) (λ x. at_end x.0 x.1) (f expression ts) e
      (λ x h k. let end = end_is x.0 x.1 k in
      subst (λ u. Spells source (an_expr 7 u) ts []) end.same (subst (Spells source (an_expr 7 x.0) ts) end.empty (reader_sound_expr lists source n expression ts x h)))

  -- a postfix form stands before an arrow, this word and the end
  pub record Before (word : AnyKeyword) (ts : List Lexeme) (t : Tree) : Type 0 where
    pub left : List Lexeme
    pub spelled : Spells source (a_postfix t) ts (Arrow ∷ Keyword word ∷ left)
    pub brackets_left : SpellsBrackets left

  -- an expression up to the end, or such a postfix form
  abbrev Valued : AnyKeyword → List Lexeme → Tree → Bool → Type 0
  Valued word ts t false = Spells source (an_expr 7 t) ts []
  Valued word ts t true = Before word ts t

  grown_sound : (ts : List Lexeme) (y : Tree × List Lexeme) (t : Tree) → prefix_at ts ≡ None → postfix_at source f ts ≡ Some y
      → option_and_then (λ z. at_end z.0 z.1) (grown_at source f 7 y.0 y.1) ≡ Some t → Spells source (an_expr 7 t) ts []
  grown_sound ts y t plain' g e =
      then_elim (Spells source (an_expr 7 t) ts []) (λ z. at_end z.0 z.1) (grown_at source f 7 y.0 y.1) e
      (λ z w m. let end = end_is z.0 z.1 m in
      let read : level_at source f 7 ts ≡ Some z = level_grown source f 7 ts plain' ∙ ap (option_and_then (λ x. grown_at source f 7 x.0 x.1)) g ∙ w in
      subst (λ u. Spells source (an_expr 7 u) ts []) end.same
      (subst (Spells source (an_expr 7 z.0) ts) end.empty (level_sound lists source f (reader_sound_expr lists source n) 7 ts z read)))

  behind_sound : (word : AnyKeyword) (ts : List Lexeme) (y : Tree × List Lexeme) (x : Tree × Bool) → prefix_at ts ≡ None → postfix_at source f ts ≡ Some y
      → behind_at source f word y ≡ Some x → Valued word ts x.0 x.1
  behind_sound word ts y x plain' g e =
      choose_elim (Valued word ts x.0 x.1) (option_map (λ t. (t, false)) (option_and_then (λ z. at_end z.0 z.1) (grown_at source f 7 y.0 y.1)))
      (λ us. if is_brackets us then Some (y.0, true) else None) (after_keyword word y.1) e
      (λ no' h. map_elim (Valued word ts x.0 x.1) (λ t. (t, false)) (option_and_then (λ z. at_end z.0 z.1) (grown_at source f 7 y.0 y.1)) h
      (λ t k same. subst (λ z. Valued word ts z.0 z.1) same (grown_sound ts y t plain' g k)))
      (λ us l h. test_elim (Valued word ts x.0 x.1) (is_brackets us) (Some (y.0, true)) h
      (λ yes' same. subst (λ z. Valued word ts z.0 z.1) (some_inj same) (record {
        left = us;
        spelled = subst (Spells source (a_postfix y.0) ts) (after_keyword_is word y.1 l) (postfix_sound lists source f (reader_sound_expr lists source n) ts y g);
        brackets_left = brackets_are us yes';
      })))

  valued_sound : (word : AnyKeyword) (ts : List Lexeme) (x : Tree × Bool) → valued_at source f word ts ≡ Some x → Valued word ts x.0 x.1
  unfolding valued_at
  valued_sound word ts x e =
      choose_elim (Valued word ts x.0 x.1) (option_and_then (behind_at source f word) (postfix_at source f ts)) (λ p. option_map (λ t. (t, false)) (expression_to_end_at source f ts)) (prefix_at ts) e
      (λ plain' h. then_elim (Valued word ts x.0 x.1) (behind_at source f word) (postfix_at source f ts) h (λ y g k. behind_sound word ts y x plain' g k))
      (λ p some h. map_elim (Valued word ts x.0 x.1) (λ t. (t, false)) (expression_to_end_at source f ts) h
      (λ t g same. subst (λ z. Valued word ts z.0 z.1) same (ended_sound ts t g)))

  called_primary : {t : Tree} {ts rest : List Lexeme} → Spells source (a_primary t) ts rest → begins_word ts ≡ true → rest ≡ [] → SpellsCalled source t ts
  called_primary (a_number h) b e = absurd (true≢false (sym b))
  called_primary a_name b e = absurd (true≢false (sym b))
  called_primary (list h) b e = absurd (true≢false (sym b))
  called_primary (round_list h) b e = absurd (true≢false (sym b))
  called_primary (called {args = args} {ts = ts} h) b e = by_word (subst (Spells source (closed_args none args) ts) e h)
  called_primary (round h) b e = absurd (true≢false (sym b))

  -- a call by a word, or behind its first part
  called_postfix : {t : Tree} {ts rest : List Lexeme} → Spells source (a_postfix t) ts rest → rest ≡ [] →
      ((u : Tree) → Spells source (a_primary u) ts rest → begins_word ts ≡ true) → SpellsCalled source t ts
  called_postfix (bare {t = t} h) e word = called_primary h (word t h) e
  called_postfix (method {t = t} {args = args} {us = us} h k) e word = by_method h (subst (Spells source (maybe_args (value none t) args) us) e k)

  or_true : (a b : Bool) → (a || b) ≡ true → (a ≡ false → b ≡ true)
  or_true true b e f' = absurd (true≢false f')
  or_true false b e f' = e

  called_sound : (ts : List Lexeme) (t : Tree) → length ts ≤ n → called_at source f ts ≡ Some t → SpellsCalled source t ts
  unfolding called_at
  called_sound ts t le e =
      then_elim (SpellsCalled source t ts) (called_step source f (begins_word ts)) (primary_at source f ts) e
      (λ x h k. then_elim (SpellsCalled source t ts)
      (λ y. if begins_word ts || nat_lt (length y.1) (length x.1) then at_end y.0 y.1 else None) (methods_at source f (length x.1) x.0 x.1) k
      (λ y m r. test_elim (SpellsCalled source t ts) (begins_word ts || nat_lt (length y.1) (length x.1)) (at_end y.0 y.1) r
      (λ test same. let end = end_is y.0 y.1 same in
      let spelled = methods_sound lists source f (reader_sound_expr lists source n) (length x.1) x.0 x.1 y ts m (bare (primary_sound lists source f (reader_sound_expr lists source n) ts x h)) in
      subst (λ u. SpellsCalled source u ts) end.same
      (called_postfix spelled end.empty (λ u p. of_word (begins_word ts) refl x y test h u p)))))
    where
      of_word : (b : Bool) → begins_word ts ≡ b → (x y : Tree × List Lexeme) → (begins_word ts || nat_lt (length y.1) (length x.1)) ≡ true →
          primary_at source f ts ≡ Some x → (u : Tree) → Spells source (a_primary u) ts y.1 → begins_word ts ≡ true
      of_word true b x y test h u p = b
      of_word false b x y test h u p =
          let read : primary_at source f ts ≡ Some (u, y.1) = complete lists source p n le in
          let same : x.1 ≡ y.1 = ap (λ z. z.1) (some_inj (sym h ∙ read)) in
          let less : length y.1 < length x.1 = ltb-true (length y.1) (length x.1) (or_true (begins_word ts) (nat_lt (length y.1) (length x.1)) test b) in
          absurd (omega (arith, less, ap length same))

  bound_as : (w : Span) (ts : List Lexeme) (t : Tree) (severed : Bool) → Valued Sever ts t severed → SpellsBinding source (bind (bytes_at source w) t severed) (Name w ∷ Equals ∷ ts)
  bound_as w ts t false h = binds_value h
  bound_as w ts t true h = binds_severed h.spelled h.brackets_left

  bind_sound : (w : Span) (ts : List Lexeme) (s : StatementTree) → bind_at source f (bytes_at source w) ts ≡ Some s → SpellsBinding source s (Name w ∷ Equals ∷ ts)
  bind_sound w ts s e =
      map_elim (SpellsBinding source s (Name w ∷ Equals ∷ ts)) (λ x. bind (bytes_at source w) x.0 x.1) (valued_at source f Sever ts) e
      (λ x h same. subst (λ u. SpellsBinding source u (Name w ∷ Equals ∷ ts)) same (bound_as w ts x.0 x.1 (valued_sound Sever ts x h)))

  bind_list_sound : (ts : List Lexeme) (s : StatementTree) → length ts ≤ n → bind_list_at source f ts ≡ Some s → SpellsBinding source s (Open ∷ ts)
  unfolding bind_list_at
  bind_list_sound ts s le e =
      then_elim (SpellsBinding source s (Open ∷ ts)) (bind_names source f) (all_names_at source ts) e
      (λ x h k. then_elim (SpellsBinding source s (Open ∷ ts)) (λ us. option_map (bind_list x.0) (called_at source f us)) (option_and_then (after Equals) (after Close x.1)) k
      (λ us l m. then_elim (SpellsBinding source s (Open ∷ ts)) (after Equals) (after Close x.1) l
      (λ vs c d. map_elim (SpellsBinding source s (Open ∷ ts)) (bind_list x.0) (called_at source f us) m
      (λ t g same. subst (λ u. SpellsBinding source u (Open ∷ ts)) same
      (let is : x.1 ≡ Close ∷ Equals ∷ us = after_is Close x.1 c ∙ ap (λ v. Close ∷ v) (after_is Equals vs d) in
      let spelled = subst (SpellsNames source [] x.0 ts) is (all_names_sound source ts x h) in
      binds_names spelled (called_sound us t (omega (arith, names_shorter spelled)) g))))))
    where
      names_shorter : {front names : List (List ℕ)} {ts rest : List Lexeme} → SpellsNames source front names ts rest → length rest ≤ length ts
      names_shorter one_name = omega arith
      names_shorter (more_names h) = let a = names_shorter h in omega arith

  abbrev Viewed : List Lexeme → List View × List Lexeme → Type 0
  Viewed ts x = SpellsViews source [] x.0 ts x.1

  views_sound : (k : ℕ) (views : List View) (us ts : List Lexeme) (x : List View × List Lexeme) →
      views_at source f k views us ≡ Some x → Viewed ts (views, us) → Viewed ts x
  unfolding views_at
  views_sound zero views us ts x e h = subst (Viewed ts) (some_inj e) h
  views_sound (suc k) views us ts x e h =
      choose_elim (Viewed ts x) (Some (views, us))
      (λ v. option_and_then (λ y. views_at source f k (views ++ (bytes_at source v.0, y.0) ∷ []) y.1) (maybe_at source f none v.1)) (view_at us) e
      (λ c d. subst (Viewed ts) (some_inj d) h)
      (λ v c d. then_elim (Viewed ts x) (λ y. views_at source f k (views ++ (bytes_at source v.0, y.0) ∷ []) y.1) (maybe_at source f none v.1) d
      (λ y m r. views_sound k (views ++ (bytes_at source v.0, y.0) ∷ []) y.1 ts x r
      (one_view (subst (SpellsViews source [] views ts) (view_is us v c) h) (maybe_sound lists source f (reader_sound_expr lists source n) none v.1 y m))))

  assignment_sound : (w : Span) (ts : List Lexeme) (s : StatementTree) → assignment_at source f (bytes_at source w) ts ≡ Some s → Stated source (Name w ∷ ts) s
  unfolding assignment_at
  assignment_sound w ts s e =
      then_elim (Stated source (Name w ∷ ts) s) (assign_value source f (bytes_at source w)) (views_at source f (length ts) [] ts) e
      (λ x h k. then_elim (Stated source (Name w ∷ ts) s) (λ a. option_map (assign (bytes_at source w) x.0 a.0) (expression_to_end_at source f a.1)) (assign_at x.1) k
      (λ a l m. map_elim (Stated source (Name w ∷ ts) s) (assign (bytes_at source w) x.0 a.0) (expression_to_end_at source f a.1) m
      (λ t g same. subst (Stated source (Name w ∷ ts)) same
      (assigns (subst (SpellsViews source [] x.0 ts) (assign_is x.1 a l) (views_sound (length ts) [] ts ts x h no_views)) (ended_sound a.1 t g)))))

  reshape_sound : (w : Span) (ts : List Lexeme) (s : StatementTree) → reshape_at source f (bytes_at source w) ts ≡ Some s →
      Stated source (Name w ∷ Arrow ∷ Keyword Reshape ∷ Open ∷ ts) s
  reshape_sound w ts s e =
      then_elim (Stated source (Name w ∷ Arrow ∷ Keyword Reshape ∷ Open ∷ ts) s) (λ x. at_end (reshape (bytes_at source w) x.0) x.1) (closed_at source f none ts) e
      (λ x h k. let end = end_is (reshape (bytes_at source w) x.0) x.1 k in
      subst (Stated source (Name w ∷ Arrow ∷ Keyword Reshape ∷ Open ∷ ts)) end.same
      (reshapes (subst (Spells source (closed_args none x.0) ts) end.empty (closed_sound lists source f (reader_sound_expr lists source n) none ts x h))))

  named_sound : (w : Span) (ts : List Lexeme) (s : StatementTree) → statement_of_name_at source f (bytes_at source w) ts ≡ Some s → Stated source (Name w ∷ ts) s
  unfolding statement_of_name_at
  named_sound w ts s e =
      let name = bytes_at source w in
      choose_elim (Stated source (Name w ∷ ts) s)
      (choose (choose (assignment_at source f name ts) (reshape_at source f name) (after_reshape ts)) (sever_at name) (after_keyword Sever ts))
      (bind_at source f name) (after Equals ts) e
      (λ no' h. choose_elim (Stated source (Name w ∷ ts) s) (choose (assignment_at source f name ts) (reshape_at source f name) (after_reshape ts)) (sever_at name) (after_keyword Sever ts) h
      (λ no'' k. choose_elim (Stated source (Name w ∷ ts) s) (assignment_at source f name ts) (reshape_at source f name) (after_reshape ts) k
      (λ no''' l. assignment_sound w ts s l)
      (λ us l m. subst (λ vs. Stated source (Name w ∷ vs) s) (sym (reshape_is ts l)) (reshape_sound w us s m)))
      (λ us k l. test_elim (Stated source (Name w ∷ ts) s) (is_brackets us) (Some (sever name)) l
      (λ test same. subst (λ vs. Stated source (Name w ∷ vs) s) (sym (after_keyword_is Sever ts k))
      (subst (Stated source (Name w ∷ Arrow ∷ Keyword Sever ∷ us)) (some_inj same) (severs (brackets_are us test))))))
      (λ us h k. subst (λ vs. Stated source (Name w ∷ vs) s) (sym (after_is Equals ts h)) (binds (bind_sound w us s k)))

  binding_sound : (ts : List Lexeme) (s : StatementTree) → length ts ≤ n → binding_at source f ts ≡ Some s → SpellsBinding source s ts
  unfolding binding_at
  binding_sound ts s le e =
      choose_elim (SpellsBinding source s ts) (option_and_then (bind_name source f) (name_at ts)) (bind_list_at source f) (after Open ts) e
      (λ no' h. then_elim (SpellsBinding source s ts) (bind_name source f) (name_at ts) h
      (λ x k l. then_elim (SpellsBinding source s ts) (bind_at source f (bytes_at source x.0)) (after Equals x.1) l
      (λ us c d. subst (SpellsBinding source s) (sym (name_is ts x k ∙ ap (λ v. Name x.0 ∷ v) (after_is Equals x.1 c))) (bind_sound x.0 us s d))))
      (λ us h k. subst (SpellsBinding source s) (sym (after_is Open ts h)) (bind_list_sound us s (omega (arith, ap length (after_is Open ts h))) k))

  shown_as : (ts : List Lexeme) (t : Tree) (info : Bool) → Valued Info ts t info → Stated source (Keyword Print ∷ ts) (show t info)
  shown_as ts t false h = shows h
  shown_as ts t true h = shows_info h.spelled h.brackets_left

  value_sound : (ts : List Lexeme) (s : StatementTree) → value_at source f ts ≡ Some s → Stated source (Keyword Print ∷ ts) s
  value_sound ts s e =
      map_elim (Stated source (Keyword Print ∷ ts) s) (λ x. show x.0 x.1) (valued_at source f Info ts) e
      (λ x h same. subst (Stated source (Keyword Print ∷ ts)) same (shown_as ts x.0 x.1 (valued_sound Info ts x h)))

  show_sound : (ts : List Lexeme) (s : StatementTree) → show_at source f ts ≡ Some s → Stated source (Keyword Print ∷ ts) s
  unfolding show_at
  show_sound ts s e =
      choose_elim (Stated source (Keyword Print ∷ ts) s) (value_at source f ts) (λ x. at_end (show_text (bytes_at source x.0)) x.1) (quoted_at ts) e
      (λ no' h. value_sound ts s h)
      (λ x h k. let end = end_is (show_text (bytes_at source x.0)) x.1 k in
      subst (Stated source (Keyword Print ∷ ts)) end.same
      (subst (λ vs. Stated source (Keyword Print ∷ vs) (show_text (bytes_at source x.0))) (sym (quoted_is ts x h ∙ ap (λ v. Quoted x.0 ∷ v) end.empty)) shows_text))

  vars_sound : (ts : List Lexeme) (s : StatementTree) → at_end vars ts ≡ Some s → Stated source (Keyword Vars ∷ ts) s
  vars_sound ts s e =
      let end = end_is vars ts e in
      subst (Stated source (Keyword Vars ∷ ts)) end.same (subst (λ vs. Stated source (Keyword Vars ∷ vs) vars) (sym end.empty) lists_names)

  dump_sound : (ts : List Lexeme) (s : StatementTree) → at_end dump ts ≡ Some s → Stated source (Keyword Dump ∷ ts) s
  dump_sound ts s e =
      let end = end_is dump ts e in
      subst (Stated source (Keyword Dump ∷ ts)) end.same (subst (λ vs. Stated source (Keyword Dump ∷ vs) dump) (sym end.empty) dumps)

  flow_sound : (ts : List Lexeme) (s : StatementTree) → flow_at source f ts ≡ Some s → Stated source (Keyword Flow ∷ ts) s
  flow_sound ts s e =
      then_elim (Stated source (Keyword Flow ∷ ts) s) (λ x. option_and_then (flow_value_at source f (bytes_at source x.0)) (after Equals x.1)) (name_at ts) e
      (λ x h k. then_elim (Stated source (Keyword Flow ∷ ts) s) (flow_value_at source f (bytes_at source x.0)) (after Equals x.1) k
      (λ us l m. then_elim (Stated source (Keyword Flow ∷ ts) s) (formula_at (bytes_at source x.0) us) (expression_to_end_at source f us) m
      (λ t c d. test_elim (Stated source (Keyword Flow ∷ ts) s) (is_formula t && not (has_arrow us)) (Some (flow (bytes_at source x.0) t)) d
      (λ test same. let tests = and_parts (is_formula t) (not (has_arrow us)) test in
      subst (λ vs. Stated source (Keyword Flow ∷ vs) s) (sym (name_is ts x h ∙ ap (λ v. Name x.0 ∷ v) (after_is Equals x.1 l)))
      (subst (Stated source (Keyword Flow ∷ Name x.0 ∷ Equals ∷ us)) (some_inj same)
      (flows (ended_sound us t c) tests.0 (not-true (has_arrow us) tests.1)))))))

  -- a statement that is read is spelled
  pub statement_sound : (ts : List Lexeme) (s : StatementTree) → length ts ≤ n → statement_at source f ts ≡ Some s → SpellsStatement source s ts
  unfolding statement_at
  statement_sound [] s le e = absurd (none_some e)
  statement_sound (Keyword My ∷ ts) s le e = my_binds (binding_sound ts s (omega arith) e)
  statement_sound (Keyword Print ∷ ts) s le e = show_sound ts s e
  statement_sound (Keyword Undef ∷ ts) s le e = undef_sound source ts s e
  statement_sound (Keyword Vars ∷ ts) s le e = vars_sound ts s e
  statement_sound (Keyword Dump ∷ ts) s le e = dump_sound ts s e
  statement_sound (Keyword Flow ∷ ts) s le e = flow_sound ts s e
  statement_sound (Keyword PpDef ∷ ts) s le e = define_sound source ts s e
  statement_sound (Keyword Watch ∷ ts) s le e = watch_sound source ts s e
  statement_sound (Keyword Unwatch ∷ ts) s le e = unwatch_sound source ts s e
  statement_sound (Keyword _ ∷ ts) s le e = absurd (none_some e)
  statement_sound (Open ∷ ts) s le e = binds (bind_list_sound ts s (omega arith) e)
  statement_sound (Name w ∷ ts) s le e = named_sound w ts s e
  statement_sound (_ ∷ ts) s le e = absurd (none_some e)
