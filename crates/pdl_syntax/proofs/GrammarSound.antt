-- What the reader of expressions takes is spelled.
use Rattle.std.proofs.Common.{◌≡◌, ℕ, zero, suc, List, [], ◌∷◌, length, Bool, true, false, Some, option_map, option_and_then, if◌then◌else◌, refl, ap, sym, ◌∙◌, subst}
use Rattle.pdl_elem.specs.declared.BinaryOp.TheVariants.{Sub}
use Rattle.pdl_elem.specs.declared.UnaryOp.{UnaryOp}
use Rattle.pdl_elem.specs.declared.UnaryOp.TheVariants.{Neg}
use Rattle.pdl_lexemes.specs.declared.Span.{Span}
use Rattle.pdl_lexemes.specs.declared.WordKind.{WordKind}
use Rattle.pdl_lexemes.specs.declared.Keyword.TheVariants.{Pdl}
use Rattle.pdl_lexemes.specs.declared.Lexeme.{Lexeme}
use Rattle.pdl_lexemes.specs.declared.Lexeme.TheVariants.{Name, Keyword, Word, Number, Open, Operator, Prefix, Close, Comma}
use Rattle.pdl_lexemes.specs.Bytes.{bytes_at}
use Rattle.pdl_lexemes.specs.Lists.{signed}
use Rattle.pdl_lexemes.specs.ListReading.{list_read}
use Rattle.pdl_lemmas.specs.Options.{some_inj, none_some, then_elim, map_elim, choose_elim}
use Rattle.pdl_lexemes.specs.Laws.{ListsAreRead}
use Rattle.pdl_lexemes.specs.Peeks.{Read, after, method_at, prefix_at, quoted_at, type_at}
use Rattle.pdl_syntax.specs.Tree.{Tree, Args, unary, binary, call, none, value, text, of_type}
use Rattle.pdl_syntax.specs.Grammar.{Spells, Part, an_expr, a_postfix, a_primary, an_arg, some_args, closed_args, maybe_args, same, joined, once, negated, prefixed, plain, bare, method, a_number, a_name, list, round_list, called, round, a_value, a_text, a_type, one, more, no_args, all_args, without, within}
use Rattle.pdl_lexemes.specs.Levels.{many}
use Rattle.pdl_syntax.specs.ExpressionReading.{Kind, expression, operand, operator_at, limit_of, tree_of_list, round_list_at, literal_at, number_before, chain_at, value_at, typed_at, arg_at, more_at, close_at, filled_at, closed_at, maybe_at, round_at, call_at, primary_at, methods_at, postfix_at, unary_at, level_at, reader}
use Rattle.pdl_syntax.proofs.ExpressionReadingPeeks.{after_is, quoted_is, operator_is, method_is, type_is}

-- what each kind of reading spells
abbrev pub part_of : Kind → Tree → Part
part_of expression t = an_expr 7 t
part_of operand t = an_expr 0 t

module _ (lists : ListsAreRead) (source : List ℕ) where
  -- a part that is read from these lexemes
  abbrev Taken : (Tree → Part) → List Lexeme → Tree × List Lexeme → Type 0
  Taken p ts x = Spells source (p x.0) ts x.1

  abbrev TakenArgs : (Args → Part) → List Lexeme → Args × List Lexeme → Type 0
  TakenArgs p ts x = Spells source (p x.0) ts x.1

  round_list_sound : (ts : List Lexeme) (x : Tree × List Lexeme) → round_list_at ts ≡ Some x → Taken a_primary (Keyword Pdl ∷ Open ∷ ts) x
  round_list_sound ts x e =
      then_elim (Taken a_primary (Keyword Pdl ∷ Open ∷ ts) x) (λ p. option_map (λ us. (tree_of_list p, us)) (after Close p.rest)) (list_read ts) e
      (λ p h k. map_elim (Taken a_primary (Keyword Pdl ∷ Open ∷ ts) x) (λ us. (tree_of_list p, us)) (after Close p.rest) k
      (λ us c is. subst (Taken a_primary (Keyword Pdl ∷ Open ∷ ts)) is
      (round_list (rw (after_is Close p.rest c) at ((lists.reads ts p.rest p.shape p.elems).0 h)))))

  literal_sound : (ts : List Lexeme) (x : Tree × List Lexeme) → literal_at ts ≡ Some x → Taken a_primary (Keyword Pdl ∷ ts) x
  literal_sound ts x e =
      choose_elim (Taken a_primary (Keyword Pdl ∷ ts) x) (option_map (λ p. (tree_of_list p, p.rest)) (list_read ts)) round_list_at (after Open ts) e
      (λ h k. map_elim (Taken a_primary (Keyword Pdl ∷ ts) x) (λ p. (tree_of_list p, p.rest)) (list_read ts) k
      (λ p c is. subst (Taken a_primary (Keyword Pdl ∷ ts)) is (list ((lists.reads ts p.rest p.shape p.elems).0 c))))
      (λ us h k. subst (λ vs. Taken a_primary (Keyword Pdl ∷ vs) x) (sym (after_is Open ts h)) (round_list_sound us x k))

  module _ (f : Kind → List Lexeme → Read Tree)
      (sound : (kind : Kind) (ts : List Lexeme) (x : Tree × List Lexeme) → f kind ts ≡ Some x → Taken (part_of kind) ts x) where
    value_sound : (front : Args) (ts : List Lexeme) (x : Args × List Lexeme) → value_at source f front ts ≡ Some x → TakenArgs (an_arg front) ts x
    value_sound front ts x e =
        map_elim (TakenArgs (an_arg front) ts x) (λ y. (value front y.0, y.1)) (f expression ts) e
        (λ y h is. subst (TakenArgs (an_arg front) ts) is (a_value (sound expression ts y h)))

    typed_sound : (front : Args) (ts : List Lexeme) (x : Args × List Lexeme) → typed_at source f front ts ≡ Some x → TakenArgs (an_arg front) ts x
    typed_sound front ts x e =
        choose_elim (TakenArgs (an_arg front) ts x) (value_at source f front ts) (λ y. Some (of_type front y.0, y.1)) (type_at ts) e
        (λ h k. value_sound front ts x k)
        (λ y h k. subst (TakenArgs (an_arg front) ts) (some_inj k)
        (subst (λ vs. TakenArgs (an_arg front) vs (of_type front y.0, y.1)) (sym (type_is ts y h).is) a_type))

    arg_sound : (front : Args) (ts : List Lexeme) (x : Args × List Lexeme) → arg_at source f front ts ≡ Some x → TakenArgs (an_arg front) ts x
    unfolding arg_at
    arg_sound front ts x e =
        choose_elim (TakenArgs (an_arg front) ts x) (typed_at source f front ts) (λ y. Some (text front (bytes_at source y.0), y.1)) (quoted_at ts) e
        (λ h k. typed_sound front ts x k)
        (λ y h k. subst (TakenArgs (an_arg front) ts) (some_inj k)
        (subst (λ vs. TakenArgs (an_arg front) vs (text front (bytes_at source y.0), y.1)) (sym (quoted_is ts y h)) a_text))

    more_sound : (k : ℕ) (args : Args) (us : List Lexeme) (x : Args × List Lexeme) (front : Args) (ts : List Lexeme) →
        more_at source f k args us ≡ Some x → Spells source (some_args front args) ts us → TakenArgs (some_args front) ts x
    unfolding more_at
    more_sound zero args us x front ts e h = subst (TakenArgs (some_args front) ts) (some_inj e) h
    more_sound (suc k) args us x front ts e h =
        choose_elim (TakenArgs (some_args front) ts x) (Some (args, us))
        (λ vs. option_and_then (λ y. more_at source f k y.0 y.1) (arg_at source f args vs)) (after Comma us) e
        (λ c d. subst (TakenArgs (some_args front) ts) (some_inj d) h)
        (λ vs c d. then_elim (TakenArgs (some_args front) ts x) (λ y. more_at source f k y.0 y.1) (arg_at source f args vs) d
        (λ y m r. more_sound k y.0 y.1 x front ts r
        (more (subst (Spells source (some_args front args) ts) (after_is Comma us c) h) (arg_sound args vs y m))))

    filled_sound : (front : Args) (ts : List Lexeme) (x : Args × List Lexeme) → filled_at source f front ts ≡ Some x → TakenArgs (closed_args front) ts x
    filled_sound front ts x e =
        then_elim (TakenArgs (closed_args front) ts x) (λ y. option_and_then (close_at source f) (more_at source f (length y.1) y.0 y.1)) (arg_at source f front ts) e
        (λ y h k. then_elim (TakenArgs (closed_args front) ts x) (close_at source f) (more_at source f (length y.1) y.0 y.1) k
        (λ z m r. map_elim (TakenArgs (closed_args front) ts x) (λ us. (z.0, us)) (after Close z.1) r
        (λ us c is. subst (TakenArgs (closed_args front) ts) is
        (all_args (subst (Spells source (some_args front z.0) ts) (after_is Close z.1 c)
        (more_sound (length y.1) y.0 y.1 z front ts m (one (arg_sound front ts y h))))))))

    pub closed_sound : (front : Args) (ts : List Lexeme) (x : Args × List Lexeme) → closed_at source f front ts ≡ Some x → TakenArgs (closed_args front) ts x
    unfolding closed_at
    closed_sound front ts x e =
        choose_elim (TakenArgs (closed_args front) ts x) (filled_at source f front ts) (λ us. Some (front, us)) (after Close ts) e
        (λ h k. filled_sound front ts x k)
        (λ us h k. subst (TakenArgs (closed_args front) ts) (some_inj k)
        (subst (λ vs. Spells source (closed_args front front) vs us) (sym (after_is Close ts h)) no_args))

    pub maybe_sound : (front : Args) (ts : List Lexeme) (x : Args × List Lexeme) → maybe_at source f front ts ≡ Some x → TakenArgs (maybe_args front) ts x
    unfolding maybe_at
    maybe_sound front ts x e =
        choose_elim (TakenArgs (maybe_args front) ts x) (Some (front, ts)) (closed_at source f front) (after Open ts) e
        (λ h k. subst (TakenArgs (maybe_args front) ts) (some_inj k) without)
        (λ us h k. subst (λ vs. TakenArgs (maybe_args front) vs x) (sym (after_is Open ts h)) (within (closed_sound front us x k)))

    round_sound : (ts : List Lexeme) (x : Tree × List Lexeme) → round_at source f ts ≡ Some x → Taken a_primary (Open ∷ ts) x
    round_sound ts x e =
        then_elim (Taken a_primary (Open ∷ ts) x) (λ y. option_map (λ us. (y.0, us)) (after Close y.1)) (f expression ts) e
        (λ y h k. map_elim (Taken a_primary (Open ∷ ts) x) (λ us. (y.0, us)) (after Close y.1) k
        (λ us c is. subst (Taken a_primary (Open ∷ ts)) is (round (subst (Spells source (an_expr 7 y.0) ts) (after_is Close y.1 c) (sound expression ts y h)))))

    call_sound : (kind : WordKind) (w : Span) (ts : List Lexeme) (x : Tree × List Lexeme) → call_at source f w ts ≡ Some x → Taken a_primary (Word kind w ∷ ts) x
    call_sound kind w ts x e =
        then_elim (Taken a_primary (Word kind w ∷ ts) x) (λ us. option_map (λ y. (call (bytes_at source w) y.0, y.1)) (closed_at source f none us)) (after Open ts) e
        (λ us h k. map_elim (Taken a_primary (Word kind w ∷ ts) x) (λ y. (call (bytes_at source w) y.0, y.1)) (closed_at source f none us) k
        (λ y c is. subst (Taken a_primary (Word kind w ∷ ts)) is
        (subst (λ vs. Spells source (a_primary (call (bytes_at source w) y.0)) (Word kind w ∷ vs) y.1) (sym (after_is Open ts h)) (called (closed_sound none us y c)))))

    pub primary_sound : (ts : List Lexeme) (x : Tree × List Lexeme) → primary_at source f ts ≡ Some x → Taken a_primary ts x
    unfolding primary_at
    primary_sound [] x e = absurd (none_some e)
    primary_sound (Number n ∷ ts) x e =
        map_elim (Taken a_primary (Number n ∷ ts) x) (number_before ts) (signed n) e
        (λ z h is. subst (Taken a_primary (Number n ∷ ts)) is (a_number h))
    primary_sound (Name w ∷ ts) x e = subst (Taken a_primary (Name w ∷ ts)) (some_inj e) a_name
    primary_sound (Keyword Pdl ∷ ts) x e = literal_sound ts x e
    primary_sound (Keyword _ ∷ ts) x e = absurd (none_some e)
    primary_sound (Word kind w ∷ ts) x e = call_sound kind w ts x e
    primary_sound (Open ∷ ts) x e = round_sound ts x e
    primary_sound (_ ∷ ts) x e = absurd (none_some e)

    pub methods_sound : (k : ℕ) (t : Tree) (us : List Lexeme) (x : Tree × List Lexeme) (ts : List Lexeme) →
        methods_at source f k t us ≡ Some x → Spells source (a_postfix t) ts us → Taken a_postfix ts x
    unfolding methods_at
    methods_sound zero t us x ts e h = subst (Taken a_postfix ts) (some_inj e) h
    methods_sound (suc k) t us x ts e h =
        choose_elim (Taken a_postfix ts x) (Some (t, us))
        (λ m. option_and_then (λ y. methods_at source f k (call (bytes_at source m.0) y.0) y.1) (maybe_at source f (value none t) m.1)) (method_at us) e
        (λ c d. subst (Taken a_postfix ts) (some_inj d) h)
        (λ m c d. then_elim (Taken a_postfix ts x) (λ y. methods_at source f k (call (bytes_at source m.0) y.0) y.1) (maybe_at source f (value none t) m.1) d
        (λ y g r. methods_sound k (call (bytes_at source m.0) y.0) y.1 x ts r
        (method (subst (Spells source (a_postfix t) ts) (method_is us m c).is h) (maybe_sound (value none t) m.1 y g))))

    pub postfix_sound : (ts : List Lexeme) (x : Tree × List Lexeme) → postfix_at source f ts ≡ Some x → Taken a_postfix ts x
    unfolding postfix_at
    postfix_sound ts x e =
        then_elim (Taken a_postfix ts x) (λ y. methods_at source f (length y.1) y.0 y.1) (primary_at source f ts) e
        (λ y h k. methods_sound (length y.1) y.0 y.1 x ts k (bare (primary_sound ts y h)))

    operand_sound : (op : UnaryOp) (ts us : List Lexeme) (x : Tree × List Lexeme) →
        ((t : Tree) (rest : List Lexeme) → Spells source (an_expr 0 t) us rest → Spells source (an_expr 0 (unary op t)) ts rest) →
        option_map (λ y. (unary op y.0, y.1)) (f operand us) ≡ Some x → Taken (an_expr 0) ts x
    operand_sound op ts us x rule e =
        map_elim (Taken (an_expr 0) ts x) (λ y. (unary op y.0, y.1)) (f operand us) e
        (λ y h is. subst (Taken (an_expr 0) ts) is (rule y.0 y.1 (sound operand us y h)))

    prefix_sound : (ts : List Lexeme) (p : UnaryOp × List Lexeme) (x : Tree × List Lexeme) → prefix_at ts ≡ Some p →
        option_map (λ y. (unary p.0 y.0, y.1)) (f operand p.1) ≡ Some x → Taken (an_expr 0) ts x
    prefix_sound [] p x h e = absurd (none_some h)
    prefix_sound (Prefix op ∷ ts) p x h e =
        operand_sound op (Prefix op ∷ ts) ts x (λ t rest. prefixed)
        (ap (λ q. option_map (λ y. (unary q.0 y.0, y.1)) (f operand q.1)) (some_inj h) ∙ e)
    prefix_sound (Operator Sub ∷ ts) p x h e =
        operand_sound Neg (Operator Sub ∷ ts) ts x (λ t rest. negated)
        (ap (λ q. option_map (λ y. (unary q.0 y.0, y.1)) (f operand q.1)) (some_inj h) ∙ e)
    prefix_sound (Operator _ ∷ ts) p x h e = absurd (none_some h)
    prefix_sound (_ ∷ ts) p x h e = absurd (none_some h)

    pub unary_sound : (ts : List Lexeme) (x : Tree × List Lexeme) → unary_at source f ts ≡ Some x → Taken (an_expr 0) ts x
    unfolding unary_at
    unary_sound ts x e =
        choose_elim (Taken (an_expr 0) ts x) (postfix_at source f ts) (λ p. option_map (λ y. (unary p.0 y.0, y.1)) (f operand p.1)) (prefix_at ts) e
        (λ h k. plain (postfix_sound ts x k))
        (λ p h k. prefix_sound ts p x h k)

  module _ (l : ℕ) (inner : List Lexeme → Read Tree)
      (sound : (ts : List Lexeme) (x : Tree × List Lexeme) → inner ts ≡ Some x → Taken (an_expr l) ts x) where
    many_sound : (k : ℕ) (t : Tree) (us : List Lexeme) (x : Tree × List Lexeme) (ts : List Lexeme) → many (suc l) ≡ true →
        chain_at inner (suc l) k t us ≡ Some x → Spells source (an_expr (suc l) t) ts us → Taken (an_expr (suc l)) ts x
    unfolding chain_at
    many_sound zero t us x ts m e h = subst (Taken (an_expr (suc l)) ts) (some_inj e) h
    many_sound (suc k) t us x ts m e h =
        choose_elim (Taken (an_expr (suc l)) ts x) (Some (t, us))
        (λ p. option_and_then (λ y. chain_at inner (suc l) k (binary p.0 t y.0) y.1) (inner p.1)) (operator_at (suc l) us) e
        (λ c d. subst (Taken (an_expr (suc l)) ts) (some_inj d) h)
        (λ p c d. then_elim (Taken (an_expr (suc l)) ts x) (λ y. chain_at inner (suc l) k (binary p.0 t y.0) y.1) (inner p.1) d
        (λ y g r. let o = operator_is (suc l) us p c in
        many_sound k (binary p.0 t y.0) y.1 x ts m r
        (joined (subst (Spells source (an_expr (suc l) t) ts) o.is h) o.level m (sound p.1 y g))))

    once_sound : (t : Tree) (us : List Lexeme) (x : Tree × List Lexeme) (ts : List Lexeme) → many (suc l) ≡ false →
        chain_at inner (suc l) 1 t us ≡ Some x → Spells source (an_expr l t) ts us → Taken (an_expr (suc l)) ts x
    unfolding chain_at
    once_sound t us x ts m e h =
        choose_elim (Taken (an_expr (suc l)) ts x) (Some (t, us))
        (λ p. option_and_then (λ y. chain_at inner (suc l) 0 (binary p.0 t y.0) y.1) (inner p.1)) (operator_at (suc l) us) e
        (λ c d. subst (Taken (an_expr (suc l)) ts) (some_inj d) (same h))
        (λ p c d. then_elim (Taken (an_expr (suc l)) ts x) (λ y. chain_at inner (suc l) 0 (binary p.0 t y.0) y.1) (inner p.1) d
        (λ y g r. let o = operator_is (suc l) us p c in
        subst (Taken (an_expr (suc l)) ts) (some_inj r)
        (once (subst (Spells source (an_expr l t) ts) o.is h) o.level m (sound p.1 y g))))

    limit_sound : (b : Bool) → many (suc l) ≡ b → (t : Tree) (us : List Lexeme) (x : Tree × List Lexeme) (ts : List Lexeme) →
        chain_at inner (suc l) (if b then length us else 1) t us ≡ Some x → Spells source (an_expr l t) ts us → Taken (an_expr (suc l)) ts x
    limit_sound true m t us x ts e h = many_sound (length us) t us x ts m e (same h)
    limit_sound false m t us x ts e h = once_sound t us x ts m e h

  module _ (f : Kind → List Lexeme → Read Tree)
      (sound : (kind : Kind) (ts : List Lexeme) (x : Tree × List Lexeme) → f kind ts ≡ Some x → Taken (part_of kind) ts x) where
    pub level_sound : (l : ℕ) (ts : List Lexeme) (x : Tree × List Lexeme) → level_at source f l ts ≡ Some x → Taken (an_expr l) ts x
    unfolding level_at
    level_sound zero ts x e = unary_sound f sound ts x e
    level_sound (suc l) ts x e =
        then_elim (Taken (an_expr (suc l)) ts x) (λ y. chain_at (level_at source f l) (suc l) (limit_of (suc l) y.1) y.0 y.1) (level_at source f l ts) e
        (λ y h k. limit_sound l (level_at source f l) (level_sound l) (many (suc l)) refl y.0 y.1 x ts k (level_sound l ts y h))

  -- an expression that is read is spelled
  pub reader_sound_expr : (n : ℕ) (kind : Kind) (ts : List Lexeme) (x : Tree × List Lexeme) → reader source n kind ts ≡ Some x → Taken (part_of kind) ts x
  unfolding reader
  reader_sound_expr zero kind ts x e = absurd (none_some e)
  reader_sound_expr (suc n) expression ts x e = level_sound (reader source n) (reader_sound_expr n) 7 ts x e
  reader_sound_expr (suc n) operand ts x e = unary_sound (reader source n) (reader_sound_expr n) ts x e
