-- What the reader of expressions takes is spelled.
use Rattle.std.proofs.Common.{◌≡◌, ℕ, zero, suc, List, [], ◌∷◌, length, Bool, true, false, Some, option_map, option_and_then, if◌then◌else◌, refl, ap, sym, ◌∙◌, subst}
use Rattle.pdl_elem.specs.declared.BinaryOp.TheVariants.{Sub}
use Rattle.pdl_elem.specs.declared.UnaryOp.{UnaryOp}
use Rattle.pdl_elem.specs.declared.UnaryOp.TheVariants.{Neg}
use Rattle.pdl_lexemes.specs.Lists.{signed}
use Rattle.pdl_lemmas.specs.Options.{some_inj, none_some, then_elim, map_elim, choose_elim, choose as either}
use Rattle.pdl_lexemes.specs.Levels.{many}
use Rattle.pdl_code.specs.declared.lexeme.Span.{Span}
use Rattle.pdl_code.specs.declared.lexeme.WordKind.{WordKind}
use Rattle.pdl_code.specs.declared.lexeme.NameKind.{NameKind}
use Rattle.pdl_code.specs.declared.lexeme.Lexeme.{Lexeme}
use Rattle.pdl_code.specs.declared.lexeme.Lexeme.TheVariants.{Name, Word, Number, Open, Comma, FatArrow, Operator, Prefix}
use Rattle.pdl_code.specs.Grammar.{Part, an_expr, a_primary, an_access, some_indices, Spells, same, joined, once, negated, prefixed, plain, a_number, a_word, a_size, an_element, round, looped_access, given_access, last_index, next_index}
use Rattle.pdl_code.specs.Join.{join}
use Rattle.pdl_code.specs.Tree.{RawTree, RawIndices, size, access, unary, binary, none, along, called}
use Rattle.pdl_code.specs.CodeReading.{Read, after, Kind, expression, operand, access_at, access_name, after_close, before, chain_at, close_at, closed_at, element_at, given_at, index_at, index_word, indices_at, level_at, limit_of, name_first, number_before, operator_at, prefix_at, primary_at, reader, round_at, size_at, unary_at}
use Rattle.pdl_code.proofs.CodeReadingPeeks.{access_is, close_is, closed_is, after_is, index_is, operator_is, size_is}

-- what each kind of reading spells
abbrev pub part_of : Kind → RawTree → Part
part_of expression t = an_expr 7 t
part_of operand t = an_expr 0 t

-- a part that is read from these tokens
abbrev pub Taken : (RawTree → Part) → List Lexeme → RawTree × List Lexeme → Type 0
Taken p ts x = Spells (p x.0) ts x.1

abbrev TakenIndices : List Lexeme → RawIndices × List Lexeme → Type 0
TakenIndices ts x = Spells (some_indices x.0) ts x.1

abbrev TakenGiven : NameKind → Span → List Lexeme → (RawIndices × ℕ) × List Lexeme → Type 0
TakenGiven kind w ts x = Spells (an_access w x.0.0 x.0.1) (Name kind w ∷ Open ∷ ts) x.1

abbrev pub TakenAccess : List Lexeme → (Span × RawIndices × ℕ) × List Lexeme → Type 0
TakenAccess ts x = Spells (an_access x.0.0 x.0.1 x.0.2) ts x.1

-- one index that is read
pub record IndexRead (ts : List Lexeme) (x : RawIndices × List Lexeme) : Type 0 where
  pub kind : WordKind
  pub word : Span
  pub tree : RawTree
  pub left : List Lexeme
  pub is : ts ≡ Word kind word ∷ FatArrow ∷ left
  pub indices : x.0 ≡ along word tree none
  pub spelled : Spells (an_expr 7 tree) left x.1

last_sound : (ts : List Lexeme) (y : RawIndices × List Lexeme) → IndexRead ts y → TakenIndices ts y
last_sound ts y i =
    subst (λ is. Spells (some_indices is) ts y.1) (sym i.indices)
    (subst (λ us. Spells (some_indices (along i.word i.tree none)) us y.1) (sym i.is) (last_index i.spelled))

next_sound : (ts us : List Lexeme) (y z : RawIndices × List Lexeme) → IndexRead ts y → y.1 ≡ Comma ∷ us → TakenIndices us z → Spells (some_indices (join y.0 z.0)) ts z.1
next_sound ts us y z i c h =
    subst (λ is. Spells (some_indices (join is z.0)) ts z.1) (sym i.indices)
    (subst (λ vs. Spells (some_indices (along i.word i.tree z.0)) vs z.1) (sym i.is) (next_index (subst (Spells (an_expr 7 i.tree) i.left) c i.spelled) h))

module _ (f : Kind → List Lexeme → Read RawTree)
    (sound : (kind : Kind) (ts : List Lexeme) (x : RawTree × List Lexeme) → f kind ts ≡ Some x → Taken (part_of kind) ts x) where
  index_sound : (ts : List Lexeme) (x : RawIndices × List Lexeme) → index_at f ts ≡ Some x → IndexRead ts x
  index_sound ts x e =
      then_elim (IndexRead ts x) (λ w. option_map (λ y. (along w.0 y.0 none, y.1)) (f expression w.1)) (index_word ts) e
      (λ w h k. map_elim (IndexRead ts x) (λ y. (along w.0 y.0 none, y.1)) (f expression w.1) k
      (λ y m is. let i = index_is ts w h in
      subst (IndexRead ts) is
      (record { kind = i.kind; word = w.0; tree = y.0; left = w.1; is = i.is; indices = refl; spelled = sound expression w.1 y m })))

  indices_sound : (k : ℕ) (ts : List Lexeme) (x : RawIndices × List Lexeme) → indices_at f k ts ≡ Some x → TakenIndices ts x
  unfolding indices_at
  indices_sound zero ts x e = absurd (none_some e)
  indices_sound (suc k) ts x e =
      then_elim (TakenIndices ts x) (λ y. either (Some y) (λ us. before y.0 (indices_at f k us)) (after Comma y.1)) (index_at f ts) e
      (λ y h d. let i = index_sound ts y h in
      choose_elim (TakenIndices ts x) (Some y) (λ us. before y.0 (indices_at f k us)) (after Comma y.1) d
      (λ c is. subst (TakenIndices ts) (some_inj is) (last_sound ts y i))
      (λ us c r. map_elim (TakenIndices ts x) (λ z. (join y.0 z.0, z.1)) (indices_at f k us) r
      (λ z m is. subst (TakenIndices ts) is (next_sound ts us y z i (after_is Comma y.1 c) (indices_sound k us z m)))))

  given_sound : (kind : NameKind) (w : Span) (ts : List Lexeme) (x : (RawIndices × ℕ) × List Lexeme) → given_at f ts ≡ Some x → TakenGiven kind w ts x
  unfolding given_at
  given_sound kind w ts x e =
      choose_elim (TakenGiven kind w ts x) (option_and_then (closed_at f) (indices_at f (length ts) ts)) (λ y. Some ((none, y.0), y.1)) (close_at ts) e
      (λ h k. then_elim (TakenGiven kind w ts x) (closed_at f) (indices_at f (length ts) ts) k
      (λ y m r. map_elim (TakenGiven kind w ts x) (λ z. ((y.0, z.0), z.1)) (close_at y.1) r
      (λ z c is. subst (TakenGiven kind w ts) is
      (given_access (subst (Spells (some_indices y.0) ts) (close_is y.1 z c) (indices_sound (length ts) ts y m))))))
      (λ y h k. subst (TakenGiven kind w ts) (some_inj k)
      (subst (λ us. Spells (an_access w none y.0) (Name kind w ∷ Open ∷ us) y.1) (sym (close_is ts y h)) looped_access))

  pub access_sound : (ts : List Lexeme) (x : (Span × RawIndices × ℕ) × List Lexeme) → access_at f ts ≡ Some x → TakenAccess ts x
  access_sound ts x e =
      then_elim (TakenAccess ts x) (λ w. option_map (λ y. ((w.0, y.0.0, y.0.1), y.1)) (given_at f w.1)) (access_name ts) e
      (λ w h k. map_elim (TakenAccess ts x) (λ y. ((w.0, y.0.0, y.0.1), y.1)) (given_at f w.1) k
      (λ y m is. let a = access_is ts w h in
      subst (TakenAccess ts) is
      (subst (λ us. Spells (an_access w.0 y.0.0 y.0.1) us y.1) (sym a.is) (given_sound a.kind w.0 w.1 y m))))

  round_sound : (ts : List Lexeme) (x : RawTree × List Lexeme) → round_at f ts ≡ Some x → Taken a_primary (Open ∷ ts) x
  round_sound ts x e =
      then_elim (Taken a_primary (Open ∷ ts) x) (λ y. option_map (λ us. (y.0, us)) (after_close y.1)) (f expression ts) e
      (λ y h k. map_elim (Taken a_primary (Open ∷ ts) x) (λ us. (y.0, us)) (after_close y.1) k
      (λ us c is. let b = closed_is y.1 us c in
      subst (Taken a_primary (Open ∷ ts)) is (round (subst (Spells (an_expr 7 y.0) ts) b.is (sound expression ts y h)))))

  name_sound : (ts : List Lexeme) (x : RawTree × List Lexeme) → name_first f ts ≡ Some x → Taken a_primary ts x
  name_sound ts x e =
      choose_elim (Taken a_primary ts x) (element_at f ts) (λ y. Some (size y.0, y.1)) (size_at ts) e
      (λ h k. map_elim (Taken a_primary ts x) (λ y. (access (called y.0.0 y.0.2) y.0.1, y.1)) (access_at f ts) k
      (λ y m is. subst (Taken a_primary ts) is (an_element (access_sound ts y m))))
      (λ y h k. let n = size_is ts y h in
      subst (Taken a_primary ts) (some_inj k) (subst (λ us. Spells (a_primary (size y.0)) us y.1) (sym n.is) a_size))

  pub primary_sound : (ts : List Lexeme) (x : RawTree × List Lexeme) → primary_at f ts ≡ Some x → Taken a_primary ts x
  unfolding primary_at
  primary_sound [] x e = absurd (none_some e)
  primary_sound (Number n ∷ ts) x e =
      map_elim (Taken a_primary (Number n ∷ ts) x) (number_before ts) (signed n) e
      (λ z h is. subst (Taken a_primary (Number n ∷ ts)) is (a_number h))
  primary_sound (Word kind w ∷ ts) x e = subst (Taken a_primary (Word kind w ∷ ts)) (some_inj e) a_word
  primary_sound (Open ∷ ts) x e = round_sound ts x e
  primary_sound (Name kind w ∷ ts) x e = name_sound (Name kind w ∷ ts) x e
  primary_sound (_ ∷ ts) x e = absurd (none_some e)

  operand_sound : (op : UnaryOp) (ts us : List Lexeme) (x : RawTree × List Lexeme) →
      ((t : RawTree) (rest : List Lexeme) → Spells (an_expr 0 t) us rest → Spells (an_expr 0 (unary op t)) ts rest) →
      option_map (λ y. (unary op y.0, y.1)) (f operand us) ≡ Some x → Taken (an_expr 0) ts x
  operand_sound op ts us x rule e =
      map_elim (Taken (an_expr 0) ts x) (λ y. (unary op y.0, y.1)) (f operand us) e
      (λ y h is. subst (Taken (an_expr 0) ts) is (rule y.0 y.1 (sound operand us y h)))

  prefix_sound : (ts : List Lexeme) (p : UnaryOp × List Lexeme) (x : RawTree × List Lexeme) → prefix_at ts ≡ Some p →
      option_map (λ y. (unary p.0 y.0, y.1)) (f operand p.1) ≡ Some x → Taken (an_expr 0) ts x
  prefix_sound [] p x h e = absurd (none_some h)
  prefix_sound (Prefix op ∷ ts) p x h e =
      operand_sound op (Prefix op ∷ ts) ts x (λ t rest. prefixed)
      (ap (λ q. option_map (λ y. (unary q.0 y.0, y.1)) (f operand q.1)) (some_inj h) ∙ e)
  prefix_sound (Operator Sub ∷ ts) p x h e =
      operand_sound Neg (Operator Sub ∷ ts) ts x (λ t rest. negated)
      (ap (λ q. option_map (λ y. (unary q.0 y.0, y.1)) (f operand q.1)) (some_inj h) ∙ e)
  prefix_sound (Operator _ ∷ ts) p x h e = absurd (none_some h)
  prefix_sound (_ ∷ ts) p x h e = absurd (none_some h)

  pub unary_sound : (ts : List Lexeme) (x : RawTree × List Lexeme) → unary_at f ts ≡ Some x → Taken (an_expr 0) ts x
  unfolding unary_at
  unary_sound ts x e =
      choose_elim (Taken (an_expr 0) ts x) (primary_at f ts) (λ p. option_map (λ y. (unary p.0 y.0, y.1)) (f operand p.1)) (prefix_at ts) e
      (λ h k. plain (primary_sound ts x k))
      (λ p h k. prefix_sound ts p x h k)

module _ (l : ℕ) (inner : List Lexeme → Read RawTree)
    (sound : (ts : List Lexeme) (x : RawTree × List Lexeme) → inner ts ≡ Some x → Taken (an_expr l) ts x) where
  many_sound : (k : ℕ) (t : RawTree) (us : List Lexeme) (x : RawTree × List Lexeme) (ts : List Lexeme) → many (suc l) ≡ true →
      chain_at inner (suc l) k t us ≡ Some x → Spells (an_expr (suc l) t) ts us → Taken (an_expr (suc l)) ts x
  unfolding chain_at
  many_sound zero t us x ts m e h = subst (Taken (an_expr (suc l)) ts) (some_inj e) h
  many_sound (suc k) t us x ts m e h =
      choose_elim (Taken (an_expr (suc l)) ts x) (Some (t, us))
      (λ p. option_and_then (λ y. chain_at inner (suc l) k (binary p.0 t y.0) y.1) (inner p.1)) (operator_at (suc l) us) e
      (λ c d. subst (Taken (an_expr (suc l)) ts) (some_inj d) h)
      (λ p c d. then_elim (Taken (an_expr (suc l)) ts x) (λ y. chain_at inner (suc l) k (binary p.0 t y.0) y.1) (inner p.1) d
      (λ y g r. let o = operator_is (suc l) us p c in
      many_sound k (binary p.0 t y.0) y.1 x ts m r
      (joined (subst (Spells (an_expr (suc l) t) ts) o.is h) o.level m (sound p.1 y g))))

  once_sound : (t : RawTree) (us : List Lexeme) (x : RawTree × List Lexeme) (ts : List Lexeme) → many (suc l) ≡ false →
      chain_at inner (suc l) 1 t us ≡ Some x → Spells (an_expr l t) ts us → Taken (an_expr (suc l)) ts x
  unfolding chain_at
  once_sound t us x ts m e h =
      choose_elim (Taken (an_expr (suc l)) ts x) (Some (t, us))
      (λ p. option_and_then (λ y. chain_at inner (suc l) 0 (binary p.0 t y.0) y.1) (inner p.1)) (operator_at (suc l) us) e
      (λ c d. subst (Taken (an_expr (suc l)) ts) (some_inj d) (same h))
      (λ p c d. then_elim (Taken (an_expr (suc l)) ts x) (λ y. chain_at inner (suc l) 0 (binary p.0 t y.0) y.1) (inner p.1) d
      (λ y g r. let o = operator_is (suc l) us p c in
      subst (Taken (an_expr (suc l)) ts) (some_inj r)
      (once (subst (Spells (an_expr l t) ts) o.is h) o.level m (sound p.1 y g))))

  limit_sound : (b : Bool) → many (suc l) ≡ b → (t : RawTree) (us : List Lexeme) (x : RawTree × List Lexeme) (ts : List Lexeme) →
      chain_at inner (suc l) (if b then length us else 1) t us ≡ Some x → Spells (an_expr l t) ts us → Taken (an_expr (suc l)) ts x
  limit_sound true m t us x ts e h = many_sound (length us) t us x ts m e (same h)
  limit_sound false m t us x ts e h = once_sound t us x ts m e h

module _ (f : Kind → List Lexeme → Read RawTree)
    (sound : (kind : Kind) (ts : List Lexeme) (x : RawTree × List Lexeme) → f kind ts ≡ Some x → Taken (part_of kind) ts x) where
  pub level_sound : (l : ℕ) (ts : List Lexeme) (x : RawTree × List Lexeme) → level_at f l ts ≡ Some x → Taken (an_expr l) ts x
  unfolding level_at
  level_sound zero ts x e = unary_sound f sound ts x e
  level_sound (suc l) ts x e =
      then_elim (Taken (an_expr (suc l)) ts x) (λ y. chain_at (level_at f l) (suc l) (limit_of (suc l) y.1) y.0 y.1) (level_at f l ts) e
      (λ y h k. limit_sound l (level_at f l) (level_sound l) (many (suc l)) refl y.0 y.1 x ts k (level_sound l ts y h))

-- an expression that is read is spelled
pub reader_sound : (n : ℕ) (kind : Kind) (ts : List Lexeme) (x : RawTree × List Lexeme) → reader n kind ts ≡ Some x → Taken (part_of kind) ts x
unfolding reader
reader_sound zero kind ts x e = absurd (none_some e)
reader_sound (suc n) expression ts x e = level_sound (reader n) (reader_sound n) 7 ts x e
reader_sound (suc n) operand ts x e = unary_sound (reader n) (reader_sound n) ts x e
