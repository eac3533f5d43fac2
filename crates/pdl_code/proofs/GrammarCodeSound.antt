-- What the reader of statements takes is spelled.
use Rattle.std.proofs.Common.{◌≡◌, ℕ, zero, suc, pos, List, [], ◌∷◌, length, Some, None, Bool, true, false, nat_eq, eqb-true, if◌then◌else◌, option_map, option_and_then, refl, ap, sym, ◌∙◌, subst}
use Rattle.pdl_lemmas.specs.Options.{some_inj, none_some, then_elim, map_elim, choose_elim, choose as either}
use Rattle.pdl_code.specs.declared.lexeme.Span.{Span}
use Rattle.pdl_code.specs.declared.lexeme.WordKind.TheVariants.{Plain}
use Rattle.pdl_code.specs.declared.lexeme.Lexeme.{Lexeme}
use Rattle.pdl_code.specs.declared.lexeme.Lexeme.TheVariants.{Word, BlockClose, Semicolon, Equals}
use Rattle.pdl_code.specs.Grammar.{Spells, an_expr, an_access, SpellsType, a_step, some_code, an_else, SpellsBlock, a_loop, a_choice, without_else, with_else, a_declaration, a_valued_declaration, a_word_assignment, an_access_assignment, no_code, empty_statement, a_statement}
use Rattle.pdl_code.specs.Join.{join_code}
use Rattle.pdl_code.specs.declared.names.Target.TheVariants.{New, Named}
use Rattle.pdl_code.specs.Tree.{RawTree, RawStep, RawCode, number, repeat, choose, keep, put, done, next, called}
use Rattle.pdl_code.specs.CodeReading.{Read, after, Declared, access_at, after_condition, after_else, after_if, assignment_at, at_end, before_code, block_at, body_at, branches_at, choice_at, code_at, code_reader, declaration_at, declared_at, else_at, ended_at, ends, expr_at, initial_at, loop_at, one_step, put_at, put_sign, read_code, reader, set_sign, assign_sign_at, statement_at, step_at, expression, word_at}
use Rattle.pdl_code.proofs.CodeReadingChains.{ends_is}
use Rattle.pdl_code.proofs.CodeReadingPeeks.{after_is, condition_is, declared_is, else_is, if_is, loop_is, sign_is, word_is}
use Rattle.pdl_code.proofs.GrammarSound.{access_sound, reader_sound}

abbrev TakenStep : List Lexeme → RawStep × List Lexeme → Type 0
TakenStep ts x = SpellsBlock (a_step x.0) ts x.1

abbrev pub TakenCode : List Lexeme → RawCode × List Lexeme → Type 0
TakenCode ts x = SpellsBlock (some_code x.0) ts x.1

-- an expression and `;`
abbrev TakenEnded : List Lexeme → RawTree × List Lexeme → Type 0
TakenEnded ts x = Spells (an_expr 7 x.0) ts (Semicolon ∷ x.1)

expr_sound : (ts : List Lexeme) (x : RawTree × List Lexeme) → expr_at ts ≡ Some x → Spells (an_expr 7 x.0) ts x.1
expr_sound ts x e = reader_sound (suc (length ts)) expression ts x e

ended_sound : (ts : List Lexeme) (x : RawTree × List Lexeme) → ended_at ts ≡ Some x → TakenEnded ts x
unfolding ended_at
ended_sound ts x e =
    then_elim (TakenEnded ts x) (λ y. option_map (λ us. (y.0, us)) (after Semicolon y.1)) (expr_at ts) e
    (λ y h k. map_elim (TakenEnded ts x) (λ us. (y.0, us)) (after Semicolon y.1) k
    (λ us c is. subst (TakenEnded ts) is (subst (Spells (an_expr 7 y.0) ts) (after_is Semicolon y.1 c) (expr_sound ts y h))))

-- what stands behind a declaration's word
initial_sound : (d : Declared) (ts : List Lexeme) (x : RawTree × List Lexeme) → initial_at d.rest ≡ Some x → (left : List Lexeme) → SpellsType d.ty ts left → left ≡ Word Plain d.word ∷ d.rest
    → SpellsBlock (a_step (keep (New d.ty d.word) None x.0)) ts x.1
unfolding initial_at
initial_sound d ts x e left spelled is =
    let P = SpellsBlock (a_step (keep (New d.ty d.word) None x.0)) ts x.1 in
    choose_elim P (option_map (λ us. (number (pos 0), us)) (after Semicolon d.rest)) ended_at (after Equals d.rest) e
    (λ h k. map_elim P (λ us. (number (pos 0), us)) (after Semicolon d.rest) k
    (λ us c at. subst (λ (y : RawTree × List Lexeme). SpellsBlock (a_step (keep (New d.ty d.word) None y.0)) ts y.1) at
    (a_declaration (subst (SpellsType d.ty ts) (is ∙ ap (λ vs. Word Plain d.word ∷ vs) (after_is Semicolon d.rest c)) spelled))))
    (λ us h k. a_valued_declaration (subst (SpellsType d.ty ts) (is ∙ ap (λ vs. Word Plain d.word ∷ vs) (after_is Equals d.rest h)) spelled) (ended_sound us x k))

declaration_sound : (ts : List Lexeme) (d : Declared) (x : RawStep × List Lexeme) → declared_at ts ≡ Some d → declaration_at d ≡ Some x → TakenStep ts x
declaration_sound ts d x h e =
    let here = declared_is ts d h in
    map_elim (TakenStep ts x) (λ y. (keep (New d.ty d.word) None y.0, y.1)) (initial_at d.rest) e
    (λ y k is. subst (TakenStep ts) is (initial_sound d ts y k here.left here.spelled here.is))

set_sound : (ts : List Lexeme) (w : Span × List Lexeme) (x : RawStep × List Lexeme) → word_at ts ≡ Some w → set_sign w ≡ Some x → TakenStep ts x
set_sound ts w x h e =
    let v = word_is ts w h in
    then_elim (TakenStep ts x) (λ s. option_map (λ y. (keep (Named w.0) s.0 y.0, y.1)) (ended_at s.1)) (assign_sign_at w.1) e
    (λ s k r. map_elim (TakenStep ts x) (λ y. (keep (Named w.0) s.0 y.0, y.1)) (ended_at s.1) r
    (λ y m is. let i = sign_is w.1 s k in
    subst (TakenStep ts) is
    (subst (λ us. SpellsBlock (a_step (keep (Named w.0) s.0 y.0)) us y.1) (sym (v.is ∙ ap (λ us. Word v.kind w.0 ∷ us) i.is))
    (a_word_assignment i.assigns (ended_sound s.1 y m)))))

put_sound : (ts : List Lexeme) (x : RawStep × List Lexeme) → put_at ts ≡ Some x → TakenStep ts x
unfolding put_at
put_sound ts x e =
    let n = suc (length ts) in
    then_elim (TakenStep ts x) put_sign (access_at (reader n) ts) e
    (λ a h k. then_elim (TakenStep ts x) (λ s. option_map (λ y. (put (called a.0.0 a.0.2) a.0.1 s.0 y.0, y.1)) (ended_at s.1)) (assign_sign_at a.1) k
    (λ s g r. map_elim (TakenStep ts x) (λ y. (put (called a.0.0 a.0.2) a.0.1 s.0 y.0, y.1)) (ended_at s.1) r
    (λ y m is. let i = sign_is a.1 s g in
    subst (TakenStep ts) is
    (an_access_assignment (subst (Spells (an_access a.0.0 a.0.1 a.0.2) ts) i.is (access_sound (reader n) (reader_sound n) ts a h)) i.assigns (ended_sound s.1 y m)))))

assignment_sound : (ts : List Lexeme) (x : RawStep × List Lexeme) → assignment_at ts ≡ Some x → TakenStep ts x
unfolding assignment_at
assignment_sound ts x e =
    choose_elim (TakenStep ts x) (put_at ts) set_sign (word_at ts) e
    (λ h k. put_sound ts x k)
    (λ w h k. set_sound ts w x h k)

module _ (g : List Lexeme → Read RawCode) (sound : (ts : List Lexeme) (x : RawCode × List Lexeme) → g ts ≡ Some x → TakenCode ts x) where
  block_sound : (ts : List Lexeme) (x : RawCode × List Lexeme) → block_at g ts ≡ Some x → SpellsBlock (some_code x.0) ts (BlockClose ∷ x.1)
  unfolding block_at
  block_sound ts x e =
      then_elim (SpellsBlock (some_code x.0) ts (BlockClose ∷ x.1)) (λ y. option_map (λ us. (y.0, us)) (after BlockClose y.1)) (g ts) e
      (λ y h k. map_elim (SpellsBlock (some_code x.0) ts (BlockClose ∷ x.1)) (λ us. (y.0, us)) (after BlockClose y.1) k
      (λ us c is. subst (λ (z : RawCode × List Lexeme). SpellsBlock (some_code z.0) ts (BlockClose ∷ z.1)) is
      (subst (SpellsBlock (some_code y.0) ts) (after_is BlockClose y.1 c) (sound ts y h))))

  body_sound : (ts : List Lexeme) (w : Span × List Lexeme) (x : RawStep × List Lexeme) → loop_at ts ≡ Some w → body_at g w ≡ Some x → TakenStep ts x
  body_sound ts w x h e =
      let l = loop_is ts w h in
      map_elim (TakenStep ts x) (λ y. (repeat w.0 y.0, y.1)) (block_at g w.1) e
      (λ y k is. subst (TakenStep ts) is
      (subst (λ us. SpellsBlock (a_step (repeat w.0 y.0)) us y.1) (sym l.is) (a_loop (block_sound w.1 y k))))

  else_sound : (ts : List Lexeme) (x : RawCode × List Lexeme) → else_at g ts ≡ Some x → SpellsBlock (an_else x.0) ts x.1
  else_sound ts x e =
      choose_elim (SpellsBlock (an_else x.0) ts x.1) (Some (done, ts)) (block_at g) (after_else ts) e
      (λ h k. subst (λ (y : RawCode × List Lexeme). SpellsBlock (an_else y.0) ts y.1) (some_inj k) without_else)
      (λ us h k. subst (λ vs. SpellsBlock (an_else x.0) vs x.1) (sym (else_is ts us h).is) (with_else (block_sound us x k)))

  choice_sound : (ts us : List Lexeme) (x : RawStep × List Lexeme) → after_if ts ≡ Some us → choice_at g us ≡ Some x → TakenStep ts x
  unfolding choice_at
  choice_sound ts us x h e =
      let i = if_is ts us h in
      then_elim (TakenStep ts x) (λ y. option_and_then (branches_at g y.0) (after_condition y.1)) (expr_at us) e
      (λ y k r. then_elim (TakenStep ts x) (branches_at g y.0) (after_condition y.1) r
      (λ vs c m. then_elim (TakenStep ts x) (λ a. option_map (λ b. (choose y.0 a.0 b.0, b.1)) (else_at g a.1)) (block_at g vs) m
      (λ a p q. map_elim (TakenStep ts x) (λ b. (choose y.0 a.0 b.0, b.1)) (else_at g a.1) q
      (λ b o is. let d = condition_is y.1 vs c in
      subst (TakenStep ts) is
      (subst (λ zs. SpellsBlock (a_step (choose y.0 a.0 b.0)) zs b.1) (sym i.is)
      (a_choice (subst (Spells (an_expr 7 y.0) us) d.is (expr_sound us y k)) (block_sound vs a p) (else_sound a.1 b o)))))))

  step_sound : (ts : List Lexeme) (x : RawStep × List Lexeme) → step_at g ts ≡ Some x → TakenStep ts x
  unfolding step_at
  step_sound ts x e =
      choose_elim (TakenStep ts x) (either (either (assignment_at ts) declaration_at (declared_at ts)) (choice_at g) (after_if ts)) (body_at g) (loop_at ts) e
      (λ h k. choose_elim (TakenStep ts x) (either (assignment_at ts) declaration_at (declared_at ts)) (choice_at g) (after_if ts) k
      (λ m r. choose_elim (TakenStep ts x) (assignment_at ts) declaration_at (declared_at ts) r
      (λ p q. assignment_sound ts x q)
      (λ d p q. declaration_sound ts d x p q))
      (λ us m r. choice_sound ts us x m r))
      (λ w h k. body_sound ts w x h k)

  -- a statement before code
  statement_sound : (ts : List Lexeme) (x : RawCode × List Lexeme) (c : RawCode) (rest : List Lexeme) → statement_at g ts ≡ Some x → SpellsBlock (some_code c) x.1 rest
      → SpellsBlock (some_code (join_code x.0 c)) ts rest
  unfolding statement_at
  statement_sound ts x c rest e h =
      let P = SpellsBlock (some_code (join_code x.0 c)) ts rest in
      choose_elim P (one_step g ts) (λ us. Some (done, us)) (after Semicolon ts) e
      (λ m k. map_elim P (λ y. (next y.0 done, y.1)) (step_at g ts) k
      (λ y r is. subst (λ (z : RawCode × List Lexeme). SpellsBlock (some_code c) z.1 rest → SpellsBlock (some_code (join_code z.0 c)) ts rest) is
      (λ more. a_statement (step_sound ts y r) more) h))
      (λ us m k. subst (λ (z : RawCode × List Lexeme). SpellsBlock (some_code c) z.1 rest → SpellsBlock (some_code (join_code z.0 c)) ts rest) (some_inj k)
      (λ more. subst (λ vs. SpellsBlock (some_code c) vs rest) (sym (after_is Semicolon ts m)) (empty_statement more)) h)

  code_sound : (k : ℕ) (ts : List Lexeme) (x : RawCode × List Lexeme) → code_at g k ts ≡ Some x → TakenCode ts x
  unfolding code_at
  code_sound zero ts x e = subst (TakenCode ts) (some_inj e) no_code
  code_sound (suc k) ts x e =
      choose_elim (TakenCode ts x) (option_and_then (λ y. before_code y.0 (code_at g k y.1)) (statement_at g ts)) (λ us. Some (done, us)) (ends ts) e
      (λ m d. then_elim (TakenCode ts x) (λ y. before_code y.0 (code_at g k y.1)) (statement_at g ts) d
      (λ y h r. map_elim (TakenCode ts x) (λ z. (join_code y.0 z.0, z.1)) (code_at g k y.1) r
      (λ z o is. subst (TakenCode ts) is (statement_sound ts y z.0 z.1 h (code_sound k y.1 z o)))))
      (λ us m d. subst (TakenCode ts) (some_inj d) (subst (SpellsBlock (some_code done) ts) (sym (ends_is ts us m)) no_code))

-- code that is read is spelled
code_reader_sound : (n : ℕ) (ts : List Lexeme) (x : RawCode × List Lexeme) → code_reader n ts ≡ Some x → TakenCode ts x
unfolding code_reader
code_reader_sound zero ts x e = absurd (none_some e)
code_reader_sound (suc n) ts x e = code_sound (code_reader n) (code_reader_sound n) (length ts) ts x e

nothing_left : (us : List Lexeme) → length us ≡ 0 → us ≡ []
nothing_left [] e = refl
nothing_left (t ∷ us) e = cc

pub all_sound : (ts : List Lexeme) (c : RawCode) → read_code ts ≡ Some c → SpellsBlock (some_code c) ts []
unfolding read_code
all_sound ts c e =
    then_elim (SpellsBlock (some_code c) ts []) at_end (code_reader (suc (length ts)) ts) e
    (λ x h k. by_test x (code_reader_sound (suc (length ts)) ts x h) (nat_eq (length x.1) 0) refl k)
  where
    by_test : (x : RawCode × List Lexeme) → TakenCode ts x → (b : Bool) → nat_eq (length x.1) 0 ≡ b → (if b then Some x.0 else None) ≡ Some c → SpellsBlock (some_code c) ts []
    by_test x h true t k =
        subst (λ d. SpellsBlock (some_code d) ts []) (some_inj k) (subst (SpellsBlock (some_code x.0) ts) (nothing_left x.1 (eqb-true (length x.1) 0 t)) h)
    by_test x h false t k = absurd (none_some k)
