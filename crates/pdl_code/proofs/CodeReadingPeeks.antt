-- What a look at the front says of it.
use Rattle.std.proofs.Common.{rules, ◌≡◌, ℕ, List, [], ◌∷◌, Option, Some, None, Bool, true, false, nat_eq, if◌then◌else◌, refl, sym, ap, ◌∙◌, subst, eqb-true, eq-eqb, true≢false}
use Rattle.std.specs.Prelude.{option_map, option_and_then}
use Rattle.pdl_elem.specs.declared.BinaryOp.{BinaryOp}
use Rattle.pdl_lemmas.specs.Options.{some_inj, none_some, then_elim, map_elim, choose_elim}
use Rattle.pdl_lexemes.specs.Levels.{level_of}
use Rattle.pdl_code.specs.declared.lexeme.Span.{Span}
use Rattle.pdl_code.specs.contracts.lexeme.LexemePartialEq.TheImpl as lexeme
use Rattle.pdl_code.specs.contracts.lexeme.NameKindPartialEq.TheImpl as name_kind
use Rattle.pdl_code.specs.contracts.lexeme.WordKindPartialEq.TheImpl as word_kind
use Rattle.pdl_code.specs.declared.lexeme.WordKind.{WordKind}
use Rattle.pdl_code.specs.declared.lexeme.WordKind.TheVariants.{Loop, If, Else, OfType, Plain}
use Rattle.pdl_code.specs.declared.lexeme.NameKind.{NameKind}
use Rattle.pdl_code.specs.declared.lexeme.NameKind.TheVariants.{Size, Generic}
use Rattle.pdl_code.specs.declared.lexeme.Lexeme.{Lexeme}
use Rattle.pdl_code.specs.declared.lexeme.Lexeme.TheVariants.{Name, Word, Number, Open, Close, BlockOpen, BlockClose, Semicolon, Comma, Equals, FatArrow, Assign, Operator, Prefix, Arrow, Unused}
use Rattle.pdl_code.specs.declared.names.LocalType.{LocalType}
use Rattle.pdl_code.specs.declared.names.LocalType.TheVariants.{Generic as OfGeneric}
use Rattle.pdl_code.specs.Grammar.{SpellsType, type_word, generic_type, assigned}
use Rattle.pdl_code.specs.CodeReading.{Read, after, after_word, after_name, Declared, after_close, close_at, word_at, plain_at, name_at, type_word_at, generic_at, type_at, operator_at, assign_sign_at, closed_word, bracketed_word, size_at, index_word, access_name, declared_word, declared_at, loop_word, loop_at, after_if, after_else, after_condition}

-- (each pair of cases by a clause: a search would try all its rules at each of them)
same_is : (a b : Lexeme) → lexeme.ghosts.eq a b ≡ true → b ≡ a
same_is (Name k s) (Name l t) e = search rules
same_is (Word k s) (Word l t) e = search rules
same_is (Number m) (Number n) e = search rules
same_is Open Open e = refl
same_is (Close m) (Close n) e = search rules
same_is BlockOpen BlockOpen e = refl
same_is BlockClose BlockClose e = refl
same_is Semicolon Semicolon e = refl
same_is Comma Comma e = refl
same_is Equals Equals e = refl
same_is FatArrow FatArrow e = refl
same_is (Assign p) (Assign q) e = search rules
same_is (Operator p) (Operator q) e = search rules
same_is (Prefix p) (Prefix q) e = search rules
same_is Arrow Arrow e = refl
same_is Unused Unused e = refl
same_is _ _ e = absurd (true≢false (sym e))

-- what follows a sign stands behind it
pub after_is : (sign : Lexeme) (ts : List Lexeme) {us : List Lexeme} → after sign ts ≡ Some us → ts ≡ sign ∷ us
after_is sign [] e = absurd (none_some e)
after_is sign (t ∷ ts) {us = us} e = of_test (lexeme.ghosts.eq sign t) refl e
  where
    of_test : (b : Bool) → lexeme.ghosts.eq sign t ≡ b → (if b then Some ts else None) ≡ Some us → t ∷ ts ≡ sign ∷ us
    of_test true same k = ap (λ x. x ∷ ts) (same_is sign t same) ∙ ap (λ x. sign ∷ x) (some_inj k)
    of_test false same k = absurd (none_some k)

pub close_is : (ts : List Lexeme) (x : ℕ × List Lexeme) → close_at ts ≡ Some x → ts ≡ Close x.0 ∷ x.1
close_is [] x e = absurd (none_some e)
close_is (Close at ∷ ts) x e = ap (λ y. Close y.0 ∷ y.1) (some_inj e)
close_is (_ ∷ ts) x e = absurd (none_some e)

-- a closing bracket, and its place
pub record ClosedAt (ts us : List Lexeme) : Type 0 where
  pub place : ℕ
  pub is : ts ≡ Close place ∷ us

pub closed_is : (ts : List Lexeme) (us : List Lexeme) → after_close ts ≡ Some us → ClosedAt ts us
closed_is ts us e =
    map_elim (ClosedAt ts us) (λ x. x.1) (close_at ts) e
    (λ x h is. record { place = x.0; is = close_is ts x h ∙ ap (λ vs. Close x.0 ∷ vs) is })

-- a word or a name of a kind
pub record Here (first : Span → Lexeme) (ts us : List Lexeme) : Type 0 where
  pub span : Span
  pub is : ts ≡ first span ∷ us

same_word : (a b : WordKind) → word_kind.ghosts.eq a b ≡ true → b ≡ a
same_word a b e = search rules

same_name : (a b : NameKind) → name_kind.ghosts.eq a b ≡ true → b ≡ a
same_name a b e = search rules

pub after_word_is : (kind : WordKind) (ts : List Lexeme) {us : List Lexeme} → after_word kind ts ≡ Some us → Here (Word kind) ts us
after_word_is kind [] e = absurd (none_some e)
after_word_is kind (Word k v ∷ ts) {us = us} e = of_test (word_kind.ghosts.eq kind k) refl e
  where
    of_test : (b : Bool) → word_kind.ghosts.eq kind k ≡ b → (if b then Some ts else None) ≡ Some us → Here (Word kind) (Word k v ∷ ts) us
    of_test true same h = record { span = v; is = ap (λ x. Word x v ∷ ts) (same_word kind k same) ∙ ap (λ x. Word kind v ∷ x) (some_inj h) }
    of_test false same h = absurd (none_some h)
after_word_is kind (_ ∷ ts) e = absurd (none_some e)

pub after_name_is : (kind : NameKind) (ts : List Lexeme) {us : List Lexeme} → after_name kind ts ≡ Some us → Here (Name kind) ts us
after_name_is kind [] e = absurd (none_some e)
after_name_is kind (Name k v ∷ ts) {us = us} e = of_test (name_kind.ghosts.eq kind k) refl e
  where
    of_test : (b : Bool) → name_kind.ghosts.eq kind k ≡ b → (if b then Some ts else None) ≡ Some us → Here (Name kind) (Name k v ∷ ts) us
    of_test true same h = record { span = v; is = ap (λ x. Name x v ∷ ts) (same_name kind k same) ∙ ap (λ x. Name kind v ∷ x) (some_inj h) }
    of_test false same h = absurd (none_some h)
after_name_is kind (_ ∷ ts) e = absurd (none_some e)

-- a word of some kind
pub record WordHere (ts : List Lexeme) (x : Span × List Lexeme) : Type 0 where
  pub kind : WordKind
  pub is : ts ≡ Word kind x.0 ∷ x.1

pub word_is : (ts : List Lexeme) (x : Span × List Lexeme) → word_at ts ≡ Some x → WordHere ts x
word_is [] x e = absurd (none_some e)
word_is (Word kind w ∷ ts) x e = record { kind = kind; is = ap (λ y. Word kind y.0 ∷ y.1) (some_inj e) }
word_is (_ ∷ ts) x e = absurd (none_some e)

pub record NameHere (ts : List Lexeme) (x : Span × List Lexeme) : Type 0 where
  pub kind : NameKind
  pub is : ts ≡ Name kind x.0 ∷ x.1

pub name_is : (ts : List Lexeme) (x : Span × List Lexeme) → name_at ts ≡ Some x → NameHere ts x
name_is [] x e = absurd (none_some e)
name_is (Name kind w ∷ ts) x e = record { kind = kind; is = ap (λ y. Name kind y.0 ∷ y.1) (some_inj e) }
name_is (_ ∷ ts) x e = absurd (none_some e)

pub plain_is : (ts : List Lexeme) (x : Span × List Lexeme) → plain_at ts ≡ Some x → ts ≡ Word Plain x.0 ∷ x.1
plain_is [] x e = absurd (none_some e)
plain_is (Word Plain w ∷ ts) x e = ap (λ y. Word Plain y.0 ∷ y.1) (some_inj e)
plain_is (Word _ w ∷ ts) x e = absurd (none_some e)
plain_is (_ ∷ ts) x e = absurd (none_some e)

-- the type of a declaration
type_word_is : (ts : List Lexeme) (x : LocalType × List Lexeme) → type_word_at ts ≡ Some x → SpellsType x.0 ts x.1
type_word_is [] x e = absurd (none_some e)
type_word_is (Word (OfType ty) v ∷ ts) x e = subst (λ y. SpellsType y.0 (Word (OfType ty) v ∷ ts) y.1) (some_inj e) type_word
type_word_is (Word _ w ∷ ts) x e = absurd (none_some e)
type_word_is (_ ∷ ts) x e = absurd (none_some e)

generic_is : (ts : List Lexeme) (x : LocalType × List Lexeme) → generic_at ts ≡ Some x → SpellsType x.0 ts x.1
generic_is ts x e =
    map_elim (SpellsType x.0 ts x.1) (λ us. (OfGeneric, us)) _ e
    (λ us h is. then_elim (SpellsType x.0 ts x.1) after_close _ h
    (λ vs k c. then_elim (SpellsType x.0 ts x.1) (after Open) _ k
    (λ ws g o.
    let n = after_name_is Generic ts g in
    let b = closed_is vs us c in
    subst (λ y. SpellsType y.0 ts y.1) is
    (subst (λ zs. SpellsType OfGeneric zs us) (sym (n.is ∙ ap (λ zs. Name Generic n.span ∷ zs) (after_is Open ws o ∙ ap (λ zs. Open ∷ zs) b.is))) generic_type))))

pub type_is : (ts : List Lexeme) (x : LocalType × List Lexeme) → type_at ts ≡ Some x → SpellsType x.0 ts x.1
type_is ts x e =
    choose_elim (SpellsType x.0 ts x.1) (generic_at ts) (λ y. Some y) (type_word_at ts) e
    (λ h k. generic_is ts x k)
    (λ y h k. type_word_is ts x (h ∙ k))

-- the head of a declaration
pub record DeclaredHere (ts : List Lexeme) (d : Declared) : Type 0 where
  pub left : List Lexeme
  pub spelled : SpellsType d.ty ts left
  pub is : left ≡ Word Plain d.word ∷ d.rest

pub declared_is : (ts : List Lexeme) (d : Declared) → declared_at ts ≡ Some d → DeclaredHere ts d
declared_is ts d e =
    then_elim (DeclaredHere ts d) declared_word (type_at ts) e
    (λ x h k. map_elim (DeclaredHere ts d) (λ y. record { ty = x.0; word = y.0; rest = y.1 }) (plain_at x.1) k
    (λ y p is. subst (DeclaredHere ts) is (record { left = x.1; spelled = type_is ts x h; is = plain_is x.1 y p })))

-- an operator of a level
pub record OperatorAt (l : ℕ) (ts : List Lexeme) (x : BinaryOp × List Lexeme) : Type 0 where
  pub level : level_of x.0 ≡ l
  pub is : ts ≡ Operator x.0 ∷ x.1

pub operator_is : (l : ℕ) (ts : List Lexeme) (x : BinaryOp × List Lexeme) → operator_at l ts ≡ Some x → OperatorAt l ts x
operator_is l [] x e = absurd (none_some e)
operator_is l (Operator op ∷ ts) x e = of_test (nat_eq (level_of op) l) refl e
  where
    of_test : (b : Bool) → nat_eq (level_of op) l ≡ b → (if b then Some (op, ts) else None) ≡ Some x → OperatorAt l (Operator op ∷ ts) x
    of_test true t k = subst (OperatorAt l (Operator op ∷ ts)) (some_inj k) (record { level = eqb-true (level_of op) l t; is = refl })
    of_test false t k = absurd (none_some k)
operator_is l (_ ∷ ts) x e = absurd (none_some e)

pub operator_here : (l : ℕ) (op : BinaryOp) (ts : List Lexeme) → level_of op ≡ l → operator_at l (Operator op ∷ ts) ≡ Some (op, ts)
operator_here l op ts e = rw (eq-eqb (level_of op) l e)

pub operator_other : (l : ℕ) (op : BinaryOp) (ts : List Lexeme) → (level_of op ≡ l → ⊥) → operator_at l (Operator op ∷ ts) ≡ None
operator_other l op ts ne = of_test (nat_eq (level_of op) l) refl
  where
    of_test : (b : Bool) → nat_eq (level_of op) l ≡ b → ◌≡◌ {A = Read BinaryOp} (if b then Some (op, ts) else None) None
    of_test true t = absurd (ne (eqb-true (level_of op) l t))
    of_test false t = refl

-- the sign of an assignment
pub record SignHere (ts : List Lexeme) (x : Option BinaryOp × List Lexeme) : Type 0 where
  pub sign : Lexeme
  pub assigns : assigned sign ≡ Some x.0
  pub is : ts ≡ sign ∷ x.1

pub sign_is : (ts : List Lexeme) (x : Option BinaryOp × List Lexeme) → assign_sign_at ts ≡ Some x → SignHere ts x
sign_is [] x e = absurd (none_some e)
sign_is (s ∷ ts) x e =
    map_elim (SignHere (s ∷ ts) x) (λ op. (op, ts)) (assigned s) e
    (λ op h is. subst (SignHere (s ∷ ts)) is (record { sign = s; assigns = h; is = refl }))

-- a word in brackets
pub record BracketedHere (ts : List Lexeme) (x : Span × List Lexeme) : Type 0 where
  pub kind : WordKind
  pub place : ℕ
  pub is : ts ≡ Open ∷ Word kind x.0 ∷ Close place ∷ x.1

pub bracketed_is : (ts : List Lexeme) (x : Span × List Lexeme) → bracketed_word ts ≡ Some x → BracketedHere ts x
bracketed_is ts x e =
    then_elim (BracketedHere ts x) (λ us. option_and_then closed_word (word_at us)) (after Open ts) e
    (λ us o h. then_elim (BracketedHere ts x) closed_word (word_at us) h
    (λ y w k. map_elim (BracketedHere ts x) (λ vs. (y.0, vs)) (after_close y.1) k
    (λ vs c is.
    let v = word_is us y w in
    let b = closed_is y.1 vs c in
    subst (BracketedHere ts) is
    (record { kind = v.kind; place = b.place; is = after_is Open ts o ∙ ap (λ zs. Open ∷ zs) (v.is ∙ ap (λ zs. Word v.kind y.0 ∷ zs) b.is) }))))

pub record SizeHere (ts : List Lexeme) (x : Span × List Lexeme) : Type 0 where
  pub name : Span
  pub kind : WordKind
  pub place : ℕ
  pub is : ts ≡ Name Size name ∷ Open ∷ Word kind x.0 ∷ Close place ∷ x.1

pub size_is : (ts : List Lexeme) (x : Span × List Lexeme) → size_at ts ≡ Some x → SizeHere ts x
size_is ts x e =
    then_elim (SizeHere ts x) bracketed_word (after_name Size ts) e
    (λ us n h. let v = after_name_is Size ts n in let b = bracketed_is us x h in
    record { name = v.span; kind = b.kind; place = b.place; is = v.is ∙ ap (λ zs. Name Size v.span ∷ zs) b.is })

pub record IndexHere (ts : List Lexeme) (x : Span × List Lexeme) : Type 0 where
  pub kind : WordKind
  pub is : ts ≡ Word kind x.0 ∷ FatArrow ∷ x.1

pub index_is : (ts : List Lexeme) (x : Span × List Lexeme) → index_word ts ≡ Some x → IndexHere ts x
index_is ts x e =
    then_elim (IndexHere ts x) (λ y. option_map (λ us. (y.0, us)) (after FatArrow y.1)) (word_at ts) e
    (λ y w h. map_elim (IndexHere ts x) (λ us. (y.0, us)) (after FatArrow y.1) h
    (λ us a is. let v = word_is ts y w in
    subst (IndexHere ts) is (record { kind = v.kind; is = v.is ∙ ap (λ zs. Word v.kind y.0 ∷ zs) (after_is FatArrow y.1 a) })))

pub record AccessHere (ts : List Lexeme) (x : Span × List Lexeme) : Type 0 where
  pub kind : NameKind
  pub is : ts ≡ Name kind x.0 ∷ Open ∷ x.1

pub access_is : (ts : List Lexeme) (x : Span × List Lexeme) → access_name ts ≡ Some x → AccessHere ts x
access_is ts x e =
    then_elim (AccessHere ts x) (λ y. option_map (λ us. (y.0, us)) (after Open y.1)) (name_at ts) e
    (λ y w h. map_elim (AccessHere ts x) (λ us. (y.0, us)) (after Open y.1) h
    (λ us a is. let v = name_is ts y w in
    subst (AccessHere ts) is (record { kind = v.kind; is = v.is ∙ ap (λ zs. Name v.kind y.0 ∷ zs) (after_is Open y.1 a) })))

-- the head of a loop
pub record LoopHere (ts : List Lexeme) (x : Span × List Lexeme) : Type 0 where
  pub first : Span
  pub kind : WordKind
  pub place : ℕ
  pub is : ts ≡ Word Loop first ∷ Open ∷ Word kind x.0 ∷ Close place ∷ BlockOpen ∷ x.1

pub loop_is : (ts : List Lexeme) (x : Span × List Lexeme) → loop_at ts ≡ Some x → LoopHere ts x
loop_is ts x e =
    then_elim (LoopHere ts x) (λ us. option_and_then loop_word (bracketed_word us)) (after_word Loop ts) e
    (λ us l h. then_elim (LoopHere ts x) loop_word (bracketed_word us) h
    (λ y b k. map_elim (LoopHere ts x) (λ vs. (y.0, vs)) (after BlockOpen y.1) k
    (λ vs o is.
    let v = after_word_is Loop ts l in
    let w = bracketed_is us y b in
    subst (LoopHere ts) is
    (record {
      first = v.span;
      kind = w.kind;
      place = w.place;
      is = v.is ∙ ap (λ zs. Word Loop v.span ∷ zs) (w.is ∙ ap (λ zs. Open ∷ Word w.kind y.0 ∷ Close w.place ∷ zs) (after_is BlockOpen y.1 o));
    }))))

-- `if (`, `else %{` and `) %{`
pub record IfHere (ts us : List Lexeme) : Type 0 where
  pub first : Span
  pub is : ts ≡ Word If first ∷ Open ∷ us

pub if_is : (ts us : List Lexeme) → after_if ts ≡ Some us → IfHere ts us
if_is ts us e =
    then_elim (IfHere ts us) (after Open) (after_word If ts) e
    (λ vs w o. let v = after_word_is If ts w in record { first = v.span; is = v.is ∙ ap (λ zs. Word If v.span ∷ zs) (after_is Open vs o) })

pub record ElseHere (ts us : List Lexeme) : Type 0 where
  pub first : Span
  pub is : ts ≡ Word Else first ∷ BlockOpen ∷ us

pub else_is : (ts us : List Lexeme) → after_else ts ≡ Some us → ElseHere ts us
else_is ts us e =
    then_elim (ElseHere ts us) (after BlockOpen) (after_word Else ts) e
    (λ vs w o. let v = after_word_is Else ts w in record { first = v.span; is = v.is ∙ ap (λ zs. Word Else v.span ∷ zs) (after_is BlockOpen vs o) })

pub record ConditionHere (ts us : List Lexeme) : Type 0 where
  pub place : ℕ
  pub is : ts ≡ Close place ∷ BlockOpen ∷ us

pub condition_is : (ts us : List Lexeme) → after_condition ts ≡ Some us → ConditionHere ts us
condition_is ts us e =
    then_elim (ConditionHere ts us) (after BlockOpen) (after_close ts) e
    (λ vs c o. let b = closed_is ts vs c in record { place = b.place; is = b.is ∙ ap (λ zs. Close b.place ∷ zs) (after_is BlockOpen vs o) })
