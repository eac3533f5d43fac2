-- What a look at the front says of it.
use Rattle.std.proofs.Common.{rules, ◌≡◌, ◌<◌, ◌≤◌, ℕ, List, [], ◌∷◌, Option, Some, None, Bool, true, false, ◌&&◌, nat_eq, nat_lt, nat_le, if◌then◌else◌, refl, ap, sym, ◌∙◌, subst, eqb-true, eq-eqb, true≢false, arith}
use Rattle.std.proofs.lemmas.Bool.{and_parts, and_from, ltb-true, leb-true, lt-ltb, le-leb}
use Rattle.pdl_elem.specs.declared.BinaryOp.{BinaryOp}
use Rattle.pdl_elem.specs.declared.Ty.{Ty}
use Rattle.pdl_lexemes.specs.declared.Span.{Span}
use Rattle.pdl_lexemes.specs.declared.WordKind.{WordKind}
use Rattle.pdl_lexemes.specs.declared.WordKind.TheVariants.{OfType}
use Rattle.pdl_lexemes.specs.contracts.LexemePartialEq.TheImpl as lexeme
use Rattle.pdl_lexemes.specs.declared.Lexeme.{Lexeme}
use Rattle.pdl_lexemes.specs.declared.Lexeme.TheVariants.{Name, Keyword, Word, Number, Quoted, Open, Close, OpenSquare, CloseSquare, Comma, Equals, Arrow, FatArrow, Assign, Operator, Prefix, Unknown}
use Rattle.pdl_lemmas.specs.Options.{some_inj, none_some, then_elim}
use Rattle.pdl_lexemes.specs.Peeks.{Read, after, method_at, quoted_at, type_at, type_step, word_at}
use Rattle.pdl_syntax.specs.ExpressionReading.{operator_at, level_between}
use Rattle.pdl_lexemes.specs.Levels.{level_of}

-- (each pair of cases by a clause: a search would try all its rules at each of them)
same_is : (a b : Lexeme) → lexeme.ghosts.eq a b ≡ true → b ≡ a
same_is (Name s) (Name t) e = search rules
same_is (Keyword k) (Keyword l) e = search rules
same_is (Word k s) (Word l t) e = search rules
same_is (Number m) (Number n) e = search rules
same_is (Quoted s) (Quoted t) e = search rules
same_is Open Open e = refl
same_is Close Close e = refl
same_is OpenSquare OpenSquare e = refl
same_is CloseSquare CloseSquare e = refl
same_is Comma Comma e = refl
same_is Equals Equals e = refl
same_is Arrow Arrow e = refl
same_is FatArrow FatArrow e = refl
same_is (Assign p) (Assign q) e = search rules
same_is (Operator p) (Operator q) e = search rules
same_is (Prefix p) (Prefix q) e = search rules
same_is Unknown Unknown e = refl
same_is _ _ e = absurd (true≢false (sym e))

-- what follows a lexeme stands behind it
pub after_is : (sign : Lexeme) (ts : List Lexeme) {us : List Lexeme} → after sign ts ≡ Some us → ts ≡ sign ∷ us
after_is sign [] e = absurd (none_some e)
after_is sign (t ∷ ts) {us = us} e = of_test (lexeme.ghosts.eq sign t) refl e
  where
    of_test : (b : Bool) → lexeme.ghosts.eq sign t ≡ b → (if b then Some ts else None) ≡ Some us → t ∷ ts ≡ sign ∷ us
    of_test true same k = ap (λ x. x ∷ ts) (same_is sign t same) ∙ ap (λ x. sign ∷ x) (some_inj k)
    of_test false same k = absurd (none_some k)

pub quoted_is : (ts : List Lexeme) (x : Span × List Lexeme) → quoted_at ts ≡ Some x → ts ≡ Quoted x.0 ∷ x.1
quoted_is [] x e = absurd (none_some e)
quoted_is (Quoted w ∷ ts) x e = ap (λ y. Quoted y.0 ∷ y.1) (some_inj e)
quoted_is (_ ∷ ts) x e = absurd (none_some e)

-- an operator of a level stands at the front
pub record OperatorAt (l : ℕ) (ts : List Lexeme) (x : BinaryOp × List Lexeme) : Type 0 where
  pub level : level_of x.0 ≡ l
  pub is : ts ≡ Operator x.0 ∷ x.1

pub operator_is : (l : ℕ) (ts : List Lexeme) (x : BinaryOp × List Lexeme) → operator_at l ts ≡ Some x → OperatorAt l ts x
operator_is l [] x e = absurd (none_some e)
operator_is l (Operator op ∷ ts) x e = of_test (nat_eq (level_of op) l) refl e
  where
    of_test : (b : Bool) → nat_eq (level_of op) l ≡ b → (if b then Some (op, ts) else None) ≡ Some x → OperatorAt l (Operator op ∷ ts) x
    of_test true t k = subst (OperatorAt l (Operator op ∷ ts)) (some_inj k) (record { level = eqb-true (level_of op) l t; is = refl })
    of_test false t k = absurd (none_some k)
operator_is l (_ ∷ ts) x e = absurd (none_some e)

pub operator_here : (l : ℕ) (op : BinaryOp) (ts : List Lexeme) → level_of op ≡ l → operator_at l (Operator op ∷ ts) ≡ Some (op, ts)
operator_here l op ts e = rw (eq-eqb (level_of op) l e)

pub operator_other : (l : ℕ) (op : BinaryOp) (ts : List Lexeme) → (level_of op ≡ l → ⊥) → operator_at l (Operator op ∷ ts) ≡ None
operator_other l op ts ne = of_test (nat_eq (level_of op) l) refl
  where
    of_test : (b : Bool) → nat_eq (level_of op) l ≡ b → ◌≡◌ {A = Read BinaryOp} (if b then Some (op, ts) else None) None
    of_test true t = absurd (ne (eqb-true (level_of op) l t))
    of_test false t = refl

-- an operator of level n comes first, above b and at most l, and so none of another level
pub record LevelAt (b l : ℕ) (ts : List Lexeme) (n : ℕ) : Type 0 where
  pub above : b < n
  pub within : n ≤ l
  pub no_other : (j : ℕ) → (j ≡ n → ⊥) → operator_at j ts ≡ None

pub level_is_between : (b l : ℕ) (ts : List Lexeme) (n : ℕ) → level_between b l ts ≡ Some n → LevelAt b l ts n
level_is_between b l [] n e = absurd (none_some e)
level_is_between b l (Operator op ∷ ts) n e = of_test (nat_lt b (level_of op) && nat_le (level_of op) l) refl e
  where
    of_test : (t : Bool) → (nat_lt b (level_of op) && nat_le (level_of op) l) ≡ t → (if t then Some (level_of op) else None) ≡ Some n → LevelAt b l (Operator op ∷ ts) n
    of_test true t k =
        let parts = and_parts (nat_lt b (level_of op)) (nat_le (level_of op) l) t in
        subst (LevelAt b l (Operator op ∷ ts)) (some_inj k)
        (record {
          above = ltb-true b (level_of op) parts.0;
          within = leb-true (level_of op) l parts.1;
          no_other = λ j ne. operator_other j op ts (λ same. ne (sym same));
        })
    of_test false t k = absurd (none_some k)
level_is_between b l (_ ∷ ts) n e = absurd (none_some e)

-- where no operator above b and at most l comes first, none of such a level does
pub no_level_between : (b l : ℕ) (ts : List Lexeme) → level_between b l ts ≡ None → (j : ℕ) → b < j → j ≤ l → operator_at j ts ≡ None
no_level_between b l [] e j above within = refl
no_level_between b l (Operator op ∷ ts) e j above within = of_test (nat_lt b (level_of op) && nat_le (level_of op) l) refl e
  where
    of_test : (t : Bool) → (nat_lt b (level_of op) && nat_le (level_of op) l) ≡ t → (if t then Some (level_of op) else None) ≡ None → operator_at j (Operator op ∷ ts) ≡ None
    of_test true t k = absurd (none_some (sym k))
    of_test false t k =
        operator_other j op ts
        (λ same. true≢false (sym (and_from (nat_lt b (level_of op)) (nat_le (level_of op) l) (lt-ltb b (level_of op) (omega (arith, same, above))) (le-leb (level_of op) l (omega (arith, same, within)))) ∙ t))
no_level_between b l (_ ∷ ts) e j above within = refl

-- a word behind an arrow
pub record MethodAt (ts : List Lexeme) (x : Span × List Lexeme) : Type 0 where
  pub kind : WordKind
  pub is : ts ≡ Arrow ∷ Word kind x.0 ∷ x.1

pub record WordAt (ts : List Lexeme) (x : Span × List Lexeme) : Type 0 where
  pub kind : WordKind
  pub is : ts ≡ Word kind x.0 ∷ x.1

pub word_is : (ts : List Lexeme) (x : Span × List Lexeme) → word_at ts ≡ Some x → WordAt ts x
word_is [] x e = absurd (none_some e)
word_is (Word kind w ∷ ts) x e = record { kind = kind; is = ap (λ y. Word kind y.0 ∷ y.1) (some_inj e) }
word_is (_ ∷ ts) x e = absurd (none_some e)

pub method_is : (ts : List Lexeme) (x : Span × List Lexeme) → method_at ts ≡ Some x → MethodAt ts x
method_is ts x e =
    then_elim (MethodAt ts x) word_at (after Arrow ts) e
    (λ us h k. let w = word_is us x k in record { kind = w.kind; is = after_is Arrow ts h ∙ ap (λ v. Arrow ∷ v) w.is })

-- a type word that calls nothing
pub record TypeAt (ts : List Lexeme) (x : Ty × List Lexeme) : Type 0 where
  pub span : Span
  pub is : ts ≡ Word (OfType x.0) span ∷ x.1

pub type_is : (ts : List Lexeme) (x : Ty × List Lexeme) → type_at ts ≡ Some x → TypeAt ts x
type_is [] x e = absurd (none_some e)
type_is (Word (OfType ty) w ∷ ts) x e = of_step (after Open ts) e
  where
    of_step : (o : Option (List Lexeme)) → type_step ty ts o ≡ Some x → TypeAt (Word (OfType ty) w ∷ ts) x
    of_step None k = record { span = w; is = ap (λ y. Word (OfType y.0) w ∷ y.1) (some_inj k) }
    of_step (Some us) k = absurd (none_some k)
type_is (Word _ w ∷ ts) x e = absurd (none_some e)
type_is (_ ∷ ts) x e = absurd (none_some e)
