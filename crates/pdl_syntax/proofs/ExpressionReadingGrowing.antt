-- An expression is read by its first operand, and what goes on behind it.
use Rattle.std.proofs.Common.{◌≡◌, ℕ, zero, suc, ◌≤◌, List, Option, Some, None, option_and_then, refl, ap, ◌∙◌, arith}
use Rattle.pdl_lexemes.specs.declared.Lexeme.{Lexeme}
use Rattle.pdl_lexemes.specs.Peeks.{Read, prefix_at}
use Rattle.pdl_syntax.specs.Tree.{Tree}
use Rattle.pdl_syntax.specs.ExpressionReading.{Kind, operator_at, limit_of, chain_at, postfix_at, unary_at, level_at, grown_at}
use Rattle.pdl_syntax.proofs.ExpressionReadingTurns.{chain_stop_at}

pub then_some : {A : Type 0} (o : Option A) → o ≡ option_and_then (λ x. Some x) o
then_some None = refl
then_some (Some x) = refl

pub then_then : {A B C : Type 0} (g : B → Option C) (h : A → Option B) (o : Option A) → option_and_then g (option_and_then h o) ≡ option_and_then (λ x. option_and_then g (h x)) o
then_then g h None = refl
then_then g h (Some x) = refl

module _ (source : List ℕ) (f : Kind → List Lexeme → Read Tree) where
  -- an expression is its first operand, grown
  level_is : (l : ℕ) (ts : List Lexeme) → level_at source f l ts ≡ option_and_then (λ x. grown_at source f l x.0 x.1) (unary_at source f ts)
  unfolding level_at grown_at
  level_is zero ts = then_some (unary_at source f ts)
  level_is (suc l) ts =
      let go = λ (x : Tree × List Lexeme). chain_at (level_at source f l) (suc l) (limit_of (suc l) x.1) x.0 x.1 in
      ap (option_and_then go) (level_is l ts) ∙ then_then go (λ x. grown_at source f l x.0 x.1) (unary_at source f ts)

  -- so what is read of it is what goes on behind the operand that is read
  pub level_read : (l : ℕ) (ts rest : List Lexeme) (t : Tree) → unary_at source f ts ≡ Some (t, rest) → level_at source f l ts ≡ grown_at source f l t rest
  level_read l ts rest t e = level_is l ts ∙ ap (option_and_then (λ x. grown_at source f l x.0 x.1)) e

  pub level_unread : (l : ℕ) (ts : List Lexeme) → unary_at source f ts ≡ None → level_at source f l ts ≡ None
  level_unread l ts e = level_is l ts ∙ ap (option_and_then (λ x. grown_at source f l x.0 x.1)) e

  unary_is : (ts : List Lexeme) → prefix_at ts ≡ None → unary_at source f ts ≡ postfix_at source f ts
  unfolding unary_at
  unary_is ts e = rw e

  -- where no prefix operator stands, the first operand is a postfix form
  pub level_grown : (l : ℕ) (ts : List Lexeme) → prefix_at ts ≡ None → level_at source f l ts ≡ option_and_then (λ x. grown_at source f l x.0 x.1) (postfix_at source f ts)
  level_grown l ts e = level_is l ts ∙ ap (option_and_then (λ x. grown_at source f l x.0 x.1)) (unary_is ts e)

  -- without an operator nothing goes on
  pub grown_stop : (l : ℕ) (t : Tree) (ts : List Lexeme) → ((j : ℕ) → j ≤ l → operator_at j ts ≡ None) → grown_at source f l t ts ≡ Some (t, ts)
  unfolding grown_at
  grown_stop zero t ts none = refl
  grown_stop (suc l) t ts none =
      rw (grown_stop l t ts (λ j le. none j (omega arith))) (chain_stop_at (level_at source f l) (suc l) (limit_of (suc l) ts) t ts (none (suc l) (omega arith)))
