-- One turn of each chain.
use Rattle.std.proofs.Common.{◌≡◌, ℕ, zero, suc, ◌+◌, ◌-◌, List, Some, None, refl, ap, ◌∙◌, arith, add-one}
use Rattle.pdl_elem.specs.declared.BinaryOp.{BinaryOp}
use Rattle.pdl_lexemes.specs.declared.Lexeme.{Lexeme}
use Rattle.pdl_lexemes.specs.declared.Span.{Span}
use Rattle.pdl_lexemes.specs.Bytes.{bytes_at}
use Rattle.pdl_lexemes.specs.declared.Lexeme.TheVariants.{Comma}
use Rattle.pdl_lexemes.specs.Peeks.{Read, after, method_at}
use Rattle.pdl_syntax.specs.Tree.{Tree, Args, binary, call, value, none}
use Rattle.pdl_syntax.specs.ExpressionReading.{Kind, operator_at, chain_at, methods_at, more_at, maybe_at, arg_at}

-- what a loop begins with
pub begun : {A : Type 0} (g : ℕ → List Lexeme → A) (n m : ℕ) (ts us : List Lexeme) → n ≡ m → ts ≡ us → g (n - 0) ts ≡ g m us
begun g n m ts us same copied = let e : n - 0 ≡ n = omega arith in ap (λ k. g k ts) (e ∙ same) ∙ ap (g m) copied

module _ (inner : List Lexeme → Read Tree) (l : ℕ) where
  pub chain_stop_at : (k : ℕ) (t : Tree) (ts : List Lexeme) → operator_at l ts ≡ None → chain_at inner l k t ts ≡ Some (t, ts)
  unfolding chain_at
  chain_stop_at zero t ts e = refl
  chain_stop_at (suc k) t ts e = rw e

  pub chain_turn_at : (k : ℕ) (t : Tree) (ts us rest : List Lexeme) (op : BinaryOp) (x : Tree) →
      operator_at l ts ≡ Some (op, us) → inner us ≡ Some (x, rest) →
      chain_at inner l (suc k) t ts ≡ chain_at inner l k (binary op t x) rest
  unfolding chain_at
  chain_turn_at k t ts us rest op x e h = rw e (rw h)

  pub chain_fail_at : (k : ℕ) (t : Tree) (ts us : List Lexeme) (op : BinaryOp) → operator_at l ts ≡ Some (op, us) → inner us ≡ None → chain_at inner l (suc k) t ts ≡ None
  unfolding chain_at
  chain_fail_at k t ts us op e h = rw e (rw h)

  pub chain_last : (k : ℕ) (t : Tree) (ts : List Lexeme) → k ≡ 0 → chain_at inner l k t ts ≡ Some (t, ts)
  unfolding chain_at
  chain_last k t ts e = rw e

module _ (inner : List Lexeme → Read Tree) (b : ℕ) where
  pub chain_stop : (k : ℕ) (t : Tree) (ts : List Lexeme) → operator_at (b + 1) ts ≡ None → chain_at inner (suc b) k t ts ≡ Some (t, ts)
  chain_stop k t ts e = chain_stop_at inner (suc b) k t ts (rw add-one at e)

  pub chain_turn : (k : ℕ) (t : Tree) (ts us rest : List Lexeme) (op : BinaryOp) (x : Tree) →
      operator_at (b + 1) ts ≡ Some (op, us) → inner us ≡ Some (x, rest) →
      chain_at inner (suc b) (suc k) t ts ≡ chain_at inner (suc b) k (binary op t x) rest
  chain_turn k t ts us rest op x e h = chain_turn_at inner (suc b) k t ts us rest op x (rw add-one at e) h

  pub chain_fail : (k : ℕ) (t : Tree) (ts us : List Lexeme) (op : BinaryOp) → operator_at (b + 1) ts ≡ Some (op, us) → inner us ≡ None → chain_at inner (suc b) (suc k) t ts ≡ None
  chain_fail k t ts us op e h = chain_fail_at inner (suc b) k t ts us op (rw add-one at e) h

module _ (source : List ℕ) (f : Kind → List Lexeme → Read Tree) where
  pub methods_stop : (k : ℕ) (t : Tree) (ts : List Lexeme) → method_at ts ≡ None → methods_at source f k t ts ≡ Some (t, ts)
  unfolding methods_at
  methods_stop zero t ts e = refl
  methods_stop (suc k) t ts e = rw e

  pub methods_turn : (k : ℕ) (t : Tree) (ts us rest : List Lexeme) (w : Span) (args : Args) →
      method_at ts ≡ Some (w, us) → maybe_at source f (value none t) us ≡ Some (args, rest) →
      methods_at source f (suc k) t ts ≡ methods_at source f k (call (bytes_at source w) args) rest
  unfolding methods_at
  methods_turn k t ts us rest w args e h = rw e (rw h)

  pub methods_fail : (k : ℕ) (t : Tree) (ts us : List Lexeme) (w : Span) → method_at ts ≡ Some (w, us) → maybe_at source f (value none t) us ≡ None → methods_at source f (suc k) t ts ≡ None
  unfolding methods_at
  methods_fail k t ts us w e h = rw e (rw h)

  pub methods_last : (k : ℕ) (t : Tree) (ts : List Lexeme) → k ≡ 0 → methods_at source f k t ts ≡ Some (t, ts)
  unfolding methods_at
  methods_last k t ts e = rw e

  pub more_stop : (k : ℕ) (args : Args) (ts : List Lexeme) → after Comma ts ≡ None → more_at source f k args ts ≡ Some (args, ts)
  unfolding more_at
  more_stop zero args ts e = refl
  more_stop (suc k) args ts e = rw e

  pub more_turn : (k : ℕ) (args args' : Args) (ts us rest : List Lexeme) →
      after Comma ts ≡ Some us → arg_at source f args us ≡ Some (args', rest) →
      more_at source f (suc k) args ts ≡ more_at source f k args' rest
  unfolding more_at
  more_turn k args args' ts us rest e h = rw e (rw h)

  pub more_fail : (k : ℕ) (args : Args) (ts us : List Lexeme) → after Comma ts ≡ Some us → arg_at source f args us ≡ None → more_at source f (suc k) args ts ≡ None
  unfolding more_at
  more_fail k args ts us e h = rw e (rw h)

  pub more_last : (k : ℕ) (args : Args) (ts : List Lexeme) → k ≡ 0 → more_at source f k args ts ≡ Some (args, ts)
  unfolding more_at
  more_last k args ts e = rw e
