-- One turn of each chain.
use Rattle.std.proofs.Common.{◌≡◌, ℕ, zero, suc, ◌+◌, ◌-◌, List, [], ◌∷◌, Option, Some, None, refl, arith, add-one, sym, ap, ◌∙◌}
use Rattle.pdl_elem.specs.declared.BinaryOp.{BinaryOp}
use Rattle.pdl_lemmas.specs.Options.{some_inj, none_some, map_elim}
use Rattle.pdl_lexemes.specs.declared.refusal.Refusal.{Refusal}
use Rattle.pdl_lexemes.specs.declared.refusal.Refusal.TheVariants.{Refused, NoMemory}
use Rattle.pdl_code.specs.declared.lexeme.Lexeme.{Lexeme}
use Rattle.pdl_code.specs.declared.lexeme.Lexeme.TheVariants.{BlockClose, Comma, Semicolon}
use Rattle.pdl_code.specs.Join.{join, join_code}
use Rattle.pdl_code.specs.Tree.{RawTree, RawIndices, RawCode, binary, done}
use Rattle.pdl_code.specs.CodeReading.{Read, after, Kind, before, before_code, operator_at, chain_at, index_at, indices_at, level_at, limit_of, statement_at, code_at, ends}
use Rattle.pdl_code.proofs.JoinLemmas.{join_join, code_join_join, code_join_done}

-- what a loop begins with
pub begun : {A : Type 0} (g : ℕ → List Lexeme → A) (n m : ℕ) (ts us : List Lexeme) → n ≡ m → ts ≡ us → g (n - 0) ts ≡ g m us
begun g n m ts us same copied = let e : n - 0 ≡ n = omega arith in ap (λ k. g k ts) (e ∙ same) ∙ ap (g m) copied

module _ (inner : List Lexeme → Read RawTree) (l : ℕ) where
  pub chain_stop_at : (k : ℕ) (t : RawTree) (ts : List Lexeme) → operator_at l ts ≡ None → chain_at inner l k t ts ≡ Some (t, ts)
  unfolding chain_at
  chain_stop_at zero t ts e = refl
  chain_stop_at (suc k) t ts e = rw e

  pub chain_turn_at : (k : ℕ) (t : RawTree) (ts us rest : List Lexeme) (op : BinaryOp) (x : RawTree) →
      operator_at l ts ≡ Some (op, us) → inner us ≡ Some (x, rest) →
      chain_at inner l (suc k) t ts ≡ chain_at inner l k (binary op t x) rest
  unfolding chain_at
  chain_turn_at k t ts us rest op x e h = rw e (rw h)

  pub chain_fail_at : (k : ℕ) (t : RawTree) (ts us : List Lexeme) (op : BinaryOp) → operator_at l ts ≡ Some (op, us) → inner us ≡ None → chain_at inner l (suc k) t ts ≡ None
  unfolding chain_at
  chain_fail_at k t ts us op e h = rw e (rw h)

  pub chain_last : (k : ℕ) (t : RawTree) (ts : List Lexeme) → k ≡ 0 → chain_at inner l k t ts ≡ Some (t, ts)
  unfolding chain_at
  chain_last k t ts e = rw e

module _ (inner : List Lexeme → Read RawTree) (b : ℕ) where
  pub chain_stop : (k : ℕ) (t : RawTree) (ts : List Lexeme) → operator_at (b + 1) ts ≡ None → chain_at inner (suc b) k t ts ≡ Some (t, ts)
  chain_stop k t ts e = chain_stop_at inner (suc b) k t ts (rw add-one at e)

  pub chain_turn : (k : ℕ) (t : RawTree) (ts us rest : List Lexeme) (op : BinaryOp) (x : RawTree) →
      operator_at (b + 1) ts ≡ Some (op, us) → inner us ≡ Some (x, rest) →
      chain_at inner (suc b) (suc k) t ts ≡ chain_at inner (suc b) k (binary op t x) rest
  chain_turn k t ts us rest op x e h = chain_turn_at inner (suc b) k t ts us rest op x (rw add-one at e) h

  pub chain_fail : (k : ℕ) (t : RawTree) (ts us : List Lexeme) (op : BinaryOp) → operator_at (b + 1) ts ≡ Some (op, us) → inner us ≡ None → chain_at inner (suc b) (suc k) t ts ≡ None
  chain_fail k t ts us op e h = chain_fail_at inner (suc b) k t ts us op (rw add-one at e) h

pub before_before : (a b : RawIndices) (o : Read RawIndices) → before (join a b) o ≡ before a (before b o)
before_before a b None = refl
before_before a b (Some y) = ap (λ is. Some (is, y.1)) (join_join a b y.0)

pub before_before_code : (a b : RawCode) (o : Read RawCode) → before_code (join_code a b) o ≡ before_code a (before_code b o)
before_before_code a b None = refl
before_before_code a b (Some y) = ap (λ c. Some (c, y.1)) (code_join_join a b y.0)

module _ (f : Kind → List Lexeme → Read RawTree) where
  level_up : (n m : ℕ) (ts rest : List Lexeme) (t : RawTree) → n ≡ suc m → level_at f m ts ≡ Some (t, rest) →
      level_at f n ts ≡ chain_at (level_at f m) (suc m) (limit_of (suc m) rest) t rest
  unfolding level_at
  level_up n m ts rest t same e = rw same (rw e)

  pub level_above : (n : ℕ) (ts rest : List Lexeme) (t : RawTree) → (n ≡ 0 → ⊥) → level_at f (n - 1) ts ≡ Some (t, rest) →
      level_at f n ts ≡ chain_at (level_at f (n - 1)) (suc (n - 1)) (limit_of (suc (n - 1)) rest) t rest
  level_above n ts rest t ne e = level_up n (n - 1) ts rest t (omega arith) e

  pub indices_stop : (k : ℕ) (ts us : List Lexeme) (is : RawIndices) → index_at f ts ≡ Some (is, us) → after Comma us ≡ None →
      indices_at f (suc k) ts ≡ Some (is, us)
  unfolding indices_at
  indices_stop k ts us is e h = rw e (rw h)

  pub indices_next : (k : ℕ) (ts us vs : List Lexeme) (is : RawIndices) → index_at f ts ≡ Some (is, us) → after Comma us ≡ Some vs →
      indices_at f (suc k) ts ≡ before is (indices_at f k vs)
  unfolding indices_at
  indices_next k ts us vs is e h = rw e (rw h)

  pub indices_fail : (k : ℕ) (ts : List Lexeme) → index_at f ts ≡ None → indices_at f (suc k) ts ≡ None
  unfolding indices_at
  indices_fail k ts e = rw e

  -- the same behind what was found before: `all` is what was found with the index that is read
  pub found_stop : (k : ℕ) (ts us : List Lexeme) (found all : RawIndices) → before found (index_at f ts) ≡ Some (all, us) → after Comma us ≡ None →
      before found (indices_at f (suc k) ts) ≡ Some (all, us)
  found_stop k ts us found all e h =
      map_elim (before found (indices_at f (suc k) ts) ≡ Some (all, us)) (λ y. (join found y.0, y.1)) (index_at f ts) e
      (λ x read is. ap (before found) (indices_stop k ts x.1 x.0 read (ap (λ (z : RawIndices × List Lexeme). after Comma z.1) is ∙ h)) ∙ ap Some is)

  pub found_next : (k : ℕ) (ts us vs : List Lexeme) (found all : RawIndices) → before found (index_at f ts) ≡ Some (all, us) → after Comma us ≡ Some vs →
      before found (indices_at f (suc k) ts) ≡ before all (indices_at f k vs)
  found_next k ts us vs found all e h =
      map_elim (before found (indices_at f (suc k) ts) ≡ before all (indices_at f k vs)) (λ y. (join found y.0, y.1)) (index_at f ts) e
      (λ x read is. ap (before found) (indices_next k ts x.1 vs x.0 read (ap (λ (z : RawIndices × List Lexeme). after Comma z.1) is ∙ h))
      ∙ sym (before_before found x.0 (indices_at f k vs)) ∙ ap (λ (z : RawIndices × List Lexeme). before z.0 (indices_at f k vs)) is)

  pub found_fail : (k : ℕ) (ts : List Lexeme) (found : RawIndices) → before found (index_at f ts) ≡ None → before found (indices_at f (suc k) ts) ≡ None
  found_fail k ts found e = of_read (index_at f ts) refl e
    where
      of_read : (o : Read RawIndices) → index_at f ts ≡ o → before found o ≡ None → before found (indices_at f (suc k) ts) ≡ None
      of_read None is h = ap (before found) (indices_fail k ts is)
      of_read (Some x) is h = cc

module _ (g : List Lexeme → Read RawCode) where
  pub code_stop : (k : ℕ) (ts us : List Lexeme) → ends ts ≡ Some us → us ≡ ts → code_at g k ts ≡ Some (done, ts)
  unfolding code_at
  code_stop zero ts us e same = refl
  code_stop (suc k) ts us e same = rw e (ap (λ vs. Some (done, vs)) same)

  code_next : (k : ℕ) (ts us : List Lexeme) (c : RawCode) → ends ts ≡ None → statement_at g ts ≡ Some (c, us) → code_at g (suc k) ts ≡ before_code c (code_at g k us)
  unfolding code_at
  code_next k ts us c over e = rw over (rw e)

  code_fail : (k : ℕ) (ts : List Lexeme) → ends ts ≡ None → statement_at g ts ≡ None → code_at g (suc k) ts ≡ None
  unfolding code_at
  code_fail k ts over e = rw over (rw e)

  pub found_statement : (k : ℕ) (ts us : List Lexeme) (found all : RawCode) → ends ts ≡ None → before_code found (statement_at g ts) ≡ Some (all, us) →
      before_code found (code_at g (suc k) ts) ≡ before_code all (code_at g k us)
  found_statement k ts us found all over e =
      map_elim (before_code found (code_at g (suc k) ts) ≡ before_code all (code_at g k us)) (λ y. (join_code found y.0, y.1)) (statement_at g ts) e
      (λ x read is. ap (before_code found) (code_next k ts x.1 x.0 over read)
      ∙ sym (before_before_code found x.0 (code_at g k x.1)) ∙ ap (λ (z : RawCode × List Lexeme). before_code z.0 (code_at g k z.1)) is)

  pub no_statement : (k : ℕ) (ts : List Lexeme) (found : RawCode) → ends ts ≡ None → before_code found (statement_at g ts) ≡ None →
      before_code found (code_at g (suc k) ts) ≡ None
  no_statement k ts found over e = of_read (statement_at g ts) refl e
    where
      of_read : (o : Read RawCode) → statement_at g ts ≡ o → before_code found o ≡ None → before_code found (code_at g (suc k) ts) ≡ None
      of_read None is h = ap (before_code found) (code_fail k ts over is)
      of_read (Some x) is h = cc

-- where code ends, nothing is taken
pub ends_is : (ts us : List Lexeme) → ends ts ≡ Some us → us ≡ ts
ends_is [] us e = sym (some_inj e)
ends_is (BlockClose ∷ ts) us e = sym (some_inj e)
ends_is (_ ∷ ts) us e = absurd (none_some e)

-- what a refusal says of what is read: nothing is, or there is no memory
abbrev Says : {B : Type 0} → Refusal → Option B → Type 0
Says Refused b = b ≡ None
Says NoMemory b = Unit {0}

pub pass_on : {B D : Type 0} (r : Refusal) (a : Option D) (b : Option B) → Says r a → (a ≡ None → b ≡ None) → Says r b
pass_on Refused a b h k = k h
pass_on NoMemory a b h k = tt

module _ (g : List Lexeme → Read RawCode) where
  pub semicolon_read : (ts us : List Lexeme) (found : RawCode) → after Semicolon ts ≡ Some us → before_code found (statement_at g ts) ≡ Some (found, us)
  unfolding statement_at
  semicolon_read ts us found e = rw e (ap (λ c. Some (c, us)) (code_join_done found))

  pub ended_code : (k : ℕ) (ts us : List Lexeme) (found : RawCode) → ends ts ≡ Some us → before_code found (code_at g k ts) ≡ Some (found, us)
  ended_code k ts us found e =
      ap (before_code found) (code_stop g k ts us e (ends_is ts us e)) ∙ ap (λ c. Some (c, ts)) (code_join_done found) ∙ ap (λ vs. Some (found, vs)) (sym (ends_is ts us e))

  pub last_turn : (k : ℕ) (ts : List Lexeme) (found : RawCode) → k ≡ 0 → before_code found (code_at g k ts) ≡ Some (found, ts)
  unfolding code_at
  last_turn k ts found e = rw e (ap (λ c. Some (c, ts)) (code_join_done found))
