-- What goes on behind a first operand is read from level to level up, and only the levels of
-- operators that come first count.
use Rattle.std.proofs.Common.{◌≡◌, ℕ, zero, suc, ◌+◌, ◌-◌, ◌<◌, ◌≤◌, List, Option, Some, None, option_and_then, refl, ap, sym, ◌∙◌, arith}
use Rattle.pdl_lexemes.specs.declared.Lexeme.{Lexeme}
use Rattle.pdl_lexemes.specs.Peeks.{Read}
use Rattle.pdl_syntax.specs.Tree.{Tree}
use Rattle.pdl_syntax.specs.ExpressionReading.{Kind, operator_at, level_between, limit_of, chain_at, level_at, grown_at}
use Rattle.pdl_syntax.proofs.ExpressionReadingGrowing.{then_some, then_then}
use Rattle.pdl_syntax.proofs.ExpressionReadingPeeks.{level_is_between, no_level_between}
use Rattle.pdl_syntax.proofs.ExpressionReadingTurns.{chain_stop_at}

then_same : {A B : Type 0} (g h : A → Option B) (o : Option A) → ((x : A) → g x ≡ h x) → option_and_then g o ≡ option_and_then h o
then_same g h None e = refl
then_same g h (Some x) e = e x

module _ (source : List ℕ) (f : Kind → List Lexeme → Read Tree) where
  -- the operators of level `suc b` behind a tree
  abbrev pub joined_at : ℕ → Tree → List Lexeme → Read Tree
  joined_at b t ts = chain_at (level_at source f b) (suc b) (limit_of (suc b) ts) t ts

  -- the operators of n levels above b
  unfoldable pub climb_at : ℕ → ℕ → Tree → List Lexeme → Read Tree
  climb_at zero b t ts = Some (t, ts)
  climb_at (suc n) b t ts = option_and_then (λ x. climb_at n (suc b) x.0 x.1) (joined_at b t ts)

  last_climb : (n b m : ℕ) (t : Tree) (ts : List Lexeme) → m ≡ n + b → climb_at (suc n) b t ts ≡ option_and_then (λ x. joined_at m x.0 x.1) (climb_at n b t ts)
  unfolding climb_at
  last_climb zero b m t ts e =
      let same : b ≡ m = omega (arith, e) in
      sym (then_some (joined_at b t ts)) ∙ ap (λ k. joined_at k t ts) same
  last_climb (suc n) b m t ts e =
      then_same (λ x. climb_at (suc n) (suc b) x.0 x.1) (λ x. option_and_then (λ y. joined_at m y.0 y.1) (climb_at n (suc b) x.0 x.1)) (joined_at b t ts)
      (λ x. last_climb n (suc b) m x.0 x.1 (omega (arith, e)))
      ∙ sym (then_then (λ y. joined_at m y.0 y.1) (λ x. climb_at n (suc b) x.0 x.1) (joined_at b t ts))

  -- what goes on is all levels, one after another
  pub grown_is : (l : ℕ) (t : Tree) (ts : List Lexeme) → grown_at source f l t ts ≡ climb_at l 0 t ts
  unfolding grown_at climb_at
  grown_is zero t ts = refl
  grown_is (suc l) t ts =
      ap (option_and_then (λ x. joined_at l x.0 x.1)) (grown_is l t ts) ∙ sym (last_climb l 0 l t ts (omega arith))

  -- levels without an operator are passed
  climb_to : (k n b m c : ℕ) (t : Tree) (ts : List Lexeme) → n ≡ k + m → c ≡ k + b → ((j : ℕ) → b < j → j ≤ c → operator_at j ts ≡ None) →
      climb_at n b t ts ≡ climb_at m c t ts
  unfolding climb_at
  climb_to zero n b m c t ts e h none =
      let same : n ≡ m = omega (arith, e) in
      let place : b ≡ c = omega (arith, h) in
      ap (λ x. climb_at x b t ts) same ∙ ap (λ x. climb_at m x t ts) place
  climb_to (suc k) zero b m c t ts e h none = absurd (omega (arith, e))
  climb_to (suc k) (suc n) b m c t ts e h none =
      rw (chain_stop_at (level_at source f b) (suc b) (limit_of (suc b) ts) t ts (none (suc b) (omega arith) (omega (arith, h))))
      (climb_to k n (suc b) m c t ts (omega (arith, e)) (omega (arith, h)) (λ j above within. none j (omega (arith, above)) within))

  pub climb_ends : (b l : ℕ) (t : Tree) (ts : List Lexeme) → level_between b l ts ≡ None → climb_at (l - b) b t ts ≡ Some (t, ts)
  unfolding climb_at
  climb_ends b l t ts e =
      climb_to (l - b) (l - b) b 0 ((l - b) + b) t ts (omega arith) refl
      (λ j above within. no_level_between b l ts e j above (omega (arith, above, within)))

  -- the level of the operator that comes first is the next one
  climb_first : (b l n : ℕ) (t : Tree) (ts : List Lexeme) → level_between b l ts ≡ Some n →
      climb_at (l - b) b t ts ≡ option_and_then (λ x. climb_at (l - n) n x.0 x.1) (joined_at (n - 1) t ts)
  unfolding climb_at
  climb_first b l n t ts e =
      let at = level_is_between b l ts n e in
      let above = at.above in
      let within = at.within in
      let next : suc (n - 1) ≡ n = omega (arith, above) in
      climb_to ((n - 1) - b) (l - b) b (suc (l - n)) (n - 1) t ts (omega (arith, above, within)) (omega (arith, above))
      (λ j low high. at.no_other j (λ same. omega (arith, above, same, high)))
      ∙ ap (λ k. option_and_then (λ x. climb_at (l - n) k x.0 x.1) (joined_at (n - 1) t ts)) next

  pub climb_turn : (b l n : ℕ) (t x : Tree) (ts us : List Lexeme) → level_between b l ts ≡ Some n → joined_at (n - 1) t ts ≡ Some (x, us) →
      climb_at (l - b) b t ts ≡ climb_at (l - n) n x us
  climb_turn b l n t x ts us e h = climb_first b l n t ts e ∙ ap (option_and_then (λ y. climb_at (l - n) n y.0 y.1)) h

  pub climb_fail : (b l n : ℕ) (t : Tree) (ts : List Lexeme) → level_between b l ts ≡ Some n → joined_at (n - 1) t ts ≡ None → climb_at (l - b) b t ts ≡ None
  climb_fail b l n t ts e h = climb_first b l n t ts e ∙ ap (option_and_then (λ y. climb_at (l - n) n y.0 y.1)) h
