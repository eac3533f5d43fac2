-- How deep square brackets are behind a place, from how deep they are in all.
use Rattle.std.proofs.Common.{◌≡◌, ◌≤◌, ◌+◌, ℕ, zero, suc, pred, nat_lt, nat_eq, List, [], ◌∷◌, Bool, true, false, if◌then◌else◌, refl, subst, arith, true≢false, sym, length, add-one, take, drop, ◌-◌}
use Rattle.std.proofs.lemmas.List.{take_all}
use Rattle.std.proofs.lemmas.Bool.Decides.{nat_tests}
use Rattle.pdl_lexemes.specs.declared.checks.Counts.{Counts}
use Rattle.pdl_lexemes.specs.declared.Lexeme.{Lexeme}
use Rattle.pdl_lexemes.specs.declared.Lexeme.TheVariants.{Open, Close, OpenSquare, CloseSquare, Arrow, Operator, Prefix}
use Rattle.pdl_lexemes.specs.Depth.{with_operator, counted_to, is_beyond, goes_beyond, no_counts, is_too_deep}
use Rattle.pdl_lexemes.specs.Squares.{goes_too_deep, AreFew}

-- neither a test nor what is left of it holds
pub record Passed (test left : Bool) : Type 0 where
  pub test_fails : test ≡ false
  pub left_fails : left ≡ false

pub passed : (test left : Bool) → (if test then true else left) ≡ false → Passed test left
passed true left e = absurd (true≢false e)
passed false left e = record { test_fails = refl; left_fails = e }

pub few_open : (k : ℕ) → nat_lt 16 (suc k) ≡ false → suc k ≤ 16
few_open k e = grind (arith, nat_tests)

not_many : (k : ℕ) → suc k ≤ 16 → nat_lt 16 (suc k) ≡ false
not_many k h = grind (arith, nat_tests)

pred_less : (k more : ℕ) → k ≤ more → pred k ≤ pred more
pred_less zero more h = omega arith
pred_less (suc k) zero h = absurd (omega arith)
pred_less (suc k) (suc more) h = omega arith

-- with fewer open at the start it is no deeper
less_open : (k more : ℕ) (ts : List Lexeme) → k ≤ more → goes_too_deep more ts ≡ false → goes_too_deep k ts ≡ false
less_open k more [] h e = refl
less_open k more (OpenSquare ∷ ts) h e =
    let p = passed (nat_lt 16 (suc more)) (goes_too_deep (suc more) ts) e in
    let few = few_open more p.test_fails in
    rw (not_many k (omega (arith, few, h))) (less_open (suc k) (suc more) ts (omega (arith, h)) p.left_fails)
less_open k more (CloseSquare ∷ ts) h e = less_open (pred k) (pred more) ts (pred_less k more h) e
less_open k more (_ ∷ ts) h e = less_open k more ts h e

-- what follows a lexeme is no deeper
rest_shallow : (t : Lexeme) (ts : List Lexeme) → goes_too_deep 0 (t ∷ ts) ≡ false → goes_too_deep 0 ts ≡ false
rest_shallow OpenSquare ts e = less_open 0 1 ts (omega arith) e
rest_shallow CloseSquare ts e = e
rest_shallow _ ts e = e

same_square : (c : Counts) → (with_operator c).square ≡ c.square
same_square c = of_test (nat_eq c.square 0)
  where
    of_test : (b : Bool) → (if b then record c { operators = c.operators + 1 } else c).square ≡ c.square
    of_test true = refl
    of_test false = refl

few_squares : (c : Counts) → is_beyond c ≡ false → nat_lt 16 c.square ≡ false
few_squares c e = (passed (nat_lt 16 c.square) (nat_lt 256 c.operators) (passed (nat_lt 64 (c.round + c.square)) _ e).left_fails).test_fails

counted_shallow : (c : Counts) (ts : List Lexeme) → goes_beyond c ts ≡ false → goes_too_deep c.square ts ≡ false
counted_shallow c [] e = refl
counted_shallow c (OpenSquare ∷ ts) e =
    let d = counted_to c OpenSquare in
    let p = passed (is_beyond d) (goes_beyond d ts) e in
    rw (← add-one c.square) (rw (few_squares d p.test_fails) (counted_shallow d ts p.left_fails))
counted_shallow c (CloseSquare ∷ ts) e =
    let d = counted_to c CloseSquare in
    counted_shallow d ts (passed (is_beyond d) (goes_beyond d ts) e).left_fails
counted_shallow c (Open ∷ ts) e =
    let d = counted_to c Open in
    counted_shallow d ts (passed (is_beyond d) (goes_beyond d ts) e).left_fails
counted_shallow c (Close ∷ ts) e =
    let d = counted_to c Close in
    counted_shallow d ts (passed (is_beyond d) (goes_beyond d ts) e).left_fails
counted_shallow c (Arrow ∷ ts) e =
    let d = with_operator c in
    subst (λ j. goes_too_deep j ts ≡ false) (same_square c) (counted_shallow d ts (passed (is_beyond d) (goes_beyond d ts) e).left_fails)
counted_shallow c (Operator op ∷ ts) e =
    let d = with_operator c in
    subst (λ j. goes_too_deep j ts ≡ false) (same_square c) (counted_shallow d ts (passed (is_beyond d) (goes_beyond d ts) e).left_fails)
counted_shallow c (Prefix op ∷ ts) e =
    let d = with_operator c in
    subst (λ j. goes_too_deep j ts ≡ false) (same_square c) (counted_shallow d ts (passed (is_beyond d) (goes_beyond d ts) e).left_fails)
counted_shallow c (_ ∷ ts) e = counted_shallow c ts (passed (is_beyond c) (goes_beyond c ts) e).left_fails

-- where no bracket is too deep, no square one is
all_shallow : (ts : List Lexeme) → is_too_deep ts ≡ false → goes_too_deep 0 ts ≡ false
all_shallow ts e = counted_shallow no_counts ts e

pub all_few : (ts : List Lexeme) → length ts ≤ 65536 → is_too_deep ts ≡ false → AreFew ts
all_few ts small e = record { small = small; shallow = all_shallow ts e }

behind : (t : Lexeme) (ts : List Lexeme) → AreFew (t ∷ ts) → AreFew ts
behind t ts few = let small = few.small in record { small = omega (arith, small); shallow = rest_shallow t ts few.shallow }

-- what follows the first lexeme
pub rest_few : (ts : List Lexeme) → 1 ≤ length ts → AreFew ts → AreFew (take (length ts - 1) (drop 1 ts))
rest_few [] h few = absurd (omega (arith, h))
rest_few (t ∷ ts) h few = subst AreFew (sym (take_all (length (t ∷ ts) - 1) ts (omega arith))) (behind t ts few)
