-- Counting locals step by step answers their count, or refuses a declared word.
use Rattle.std.proofs.Common.{◌≡◌, ℕ, ◌+◌, ◌<◌, ◌≤◌, List, [], ◌∷◌, length, drop, get_or, Ok, Err, refl, sym, ap, ◌∙◌, arith, length-append, add-one}
use Rattle.std.proofs.lemmas.List.{drop_all}
use Rattle.std.proofs.Math.Nat.{le-max_left, le-max_right, max-le}
use Rattle.std.specs.Prelude.{Bool, true, false, ◌||◌, max, Result}
use Rattle.pdl_sig.specs.declared.Signature.{Signature}
use Rattle.pdl_code.specs.declared.fault.KernelFault.{KernelFault}
use Rattle.pdl_code.specs.Declaring.{counted, declared_code, declared_step, raw_after, raw_locals, raw_step_locals}
use Rattle.pdl_code.specs.declared.scope.Local.{Local}
use Rattle.pdl_code.specs.TreeOf.{code_of, step_of, RawStmt}
use Rattle.pdl_code.specs.declared.names.Target.TheVariants.{New, Named}
use Rattle.pdl_code.specs.Tree.{RawTree, RawStep, RawCode, repeat, choose, keep, put, done, next}
use Rattle.pdl_code.specs.Refused.{code_declares, scope_after, step_declares}
use Rattle.pdl_code.specs.Resolving.{◌>>=◌}
use Rattle.pdl_code.specs.Scope.{Scope, no_flags}
use Rattle.pdl_code.proofs.TreeBlocks.{cut, visible}

-- one part before the rest
both : (p q : Bool) (n m : ℕ) (a b : Result ℕ KernelFault) → a ≡ counted p n → b ≡ counted q m → (a >>= λ x. b >>= λ y. Ok (max x y)) ≡ counted (p || q) (max n m)
both true q n m a b e h = ap (λ r. r >>= λ x. b >>= λ y. Ok (max x y)) e
both false true n m a b e h = ap (λ r. r >>= λ x. b >>= λ y. Ok (max x y)) e ∙ ap (λ r. r >>= λ y. Ok (max n y)) h
both false false n m a b e h = ap (λ r. r >>= λ x. b >>= λ y. Ok (max x y)) e ∙ ap (λ r. r >>= λ y. Ok (max n y)) h

-- how many are visible after a statement
pub after_count : (c : Scope) (t : RawStep) → length (scope_after c t).locals ≡ raw_after (length c.locals) t
after_count c (keep (New ty w) op e) = length-append c.locals (record { word = w; ty = ty } ∷ []) ∙ add-one (length c.locals)
after_count c (repeat w body) = refl
after_count c (choose e whole other) = refl
after_count c (keep (Named w) op e) = refl
after_count c (put o is op e) = refl

module _ (source : List ℕ) (s : Signature) where
  mutual
    pub step_law : (c : Scope) (t : RawStep) → declared_step source s c t ≡ counted (step_declares source s c t) (raw_step_locals (length c.locals) t)
    step_law c (repeat w body) = code_law c body
    step_law c (choose e whole other) = both (code_declares source s c whole) (code_declares source s c other) _ _ _ _ (code_law c whole) (code_law c other)
    step_law c (keep (New ty w) op e) = refl
    step_law c (keep (Named w) op e) = refl
    step_law c (put o is op e) = refl

    pub code_law : (c : Scope) (t : RawCode) → declared_code source s c t ≡ counted (code_declares source s c t) (raw_locals (length c.locals) t)
    code_law c done = refl
    code_law c (next t rest) =
        both (step_declares source s c t) (code_declares source s (scope_after c t) rest) _ _ _ _ (step_law c t)
        (code_law (scope_after c t) rest ∙ ap (λ n. counted (code_declares source s (scope_after c t) rest) (raw_locals n rest)) (after_count c t))

-- the most so far, and then in the rest
abbrev pub and_most : ℕ → Result ℕ KernelFault → Result ℕ KernelFault
and_most n r = r >>= λ m. Ok (max n m)

max_assoc : (a b c : ℕ) → max (max a b) c ≡ max a (max b c)
max_assoc a b c =
    let down : max (max a b) c ≤ max a (max b c) =
    max-le (max-le (le-max_left a (max b c)) (up (le-max_left b c) (le-max_right a (max b c)))) (up (le-max_right b c) (le-max_right a (max b c))) in
    let back : max a (max b c) ≤ max (max a b) c =
    max-le (up (le-max_left a b) (le-max_left (max a b) c)) (max-le (up (le-max_right a b) (le-max_left (max a b) c)) (le-max_right (max a b) c)) in
    omega (arith, down, back)
  where
    up : {i j k : ℕ} → i ≤ j → j ≤ k → i ≤ k
    up h g = omega (arith, h, g)

-- none is counted yet
pub most_none : (r : Result ℕ KernelFault) → and_most 0 r ≡ r
most_none (Ok m) = ap Ok (omega arith)
most_none (Err e) = refl

and_both : (n a : ℕ) (r : Result ℕ KernelFault) → and_most (max n a) r ≡ and_most n (r >>= λ b. Ok (max a b))
and_both n a (Ok b) = ap Ok (max_assoc n a b)
and_both n a (Err e) = refl

module _ (source : List ℕ) (s : Signature) where
  -- one statement more
  pub most_turn : (c now : Scope) (xs : List RawStmt) (i : ℕ) (x : RawStmt) (n a m : ℕ) → i < length xs → x ≡ get_or xs i x → now ≡ scope_after c (step_of x)
      → declared_step source s c (step_of x) ≡ Ok a → m ≡ max n a
      → and_most m (declared_code source s now (code_of (drop (i + 1) xs))) ≡ and_most n (declared_code source s c (code_of (drop i xs)))
  most_turn c now xs i x n a m lt at after step is =
      let R : Scope → Result ℕ KernelFault = λ z. declared_code source s z (code_of (drop (i + 1) xs)) in
      let one : declared_code source s c (code_of (drop i xs)) ≡ (R (scope_after c (step_of x)) >>= λ b. Ok (max a b)) =
      ap (declared_code source s c) (cut xs i x lt at) ∙ ap (λ r. r >>= λ a. R (scope_after c (step_of x)) >>= λ b. Ok (max a b)) step in
      ap (λ k. and_most k (R now)) is ∙ ap (λ z. and_most (max n a) (R z)) after ∙ and_both n a (R (scope_after c (step_of x))) ∙ sym (ap (and_most n) one)

  pub most_fault : (c : Scope) (xs : List RawStmt) (i : ℕ) (x : RawStmt) (n : ℕ) (all : Result ℕ KernelFault) (f : KernelFault) → i < length xs → x ≡ get_or xs i x
      → and_most n (declared_code source s c (code_of (drop i xs))) ≡ all → declared_step source s c (step_of x) ≡ Err f → all ≡ Err f
  most_fault c xs i x n all f lt at e step =
      sym e ∙ ap (and_most n) (ap (declared_code source s c) (cut xs i x lt at) ∙ ap (λ r. r >>= λ a. declared_code source s (scope_after c (step_of x)) (code_of (drop (i + 1) xs)) >>= λ b. Ok (max a b)) step)

  pub most_end : (c : Scope) (xs : List RawStmt) (i : ℕ) (n : ℕ) (all : Result ℕ KernelFault) → length xs ≤ i
      → and_most n (declared_code source s c (code_of (drop i xs))) ≡ all → all ≡ Ok (max n (length c.locals))
  most_end c xs i n all le e = sym e ∙ ap (λ ys. and_most n (declared_code source s c (code_of ys))) (drop_all i xs le)

  pub branches_ok : (v w : List Local) (t : RawStep) (e : RawTree) (a b : RawCode) (p q r : ℕ) → t ≡ choose e a b
      → declared_code source s (visible v no_flags) a ≡ Ok p → w ≡ v → declared_code source s (visible w no_flags) b ≡ Ok q → r ≡ max p q
      → declared_step source s (visible v no_flags) t ≡ Ok r
  branches_ok v w t e a b p q r is first same second made =
      ap (declared_step source s (visible v no_flags)) is ∙ ap (λ y. y >>= λ x. declared_code source s (visible v no_flags) b >>= λ y. Ok (max x y)) first
      ∙ ap (λ y. y >>= λ y. Ok (max p y)) (ap (λ ls. declared_code source s (visible ls no_flags) b) (sym same) ∙ second) ∙ ap Ok (sym made)

  pub branches_err_first : (v : List Local) (t : RawStep) (e : RawTree) (a b : RawCode) → t ≡ choose e a b
      → (f : KernelFault) → declared_code source s (visible v no_flags) a ≡ Err f → declared_step source s (visible v no_flags) t ≡ Err f
  branches_err_first v t e a b is f first =
      ap (declared_step source s (visible v no_flags)) is ∙ ap (λ y. y >>= λ x. declared_code source s (visible v no_flags) b >>= λ y. Ok (max x y)) first

  pub branches_err_second : (v w : List Local) (t : RawStep) (e : RawTree) (a b : RawCode) (p : ℕ) → t ≡ choose e a b
      → declared_code source s (visible v no_flags) a ≡ Ok p → w ≡ v → (f : KernelFault) → declared_code source s (visible w no_flags) b ≡ Err f
      → declared_step source s (visible v no_flags) t ≡ Err f
  branches_err_second v w t e a b p is first same f second =
      ap (declared_step source s (visible v no_flags)) is ∙ ap (λ y. y >>= λ x. declared_code source s (visible v no_flags) b >>= λ y. Ok (max x y)) first
      ∙ ap (λ y. y >>= λ y. Ok (max p y)) (ap (λ ls. declared_code source s (visible ls no_flags) b) (sym same) ∙ second)
