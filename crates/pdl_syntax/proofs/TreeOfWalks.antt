-- The looks for ragged lists and for formulas go down in the tree, and over arguments one by one.
use Rattle.std.proofs.Common.{◌≡◌, ℕ, zero, suc, ◌+◌, ◌<◌, ◌≤◌, List, [], ◌∷◌, length, drop, Bool, true, false, ◌||◌, refl, sym, ap, ◌∙◌, arith, Vec, Global}
use Rattle.std.specs.Prelude.{slice_index_or}
use Rattle.std.proofs.Math.Bool.{or_assoc}
use Rattle.pdl_syntax.specs.declared.tree.Arg.{Arg, Value, Str, OfType}
use Rattle.pdl_syntax.specs.declared.tree.Expr.{Expr, Call}
use Rattle.pdl_syntax.specs.Tree.{Tree, Args, number, named, literal, unary, binary, call, none, value, text, of_type}
use Rattle.pdl_syntax.specs.TreeOf.{tree_of, args_of, argument_of}
use Rattle.pdl_syntax.specs.Formulas.{is_one_formula}
use Rattle.pdl_syntax.specs.Ragged.{are_ragged}
use Rattle.pdl_syntax.proofs.TreeLemmas.{tree_of_call}

abbrev mutual
  -- how much there is to look at
  pub weight : Tree → ℕ
  weight (number n) = 1
  weight (named x) = 1
  weight (literal ty ds es) = 1
  weight (unary op a) = weight a + 1
  weight (binary op a b) = weight a + weight b + 1
  weight (call f args) = weights args + 2

  pub weights : Args → ℕ
  weights none = 0
  weights (value front a) = weights front + weight a + 1
  weights (text front t) = weights front
  weights (of_type front ty) = weights front

weights_one : (a : Arg) (front : Args) → weights (argument_of a front) ≡ weights front + weights (argument_of a none)
weights_one (Value e) front = omega arith
weights_one (Str t) front = omega arith
weights_one (OfType ty) front = omega arith

weights_rest : (rest : List Arg) (front : Args) → weights front ≤ weights (args_of rest front)
weights_rest [] front = omega arith
weights_rest (a ∷ rest) front = omega (arith, weights_one a front, weights_rest rest (argument_of a front))

pub weights_at : (args : List Arg) (front : Args) (i : ℕ) (a : Arg) → i < length args → weights (argument_of (slice_index_or args i a) none) ≤ weights (args_of args front)
weights_at [] front i a lt = absurd (omega arith)
weights_at (x ∷ args) front zero a lt = omega (arith, weights_one x front, weights_rest args (argument_of x front))
weights_at (x ∷ args) front (suc i) a lt = weights_at args (argument_of x front) i a (omega arith)

or_none : (b : Bool) → b ≡ (b || false)
or_none true = refl
or_none false = refl

ragged_one : (a : Arg) (front : Args) → are_ragged (argument_of a front) ≡ (are_ragged front || are_ragged (argument_of a none))
ragged_one (Value e) front = refl
ragged_one (Str t) front = or_none (are_ragged front)
ragged_one (OfType ty) front = or_none (are_ragged front)

ragged_rest : (rest : List Arg) (front : Args) → are_ragged (args_of rest front) ≡ (are_ragged front || are_ragged (args_of rest none))
ragged_rest [] front = or_none (are_ragged front)
ragged_rest (a ∷ rest) front =
    let last : Bool = are_ragged (args_of rest none) in
    ragged_rest rest (argument_of a front) ∙ ap (λ b. b || last) (ragged_one a front)
    ∙ or_assoc (are_ragged front) (are_ragged (argument_of a none)) last
    ∙ ap (λ b. are_ragged front || b) (sym (ragged_rest rest (argument_of a none)))

-- the arguments from a place on, by the first of them
pub ragged_from : (args : List Arg) (i : ℕ) (a : Arg) → i < length args → a ≡ slice_index_or args i a
    → are_ragged (args_of (drop i args) none) ≡ (are_ragged (argument_of a none) || are_ragged (args_of (drop (suc i) args) none))
ragged_from [] i a lt at = absurd (omega arith)
ragged_from (x ∷ args) zero a lt at =
    ragged_rest args (argument_of x none) ∙ ap (λ y. are_ragged (argument_of y none) || are_ragged (args_of args none)) (sym at)
ragged_from (x ∷ args) (suc i) a lt at = ragged_from args i a (omega arith) at

-- the tree of a call
pub tree_is : (e : Expr) (f : List ℕ) (args : Vec Arg Global) (xs : List Arg) → e ≡ Call f args → xs ≡ args.items → tree_of e ≡ call f (args_of xs none)
tree_is e f args xs is items = ap tree_of is ∙ tree_of_call f args ∙ ap (λ ys. call f (args_of ys none)) (sym items)

-- two arguments or more are no formula alone
several : (rest : List Arg) (a b : Arg) (front : Args) → is_one_formula (args_of rest (argument_of b (argument_of a front))) ≡ false
several [] (Value e) (Value f) front = refl
several [] (Str t) (Value f) front = refl
several [] (OfType ty) (Value f) front = refl
several [] a (Str t) front = refl
several [] a (OfType ty) front = refl
several (c ∷ rest) a b front = several rest b c (argument_of a front)

pub no_one_formula : (args : List Arg) → 2 ≤ length args → is_one_formula (args_of args none) ≡ false
no_one_formula [] le = absurd (omega arith)
no_one_formula (a ∷ []) le = absurd (omega arith)
no_one_formula (a ∷ b ∷ rest) le = several rest a b none
