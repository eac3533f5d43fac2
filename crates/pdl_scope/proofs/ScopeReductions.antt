-- Reductions, products and operators of arrays that are lent.
use Rattle.std.proofs.Common.{◌≡◌, ℕ, Result, sym, ap, ◌∙◌}
use Rattle.pdl_buf.specs.Window.{Window}
use Rattle.pdl_buf.specs.declared.made.Made.{Made}
use Rattle.pdl_buf.specs.Made.{array_of}
use Rattle.pdl_reduce.specs.Refusals.{ReduceRefusal}
use Rattle.pdl_engine.specs.State.{State as Engine, shown_in}
use Rattle.pdl_machine.specs.Arrays.{Arrays, array_in}
use Rattle.pdl_scope.specs.Scope.{arrays_of}

-- of an array, which is lent
pub one_lent : (f : Made → Result Made ReduceRefusal) (a : Arrays) (v : ℕ) (e : Engine) (w : Window) → arrays_of e ≡ a → w ≡ shown_in e v → f (array_in a v) ≡ f (array_of w)
one_lent f a v e w same lent = ap (λ b. f (array_in b v)) (sym same) ∙ ap (λ u. f (array_of u)) (sym lent)

-- of two arrays, which are lent
pub two_lent : {X : Type 0} (f : Made → Made → X) (a : Arrays) (v r : ℕ) (e : Engine) (w u : Window) → arrays_of e ≡ a → w ≡ shown_in e v → u ≡ shown_in e r
    → f (array_in a v) (array_in a r) ≡ f (array_of w) (array_of u)
two_lent f a v r e w u same left right =
    ap (λ b. f (array_in b v) (array_in b r)) (sym same) ∙ ap (λ x. f (array_of x) (array_in (arrays_of e) r)) (sym left) ∙ ap (λ x. f (array_of w) (array_of x)) (sym right)
