-- Resolving step by step answers the code, or the first of the refusals.
use Rattle.std.proofs.Common.{◌≡◌, ℕ, List, [], ◌∷◌, ◌++◌, length, Ok, refl, ap, ◌∙◌}
use Rattle.std.specs.Prelude.{Bool, Option, Some, None, Result}
use Rattle.pdl_sig.specs.declared.Signature.{Signature}
use Rattle.pdl_code.specs.declared.fault.KernelFault.{KernelFault}
use Rattle.pdl_code.specs.declared.fault.KernelFault.TheVariants.{WriteToInput}
use Rattle.pdl_code.specs.declared.lexeme.Span.{Span}
use Rattle.pdl_code.specs.declared.names.Target.TheVariants.{New, Named}
use Rattle.pdl_code.specs.Tree.{access, unary, binary, along, repeat, choose, keep, put, next, RawTree, RawIndices, RawStep, RawCode, number, size, named, none, done}
use Rattle.pdl_code.specs.Scope.{Scope, axis_of, bytes_of, meant, no_flags, within}
use Rattle.pdl_code.specs.Refused.{answer, argument_at, axis_wrong, behind_name, code_code, code_wrongs, index_code, index_wrongs, type_of_local, is_input, loop_wrong, mark, named_argument, named_dim, or_zero, scope_after, slot_of, step_code, step_wrongs, target_wrong, tree_code, tree_wrongs, when}
use Rattle.pdl_code.specs.Resolving.{◌>>=◌, known, checked, resolve_tree, resolve_indices, resolve_step, resolve_code}

-- one part, and what is made of it
made : {A B : Type 0} (ws : List KernelFault) (x : A) (f : A → B) (r : Result A KernelFault) → r ≡ answer ws x → (r >>= λ a. Ok (f a)) ≡ answer ws (f x)
made [] x f r e = ap (λ y. y >>= λ a. Ok (f a)) e
made (w ∷ ws) x f r e = ap (λ y. y >>= λ a. Ok (f a)) e

-- one part before the rest
before : {A B : Type 0} (ws rest : List KernelFault) (x : A) (y : B) (r : Result A KernelFault) (f : A → Result B KernelFault) → r ≡ answer ws x → f x ≡ answer rest y → (r >>= f) ≡ answer (ws ++ rest) y
before [] rest x y r f e h = ap (λ z. z >>= f) e ∙ h
before (w ∷ ws) rest x y r f e h = ap (λ z. z >>= f) e

behind : {A : Type 0} (w : Span) (p : Option ℕ) (ws : List KernelFault) (x : A) (r : Result A KernelFault) → r ≡ answer ws x → known w p r ≡ answer (behind_name w p ws) x
behind w None ws x r e = refl
behind w (Some a) ws x r e = e

check : {A : Type 0} (ws rest : List KernelFault) (x : A) (r : Result A KernelFault) → r ≡ answer rest x → checked ws r ≡ answer (ws ++ rest) x
check [] rest x r e = e
check (w ∷ ws) rest x r e = refl

module _ (source : List ℕ) (s : Signature) where
  mutual
    pub tree_law : (c : Scope) (t : RawTree) → resolve_tree source s c t ≡ answer (tree_wrongs source s c t) (tree_code source s c t)
    tree_law c (number z) = refl
    tree_law c (size w) = refl
    tree_law c (named w) = refl
    tree_law c (access o is) =
        let a = named_argument source s o.name in
        let ds = (argument_at s a).dims in
        behind o.name a _ _ _ (made (index_wrongs source s c ds no_flags o.close is) _ (access (or_zero a)) _ (index_law c ds no_flags o.close is))
    tree_law c (unary op e) = made (tree_wrongs source s c e) (tree_code source s c e) (unary op) _ (tree_law c e)
    tree_law c (binary op x y) = before (tree_wrongs source s c x) (tree_wrongs source s c y) (tree_code source s c x) _ _ _ (tree_law c x) (made (tree_wrongs source s c y) (tree_code source s c y) (binary op (tree_code source s c x)) _ (tree_law c y))

    pub index_law : (c : Scope) (ds : List ℕ) (given : List Bool) (at : ℕ) (is : RawIndices) → resolve_indices source s c ds given at is ≡ answer (index_wrongs source s c ds given at is) (index_code source s c ds given is)
    index_law c ds given at none = refl
    index_law c ds given at (along w e rest) =
        let k = axis_of s ds (bytes_of source w) in
        before (axis_wrong w given k) _ (or_zero k) _ _ _ refl
        (before (tree_wrongs source s c e) _ (tree_code source s c e) _ _ _ (tree_law c e)
        (made (index_wrongs source s c ds (mark given k) at rest) _ (along (or_zero k) (tree_code source s c e)) _ (index_law c ds (mark given k) at rest)))

  mutual
    pub step_law : (c : Scope) (t : RawStep) → resolve_step source s c t ≡ answer (step_wrongs source s c t) (step_code source s c t)
    step_law c (repeat w body) =
        let d = named_dim source s w in
        before (loop_wrong c.loops w d) _ (or_zero d) _ _ _ refl (made (code_wrongs source s (within c (or_zero d)) body) _ (repeat (or_zero d)) _ (code_law (within c (or_zero d)) body))
    step_law c (choose e whole other) =
        before (tree_wrongs source s c e) _ (tree_code source s c e) _ _ _ (tree_law c e)
        (before (code_wrongs source s c whole) _ (code_code source s c whole) _ _ _ (code_law c whole) (made (code_wrongs source s c other) _ (choose (tree_code source s c e) (code_code source s c whole)) _ (code_law c other)))
    step_law c (keep (New ty w) op e) = made (tree_wrongs source s c e) _ (keep (record { slot = length c.locals; ty = ty }) op) _ (tree_law c e)
    step_law c (keep (Named w) op e) =
        let k = slot_of (meant source s c.locals w) in
        before (target_wrong w (meant source s c.locals w)) _ k _ _ _ refl (made (tree_wrongs source s c e) _ (keep (record { slot = k; ty = type_of_local c.locals k }) op) _ (tree_law c e))
    step_law c (put o is op e) =
        let a = named_argument source s o.name in
        let ds = (argument_at s a).dims in
        let input = when (is_input (argument_at s a).role) (WriteToInput o.name.from) in
        before (behind_name o.name a (input ++ index_wrongs source s c ds no_flags o.close is)) _ (index_code source s c ds no_flags is) _ _ _
        (behind o.name a _ _ _ (check input _ _ _ (index_law c ds no_flags o.close is)))
        (made (tree_wrongs source s c e) _ (put (or_zero a) (index_code source s c ds no_flags is) op) _ (tree_law c e))

    pub code_law : (c : Scope) (t : RawCode) → resolve_code source s c t ≡ answer (code_wrongs source s c t) (code_code source s c t)
    code_law c done = refl
    code_law c (next t rest) =
        before (step_wrongs source s c t) _ (step_code source s c t) _ _ _ (step_law c t) (made (code_wrongs source s (scope_after c t) rest) _ (next (step_code source s c t)) _ (code_law (scope_after c t) rest))
