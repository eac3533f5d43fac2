-- What calls that may want memory give and cost.
use Rattle.std.proofs.Common.{Result, Ok, Err, ◌≡◌, ℤ, List, subst, ℕ, ◌+◌, ◌≤◌, arith, length}
use Rattle.std.specs.Prelude.{IfOk}
use Rattle.std.specs.Result.{OnErr, OnOk}
use Rattle.std.proofs.lemmas.List.Sums.{count_by-le-length}
use Rattle.pdl_elem.specs.declared.Ty.{Ty}
use Rattle.pdl_numbers.specs.Typed.{TypedElements, count_moved}

-- a buffer of this type and these elements
pub made_of : {E : Type 0} (r : Result TypedElements E) (ty uy : Ty) (es fs : List ℤ) → ty ≡ uy → es ≡ fs → IfOk r (λ b. b ≡ record { ty = ty; elems = es }) → IfOk r (λ b. b ≡ record { ty = uy; elems = fs })
made_of (Err e) ty uy es fs a b h = tt
made_of (Ok x) ty uy es fs a b h =
    let P : Ty → Type 0 = λ t. x ≡ record { ty = t; elems = es } in
    let Q : List ℤ → Type 0 = λ l. x ≡ record { ty = uy; elems = l } in
    subst Q b (subst P a h)

-- so many steps at most, also where memory was wanted
pub bounded : {A E : Type 0} (r : Result A E) (n s k : ℕ) → OnOk r (n ≡ s + k) → OnErr r (n ≡ s) → n ≤ s + k
bounded (Ok a) n s k f g = omega (arith, f)
bounded (Err e) n s k f g = omega (arith, g)

-- as many at most as there are elements
pub fitted_steps : {A E : Type 0} (r : Result A E) (es : List ℤ) (n s k : ℕ) → length es ≡ k → OnOk r (n ≡ s + count_moved es) → OnErr r (n ≡ s) → n ≤ s + k
fitted_steps r es n s k e f g =
    let a : n ≤ s + count_moved es = bounded r n s (count_moved es) f g in
    let b : count_moved es ≤ length es = count_by-le-length _ es in
    omega (arith, a, b, e)
