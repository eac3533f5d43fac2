-- Two results that are the same fault, or two values that belong together.
use Rattle.std.proofs.Common.{◌≡◌, Result, Ok, Err, refl}
use Rattle.pdl_machine.specs.declared.fault.Fault.{Fault}
use Rattle.pdl_machine.specs.Then.{and_then}

-- both are the same fault, or both are values that belong together
abbrev pub Both : {A B : Type 0} → (A → B → Type 0) → Result A Fault → Result B Fault → Type 0
Both R (Ok x) (Ok y) = R x y
Both R (Ok x) (Err f) = ⊥
Both R (Err e) (Ok y) = ⊥
Both R (Err e) (Err f) = e ≡ f

-- one step after another on both sides
pub both_then : {A B C D : Type 0} (R : A → B → Type 0) (S : C → D → Type 0) (x : Result A Fault) (y : Result B Fault) (f : A → Result C Fault) (h : B → Result D Fault)
    → Both R x y → ((a : A) (b : B) → R a b → Both S (f a) (h b)) → Both S (and_then x f) (and_then y h)
both_then R S (Ok x) (Ok y) f h together next = next x y together
both_then R S (Ok x) (Err e) f h together next = absurd together
both_then R S (Err e) (Ok y) f h together next = absurd together
both_then R S (Err e) (Err e') f h together next = together

-- the same step first on both sides
pub both_same : {A C D : Type 0} (S : C → D → Type 0) (x : Result A Fault) (f : A → Result C Fault) (h : A → Result D Fault)
    → ((a : A) → Both S (f a) (h a)) → Both S (and_then x f) (and_then x h)
both_same S (Ok x) f h next = next x
both_same S (Err e) f h next = refl
