-- What an option that is made in steps says of its steps.
use Rattle.std.specs.Prelude.{◌≡◌, Option, Some, None, option_map, option_and_then}
use Rattle.std.proofs.Common.{refl}
use Rattle.std.proofs.lemmas.Option.{none-some, same_Some, option_and_then_some}

pub some_inj : {A : Type 0} {x y : A} → Some x ≡ Some y → x ≡ y
some_inj {x = x} {y = y} e = same_Some x y e

pub none_some : {A : Type 0} {x : A} → None ≡ Some x → ⊥
none_some {x = x} e = none-some x e

pub then_elim : {A B : Type 0} (P : Type 0) (g : A → Option B) (o : Option A) {y : B} → option_and_then g o ≡ Some y →
    ((x : A) → o ≡ Some x → g x ≡ Some y → P) → P
then_elim P g o {y = y} e h = option_and_then_some g o y e h

pub map_elim : {A B : Type 0} (P : Type 0) (g : A → B) (o : Option A) {y : B} → option_map g o ≡ Some y →
    ((x : A) → o ≡ Some x → g x ≡ y → P) → P
map_elim P g None e h = absurd (none_some e)
map_elim P g (Some x) e h = h x refl (some_inj e)

-- a value where there is none, else what is made of it
abbrev pub choose : {A B : Type 0} → B → (A → B) → Option A → B
choose d f None = d
choose d f (Some x) = f x

pub choose_elim : {A B : Type 0} (P : Type 0) (d : B) (g : A → B) (o : Option A) {y : B} → choose d g o ≡ y →
    (o ≡ None → d ≡ y → P) → ((x : A) → o ≡ Some x → g x ≡ y → P) → P
choose_elim P d g None e h k = h refl e
choose_elim P d g (Some x) e h k = k x refl e
