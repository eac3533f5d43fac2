-- What a value that is made by tests says of them.
use Rattle.std.specs.Prelude.{Result, Ok, Err, IfOk, ◌≡◌, Bool, true, false, if◌then◌else◌}
use Rattle.std.proofs.Common.{refl, sym, true≢false}

pub false_true : false ≡ true → ⊥
false_true e = true≢false (sym e)

pub if_elim : {A : Type 0} (P : Type 0) (b : Bool) {x y z : A} → (if b then x else y) ≡ z →
    (b ≡ true → x ≡ z → P) → (b ≡ false → y ≡ z → P) → P
if_elim P true e h k = h refl e
if_elim P false e h k = k refl e

pub if_ok_map : {T E : Type 0} (r : Result T E) (P Q : T → Type 0) → ((x : T) → P x → Q x) → IfOk r P → IfOk r Q
if_ok_map (Ok x) P Q f h = f x h
if_ok_map (Err e) P Q f h = h
