-- Elements that stay, and slots that none leaves.
use Rattle.std.proofs.Common.{◌≡◌, ℕ, ◌+◌, ℤ, Bool, true, List, [], ◌∷◌, refl}
use Rattle.std.specs.Ordering.{int_eq}
use Rattle.std.proofs.lemmas.Cmp.{int_eq_equiv}
use Rattle.pdl_watch.specs.Changes.{changes_from}
use Rattle.pdl_watch.specs.Slots.{IsBelow}

pub no_changes : (n p : ℕ) (es : List ℤ) → changes_from n p es es ≡ []
no_changes n p [] = refl
no_changes n p (e ∷ es) = let same : int_eq e e ≡ true = int_eq_equiv.refl e in rw same (no_changes n (p + 1) es)

pub below_self : (ps : List Bool) → IsBelow ps ps
below_self [] = tt
below_self (p ∷ ps) = (λ h. h, below_self ps)

pub below_trans : (rs qs ps : List Bool) → IsBelow rs qs → IsBelow qs ps → IsBelow rs ps
below_trans [] [] [] h k = tt
below_trans [] [] (p ∷ ps) h k = absurd k
below_trans [] (q ∷ qs) ps h k = absurd h
below_trans (r ∷ rs) [] ps h k = absurd h
below_trans (r ∷ rs) (q ∷ qs) [] h k = absurd k
below_trans (r ∷ rs) (q ∷ qs) (p ∷ ps) h k = (λ t. k.0 (h.0 t), below_trans rs qs ps h.1 k.1)
