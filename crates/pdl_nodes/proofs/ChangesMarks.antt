-- Changes of all rows, one after the other; and changes of one.
use Rattle.std.proofs.Common.{◌≡◌, ℕ, ℤ, Bool, true, false, List, [], ◌∷◌, Option, None, refl, ap}
use Rattle.pdl_nodes.specs.Row.{Row}
use Rattle.pdl_nodes.specs.Rows.{Rows, row_at, has, each, Falls}
use Rattle.pdl_nodes.specs.Changes.{kept_in, wait_in, fill_in, lift_in, marked_in, or_known}
use Rattle.pdl_nodes.proofs.RowFinds.{not_newest}
use Rattle.std.proofs.lemmas.Bool.{eq-eqb, ne_eqb}

-- two changes that agree on each live row
pub each_live : (f g : ℕ → Row → Row) (rs : Rows) → Falls rs → ((k : ℕ) → has rs k ≡ true → f k (row_at rs k) ≡ g k (row_at rs k)) → each f rs ≡ each g rs
each_live f g [] s h = refl
each_live f g ((k, r) ∷ rs) s h =
    let tail : each f rs ≡ each g rs = each_live f g rs s.1 (λ v l. (let n : k ≡ v → ⊥ = not_newest rs k v s.0 l in
    let e : f v (row_at ((k, r) ∷ rs) v) ≡ g v (row_at ((k, r) ∷ rs) v) = h v (rw (ne_eqb k v n) l) in rw (ne_eqb k v n) at e)) in
    let here : f k (row_at ((k, r) ∷ rs) k) ≡ g k (row_at ((k, r) ∷ rs) k) = h k (rw (eq-eqb k k refl) refl) in
    let head : f k r ≡ g k r = rw (eq-eqb k k refl) at here in
    cc

pub each_id : (rs : Rows) → each (λ k r. r) rs ≡ rs
each_id [] = refl
each_id ((k, r) ∷ rs) = ap (λ x. (k, r) ∷ x) (each_id rs)

pub each_each : (f g : ℕ → Row → Row) (rs : Rows) → each f (each g rs) ≡ each (λ k r. f k (g k r)) rs
each_each f g [] = refl
each_each f g ((k, r) ∷ rs) = ap (λ x. (k, f k (g k r)) ∷ x) (each_each f g rs)

-- ---- the changes of one row leave the others
pub wait_others : (rt : ℕ) (o : Option ℕ) (v : ℕ) (r : Row) → (v ≡ rt → ⊥) → wait_in rt o v r ≡ r
wait_others rt o v r n = rw (ne_eqb v rt n) refl

pub fill_others : (b : ℕ) (ks : List ℤ) (f : Bool) (ps : Option (List (Option ℕ))) (v : ℕ) (r : Row) → (v ≡ b → ⊥) → fill_in b ks f ps v r ≡ r
fill_others b ks f ps v r n = rw (ne_eqb v b n) refl

pub lift_others : (b v : ℕ) (r : Row) → (v ≡ b → ⊥) → lift_in b v r ≡ r
lift_others b v r n = rw (ne_eqb v b n) refl

pub kept_others : (b : ℕ) (ks : List ℤ) (v : ℕ) (r : Row) → (v ≡ b → ⊥) → kept_in b ks v r ≡ r
kept_others b ks v r n = rw (ne_eqb v b n) refl

pub wait_here : (rt : ℕ) (o : Option ℕ) (r : Row) → record r { waiting = o } ≡ wait_in rt o rt r
wait_here rt o r = rw (eq-eqb rt rt refl) refl

pub fill_here : (b : ℕ) (ks : List ℤ) (f : Bool) (ps : Option (List (Option ℕ))) (r : Row) → record r { kept = ks; mark = true; repeats = f; places = or_known ps r.places } ≡ fill_in b ks f ps b r
fill_here b ks f ps r = rw (eq-eqb b b refl) refl

pub lift_here : (b : ℕ) (r : Row) → record r { kept = []; mark = false; places = None } ≡ lift_in b b r
lift_here b r = rw (eq-eqb b b refl) refl

pub marked_others : (b v : ℕ) (r : Row) → (v ≡ b → ⊥) → marked_in b v r ≡ r
marked_others b v r n = rw (ne_eqb v b n) refl

pub marked_here : (b : ℕ) (r : Row) → record r { mark = true } ≡ marked_in b b r
marked_here b r = rw (eq-eqb b b refl) refl

pub kept_here : (b : ℕ) (ks : List ℤ) (r : Row) → record r { kept = ks } ≡ kept_in b ks b r
kept_here b ks r = rw (eq-eqb b b refl) refl
