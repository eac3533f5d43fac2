-- What is seen in a world: by its newest array, and by the older ones.
use Rattle.std.proofs.Common.{◌≡◌, ℕ, ℤ, ◌<◌, ◌≤◌, eqb, cond, List, [], ◌∷◌, Option, Some, None, option_and_then, IsSomeAnd, Result, Ok, Err, ◌⊎◌, inl, inr, refl, ap, ◌∙◌, subst, arith}
use Rattle.std.proofs.lemmas.Bool.{cases_lt, ne_eqb}
use Rattle.std.proofs.lemmas.Bool.Decides.{eqb_tells}
use Rattle.pdl_elem.specs.declared.Ty.{Ty}
use Rattle.pdl_world.specs.declared.Trans.{Trans}
use Rattle.pdl_shape.specs.Refusals.{Refusal}
use Rattle.pdl_world.specs.Formula.{child_dims}
use Rattle.pdl_world.specs.World.{World, ArrayDef, root, view, Look, look_of_root, look, through, seen_through, set_elements}
use Rattle.pdl_world.specs.Sound.{NumbersBelow, IsLive}
use Rattle.pdl_world.specs.Paths.{path}

-- the parent's look, through which a view is seen
pub record IsShown (w : World) (p : ℕ) (t : Trans) (l : Look) : Type 0 where
  pub above : Look
  pub parent : look w p ≡ Some above
  pub shows : through t above ≡ Some l

-- the root and the type of what is seen are the parent's
pub record HasRoot (m l : Look) : Type 0 where
  pub root_is : m.root ≡ l.root
  pub ty_is : m.ty ≡ l.ty

seen_root : (t : Trans) (m l : Look) (r : Result (List ℕ) Refusal) → seen_through t m r ≡ Some l → HasRoot m l
seen_root t m l (Ok ds) h = record { root_is = cc; ty_is = cc }
seen_root t m l (Err e) h = cc

pub through_root : (t : Trans) (m l : Look) → through t m ≡ Some l → HasRoot m l
through_root t m l h = seen_root t m l (child_dims t m.dims) h

-- what is seen through a root, or through an array behind it
pub look_root : (k : ℕ) (ty : Ty) (ds : List ℕ) (es : List ℤ) (w : World) (v : ℕ) (l : Look) → look ((k, root ty ds es) ∷ w) v ≡ Some l → ((k ≡ v) × (look_of_root k ty ds ≡ l)) ⊎ ((k ≡ v → ⊥) × (look w v ≡ Some l))
look_root k ty ds es w v l h = elim (eqb_tells k v) [
  | inl t ↦ inl (t.1, (let e : Some (look_of_root k ty ds) ≡ Some l = rw t.0 at h in cc))
  | inr t ↦ inr (t.1, rw t.0 at h)
]

shown : (w : World) (p : ℕ) (t : Trans) (l : Look) (o : Option Look) → look w p ≡ o → option_and_then (through t) o ≡ Some l → IsShown w p t l
shown w p t l (Some m) e h = record { above = m; parent = e; shows = h }
shown w p t l None e h = cc

-- what is seen through a view, or through an array behind it
pub look_view : (k p : ℕ) (t : Trans) (w : World) (v : ℕ) (l : Look) → look ((k, view p t) ∷ w) v ≡ Some l → ((k ≡ v) × IsShown w p t l) ⊎ ((k ≡ v → ⊥) × (look w v ≡ Some l))
look_view k p t w v l h = elim (eqb_tells k v) [
  | inl e ↦ inl (e.1, shown w p t l (look w p) refl (rw e.0 at h))
  | inr e ↦ inr (e.1, rw e.0 at h)
]

-- nothing is seen through a number that no array has
pub look_past : (w : World) (n v : ℕ) → NumbersBelow n w → n ≤ v → look w v ≡ None
look_past [] n v b h = refl
look_past ((k, root ty ds es) ∷ w) n v b h = rw (ne_eqb k v (omega arith)) (look_past w n v b.1 h)
look_past ((k, view p t) ∷ w) n v b h = rw (ne_eqb k v (omega arith)) (look_past w n v b.1 h)

-- an older array is seen as before a newer one came
pub look_older : (k : ℕ) (d : ArrayDef) (w : World) (v : ℕ) → (k ≡ v → ⊥) → look ((k, d) ∷ w) v ≡ look w v
look_older k (root ty ds es) w v h = rw (ne_eqb k v h) refl
look_older k (view p t) w v h = rw (ne_eqb k v h) refl

-- and so is its path
pub path_older : (k : ℕ) (d : ArrayDef) (w : World) (v : ℕ) → (k ≡ v → ⊥) → path ((k, d) ∷ w) v ≡ path w v
path_older k (root ty ds es) w v h = rw (ne_eqb k v h) refl
path_older k (view p t) w v h = rw (ne_eqb k v h) refl

-- a live array's number is below one that is above all
pub live_below : (w : World) (n v : ℕ) → NumbersBelow n w → IsLive w v → v < n
live_below w n v b l = elim (cases_lt v n) [
  | inl low ↦ low
  | inr past ↦ (let P : Option Look → Type 0 = λ o. IsSomeAnd o (λ m. Unit {0}) in absurd (subst P (look_past w n v b past) l))
]

pub below_more : (w : World) (m n : ℕ) → m ≤ n → NumbersBelow m w → NumbersBelow n w
below_more [] m n h b = tt
below_more ((k, d) ∷ w) m n h b = (omega arith, below_more w m n h b.1)

-- the root of what is seen is in the world
pub root_below : (w : World) (n v : ℕ) (l : Look) → NumbersBelow n w → look w v ≡ Some l → l.root < n
root_below [] n v l b h = cc
root_below ((k, root ty ds es) ∷ w) n v l b h = elim (look_root k ty ds es w v l h) [
  | inl e ↦ (let P : Look → Type 0 = λ m. m.root < n in subst P e.1 b.0)
  | inr e ↦ root_below w n v l b.1 e.1
]
root_below ((k, view p t) ∷ w) n v l b h = elim (look_view k p t w v l h) [
  | inl e ↦ (let below : e.1.above.root < n = root_below w n p e.1.above b.1 e.1.parent in
      let P : ℕ → Type 0 = λ r. r < n in subst P (through_root t e.1.above l e.1.shows).root_is below)
  | inr e ↦ root_below w n v l b.1 e.1
]

-- other elements of a root change no look
pub look_set : (w : World) (r : ℕ) (new : List ℤ) (v : ℕ) → look (set_elements w r new) v ≡ look w v
look_set [] r new v = refl
look_set ((k, root ty ds es) ∷ w) r new v = ap (λ o. cond (eqb k v) (Some (look_of_root k ty ds)) o) (look_set w r new v)
look_set ((k, view p t) ∷ w) r new v = ap (λ o. cond (eqb k v) (option_and_then (through t) o) o) (look_set w r new (cond (eqb k v) p v))

pub below_set : (w : World) (n r : ℕ) (new : List ℤ) → NumbersBelow n w → NumbersBelow n (set_elements w r new)
below_set [] n r new b = tt
below_set ((k, root ty ds es) ∷ w) n r new b = (b.0, below_set w n r new b.1)
below_set ((k, view p t) ∷ w) n r new b = (b.0, below_set w n r new b.1)

-- elements of a number that no array has change nothing
pub set_past : (w : World) (n r : ℕ) (new : List ℤ) → NumbersBelow n w → n ≤ r → set_elements w r new ≡ w
set_past [] n r new b h = refl
set_past ((k, root ty ds es) ∷ w) n r new b h = rw (ne_eqb k r (omega arith), set_past w n r new b.1 h) refl
set_past ((k, view p t) ∷ w) n r new b h = rw (set_past w n r new b.1 h) refl

-- they change no path
pub path_set : (w : World) (r : ℕ) (new : List ℤ) (v : ℕ) → path (set_elements w r new) v ≡ path w v
path_set [] r new v = refl
path_set ((k, root ty ds es) ∷ w) r new v = ap (λ o. cond (eqb k v) (k ∷ []) o) (path_set w r new v)
path_set ((k, view p t) ∷ w) r new v = ap (λ o. cond (eqb k v) (k ∷ o) (path (set_elements w r new) v)) (path_set w r new p) ∙ ap (λ o. cond (eqb k v) (k ∷ path w p) o) (path_set w r new v)
