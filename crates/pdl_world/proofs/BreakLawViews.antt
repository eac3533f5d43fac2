-- What any view of a sound world shows.
use Rattle.std.proofs.Common.{◌≡◌, ℕ, ℤ, ◌<◌, inl, inr, List, [], ◌∷◌, Option, IsSomeAnd, Ok, sym, ◌∙◌, ap, subst, arith}
use Rattle.std.specs.Option.{option_map_or}
use Rattle.pdl_elem.specs.declared.Ty.{Ty}
use Rattle.pdl_elem.specs.declared.Ty.TheVariants.{Byte}
use Rattle.pdl_shape.specs.Places.{places_of, read}
use Rattle.pdl_world.specs.declared.Trans.{Trans}
use Rattle.pdl_world.specs.Formula.{child_dims, source}
use Rattle.pdl_world.specs.Laws.{IsSeenAs}
use Rattle.pdl_world.specs.Sound.{IsAllowed, IsLive, IsSound}
use Rattle.pdl_world.specs.Swept.{Has}
use Rattle.pdl_world.specs.World.{World, ArrayDef, view, Look, look, dims_in, elements}
use Rattle.pdl_world.proofs.WorldLooks.{live_below, look_older}
use Rattle.pdl_world.proofs.WorldNewest.{new_view_is_seen, older_elements_stay}
use Rattle.pdl_world.proofs.WorldBreaks.{sound_live}
use Rattle.pdl_world.proofs.SweptLemmas.{has_below}
use Rattle.pdl_world.specs.BreakLaws.{ViewsAreSeen}

-- the view k of what is seen of p
abbrev ShowsIn : (w : World) (k : ℕ) (t : Trans) (ds : List ℕ) → (above : Option Look) → (p : ℕ) → (es : List ℤ) → Type 0
ShowsIn w k t ds o p es = IsSeenAs w k (option_map_or (λ l. l.root) o p) (option_map_or (λ l. l.ty) o Byte) ds
    (read (places_of ds (option_map_or (λ l. l.dims) o []) (source t (option_map_or (λ l. l.dims) o []))) es)

parent_live : (w : World) (k p : ℕ) (t : Trans) → IsSound w → Has w k (view p t) → IsLive w p
parent_live [] k p t s h = absurd h
parent_live ((j, e) ∷ w) k p t s (inl y) =
    let P : ArrayDef → Type 0 = λ x. IsAllowed w x in
    let a : P (view p t) = subst P y.1 s.1 in
    let low : p < j = live_below w j p s.0 a.live in
    subst (λ o. IsSomeAnd o (λ m. Unit {0})) (sym (look_older j e w p (λ q. absurd (omega (arith, low, q))))) a.live
parent_live ((j, e) ∷ w) k p t s (inr y) =
    let l : IsLive w p = parent_live w k p t s.2 y in
    let low : p < j = live_below w j p s.0 l in
    subst (λ o. IsSomeAnd o (λ m. Unit {0})) (sym (look_older j e w p (λ q. absurd (omega (arith, low, q))))) l

seen_older : (j : ℕ) (e : ArrayDef) (w : World) (k r : ℕ) (ty : Ty) (ds : List ℕ) (es : List ℤ) → (j ≡ k → ⊥) → elements ((j, e) ∷ w) k ≡ elements w k → IsSeenAs w k r ty ds es → IsSeenAs ((j, e) ∷ w) k r ty ds es
seen_older j e w k r ty ds es n f y = record {
  root_is = ap (λ o. option_map_or (λ (l : Look). l.root) o k) (look_older j e w k n) ∙ y.root_is;
  ty_is = ap (λ o. option_map_or (λ (l : Look). l.ty) o Byte) (look_older j e w k n) ∙ y.ty_is;
  dims_are = ap (λ o. option_map_or (λ (l : Look). l.dims) o []) (look_older j e w k n) ∙ y.dims_are;
  elems_are = f ∙ y.elems_are;
}

-- of an older parent the same is seen
shows_older : (j : ℕ) (e : ArrayDef) (w : World) (k p : ℕ) (t : Trans) (ds : List ℕ) → (j ≡ p → ⊥) → elements ((j, e) ∷ w) p ≡ elements w p → ShowsIn ((j, e) ∷ w) k t ds (look w p) p (elements w p) → ShowsIn ((j, e) ∷ w) k t ds (look ((j, e) ∷ w) p) p (elements ((j, e) ∷ w) p)
shows_older j e w k p t ds n f y =
    let P : Option Look → Type 0 = λ o. ShowsIn ((j, e) ∷ w) k t ds o p (elements w p) in
    let Q : List ℤ → Type 0 = λ es. ShowsIn ((j, e) ∷ w) k t ds (look ((j, e) ∷ w) p) p es in
    subst Q (sym f) (subst P (sym (look_older j e w p n)) y)

dims_older : (j : ℕ) (e : ArrayDef) (w : World) (p : ℕ) → (j ≡ p → ⊥) → dims_in ((j, e) ∷ w) p ≡ dims_in w p
dims_older j e w p n = ap (λ o. option_map_or (λ (l : Look). l.dims) o []) (look_older j e w p n)

view_seen : (w : World) (k p : ℕ) (t : Trans) (ds : List ℕ) → IsSound w → Has w k (view p t) → child_dims t (dims_in w p) ≡ Ok ds → ShowsIn w k t ds (look w p) p (elements w p)
view_seen [] k p t ds s h c = absurd h
view_seen ((j, e) ∷ w) k p t ds s (inl y) c =
    let P : ArrayDef → Type 0 = λ x. IsAllowed w x in
    let a : P (view p t) = subst P y.1 s.1 in
    let low : p < j = live_below w j p s.0 a.live in
    let n : j ≡ p → ⊥ = λ q. absurd (omega (arith, low, q)) in
    let made : child_dims t (dims_in w p) ≡ Ok ds = ap (child_dims t) (sym (dims_older j e w p n)) ∙ c in
    let Q : ArrayDef → Type 0 = λ x. ShowsIn ((j, x) ∷ w) j t ds (look w p) p (elements w p) in
    let R : ℕ → Type 0 = λ x. ShowsIn ((j, e) ∷ w) x t ds (look w p) p (elements w p) in
    shows_older j e w k p t ds n (older_elements_stay w j p e s.0 a.live) (subst R y.0 (subst Q (sym y.1) (new_view_is_seen w j p t ds a.live made)))
view_seen ((j, e) ∷ w) k p t ds s (inr y) c =
    let above : IsLive w p = parent_live w k p t s.2 y in
    let itself : IsLive w k = sound_live w k (view p t) s.2 y in
    let low : p < j = live_below w j p s.0 above in
    let under : k < j = has_below w j k (view p t) s.0 y in
    let n : j ≡ p → ⊥ = λ q. absurd (omega (arith, low, q)) in
    let m : j ≡ k → ⊥ = λ q. absurd (omega (arith, under, q)) in
    let made : child_dims t (dims_in w p) ≡ Ok ds = ap (child_dims t) (sym (dims_older j e w p n)) ∙ c in
    shows_older j e w k p t ds n (older_elements_stay w j p e s.0 above)
    (seen_older j e w k _ _ ds _ m (older_elements_stay w j k e s.0 itself) (view_seen w k p t ds s.2 y made))

pub views_are_seen : ViewsAreSeen
views_are_seen = λ w k p t ds s h c. view_seen w k p t ds s h c
