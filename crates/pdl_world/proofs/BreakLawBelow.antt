-- How the arrays below v are found, the oldest first.
use Rattle.std.proofs.Common.{◌≡◌, ℕ, ℤ, ◌<◌, ◌≤◌, ◌==◌, true, false, if◌then◌else◌, inl, inr, List, [], ◌∷◌, Option, Some, None, option_and_then, IsSomeAnd, Ok, refl, sym, ◌∙◌, ap, subst, arith}
use Rattle.std.proofs.lemmas.Bool.{cases_eq, ne_eqb}
use Rattle.std.proofs.lemmas.Bool.Decides.{eqb_tells}
use Rattle.pdl_elem.specs.declared.Ty.{Ty}
use Rattle.pdl_shape.specs.Places.{places_of}
use Rattle.pdl_world.specs.Cut.{replaced}
use Rattle.pdl_world.specs.declared.Trans.{Trans}
use Rattle.pdl_world.specs.Formula.{child_dims, source}
use Rattle.pdl_world.specs.Paths.{path}
use Rattle.pdl_world.specs.Sound.{IsAllowed, IsLive, IsSound}
use Rattle.pdl_world.specs.Swept.{is_listed, Has}
use Rattle.pdl_world.specs.World.{World, ArrayDef, root, view, Look, look, look_of_root, through, seen_through, through_places, ty_in}
use Rattle.pdl_world.proofs.WorldLooks.{live_below, look_older, path_older}
use Rattle.pdl_world.proofs.WorldReplaces.{is_rooted, replaced_older}
use Rattle.pdl_world.proofs.WorldBreaks.{live_has, look_itself, path_root, path_view, refused_break}
use Rattle.pdl_world.proofs.CutLemmas.{head_held, held_view}
use Rattle.pdl_world.proofs.CutSevers.{new_elements}
use Rattle.pdl_world.proofs.SweptLemmas.{has_below, parent_older}
use Rattle.pdl_world.specs.BreakLaws.{BelowLaws, IsDerivedBelow}

pub looks_follow : (w : World) (v : ℕ) (new : ArrayDef) (k p : ℕ) (t : Trans) → IsSound w → Has w k (view p t) → (k ≡ v → ⊥) → look (replaced w v new) k ≡ option_and_then (through t) (look (replaced w v new) p)
looks_follow [] v new k p t s h n = absurd h
looks_follow ((j, d) ∷ w) v new k p t s (inl y) n =
    let f : j ≡ v → ⊥ = λ q. n (sym y.0 ∙ q) in
    let a : IsAllowed w (view p t) = subst (λ x. IsAllowed w x) y.1 s.1 in
    let low : p < j = live_below w j p s.0 a.live in
    let m : j ≡ p → ⊥ = λ q. absurd (omega (arith, low, q)) in
    let here : replaced ((j, d) ∷ w) v new ≡ (j, view p t) ∷ replaced w v new = replaced_older j d w v new f ∙ ap (λ x. (j, x) ∷ replaced w v new) y.1 in
    ap (λ x. look x k) here ∙ ap (look ((j, view p t) ∷ replaced w v new)) (sym y.0) ∙ look_itself j p t (replaced w v new)
    ∙ ap (option_and_then (through t)) (sym (look_older j (view p t) (replaced w v new) p m) ∙ ap (λ x. look x p) (sym here))
looks_follow ((j, d) ∷ w) v new k p t s (inr y) n =
    let low : k < j = has_below w j k (view p t) s.0 y in
    let lower : p < k = parent_older w k p t s.2 y in
    let a : j ≡ k → ⊥ = λ q. absurd (omega (arith, low, q)) in
    let b : j ≡ p → ⊥ = λ q. absurd (omega (arith, low, lower, q)) in
    look_older j (if j == v then new else d) (replaced w v new) k a
    ∙ looks_follow w v new k p t s.2 y n
    ∙ ap (option_and_then (through t)) (sym (look_older j (if j == v then new else d) (replaced w v new) p b))

-- paths
path_at : (w : World) (k p : ℕ) (t : Trans) → IsSound w → Has w k (view p t) → path w k ≡ k ∷ path w p
path_at [] k p t s h = absurd h
path_at ((j, d) ∷ w) k p t s (inl y) =
    let a : IsAllowed w (view p t) = subst (λ x. IsAllowed w x) y.1 s.1 in
    let low : p < j = live_below w j p s.0 a.live in
    let P : ArrayDef → Type 0 = λ x. path ((j, x) ∷ w) k ≡ k ∷ path ((j, x) ∷ w) p in
    let Q : ℕ → Type 0 = λ x. path ((j, view p t) ∷ w) x ≡ x ∷ path ((j, view p t) ∷ w) p in
    subst P (sym y.1) (subst Q y.0 (path_view j p t w ∙ ap (λ ps. j ∷ ps) (sym (path_older j (view p t) w p (λ q. absurd (omega (arith, low, q)))))))
path_at ((j, d) ∷ w) k p t s (inr y) =
    let low : k < j = has_below w j k (view p t) s.0 y in
    let lower : p < k = parent_older w k p t s.2 y in
    path_older j d w k (λ q. absurd (omega (arith, low, q))) ∙ path_at w k p t s.2 y ∙ ap (λ ps. k ∷ ps) (sym (path_older j d w p (λ q. absurd (omega (arith, low, lower, q)))))

path_at_root : (w : World) (k : ℕ) (ty : Ty) (ds : List ℕ) (es : List ℤ) → IsSound w → Has w k (root ty ds es) → path w k ≡ k ∷ []
path_at_root [] k ty ds es s h = absurd h
path_at_root ((j, d) ∷ w) k ty ds es s (inl y) =
    let P : ArrayDef → Type 0 = λ x. path ((j, x) ∷ w) k ≡ k ∷ [] in
    let Q : ℕ → Type 0 = λ x. path ((j, root ty ds es) ∷ w) x ≡ x ∷ [] in
    subst P (sym y.1) (subst Q y.0 (path_root j ty ds es w))
path_at_root ((j, d) ∷ w) k ty ds es s (inr y) =
    let low : k < j = has_below w j k (root ty ds es) s.0 y in
    path_older j d w k (λ q. absurd (omega (arith, low, q))) ∙ path_at_root w k ty ds es s.2 y

next_held : (k v : ℕ) (up : List ℕ) → (k ≡ v → ⊥) → is_listed (k ∷ up) v ≡ is_listed up v
next_held k v up n = rw (ne_eqb k v n) refl

-- v itself is on its path
held_at : (w : World) (v : ℕ) (d : ArrayDef) → IsSound w → Has w v d → is_listed (path w v) v ≡ true
held_at w v (root ty ds es) s h = ap (λ ps. is_listed ps v) (path_at_root w v ty ds es s h) ∙ head_held v []
held_at w v (view p t) s h = ap (λ ps. is_listed ps v) (path_at w v p t s h) ∙ head_held v (path w p)

begins_by : (w : World) (v : ℕ) (ds : List ℕ) (o : Option Look) → look w v ≡ o → IsSomeAnd o (λ l. Unit {0}) → is_listed (path w v) v ≡ true → IsDerivedBelow w v ds v ds
begins_by w v ds None e l h = absurd l
begins_by w v ds (Some m) e l h = record {
  reaches = h;
  seen = look_of_root v (ty_in w v) ds;
  look_is = (is_rooted w v m (ty_in w v) ds (new_elements w v ds) e).look_is;
  dims_are = refl;
}

begins : (w : World) (v : ℕ) (ds : List ℕ) → IsSound w → IsLive w v → IsDerivedBelow w v ds v ds
begins w v ds s l = (let q = live_has w v l in begins_by w v ds (look w v) refl l (held_at w v q.0 s q.1))

abbrev beneath : Trans → Look → List ℕ → Look
beneath t m fs = record { root = m.root; ty = m.ty; dims = fs; places = through_places (places_of fs m.dims (source t m.dims)) m.places }

goes_on : (w : World) (v : ℕ) (ds : List ℕ) (k p : ℕ) (t : Trans) (es fs : List ℕ) → IsSound w → Has w k (view p t) → (k ≡ v → ⊥) → IsDerivedBelow w v ds p es → child_dims t es ≡ Ok fs → IsDerivedBelow w v ds k fs
goes_on w v ds k p t es fs s h n b e =
    let made : child_dims t b.seen.dims ≡ Ok fs = ap (child_dims t) b.dims_are ∙ e in
    record {
      reaches = ap (λ ps. is_listed ps v) (path_at w k p t s h) ∙ next_held k v (path w p) n ∙ b.reaches;
      seen = beneath t b.seen fs;
      look_is = looks_follow w v (root (ty_in w v) ds (new_elements w v ds)) k p t s h n ∙ ap (option_and_then (through t)) b.look_is ∙ ap (seen_through t b.seen) made;
      dims_are = refl;
    }

-- a path holds no newer number
held_low : (w : World) (v u : ℕ) → IsSound w → is_listed (path w u) v ≡ true → v ≤ u
held_low [] v u s h = cc
held_low ((k, root ty ds es) ∷ w) v u s h = elim (cases_eq k u) [
  | inl t ↦ elim (eqb_tells k v) [
    | inl y ↦ omega (arith, t, y.1)
    | inr y ↦ (let e : is_listed (k ∷ []) v ≡ true = ap (λ ps. is_listed ps v) (sym (path_root k ty ds es w) ∙ ap (path ((k, root ty ds es) ∷ w)) t) ∙ h in
        let z : false ≡ true = rw y.0 at e in cc)
  ]
  | inr n ↦ held_low w v u s.2 (ap (λ ps. is_listed ps v) (sym (path_older k (root ty ds es) w u n)) ∙ h)
]
held_low ((k, view p t) ∷ w) v u s h = elim (cases_eq k u) [
  | inl e ↦ elim (cases_eq k v) [
    | inl y ↦ omega (arith, e, y)
    | inr y ↦ (let own : is_listed (path ((k, view p t) ∷ w) k) v ≡ true = ap (λ x. is_listed (path ((k, view p t) ∷ w) x) v) e ∙ h in
        let up : v ≤ p = held_low w v p s.2 (sym (held_view k p t w v y) ∙ own) in
        let low : p < k = live_below w k p s.0 s.1.live in
        omega (arith, e, up, low))
  ]
  | inr n ↦ held_low w v u s.2 (ap (λ ps. is_listed ps v) (sym (path_older k (view p t) w u n)) ∙ h)
]

pub below_laws : BelowLaws
below_laws = record {
  begins = begins;
  goes_on = goes_on;
  breaks = λ w v ds k p t es e s h n b r. refused_break w v ds k p t b.seen e s h b.look_is n (ap (child_dims t) b.dims_are ∙ r);
  not_on = λ w v k p t s h n. ap (λ ps. is_listed ps v) (path_at w k p t s h) ∙ next_held k v (path w p) n;
  not_root = λ w v k ty es fs s h n. ap (λ ps. is_listed ps v) (path_at_root w k ty es fs s h) ∙ next_held k v [] n;
  not_older = λ w v u s h. held_low w v u s h;
}
