-- What a tidy leaves.
use Rattle.std.proofs.Common.{◌≡◌, ℕ, suc, ◌<◌, ◌≤◌, true, false, List, [], ◌∷◌, ◌++◌, length, refl, sym, ◌∙◌, ap, ap₂, subst, arith, map, eqb-true}
use Rattle.std.proofs.lemmas.Bool.{eq-eqb}
use Rattle.std.proofs.lemmas.List.{append-nil}
use Rattle.std.proofs.lemmas.List.Folds.{list_any-append}
use Rattle.std.specs.Prelude.{◌==◌, ◌||◌, Some, None, option_map, is_some}
use Rattle.std.specs.List.{list_any}
use Rattle.std.proofs.Math.Bool.{or-true}
use Rattle.pdl_lemmas.specs.Tests.{by_test}
use Rattle.pdl_world.specs.KeepingLaws.{MoreKeepAll}
use Rattle.pdl_world.specs.Swept.{is_listed, parents, sweep, KeepsAll}
use Rattle.pdl_world.specs.World.{ArrayDef, root, view, World}
use Rattle.pdl_machine.specs.Names.{KernelTexts, Named}
use Rattle.pdl_machine.specs.Tidy.{older, with_parent, renumber, renumbered, numbered, tidy}
use Rattle.pdl_machine.specs.Watches.{Watches, attached}
use Rattle.pdl_rebuild.specs.Rebuilt.{state_with, state_of, ParentBelow, InOrder, AreBelow, arrays_of, one_name}

pub same_self : (n : ℕ) → (n == n) ≡ true
same_self n = eq-eqb n n refl

pub not_same : (a b : ℕ) → (a ≡ b → ⊥) → (a == b) ≡ false
not_same a b differ = by_test (a == b) (λ same. absurd (differ (eqb-true a b same))) (λ other. other)

pub below_append : (n : ℕ) (xs ys : List ℕ) → AreBelow n xs → AreBelow n ys → AreBelow n (xs ++ ys)
below_append n [] ys below below' = below'
below_append n (x ∷ xs) ys below below' = (below.0, below_append n xs ys below.1 below')

pub below_more : (n m : ℕ) (xs : List ℕ) → n ≤ m → AreBelow n xs → AreBelow m xs
below_more n m [] le below = tt
below_more n m (x ∷ xs) le below = (omega (arith, below.0), below_more n m xs le below.1)

-- numbers that are all below aren't listed
pub not_listed : (n k : ℕ) (vs : List ℕ) → AreBelow n vs → n ≤ k → is_listed vs k ≡ false
not_listed n k [] below above = refl
not_listed n k (v ∷ vs) below above = rw (not_same v k (λ e. omega (arith, e, below.0))) (not_listed n k vs below.1 above)

-- more numbers
abbrev pub Includes : List ℕ → List ℕ → Type 0
Includes many few = (k : ℕ) → is_listed few k ≡ true → is_listed many k ≡ true

pub listed_append : (xs ys : List ℕ) (k : ℕ) → is_listed (xs ++ ys) k ≡ (is_listed xs k || is_listed ys k)
listed_append xs ys k = list_any-append (λ v. v == k) xs ys

pub arrays_append : (names more : Named ℕ) → arrays_of (names ++ more) ≡ arrays_of names ++ arrays_of more
arrays_append [] more = refl
arrays_append (n ∷ names) more = ap (λ vs. n.1 ∷ vs) (arrays_append names more)

pub below_arrays : (n : ℕ) (names more : Named ℕ) → AreBelow n (arrays_of names) → AreBelow n (arrays_of more) → AreBelow n (arrays_of (names ++ more))
below_arrays n names more below below' = subst (AreBelow n) (sym (arrays_append names more)) (below_append n (arrays_of names) (arrays_of more) below below')

pub includes_front : (names more : Named ℕ) → Includes (arrays_of (names ++ more)) (arrays_of names)
includes_front names more k h = ap (λ vs. is_listed vs k) (arrays_append names more) ∙ listed_append (arrays_of names) (arrays_of more) k ∙ ap (λ b. b || is_listed (arrays_of more) k) h

pub includes_back : (names more : Named ℕ) → Includes (arrays_of (names ++ more)) (arrays_of more)
includes_back names more k h = ap (λ vs. is_listed vs k) (arrays_append names more) ∙ listed_append (arrays_of names) (arrays_of more) k ∙ ap (λ b. is_listed (arrays_of names) k || b) h ∙ or-true (is_listed (arrays_of names) k)

pub includes_behind : (us vs : List ℕ) → Includes (us ++ vs) vs
includes_behind us vs k h = listed_append us vs k ∙ ap (λ b. is_listed us k || b) h ∙ or-true (is_listed us k)

-- numbers in order stay
pub older_same : (w : World) (v : ℕ) → InOrder w → v < length w → older w v ≡ v
older_same [] v order below = absurd (omega arith)
older_same ((k, d) ∷ w) v order below =
    by_test (k == v)
    (λ same. rw same (sym order.0 ∙ eqb-true k v same))
    (λ other. rw other (older_same w v order.1.1 (smaller other)))
  where
    smaller : (k == v) ≡ false → v < length w
    smaller other = below_last k (length w) v order.0 (λ e. absurd (no_eq e other)) below where
      no_eq : k ≡ v → (k == v) ≡ false → ⊥
      no_eq e other = let yes : (k == v) ≡ true = eq-eqb k v e in absurd (cc)

      below_last : (k n v : ℕ) → k ≡ n → (k ≡ v → ⊥) → v < suc n → v < n
      below_last k n v is differ below = omega arith

pub parent_same : (w : World) (d : ArrayDef) → InOrder w → ParentBelow (length w) d → with_parent (older w) d ≡ d
parent_same w (root ty ds es) order below = refl
parent_same w (view p t) order below = ap (λ q. view q t) (older_same w p order below)

pub renumber_same : (w : World) → InOrder w → renumber w ≡ w
renumber_same [] order = refl
renumber_same ((k, d) ∷ w) order = ap₂ (λ a u. a ∷ u) (ap₂ (λ j e. (j, e)) (sym order.0) (parent_same w d order.1.1 order.1.0)) (renumber_same w order.1.1)

pub names_same : (w : World) (names : Named ℕ) → InOrder w → AreBelow (length w) (arrays_of names) → renumbered (older w) names ≡ names
names_same w [] order below = refl
names_same w (n ∷ names) order below = ap₂ (λ v ns. (n.0, v) ∷ ns) (older_same w n.1 order below.0) (names_same w names order below.1)

-- arrays with numbers from n on and below j
abbrev pub AllWithin : ℕ → ℕ → World → Type 0
AllWithin n j [] = Unit {0}
AllWithin n j ((k, d) ∷ w) = (n ≤ k) × ((k < j) × AllWithin n j w)

-- none of the numbers from n on is listed, but j
abbrev pub ListsOnly : ℕ → ℕ → List ℕ → Type 0
ListsOnly n j vs = (k : ℕ) → n ≤ k → (k ≡ j → ⊥) → is_listed vs k ≡ false

-- passing arrays go
pub passing_go : (n j : ℕ) (passing w : World) (vs : List ℕ) → AllWithin n j passing → ListsOnly n j vs → sweep (passing ++ w) vs ≡ sweep w vs
passing_go n j [] w vs within only = refl
passing_go n j ((k, d) ∷ passing) w vs within only = rw (only k within.0 (λ e. omega (arith, e, within.1.0))) (passing_go n j passing w vs within.1.1 only)

-- slots that aren't attached
pub idle_attached : (ws : Watches) → list_any is_some ws ≡ false → attached ws ≡ []
idle_attached [] idle = refl
idle_attached (None ∷ ws) idle = idle_attached ws idle
idle_attached (Some v ∷ ws) idle = absurd (true_false idle) where
  true_false : true ≡ false → ⊥
  true_false e = cc

idle_numbers : (f : ℕ → ℕ) (ws : Watches) → list_any is_some ws ≡ false → map (option_map f) ws ≡ ws
idle_numbers f [] idle = refl
idle_numbers f (None ∷ ws) idle = ap (λ us. None ∷ us) (idle_numbers f ws idle)
idle_numbers f (Some v ∷ ws) idle = absurd (true_false idle) where
  true_false : true ≡ false → ⊥
  true_false e = cc

module _ (ws : Watches) (idle : list_any is_some ws ≡ false) (kernels : Named KernelTexts) where
  -- a tidied state, by what its names keep
  pub tidied : (names : Named ℕ) (w u : World) (next : ℕ) → sweep w (arrays_of names) ≡ u
      → tidy (state_with ws kernels names w next) ≡ state_of ws kernels (renumbered (older u) names) (renumber u)
  tidied names w u next swept =
      ap (λ v. numbered (state_with ws kernels names w next) v) kept_is
      ∙ ap₂ (λ us n. state_with us kernels (renumbered (older u) names) (renumber u) n) (idle_numbers (older u) ws idle) (renumber_length u)
    where
      kept_is : sweep w (arrays_of names ++ attached ws) ≡ u
      kept_is = ap (λ vs. sweep w (arrays_of names ++ vs)) (idle_attached ws idle) ∙ ap (sweep w) (append-nil (arrays_of names)) ∙ swept

      renumber_length : (u : World) → length u ≡ length (renumber u)
      renumber_length [] = refl
      renumber_length ((k, d) ∷ u) = ap suc (renumber_length u)

  -- passing arrays go, and a state in order stays
  pub tidy_passing : (names : Named ℕ) (passing w : World) (next : ℕ) → InOrder w → AllWithin (length w) next passing → AreBelow (length w) (arrays_of names) → KeepsAll w (arrays_of names)
      → tidy (state_with ws kernels names (passing ++ w) next) ≡ state_of ws kernels names w
  tidy_passing names passing w next order within below keeps =
      tidied names (passing ++ w) w next (passing_go (length w) next passing w (arrays_of names) within (λ k from other. not_listed (length w) k (arrays_of names) below from) ∙ keeps)
      ∙ ap₂ (λ ns u. state_of ws kernels ns u) (names_same w names order below) (renumber_same w order)

  parents_below : (n : ℕ) (d : ArrayDef) → ParentBelow n d → AreBelow n (parents d)
  parents_below n (root ty ds es) below = tt
  parents_below n (view p t) below = (below, tt)

  names_grown : (w : World) (d : ArrayDef) (j : ℕ) (names : Named ℕ) (x : List ℕ) → InOrder w → length w ≤ j → AreBelow (length w) (arrays_of names)
      → renumbered (older ((j, d) ∷ w)) (names ++ one_name x j) ≡ names ++ one_name x (length w)
  names_grown w d j [] x order above below = ap (λ v. (x, v) ∷ []) (rw (same_self j))
  names_grown w d j (n ∷ names) x order above below =
      ap₂ (λ v ns. (n.0, v) ∷ ns) (old n.1 below.0) (names_grown w d j names x order above below.1)
    where
      old : (v : ℕ) → v < length w → older ((j, d) ∷ w) v ≡ v
      old v small = rw (not_same j v (λ e. omega (arith, e, above, small))) (older_same w v order small)

  -- a new array gets the next number, and passing ones go
  pub tidy_new : MoreKeepAll → (names : Named ℕ) (x : List ℕ) (j : ℕ) (d : ArrayDef) (passing w : World) (next : ℕ) → InOrder w → ParentBelow (length w) d → length w ≤ j → AllWithin (length w) j passing
      → AreBelow (length w) (arrays_of names) → KeepsAll w (arrays_of names)
      → tidy (state_with ws kernels (names ++ one_name x j) ((j, d) ∷ (passing ++ w)) next)
      ≡ state_of ws kernels (names ++ one_name x (length w)) ((length w, d) ∷ w)
  tidy_new more_keep names x j d passing w next order parent above within below keeps =
      let vs : List ℕ = arrays_of (names ++ one_name x j) in
      let is_held : is_listed vs j ≡ true = includes_back names (one_name x j) j (rw (same_self j)) in
      let only : ListsOnly (length w) j (parents d ++ vs) = λ k from other.
      listed_append (parents d) vs k ∙ ap (λ b. b || is_listed vs k) (not_listed (length w) k (parents d) (parents_below (length w) d parent) from)
      ∙ ap (λ us. is_listed us k) (arrays_append names (one_name x j)) ∙ listed_append (arrays_of names) (j ∷ []) k
      ∙ ap (λ b. b || is_listed (j ∷ []) k) (not_listed (length w) k (arrays_of names) below from) ∙ rw (not_same j k (λ e. other (sym e))) in
      let more : Includes (parents d ++ vs) (arrays_of names) = λ k h. includes_behind (parents d) vs k (includes_front names (one_name x j) k h) in
      let swept : sweep ((j, d) ∷ (passing ++ w)) vs ≡ (j, d) ∷ w =
      rw is_held (ap (λ u. (j, d) ∷ u) (passing_go (length w) j passing w (parents d ++ vs) within only ∙ more_keep w (arrays_of names) (parents d ++ vs) more keeps)) in
      tidied (names ++ one_name x j) ((j, d) ∷ (passing ++ w)) ((j, d) ∷ w) next swept
      ∙ ap₂ (λ ns u. state_of ws kernels ns u) (names_grown w d j names x order above below)
      (ap₂ (λ e u. (length w, e) ∷ u) (parent_same w d order parent) (renumber_same w order))
