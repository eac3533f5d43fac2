-- Held arrays that keep all of a world.
use Rattle.std.proofs.Common.{◌≡◌, ℕ, ℤ, suc, ◌<◌, ◌≤◌, Bool, true, false, List, [], ◌∷◌, ◌++◌, length, Option, Some, None, inl, inr, refl, sym, ap, subst, ◌∙◌, arith}
use Rattle.std.specs.Prelude.{◌==◌, if◌then◌else◌, IfSome, IsSomeAnd}
use Rattle.std.proofs.lemmas.Bool.{cases_eq, eq-eqb, ne_eqb}
use Rattle.std.proofs.lemmas.Bool.Decides.{eqb_tells}
use Rattle.pdl_elem.specs.declared.Ty.{Ty}
use Rattle.pdl_shape.specs.Places.{write}
use Rattle.pdl_world.specs.Cut.{replaced}
use Rattle.pdl_world.specs.KeepingLaws.{NewestKeepsAll, IsNewestKept, NewestIsKept, MoreKeepAll, AssignsKeepAll, CutsKeepAll, ReshapesKeepAll, ParentsAreLive}
use Rattle.pdl_world.specs.Paths.{parent_in}
use Rattle.pdl_world.specs.Sound.{NumbersBelow, IsSound, IsLive}
use Rattle.pdl_world.specs.Swept.{is_listed, parents, kept_onto, sweep, KeepsAll}
use Rattle.pdl_world.specs.World.{World, ArrayDef, root, view, Look, look, set_elements, root_elements, assign_through, ty_in, dims_in, elements}
use Rattle.pdl_world.proofs.WorldLooks.{look_older, live_below}
use Rattle.pdl_world.proofs.SweptLemmas.{more_held}

-- a sweep adds nothing
swept_few : (w : World) (held : List ℕ) → length (sweep w held) ≤ length w
swept_few [] held = omega arith
swept_few ((k, d) ∷ w) held = by_kept (λ m. swept_few w m) (is_listed held k)
  where
    by_kept : ((m : List ℕ) → length (sweep w m) ≤ length w) → (kept : Bool) → length (kept_onto kept (k, d) (sweep w (if kept then parents d ++ held else held))) ≤ suc (length w)
    by_kept rest true = let r = rest (parents d ++ held) in omega arith
    by_kept rest false = let r = rest held in omega arith

pub newest_keeps_all : NewestKeepsAll
newest_keeps_all w k d held first rest = by_kept (is_listed held k) first
  where
    by_kept : (kept : Bool) → kept ≡ true → kept_onto kept (k, d) (sweep w (if kept then parents d ++ held else held)) ≡ (k, d) ∷ w
    by_kept true is = ap (λ u. (k, d) ∷ u) rest
    by_kept false is = absurd (cc)

pub newest_is_kept : NewestIsKept
newest_is_kept w k d held keeps = by_kept (is_listed held k) refl keeps
  where
    rest_is : (a b : ℕ × ArrayDef) (u t : World) → a ∷ u ≡ b ∷ t → u ≡ t
    rest_is a b u t e = cc

    by_kept : (kept : Bool) → is_listed held k ≡ kept → kept_onto kept (k, d) (sweep w (if kept then parents d ++ held else held)) ≡ (k, d) ∷ w → IsNewestKept w k d held
    by_kept true is e = record { newest = is; others = rest_is (k, d) (k, d) (sweep w (parents d ++ held)) w e }
    by_kept false is e =
        let more : length (sweep w held) ≡ suc (length w) = ap length e in
        let few = swept_few w held in
        absurd (omega arith)

-- beside the same parent too
both_more : (d : ArrayDef) (few many : List ℕ) → ((v : ℕ) → is_listed few v ≡ true → is_listed many v ≡ true) → (v : ℕ) → is_listed (parents d ++ few) v ≡ true → is_listed (parents d ++ many) v ≡ true
both_more (root ty ds es) few many more v t = more v t
both_more (view p u) few many more v t = elim (eqb_tells p v) [
  | inl same ↦ rw same.0 refl
  | inr other ↦ rw other.0 (more v (rw other.0 at t))
]

pub more_keep_all : MoreKeepAll
more_keep_all [] few many more keeps = refl
more_keep_all ((k, d) ∷ w) few many more keeps =
    let first = newest_is_kept w k d few keeps in
    newest_keeps_all w k d many (more k first.newest) (more_keep_all w (parents d ++ few) (parents d ++ many) (both_more d few many more) first.others)

-- elements are no matter of a sweep
pub assigns_keep_all : AssignsKeepAll
assigns_keep_all w v vs held keeps = by_look (look w v)
  where
    set : (w : World) (r : ℕ) (es : List ℤ) (held : List ℕ) → KeepsAll w held → KeepsAll (set_elements w r es) held
    set [] r es held k = refl
    set ((n, root ty ds old) ∷ w) r es held k =
        let first = newest_is_kept w n (root ty ds old) held k in
        newest_keeps_all (set_elements w r es) n (root ty ds (if n == r then es else old)) held first.newest (set w r es held first.others)
    set ((n, view p t) ∷ w) r es held k =
        let first = newest_is_kept w n (view p t) held k in
        newest_keeps_all (set_elements w r es) n (view p t) held first.newest (set w r es (p ∷ held) first.others)

    by_look : (o : Option Look) → KeepsAll (assign_through w o vs) held
    by_look None = keeps
    by_look (Some l) = set w l.root (write l.places vs (root_elements w l.root)) held keeps

-- a number that no array has has no parent
no_parent : (w : World) (n v : ℕ) → NumbersBelow n w → n ≤ v → parent_in w v ≡ None
no_parent [] n v below past = refl
no_parent ((k, root ty ds es) ∷ w) n v below past = rw (ne_eqb k v (omega arith)) (no_parent w n v below.1 past)
no_parent ((k, view p t) ∷ w) n v below past = rw (ne_eqb k v (omega arith)) (no_parent w n v below.1 past)

-- the parent of an older array
parent_older : (k : ℕ) (d : ArrayDef) (w : World) (v : ℕ) → (k ≡ v → ⊥) → parent_in ((k, d) ∷ w) v ≡ parent_in w v
parent_older k (root ty ds es) w v other = rw (ne_eqb k v other) refl
parent_older k (view p t) w v other = rw (ne_eqb k v other) refl

-- of these the parent of the newest array holds
abbrev IsParentHeld : World → ℕ → List ℕ → Type 0
IsParentHeld w v held = IfSome (parent_in w v) (λ p. is_listed held p ≡ true)

-- what is held by the newest array's parent and by few is held, where its parent is
newest_parent : (w : World) (k : ℕ) (d : ArrayDef) (few many : List ℕ) → ((v : ℕ) → is_listed few v ≡ true → is_listed many v ≡ true) → IsParentHeld ((k, d) ∷ w) k many → (v : ℕ) → is_listed (parents d ++ few) v ≡ true → is_listed many v ≡ true
newest_parent w k (root ty ds es) few many more above v t = more v t
newest_parent w k (view p u) few many more above v t =
    let P : Bool → Type 0 = λ b. IfSome (if b then Some p else parent_in w k) (λ q. is_listed many q ≡ true) in
    let held : is_listed many p ≡ true = subst P (eq-eqb k k refl) above in
    elim (eqb_tells p v) [
      | inl same ↦ sym (ap (is_listed many) same.1) ∙ held
      | inr other ↦ more v (rw other.0 at t)
    ]

parent_held_more : (d : ArrayDef) (held : List ℕ) (o : Option ℕ) → IfSome o (λ p. is_listed held p ≡ true) → IfSome o (λ p. is_listed (parents d ++ held) p ≡ true)
parent_held_more d held None h = tt
parent_held_more d held (Some p) h = more_held d held p h

-- an array becomes a root: what was kept is kept by those that hold its parent too
replaced_keeps : (w : World) (v : ℕ) (ty : Ty) (ds : List ℕ) (es : List ℤ) (few many : List ℕ) → IsSound w → ((u : ℕ) → is_listed few u ≡ true → is_listed many u ≡ true) → IsParentHeld w v many → KeepsAll w few
    → KeepsAll (replaced w v (root ty ds es)) many
replaced_keeps [] v ty ds es few many sound more above keeps = refl
replaced_keeps ((k, d) ∷ w) v ty ds es few many sound more above keeps =
    let first = newest_is_kept w k d few keeps in
    elim (cases_eq k v) [
      | inl same ↦ (let P : ℕ → Type 0 = λ u. KeepsAll (replaced ((k, d) ∷ w) u (root ty ds es)) many in
          let here : IsParentHeld ((k, d) ∷ w) k many = subst (λ u. IsParentHeld ((k, d) ∷ w) u many) (sym same) above in
          let none : IsParentHeld w k many = subst (λ o. IfSome o (λ p. is_listed many p ≡ true)) (sym (no_parent w k k sound.0 (omega arith))) tt in
          subst P same (rw (eq-eqb k k refl) (newest_keeps_all (replaced w k (root ty ds es)) k (root ty ds es) many (more k first.newest)
          (replaced_keeps w k ty ds es (parents d ++ few) many sound.2 (newest_parent w k d few many more here) none first.others))))
      | inr other ↦ rw (ne_eqb k v other) (newest_keeps_all (replaced w v (root ty ds es)) k d many (more k first.newest)
          (replaced_keeps w v ty ds es (parents d ++ few) (parents d ++ many) sound.2 (both_more d few many more)
          (parent_held_more d many (parent_in w v) (subst (λ o. IfSome o (λ p. is_listed many p ≡ true)) (parent_older k d w v other) above)) first.others))
    ]

pub cuts_keep_all : CutsKeepAll
cuts_keep_all w v held sound keeps above = replaced_keeps w v (ty_in w v) (dims_in w v) (elements w v) held held sound (λ u t. t) above keeps

pub reshapes_keep_all : ReshapesKeepAll
reshapes_keep_all w v ds held sound keeps above = replaced_keeps w v (ty_in w v) ds _ held held sound (λ u t. t) above keeps

-- an older array is live with a newer one
live_older : (w : World) (k : ℕ) (d : ArrayDef) → NumbersBelow k w → (v : ℕ) → IsLive w v → IsLive ((k, d) ∷ w) v
live_older w k d below v live =
    let low : v < k = live_below w k v below live in
    let P : Option Look → Type 0 = λ o. IsSomeAnd o (λ l. Unit {0}) in
    subst P (sym (look_older k d w v (λ e. (let e' : k ≡ v = e in absurd (omega arith))))) live

live_all_older : (w : World) (k : ℕ) (d : ArrayDef) → NumbersBelow k w → (o : Option ℕ) → IfSome o (IsLive w) → IfSome o (IsLive ((k, d) ∷ w))
live_all_older w k d below None h = tt
live_all_older w k d below (Some v) h = live_older w k d below v h

pub parents_are_live : ParentsAreLive
parents_are_live [] v sound = tt
parents_are_live ((k, root ty ds es) ∷ w) v sound = elim (cases_eq k v) [
  | inl same ↦ rw (eq-eqb k v same) tt
  | inr other ↦ rw (ne_eqb k v other) (live_all_older w k (root ty ds es) sound.0 (parent_in w v) (parents_are_live w v sound.2))
]
parents_are_live ((k, view p t) ∷ w) v sound = elim (cases_eq k v) [
  | inl same ↦ rw (eq-eqb k v same) (live_older w k (view p t) sound.0 p sound.1.live)
  | inr other ↦ rw (ne_eqb k v other) (live_all_older w k (view p t) sound.0 (parent_in w v) (parents_are_live w v sound.2))
]
