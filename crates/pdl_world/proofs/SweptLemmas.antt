-- What a sweep keeps, and how that is seen.
use Rattle.std.proofs.Common.{◌≡◌, ℕ, ◌<◌, ◌+◌, Bool, true, false, if◌then◌else◌, inl, inr, List, [], ◌∷◌, ◌++◌, refl, sym, ◌∙◌, ap, subst, arith}
use Rattle.std.proofs.lemmas.Bool.{cases_eq, eq-eqb, both_ways}
use Rattle.std.proofs.lemmas.Bool.Decides.{eqb_tells}
use Rattle.pdl_world.specs.declared.Trans.{Trans}
use Rattle.pdl_world.specs.Sound.{NumbersBelow, IsAllowed, IsSound, IsLive}
use Rattle.pdl_world.specs.Swept.{is_listed, parents, kept_onto, sweep, Has, IsReached, held_itself, parent_of}
use Rattle.pdl_world.specs.SweepLaws.{KeptWereReached, ReachedAreSeenAsBefore, NewGoesUnheld}
use Rattle.pdl_world.specs.World.{World, ArrayDef, root, view}
use Rattle.pdl_world.proofs.WorldLooks.{live_below, below_more}
use Rattle.pdl_world.proofs.SoundRoots.{showable}
use Rattle.pdl_world.proofs.WorldStays.{Stays, stays_under, stays_without, newest_stays, seen_as_before}

-- what the arrays behind one are held by, where it is kept or not
abbrev pub held_behind : Bool → ArrayDef → List ℕ → List ℕ
held_behind keeps d held = if keeps then parents d ++ held else held

pub more_held : (d : ArrayDef) (held : List ℕ) (k : ℕ) → is_listed held k ≡ true → is_listed (parents d ++ held) k ≡ true
more_held (root ty ds es) held k h = h
more_held (view p t) held k h = elim (eqb_tells p k) [
  | inl e ↦ rw e.0 refl
  | inr e ↦ rw e.0 h
]

-- the parent of a view is held first
pub parent_held : (d : ArrayDef) (p : ℕ) (t : Trans) (held : List ℕ) → d ≡ view p t → is_listed (parents d ++ held) p ≡ true
parent_held d p t held e =
    let P : ArrayDef → Type 0 = λ x. is_listed (parents x ++ held) p ≡ true in
    let here : P (view p t) = rw (eq-eqb p p refl) refl in
    subst P (sym e) here

-- what is kept was there
has_kept : (w : World) (held : List ℕ) (k : ℕ) (d : ArrayDef) → Has (sweep w held) k d → Has w k d
has_kept [] held k d h = absurd h
has_kept ((j, e) ∷ w) held k d h = by_keeps (λ hs i. has_kept w hs k d i) (is_listed held j) h
  where
    by_keeps : ((hs : List ℕ) → Has (sweep w hs) k d → Has w k d) → (keeps : Bool) → Has (kept_onto keeps (j, e) (sweep w (held_behind keeps e held))) k d → Has ((j, e) ∷ w) k d
    by_keeps rest true (inl is) = inl is
    by_keeps rest true (inr i) = inr (rest (parents e ++ held) i)
    by_keeps rest false i = inr (rest held i)

reached_more : (u w : World) (held : List ℕ) → ((k : ℕ) (d : ArrayDef) → Has u k d → Has w k d) → (k : ℕ) → IsReached u held k → IsReached w held k
reached_more u w held f k (held_itself k' h) = held_itself k' h
reached_more u w held f k (parent_of v p t there r) = parent_of v p t (f v (view p t) there) (reached_more u w held f v r)

-- what is reached from the parents of a newest array that is held is reached with it
below_newest : (u : World) (held : List ℕ) (j : ℕ) (e : ArrayDef) → is_listed held j ≡ true → (k : ℕ) → IsReached u (parents e ++ held) k → IsReached ((j, e) ∷ u) held k
below_newest u held j e is k (held_itself k' h) = by_parents e h
  where
    by_parents : (e : ArrayDef) → is_listed (parents e ++ held) k' ≡ true → IsReached ((j, e) ∷ u) held k'
    by_parents (root ty ds es) h = held_itself k' h
    by_parents (view p t) h = elim (eqb_tells p k') [
      | inl same ↦ (let P : ℕ → Type 0 = λ x. IsReached ((j, view p t) ∷ u) held x in
          subst P same.1 (parent_of j p t (inl (refl, refl)) (held_itself j is)))
      | inr other ↦ held_itself k' (rw other.0 at h)
    ]
below_newest u held j e is k (parent_of v p t there r) = parent_of v p t (inr there) (below_newest u held j e is v r)

-- each array that is kept is reached by what is kept
still_reached : (w : World) (held : List ℕ) (k : ℕ) (d : ArrayDef) → Has (sweep w held) k d → IsReached (sweep w held) held k
still_reached [] held k d h = absurd h
still_reached ((j, e) ∷ w) held k d h = by_keeps (λ hs i. still_reached w hs k d i) (is_listed held j) refl h
  where
    by_keeps : ((hs : List ℕ) → Has (sweep w hs) k d → IsReached (sweep w hs) hs k) → (keeps : Bool) → is_listed held j ≡ keeps
        → Has (kept_onto keeps (j, e) (sweep w (held_behind keeps e held))) k d → IsReached (kept_onto keeps (j, e) (sweep w (held_behind keeps e held))) held k
    by_keeps rest false is i = rest held i
    by_keeps rest true is (inl same) =
        let P : ℕ → Type 0 = λ x. IsReached ((j, e) ∷ sweep w (parents e ++ held)) held x in subst P same.0 (held_itself j is)
    by_keeps rest true is (inr i) = below_newest (sweep w (parents e ++ held)) held j e is k (rest (parents e ++ held) i)

pub kept_were_reached : KeptWereReached
kept_were_reached = λ w held k d h.
    let still : IsReached (sweep w held) held k = still_reached w held k d h in
    record { there = has_kept w held k d h; reached = reached_more (sweep w held) w held (λ v x i. has_kept w held v x i) k still; still = still }

-- what is held is kept
pub held_are_kept : (w : World) (held : List ℕ) (k : ℕ) (d : ArrayDef) → Has w k d → is_listed held k ≡ true → Has (sweep w held) k d
held_are_kept [] held k d there h = absurd there
held_are_kept ((j, e) ∷ w) held k d there h = by_keeps (λ hs i q. held_are_kept w hs k d i q) (is_listed held j) refl there
  where
    by_keeps : ((hs : List ℕ) → Has w k d → is_listed hs k ≡ true → Has (sweep w hs) k d) → (keeps : Bool) → is_listed held j ≡ keeps → Has ((j, e) ∷ w) k d
        → Has (kept_onto keeps (j, e) (sweep w (held_behind keeps e held))) k d
    by_keeps rest true is (inl same) = inl same
    by_keeps rest true is (inr i) = inr (rest (parents e ++ held) i (more_held e held k h))
    by_keeps rest false is (inl same) = absurd (both_ways (is_listed held j) is (ap (is_listed held) same.0 ∙ h))
    by_keeps rest false is (inr i) = rest held i h

pub has_below : (w : World) (n k : ℕ) (d : ArrayDef) → NumbersBelow n w → Has w k d → k < n
has_below [] n k d b h = absurd h
has_below ((j, e) ∷ w) n k d b (inl same) = let low : j < n = b.0 in omega (arith, same.0)
has_below ((j, e) ∷ w) n k d b (inr i) = has_below w n k d b.1 i

-- a view's parent is older
pub parent_older : (w : World) (k p : ℕ) (t : Trans) → IsSound w → Has w k (view p t) → p < k
parent_older [] k p t s h = absurd h
parent_older ((j, e) ∷ w) k p t s (inl same) =
    let P : ArrayDef → Type 0 = λ x. IsAllowed w x in
    let a : P (view p t) = subst P same.1 s.1 in
    let low : p < j = live_below w j p s.0 a.live in
    omega (arith, same.0)
parent_older ((j, e) ∷ w) k p t s (inr i) = parent_older w k p t s.2 i

-- the newest array of a sound world is reached by itself alone
pub newest_held : (w : World) (held : List ℕ) (j : ℕ) (e : ArrayDef) → IsSound ((j, e) ∷ w) → (v : ℕ) → IsReached ((j, e) ∷ w) held v → j ≡ v → is_listed held j ≡ true
newest_held w held j e s v (held_itself v' h) same = ap (is_listed held) same ∙ h
newest_held w held j e s v (parent_of k v' t there r) same =
    let older : v' < k = parent_older ((j, e) ∷ w) k v' t s there in
    let below : NumbersBelow (j + 1) ((j, e) ∷ w) = (omega arith, below_more w j (j + 1) (omega arith) s.0) in
    let low : k < j + 1 = has_below ((j, e) ∷ w) (j + 1) k (view v' t) below there in
    absurd (omega arith)

-- and any other is reached by the older ones
pub reached_behind : (w : World) (held : List ℕ) (j : ℕ) (e : ArrayDef) → IsSound ((j, e) ∷ w) → (keeps : Bool) → is_listed held j ≡ keeps → (v : ℕ) → IsReached ((j, e) ∷ w) held v → (j ≡ v → ⊥)
    → IsReached w (held_behind keeps e held) v
reached_behind w held j e s true is v (held_itself v' h) n = held_itself v' (more_held e held v' h)
reached_behind w held j e s false is v (held_itself v' h) n = held_itself v' h
reached_behind w held j e s true is v (parent_of k v' t (inl same) r) n = held_itself v' (parent_held e v' t held same.1)
reached_behind w held j e s false is v (parent_of k v' t (inl same) r) n = absurd (both_ways (is_listed held j) is (newest_held w held j e s k r same.0))
reached_behind w held j e s keeps is v (parent_of k v' t (inr i) r) n =
    let low : k < j = has_below w j k (view v' t) s.0 i in
    parent_of k v' t i (reached_behind w held j e s keeps is k r (omega arith))

pub reached_are_kept : (w : World) (held : List ℕ) (k : ℕ) (d : ArrayDef) → IsSound w → Has w k d → IsReached w held k → Has (sweep w held) k d
reached_are_kept [] held k d s there r = absurd there
reached_are_kept ((j, e) ∷ w) held k d s there r = by_keeps (λ hs i q. reached_are_kept w hs k d s.2 i q) (is_listed held j) refl there
  where
    by_keeps : ((hs : List ℕ) → Has w k d → IsReached w hs k → Has (sweep w hs) k d) → (keeps : Bool) → is_listed held j ≡ keeps → Has ((j, e) ∷ w) k d
        → Has (kept_onto keeps (j, e) (sweep w (held_behind keeps e held))) k d
    by_keeps rest true is (inl same) = inl same
    by_keeps rest true is (inr i) =
        let low : k < j = has_below w j k d s.0 i in
        inr (rest (parents e ++ held) i (reached_behind w held j e s true is k r (omega arith)))
    by_keeps rest false is (inl same) = absurd (both_ways (is_listed held j) is (newest_held w held j e s k r same.0))
    by_keeps rest false is (inr i) =
        let low : k < j = has_below w j k d s.0 i in
        rest held i (reached_behind w held j e s false is k r (omega arith))

pub below_sweep : (w : World) (n : ℕ) (held : List ℕ) → NumbersBelow n w → NumbersBelow n (sweep w held)
below_sweep [] n held b = tt
below_sweep ((j, e) ∷ w) n held b = by_keeps (λ hs. below_sweep w n hs b.1) (is_listed held j)
  where
    by_keeps : ((hs : List ℕ) → NumbersBelow n (sweep w hs)) → (keeps : Bool) → NumbersBelow n (kept_onto keeps (j, e) (sweep w (held_behind keeps e held)))
    by_keeps rest true = (b.0, rest (parents e ++ held))
    by_keeps rest false = rest held

stays : (w : World) (held : List ℕ) (v : ℕ) → IsSound w → IsReached w held v → Stays w (sweep w held) v
stays [] held v s r = record { look_is = refl; path_is = refl; root_is = λ l h. refl }
stays ((j, e) ∷ w) held v s r = by_keeps (λ hs u q. stays w hs u s.2 q) (is_listed held j) refl
  where
    by_keeps : ((hs : List ℕ) (u : ℕ) → IsReached w hs u → Stays w (sweep w hs) u) → (keeps : Bool) → is_listed held j ≡ keeps
        → Stays ((j, e) ∷ w) (kept_onto keeps (j, e) (sweep w (held_behind keeps e held))) v
    by_keeps rest true is = elim (cases_eq j v) [
      | inl same ↦ (let P : ℕ → Type 0 = λ x. Stays ((j, e) ∷ w) ((j, e) ∷ sweep w (parents e ++ held)) x in
          subst P same (newest_stays w (sweep w (parents e ++ held)) j e (λ p t q. rest (parents e ++ held) p (held_itself p (parent_held e p t held q)))))
      | inr n ↦ stays_under w (sweep w (parents e ++ held)) j e v s.0 n (rest (parents e ++ held) v (reached_behind w held j e s true is v r n))
    ]
    by_keeps rest false is = elim (cases_eq j v) [
      | inl same ↦ absurd (both_ways (is_listed held j) is (newest_held w held j e s v r same))
      | inr n ↦ stays_without w (sweep w held) j e v s.0 n (rest held v (reached_behind w held j e s false is v r n))
    ]

pub reached_are_seen_as_before : ReachedAreSeenAsBefore
reached_are_seen_as_before = λ w held v s r. seen_as_before w (sweep w held) v (stays w held v s r)

pub sweeps_soundly : (w : World) (held : List ℕ) → IsSound w → IsSound (sweep w held)
sweeps_soundly [] held s = tt
sweeps_soundly ((j, e) ∷ w) held s = by_keeps (λ hs. sweeps_soundly w hs s.2) (is_listed held j)
  where
    allowed : (e : ArrayDef) → IsAllowed w e → IsAllowed (sweep w (parents e ++ held)) e
    allowed (root ty ds es) a = a
    allowed (view p t) a =
        let h : Stays w (sweep w (p ∷ held)) p = stays w (p ∷ held) p s.2 (held_itself p (parent_held (view p t) p t held refl)) in
        showable w (sweep w (p ∷ held)) p t h.look_is h.path_is a

    by_keeps : ((hs : List ℕ) → IsSound (sweep w hs)) → (keeps : Bool) → IsSound (kept_onto keeps (j, e) (sweep w (held_behind keeps e held)))
    by_keeps rest true = (below_sweep w j (parents e ++ held) s.0, allowed e s.1, rest (parents e ++ held))
    by_keeps rest false = rest held

pub new_goes_unheld : NewGoesUnheld
new_goes_unheld = λ w k d held b live. by_keeps w k d held b live (is_listed held k) refl
  where
    by_keeps : (w : World) (k : ℕ) (d : ArrayDef) (held : List ℕ) → NumbersBelow k w → ((v : ℕ) → is_listed held v ≡ true → IsLive w v) → (keeps : Bool) → is_listed held k ≡ keeps
        → kept_onto keeps (k, d) (sweep w (held_behind keeps d held)) ≡ sweep w held
    by_keeps w k d held b live true is = let low : k < k = live_below w k k b (live k is) in absurd (omega arith)
    by_keeps w k d held b live false is = refl
