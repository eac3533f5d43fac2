-- What leaves the bases of arrays as they are.
use Rattle.std.proofs.Common.{◌≡◌, ◌⊎◌, ℕ, ℤ, ◌<◌, ◌==◌, eqb, cond, Bool, true, false, if◌then◌else◌, List, [], ◌∷◌, ◌++◌, Option, Some, None, option_and_then, Result, Ok, Err, inl, inr, refl, sym, ◌∙◌, ap, subst, arith}
use Rattle.std.specs.Option.{option_map_or}
use Rattle.std.proofs.lemmas.Bool.{cases_eq, eq-eqb, both_ways}
use Rattle.std.proofs.lemmas.Bool.Decides.{eqb_tells}
use Rattle.pdl_shape.specs.Refusals.{Refusal}
use Rattle.pdl_shape.specs.Triple.{Triple, whole_triple}
use Rattle.pdl_world.specs.declared.Trans.{Trans}
use Rattle.pdl_world.specs.Formula.{child_dims}
use Rattle.pdl_world.specs.BaseLaws.{IsShownAsBefore, AssignmentsLeaveBases, OlderBasesStay, ReachedKeepBases, SweepsLeaveLooks}
use Rattle.pdl_world.specs.Sound.{NumbersBelow, IsSound}
use Rattle.pdl_world.specs.Swept.{is_listed, parents, kept_onto, sweep, IsReached, held_itself}
use Rattle.pdl_world.specs.Windows.{Window, base, narrowed, over, own_window, window, window_over}
use Rattle.pdl_world.specs.World.{World, ArrayDef, root, view, Look, look, through, set_elements, assign_through}
use Rattle.pdl_world.proofs.WindowBases.{IsNarrowed, is_narrowed, window_older}
use Rattle.pdl_world.proofs.WorldLooks.{live_below, look_older, look_set}
use Rattle.pdl_world.proofs.SweptLemmas.{held_behind, newest_held, parent_held, reached_are_seen_as_before, reached_behind}

-- other elements of a root change no window
window_set : (w : World) (r : ℕ) (new : List ℤ) (v : ℕ) → window (set_elements w r new) v ≡ window w v
window_set [] r new v = refl
window_set ((k, root ty ds es) ∷ w) r new v = ap (λ o. cond (eqb k v) (Some (record { base = k; triple = whole_triple ds })) o) (window_set w r new v)
window_set ((k, view p t) ∷ w) r new v = ap (λ o. cond (eqb k v) (option_and_then (narrowed k t) o) o) (window_set w r new (cond (eqb k v) p v))

-- the base of a window
abbrev base_by : Option Window → ℕ → ℕ
base_by o v = option_map_or (λ (x : Window). x.base) o v

pub assignments_leave_bases : AssignmentsLeaveBases
assignments_leave_bases w v u vs = by_look (look w v)
  where
    by_look : (o : Option Look) → IsShownAsBefore w (assign_through w o vs) u
    by_look None = record { base_is = refl; base_look_is = refl }
    by_look (Some l) = record {
      base_is = ap (λ o. base_by o u) (window_set w l.root _ u);
      base_look_is = look_set w l.root _ (base w u);
    }

-- a view has its own base or its parent's
narrowed_base : (k : ℕ) (t : Trans) (above x : Window) → narrowed k t above ≡ Some x → (x.base ≡ k) ⊎ (x.base ≡ above.base)
narrowed_base k t above x h = by_over (over t above.triple) h
  where
    by_own : (r : Result (List ℕ) Refusal) → own_window k r ≡ Some x → (x.base ≡ k) ⊎ (x.base ≡ above.base)
    by_own (Ok ds) e = inl (let same : record { base = k; triple = whole_triple ds } ≡ x = cc in sym (ap (λ (y : Window). y.base) same))
    by_own (Err refusal) e = cc

    by_over : (o : Option Triple) → window_over k t above o ≡ Some x → (x.base ≡ k) ⊎ (x.base ≡ above.base)
    by_over (Some u) e = inr (let same : record { base = above.base; triple = u } ≡ x = cc in sym (ap (λ (y : Window). y.base) same))
    by_over None e = by_own (child_dims t above.triple.dims) e

-- a base is among the arrays
base_below : (w : World) (n v : ℕ) (x : Window) → NumbersBelow n w → window w v ≡ Some x → x.base < n
base_below [] n v x b h = cc
base_below ((k, root ty ds es) ∷ w) n v x b h = elim (eqb_tells k v) [
  | inl t ↦ (let e : Some (record { base = k; triple = whole_triple ds }) ≡ Some x = rw t.0 at h in
      let same : record { base = k; triple = whole_triple ds } ≡ x = cc in
      subst (λ (y : Window). y.base < n) same b.0)
  | inr t ↦ base_below w n v x b.1 (rw t.0 at h)
]
base_below ((k, view p t) ∷ w) n v x b h = elim (eqb_tells k v) [
  | inl e ↦ (let low : k < n = b.0 in
      let s : IsNarrowed w k p t x = is_narrowed w k p t x (window w p) refl (rw e.0 at h) in
      let above : s.above.base < n = base_below w n p s.above b.1 s.parent in
      elim (narrowed_base k t s.above x s.narrow) [ inl own ↦ omega (arith, own) | inr parent ↦ omega (arith, parent) ])
  | inr e ↦ base_below w n v x b.1 (rw e.0 at h)
]

-- a number above all is no other array's base
base_apart : (w : World) (k v : ℕ) → NumbersBelow k w → (k ≡ v → ⊥) → k ≡ base w v → ⊥
base_apart w k v b n = by_window (window w v) refl
  where
    by_window : (o : Option Window) → window w v ≡ o → k ≡ base_by o v → ⊥
    by_window None is e = n e
    by_window (Some x) is e = let low = base_below w k v x b is in absurd (omega arith)

base_older : (k : ℕ) (d : ArrayDef) (w : World) (v : ℕ) → (k ≡ v → ⊥) → base ((k, d) ∷ w) v ≡ base w v
base_older k d w v n = ap (λ o. base_by o v) (window_older k d w v n)

pub older_bases_stay : OlderBasesStay
older_bases_stay w k v d b live =
    let low : v < k = live_below w k v b live in
    let n : k ≡ v → ⊥ = λ e. absurd (omega arith) in
    record { base_is = base_older k d w v n; base_look_is = look_older k d w (base w v) (base_apart w k v b n) }

-- the array has the window that it had, and its base is seen as it was
record Same (w new : World) (v : ℕ) : Type 0 where
  window_is : window new v ≡ window w v
  look_is : look new (base w v) ≡ look w (base w v)

-- an older array, under a newest one that is kept
same_under : (w u : World) (j : ℕ) (e : ArrayDef) (v : ℕ) → NumbersBelow j w → (j ≡ v → ⊥) → Same w u v → Same ((j, e) ∷ w) ((j, e) ∷ u) v
same_under w u j e v b n h = record {
  window_is = window_older j e u v n ∙ h.window_is ∙ sym (window_older j e w v n);
  look_is = subst (λ x. look ((j, e) ∷ u) x ≡ look ((j, e) ∷ w) x) (sym (base_older j e w v n))
      (let apart = base_apart w j v b n in look_older j e u (base w v) apart ∙ h.look_is ∙ sym (look_older j e w (base w v) apart));
}

-- and under one that goes
same_without : (w u : World) (j : ℕ) (e : ArrayDef) (v : ℕ) → NumbersBelow j w → (j ≡ v → ⊥) → Same w u v → Same ((j, e) ∷ w) u v
same_without w u j e v b n h = record {
  window_is = h.window_is ∙ sym (window_older j e w v n);
  look_is = subst (λ x. look u x ≡ look ((j, e) ∷ w) x) (sym (base_older j e w v n))
      (h.look_is ∙ sym (look_older j e w (base w v) (base_apart w j v b n)));
}

-- the newest view is its own base, or has its parent's
newest_base : (w : World) (j p : ℕ) (t : Trans) → NumbersBelow j w → (base ((j, view p t) ∷ w) j ≡ j) ⊎ ((base ((j, view p t) ∷ w) j ≡ base w p) × (j ≡ base w p → ⊥))
newest_base w j p t b = rw (eq-eqb j j refl) (by_parent (window w p) refl)
  where
    by_parent : (o : Option Window) → window w p ≡ o → (base_by (option_and_then (narrowed j t) o) j ≡ j) ⊎ ((base_by (option_and_then (narrowed j t) o) j ≡ base_by o p) × (j ≡ base_by o p → ⊥))
    by_parent None is = inl refl
    by_parent (Some above) is = by_narrow (narrowed j t above) refl
      where
        by_narrow : (o : Option Window) → narrowed j t above ≡ o → (base_by o j ≡ j) ⊎ ((base_by o j ≡ above.base) × (j ≡ above.base → ⊥))
        by_narrow None e = inl refl
        by_narrow (Some x) e = elim (narrowed_base j t above x e) [
          | inl own ↦ inl own
          | inr parent ↦ inr (parent, λ z. (let low = base_below w j p above b is in absurd (omega arith)))
        ]

-- the newest array itself, whose parent is seen as before
newest_same : (w u : World) (j : ℕ) (e : ArrayDef) → NumbersBelow j w → ((p : ℕ) (t : Trans) → e ≡ view p t → look u p ≡ look w p) → ((p : ℕ) (t : Trans) → e ≡ view p t → Same w u p) → Same ((j, e) ∷ w) ((j, e) ∷ u) j
newest_same w u j (root ty ds es) b looks h = record {
  window_is = rw (eq-eqb j j refl) refl;
  look_is = (let own : base ((j, root ty ds es) ∷ w) j ≡ j = rw (eq-eqb j j refl) refl in
      subst (λ x. look ((j, root ty ds es) ∷ u) x ≡ look ((j, root ty ds es) ∷ w) x) (sym own) (rw (eq-eqb j j refl) refl));
}
newest_same w u j (view p t) b looks h =
    let a : Same w u p = h p t refl in
    record {
      window_is = rw (eq-eqb j j refl) (ap (option_and_then (narrowed j t)) a.window_is);
      look_is = elim (newest_base w j p t b) [
        | inl own ↦ subst (λ x. look ((j, view p t) ∷ u) x ≡ look ((j, view p t) ∷ w) x) (sym own) (rw (eq-eqb j j refl) (ap (option_and_then (through t)) (looks p t refl)))
        | inr over ↦ subst (λ x. look ((j, view p t) ∷ u) x ≡ look ((j, view p t) ∷ w) x) (sym over.0)
            (look_older j (view p t) u (base w p) over.1 ∙ a.look_is ∙ sym (look_older j (view p t) w (base w p) over.1))
      ];
    }

same : (w : World) (held : List ℕ) (v : ℕ) → IsSound w → IsReached w held v → Same w (sweep w held) v
same [] held v s r = record { window_is = refl; look_is = refl }
same ((j, e) ∷ w) held v s r = by_keeps (λ hs u q. same w hs u s.2 q) (is_listed held j) refl
  where
    by_keeps : ((hs : List ℕ) (u : ℕ) → IsReached w hs u → Same w (sweep w hs) u) → (keeps : Bool) → is_listed held j ≡ keeps
        → Same ((j, e) ∷ w) (kept_onto keeps (j, e) (sweep w (held_behind keeps e held))) v
    by_keeps rest true is = elim (cases_eq j v) [
      | inl eq ↦ (let reached : (p : ℕ) (t : Trans) → e ≡ view p t → IsReached w (parents e ++ held) p = λ p t q. held_itself p (parent_held e p t held q) in
          subst (λ x. Same ((j, e) ∷ w) ((j, e) ∷ sweep w (parents e ++ held)) x) eq
          (newest_same w (sweep w (parents e ++ held)) j e s.0
          (λ p t q. (reached_are_seen_as_before w (parents e ++ held) p s.2 (reached p t q)).look_is)
          (λ p t q. rest (parents e ++ held) p (reached p t q))))
      | inr n ↦ same_under w (sweep w (parents e ++ held)) j e v s.0 n (rest (parents e ++ held) v (reached_behind w held j e s true is v r n))
    ]
    by_keeps rest false is = elim (cases_eq j v) [
      | inl eq ↦ absurd (both_ways (is_listed held j) is (newest_held w held j e s v r eq))
      | inr n ↦ same_without w (sweep w held) j e v s.0 n (rest held v (reached_behind w held j e s false is v r n))
    ]

pub reached_keep_bases : ReachedKeepBases
reached_keep_bases w held v s r =
    let h : Same w (sweep w held) v = same w held v s r in
    record { base_is = ap (λ o. base_by o v) h.window_is; base_look_is = h.look_is }

-- elements are no matter of a sweep
sweep_set : (w : World) (r : ℕ) (new : List ℤ) (held : List ℕ) → sweep (set_elements w r new) held ≡ set_elements (sweep w held) r new
sweep_set [] r new held = refl
sweep_set ((k, root ty ds es) ∷ w) r new held = by_keeps (λ hs. sweep_set w r new hs) (is_listed held k)
  where
    by_keeps : ((hs : List ℕ) → sweep (set_elements w r new) hs ≡ set_elements (sweep w hs) r new) → (keeps : Bool)
        → kept_onto keeps (k, root ty ds (if k == r then new else es)) (sweep (set_elements w r new) (held_behind keeps (root ty ds es) held)) ≡ set_elements (kept_onto keeps (k, root ty ds es) (sweep w (held_behind keeps (root ty ds es) held))) r new
    by_keeps rest true = ap (λ x. (k, root ty ds (if k == r then new else es)) ∷ x) (rest held)
    by_keeps rest false = rest held
sweep_set ((k, view p t) ∷ w) r new held = by_keeps (λ hs. sweep_set w r new hs) (is_listed held k)
  where
    by_keeps : ((hs : List ℕ) → sweep (set_elements w r new) hs ≡ set_elements (sweep w hs) r new) → (keeps : Bool)
        → kept_onto keeps (k, view p t) (sweep (set_elements w r new) (held_behind keeps (view p t) held)) ≡ set_elements (kept_onto keeps (k, view p t) (sweep w (held_behind keeps (view p t) held))) r new
    by_keeps rest true = ap (λ x. (k, view p t) ∷ x) (rest (p ∷ held))
    by_keeps rest false = rest held

pub sweeps_leave_looks : SweepsLeaveLooks
sweeps_leave_looks w v u vs held = by_look (look w v)
  where
    by_look : (o : Option Look) → look (sweep (assign_through w o vs) held) u ≡ look (sweep w held) u
    by_look None = refl
    by_look (Some l) = ap (λ x. look x u) (sweep_set w l.root _ held) ∙ look_set (sweep w held) l.root _ u
