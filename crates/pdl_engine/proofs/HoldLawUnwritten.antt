-- Letting go writes nothing back where no view goes.
use Rattle.std.proofs.Common.{◌≡◌, ℕ, ℤ, ◌+◌, ◌<◌, List, [], ◌∷◌, true, None, Some, Option, IsSomeAnd, refl, sym, ap, subst, ◌∙◌, inl, inr, arith, is_some}
use Rattle.std.specs.Option.{option_map_or}
use Rattle.std.proofs.lemmas.Bool.{eq-eqb, ne_eqb}
use Rattle.pdl_elem.specs.declared.Ty.{Ty}
use Rattle.pdl_world.specs.Paths.{root_of}
use Rattle.pdl_world.specs.Sound.{NumbersBelow, IsLive, IsSound}
use Rattle.pdl_world.specs.Swept.{Has, sweep}
use Rattle.pdl_world.specs.SweepLaws.{KeptWereReached}
use Rattle.pdl_world.specs.World.{World, ArrayDef, Look, look, look_of_root, root, view}
use Rattle.pdl_engine.specs.Held.{gone_from, written_back}
use Rattle.pdl_engine.specs.HoldLaws.{NothingIsWritten, WhatWaitsIsLeft}
use Rattle.pdl_engine.specs.Reading.{IsView}
use Rattle.pdl_engine.specs.State.{State, AreWaiting, waiting, waiting_at, waiting_size}

none_gone : (new : World) (o : Option ℕ) → ((b : ℕ) → o ≡ Some b → is_some (look new b) ≡ true) → gone_from new o ≡ None
none_gone new None h = refl
none_gone new (Some b) h = rw (h b refl) refl

-- where each view is left whose elements wait for one of these roots
pub left : WhatWaitsIsLeft
left s new [] h = refl
left s new ((k, root ty ds es) ∷ w) h =
    let rest : written_back s new w ≡ 0 = left s new w (λ r b t d e i q. h r b t d e (inr i) q) in
    let none : gone_from new (waiting_at s.pending k) ≡ None = none_gone new (waiting_at s.pending k) (λ b q. h k b ty ds es (inl (refl, refl)) q) in
    ap (λ (o : Option ℕ). waiting_size s o + written_back s new w) none ∙ omega (arith, rest)
left s new ((k, view p t) ∷ w) h = left s new w (λ r b y d e i q. h r b y d e (inr i) q)

below : (w : World) (n k : ℕ) (d : ArrayDef) → NumbersBelow n w → Has w k d → k < n
below [] n k d b h = absurd h
below ((j, e) ∷ w) n k d b (inl same) = let low : j < n = b.0 in omega (arith, same.0)
below ((j, e) ∷ w) n k d b (inr i) = below w n k d b.1 i

past : (k : ℕ) (d : ArrayDef) (w : World) (v : ℕ) → (k ≡ v → ⊥) → look ((k, d) ∷ w) v ≡ look w v
past k (root ty ds es) w v h = rw (ne_eqb k v h) refl
past k (view p t) w v h = rw (ne_eqb k v h) refl

-- a root of a sound world sees itself
pub root_seen : (w : World) (r : ℕ) (d : ArrayDef) (ty : Ty) (ds : List ℕ) (es : List ℤ) → IsSound w → Has w r d → d ≡ root ty ds es → look w r ≡ Some (look_of_root r ty ds)
root_seen [] r d ty ds es s h is = absurd h
root_seen ((k, e) ∷ w) r d ty ds es s (inl same) is =
    let here : look ((k, root ty ds es) ∷ w) k ≡ Some (look_of_root k ty ds) = rw (eq-eqb k k refl) refl in
    subst (λ x. look ((k, e) ∷ w) x ≡ Some (look_of_root x ty ds)) same.0
    (subst (λ x. look ((k, x) ∷ w) k ≡ Some (look_of_root k ty ds)) (sym (same.1 ∙ is)) here)
root_seen ((k, e) ∷ w) r d ty ds es s (inr i) is =
    let low : r < k = below w k r d s.0 i in
    past k e w r (λ q. absurd (omega arith)) ∙ root_seen w r d ty ds es s.2 i is

some_live : (o : Option Look) → IsSomeAnd o (λ l. Unit {0}) → is_some o ≡ true
some_live None l = absurd l
some_live (Some x) l = refl

pub unwritten : KeptWereReached → NothingIsWritten
unwritten kept s held sound lazy keeps = left s (sweep s.world held) (sweep s.world held) stays
  where
    stays : (r b : ℕ) (ty : Ty) (ds : List ℕ) (es : List ℤ) → Has (sweep s.world held) r (root ty ds es) → waiting_at s.pending r ≡ Some b → is_some (look (sweep s.world held) b) ≡ true
    stays r b ty ds es there waits =
        let seen : look s.world r ≡ Some (look_of_root r ty ds) = root_seen s.world r (root ty ds es) ty ds es sound (kept s.world held r (root ty ds es) there).there refl in
        let own : root_of s.world r ≡ r = ap (λ o. option_map_or (λ (l : Look). l.root) o r) seen in
        let live : IsLive s.world r = subst (λ o. IsSomeAnd o (λ l. Unit {0})) (sym seen) tt in
        let at : AreWaiting s r b = lazy.waits r b live (ap (waiting_at s.pending) own ∙ waits) in
        let is : IsView s.world b = record { live = at.live; rooted = λ e. at.view (sym e ∙ at.family) } in
        some_live (look (sweep s.world held) b) (keeps b is).live
