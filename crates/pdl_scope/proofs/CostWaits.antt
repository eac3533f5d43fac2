-- What waits where nothing but new arrays came waited before, so that nothing is written back where these go.
use Rattle.std.proofs.Common.{◌≡◌, ◌⊎◌, ℕ, ℤ, true, List, [], ◌∷◌, ◌++◌, Option, Some, None, inl, inr, refl, sym, ap, subst, ◌∙◌}
use Rattle.std.specs.Prelude.{IsSomeAnd, is_some}
use Rattle.std.specs.Option.{option_map_or}
use Rattle.pdl_elem.specs.declared.Ty.{Ty}
use Rattle.pdl_world.specs.Paths.{root_of}
use Rattle.pdl_world.specs.Sound.{IsLive, IsSound}
use Rattle.pdl_world.specs.Swept.{Has}
use Rattle.pdl_world.specs.Windows.{Window, base}
use Rattle.pdl_world.specs.World.{World, ArrayDef, Look, look, root, view}
use Rattle.pdl_engine.specs.HoldLaws.{WhatWaitsIsLeft}
use Rattle.pdl_engine.specs.State.{State as Engine, AreWaiting, IsLazy, StayFresh, is_fresh, waiting, waiting_at}
use Rattle.pdl_scope.specs.Costs.{NewArraysGoUnwritten}
use Rattle.pdl_scope.specs.Scope.{AreRootsFresh, Scope, engine_of}
use Rattle.pdl_scope.proofs.CostsDearer.{IsRoot, IsUntouched, rooted, untouched}
use Rattle.pdl_scope.proofs.LetGoReleases.{root_seen, some_live}

-- a root that can be lent isn't one in whose family something waits
fresh_root : (t : Engine) (r b : ℕ) → IsSound t.world → IsLazy t → IsLive t.world r → root_of t.world r ≡ r → is_fresh t r ≡ true → waiting t r ≡ Some b → ⊥
fresh_root t r b sound lazy live own fresh waits =
    let at : AreWaiting t r b = lazy.waits r b live waits in
    let top : IsRoot t.world r = subst (IsRoot t.world) own (rooted t.world r sound live) in
    let same : base t.world r ≡ b = at.only r live refl fresh in
    at.view (sym same ∙ top.base_is ∙ sym own)

-- a root among them can be
fresh_among : (t : Engine) (w : World) (r : ℕ) (d : ArrayDef) (ty : Ty) (ds : List ℕ) (es : List ℤ) → AreRootsFresh t w → Has w r d → d ≡ root ty ds es → is_fresh t r ≡ true
fresh_among t [] r d ty ds es fresh has is = absurd has
fresh_among t ((k, root y cs us) ∷ w) r d ty ds es fresh (inl same) is = subst (λ u. is_fresh t u ≡ true) same.0 fresh.0
fresh_among t ((k, root y cs us) ∷ w) r d ty ds es fresh (inr has) is = fresh_among t w r d ty ds es fresh.1 has is
fresh_among t ((k, view p x) ∷ w) r d ty ds es fresh (inl same) is = absurd (cc (same.1 ∙ is))
fresh_among t ((k, view p x) ∷ w) r d ty ds es fresh (inr has) is = fresh_among t w r d ty ds es fresh has is

-- what is in two worlds together is in one of them
has_either : (w u : World) (v : ℕ) (d : ArrayDef) → Has (w ++ u) v d → Has w v d ⊎ Has u v d
has_either [] u v d has = inr has
has_either ((k, e) ∷ w) u v d (inl here) = inl (inl here)
has_either ((k, e) ∷ w) u v d (inr has) = by_place (has_either w u v d has)
  where
    by_place : Has w v d ⊎ Has u v d → Has ((k, e) ∷ w) v d ⊎ Has u v d
    by_place (inl later) = inl (inr later)
    by_place (inr past) = inr past

-- what waits in the family of a root was there
waited : (e t : Engine) (more : World) → t.world ≡ more ++ e.world → IsSound t.world → IsSound e.world → IsLazy e → IsLazy t → StayFresh e t → AreRootsFresh t more
    → (r b : ℕ) (ty : Ty) (ds : List ℕ) (es : List ℤ) → Has t.world r (root ty ds es) → waiting_at t.pending r ≡ Some b → IsLive e.world b
waited e t more is sound old_sound old new stay roots r b ty ds es has waits = by_place (has_either more e.world r (root ty ds es) (subst (λ w. Has w r (root ty ds es)) is has))
  where
    live : IsLive t.world r
    live = subst (λ o. IsSomeAnd o (λ l. Unit {0})) (sym (root_seen t.world r (root ty ds es) ty ds es sound has refl)) tt

    own : root_of t.world r ≡ r
    own = ap (λ o. option_map_or (λ (l : Look). l.root) o r) (root_seen t.world r (root ty ds es) ty ds es sound has refl)

    here : waiting t r ≡ Some b
    here = ap (waiting_at t.pending) own ∙ waits

    seen : (u : ℕ) → IsLive e.world u → IsUntouched e.world t.world u
    seen u there = subst (λ w. IsUntouched e.world w u) (sym is) (untouched more e.world u (subst IsSound is sound) there)

    by_old : Has e.world r (root ty ds es) → (o : Option ℕ) → waiting e r ≡ o → IsLive e.world b
    by_old there None none =
        let sees = root_seen e.world r (root ty ds es) ty ds es old_sound there refl in
        let past : IsLive e.world r = subst (λ o. IsSomeAnd o (λ l. Unit {0})) (sym sees) tt in
        let top : root_of e.world r ≡ r = ap (λ o. option_map_or (λ (l : Look). l.root) o r) sees in
        let lent : is_fresh e r ≡ true = subst (λ u. is_fresh e u ≡ true) top (old.lasts r past none) in
        absurd (fresh_root t r b sound new live own (stay r lent) here)
    by_old there (Some c) some =
        let sees = root_seen e.world r (root ty ds es) ty ds es old_sound there refl in
        let past : IsLive e.world r = subst (λ o. IsSomeAnd o (λ l. Unit {0})) (sym sees) tt in
        let top : root_of e.world r ≡ r = ap (λ o. option_map_or (λ (l : Look). l.root) o r) sees in
        let before : AreWaiting e r c = old.waits r c past some in
        let at : AreWaiting t r b = new.waits r b live here in
        let still : IsLive t.world c = subst (λ o. IsSomeAnd o (λ l. Unit {0})) (sym (seen c before.live).look_is) before.live in
        let family : root_of t.world c ≡ root_of t.world r = ap (λ o. option_map_or (λ (l : Look). l.root) o c) (seen c before.live).look_is ∙ before.family ∙ top ∙ sym own in
        let same : base t.world c ≡ b = at.only c still family (stay c before.fresh) in
        let one : c ≡ b = sym before.own ∙ sym (ap (λ o. option_map_or (λ (x : Window). x.base) o c) (seen c before.live).window_is) ∙ same in
        subst (IsLive e.world) one before.live

    by_place : Has more r (root ty ds es) ⊎ Has e.world r (root ty ds es) → IsLive e.world b
    by_place (inl came) = absurd (fresh_root t r b sound new live own (fresh_among t more r (root ty ds es) ty ds es roots came refl) here)
    by_place (inr there) = by_old there (waiting e r) refl

pub unwritten : WhatWaitsIsLeft → NewArraysGoUnwritten
unwritten left old new first last grown w stay =
    left (engine_of new) w new.arrays.world (λ r b ty ds es has waits. some_live (look w b) (stay b (waited (engine_of old) (engine_of new) grown.arrays.more grown.arrays.is last.whole.sound first.whole.sound first.lazy last.lazy grown.stay grown.arrays.roots r b ty ds es has waits)))
