-- What is moved at most, and what can be lent afterwards.
use Rattle.std.proofs.Common.{◌≡◌, ℕ, ℤ, ◌+◌, ◌≤◌, Bool, true, false, List, [], ◌∷◌, Option, inl, inr, refl, sym, ap, subst, ◌∙◌, arith}
use Rattle.std.specs.Prelude.{◌==◌, if◌then◌else◌, IsSomeAnd}
use Rattle.std.specs.Option.{option_map_or}
use Rattle.std.proofs.lemmas.Bool.{eq-eqb, ne_eqb}
use Rattle.std.proofs.lemmas.Bool.Decides.{eqb_tells}
use Rattle.pdl_elem.specs.declared.Ty.{Ty}
use Rattle.pdl_world.specs.BaseLaws.{IsShownAsBefore, AssignmentsLeaveBases}
use Rattle.pdl_world.specs.Laws.{LooksStay}
use Rattle.pdl_world.specs.Paths.{root_of}
use Rattle.pdl_world.specs.Sound.{IsLive, IsSound}
use Rattle.pdl_world.specs.Swept.{Has, IsReached, sweep}
use Rattle.pdl_world.specs.SweepLaws.{KeptWereReached, ReachedAreSeenAsBefore}
use Rattle.pdl_world.specs.Windows.{base}
use Rattle.pdl_world.specs.World.{World, ArrayDef, Look, look, root, view, assign, has_repeats, places_in}
use Rattle.pdl_engine.specs.Held.{held_among, one_less_at, written_back, IsReleased}
use Rattle.pdl_engine.specs.HoldLaws.{NothingIsWritten}
use Rattle.pdl_engine.specs.Reading.{IsView, IsWarm, KeepsViews, view_as}
use Rattle.pdl_engine.specs.State.{State as Engine, IsLazy, Joins, SameArrays, TargetIsFresh, target}
use Rattle.pdl_push.specs.Targets.{target_of}
use Rattle.pdl_scope.specs.LetGo.{IsLeft}

pub same_views : (w u : World) → w ≡ u → KeepsViews w u
same_views w u e v is = subst (λ x. IsView x v) e is

-- a new root is no view
pub root_is_none : (w u : World) (k : ℕ) (ty : Ty) (ds : List ℕ) (es : List ℤ) → u ≡ (k, root ty ds es) ∷ w → KeepsViews u w
root_is_none w u k ty ds es made v is = elim (eqb_tells k v) [
  | inl t ↦ (let own : root_of ((k, root ty ds es) ∷ w) v ≡ v = rw t.0 t.1 in absurd (there.rooted own))
  | inr t ↦ (let past : look ((k, root ty ds es) ∷ w) v ≡ look w v = rw t.0 refl in view_as ((k, root ty ds es) ∷ w) w v past there)
]
  where
    there : IsView ((k, root ty ds es) ∷ w) v
    there = subst (λ x. IsView x v) made is

-- the same arrays are as many views
pub read_views : (e t : Engine) → SameArrays e t → KeepsViews t.world e.world
read_views e t same = same_views t.world e.world same.world

-- an assignment makes no view
pub written_views : LooksStay → (w u : World) (v : ℕ) (vs : List ℤ) → u ≡ assign w v vs → KeepsViews u w
written_views looks w u v vs is x there =
    let seen : look u x ≡ look w x = ap (λ y. look y x) is ∙ looks w v x vs in
    view_as u w x seen there

-- what was assigned to can be lent, unless its base has repeats
pub warmed : AssignmentsLeaveBases → (e t : Engine) (v : ℕ) (vs : List ℤ) → IsLive e.world v → t.world ≡ assign e.world v vs → TargetIsFresh e v t → IsWarm t v
warmed bases e t v vs live is fresh none =
    let b = base e.world v in
    let kept : IsShownAsBefore e.world (assign e.world v vs) v = bases e.world v v vs in
    let same : places_in t.world (base t.world v) ≡ places_in e.world b =
    ap (λ w. places_in w (base w v)) is ∙ ap (places_in (assign e.world v vs)) kept.base_is ∙ ap (λ o. option_map_or (λ (l : Look). l.places) o []) kept.base_look_is in
    let once : has_repeats (places_in e.world b) ≡ false = ap has_repeats (sym same) ∙ none in
    let own : target e.world v ≡ b = ap (λ r. target_of r (root_of e.world v) b) once in
    fresh v live refl (sym own)

-- each array of a world is one
pub has_live : (w : World) (v : ℕ) → IsLive w v → (d : ArrayDef) × Has w v d
has_live [] v live = absurd live
has_live ((k, root ty ds es) ∷ w) v live = elim (eqb_tells k v) [
  | inl t ↦ (root ty ds es, inl (t.1, refl))
  | inr t ↦ (let rest = has_live w v (rw t.0 at live) in (rest.0, inr rest.1))
]
has_live ((k, view p t) ∷ w) v live = elim (eqb_tells k v) [
  | inl e ↦ (view p t, inl (e.1, refl))
  | inr e ↦ (let rest = has_live w v (rw e.0 at live) in (rest.0, inr rest.1))
]

-- what a sweep left was seen so before
swept_seen : KeptWereReached → ReachedAreSeenAsBefore → (w : World) (held : List ℕ) (v : ℕ) → IsSound w → IsLive (sweep w held) v → look (sweep w held) v ≡ look w v
swept_seen kept reached w held v sound live =
    let there = has_live (sweep w held) v live in
    (reached w held v sound (kept w held v there.0 there.1).reached).look_is

pub left_refl : (e : Engine) → IsLeft e e
left_refl e = record { seen = λ v live. refl; stay = λ v live is. is }

-- the laws of letting go
pub record Laws : Type 0 where
  pub kept : KeptWereReached
  pub reached : ReachedAreSeenAsBefore
  pub unwritten : NothingIsWritten

pub released_seen : Laws → (e t : Engine) (u v : ℕ) → IsSound e.world → IsReleased e u t → IsLive t.world v → look t.world v ≡ look e.world v
released_seen laws e t u v sound r live =
    let held = held_among (one_less_at e.holds u) in
    let there : IsLive (sweep e.world held) v = subst (λ w. IsLive w v) r.world live in
    ap (λ w. look w v) r.world ∙ swept_seen laws.kept laws.reached e.world held v sound there

-- one more is let go
pub left_more : Laws → (e t n : Engine) (u : ℕ) → IsSound t.world → IsLeft e t → IsReleased t u n → IsLeft e n
left_more laws e t n u sound h r = record {
  seen = λ v live. released_seen laws t n u v sound r live ∙ h.seen v (before v live);
  stay = λ v live is. r.stay v live (h.stay v (before v live) is);
}
  where
    before : (v : ℕ) → IsLive n.world v → IsLive t.world v
    before v live = subst (λ o. IsSomeAnd o (λ l. Unit {0})) (released_seen laws t n u v sound r live) live

left_views : (e t : Engine) → IsLeft e t → KeepsViews t.world e.world
left_views e t h v is = view_as t.world e.world v (h.seen v is.live) is

-- and no step is taken so far, where no view goes
pub unmoved : Laws → (e t n : Engine) (u before now after : ℕ) → IsSound t.world → IsLazy t → IsLeft e t → IsReleased t u n → (KeepsViews e.world t.world → now ≡ before)
    → after ≡ now + written_back t n.world n.world → KeepsViews e.world n.world → after ≡ before
unmoved laws e t n u before now after sound lazy h r so_far counted keeps =
    let held = held_among (one_less_at t.holds u) in
    let back : KeepsViews n.world t.world = λ v is. view_as n.world t.world v (released_seen laws t n u v sound r is.live) is in
    let all : KeepsViews t.world (sweep t.world held) = λ v is. subst (λ w. IsView w v) r.world (keeps v (left_views e t h v is)) in
    let none : written_back t n.world n.world ≡ 0 = ap (λ w. written_back t w w) r.world ∙ laws.unwritten t held sound lazy all in
    let past : now ≡ before = so_far (λ v is. back v (keeps v is)) in
    omega (arith, counted, none, past)
