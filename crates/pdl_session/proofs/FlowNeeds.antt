-- What a state needs where new arrays came, elements changed, or what nothing needs was let go.
use Rattle.std.proofs.Common.{◌≡◌, ℕ, List, [], ◌∷◌, ◌++◌, Bool, true, false, refl, sym, ap, subst, ◌∙◌, eq-eqb}
use Rattle.std.specs.Prelude.{◌==◌, ◌||◌, IsSomeAnd}
use Rattle.pdl_lemmas.specs.Tests.{by_test}
use Rattle.pdl_flow.specs.Formula.{arrays_in}
use Rattle.pdl_world.specs.Laws.{OlderPathsStay, OlderStay}
use Rattle.pdl_world.specs.Paths.{path}
use Rattle.pdl_world.specs.Sound.{IsLive, IsSound}
use Rattle.pdl_world.specs.Swept.{is_listed, sweep, held_itself}
use Rattle.pdl_world.specs.SweepLaws.{ReachedAreSeenAsBefore}
use Rattle.pdl_world.specs.World.{World}
use Rattle.pdl_machine.specs.Arrays.{Arrays}
use Rattle.pdl_machine.specs.Flows.{Flow, Flows, all_read, is_reached, Needs, needs_with, needs_of}
use Rattle.pdl_machine.specs.Following.{AreFlows, AreOlder}
use Rattle.pdl_machine.specs.Laws.{AreGrown, SweepsByFewer}
use Rattle.pdl_machine.specs.State.{State, AreLive, IsSwept, IsWhole, held, kept, needs, with_world}
use Rattle.pdl_machine.specs.Tidy.{settled}
use Rattle.pdl_session.proofs.WorldGrown.{grown_look}

-- each of these arrays has its path in both worlds
abbrev pub HaveSamePaths : World → World → List ℕ → Type 0
HaveSamePaths w z [] = Unit {0}
HaveSamePaths w z (v ∷ vs) = (path z v ≡ path w v) × HaveSamePaths w z vs

same_behind : (w z : World) (us vs : List ℕ) → HaveSamePaths w z (us ++ vs) → HaveSamePaths w z vs
same_behind w z [] vs same = same
same_behind w z (u ∷ us) vs same = same_behind w z us vs same.1

before_flow : (w z : World) (stays : Bool) (f : Flow) (n : Needs) → HaveSamePaths w z (needs_with stays f n).arrays → HaveSamePaths w z n.arrays
before_flow w z true f n same = same_behind w z (arrays_in f.formula) n.arrays same
before_flow w z false f n same = same

reached_same : (w z : World) (vs : List ℕ) (r : ℕ) → HaveSamePaths w z vs → is_reached z vs r ≡ is_reached w vs r
reached_same w z [] r same = refl
reached_same w z (u ∷ vs) r same =
    ap (λ ps. is_listed ps r || is_reached z vs r) same.0
    ∙ ap (λ x. is_listed (path w u) r || x) (reached_same w z vs r same.1)

-- where these paths are the same, the same is needed
pub needs_same : (w z : World) (flows : Flows) (hs : List ℕ) → HaveSamePaths w z (needs_of w flows hs).arrays → needs_of z flows hs ≡ needs_of w flows hs
needs_same w z [] hs same = refl
needs_same w z (f ∷ flows) hs same =
    let n : Needs = needs_of w flows hs in
    let before : HaveSamePaths w z n.arrays = before_flow w z (is_reached w n.arrays f.root) f n same in
    ap (λ (m : Needs). needs_with (is_reached z m.arrays f.root) f m) (needs_same w z flows hs before)
    ∙ ap (λ (stays : Bool). needs_with stays f n) (reached_same w z n.arrays f.root before)

-- and by the flows that stay alone
needs_again : (w z : World) (flows : Flows) (hs : List ℕ) → HaveSamePaths w z (needs_of w flows hs).arrays → needs_of z (needs_of w flows hs).flows hs ≡ needs_of w flows hs
needs_again w z [] hs same = refl
needs_again w z (f ∷ flows) hs same = by_stays before (needs_again w z flows hs before) (is_reached w n.arrays f.root) refl
  where
    n : Needs
    n = needs_of w flows hs

    before : HaveSamePaths w z n.arrays
    before = before_flow w z (is_reached w n.arrays f.root) f n same

    by_stays : HaveSamePaths w z n.arrays → needs_of z n.flows hs ≡ n → (stays : Bool) → is_reached w n.arrays f.root ≡ stays → needs_of z (needs_with stays f n).flows hs ≡ needs_with stays f n
    by_stays paths rest false is = rest
    by_stays paths rest true is =
        ap (λ (m : Needs). needs_with (is_reached z m.arrays f.root) f m) rest
        ∙ ap (λ (b : Bool). needs_with b f n) (reached_same w z n.arrays f.root paths ∙ is)

-- lists of live arrays
pub live_behind : (w : World) (us vs : List ℕ) → AreLive w (us ++ vs) → AreLive w vs
live_behind w [] vs live = live
live_behind w (u ∷ us) vs live = live_behind w us vs live.1

live_before : (w : World) (us vs : List ℕ) → AreLive w (us ++ vs) → AreLive w us
live_before w [] vs live = tt
live_before w (u ∷ us) vs live = (live.0, live_before w us vs live.1)

pub live_both : (w : World) (us vs : List ℕ) → AreLive w us → AreLive w vs → AreLive w (us ++ vs)
live_both w [] vs first second = second
live_both w (u ∷ us) vs first second = (first.0, live_both w us vs first.1 second)

-- what formulas read is live
older_live : (w : World) (r : ℕ) (ks : List ℕ) → AreOlder w r ks → AreLive w ks
older_live w r [] older = tt
older_live w r (k ∷ ks) older = (older.1, older_live w r ks older.2)

pub read_live : (a : Arrays) (flows : Flows) → AreFlows a flows → AreLive a.world (all_read flows)
read_live a [] are = tt
read_live a (f ∷ flows) are = live_both a.world (arrays_in f.formula) (all_read flows) (older_live a.world f.root (arrays_in f.formula) are.0.older) (read_live a flows are.2)

-- what is needed is live
pub needs_live : (w : World) (flows : Flows) (hs : List ℕ) → AreLive w hs → AreLive w (all_read flows) → AreLive w (needs_of w flows hs).arrays
needs_live w [] hs live read = live
needs_live w (f ∷ flows) hs live read =
    by_stays (is_reached w (needs_of w flows hs).arrays f.root) (needs_live w flows hs live (live_behind w (arrays_in f.formula) (all_read flows) read))
  where
    by_stays : (stays : Bool) → AreLive w (needs_of w flows hs).arrays → AreLive w (needs_with stays f (needs_of w flows hs)).arrays
    by_stays true rest = live_both w (arrays_in f.formula) (needs_of w flows hs).arrays (live_before w (arrays_in f.formula) (all_read flows) read) rest
    by_stays false rest = rest

pub whole_needs_live : (s : State) → IsWhole s → AreLive s.arrays.world (needs s).arrays
whole_needs_live s whole = needs_live s.arrays.world s.flows (held s) whole.live (read_live s.arrays s.flows whole.flows)

-- what is held is held among more
pub held_past : (u v : ℕ) (vs : List ℕ) → is_listed vs v ≡ true → is_listed (u ∷ vs) v ≡ true
held_past u v vs h = by_test (u == v) (λ is. rw is refl) (λ other. rw other h)

first_listed : (v : ℕ) (vs : List ℕ) → is_listed (v ∷ vs) v ≡ true
first_listed v vs = let self : (v == v) ≡ true = eq-eqb v v refl in rw self refl

listed_behind : (us vs : List ℕ) (v : ℕ) → is_listed vs v ≡ true → is_listed (us ++ vs) v ≡ true
listed_behind [] vs v h = h
listed_behind (u ∷ us) vs v h = held_past u v (us ++ vs) (listed_behind us vs v h)

-- what is held is needed
pub held_needed : (w : World) (flows : Flows) (hs : List ℕ) (v : ℕ) → is_listed hs v ≡ true → is_listed (needs_of w flows hs).arrays v ≡ true
held_needed w [] hs v h = h
held_needed w (f ∷ flows) hs v h = by_stays (is_reached w (needs_of w flows hs).arrays f.root) (held_needed w flows hs v h)
  where
    by_stays : (stays : Bool) → is_listed (needs_of w flows hs).arrays v ≡ true → is_listed (needs_with stays f (needs_of w flows hs)).arrays v ≡ true
    by_stays true rest = listed_behind (arrays_in f.formula) (needs_of w flows hs).arrays v rest
    by_stays false rest = rest

-- paths of arrays that are there stay where others come
grown_path : OlderStay → OlderPathsStay → (more w : World) (v : ℕ) → IsSound (more ++ w) → IsLive w v → path (more ++ w) v ≡ path w v
grown_path older paths [] w v sound live = refl
grown_path older paths ((k, d) ∷ more) w v sound live =
    let there : IsLive (more ++ w) v = subst (λ o. IsSomeAnd o (λ l. Unit {0})) (sym (grown_look older more w v sound.2 live)) live in
    paths (more ++ w) k v d sound.0 there ∙ grown_path older paths more w v sound.2 live

pub grown_paths : OlderStay → OlderPathsStay → (old new : Arrays) (vs : List ℕ) → AreGrown old new → IsSound new.world → AreLive old.world vs → HaveSamePaths old.world new.world vs
grown_paths older paths old new [] grown sound live = tt
grown_paths older paths old new (v ∷ vs) grown sound live =
    (ap (λ w. path w v) grown.is ∙ grown_path older paths grown.more old.world v (subst IsSound grown.is sound) live.0, grown_paths older paths old new vs grown sound live.1)

-- and of those that are needed where the others go
swept_paths : ReachedAreSeenAsBefore → (w : World) (many vs : List ℕ) → IsSound w → ((v : ℕ) → is_listed vs v ≡ true → is_listed many v ≡ true) → HaveSamePaths w (sweep w many) vs
swept_paths seen w many [] sound all = tt
swept_paths seen w many (v ∷ vs) sound all =
    ((seen w many v sound (held_itself v (all v (first_listed v vs)))).path_is, swept_paths seen w many vs sound (λ u h. all u (held_past v u vs h)))

-- a state that kept what it needs keeps all
pub settled_swept : ReachedAreSeenAsBefore → SweepsByFewer → (s : State) → IsWhole s → IsSwept (with_world (settled s) (kept s))
settled_swept seen again s whole =
    let w = s.arrays.world in
    let n : Needs = needs s in
    let same : needs_of (sweep w n.arrays) n.flows (held s) ≡ n = needs_again w (sweep w n.arrays) s.flows (held s) (swept_paths seen w n.arrays n.arrays whole.sound (λ v h. h)) in
    record {
      arrays = ap (λ (m : Needs). sweep (sweep w n.arrays) m.arrays) same ∙ again w n.arrays n.arrays (λ v h. h);
      flows = ap (λ (m : Needs). m.flows) same;
    }
