-- A tidied state is whole, swept and numbered.
use Rattle.std.proofs.Common.{◌≡◌, ℕ, suc, ◌≤◌, List, [], ◌∷◌, ◌++◌, length, map, Bool, true, false, Option, refl, sym, ap, subst, ◌∙◌, arith}
use Rattle.std.specs.Prelude.{if◌then◌else◌, IsSomeAnd}
use Rattle.std.proofs.lemmas.List.{length-map}
use Rattle.pdl_world.specs.Sound.{NumbersBelow, IsSound, IsAllowed}
use Rattle.pdl_world.specs.SweepLaws.{SweepsSoundly, ReachedAreSeenAsBefore}
use Rattle.pdl_world.specs.Swept.{is_listed, parents, kept_onto, sweep, held_itself}
use Rattle.pdl_world.specs.World.{World, ArrayDef, root, view, Look}
use Rattle.pdl_machine.specs.Flows.{Flows, flow_by, is_reached, Needs, needs_with, needs_of}
use Rattle.pdl_machine.specs.State.{State, held, needs, kept, IsSwept, AreLive, IsWhole}
use Rattle.pdl_machine.specs.Tidy.{older, with_parent, renumber, settled, tidy}
use Rattle.pdl_machine.specs.Dumpable.{ViewsAreWritable}
use Rattle.pdl_machine.specs.DumpableLaws.{EmptyIsDumpable, TidiedAreDumpable, NumbersAreUnspelled}
use Rattle.pdl_machine.proofs.DumpLemmas.{length-renumber, renumber_again}
use Rattle.pdl_machine.proofs.ArraysRenamed.{IsApart, StateAlike, view_refusal_renamed}
use Rattle.pdl_machine.proofs.TidyLemmas.{renamed, length-renamed, sweep_renamed, held_alike, needs_alike, sweep_again}
use Rattle.pdl_machine.proofs.TidyNumbering.{IsInOrder, in_order, former_numbers, former_apart, swept_is, tidied_alike, all_renamed}
use Rattle.pdl_machine.proofs.FlowLemmas.{first_listed, later_listed, held_needed, needs_again}
use Rattle.pdl_machine.proofs.FlowsTidied.{live_before, tidying_keeps_flows}
use Rattle.pdl_machine.proofs.StateSteps.{needs_before}
use Rattle.pdl_machine.proofs.NamesSpelled.{names_before}
use Rattle.pdl_machine.proofs.DumpableViews.{writable_before}

pub empty_is_dumpable : EmptyIsDumpable
empty_is_dumpable = record {
  whole = record { sound = tt; below = tt; live = tt; flows = tt };
  swept = record { arrays = refl; flows = refl };
  numbered = record { next = refl; world = refl };
  spelled = record { names = tt; kernels = tt; few = omega arith; views = tt };
}

-- each array has as its number how many are older
abbrev IsCounted : World → Type 0
IsCounted [] = Unit {0}
IsCounted ((k, d) ∷ w) = (k ≡ length w) × IsCounted w

counted_renumbered : (w : World) → IsCounted (renumber w)
counted_renumbered [] = tt
counted_renumbered ((k, d) ∷ w) = (sym (length-renumber w), counted_renumbered w)

counted_below : (w : World) (n : ℕ) → IsCounted w → length w ≤ n → NumbersBelow n w
counted_below [] n counted low = tt
counted_below ((k, d) ∷ w) n counted low = (omega (arith, counted.0, low), counted_below w n counted.1 (omega (arith, low)))

all_live_before : (g : ℕ → ℕ) → IsApart g → (u : World) (vs : List ℕ) → AreLive (renamed g u) (map g vs) → AreLive u vs
all_live_before g apart u [] live = tt
all_live_before g apart u (v ∷ vs) live = (live_before g apart u v live.0, all_live_before g apart u vs live.1)

-- a world is sound where it is under other numbers
sound_before : (g : ℕ → ℕ) → IsApart g → (u : World) → IsCounted u → IsSound (renamed g u) → IsSound u
sound_before g apart [] counted sound = tt
sound_before g apart ((k, d) ∷ u) counted sound =
    (counted_below u k counted.1 (omega (arith, counted.0)), allowed d sound.1, sound_before g apart u counted.1 sound.2)
  where
    allowed : (d : ArrayDef) → IsAllowed (renamed g u) (with_parent g d) → IsAllowed u d
    allowed (root ty ds es) h = h
    allowed (view p t) h = record {
      well_formed = h.well_formed;
      live = live_before g apart u p h.live;
      allowed = sym (view_refusal_renamed g apart (all_renamed g u) p t) ∙ h.allowed;
    }

-- what is held is seen in what is kept
live_kept : SweepsSoundly → ReachedAreSeenAsBefore → (w : World) → IsSound w → (hs vs : List ℕ) → ((v : ℕ) → is_listed vs v ≡ true → is_listed hs v ≡ true) → AreLive w vs → AreLive (sweep w hs) vs
live_kept sweeps seen w sound hs [] all_held live = tt
live_kept sweeps seen w sound hs (v ∷ vs) all_held live =
    let P : Option Look → Type 0 = λ o. IsSomeAnd o (λ l. Unit {0}) in
    let here : is_listed hs v ≡ true = all_held v (first_listed v vs) in (
      subst P (sym (seen w hs v sound (held_itself v here)).look_is) live.0,
      live_kept sweeps seen w sound hs vs (λ u t. all_held u (later_listed v u vs t)) live.1,
    )

-- a sweep that lets as many stay lets all stay
short_swept : (w : World) (hs : List ℕ) → length (sweep w hs) ≤ length w
short_swept [] hs = omega arith
short_swept ((k, d) ∷ w) hs = by_keeps (λ h. short_swept w h) (is_listed hs k)
  where
    by_keeps : ((h : List ℕ) → length (sweep w h) ≤ length w) → (keeps : Bool) → length (kept_onto keeps (k, d) (sweep w (if keeps then parents d ++ hs else hs))) ≤ suc (length w)
    by_keeps rest true = omega (arith, rest (parents d ++ hs))
    by_keeps rest false = omega (arith, rest hs)

all_swept : (w : World) (hs : List ℕ) → length w ≤ length (sweep w hs) → sweep w hs ≡ w
all_swept [] hs long = refl
all_swept ((k, d) ∷ w) hs long = by_keeps (λ h l. all_swept w h l) (is_listed hs k) long
  where
    by_keeps : ((h : List ℕ) → length w ≤ length (sweep w h) → sweep w h ≡ w) → (keeps : Bool)
        → suc (length w) ≤ length (kept_onto keeps (k, d) (sweep w (if keeps then parents d ++ hs else hs)))
        → kept_onto keeps (k, d) (sweep w (if keeps then parents d ++ hs else hs)) ≡ (k, d) ∷ w
    by_keeps rest true l = ap (λ (u : World). (k, d) ∷ u) (rest (parents d ++ hs) (omega (arith, l)))
    by_keeps rest false l = absurd (omega (arith, l, short_swept w hs))

-- and so of flows
short_flows : (w : World) (flows : Flows) (hs : List ℕ) → length (needs_of w flows hs).flows ≤ length flows
short_flows w [] hs = omega arith
short_flows w (f ∷ flows) hs = by_stays (short_flows w flows hs) (is_reached w (needs_of w flows hs).arrays f.root)
  where
    by_stays : length (needs_of w flows hs).flows ≤ length flows → (stays : Bool) → length (needs_with stays f (needs_of w flows hs)).flows ≤ suc (length flows)
    by_stays rest true = omega (arith, rest)
    by_stays rest false = omega (arith, rest)

all_stay : (w : World) (flows : Flows) (hs : List ℕ) → length flows ≤ length (needs_of w flows hs).flows → (needs_of w flows hs).flows ≡ flows
all_stay w [] hs long = refl
all_stay w (f ∷ flows) hs long = by_stays (all_stay w flows hs) (is_reached w (needs_of w flows hs).arrays f.root) long
  where
    by_stays : (length flows ≤ length (needs_of w flows hs).flows → (needs_of w flows hs).flows ≡ flows) → (stays : Bool)
        → suc (length flows) ≤ length (needs_with stays f (needs_of w flows hs)).flows → (needs_with stays f (needs_of w flows hs)).flows ≡ f ∷ flows
    by_stays rest true l = ap (λ (fs : Flows). f ∷ fs) (rest (omega (arith, l)))
    by_stays rest false l = absurd (omega (arith, l, short_flows w flows hs))

-- the tidied state has all that it had, and no more
tidied_swept : (s : State) → IsInOrder s → IsSwept (tidy s)
tidied_swept s order =
    let g = former_numbers s in
    let u : World = (tidy s).arrays.world in
    let hs : List ℕ = (needs (tidy s)).arrays in
    let h : StateAlike false g (tidy s) (settled s) = tidied_alike s order in
    let needs_are : (needs s).arrays ≡ map g hs = needs_before s order in
    let kept_is : kept s ≡ renamed g u = swept_is s order in
    let again : sweep (kept s) (needs s).arrays ≡ kept s = sweep_again s.arrays.world (needs s).arrays (needs s).arrays (λ v t. t) in
    let same : renamed g (sweep u hs) ≡ renamed g u =
    sym (sweep_renamed g (former_apart s order) (all_renamed g u) hs)
    ∙ ap (sweep (renamed g u)) (sym needs_are) ∙ ap (λ (w : World). sweep w (needs s).arrays) (sym kept_is) ∙ again ∙ kept_is in
    let flows : (needs s).flows ≡ map (flow_by g) (needs (tidy s)).flows =
    ap (λ (n : Needs). n.flows) (sym (needs_again s.arrays.world s.flows (held s)) ∙ needs_alike g (tidy s) (settled s) h) in
    let as_many : length (tidy s).flows ≡ length (needs (tidy s)).flows =
    sym (length-map (tidy s).flows (flow_by g)) ∙ ap (λ (fs : Flows). length fs) (sym h.flows ∙ flows) ∙ length-map (needs (tidy s)).flows (flow_by g) in
    record {
      arrays = all_swept u hs (omega (arith, sym (length-renamed g u) ∙ ap length (sym same) ∙ length-renamed g (sweep u hs)));
      flows = all_stay u (tidy s).flows (held (tidy s)) (omega (arith, as_many));
    }

-- the laws of the crates below
pub record Laws : Type 0 where
  pub sweeps : SweepsSoundly
  pub seen : ReachedAreSeenAsBefore

tidied_whole : Laws → (s : State) → IsWhole s → IsWhole (tidy s)
tidied_whole laws s whole =
    let order : IsInOrder s = in_order s whole in
    let g = former_numbers s in
    let apart : IsApart g = former_apart s order in
    let u : World = (tidy s).arrays.world in
    let counted : IsCounted u = counted_renumbered (kept s) in
    let kept_is : kept s ≡ renamed g u = swept_is s order in
    let held_is : held s ≡ map g (held (tidy s)) = held_alike g (tidy s) (settled s) (tidied_alike s order) in
    let P : List ℕ → Type 0 = λ hs. AreLive (renamed g u) hs in
    let Q : World → Type 0 = λ w. AreLive w (held s) in
    record {
      sound = sound_before g apart u counted (subst IsSound kept_is (laws.sweeps s.arrays.world (needs s).arrays whole.sound));
      below = counted_below u (length (kept s)) counted (omega (arith, length-renumber (kept s)));
      live = all_live_before g apart u (held (tidy s))
          (subst P held_is (subst Q kept_is (live_kept laws.sweeps laws.seen s.arrays.world whole.sound (needs s).arrays (held s) (held_needed s.arrays.world s.flows (held s)) whole.live)));
      flows = tidying_keeps_flows laws.seen s whole;
    }

pub tidied_are_dumpable : Laws → TidiedAreDumpable
tidied_are_dumpable laws s whole spelled = record {
  whole = tidied_whole laws s whole;
  swept = tidied_swept s (in_order s whole);
  numbered = record { next = sym (length-renumber (kept s)); world = renumber_again (kept s) };
  spelled = spelled;
}

pub numbers_are_unspelled : NumbersAreUnspelled
numbers_are_unspelled s swept spelled = record {
  names = names_before (older (kept s)) s.names.arrays spelled.names;
  kernels = spelled.kernels;
  few = spelled.few;
  views = subst ViewsAreWritable swept.arrays (writable_before (kept s) spelled.views);
}
