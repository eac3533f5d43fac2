-- Whole scripts: an engine that is as a script has it stays so, call by call.
use Rattle.std.proofs.Common.{◌≡◌, ℕ, ℤ, ◌+◌, ◌<◌, ◌≤◌, List, [], ◌∷◌, ◌++◌, true, false, Bool, cond, eqb, None, Some, Option, IsSomeAnd, refl, sym, ap, subst, ◌∙◌, inl, inr, arith, is_some, ◌⊎◌, map}
use Rattle.std.specs.Option.{option_map_or}
use Rattle.std.specs.Prelude.{◌==◌, filter, is_none, not}
use Rattle.std.proofs.lemmas.Bool.{cases_Bool, eq-eqb}
use Rattle.std.proofs.lemmas.Bool.Decides.{eqb_tells}
use Rattle.std.proofs.lemmas.List.Sums.{sum_by-le-sum_by}
use Rattle.pdl_elem.specs.declared.Ty.{Ty}
use Rattle.pdl_elem.specs.declared.Ty.TheVariants.{Long}
use Rattle.pdl_shape.specs.Shape.{size_of}
use Rattle.pdl_world.specs.Cut.{fitted, replaced, reshape as reshaped, sever as cut}
use Rattle.pdl_world.specs.Laws.{LooksStay, NewIsLive, OlderStay}
use Rattle.pdl_world.specs.Paths.{path, root_of}
use Rattle.pdl_world.specs.Sound.{IsLive, IsSound}
use Rattle.pdl_world.specs.SweepLaws.{KeptWereReached, ReachedAreSeenAsBefore}
use Rattle.pdl_world.specs.Swept.{Has, IsReached, is_listed, sweep}
use Rattle.pdl_world.specs.World.{World, ArrayDef, Look, assign as assigned, dims_in, elements, look, look_of_root, root, ty_in, view as seen_by}
use Rattle.pdl_nodes.specs.Owed.{owed}
use Rattle.pdl_nodes.specs.Staying.{stays_from}
use Rattle.pdl_engine.specs.Held.{AreApart, gone_from, held_among, one_less_at, written_back}
use Rattle.pdl_engine.specs.Looks.{array_numbers}
use Rattle.pdl_engine.specs.Resting.{IsResting}
use Rattle.pdl_engine.specs.Runs.{Makes, ScriptsAreFollowed, state_at, steps_at}
use Rattle.pdl_engine.specs.State.{State, base, is_fresh, kept_back, outdated, outdated_at, ready_steps, target, waiting, waiting_at, waiting_size}
use Rattle.pdl_engine.specs.StateOf.{pending_onto}
use Rattle.pdl_engine.specs.Worked.{Asks, Call, IsAs, IsWorked, Line, after, assign, but_of, is_lent, lent_beside, lent_in, make, ready, release, reshape, sever, shows, state_after, state_then, stay_fresh, steps_of, view, with_root}
use Rattle.pdl_engine.proofs.StatePending.{append_first, append_second, apart_left, apart_then, but_kept, but_taken, filter_listed, listed_append, listed_filter, waits_here, waits_left, waits_there}
use Rattle.pdl_engine.proofs.WorldRootsSeen.{live_has, look_past, root_here, root_past, root_stays, seen_live, through_some, view_here}
use Rattle.pdl_engine.proofs.HoldLawUnwritten.{root_seen}
use Rattle.pdl_engine.proofs.WorkedCalls.{in_world, later_is, live_numbers, numbers_live, still_live}

-- the same arrays, of which others can be lent, and other lists of what waits
abbrev over : State → (fresh : List ℕ) → (pending : List (ℕ × ℕ)) → State
over s f q = record s { fresh = f; pending = q }

abbrev state_with : World → List ℕ → List (ℕ × ℕ) → List (ℕ × ℕ) → ℕ → State
state_with w f q h n = record { world = w; fresh = f; pending = q; holds = h; next = n }

is_over : (s e : State) → e.world ≡ s.world → e.holds ≡ s.holds → e.next ≡ s.next → over s e.fresh e.pending ≡ e
is_over s e w h n =
    ap (λ x. state_with x e.fresh e.pending s.holds s.next) (sym w)
    ∙ ap (λ x. state_with e.world e.fresh e.pending x s.next) (sym h)
    ∙ ap (λ x. state_with e.world e.fresh e.pending e.holds x) (sym n)

-- the lists of what waits say the same of these arrays
abbrev SameWaits : World → (ps qs : List (ℕ × ℕ)) → Type 0
SameWaits w ps qs = (v : ℕ) → IsLive w v → waiting_at qs (root_of w v) ≡ waiting_at ps (root_of w v)

-- each number of the first list is one of the second
abbrev Holds : (xs ys : List ℕ) → Type 0
Holds xs ys = (b : ℕ) → is_listed xs b ≡ true → is_listed ys b ≡ true

abbrev KeysApart : List (ℕ × ℕ) → Type 0
KeysApart ps = AreApart (map (λ p. p.0) ps)

-- where more is left to be lent, more can be
lent_more : (l : State) (q : List (ℕ × ℕ)) (f xs ys : List ℕ) (v : ℕ) → waiting_at q (root_of l.world v) ≡ waiting l v → Holds xs ys → is_lent xs l v ≡ true → is_lent ys (over l f q) v ≡ true
lent_more l q f xs ys v w more h =
    let test : cond (eqb (base l.world v) (root_of l.world v)) (is_none (waiting l v)) (is_listed xs (base l.world v)) ≡ true = h in
    elim (eqb_tells (base l.world v) (root_of l.world v)) [
      | inl t ↦ rw t.0 (ap is_none w ∙ (rw t.0 at test))
      | inr t ↦ rw t.0 (more (base l.world v) (rw t.0 at test))
    ]

more_of : NewIsLive → OlderStay → (l : State) (q : List (ℕ × ℕ)) (f xs ys : List ℕ) → IsSound l.world → KeysApart l.pending → SameWaits l.world l.pending q → Holds xs ys
    → IsAs (record l { fresh = lent_in xs l }) (record (over l f q) { fresh = lent_in ys (over l f q) })
more_of newest older l q f xs ys sound once same more = record {
  world_is = refl;
  holds_are = refl;
  next_is = refl;
  once = once;
  waits = same;
  lent = λ v h. (let two : (is_listed (array_numbers l.world) v ≡ true) × (is_lent xs l v ≡ true) = listed_filter (is_lent xs l) (array_numbers l.world) v h in
      filter_listed (is_lent ys (over l f q)) (array_numbers l.world) v two.0 (lent_more l q f xs ys v (same v (numbers_live newest older l.world v sound two.0)) more two.1));
}

-- what waits, but in one family
but_same : (ps qs : List (ℕ × ℕ)) (k r : ℕ) → waiting_at qs r ≡ waiting_at ps r → waiting_at (but_of k qs) r ≡ waiting_at (but_of k ps) r
but_same ps qs k r e = elim (eqb_tells r k) [
  | inl t ↦ but_taken qs k r t.1 ∙ sym (but_taken ps k r t.1)
  | inr t ↦ but_kept qs k r t.1 ∙ e ∙ sym (but_kept ps k r t.1)
]

-- one array more: an older one is as it was
older_waits : (w : World) (k v : ℕ) (d : ArrayDef) (ps qs : List (ℕ × ℕ)) → (k ≡ v → ⊥) → IsLive ((k, d) ∷ w) v → SameWaits w ps qs
    → waiting_at qs (root_of ((k, d) ∷ w) v) ≡ waiting_at ps (root_of ((k, d) ∷ w) v)
older_waits w k v d ps qs n l same =
    let at : root_of ((k, d) ∷ w) v ≡ root_of w v = root_past k d w v n in
    ap (waiting_at qs) at ∙ same v (still_live ((k, d) ∷ w) w v (look_past k d w v n) l) ∙ sym (ap (waiting_at ps) at)

-- an array that becomes a root
numbers_replaced : (w : World) (v : ℕ) (d : ArrayDef) → array_numbers (replaced w v d) ≡ array_numbers w
numbers_replaced [] v d = refl
numbers_replaced ((k, e) ∷ w) v d = ap (λ (xs : List ℕ). xs ++ k ∷ []) (numbers_replaced w v d)

rooted_waits : NewIsLive → OlderStay → (w : World) (v : ℕ) (ty : Ty) (ds : List ℕ) (es : List ℤ) (ps qs : List (ℕ × ℕ)) → IsSound w → SameWaits w ps qs
    → SameWaits (replaced w v (root ty ds es)) (but_of v (but_of (root_of w v) ps)) (but_of v (but_of (root_of w v) qs))
rooted_waits newest older w v ty ds es ps qs sound same u l =
    let new : World = replaced w v (root ty ds es) in
    let was : IsLive w u = numbers_live newest older w u sound (subst (λ (xs : List ℕ). is_listed xs u ≡ true) (numbers_replaced w v (root ty ds es)) (live_numbers new u l)) in
    let before : (x : Look) × (look w u ≡ Some x) = seen_live (look w u) was in
    let now : (x : Look) × (look new u ≡ Some x) = seen_live (look new u) l in
    let own : root_of w u ≡ before.0.root = ap (λ o. option_map_or (λ (y : Look). y.root) o u) before.1 in
    let at : root_of new u ≡ now.0.root = ap (λ o. option_map_or (λ (y : Look). y.root) o u) now.1 in
    elim (root_stays w v ty ds es u before.0 now.0 sound before.1 now.1) [
      | inl k ↦ (let one : root_of new u ≡ root_of w u = at ∙ k ∙ sym own in
          ap (waiting_at (but_of v (but_of (root_of w v) qs))) one
          ∙ but_same (but_of (root_of w v) ps) (but_of (root_of w v) qs) v (root_of w u) (but_same ps qs (root_of w v) (root_of w u) (same u was))
          ∙ sym (ap (waiting_at (but_of v (but_of (root_of w v) ps))) one))
      | inr k ↦ but_taken (but_of (root_of w v) qs) v (root_of new u) (at ∙ k.0) ∙ sym (but_taken (but_of (root_of w v) ps) v (root_of new u) (at ∙ k.0))
    ]

beside_more : (s : State) (w : World) (r : ℕ) (f : List ℕ) (q : List (ℕ × ℕ)) → Holds s.fresh f → Holds (lent_beside s w r) (lent_beside (over s f q) w r)
beside_more s w r f q more b h =
    let two : (is_listed s.fresh b ≡ true) × (not (root_of w b == r) ≡ true) = listed_filter (λ u. not (root_of w u == r)) s.fresh b h in
    filter_listed (λ u. not (root_of w u == r)) f b (more b two.0) two.1

either_first : (k : ℕ) (xs ys : List ℕ) → Holds xs ys → Holds (k ∷ xs) (k ∷ ys)
either_first k xs ys more b h = elim (eqb_tells k b) [ inl t ↦ rw t.0 refl | inr t ↦ rw t.0 (more b (rw t.0 at h)) ]

behind_more : (ks xs ys : List ℕ) → Holds xs ys → Holds (ks ++ xs) (ks ++ ys)
behind_more ks xs ys more b h = elim (listed_append ks xs b h) [ inl i ↦ append_first ks ys b i | inr i ↦ append_second ks ys b (more b i) ]

-- what the calls need of the world
record Facts : Type 0 where
  newest : NewIsLive
  older : OlderStay
  looks : LooksStay
  kept : KeptWereReached
  seen : ReachedAreSeenAsBefore

still_there : Facts → (w : World) (held : List ℕ) (u : ℕ) → IsSound w → IsLive (sweep w held) u → look (sweep w held) u ≡ look w u
still_there facts w held u sound l =
    let there : (d : ArrayDef) × Has (sweep w held) u d = live_has (sweep w held) u l in
    (facts.seen w held u sound (facts.kept w held u there.0 there.1).reached).look_is

root_by : (w x : World) (u : ℕ) → look w u ≡ look x u → root_of w u ≡ root_of x u
root_by w x u e = ap (λ o. option_map_or (λ (y : Look). y.root) o u) e

-- the script's state after a call, and the engine's as the script has it
then_more : Facts → (s : State) (f : List ℕ) (q : List (ℕ × ℕ)) (c : Call) → IsSound s.world → IsSound (state_after s c).world → KeysApart s.pending → KeysApart q → SameWaits s.world s.pending q → Holds s.fresh f
    → IsAs (state_then s c) (state_then (over s f q) c)
then_more facts s f q (make ds es) sound left_sound once apart same more =
    let w : World = (s.next, root Long ds es) ∷ s.world in
    more_of facts.newest facts.older (state_after s (make ds es)) (but_of s.next q) f s.fresh f left_sound (apart_left (λ p. not (p.0 == s.next)) s.pending once)
    (λ v l. elim (eqb_tells s.next v) [
      | inl t ↦ (let own : root_of w v ≡ s.next = ap (root_of w) (sym t.1) ∙ ap (λ o. option_map_or (λ (x : Look). x.root) o s.next) (root_here s.next Long ds es s.world) in
          but_taken q s.next (root_of w v) own ∙ sym (but_taken s.pending s.next (root_of w v) own))
      | inr t ↦ but_same s.pending q s.next (root_of w v) (older_waits s.world s.next v (root Long ds es) s.pending q t.1 l same)
    ]) more
then_more facts s f q (view p y) sound left_sound once apart same more =
    let w : World = (s.next, seen_by p y) ∷ s.world in
    more_of facts.newest facts.older (state_after s (view p y)) q f s.fresh f left_sound once
    (λ v l. elim (eqb_tells s.next v) [
      | inl t ↦ (let here : (m : Look) × (look w s.next ≡ Some m) = seen_live (look w s.next) (subst (λ x. IsLive w x) (sym t.1) l) in
          let up : (x : Look) × (look s.world p ≡ Some x) × (here.0.root ≡ x.root) = through_some y (look s.world p) here.0 (sym (view_here s.next p y s.world) ∙ here.1) in
          let own : root_of w v ≡ root_of s.world p = ap (root_of w) (sym t.1) ∙ ap (λ o. option_map_or (λ (x : Look). x.root) o s.next) here.1 ∙ up.2 ∙ sym (ap (λ o. option_map_or (λ (x : Look). x.root) o p) up.1) in
          let lp : IsLive s.world p = subst (λ o. IsSomeAnd o (λ (x : Look). Unit {0})) (sym up.1) tt in
          ap (waiting_at q) own ∙ same p lp ∙ sym (ap (waiting_at s.pending) own))
      | inr t ↦ older_waits s.world s.next v (seen_by p y) s.pending q t.1 l same
    ]) more
then_more facts s f q (ready v) sound left_sound once apart same more =
    more_of facts.newest facts.older (state_after s (ready v)) (but_of (root_of s.world v) q) f (path s.world v ++ s.fresh) (path s.world v ++ f) left_sound (apart_left (λ p. not (p.0 == root_of s.world v)) s.pending once)
    (λ u l. but_same s.pending q (root_of s.world v) (root_of s.world u) (same u l)) (behind_more (path s.world v) s.fresh f more)
then_more facts s f q (assign v vs) sound left_sound once apart same more =
    let w : World = assigned s.world v vs in
    let r : ℕ = root_of s.world v in
    let o : Option ℕ = kept_back s.world v in
    more_of facts.newest facts.older (state_after s (assign v vs)) (pending_onto r o (but_of r q)) f (target s.world v ∷ lent_beside s s.world r) (target s.world v ∷ lent_beside (over s f q) s.world r) left_sound (apart_then r o s.pending once)
    (λ u l. (let at : root_of w u ≡ root_of s.world u = root_by w s.world u (facts.looks s.world v u vs) in
    let was : IsLive s.world u = still_live w s.world u (facts.looks s.world v u vs) l in
    ap (waiting_at (pending_onto r o (but_of r q))) at
    ∙ elim (eqb_tells (root_of s.world u) r) [
      | inl e ↦ waits_here r (root_of s.world u) o (but_of r q) e.1 (but_taken q r (root_of s.world u) e.1)
          ∙ sym (waits_here r (root_of s.world u) o (but_of r s.pending) e.1 (but_taken s.pending r (root_of s.world u) e.1))
      | inr e ↦ waits_there r (root_of s.world u) o (but_of r q) (λ x. e.1 (sym x)) ∙ but_same s.pending q r (root_of s.world u) (same u was)
          ∙ sym (waits_there r (root_of s.world u) o (but_of r s.pending) (λ x. e.1 (sym x)))
    ]
    ∙ sym (ap (waiting_at (pending_onto r o (but_of r s.pending))) at)))
    (either_first (target s.world v) (lent_beside s s.world r) (lent_beside (over s f q) s.world r) (beside_more s s.world r f q more))
then_more facts s f q (sever v) sound left_sound once apart same more = elim (eqb_tells (root_of s.world v) v) [
  | inl t ↦ rw t.0 (more_of facts.newest facts.older s q f s.fresh f sound once same more)
  | inr t ↦ (let cut_sound : IsSound (cut s.world v) = rw t.0 at left_sound in
      rw t.0 (more_of facts.newest facts.older (with_root s v (cut s.world v)) (but_of v (but_of (root_of s.world v) q)) f (lent_beside s (cut s.world v) v) (lent_beside (over s f q) (cut s.world v) v) cut_sound
      (apart_left (λ p. not (p.0 == v)) (but_of (root_of s.world v) s.pending) (apart_left (λ p. not (p.0 == root_of s.world v)) s.pending once))
      (rooted_waits facts.newest facts.older s.world v (ty_in s.world v) (dims_in s.world v) (elements s.world v) s.pending q sound same) (beside_more s (cut s.world v) v f q more)))
]
then_more facts s f q (reshape v ds) sound left_sound once apart same more =
    more_of facts.newest facts.older (with_root s v (reshaped s.world v ds)) (but_of v (but_of (root_of s.world v) q)) f (lent_beside s (reshaped s.world v ds) v) (lent_beside (over s f q) (reshaped s.world v ds) v) left_sound
    (apart_left (λ p. not (p.0 == v)) (but_of (root_of s.world v) s.pending) (apart_left (λ p. not (p.0 == root_of s.world v)) s.pending once))
    (rooted_waits facts.newest facts.older s.world v (ty_in s.world v) ds (fitted (size_of ds) (elements s.world v)) s.pending q sound same) (beside_more s (reshaped s.world v ds) v f q more)
then_more facts s f q (release v) sound left_sound once apart same more =
    let held : List ℕ = held_among (one_less_at s.holds v) in
    let w : World = sweep s.world held in
    more_of facts.newest facts.older (state_after s (release v)) (filter (λ p. is_some (look w p.1)) q) f s.fresh f left_sound (apart_left (λ p. is_some (look w p.1)) s.pending once)
    (λ u l. (let same_look : look w u ≡ look s.world u = still_there facts s.world held u sound l in
    let at : root_of w u ≡ root_of s.world u = root_by w s.world u same_look in
    let was : IsLive s.world u = still_live w s.world u same_look l in
    waits_left q (root_of w u) (λ b. is_some (look w b)) apart
    ∙ ap (stays_from (λ b. is_some (look w b))) (ap (waiting_at q) at ∙ same u was ∙ sym (ap (waiting_at s.pending) at))
    ∙ sym (waits_left s.pending (root_of w u) (λ b. is_some (look w b)) once))) more

-- where more can be lent no call takes more steps
owed_less : (own top fresh more : Bool) (n : ℕ) → (fresh ≡ true → more ≡ true) → owed own top more n ≤ owed own top fresh n
owed_less false top fresh more n h = omega arith
owed_less true true fresh more n h = omega arith
owed_less true false true more n h = (let y : more ≡ true = h refl in rw y (omega arith))
owed_less true false false true n h = omega arith
owed_less true false false false n h = omega arith

ready_less : (s : State) (f : List ℕ) (q : List (ℕ × ℕ)) (v : ℕ) → IsLive s.world v → SameWaits s.world s.pending q → Holds s.fresh f → ready_steps (over s f q) v ≤ ready_steps s v
ready_less s f q v l same more =
    let few : outdated (over s f q) v ≤ outdated s v = sum_by-le-sum_by (outdated_at (over s f q)) (outdated_at s) (path s.world v)
    (λ u. owed_less (base s.world u == u) (root_of s.world u == u) (is_fresh s u) (is_listed f u) (size_of (dims_in s.world u)) (more u)) in
    let waits : waiting_size (over s f q) (waiting (over s f q) v) ≡ waiting_size s (waiting s v) = ap (waiting_size s) (same v l) in
    omega (arith, few, waits)

written_same : (s : State) (f : List ℕ) (q : List (ℕ × ℕ)) (new part : World) → ((k : ℕ) (ty : Ty) (ds : List ℕ) (es : List ℤ) → Has part k (root ty ds es) → waiting_at q k ≡ waiting_at s.pending k)
    → written_back (over s f q) new part ≡ written_back s new part
written_same s f q new [] h = refl
written_same s f q new ((k, root ty ds es) ∷ w) h =
    ap (λ o. waiting_size s (gone_from new o) + written_back (over s f q) new w) (h k ty ds es (inl (refl, refl)))
    ∙ ap (λ n. waiting_size s (gone_from new (waiting_at s.pending k)) + n) (written_same s f q new w (λ j t d e i. h j t d e (inr i)))
written_same s f q new ((k, seen_by p y) ∷ w) h = written_same s f q new w (λ j t d e i. h j t d e (inr i))

steps_less : Facts → (s : State) (f : List ℕ) (q : List (ℕ × ℕ)) (c : Call) → IsSound s.world → Asks s c → SameWaits s.world s.pending q → Holds s.fresh f → steps_of (over s f q) c ≤ steps_of s c
steps_less facts s f q (make ds es) sound asks same more = omega arith
steps_less facts s f q (view p y) sound asks same more = omega arith
steps_less facts s f q (ready v) sound asks same more = ready_less s f q v asks same more
steps_less facts s f q (assign v vs) sound asks same more = omega arith
steps_less facts s f q (sever v) sound asks same more = elim (eqb_tells (root_of s.world v) v) [
  | inl t ↦ rw t.0 (omega arith)
  | inr t ↦ rw t.0 (omega (arith, ready_less s f q v asks same more))
]
steps_less facts s f q (reshape v ds) sound asks same more = omega (arith, ready_less s f q v asks same more)
steps_less facts s f q (release v) sound asks same more =
    let held : List ℕ = held_among (one_less_at s.holds v) in
    let w : World = sweep s.world held in
    let one : written_back (over s f q) w w ≡ written_back s w w = written_same s f q w w
    (λ k ty ds es i. (let here : look s.world k ≡ Some (look_of_root k ty ds) = root_seen s.world k (root ty ds es) ty ds es sound (facts.kept s.world held k (root ty ds es) i).there refl in
    let own : root_of s.world k ≡ k = ap (λ o. option_map_or (λ (x : Look). x.root) o k) here in
    let l : IsLive s.world k = subst (λ o. IsSomeAnd o (λ (x : Look). Unit {0})) (sym here) tt in
    sym (ap (waiting_at q) own) ∙ same k l ∙ ap (waiting_at s.pending) own)) in
    omega (arith, one)

world_over : (s : State) (f : List ℕ) (q : List (ℕ × ℕ)) (c : Call) → (state_after (over s f q) c).world ≡ (state_after s c).world
world_over s f q (make ds es) = refl
world_over s f q (view p y) = refl
world_over s f q (ready v) = refl
world_over s f q (assign v vs) = refl
world_over s f q (sever v) = elim (cases_Bool (root_of s.world v == v)) [ inl y ↦ rw y refl | inr y ↦ rw y refl ]
world_over s f q (reshape v ds) = refl
world_over s f q (release v) = refl

-- an engine as the script has it, and one as the first
as_both : (a b c : State) → IsAs a b → IsAs b c → IsAs a c
as_both a b c i j = record {
  world_is = j.world_is ∙ i.world_is;
  holds_are = j.holds_are ∙ i.holds_are;
  next_is = j.next_is ∙ i.next_is;
  once = i.once;
  waits = λ v l. j.waits v l ∙ i.waits v (in_world c.world b.world v j.world_is l);
  lent = λ v f. j.lent v (i.lent v f);
}

one_call : Facts → (s old mid : State) (c : Call) (before so_far : ℕ) → IsResting old → IsResting mid → IsAs s old → IsWorked old c mid before so_far → IsAs (state_then s c) mid × (so_far ≤ before + steps_of s c)
one_call facts s old mid c before so_far o r i worked =
    (let same : over s old.fresh old.pending ≡ old = is_over s old i.world_is i.holds_are i.next_is in
    by same (subst (λ (x : World). IsSound x) i.world_is o.sound)
    (λ v l. (let at : IsLive old.world v = in_world s.world old.world v (sym i.world_is) l in
    ap (λ x. waiting_at old.pending (root_of x v)) (sym i.world_is) ∙ i.waits v at)) (λ b f. i.lent b f))
  where
    asks_over : (c : Call) → Asks (over s old.fresh old.pending) c → Asks s c
    asks_over (make ds es) a = a
    asks_over (view p y) a = a
    asks_over (ready v) a = a
    asks_over (assign v vs) a = a
    asks_over (sever v) a = a
    asks_over (reshape v ds) a = a
    asks_over (release v) a = a

    by : over s old.fresh old.pending ≡ old → IsSound s.world → SameWaits s.world s.pending old.pending → Holds s.fresh old.fresh → IsAs (state_then s c) mid × (so_far ≤ before + steps_of s c)
    by same sound waits more =
        let w : IsWorked (over s old.fresh old.pending) c mid before so_far = subst (λ (x : State). IsWorked x c mid before so_far) (sym same) worked in
        let after_sound : IsSound (state_after s c).world = subst (λ (x : World). IsSound x) (w.left.world_is ∙ world_over s old.fresh old.pending c) r.sound in
        let few : steps_of (over s old.fresh old.pending) c ≤ steps_of s c = steps_less facts s old.fresh old.pending c sound (asks_over c w.asked) waits more in
        (as_both (state_then s c) (state_then (over s old.fresh old.pending) c) mid (then_more facts s old.fresh old.pending c sound after_sound i.once o.once waits more) w.left, omega (arith, few, w.counted))

pub followed : NewIsLive → OlderStay → LooksStay → KeptWereReached → ReachedAreSeenAsBefore → ScriptsAreFollowed
followed newest older looks kept seen = all where
  facts : Facts
  facts = record { newest = newest; older = older; looks = looks; kept = kept; seen = seen }

  all : ScriptsAreFollowed
  all [] s old new before steps o i m = (subst (λ (x : State). IsAs s x) (sym m.0) i, omega (arith, m.1))
  all (after c lent waits n ∷ lines) s old new before steps o i m =
      let one : IsAs (state_then s c) m.0 × (m.1 ≤ before + steps_of s c) = one_call facts s old m.0 c before m.1 o m.2 i m.3 in
      let rest : IsAs (state_at (state_then s c) lines) new × (steps ≤ m.1 + steps_at (state_then s c) lines) = all lines (state_then s c) m.0 new m.1 steps m.2 one.0 m.4 in
      (rest.0, omega (arith, one.1, rest.1))
  all (shows v es ∷ lines) s old new before steps o i m = all lines s old new before steps o i m
