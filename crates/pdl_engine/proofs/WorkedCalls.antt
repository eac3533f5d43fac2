-- What each call leaves is as the scripts have it that are worked by hand.
use Rattle.std.proofs.Common.{◌≡◌, ℕ, ℤ, ◌+◌, ◌<◌, ◌≤◌, List, [], ◌∷◌, ◌++◌, true, false, Bool, cond, eqb, None, Some, Option, IsSomeAnd, All, refl, sym, ap, subst, ◌∙◌, inl, inr, arith, is_some, ◌⊎◌, length, map}
use Rattle.std.specs.Option.{option_map_or}
use Rattle.std.specs.Prelude.{◌≢◌, ◌==◌, is_none, not}
use Rattle.std.proofs.lemmas.Bool.{cases_Bool, eq-eqb, ne_eqb}
use Rattle.std.proofs.lemmas.Bool.Decides.{eqb_tells}
use Rattle.pdl_elem.specs.declared.Ty.{Ty}
use Rattle.pdl_elem.specs.declared.Ty.TheVariants.{Long}
use Rattle.pdl_numbers.specs.Typed.{count_moved}
use Rattle.pdl_shape.specs.Shape.{size_of}
use Rattle.pdl_world.specs.BaseLaws.{AssignmentsLeaveBases, ReachedKeepBases}
use Rattle.pdl_world.specs.Cut.{fitted, replaced, reshape, sever as cut}
use Rattle.pdl_world.specs.Laws.{LiveLieBelow, LooksStay, NewIsLive, OlderStay}
use Rattle.pdl_world.specs.Paths.{path, root_of}
use Rattle.pdl_world.specs.Sound.{IsLive, IsSound}
use Rattle.pdl_world.specs.SweepLaws.{KeptWereReached, ReachedAreSeenAsBefore}
use Rattle.pdl_world.specs.Swept.{Has, IsReached, is_listed, sweep}
use Rattle.pdl_world.specs.WindowLaws.{WindowsShowArrays}
use Rattle.pdl_world.specs.World.{World, ArrayDef, Look, assign as assigned, dims_in, elements, has_repeats, look, places_in, root, ty_in, view as seen_by}
use Rattle.pdl_world.specs.declared.Trans.{Trans}
use Rattle.pdl_nodes.specs.Staying.{stays_from}
use Rattle.pdl_push.specs.Targets.{target_of}
use Rattle.pdl_engine.specs.Held.{AreApart, ChangesFamily, FamilyIsSettled, IsReleased, count_at, held_among, holds_left, left_from, one_less_at, written_back}
use Rattle.pdl_engine.specs.Looks.{array_numbers}
use Rattle.pdl_engine.specs.Resting.{IsResting}
use Rattle.pdl_engine.specs.State.{State, AreWaiting, IsLazy, Joins, OthersWait, PathIsFresh, SameArrays, StayFresh, TargetIsFresh, TargetWaits, base, is_fresh, kept_back, ready_steps, target, waiting, waiting_at}
use Rattle.pdl_engine.specs.Worked.{Asks, Call, IsSpare, IsWorked, MayBeLent, assign, but_of, is_exact, is_lent, lent_beside, make, ready, release, reshape as reshaped, sever, state_after, stay_fresh, steps_of, view, with_root, with_settled}
use Rattle.pdl_engine.proofs.StatePending.{all_listed, apart_left, apart_then, append_first, append_second, but_kept, but_taken, filter_listed, listed_append, listed_filter, waits_here, waits_left, waits_there}
use Rattle.pdl_engine.proofs.WorldRootsSeen.{base_root, live_has, live_some, look_past, root_below, root_here, root_past, root_root, root_stays, seen_live, some_live, through_some, view_here}

-- what a call leaves, but for the steps: the arrays as in this state, and those can be lent that it lends
record Leaves (left : State) (stay : List ℕ) (new : State) : Type 0 where
  world_is : new.world ≡ left.world
  holds_are : new.holds ≡ left.holds
  next_is : new.next ≡ left.next
  waits : (v : ℕ) → IsLive new.world v → waiting new v ≡ waiting left v
  lent : (v : ℕ) → IsLive new.world v → is_lent stay left v ≡ true → is_fresh new v ≡ true

none_is : (o : Option ℕ) → is_none o ≡ true → o ≡ None
none_is None e = refl
none_is (Some x) e = let z : false ≡ true = e in absurd (cc)

-- an array can be lent where nothing waits and it is shown over its root, or where its base was left so
lent_by : (new left : State) (stay : List ℕ) (v : ℕ) → IsLazy new → new.world ≡ left.world → IsLive new.world v → waiting new v ≡ waiting left v
    → (is_listed stay (base left.world v) ≡ true → is_fresh new v ≡ true) → is_lent stay left v ≡ true → is_fresh new v ≡ true
lent_by new left stay v lazy same l w by h =
    let test : cond (eqb (base left.world v) (root_of left.world v)) (is_none (waiting left v)) (is_listed stay (base left.world v)) ≡ true = h in
    elim (eqb_tells (base left.world v) (root_of left.world v)) [
      | inl t ↦ (let none : is_none (waiting left v) ≡ true = rw t.0 at test in
          lazy.fresh_is v l ∙ ap (is_fresh new) (ap (λ x. base x v) same ∙ t.1 ∙ sym (ap (λ x. root_of x v) same)) ∙ lazy.lasts v l (w ∙ none_is (waiting left v) none))
      | inr t ↦ by (rw t.0 at test)
    ]

base_lent : (new : State) (w : World) (v : ℕ) → IsLazy new → new.world ≡ w → IsLive new.world v → is_fresh new (base w v) ≡ true → is_fresh new v ≡ true
base_lent new w v lazy same l f = lazy.fresh_is v l ∙ ap (is_fresh new) (ap (λ x. base x v) same) ∙ f

pub still_live : (w u : World) (v : ℕ) → look w v ≡ look u v → IsLive w v → IsLive u v
still_live w u v same l = subst (λ o. IsSomeAnd o (λ (x : Look). Unit {0})) same l

pub in_world : (w u : World) (v : ℕ) → w ≡ u → IsLive w v → IsLive u v
in_world w u v same l = still_live w u v (ap (λ x. look x v) same) l

same_waits : (new left : State) (v : ℕ) → new.world ≡ left.world → new.pending ≡ left.pending → waiting new v ≡ waiting left v
same_waits new left v w p = ap (λ x. waiting_at x (root_of new.world v)) p ∙ ap (λ x. waiting_at left.pending (root_of x v)) w

-- the arrays of a sound world are its numbers
pub numbers_live : NewIsLive → OlderStay → (w : World) (v : ℕ) → IsSound w → is_listed (array_numbers w) v ≡ true → IsLive w v
numbers_live newest older [] v s h = let z : false ≡ true = h in absurd (cc)
numbers_live newest older ((k, d) ∷ w) v s h = elim (listed_append (array_numbers w) (k ∷ []) v h) [
  | inl i ↦ (let l : IsLive w v = numbers_live newest older w v s.2 i in still_live w ((k, d) ∷ w) v (sym (older w k v d s.0 l)) l)
  | inr i ↦ elim (eqb_tells k v) [
    | inl e ↦ subst (λ x. IsLive ((k, d) ∷ w) x) e.1 (newest w k d s.1)
    | inr e ↦ (let z : false ≡ true = rw e.0 at i in absurd (cc))
  ]
]

pub live_numbers : (w : World) (v : ℕ) → IsLive w v → is_listed (array_numbers w) v ≡ true
live_numbers w v l = (let there : (d : ArrayDef) × Has w v d = live_has w v l in has_number w v there.0 there.1) where
  has_number : (w : World) (v : ℕ) (d : ArrayDef) → Has w v d → is_listed (array_numbers w) v ≡ true
  has_number [] v d h = absurd h
  has_number ((k, e) ∷ w) v d (inl same) = append_second (array_numbers w) (k ∷ []) v (rw (eq-eqb k v same.0) refl)
  has_number ((k, e) ∷ w) v d (inr i) = append_first (array_numbers w) (k ∷ []) v (has_number w v d i)

-- where something waits in the family of an array, and where it is shown over its root, no more can be lent
only_by : (new left : State) (stay : List ℕ) (v : ℕ) → IsLazy new → new.world ≡ left.world → IsLive new.world v → waiting new v ≡ waiting left v
    → ((b : ℕ) → waiting new v ≡ Some b → is_listed stay b ≡ true) → is_fresh new v ≡ true → is_lent stay left v ≡ false → IsSpare left v
only_by new left stay v lazy same l w by f h = from (waiting left v) refl where
  test : cond (eqb (base left.world v) (root_of left.world v)) (is_none (waiting left v)) (is_listed stay (base left.world v)) ≡ false
  test = h

  from : (o : Option ℕ) → waiting left v ≡ o → IsSpare left v
  from None e = (λ q. (let z : true ≡ false = rw (eq-eqb (base left.world v) (root_of left.world v) q, e) at test in absurd (cc)), e)
  from (Some b) e =
      let here : waiting new v ≡ Some b = w ∙ e in
      let a : AreWaiting new v b = lazy.waits v b l here in
      let over : base left.world v ≡ b = ap (λ x. base x v) (sym same) ∙ a.only v l refl f in
      elim (eqb_tells (base left.world v) (root_of left.world v)) [
        | inl t ↦ absurd (a.view (sym over ∙ t.1 ∙ ap (λ x. root_of x v) (sym same)))
        | inr t ↦ (let none : is_listed stay (base left.world v) ≡ false = rw t.0 at test in
            let z : true ≡ false = sym (by b here) ∙ ap (is_listed stay) (sym over) ∙ none in absurd (cc))
      ]

-- a call that leaves the engine so is worked
worked_of : NewIsLive → OlderStay → (old new : State) (c : Call) (before after : ℕ) → Asks old c → IsSound new.world → AreApart (map (λ p. p.0) (state_after old c).pending) → Leaves (state_after old c) (stay_fresh old c) new
    → ((v : ℕ) → IsLive new.world v → is_fresh new v ≡ true → is_lent (stay_fresh old c) (state_after old c) v ≡ false → MayBeLent old c v)
    → after ≤ before + steps_of old c → (is_exact old c ≡ true → after ≡ before + steps_of old c) → IsWorked old c new before after
worked_of newest older old new c before after asks sound once l only most exact =
    let left : State = state_after old c in
    let stay : List ℕ = stay_fresh old c in
    record {
      asked = asks;
      left = record {
        world_is = l.world_is;
        holds_are = l.holds_are;
        next_is = l.next_is;
        once = once;
        waits = l.waits;
        lent = λ v f. (let two : (is_listed (array_numbers left.world) v ≡ true) × (is_lent stay left v ≡ true) = listed_filter (is_lent stay left) (array_numbers left.world) v f in
            l.lent v (numbers_live newest older new.world v sound (subst (λ (x : World). is_listed (array_numbers x) v ≡ true) (sym l.world_is) two.0)) two.1);
      };
      only = λ v g f. elim (cases_Bool (is_lent stay left v)) [
        | inl y ↦ inl (filter_listed (is_lent stay left) (array_numbers left.world) v (subst (λ (x : World). is_listed (array_numbers x) v ≡ true) l.world_is (live_numbers new.world v g)) y)
        | inr n ↦ inr (only v g f n)
      ];
      counted = most;
      exact = exact;
    }

not_some : (b : ℕ) → None ≡ Some b → ⊥
not_some b e = let z : false ≡ true = ap is_some e in absurd (cc)

-- what is left waited
left_was : (t : ℕ → Bool) (o : Option ℕ) (b : ℕ) → stays_from t o ≡ Some b → o ≡ Some b
left_was t None b e = e
left_was t (Some v) b e = elim (cases_Bool (t v)) [ inl y ↦ rw y at e | inr y ↦ absurd (not_some b (rw y at e)) ]

unlike : (a b : ℕ) → not (a == b) ≡ true → a ≡ b → ⊥
unlike a b n e = let z : false ≡ true = sym (ap not (eq-eqb a b e)) ∙ n in absurd (cc)

-- those that can be lent and have another root
beside_listed : (s : State) (w : World) (r b : ℕ) → is_fresh s b ≡ true → (root_of w b ≡ r → ⊥) → is_listed (lent_beside s w r) b ≡ true
beside_listed s w r b f n = filter_listed (λ u. not (root_of w u == r)) s.fresh b f (ap not (ne_eqb (root_of w b) r n))

beside_is : (s : State) (w : World) (r b : ℕ) → is_listed (lent_beside s w r) b ≡ true → (is_fresh s b ≡ true) × (root_of w b ≡ r → ⊥)
beside_is s w r b i =
    let two : (is_listed s.fresh b ≡ true) × (not (root_of w b == r) ≡ true) = listed_filter (λ u. not (root_of w u == r)) s.fresh b i in
    (two.0, unlike (root_of w b) r two.1)

first_is : (k : ℕ) (ks : List ℕ) (b : ℕ) → k ≡ b → is_listed (k ∷ ks) b ≡ true
first_is k ks b e = rw (eq-eqb k b e) refl

pub later_is : (k : ℕ) (ks : List ℕ) (b : ℕ) → is_listed ks b ≡ true → is_listed (k ∷ ks) b ≡ true
later_is k ks b h = elim (eqb_tells k b) [ inl e ↦ rw e.0 refl | inr e ↦ rw e.0 h ]

-- what waits after an assignment is its target
kept_target : (w : World) (v b : ℕ) → kept_back w v ≡ Some b → target w v ≡ b
kept_target w v b e = elim (eqb_tells (target w v) (root_of w v)) [
  | inl t ↦ absurd (not_some b (rw t.0 at e))
  | inr t ↦ some_is (target w v) b (rw t.0 at e)
] where
  some_is : (x y : ℕ) → Some x ≡ Some y → x ≡ y
  some_is x y q = ap (λ o. option_map_or (λ (n : ℕ). n) o 0) q

-- nothing that waits is new: it is an older view, of an older family
waits_older : LiveLieBelow → (old new : State) (d : ArrayDef) → IsResting old → IsResting new → new.world ≡ (old.next, d) ∷ old.world → new.pending ≡ old.pending
    → ((v : ℕ) → IsLive new.world v → root_of new.world v ≡ root_of new.world old.next → waiting new v ≡ Some old.next → ⊥)
    → (v b : ℕ) → IsLive new.world v → waiting new v ≡ Some b → (is_fresh old b ≡ true) × (root_of new.world v ≡ old.next → ⊥)
waits_older below old new d o r same pending unlike v b l e =
    let w : World = (old.next, d) ∷ old.world in
    let sound : IsSound w = subst (λ (x : World). IsSound x) same r.sound in
    let a : AreWaiting new v b = r.lazy.waits v b l e in
    let not_new : old.next ≡ b → ⊥ = λ q. unlike v l (sym a.family ∙ ap (root_of new.world) (sym q)) (e ∙ ap Some (sym q)) in
    let live : IsLive old.world b = still_live w old.world b (look_past old.next d old.world b not_new) (in_world new.world w b same a.live) in
    let family : root_of old.world b ≡ root_of new.world v = sym (root_past old.next d old.world b not_new) ∙ ap (λ x. root_of x b) (sym same) ∙ a.family in
    let there : waiting old b ≡ Some b = ap (waiting_at old.pending) family ∙ ap (λ x. waiting_at x (root_of new.world v)) (sym pending) ∙ e in
    let seen : (x : Look) × (look old.world b ≡ Some x) = seen_live (look old.world b) live in
    let low : seen.0.root < old.next = root_below old.world old.next b seen.0 sound.0 seen.1 in
    let own : root_of old.world b ≡ seen.0.root = ap (λ o. option_map_or (λ (x : Look). x.root) o b) seen.1 in
    ((o.lazy.waits b b live there).fresh, λ q. (let z : ⊥ = omega (arith, low, own, family, q) in z))

none_there : (o : Option ℕ) → ((b : ℕ) → o ≡ Some b → ⊥) → o ≡ None
none_there None h = refl
none_there (Some b) h = absurd (h b refl)

pub made_so : NewIsLive → OlderStay → LiveLieBelow → (old new : State) (id before after : ℕ) (ds : List ℕ) (es : List ℤ) → IsResting old → IsResting new → Joins old id (root Long ds es) new → after ≡ before + count_moved es
    → IsWorked old (make ds es) new before after
made_so newest older below old new id before after ds es o r j e =
    let d : ArrayDef = root Long ds es in
    let w : World = (old.next, d) ∷ old.world in
    let left : State = state_after old (make ds es) in
    let same : new.world ≡ w = j.world ∙ ap (λ k. (k, d) ∷ old.world) j.number in
    let own : root_of new.world old.next ≡ old.next = ap (λ x. root_of x old.next) same ∙ ap (λ o. option_map_or (λ (x : Look). x.root) o old.next) (root_here old.next Long ds es old.world) in
    let known : (v b : ℕ) → IsLive new.world v → waiting new v ≡ Some b → (is_fresh old b ≡ true) × (root_of new.world v ≡ old.next → ⊥) =
    waits_older below old new d o r same j.pending (λ v l q t. (r.lazy.waits v old.next l t).view (sym own ∙ sym q)) in
    let waits : (v : ℕ) → IsLive new.world v → waiting new v ≡ waiting left v = λ v l.
    (let at : waiting new v ≡ waiting_at old.pending (root_of new.world v) = ap (λ x. waiting_at x (root_of new.world v)) j.pending in
    let there : waiting left v ≡ waiting_at left.pending (root_of new.world v) = ap (λ x. waiting_at left.pending (root_of x v)) (sym same) in
    elim (eqb_tells (root_of new.world v) old.next) [
      | inl t ↦ none_there (waiting new v) (λ b f. (known v b l f).1 t.1) ∙ sym (there ∙ but_taken old.pending old.next (root_of new.world v) t.1)
      | inr t ↦ at ∙ sym (there ∙ but_kept old.pending old.next (root_of new.world v) t.1)
    ]) in
    worked_of newest older old new (make ds es) before after tt r.sound (apart_left (λ p. not (p.0 == old.next)) old.pending o.once)
    (record {
      world_is = same;
      holds_are = j.holds ∙ ap (λ k. (k, 1) ∷ old.holds) j.number;
      next_is = j.next;
      waits = waits;
      lent = λ v l h. lent_by new left old.fresh v r.lazy same l (waits v l) (λ f. base_lent new w v r.lazy same l (j.stay (base w v) f)) h;
    })
    (λ v l f h. only_by new left old.fresh v r.lazy same l (waits v l) (λ b t. (known v b l t).0) f h) (omega (arith, e)) (λ x. e)

pub viewed_so : NewIsLive → OlderStay → LiveLieBelow → (old new : State) (id p before : ℕ) (t : Trans) → IsResting old → IsResting new → IsLive old.world p → Joins old id (seen_by p t) new → IsWorked old (view p t) new before before
viewed_so newest older below old new id p before t o r lp j =
    let d : ArrayDef = seen_by p t in
    let w : World = (old.next, d) ∷ old.world in
    let left : State = state_after old (view p t) in
    let same : new.world ≡ w = j.world ∙ ap (λ k. (k, d) ∷ old.world) j.number in
    let sound : IsSound w = subst (λ (x : World). IsSound x) same r.sound in
    let seen : (m : Look) × (look w old.next ≡ Some m) = seen_live (look w old.next) (newest old.world old.next d sound.1) in
    let up : (x : Look) × (look old.world p ≡ Some x) × (seen.0.root ≡ x.root) = through_some t (look old.world p) seen.0 (sym (view_here old.next p t old.world) ∙ seen.1) in
    let own : root_of new.world old.next ≡ root_of old.world p =
    ap (λ x. root_of x old.next) same ∙ ap (λ o. option_map_or (λ (x : Look). x.root) o old.next) seen.1 ∙ up.2 ∙ sym (ap (λ o. option_map_or (λ (x : Look). x.root) o p) up.1) in
    let known : (v b : ℕ) → IsLive new.world v → waiting new v ≡ Some b → (is_fresh old b ≡ true) × (root_of new.world v ≡ old.next → ⊥) =
    waits_older below old new d o r same j.pending
    (λ v l q f. (let there : waiting old p ≡ Some old.next = ap (waiting_at old.pending) (sym own ∙ sym q) ∙ ap (λ x. waiting_at x (root_of new.world v)) (sym j.pending) ∙ f in
    let low : old.next < old.next = below old.world old.next old.next sound.0 ((o.lazy.waits p old.next lp there).live) in let z : ⊥ = omega (arith, low) in z)) in
    let waits : (v : ℕ) → IsLive new.world v → waiting new v ≡ waiting left v = λ v l. same_waits new left v same j.pending in
    worked_of newest older old new (view p t) before before lp r.sound o.once
    (record {
      world_is = same;
      holds_are = j.holds ∙ ap (λ k. (k, 1) ∷ old.holds) j.number;
      next_is = j.next;
      waits = waits;
      lent = λ v l h. lent_by new left old.fresh v r.lazy same l (waits v l) (λ f. base_lent new w v r.lazy same l (j.stay (base w v) f)) h;
    })
    (λ v l f h. only_by new left old.fresh v r.lazy same l (waits v l) (λ b t. (known v b l t).0) f h) (omega arith) (λ x. omega arith)

pub readied_so : NewIsLive → OlderStay → (old new : State) (v before after : ℕ) → IsResting old → IsResting new → IsLive old.world v → SameArrays old new → StayFresh old new → PathIsFresh new v → waiting new v ≡ None → OthersWait old v new → after ≤ before + ready_steps old v
    → IsWorked old (ready v) new before after
readied_so newest older old new v before after o r lv s stay fresh none others c =
    let left : State = with_settled old v in
    let waits : (u : ℕ) → IsLive new.world u → waiting new u ≡ waiting left u = λ u l. elim (eqb_tells (root_of old.world u) (root_of old.world v)) [
      | inl e ↦ (let one : root_of new.world u ≡ root_of new.world v = ap (λ x. root_of x u) s.world ∙ e.1 ∙ sym (ap (λ x. root_of x v) s.world) in
          ap (waiting_at new.pending) one ∙ none ∙ sym (but_taken old.pending (root_of old.world v) (root_of old.world u) e.1))
      | inr e ↦ others u (in_world new.world old.world u s.world l) e.1 ∙ sym (but_kept old.pending (root_of old.world v) (root_of old.world u) e.1)
    ] in
    worked_of newest older old new (ready v) before after lv r.sound (apart_left (λ p. not (p.0 == root_of old.world v)) old.pending o.once)
    (record {
      world_is = s.world;
      holds_are = s.holds;
      next_is = s.next;
      waits = waits;
      lent = λ u l h. lent_by new left (path old.world v ++ old.fresh) u r.lazy s.world l (waits u l)
          (λ f. base_lent new old.world u r.lazy s.world l (elim (listed_append (path old.world v) old.fresh (base old.world u) f) [
            | inl i ↦ all_listed (is_fresh new) (path old.world v) (base old.world u) (subst (λ x. All (λ y. is_fresh new y ≡ true) (path x v)) s.world fresh) i
            | inr i ↦ stay (base old.world u) i
          ])) h;
    })
    (λ u l f h. only_by new left (path old.world v ++ old.fresh) u r.lazy s.world l (waits u l)
    (λ b t. (let lu : IsLive old.world u = in_world new.world old.world u s.world l in
    elim (eqb_tells (root_of old.world u) (root_of old.world v)) [
      | inl e ↦ (let one : root_of new.world u ≡ root_of new.world v = ap (λ x. root_of x u) s.world ∙ e.1 ∙ sym (ap (λ x. root_of x v) s.world) in
          absurd (not_some b (sym none ∙ ap (waiting_at new.pending) (sym one) ∙ t)))
      | inr e ↦ append_second (path old.world v) old.fresh b ((o.lazy.waits u b lu (sym (others u lu e.1) ∙ t)).fresh)
    ])) f h) c (λ x. (let z : false ≡ true = x in absurd (cc)))

target_root : WindowsShowArrays → (s : State) (v : ℕ) → IsResting s → IsLive s.world v → root_of s.world (target s.world v) ≡ root_of s.world v
target_root shows s v r l = from (has_repeats (places_in s.world (base s.world v))) where
  from : (b : Bool) → root_of s.world (target_of b (root_of s.world v) (base s.world v)) ≡ root_of s.world v
  from true =
      let seen : (x : Look) × (look s.world v ≡ Some x) = seen_live (look s.world v) l in
      let own : root_of s.world v ≡ seen.0.root = ap (λ o. option_map_or (λ (x : Look). x.root) o v) seen.1 in
      ap (root_of s.world) own ∙ root_root s.world v seen.0 r.sound seen.1 ∙ sym own
  from false = base_root shows s.world v r.sound

pub assigned_so : NewIsLive → OlderStay → LooksStay → AssignmentsLeaveBases → WindowsShowArrays → (old new : State) (v before after : ℕ) (vs : List ℤ) → IsResting old → IsResting new → IsLive old.world v → new.world ≡ assigned old.world v vs
    → new.holds ≡ old.holds → new.next ≡ old.next → ((u : ℕ) → (root_of old.world u ≡ root_of old.world v → ⊥) → is_fresh old u ≡ true → is_fresh new u ≡ true) → TargetIsFresh old v new → TargetWaits old v new
    → after ≡ before + length vs → IsWorked old (assign v vs) new before after
assigned_so newest older looks bases shows old new v before after vs o r lv same hs next apart target_fresh target_waits c =
    let left : State = state_after old (assign v vs) in
    let was : (u : ℕ) → IsLive new.world u → IsLive old.world u = λ u l. still_live new.world old.world u (ap (λ x. look x u) same ∙ looks old.world v u vs) l in
    let roots : (u : ℕ) → root_of (assigned old.world v vs) u ≡ root_of old.world u = λ u. ap (λ x. option_map_or (λ (y : Look). y.root) x u) (looks old.world v u vs) in
    let waits : (u : ℕ) → IsLive new.world u → waiting new u ≡ waiting left u = λ u l.
    (let told : waiting new u ≡ cond (eqb (root_of old.world u) (root_of old.world v)) (kept_back old.world v) (waiting old u) = target_waits u (was u l) in
    let at : waiting left u ≡ waiting_at left.pending (root_of old.world u) = ap (waiting_at left.pending) (roots u) in
    elim (eqb_tells (root_of old.world u) (root_of old.world v)) [
      | inl e ↦ (let here : waiting new u ≡ kept_back old.world v = rw e.0 at told in
          here ∙ sym (at ∙ waits_here (root_of old.world v) (root_of old.world u) (kept_back old.world v) (with_settled old v).pending e.1 (but_taken old.pending (root_of old.world v) (root_of old.world u) e.1)))
      | inr e ↦ (let there : waiting new u ≡ waiting old u = rw e.0 at told in
          there ∙ sym (at ∙ waits_there (root_of old.world v) (root_of old.world u) (kept_back old.world v) (with_settled old v).pending (λ q. e.1 (sym q)) ∙ but_kept old.pending (root_of old.world v) (root_of old.world u) e.1))
    ]) in
    worked_of newest older old new (assign v vs) before after lv r.sound (apart_then (root_of old.world v) (kept_back old.world v) old.pending o.once)
    (record {
      world_is = same;
      holds_are = hs;
      next_is = next;
      waits = waits;
      lent = λ u l h. lent_by new left (target old.world v ∷ lent_beside old old.world (root_of old.world v)) u r.lazy same l (waits u l)
          (λ f. (let one : base (assigned old.world v vs) u ≡ base old.world u = (bases old.world v u vs).base_is in
          elim (eqb_tells (target old.world v) (base (assigned old.world v vs) u)) [
            | inl e ↦ target_fresh u (was u l) (sym (base_root shows old.world u o.sound) ∙ ap (root_of old.world) (sym one ∙ sym e.1) ∙ target_root shows old v o lv) (sym one ∙ sym e.1)
            | inr e ↦ (let beside = beside_is old old.world (root_of old.world v) (base (assigned old.world v vs) u) (rw e.0 at f) in
                base_lent new (assigned old.world v vs) u r.lazy same l (apart (base (assigned old.world v vs) u) beside.1 beside.0))
          ])) h;
    })
    (λ u l f h. only_by new left (target old.world v ∷ lent_beside old old.world (root_of old.world v)) u r.lazy same l (waits u l)
    (λ b t. (let told : waiting new u ≡ cond (eqb (root_of old.world u) (root_of old.world v)) (kept_back old.world v) (waiting old u) = target_waits u (was u l) in
    elim (eqb_tells (root_of old.world u) (root_of old.world v)) [
      | inl e ↦ (let here : kept_back old.world v ≡ Some b = sym (rw e.0 at told) ∙ t in first_is (target old.world v) (lent_beside old old.world (root_of old.world v)) b (kept_target old.world v b here))
      | inr e ↦ (let there : waiting old u ≡ Some b = sym (rw e.0 at told) ∙ t in
          let a : AreWaiting old u b = o.lazy.waits u b (was u l) there in
          later_is (target old.world v) (lent_beside old old.world (root_of old.world v)) b (beside_listed old old.world (root_of old.world v) b a.fresh (λ q. e.1 (sym a.family ∙ q))))
    ])) f h) (omega (arith, c)) (λ x. c)

-- the same arrays are held, so the same are there
held_live : (old new : State) (u : ℕ) → IsResting old → IsResting new → new.holds ≡ old.holds → IsLive new.world u → IsLive old.world u
held_live old new u o r h l =
    live_some (look old.world u) (sym (o.holders u) ∙ ap (λ x. is_listed (map (λ p. p.0) x) u) (sym h) ∙ r.holders u ∙ some_live (look new.world u) l)

-- an array that becomes a root, by a cut or by other dimensions
rooted_so : (old new : State) (v : ℕ) (ty : Ty) (ds : List ℕ) (es : List ℤ) → IsResting old → IsResting new → IsLive old.world v → new.world ≡ replaced old.world v (root ty ds es)
    → ChangesFamily old v new → FamilyIsSettled old v new
    → Leaves (with_root old v (replaced old.world v (root ty ds es))) (lent_beside old (replaced old.world v (root ty ds es)) v) new
    × ((u : ℕ) → IsLive new.world u → is_fresh new u ≡ true → is_lent (lent_beside old (replaced old.world v (root ty ds es)) v) (with_root old v (replaced old.world v (root ty ds es))) u ≡ false
    → IsSpare (with_root old v (replaced old.world v (root ty ds es))) u)
rooted_so old new v ty ds es o r lv same f settled =
    let w : World = replaced old.world v (root ty ds es) in
    let left : State = with_root old v w in
    let was : (u : ℕ) → IsLive new.world u → IsLive old.world u = λ u l. held_live old new u o r f.holds l in
    let but : List (ℕ × ℕ) = but_of (root_of old.world v) old.pending in
    let waits : (u : ℕ) → IsLive new.world u → waiting new u ≡ waiting left u = λ u l.
    (let before_is : (x : Look) × (look old.world u ≡ Some x) = seen_live (look old.world u) (was u l) in
    let after_is : (x : Look) × (look w u ≡ Some x) = seen_live (look w u) (in_world new.world w u same l) in
    let own : root_of old.world u ≡ before_is.0.root = root_seen old.world u before_is.0 before_is.1 in
    let now : root_of w u ≡ after_is.0.root = root_seen w u after_is.0 after_is.1 in
    let kept : (after_is.0.root ≡ before_is.0.root) ⊎ ((after_is.0.root ≡ v) × (before_is.0.root ≡ root_of old.world v)) = root_stays old.world v ty ds es u before_is.0 after_is.0 o.sound before_is.1 after_is.1 in
    elim (eqb_tells (root_of old.world u) (root_of old.world v)) [
      | inl e ↦ settled u (was u l) e.1 ∙ sym (elim kept [
        | inl k ↦ none_of but v (root_of w u) (but_taken old.pending (root_of old.world v) (root_of w u) (now ∙ k ∙ sym own ∙ e.1))
        | inr k ↦ but_taken but v (root_of w u) (now ∙ k.0)
      ])
      | inr e ↦ f.waits u (was u l) e.1 ∙ sym (elim kept [
        | inl k ↦ (let at : root_of w u ≡ root_of old.world u = now ∙ k ∙ sym own in
            let apart : root_of old.world u ≢ v = λ q. e.1 (sym (ap (root_of old.world) own ∙ root_root old.world u before_is.0 o.sound before_is.1 ∙ sym own) ∙ ap (root_of old.world) q) in
            ap (waiting_at left.pending) at ∙ but_kept but v (root_of old.world u) apart ∙ but_kept old.pending (root_of old.world v) (root_of old.world u) e.1)
        | inr k ↦ absurd (e.1 (own ∙ k.1))
      ])
    ]) in (
      record {
        world_is = same;
        holds_are = f.holds;
        next_is = f.next;
        waits = waits;
        lent = λ u l h. lent_by new left (lent_beside old w v) u r.lazy same l (waits u l)
            (λ g. (let beside = beside_is old w v (base w u) g in
            base_lent new w u r.lazy same l (f.others (base w u) (o.live (base w u) beside.0) (λ q. beside.1 (ap (λ x. root_of x (base w u)) (sym same) ∙ q)) beside.0))) h;
      },
      λ u l g h. only_by new left (lent_beside old w v) u r.lazy same l (waits u l)
          (λ b t. elim (eqb_tells (root_of old.world u) (root_of old.world v)) [
            | inl e ↦ absurd (not_some b (sym (settled u (was u l) e.1) ∙ t))
            | inr e ↦ (let a : AreWaiting old u b = o.lazy.waits u b (was u l) (sym (f.waits u (was u l) e.1) ∙ t) in
                let there : IsLive w b = in_world new.world w b same (held_live new old b r o (sym f.holds) a.live) in
                beside_listed old w v b a.fresh (apart_stays b a.live there (λ q. e.1 (sym a.family ∙ q))))
          ]) g h,
    )
  where
    root_seen : (x : World) (u : ℕ) (l : Look) → look x u ≡ Some l → root_of x u ≡ l.root
    root_seen x u l e = ap (λ o. option_map_or (λ (y : Look). y.root) o u) e

    none_of : (ps : List (ℕ × ℕ)) (q r : ℕ) → waiting_at ps r ≡ None → waiting_at (but_of q ps) r ≡ None
    none_of ps q r e = elim (eqb_tells r q) [ inl t ↦ but_taken ps q r t.1 | inr t ↦ but_kept ps q r t.1 ∙ e ]

    -- what was of another family has another root still
    apart_stays : (u : ℕ) → IsLive old.world u → IsLive (replaced old.world v (root ty ds es)) u → (root_of old.world u ≡ root_of old.world v → ⊥) → root_of (replaced old.world v (root ty ds es)) u ≡ v → ⊥
    apart_stays u before now n q =
        let w : World = replaced old.world v (root ty ds es) in
        let before_is : (x : Look) × (look old.world u ≡ Some x) = seen_live (look old.world u) before in
        let now_is : (x : Look) × (look w u ≡ Some x) = seen_live (look w u) now in
        let own : root_of old.world u ≡ before_is.0.root = root_seen old.world u before_is.0 before_is.1 in
        let at : root_of w u ≡ now_is.0.root = root_seen w u now_is.0 now_is.1 in
        elim (root_stays old.world v ty ds es u before_is.0 now_is.0 o.sound before_is.1 now_is.1) [
          | inl k ↦ n (sym (ap (root_of old.world) own ∙ root_root old.world u before_is.0 o.sound before_is.1 ∙ sym own) ∙ ap (root_of old.world) (own ∙ sym k ∙ sym at ∙ q))
          | inr k ↦ n (own ∙ k.1)
        ]

-- of the views of an array that becomes a root those can be lent whose base it is
none_spare : (s : State) (v u : ℕ) (b : Bool) → root_of s.world u ≡ v → IsSpare s u → b ≡ (base s.world u == v) → b ≡ true → ⊥
none_spare s v u b at spare is h = spare.0 (elim (eqb_tells (base s.world u) v) [
  | inl t ↦ t.1 ∙ sym at
  | inr t ↦ (let z : true ≡ false = sym h ∙ is ∙ t.0 in absurd (cc))
])

pub reshaped_so : NewIsLive → OlderStay → (old new : State) (v before after : ℕ) (ds : List ℕ) → IsResting old → IsResting new → IsLive old.world v → new.world ≡ reshape old.world v ds → ChangesFamily old v new → FamilyIsSettled old v new
    → ((u : ℕ) → IsLive old.world u → root_of new.world u ≡ v → is_fresh new u ≡ (base new.world u == v)) → after ≤ before + (ready_steps old v + size_of ds) → IsWorked old (reshaped v ds) new before after
reshaped_so newest older old new v before after ds o r l same f settled outdated c =
    let left : State = state_after old (reshaped v ds) in
    let beside : List ℕ = lent_beside old (reshape old.world v ds) v in
    let two : Leaves left beside new × ((u : ℕ) → IsLive new.world u → is_fresh new u ≡ true → is_lent beside left u ≡ false → IsSpare left u) =
    rooted_so old new v (ty_in old.world v) ds (fitted (size_of ds) (elements old.world v)) o r l same f settled in
    worked_of newest older old new (reshaped v ds) before after l r.sound (apart_left (λ p. not (p.0 == v)) (but_of (root_of old.world v) old.pending) (apart_left (λ p. not (p.0 == root_of old.world v)) old.pending o.once)) two.0
    (λ u g h e. (let spare : IsSpare left u = two.1 u g h e in (
      spare,
      λ q. none_spare left v u (is_fresh new u) q spare
          (outdated u (held_live old new u o r f.holds g) (ap (λ x. root_of x u) same ∙ q) ∙ ap (λ x. base x u == v) same) h,
    )))
    c (λ x. (let z : false ≡ true = x in absurd (cc)))

pub severed_so : NewIsLive → OlderStay → (old new : State) (v before after : ℕ) → IsResting old → IsResting new → IsLive old.world v → (root_of old.world v ≡ v → new ≡ old) → (root_of old.world v ≡ v → after ≡ before) → new.world ≡ cut old.world v
    → ChangesFamily old v new → (root_of old.world v ≢ v → FamilyIsSettled old v new) → (root_of old.world v ≢ v → (u : ℕ) → IsLive old.world u → root_of new.world u ≡ v → is_fresh new u ≡ (base new.world u == v)) → after ≤ before + (ready_steps old v + size_of (dims_in old.world v)) → IsWorked old (sever v) new before after
severed_so newest older old new v before after o r l uncut spent same f settled outdated c = elim (eqb_tells (root_of old.world v) v) [
  | inl t ↦ (let uncut_is : new ≡ old = uncut t.1 in
      let none : after ≡ before = spent t.1 in
      let stays : state_after old (sever v) ≡ old = rw t.0 refl in
      let all : stay_fresh old (sever v) ≡ old.fresh = rw t.0 refl in
      let few : steps_of old (sever v) ≡ 0 = rw t.0 refl in
      let waits : (u : ℕ) → IsLive new.world u → waiting new u ≡ waiting old u = λ u g. ap (λ s. waiting s u) uncut_is in
      let same_world : new.world ≡ old.world = ap (λ (s : State). s.world) uncut_is in
      worked_of newest older old new (sever v) before after l r.sound (subst (λ (s : State). AreApart (map (λ p. p.0) s.pending)) (sym stays) o.once)
      (subst (λ (s : State). Leaves s (stay_fresh old (sever v)) new) (sym stays) (subst (λ (xs : List ℕ). Leaves old xs new) (sym all) (record {
        world_is = same_world;
        holds_are = ap (λ (s : State). s.holds) uncut_is;
        next_is = ap (λ (s : State). s.next) uncut_is;
        waits = waits;
        lent = λ u g h. lent_by new old old.fresh u r.lazy same_world g (waits u g)
            (λ i. base_lent new old.world u r.lazy same_world g (ap (λ s. is_fresh s (base old.world u)) uncut_is ∙ i)) h;
      })))
      (λ u g h e. (
        subst (λ (s : State). IsSpare s u) (sym stays) (only_by new old old.fresh u r.lazy same_world g (waits u g) (λ b i. (o.lazy.waits u b (in_world new.world old.world u same_world g) (sym (waits u g) ∙ i)).fresh) h
            (subst (λ (s : State). is_lent old.fresh s u ≡ false) stays (subst (λ (xs : List ℕ). is_lent xs (state_after old (sever v)) u ≡ false) all e))),
        λ n. absurd (n t.1),
      ))
      (omega (arith, none)) (λ x. omega (arith, none, few)))
  | inr t ↦ (let w : World = cut old.world v in
      let cuts : state_after old (sever v) ≡ with_root old v w = rw t.0 refl in
      let beside : List ℕ = lent_beside old w v in
      let others_are : stay_fresh old (sever v) ≡ beside = rw t.0 refl in
      let most : steps_of old (sever v) ≡ ready_steps old v + size_of (dims_in old.world v) = rw t.0 refl in
      let two : Leaves (with_root old v w) beside new × ((u : ℕ) → IsLive new.world u → is_fresh new u ≡ true → is_lent beside (with_root old v w) u ≡ false → IsSpare (with_root old v w) u) =
      rooted_so old new v (ty_in old.world v) (dims_in old.world v) (elements old.world v) o r l same f (settled t.1) in
      worked_of newest older old new (sever v) before after l r.sound
      (subst (λ (s : State). AreApart (map (λ p. p.0) s.pending)) (sym cuts) (apart_left (λ p. not (p.0 == v)) (but_of (root_of old.world v) old.pending) (apart_left (λ p. not (p.0 == root_of old.world v)) old.pending o.once)))
      (subst (λ (s : State). Leaves s (stay_fresh old (sever v)) new) (sym cuts) (subst (λ (xs : List ℕ). Leaves (with_root old v w) xs new) (sym others_are) two.0))
      (λ u g h e. (let spare : IsSpare (with_root old v w) u = two.1 u g h
      (subst (λ (s : State). is_lent beside s u ≡ false) cuts (subst (λ (xs : List ℕ). is_lent xs (state_after old (sever v)) u ≡ false) others_are e)) in
      subst (λ (s : State). IsSpare s u × (root_of old.world v ≢ v → root_of s.world u ≢ v)) (sym cuts) (
        spare,
        λ n q. none_spare (with_root old v w) v u (is_fresh new u) q spare
            (outdated t.1 u (held_live old new u o r f.holds g) (ap (λ x. root_of x u) same ∙ q) ∙ ap (λ x. base x u == v) same) h,
      )))
      (omega (arith, c, most)) (λ x. (let z : false ≡ true = sym t.0 ∙ x in absurd (cc))))
]

pub released_so : NewIsLive → OlderStay → KeptWereReached → ReachedAreSeenAsBefore → ReachedKeepBases → (old new : State) (v before after : ℕ) → IsResting old → IsResting new → 0 < count_at old.holds v → IsReleased old v new → after ≡ before + written_back old new.world new.world
    → IsWorked old (release v) new before after
released_so newest older kept seen bases old new v before after o r asked i e =
    let held : List ℕ = held_among (one_less_at old.holds v) in
    let w : World = sweep old.world held in
    let left : State = state_after old (release v) in
    let reached : (u : ℕ) → IsLive new.world u → IsReached old.world held u = λ u l. (let there : (d : ArrayDef) × Has w u d = live_has w u (in_world new.world w u i.world l) in (kept old.world held u there.0 there.1).reached) in
    let looks : (u : ℕ) → IsLive new.world u → look w u ≡ look old.world u = λ u l. (seen old.world held u o.sound (reached u l)).look_is in
    let waits : (u : ℕ) → IsLive new.world u → waiting new u ≡ waiting left u = λ u l.
    (let at : root_of w u ≡ root_of old.world u = ap (λ x. option_map_or (λ (y : Look). y.root) x u) (looks u l) in
    i.waits u l ∙ ap (λ x. left_from x (waiting old u)) i.world ∙ sym (ap (waiting_at left.pending) at ∙ waits_left old.pending (root_of old.world u) (λ b. is_some (look w b)) o.once)) in
    let one : written_back old new.world new.world ≡ written_back old w w = ap (λ x. written_back old x x) i.world in
    worked_of newest older old new (release v) before after asked r.sound (apart_left (λ p. is_some (look w p.1)) old.pending o.once)
    (record {
      world_is = i.world;
      holds_are = i.holds ∙ ap (λ x. holds_left x (one_less_at old.holds v)) i.world;
      next_is = i.next;
      waits = waits;
      lent = λ u l h. lent_by new left old.fresh u r.lazy i.world l (waits u l)
          (λ f. (let was : IsLive old.world u = still_live w old.world u (looks u l) (in_world new.world w u i.world l) in
          i.stay u l (o.lazy.fresh_is u was ∙ ap (is_fresh old) (sym ((bases old.world held u o.sound (reached u l)).base_is)) ∙ f))) h;
    })
    (λ u l f h. only_by new left old.fresh u r.lazy i.world l (waits u l)
    (λ b t. (let was : IsLive old.world u = still_live w old.world u (looks u l) (in_world new.world w u i.world l) in
    (o.lazy.waits u b was (left_was (λ k. is_some (look new.world k)) (waiting old u) b (sym (i.waits u l) ∙ t))).fresh)) f h)
    (omega (arith, e, one)) (λ x. e ∙ ap (λ n. before + n) one)
