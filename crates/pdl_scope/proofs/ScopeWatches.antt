-- Arrays that watchers are attached to, and what watchers are to be told.
use Rattle.std.proofs.Common.{◌≡◌, ℕ, zero, suc, ◌+◌, ◌-◌, ◌<◌, ◌≤◌, Bool, true, false, List, [], ◌∷◌, ◌++◌, length, take, get_or, Option, Some, None, refl, sym, ap, ap₂, subst, ◌∙◌, arith, eqb-true}
use Rattle.std.specs.Prelude.{◌==◌, if◌then◌else◌, replicate, slice_set, IfSome, IsSome, Vec}
use Rattle.std.specs.Option.{option_to_list}
use Rattle.std.specs.Global.{Global}
use Rattle.std.proofs.lemmas.Bool.{true≢false}
use Rattle.std.proofs.lemmas.List.{length-append, length-replicate, length-set, map-append, take_more}
use Rattle.pdl_lemmas.specs.Tests.{by_test}
use Rattle.pdl_world.specs.World.{World}
use Rattle.pdl_world.specs.Sound.{IsLive}
use Rattle.pdl_world.specs.Swept.{is_listed}
use Rattle.pdl_world.specs.KeepingLaws.{MoreKeepAll}
use Rattle.pdl_engine.specs.HoldLaws.{OneMoreCounts}
use Rattle.pdl_engine.specs.Held.{AllHaveHolds, count_at, one_more_at, holders}
use Rattle.pdl_engine.specs.State.{State as Engine}
use Rattle.pdl_watch.specs.declared.notice.Notice.{Notice}
use Rattle.pdl_watch.specs.Slots.{lists_of}
use Rattle.pdl_machine.specs.Flows.{Flows}
use Rattle.pdl_machine.specs.Laws.{TrimmingAttachesTheSame}
use Rattle.pdl_machine.specs.Names.{Names}
use Rattle.pdl_machine.specs.State.{AreLive}
use Rattle.pdl_machine.specs.Watches.{Watches, watch_of, attached, padded, attach, entry_onto, trimmed, detach, notices, slot_notices}
use Rattle.pdl_scope.specs.Scope.{state_in, slots_limit, times, IsHeld}
use Rattle.pdl_scope.proofs.HoldingLemmas.{held_by, held_of, numbers, times_all, times_more, both_hold, held_by_both, all_live, some_live}

abbrev one_if : Bool → ℕ
one_if b = if b then 1 else 0

-- an array that is counted among live ones is live
live_counted : (w : World) (vs : List ℕ) (u : ℕ) → AreLive w vs → 0 < times vs u → IsLive w u
live_counted w [] u live some = absurd (omega arith)
live_counted w (v ∷ vs) u live some = by_test (v == u)
    (λ is. (let P : ℕ → Type 0 = IsLive w in subst P (eqb-true v u is) live.0))
    (λ other. live_counted w vs u live.1 (let t = rw other at some in omega arith))

-- slots that aren't attached attach no array
none_attached : (n : ℕ) → attached (replicate n None) ≡ []
none_attached zero = refl
none_attached (suc n) = none_attached n

pub attached_front : (ws more : Watches) → attached (ws ++ more) ≡ attached ws ++ attached more
attached_front [] more = refl
attached_front (None ∷ ws) more = attached_front ws more
attached_front (Some v ∷ ws) more = ap (λ vs. v ∷ vs) (attached_front ws more)

-- a list with entries for more slots attaches the same arrays, as often
padded_times : (ws : Watches) (count u : ℕ) → times (attached (padded ws count)) u ≡ times (attached ws) u
padded_times ws count u =
    let rest : Watches = replicate (count - length ws) None in
    let none : times (attached rest) u ≡ 0 = ap (λ vs. times vs u) (none_attached (count - length ws)) in
    let all = ap (λ vs. times vs u) (attached_front ws rest) ∙ times_more (attached ws) (attached rest) u in
    omega (arith, all, none)

-- a slot gets another entry: its array before is given up
times_set : (ws : Watches) (k u : ℕ) (o : Option ℕ) → k < length ws
    → times (attached (slice_set ws k o)) u + times (option_to_list (get_or ws k None)) u ≡ times (attached ws) u + times (option_to_list o) u
times_set [] k u o lt = absurd (omega arith)
times_set (None ∷ ws) zero u None lt = refl
times_set (None ∷ ws) zero u (Some v) lt = omega arith
times_set (Some w ∷ ws) zero u None lt = omega arith
times_set (Some w ∷ ws) zero u (Some v) lt = omega arith
times_set (None ∷ ws) (suc k) u o lt = times_set ws k u o (omega arith)
times_set (Some w ∷ ws) (suc k) u o lt = (let rest = times_set ws k u o (omega arith) in omega arith)

padded_long : (ws : Watches) (count : ℕ) → length (padded ws count) ≡ length ws + (count - length ws)
padded_long ws count =
    let a : length (padded ws count) ≡ length ws + length (replicate {A = Option ℕ} (count - length ws) None) = length-append ws (replicate (count - length ws) None) in
    let b : length (replicate {A = Option ℕ} (count - length ws) None) ≡ count - length ws = length-replicate (count - length ws) None in
    omega (arith, a, b)

none_at : (n k : ℕ) → get_or {A = Option ℕ} (replicate n None) k None ≡ None
none_at zero k = refl
none_at (suc n) zero = refl
none_at (suc n) (suc k) = none_at n k

-- a slot that isn't attached isn't attached in the longer list
padded_free : (ws : Watches) (n k : ℕ) → watch_of ws k ≡ None → watch_of (ws ++ replicate n None) k ≡ None
padded_free [] n k free = none_at n k
padded_free (w ∷ ws) n zero free = free
padded_free (w ∷ ws) n (suc k) free = padded_free ws n k free

-- one more array where a slot that isn't attached gets one
pub times_attached : (ws : Watches) (k v u : ℕ) → watch_of ws k ≡ None → times (attached (attach ws k v)) u ≡ times (attached ws) u + one_if (v == u)
times_attached ws k v u free =
    let long = padded_long ws (k + 1) in
    let within : k < length (padded ws (k + 1)) = omega (arith, long) in
    let set = times_set (padded ws (k + 1)) k u (Some v) within in
    let none : times (option_to_list (get_or (padded ws (k + 1)) k None)) u ≡ 0 = ap (λ o. times (option_to_list o) u) (padded_free ws (k + 1 - length ws) k free) in
    let same = padded_times ws (k + 1) u in
    omega (arith, set, none, same)

-- and one fewer where a slot isn't attached any more
pub times_detached : TrimmingAttachesTheSame → (ws : Watches) (k u : ℕ) → k < length ws → times (attached (detach ws k)) u + times (option_to_list (watch_of ws k)) u ≡ times (attached ws) u
times_detached same ws k u lt =
    let set = times_set ws k u None lt in
    let trim = ap (λ vs. times vs u) (same (slice_set ws k None)) in
    omega (arith, set, trim)

-- a list that is trimmed is a front of the list, so it is as short
entry_short : (w : Option ℕ) (ws : Watches) → length (entry_onto w ws) ≤ suc (length ws)
entry_short None [] = omega arith
entry_short None (u ∷ us) = omega arith
entry_short (Some v) ws = omega arith

trimmed_short : (ws : Watches) → length (trimmed ws) ≤ length ws
trimmed_short [] = omega arith
trimmed_short (w ∷ ws) = let e = entry_short w (trimmed ws) in let r = trimmed_short ws in omega arith

pub detached_short : (ws : Watches) (k : ℕ) → length (detach ws k) ≤ length ws
detached_short ws k =
    let t = trimmed_short (slice_set ws k None) in
    let l : length (slice_set ws k None) ≡ length ws = length-set ws k None in
    omega (arith, t, l)

-- the lists stay short
pub attached_long : (ws : Watches) (k v : ℕ) → k < slots_limit → length ws ≤ slots_limit → length (attach ws k v) ≤ slots_limit
attached_long ws k v small few =
    let a : length (attach ws k v) ≡ length (padded ws (k + 1)) = length-set (padded ws (k + 1)) k (Some v) in
    let b = padded_long ws (k + 1) in
    omega (arith, a, b)

-- slot k of a list is one of the first k + 1
pub attached_within : (ws : Watches) (k : ℕ) → IsSome (watch_of ws k) → k < length ws
attached_within [] k some = absurd (cc)
attached_within (w ∷ ws) zero some = omega arith
attached_within (w ∷ ws) (suc k) some = let rest = attached_within ws k some in omega arith

-- other watches, and others that leave, which hold what was held
held_moved : MoreKeepAll → (names : Names) (ws after : Watches) (fs : Flows) (e : Engine) (hs : List (ℕ × ℕ)) (leaving left : List ℕ) → IsHeld (state_in names ws fs e) e.holds leaving → length after ≤ slots_limit
    → ((u : ℕ) → count_at hs u ≡ times (held_by names after fs) u + times left u) → ((u : ℕ) → count_at e.holds u ≤ count_at hs u) → ((u : ℕ) → 0 < times (held_of names after) u → IsLive e.world u)
    → IsHeld (state_in names after fs e) hs left
held_moved keeping names ws after fs e hs leaving left h few counts least live = record {
  whole = record { sound = h.whole.sound; below = h.whole.below; live = all_live e.world (held_of names after) live; flows = h.whole.flows };
  few = h.few;
  slots = few;
  reads = h.reads;
  counts = counts;
  reached = keeping e.world (held_by names ws fs ++ leaving) (held_by names after fs ++ left)
      (λ u t. both_hold (held_by names after fs) left u (let some = held_by_both (held_by names ws fs) leaving u t in let b = h.counts u in let c = counts u in let l = least u in omega arith)) h.reached;
}

-- a slot is attached to an array, which is held once more
pub held_attached : OneMoreCounts → MoreKeepAll → (names : Names) (ws : Watches) (fs : Flows) (e : Engine) (k v : ℕ) (leaving : List ℕ) → AllHaveHolds e → IsHeld (state_in names ws fs e) e.holds leaving → IsLive e.world v
    → k < slots_limit → watch_of ws k ≡ None → IsHeld (state_in names (attach ws k v) fs e) (one_more_at e.holds v) leaving
held_attached one_more keeping names ws fs e k v leaving have h live small free =
    held_moved keeping names ws (attach ws k v) fs e (one_more_at e.holds v) leaving leaving h (attached_long ws k v small h.slots)
    (λ u. (let c = one_more e.holds v u known in let b = h.counts u in let m = more u in let x = times_all names ws fs u in let y = times_all names (attach ws k v) fs u in omega arith))
    (λ u. (let c = one_more e.holds v u known in omega arith))
    (λ u some. by_test (v == u)
    (λ is. (let P : ℕ → Type 0 = IsLive e.world in subst P (eqb-true v u is) live))
    (λ other. live_counted e.world (held_of names ws) u h.whole.live (let m = rw other at (more u) in omega arith)))
  where
    known : is_listed (holders e.holds) v ≡ true
    known = have v ∙ some_live e.world v live

    more : (u : ℕ) → times (held_of names (attach ws k v)) u ≡ times (held_of names ws) u + one_if (v == u)
    more u =
        let t = times_attached ws k v u free in
        let a = times_more (numbers names.arrays) (attached (attach ws k v)) u in
        let b = times_more (numbers names.arrays) (attached ws) u in
        omega (arith, t, a, b)

-- a slot isn't attached any more, and its array leaves
pub held_detached : TrimmingAttachesTheSame → MoreKeepAll → (names : Names) (ws : Watches) (fs : Flows) (e : Engine) (k : ℕ) (leaving : List ℕ) → IsHeld (state_in names ws fs e) e.holds leaving → k < length ws
    → IsHeld (state_in names (detach ws k) fs e) e.holds (leaving ++ option_to_list (watch_of ws k))
held_detached same keeping names ws fs e k leaving h lt =
    held_moved keeping names ws (detach ws k) fs e e.holds leaving (leaving ++ option_to_list (watch_of ws k)) h (let l = detached_short ws k in let few : length ws ≤ slots_limit = h.slots in omega arith)
    (λ u. (let b = h.counts u in let f = fewer u in let m = times_more leaving (option_to_list (watch_of ws k)) u in let x = times_all names ws fs u in let y = times_all names (detach ws k) fs u in omega arith))
    (λ u. omega arith)
    (λ u some. live_counted e.world (held_of names ws) u h.whole.live (let f = fewer u in omega arith))
  where
    fewer : (u : ℕ) → times (held_of names (detach ws k)) u + times (option_to_list (watch_of ws k)) u ≡ times (held_of names ws) u
    fewer u =
        let t = times_detached same ws k u lt in
        let a = times_more (numbers names.arrays) (attached (detach ws k)) u in
        let b = times_more (numbers names.arrays) (attached ws) u in
        omega (arith, t, a, b)

-- the arrays of watches are live among all that is held
pub live_back : (w : World) (vs us : List ℕ) → AreLive w (vs ++ us) → AreLive w us
live_back w [] us live = live
live_back w (v ∷ vs) us live = live_back w vs us live.1

-- and so is that of each slot
pub live_watch : (w : World) (ws : Watches) (k : ℕ) → AreLive w (attached ws) → IfSome (get_or ws k None) (IsLive w)
live_watch w [] k live = tt
live_watch w (None ∷ ws) zero live = tt
live_watch w (Some v ∷ ws) zero live = live.0
live_watch w (None ∷ ws) (suc k) live = live_watch w ws k live
live_watch w (Some v ∷ ws) (suc k) live = live_watch w ws k live.1

-- where no array is watched no slot is attached
pub none_watched : (ws : Watches) (k : ℕ) → attached ws ≡ [] → get_or ws k None ≡ None
none_watched [] k none = refl
none_watched (None ∷ ws) zero none = refl
none_watched (None ∷ ws) (suc k) none = none_watched ws k none
none_watched (Some v ∷ ws) k none = absurd (cc)

-- the entries up to the last one that attaches a slot, told by what stands behind them
pub trimmed_none : (ws : Watches) → ((k : ℕ) → k < length ws → get_or ws k None ≡ None) → trimmed ws ≡ []
trimmed_none [] none = refl
trimmed_none (w ∷ ws) none =
    ap (λ (o : Option ℕ). entry_onto o (trimmed ws)) (none 0 (omega arith))
    ∙ ap (entry_onto None) (trimmed_none ws (λ k lt. none (suc k) (omega arith)))

entry_some : (w : Option ℕ) (ws : Watches) → 0 < length ws → entry_onto w ws ≡ w ∷ ws
entry_some None [] some = absurd (omega arith)
entry_some None (u ∷ us) some = refl
entry_some (Some v) ws some = refl

pub trimmed_front : (ws : Watches) (count : ℕ) → count ≤ length ws → ((k : ℕ) → count ≤ k → k < length ws → get_or ws k None ≡ None)
    → ((n : ℕ) → count ≡ suc n → IsSome (get_or ws n None)) → trimmed ws ≡ take count ws
trimmed_front ws zero few none last = trimmed_none ws (λ k lt. none k (omega arith) lt)
trimmed_front [] (suc n) few none last = absurd (omega arith)
trimmed_front (None ∷ ws) (suc zero) few none last = absurd (true≢false (sym (last zero refl)))
trimmed_front (Some v ∷ ws) (suc zero) few none last =
    ap (λ (us : Watches). Some v ∷ us) (trimmed_none ws (λ k lt. none (suc k) (omega arith) (omega arith)))
trimmed_front (w ∷ ws) (suc (suc n)) few none last =
    let rest : trimmed ws ≡ take (suc n) ws = trimmed_front ws (suc n) (omega arith) (λ k from lt. none (suc k) (omega arith) (omega arith)) (λ m is. last (suc m) (ap suc is)) in
    let some : 0 < length (trimmed ws) = front_some ws n (omega arith) rest in
    entry_some w (trimmed ws) some ∙ ap (λ (us : Watches). w ∷ us) rest
  where
    front_some : (ws : Watches) (n : ℕ) → suc n ≤ length ws → trimmed ws ≡ take (suc n) ws → 0 < length (trimmed ws)
    front_some [] n long is = absurd (omega arith)
    front_some (w ∷ ws) n long is = let e : length (trimmed (w ∷ ws)) ≡ suc (length (take n ws)) = ap length is in omega (arith, e)

-- what one slot more is told
pub lists_more : (n : ℕ) (w new : World) (ws : Watches) (i : ℕ) (all : List (Vec Notice Global)) (told : Vec Notice Global) → i < length ws
    → lists_of all ≡ notices n w new (take i ws) → told.items ≡ slot_notices n w new (get_or ws i None) → lists_of (all ++ told ∷ []) ≡ notices n w new (take (i + 1) ws)
lists_more n w new ws i all told lt so_far one =
    map-append (λ (v : Vec Notice Global). v.items) all (told ∷ [])
    ∙ ap₂ (λ (xs ys : List (List Notice)). xs ++ ys) so_far (ap (λ (ns : List Notice). ns ∷ []) one)
    ∙ sym (map-append (slot_notices n w new) (take i ws) (get_or ws i None ∷ []))
    ∙ ap (notices n w new) (sym (take_more ws i None lt))
