-- How often arrays are held.
use Rattle.std.proofs.Common.{◌≡◌, ℕ, ℤ, suc, ◌+◌, ◌<◌, ◌≤◌, Bool, true, false, List, [], ◌∷◌, ◌++◌, length, map, drop, get_or, Option, Some, None, inl, inr, refl, sym, ap, subst, ◌∙◌, arith, eqb-true, eq-eqb}
use Rattle.std.specs.Prelude.{◌==◌, if◌then◌else◌, IsSomeAnd, is_some, is_none, not, nat_lt, nat_eq, Ok, Err}
use Rattle.std.specs.Cmp.Lexicographic.{pointwise}
use Rattle.std.specs.Option.{option_to_list}
use Rattle.std.proofs.lemmas.List.{append-nil, drop_all, drop_more}
use Rattle.std.proofs.lemmas.Bool.{cases_lt}
use Rattle.std.proofs.lemmas.Bool.Decides.{nat_tests}
use Rattle.pdl_lemmas.specs.Tests.{by_test}
use Rattle.pdl_world.specs.World.{World, ArrayDef, Look, root, view, look, assign}
use Rattle.pdl_world.specs.Sound.{NumbersBelow, IsSound, IsLive}
use Rattle.pdl_world.specs.KeepingLaws.{NewestKeepsAll, MoreKeepAll, AssignsKeepAll}
use Rattle.pdl_world.specs.Swept.{is_listed, parents, sweep, held_itself, KeepsAll}
use Rattle.pdl_world.specs.SweepLaws.{ReachedAreSeenAsBefore, NoNumberComes}
use Rattle.pdl_engine.specs.HoldLaws.{OneMoreCounts, OneLessCounts, StayingCount, CountedAreHeld, HeldAreCounted, OthersDontCount}
use Rattle.pdl_engine.specs.Held.{AllHaveHolds, AreApart, count_at, one_more_at, one_less_at, held_among, holders, IsReleased}
use Rattle.pdl_engine.specs.State.{State as Engine, Joins, SameArrays}
use Rattle.pdl_machine.specs.Names.{KernelTexts, Named, Names, found, with_name, is_full_for, entered, names_limit}
use Rattle.pdl_machine.specs.declared.fault.Fault.TheVariants.{TooManyNames}
use Rattle.pdl_machine.specs.Laws.{SweepsByFewer}
use Rattle.pdl_machine.specs.Flows.{Flows, all_read}
use Rattle.pdl_machine.specs.State.{State, AreLive, IsWhole}
use Rattle.pdl_machine.specs.Watches.{Watches, attached}
use Rattle.pdl_scope.specs.Scope.{state_in, names_in, slots_limit, times, IsHeld}
use Rattle.pdl_scope.proofs.ScopeNames.{live_bound, bound_is, length_after, whole_defined}
use Rattle.pdl_scope.proofs.ScopeGrowing.{came, readied}
use Rattle.pdl_scope.specs.Holding.{AreHeld, IsHeldForName, SameButHolds, LetsGo}
use Rattle.pdl_scope.proofs.FlowingStays.{GrowthLaws}

-- the arrays of names
abbrev pub numbers : Named ℕ → List ℕ
numbers names = map (λ n. n.1) names

-- the arrays of names, and those of watches
abbrev pub held_of : Names → Watches → List ℕ
held_of names ws = numbers names.arrays ++ attached ws

-- and those that formulas read
abbrev pub held_by : Names → Watches → Flows → List ℕ
held_by names ws fs = held_of names ws ++ all_read fs

-- there are at most as many as slots
attached_few : (ws : Watches) → length (attached ws) ≤ length ws
attached_few [] = omega arith
attached_few (None ∷ ws) = (let rest = attached_few ws in omega arith)
attached_few (Some v ∷ ws) = (let rest = attached_few ws in omega arith)

-- as many as the names
pub numbers_count : (names : Named ℕ) → length (numbers names) ≡ length names
numbers_count [] = refl
numbers_count (n ∷ names) = ap suc (numbers_count names)

abbrev one_if : Bool → ℕ
one_if b = if b then 1 else 0

pub times_more : (xs ys : List ℕ) (v : ℕ) → times (xs ++ ys) v ≡ times xs v + times ys v
times_more [] ys v = omega arith
times_more (x ∷ xs) ys v = let rest = times_more xs ys v in omega arith

-- of all that is held
pub times_all : (names : Names) (ws : Watches) (fs : Flows) (v : ℕ) → times (held_by names ws fs) v ≡ times (held_of names ws) v + times (all_read fs) v
times_all names ws fs v = times_more (held_of names ws) (all_read fs) v

pub times_few : (xs : List ℕ) (v : ℕ) → times xs v ≤ length xs
times_few [] v = omega arith
times_few (x ∷ xs) v = by_test (x == v)
    (λ is. rw is (let rest = times_few xs v in omega arith))
    (λ other. rw other (let rest = times_few xs v in omega arith))

-- what stands in a list is held by it
times_held : (vs : List ℕ) (v : ℕ) → 0 < times vs v → is_listed vs v ≡ true
times_held [] v some = absurd (omega arith)
times_held (u ∷ vs) v some = by_test (u == v) (λ is. rw is refl) (λ other. let s : 0 < times vs v = (let t = rw other at some in omega arith) in rw other (times_held vs v s))

-- what is in a list is there at least once
pub held_times : (vs : List ℕ) (v : ℕ) → is_listed vs v ≡ true → 0 < times vs v
held_times [] v h = cc
held_times (u ∷ vs) v h = by_test (u == v) (λ is. rw is (omega arith)) (λ other. rw other (let rest : 0 < times vs v = held_times vs v (rw other at h) in omega arith))

-- two lists together hold what stands in one of them
pub both_hold : (vs us : List ℕ) (v : ℕ) → 0 < times vs v + times us v → is_listed (vs ++ us) v ≡ true
both_hold vs us v some = times_held (vs ++ us) v (let m = times_more vs us v in omega arith)

pub held_by_both : (vs us : List ℕ) (v : ℕ) → is_listed (vs ++ us) v ≡ true → 0 < times vs v + times us v
held_by_both vs us v h = let t = held_times (vs ++ us) v h in let m = times_more vs us v in omega arith

-- what keeps all, and more, keeps all
more_held : (d : ArrayDef) (many : List ℕ) (v : ℕ) → is_listed many v ≡ true → is_listed (parents d ++ many) v ≡ true
more_held (root ty ds es) many v t = t
more_held (view p u) many v t = by_test (p == v) (λ same. rw same refl) (λ other. rw other t)

-- the same arrays have holds after one hold less
holders_less : (hs : List (ℕ × ℕ)) (v : ℕ) → holders (one_less_at hs v) ≡ holders hs
holders_less [] v = refl
holders_less ((k, n) ∷ hs) v = ap (λ ks. k ∷ ks) (holders_less hs v)

-- looks
pub some_live : (w : World) (v : ℕ) → IsLive w v → is_some (look w v) ≡ true
some_live w v live = by_look (look w v) live
  where
    by_look : (o : Option Look) → IsSomeAnd o (λ l. Unit {0}) → is_some o ≡ true
    by_look None l = absurd l
    by_look (Some x) l = refl

pub live_some : (w : World) (v : ℕ) → is_some (look w v) ≡ true → IsLive w v
live_some w v some = by_look (look w v) some
  where
    by_look : (o : Option Look) → is_some o ≡ true → IsSomeAnd o (λ l. Unit {0})
    by_look None l = cc
    by_look (Some x) l = tt

look_past : (k : ℕ) (d : ArrayDef) (w : World) (v : ℕ) → (k == v) ≡ false → look ((k, d) ∷ w) v ≡ look w v
look_past k (root ty ds es) w v other = rw other refl
look_past k (view p t) w v other = rw other refl

-- no array is there under a number that all are below
unlooked : (w : World) (n v : ℕ) → NumbersBelow n w → n ≤ v → look w v ≡ None
unlooked [] n v b past = refl
unlooked ((k, d) ∷ w) n v b past =
    let other : (k == v) ≡ false = by_test (k == v) (λ same. let e : k ≡ v = eqb-true k v same in let low : k < n = b.0 in absurd (omega arith)) (λ f. f) in
    look_past k d w v other ∙ unlooked w n v b.1 past

-- all arrays of names are live where each that is counted is
pub all_live : (w : World) (vs : List ℕ) → ((v : ℕ) → 0 < times vs v → IsLive w v) → AreLive w vs
all_live w [] h = tt
all_live w (v ∷ vs) h =
    let self : (v == v) ≡ true = eq-eqb v v refl in
    (h v (rw self (omega arith)), all_live w vs (λ u some. h u (by_test (v == u) (λ is. rw is (omega arith)) (λ other. rw other (omega arith)))))

-- what is counted has holds
pub counted_known : OthersDontCount → (hs : List (ℕ × ℕ)) (v : ℕ) → 0 < count_at hs v → is_listed (holders hs) v ≡ true
counted_known others hs v some = by_test (is_listed (holders hs) v) (λ t. t) (λ f. absurd (let none = others hs v f in omega arith))

-- a new array is noted
pub held_new : GrowthLaws → OthersDontCount → NewestKeepsAll → MoreKeepAll → (names : Names) (ws : Watches) (fs : Flows) (e t : Engine) (d : ArrayDef) (id : ℕ) (leaving left : List ℕ) → AllHaveHolds e → IsHeld (state_in names ws fs e) e.holds leaving → Joins e id d t → IsSound t.world → left ≡ leaving ++ id ∷ []
    → IsHeld (state_in names ws fs t) t.holds left
held_new growth others newest more names ws fs e t d id leaving left have h j sound noted = record {
  whole = (came growth names ws fs e t d id h.whole j sound).whole;
  few = h.few;
  slots = h.slots;
  reads = h.reads;
  counts = λ v. (let C : List (ℕ × ℕ) → Type 0 = λ hs. count_at hs v ≡ times (held_by names ws fs) v + times left v in
      let L : List ℕ → Type 0 = λ vs. count_at ((id, 1) ∷ e.holds) v ≡ times (held_by names ws fs) v + times vs v in
      subst C (sym j.holds) (subst L (sym noted) (count v)));
  reached = (let W : World → Type 0 = λ w. KeepsAll w (held_by names ws fs ++ left) in
      let L : List ℕ → Type 0 = λ vs. KeepsAll ((id, d) ∷ e.world) (held_by names ws fs ++ vs) in
      subst W (sym j.world) (subst L (sym noted) kept));
}
  where
    after : List ℕ
    after = leaving ++ id ∷ []

    first_held : is_listed (held_by names ws fs ++ after) id ≡ true
    first_held =
        let self : (id == id) ≡ true = eq-eqb id id refl in
        let one : times (id ∷ []) id ≡ 1 = rw self refl in
        both_hold (held_by names ws fs) after id (let m = times_more leaving (id ∷ []) id in omega arith)

    still_held : (v : ℕ) → is_listed (held_by names ws fs ++ leaving) v ≡ true → is_listed (parents d ++ (held_by names ws fs ++ after)) v ≡ true
    still_held v t =
        let some = held_by_both (held_by names ws fs) leaving v t in
        more_held d (held_by names ws fs ++ after) v (both_hold (held_by names ws fs) after v (let m = times_more leaving (id ∷ []) v in omega arith))

    kept : KeepsAll ((id, d) ∷ e.world) (held_by names ws fs ++ after)
    kept = newest e.world id d (held_by names ws fs ++ after) first_held (more e.world (held_by names ws fs ++ leaving) (parents d ++ (held_by names ws fs ++ after)) still_held h.reached)

    count : (v : ℕ) → count_at ((id, 1) ∷ e.holds) v ≡ times (held_by names ws fs) v + times (leaving ++ id ∷ []) v
    count v = by_test (id == v)
        (λ is. let same : id ≡ v = eqb-true id v is in
        let none : look e.world v ≡ None = unlooked e.world e.next v h.whole.below (let number = j.number in omega arith) in
        let zero : count_at e.holds v ≡ 0 = others e.holds v (have v ∙ ap is_some none) in
        let added : times (leaving ++ id ∷ []) v ≡ times leaving v + 1 = times_more leaving (id ∷ []) v ∙ one is in
        let before = h.counts v in
        rw is (omega arith))
        (λ other. let added : times (leaving ++ id ∷ []) v ≡ times leaving v + 0 = times_more leaving (id ∷ []) v ∙ none other in
        let before = h.counts v in
        rw other (omega arith))
      where
        one : (id == v) ≡ true → times leaving v + times (id ∷ []) v ≡ times leaving v + 1
        one is = rw is refl

        none : (id == v) ≡ false → times leaving v + times (id ∷ []) v ≡ times leaving v + 0
        none other = rw other refl

-- the first that leaves is held
pub first_counted : (e : Engine) (staying : List ℕ) (v : ℕ) (vs : List ℕ) → AreHeld e staying (v ∷ vs) → 0 < count_at e.holds v
first_counted e staying v vs h =
    let self : (v == v) ≡ true = eq-eqb v v refl in
    let one : times (v ∷ vs) v ≡ 1 + times vs v = rw self refl in
    let c = h.counts v in
    omega arith

-- the laws of holds
pub record Laws : Type 0 where
  pub more : MoreKeepAll
  pub reached : ReachedAreSeenAsBefore
  pub numbered : NoNumberComes
  pub again : SweepsByFewer
  pub less : OneLessCounts
  pub staying : StayingCount
  pub held : CountedAreHeld
  pub counted : HeldAreCounted
  pub others : OthersDontCount

-- an array that leaves is let go
pub let_go_one : Laws → (staying : List ℕ) (e t : Engine) (v : ℕ) (vs : List ℕ) → AllHaveHolds e → AreApart (holders e.holds) → AreHeld e staying (v ∷ vs) → IsReleased e v t → IsSound t.world
    → LetsGo staying e t vs
let_go_one laws staying e t v vs have apart h r sound = record {
  is_held = record {
    sound = sound;
    below = subst (λ n. NumbersBelow n t.world) (sym r.next) (let B : World → Type 0 = NumbersBelow e.next in subst B (sym r.world) (laws.numbered e.world e.next many h.below));
    counts = count;
    reached = (let W : World → Type 0 = λ w. KeepsAll w (staying ++ vs) in
        subst W (sym r.world) (laws.more (sweep e.world many) many (staying ++ vs) left_held (laws.again e.world many many (λ u is. is))));
  };
  next = r.next;
  swept = ap (λ w. sweep w staying) r.world ∙ laws.again e.world many staying covers;
}
  where
    less : List (ℕ × ℕ)
    less = one_less_at e.holds v

    many : List ℕ
    many = held_among less

    counted : (u : ℕ) → count_at less u ≡ times (staying) u + times vs u
    counted u = let c = laws.less e.holds v u in let b = h.counts u in omega arith

    left_held : (u : ℕ) → is_listed many u ≡ true → is_listed (staying ++ vs) u ≡ true
    left_held u is =
        let A : List ℕ → Type 0 = AreApart in
        let some = laws.counted less u (subst A (sym (holders_less e.holds v)) apart) is in
        both_hold (staying) vs u (let c = counted u in omega arith)

    stays : (u : ℕ) → 0 < count_at less u → is_some (look t.world u) ≡ true
    stays u some =
        let c : 0 < count_at e.holds u = (let l = laws.less e.holds v u in omega arith) in
        let seen : look t.world u ≡ look e.world u = ap (λ w. look w u) r.world ∙ (laws.reached e.world many u h.sound (held_itself u (laws.held less u some))).look_is in
        ap is_some seen ∙ sym (have u) ∙ counted_known laws.others e.holds u c

    count : (u : ℕ) → count_at t.holds u ≡ times (staying) u + times vs u
    count u = ap (λ hs. count_at hs u) r.holds ∙ laws.staying (λ k. is_some (look t.world k)) less u ∙ left ∙ counted u
      where
        clash : is_some (look t.world u) ≡ true → is_some (look t.world u) ≡ false → ⊥
        clash a b = cc

        left : (if is_some (look t.world u) then count_at less u else 0) ≡ count_at less u
        left = by_test (is_some (look t.world u))
            (λ is. rw is refl)
            (λ goes. rw goes (elim (cases_lt 0 (count_at less u)) as (λ x. 0 ≡ count_at less u) [
              | inl some ↦ absurd (clash (stays u some) goes)
              | inr none ↦ omega arith
            ]))

    covers : (u : ℕ) → is_listed (staying) u ≡ true → is_listed many u ≡ true
    covers u is = laws.held less u (let n = held_times (staying) u is in let c = counted u in omega arith)

-- a name's array before is given up where the name gets another
names_times : (names : Named ℕ) (x : List ℕ) (v u : ℕ) → times (numbers (with_name names x v)) u + times (option_to_list (found names x)) u ≡ times (numbers names) u + one_if (v == u)
names_times [] x v u = omega arith
names_times (n ∷ names) x v u = by_name (pointwise nat_eq x n.0) (names_times names x v u)
  where
    by_name : (same : Bool) → times (numbers (with_name names x v)) u + times (option_to_list (found names x)) u ≡ times (numbers names) u + one_if (v == u)
        → times (numbers (if same then (n.0, v) ∷ names else n ∷ with_name names x v)) u + times (option_to_list (if same then Some n.1 else found names x)) u ≡ times (numbers (n ∷ names)) u + one_if (v == u)
    by_name true rest = omega arith
    by_name false rest = omega arith

-- and so among all that names, watches and formulas hold
held_times_bound : (names : Named ℕ) (kernels : Named KernelTexts) (ws : Watches) (fs : Flows) (x : List ℕ) (v u : ℕ)
    → times (held_by (names_in (with_name names x v) kernels) ws fs) u + times (option_to_list (found names x)) u ≡ times (held_by (names_in names kernels) ws fs) u + one_if (v == u)
held_times_bound names kernels ws fs x v u =
    let n = names_times names x v u in
    let a = times_more (numbers (with_name names x v)) (attached ws) u in
    let b = times_more (numbers names) (attached ws) u in
    let c = times_more (held_of (names_in (with_name names x v) kernels) ws) (all_read fs) u in
    let d = times_more (held_of (names_in names kernels) ws) (all_read fs) u in
    omega arith

-- a name is bound to an array, which is held for it
pub held_bound : OneMoreCounts → MoreKeepAll → (names : Named ℕ) (kernels : Named KernelTexts) (ws : Watches) (fs : Flows) (e t : Engine) (x : List ℕ) (v : ℕ) (leaving left : List ℕ) → AllHaveHolds e → IsHeld (state_in (names_in names kernels) ws fs e) e.holds leaving → IsLive e.world v
    → length (with_name names x v) ≤ names_limit → IsHeldForName e leaving v t left → IsHeld (state_in (names_in (with_name names x v) kernels) ws fs t) t.holds (left ++ option_to_list (found names x))
held_bound one_more keeping names kernels ws fs e t x v leaving left have h live few is = by_way is
  where
    gives_up : List ℕ
    gives_up = option_to_list (found names x)

    after : List ℕ
    after = left ++ gives_up

    before_all : List ℕ
    before_all = held_by (names_in names kernels) ws fs

    bound_all : List ℕ
    bound_all = held_by (names_in (with_name names x v) kernels) ws fs

    held_now : (hs : List (ℕ × ℕ)) → ((u : ℕ) → count_at e.holds u ≤ count_at hs u)
        → ((u : ℕ) → count_at hs u + times leaving u ≡ count_at e.holds u + times left u + one_if (v == u)) → IsHeld (state_in (names_in (with_name names x v) kernels) ws fs e) hs (left ++ gives_up)
    held_now hs least more = record {
      whole = record { sound = h.whole.sound; below = h.whole.below; live = live_bound e.world names (attached ws) x v h.whole.live live; flows = h.whole.flows };
      few = few;
      slots = h.slots;
      reads = h.reads;
      counts = counts;
      reached = keeping e.world (before_all ++ leaving) (bound_all ++ after)
          (λ u t. both_hold bound_all after u (let some = held_by_both before_all leaving u t in let b = h.counts u in let c = counts u in let l = least u in omega arith)) h.reached;
    }
      where
        counts : (u : ℕ) → count_at hs u ≡ times bound_all u + times after u
        counts u = let c = more u in let b = h.counts u in let n = held_times_bound names kernels ws fs x v u in let l = times_more left gives_up u in omega arith

    by_way : IsHeldForName e leaving v t left → IsHeld (state_in (names_in (with_name names x v) kernels) ws fs t) t.holds (left ++ gives_up)
    by_way (inl handed) =
        let E : Engine → Type 0 = λ y. IsHeld (state_in (names_in (with_name names x v) kernels) ws fs y) y.holds (left ++ gives_up) in
        let last : (u : ℕ) → times leaving u ≡ times left u + times (v ∷ []) u = λ u. ap (λ us. times us u) handed.1 ∙ times_more left (v ∷ []) u in
        subst E (sym handed.0) (held_now e.holds (λ u. omega arith) (λ u. (let l = last u in omega arith)))
    by_way (inr more) =
        let E : Engine → Type 0 = λ y. IsHeld (state_in (names_in (with_name names x v) kernels) ws fs y) y.holds (left ++ gives_up) in
        let known : is_listed (holders e.holds) v ≡ true = have v ∙ some_live e.world v live in
        subst E (sym more.0) (held_now (one_more_at e.holds v) (λ u. (let c = one_more e.holds v u known in omega arith)) (λ u. (let c = one_more e.holds v u known in let l = ap (λ us. times us u) more.1 in omega arith)))

-- an array that is held for a name is all that differs
pub same_but_holds : (e t : Engine) (v : ℕ) (leaving left : List ℕ) → IsHeldForName e leaving v t left → SameButHolds e t
same_but_holds e t v leaving left (inl handed) = let P : Engine → Type 0 = λ y. y ≡ record e { holds = y.holds } in subst P (sym handed.0) refl
same_but_holds e t v leaving left (inr more) = let P : Engine → Type 0 = λ y. y ≡ record e { holds = y.holds } in subst P (sym more.0) refl

-- there is room for one hold more
pub room_for : (names : Named ℕ) (kernels : Named KernelTexts) (ws : Watches) (fs : Flows) (e : Engine) (leaving : List ℕ) (v : ℕ) → IsHeld (state_in (names_in names kernels) ws fs e) e.holds leaving
    → count_at e.holds v ≤ names_limit + slots_limit + length (all_read fs) + length leaving
room_for names kernels ws fs e leaving v h =
    let b = h.counts v in
    let m = times_more (numbers names) (attached ws) v in
    let p = times_more (held_of (names_in names kernels) ws) (all_read fs) v in
    let n = times_few (numbers names) v in
    let a = times_few (attached ws) v in
    let r = times_few (all_read fs) v in
    let l = times_few leaving v in
    let c : length (numbers names) ≡ length names = numbers_count names in
    let f : length names ≤ names_limit = h.few in
    let d = attached_few ws in
    let g : length ws ≤ slots_limit = h.slots in
    omega arith

-- nothing was let go yet
pub lets_go_refl : (staying : List ℕ) (e : Engine) (vs : List ℕ) → AreHeld e staying vs → LetsGo staying e e (drop 0 vs)
lets_go_refl staying e vs h = record { is_held = h; next = refl; swept = refl }

-- the next one is held
pub next_counted : (old e : Engine) (vs : List ℕ) (i : ℕ) (staying : List ℕ) → i < length vs → LetsGo staying old e (drop i vs) → 0 < count_at e.holds (get_or vs i 0)
next_counted old e vs i staying lt l =
    let P : List ℕ → Type 0 = λ us. AreHeld e staying us in
    first_counted e staying (get_or vs i 0) (drop (i + 1) vs) (subst P (drop_more vs i 0 lt) l.is_held)

-- and is let go
pub lets_go_more : Laws → (staying : List ℕ) (old e t : Engine) (vs : List ℕ) (i : ℕ) → i < length vs → AllHaveHolds e → AreApart (holders e.holds) → LetsGo staying old e (drop i vs) → IsReleased e (get_or vs i 0) t → IsSound t.world
    → LetsGo staying old t (drop (i + 1) vs)
lets_go_more laws staying old e t vs i lt have apart l r sound =
    let P : List ℕ → Type 0 = λ us. AreHeld e staying us in
    let one : LetsGo staying e t (drop (i + 1) vs) = let_go_one laws staying e t (get_or vs i 0) (drop (i + 1) vs) have apart (subst P (drop_more vs i 0 lt) l.is_held) r sound in
    record { is_held = one.is_held; next = one.next ∙ l.next; swept = one.swept ∙ l.swept }

pub all_let_go : (staying : List ℕ) (old e : Engine) (vs : List ℕ) (i : ℕ) → length vs ≤ i → LetsGo staying old e (drop i vs) → LetsGo staying old e []
all_let_go staying old e vs i past l = let P : List ℕ → Type 0 = λ us. LetsGo staying old e us in subst P (drop_all i vs past) l

-- and nothing is left but what the others reach
pub all_gone : (staying : List ℕ) (old new : Engine) → LetsGo staying old new [] → new.world ≡ sweep old.world staying
all_gone staying old new l =
    let K : List ℕ → Type 0 = λ us. KeepsAll new.world us in
    sym (subst K (append-nil staying) l.is_held.reached) ∙ l.swept

-- so many names are bound at most
pub few_bound : (names after : Named ℕ) (x : List ℕ) (v : ℕ) → entered names_limit TooManyNames names x v ≡ Ok after → length names ≤ names_limit → length after ≤ names_limit
few_bound names after x v h few =
    let P : Named ℕ → Type 0 = λ ns. length ns ≤ names_limit in
    subst P (sym (bound_is names_limit TooManyNames names after x v h)) (by_test (is_full_for names_limit names x)
    (λ full. absurd (refused full))
    (λ free. fits (is_none (found names x)) refl free))
  where
    refused : is_full_for names_limit names x ≡ true → ⊥
    refused full = let e : Err TooManyNames ≡ Ok after = rw full at h in cc

    fits : (new : Bool) → is_none (found names x) ≡ new → is_full_for names_limit names x ≡ false → length (with_name names x v) ≤ names_limit
    fits true is free =
        let l : length (with_name names x v) ≡ length names + 1 = length_after names x v ∙ ap (λ b. length names + one_if b) is in
        let t : not (nat_lt (length names) names_limit) ≡ false = rw is at free in
        let s : nat_lt (length names) names_limit ≡ true = by_test (nat_lt (length names) names_limit) (λ a. a) (λ b. absurd (clash b t)) in
        let u : length names < names_limit = grind (arith, nat_tests) in
        omega arith
      where
        clash : nat_lt (length names) names_limit ≡ false → not (nat_lt (length names) names_limit) ≡ false → ⊥
        clash b t = let r : not (nat_lt (length names) names_limit) ≡ true = rw b refl in cc
    fits false is free = let l : length (with_name names x v) ≡ length names + 0 = length_after names x v ∙ ap (λ b. length names + one_if b) is in omega arith

-- a scope's arrays are held as before where they can be lent now
pub held_readied : (names : Names) (ws : Watches) (fs : Flows) (e t : Engine) (leaving : List ℕ) → SameArrays e t → IsHeld (state_in names ws fs e) e.holds leaving → IsHeld (state_in names ws fs t) t.holds leaving
held_readied names ws fs e t leaving s h =
    let P : State → Type 0 = λ x. IsHeld x e.holds leaving in
    let Q : List (ℕ × ℕ) → Type 0 = λ hs. IsHeld (state_in names ws fs t) hs leaving in
    subst Q (sym s.holds) (subst P (sym (readied names ws fs e t s)) h)

-- after an assignment
pub held_assigned : AssignsKeepAll → (names : Names) (ws : Watches) (fs : Flows) (e t : Engine) (v : ℕ) (vs : List ℤ) (leaving : List ℕ) → IsHeld (state_in names ws fs e) e.holds leaving → t.world ≡ assign e.world v vs → t.holds ≡ e.holds → IsWhole (state_in names ws fs t)
    → IsHeld (state_in names ws fs t) t.holds leaving
held_assigned assigned names ws fs e t v vs leaving h world same whole = record {
  whole = whole;
  few = h.few;
  slots = h.slots;
  reads = h.reads;
  counts = λ u. (ap (λ hs. count_at hs u) same ∙ h.counts u);
  reached = (let W : World → Type 0 = λ w. KeepsAll w (held_by names ws fs ++ leaving) in subst W (sym world) (assigned e.world v vs (held_by names ws fs ++ leaving) h.reached));
}

-- and beside other kernels
pub held_defined : (names : Named ℕ) (kernels after : Named KernelTexts) (ws : Watches) (fs : Flows) (e : Engine) (leaving : List ℕ) → IsHeld (state_in (names_in names kernels) ws fs e) e.holds leaving → IsHeld (state_in (names_in names after) ws fs e) e.holds leaving
held_defined names kernels after ws fs e leaving h = record { whole = whole_defined names kernels after ws fs e h.whole; few = h.few; slots = h.slots; reads = h.reads; counts = h.counts; reached = h.reached }

-- names, watches and flows hold what is held, beside what leaves
pub held_beside : (names : Names) (ws : Watches) (fs : Flows) (e : Engine) (leaving : List ℕ) → IsHeld (state_in names ws fs e) e.holds leaving → AreHeld e (held_by names ws fs) leaving
held_beside names ws fs e leaving h = record { sound = h.whole.sound; below = h.whole.below; counts = h.counts; reached = h.reached }
