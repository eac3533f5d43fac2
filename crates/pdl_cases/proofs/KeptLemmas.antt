-- What stays known of the arrays that a case can name.
use Rattle.std.proofs.Common.{◌≡◌, ◌≢◌, ℕ, ◌+◌, ◌-◌, ◌<◌, Bool, true, false, eqb, cond, nat_lt, List, [], ◌∷◌, ◌++◌, Option, Some, None, is_some, inl, inr, lt-ltb, refl, sym, ◌∙◌, ap, subst, arith}
use Rattle.std.specs.Prelude.{IsSomeAnd}
use Rattle.std.proofs.lemmas.Bool.{cases_Bool}
use Rattle.std.proofs.lemmas.Bool.Decides.{eqb_tells}
use Rattle.std.proofs.lemmas.List.Elements.{All-append, All-cons, All-nil}
use Rattle.pdl_engine.specs.Held.{ChangesFamily, count_at, one_more_at, one_less_at, held_among, holds_left, IsReleased}
use Rattle.pdl_engine.specs.State.{State, Joins, SameArrays}
use Rattle.pdl_world.specs.Laws.{OlderStay, LiveLieBelow, NewIsLive}
use Rattle.pdl_world.specs.Sound.{IsLive, IsSound}
use Rattle.pdl_world.specs.SweepLaws.{ReachedAreSeenAsBefore}
use Rattle.pdl_world.specs.Swept.{is_listed, sweep, held_itself}
use Rattle.pdl_world.specs.World.{World, ArrayDef, Look, look}
use Rattle.pdl_nodes.specs.Staying.{staying}
use Rattle.pdl_cases.specs.declared.board.Array.{Array}
use Rattle.pdl_cases.specs.Kept.{IsKept, AreKept, recounted, Recounts}

-- a call after which each live array is live, and each is held as before
pub stay : (old new : State) → ((v : ℕ) → IsLive old.world v → IsLive new.world v) → IsSound new.world → new.holds ≡ old.holds → (a : Array) → IsKept old a → IsKept new a
stay old new live sound same a k = record { sound = sound; live = live a.id k.live; held = ap (λ hs. count_at hs a.id) same ∙ k.held; some = k.some }

-- older arrays beside a new one
joined_one : OlderStay → LiveLieBelow → (old new : State) (id : ℕ) (d : ArrayDef) → Joins old id d new → IsSound new.world → (a : Array) → IsKept old a → IsKept new a
joined_one older below old new id d j sound a k =
    let s = subst IsSound j.world sound in
    let P : Option Look → Type 0 = λ o. IsSomeAnd o (λ l. Unit {0}) in
    let there : IsLive ((id, d) ∷ old.world) a.id = subst P (sym (older old.world id a.id d s.0 k.live)) k.live in
    let lower : a.id < id = below old.world id a.id s.0 k.live in
    let other : eqb id a.id ≡ false = elim (eqb_tells id a.id) [ inl t ↦ absurd (omega (arith, lower, t.1)) | inr t ↦ t.0 ] in
    record {
      sound = sound;
      live = subst (λ w. IsLive w a.id) (sym j.world) there;
      held = ap (λ hs. count_at hs a.id) j.holds ∙ rw other k.held;
      some = k.some;
    }

-- the new one
newest : NewIsLive → (old new : State) (id : ℕ) (d : ArrayDef) → Joins old id d new → IsSound new.world → (a : Array) → a.id ≡ id → a.holds ≡ 1 → IsKept new a
newest live old new id d j sound a same once =
    let s = subst IsSound j.world sound in
    let there : IsLive ((id, d) ∷ old.world) a.id = subst (IsLive ((id, d) ∷ old.world)) (sym same) (live old.world id d s.1) in
    let here : eqb id a.id ≡ true = elim (eqb_tells id a.id) [ inl t ↦ t.0 | inr t ↦ absurd (t.1 (sym same)) ] in
    record {
      sound = sound;
      live = subst (λ w. IsLive w a.id) (sym j.world) there;
      held = ap (λ hs. count_at hs a.id) j.holds ∙ rw here (sym once);
      some = omega (arith, once);
    }

pub joined : OlderStay → LiveLieBelow → NewIsLive → (old new : State) (id : ℕ) (d : ArrayDef) → Joins old id d new → IsSound new.world
    → (arrays : List Array) (a : Array) → a.id ≡ id → a.holds ≡ 1 → AreKept old arrays → AreKept new (arrays ++ a ∷ [])
joined older below live old new id d j sound arrays a same once kept =
    All-append (IsKept new) arrays (a ∷ []) (λ k e lt. joined_one older below old new id d j sound _ (kept k e lt))
    (All-cons (IsKept new) a [] (newest live old new id d j sound a same once) (All-nil (IsKept new)))

-- counts after one hold more, and after one less
more_count : (hs : List (ℕ × ℕ)) (v u : ℕ) → 0 < count_at hs u → count_at (one_more_at hs v) u ≡ recounted true v u (count_at hs u)
more_count [] v u l = absurd (omega (arith, l))
more_count ((k, n) ∷ hs) v u l = elim (eqb_tells k u) [
  | inl t ↦ rw t.0 (ap (λ x. cond (eqb x v) (n + 1) n) t.1)
  | inr t ↦ rw t.0 (more_count hs v u (rw t.0 at l))
]

less_count : (hs : List (ℕ × ℕ)) (v u : ℕ) → count_at (one_less_at hs v) u ≡ recounted false v u (count_at hs u)
less_count [] v u = elim (cases_Bool (eqb u v)) [ inl t ↦ rw t refl | inr t ↦ rw t refl ]
less_count ((k, n) ∷ hs) v u = elim (eqb_tells k u) [
  | inl t ↦ rw t.0 (ap (λ x. cond (eqb x v) (n - 1) n) t.1)
  | inr t ↦ rw t.0 (less_count hs v u)
]

-- what is held is among the held ones
is_among : (hs : List (ℕ × ℕ)) (u : ℕ) → 0 < count_at hs u → is_listed (held_among hs) u ≡ true
is_among [] u l = absurd (omega (arith, l))
is_among ((k, n) ∷ hs) u l = elim (eqb_tells k u) [
  | inl t ↦ rw (lt-ltb 0 n (rw t.0 at l)) (rw t.0 refl)
  | inr t ↦ (let rest : is_listed (held_among hs) u ≡ true = is_among hs u (rw t.0 at l) in
      elim (cases_Bool (nat_lt 0 n)) [ inl p ↦ rw p (rw t.0 rest) | inr p ↦ rw p rest ])
]

staying_count : (t : ℕ → Bool) (hs : List (ℕ × ℕ)) (u : ℕ) → t u ≡ true → count_at (staying t hs) u ≡ count_at hs u
staying_count t [] u y = refl
staying_count t ((k, n) ∷ hs) u y = elim (eqb_tells k u) [
  | inl e ↦ rw (ap t e.1 ∙ y) (rw e.0 refl)
  | inr e ↦ elim (cases_Bool (t k)) [
    | inl p ↦ rw p (rw e.0 (staying_count t hs u y))
    | inr p ↦ rw p (rw e.0 (staying_count t hs u y))
  ]
]

live_some : (o : Option Look) → IsSomeAnd o (λ l. Unit {0}) → is_some o ≡ true
live_some None h = absurd h
live_some (Some l) h = refl

pub holding : (s t : State) (v : ℕ) → t ≡ record s { holds = one_more_at s.holds v } → Recounts true v s t
holding s t v e u n sound live is some after = (
  subst (λ x. IsSound x.world) (sym e) sound,
  subst (λ x. IsLive x.world u) (sym e) live,
  ap (λ x. count_at x.holds u) e ∙ more_count s.holds v u (omega (arith, is, some)) ∙ ap (recounted true v u) is,
)

pub releasing : ReachedAreSeenAsBefore → (s t : State) (v : ℕ) → IsSound t.world → IsReleased s v t → Recounts false v s t
releasing seen s t v stays r u n sound live is some after =
    let hs = one_less_at s.holds v in
    let e : count_at hs u ≡ recounted false v u n = less_count s.holds v u ∙ ap (recounted false v u) is in
    let among : is_listed (held_among hs) u ≡ true = is_among hs u (subst (λ m. 0 < m) (sym e) after) in
    let P : Option Look → Type 0 = λ o. IsSomeAnd o (λ l. Unit {0}) in
    let there : IsLive (sweep s.world (held_among hs)) u = subst P (sym (seen s.world (held_among hs) u sound (held_itself u among)).look_is) live in
    let still : IsLive t.world u = subst (λ w. IsLive w u) (sym r.world) there in
    (stays, still, ap (λ x. count_at x u) r.holds ∙ staying_count (λ k. is_some (look t.world k)) hs u (live_some (look t.world u) still) ∙ e)

-- an array after one hold more or less
pub recounts_one : (more : Bool) (v : ℕ) (old new : State) → Recounts more v old new → (a b : Array) → IsKept old a → b.id ≡ a.id → b.holds ≡ recounted more v a.id a.holds → 0 < b.holds → IsKept new b
recounts_one more v old new r a b k same is some =
    let all = r a.id a.holds k.sound k.live k.held k.some (subst (λ m. 0 < m) is some) in
    record {
      sound = all.0;
      live = subst (IsLive new.world) (sym same) all.1;
      held = ap (count_at new.holds) same ∙ all.2 ∙ sym is;
      some = some;
    }

pub recounts_more : (more : Bool) (v : ℕ) (old new : State) → Recounts more v old new → (bs : List Array) (a b : Array) → AreKept new bs → IsKept old a → b.id ≡ a.id → b.holds ≡ recounted more v a.id a.holds → 0 < b.holds → AreKept new (bs ++ b ∷ [])
recounts_more more v old new r bs a b kept k same is some =
    All-append (IsKept new) bs (b ∷ []) kept (All-cons (IsKept new) b [] (recounts_one more v old new r a b k same is some) (All-nil (IsKept new)))
