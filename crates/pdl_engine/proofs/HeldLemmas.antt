-- How often arrays are held, in the words of the state.
use Rattle.std.proofs.Common.{ℕ, ◌-◌, List, map, ◌≡◌, ◌+◌, true, eqb, cond, [], ◌∷◌, inl, inr, refl, sym, ◌∙◌, ap, Bool, false, ◌<◌, arith, Option, Some, None, is_some, ◌≢◌, nat_lt, subst}
use Rattle.std.specs.List.{filter}
use Rattle.std.proofs.Math.Path.{fun_ext}
use Rattle.std.proofs.lemmas.Bool.{eq-eqb, cases_Bool}
use Rattle.std.proofs.lemmas.Bool.Decides.{eqb_tells}
use Rattle.pdl_world.specs.Sound.{IsSound}
use Rattle.pdl_world.specs.SweepLaws.{SweepsSoundly}
use Rattle.pdl_world.specs.Swept.{is_listed, sweep}
use Rattle.pdl_nodes.specs.Alike.{numbers}
use Rattle.pdl_nodes.specs.Families.{Means}
use Rattle.pdl_nodes.specs.Going.{IsLeft}
use Rattle.pdl_nodes.specs.Holds.{Counts, count, count_in, one_more, Beside, hold_at, going_in, going, less_one}
use Rattle.pdl_nodes.specs.Outcomes.{waiting_of}
use Rattle.pdl_nodes.specs.RowLaws.{RowLaws}
use Rattle.pdl_nodes.specs.Rows.{has, Rows, NumbersBelow}
use Rattle.pdl_nodes.specs.Staying.{staying, stays_from}
use Rattle.pdl_nodes.specs.Still.{IsStill}
use Rattle.pdl_nodes.specs.Worlds.{world_of}
use Rattle.pdl_nodes.specs.declared.holds.Hold.{Hold}
use Rattle.pdl_engine.specs.Held.{one_more_at, one_less_at, count_at, held_among, holds_left, left_from, IsReleased}
use Rattle.pdl_engine.specs.State.{State}
use Rattle.pdl_engine.specs.StateOf.{holds_in, IsEngine, fresh_among, pending_in, state_of}
use Rattle.pdl_engine.specs.Taken.{count_after, after_release}
use Rattle.pdl_engine.proofs.StateBounds.{waiting_is}
use Rattle.pdl_engine.proofs.StateOfWorlds.{holds_numbers, look_has, live_has, fresh_is}

-- numbers with what each has
abbrev pub counted : (ℕ → ℕ) → List ℕ → List (ℕ × ℕ)
counted f ks = map (λ k. (k, f k)) ks

counted_more : (f g : ℕ → ℕ) (id : ℕ) (rs : Rows) → ((k : ℕ) → has rs k ≡ true → g k ≡ cond (eqb k id) (f k + 1) (f k)) → one_more_at (counted f (numbers rs)) id ≡ counted g (numbers rs)
counted_more f g id [] e = refl
counted_more f g id ((k, r) ∷ rs) e =
    let here : cond (eqb k id) (f k + 1) (f k) ≡ g k = sym (e k (rw (eq-eqb k k refl) refl)) in
    let rest : one_more_at (counted f (numbers rs)) id ≡ counted g (numbers rs) = counted_more f g id rs (λ v h. e v (elim (eqb_tells k v) [ inl y ↦ rw y.0 refl | inr y ↦ rw y.0 h ])) in
    ap (λ n. (k, n) ∷ one_more_at (counted f (numbers rs)) id) here ∙ ap (λ x. (k, g k) ∷ x) rest

counted_less : (f g : ℕ → ℕ) (id : ℕ) (ks : List ℕ) → ((k : ℕ) → g k ≡ cond (eqb k id) (f k - 1) (f k)) → one_less_at (counted f ks) id ≡ counted g ks
counted_less f g id [] e = refl
counted_less f g id (k ∷ ks) e = ap (λ n. (k, n) ∷ one_less_at (counted f ks) id) (sym (e k)) ∙ ap (λ x. (k, g k) ∷ x) (counted_less f g id ks e)

counted_filter : (f : ℕ → ℕ) (t : ℕ → Bool) (ks : List ℕ) → counted f (filter t ks) ≡ staying t (counted f ks)
counted_filter f t [] = refl
counted_filter f t (k ∷ ks) = elim (cases_Bool (t k)) [
  | inl y ↦ rw y (ap (λ x. (k, f k) ∷ x) (counted_filter f t ks))
  | inr n ↦ rw n (counted_filter f t ks)
]

counted_same : (f g : ℕ → ℕ) (rs : Rows) → ((k : ℕ) → has rs k ≡ true → f k ≡ g k) → counted f (numbers rs) ≡ counted g (numbers rs)
counted_same f g [] e = refl
counted_same f g ((k, r) ∷ rs) e =
    let rest : counted f (numbers rs) ≡ counted g (numbers rs) = counted_same f g rs (λ v h. e v (elim (eqb_tells k v) [ inl y ↦ rw y.0 refl | inr y ↦ rw y.0 h ])) in
    ap (λ n. (k, n) ∷ counted f (numbers rs)) (e k (rw (eq-eqb k k refl) refl)) ∙ ap (λ x. (k, g k) ∷ x) rest

holds_counted : (rs : Rows) (hs : Counts) → holds_in rs hs ≡ counted (count hs) (numbers rs)
holds_counted rs hs = holds_numbers rs hs

-- how often one is held
pub count_is : (rs : Rows) (hs : Counts) (v : ℕ) → has rs v ≡ true → count_at (holds_in rs hs) v ≡ count hs v
count_is [] hs v h = (let z : false ≡ true = h in absurd (cc))
count_is ((k, r) ∷ rs) hs v h = elim (eqb_tells k v) [
  | inl t ↦ rw t.0 (ap (count hs) t.1)
  | inr t ↦ rw t.0 (count_is rs hs v (rw t.0 at h))
]

count_none : (rs : Rows) (hs : Counts) (v : ℕ) → has rs v ≡ false → count_at (holds_in rs hs) v ≡ 0
count_none [] hs v h = refl
count_none ((k, r) ∷ rs) hs v h = elim (eqb_tells k v) [
  | inl t ↦ (let z : true ≡ false = rw t.0 at h in absurd (cc))
  | inr t ↦ rw t.0 (count_none rs hs v (rw t.0 at h))
]

pub held_live : (rs : Rows) (hs : Counts) (v : ℕ) → 0 < count_at (holds_in rs hs) v → has rs v ≡ true
held_live rs hs v l = elim (cases_Bool (has rs v)) [
  | inl t ↦ t
  | inr t ↦ (let n : count_at (holds_in rs hs) v ≡ 0 = count_none rs hs v t in absurd (omega (arith, l, n)))
]

-- one hold more
more_count : (o : Option Hold) → is_some o ≡ true → count_in (one_more o) ≡ count_in o + 1
more_count None h = (let z : false ≡ true = h in absurd (cc))
more_count (Some h) e = refl

holds_more : (rs : Rows) (hs gs : Counts) (id : ℕ) → Beside rs hs → hold_at gs id ≡ one_more (hold_at hs id) → ((v : ℕ) → v ≢ id → hold_at gs v ≡ hold_at hs v) → holds_in rs gs ≡ one_more_at (holds_in rs hs) id
holds_more rs hs gs id b e o =
    holds_counted rs gs
    ∙ sym (counted_more (count hs) (count gs) id rs (λ k h. elim (eqb_tells k id) [
      | inl t ↦ rw t.0 (ap (count gs) t.1 ∙ ap count_in e ∙ ap (λ x. count_in (one_more (hold_at hs x))) (sym t.1) ∙ more_count (hold_at hs k) (b.numbers k ∙ h))
      | inr t ↦ rw t.0 (ap count_in (o k t.1))
    ]))
    ∙ ap (λ x. one_more_at x id) (sym (holds_counted rs hs))

one_more_some : (o : Option Hold) → is_some (one_more o) ≡ is_some o
one_more_some None = refl
one_more_some (Some h) = refl

one_more_going : (o : Option Hold) → going_in (one_more o) ≡ going_in o
one_more_going None = refl
one_more_going (Some h) = refl

-- each has its holds still where those of one were changed to some, be it none
pub beside_at : (f : Option Hold → Option Hold) → ((o : Option Hold) → is_some (f o) ≡ is_some o) → ((o : Option Hold) → going_in (f o) ≡ going_in o)
    → (rs : Rows) (hs gs : Counts) (id : ℕ) → Beside rs hs → hold_at gs id ≡ f (hold_at hs id) → ((v : ℕ) → v ≢ id → hold_at gs v ≡ hold_at hs v) → Beside rs gs
beside_at f same kept rs hs gs id b e o = record {
  numbers = λ v. elim (eqb_tells v id) [
    | inl t ↦ ap (λ x. is_some (hold_at gs x)) t.1 ∙ ap is_some e ∙ same (hold_at hs id) ∙ ap (λ x. is_some (hold_at hs x)) (sym t.1) ∙ b.numbers v
    | inr t ↦ ap is_some (o v t.1) ∙ b.numbers v
  ];
  clear = λ v. elim (eqb_tells v id) [
    | inl t ↦ ap (going gs) t.1 ∙ ap going_in e ∙ kept (hold_at hs id) ∙ ap (going hs) (sym t.1) ∙ b.clear v
    | inr t ↦ ap going_in (o v t.1) ∙ b.clear v
  ];
}

pub held_engine : (rs : Rows) (hs gs : Counts) (n id : ℕ) → IsEngine rs hs n → hold_at gs id ≡ one_more (hold_at hs id) → ((v : ℕ) → v ≢ id → hold_at gs v ≡ hold_at hs v) → IsEngine rs gs n
held_engine rs hs gs n id i e o = record {
  order = i.order;
  known = i.known;
  sized = i.sized;
  sound = i.sound;
  beside = beside_at one_more one_more_some one_more_going rs hs gs id i.beside e o;
  below = i.below;
  room = i.room;
}

pub held_state : (rs : Rows) (hs gs : Counts) (n id : ℕ) → Beside rs hs → hold_at gs id ≡ one_more (hold_at hs id) → ((v : ℕ) → v ≢ id → hold_at gs v ≡ hold_at hs v)
    → state_of rs gs n ≡ (let s : State = state_of rs hs n in record s { holds = one_more_at s.holds id })
held_state rs hs gs n id b e o = ap (λ h. record { world = world_of rs; fresh = fresh_among rs rs; pending = pending_in rs; holds = h; next = n }) (holds_more rs hs gs id b e o)

-- one hold less
pub less_count : (o : Option Hold) → count_in (less_one o) ≡ count_in o - 1
less_count None = refl
less_count (Some h) = refl

after_count : (hs : Counts) (id k : ℕ) → count_after id hs k ≡ cond (eqb k id) (count hs k - 1) (count hs k)
after_count hs id k = elim (eqb_tells k id) [
  | inl t ↦ rw t.0 (less_count (hold_at hs k))
  | inr t ↦ rw t.0 refl
]

holds_less : (rs : Rows) (hs : Counts) (id : ℕ) → one_less_at (holds_in rs hs) id ≡ counted (count_after id hs) (numbers rs)
holds_less rs hs id = ap (λ x. one_less_at x id) (holds_counted rs hs) ∙ counted_less (count hs) (count_after id hs) id (numbers rs) (after_count hs id)

-- which are held then
none_held : (f : ℕ → ℕ) (ks : List ℕ) (v : ℕ) → nat_lt 0 (f v) ≡ false → is_listed (held_among (counted f ks)) v ≡ false
none_held f [] v n = refl
none_held f (k ∷ ks) v n = elim (cases_Bool (nat_lt 0 (f k))) [
  | inl y ↦ rw y (elim (eqb_tells k v) [
    | inl t ↦ (let z : true ≡ false = sym y ∙ ap (λ x. nat_lt 0 (f x)) t.1 ∙ n in absurd (cc))
    | inr t ↦ rw t.0 (none_held f ks v n)
  ])
  | inr y ↦ rw y (none_held f ks v n)
]

gone_unheld : (f : ℕ → ℕ) (rs : Rows) (v : ℕ) → has rs v ≡ false → is_listed (held_among (counted f (numbers rs))) v ≡ false
gone_unheld f [] v h = refl
gone_unheld f ((k, r) ∷ rs) v h = elim (eqb_tells k v) [
  | inl t ↦ (let z : true ≡ false = rw t.0 at h in absurd (cc))
  | inr t ↦ elim (cases_Bool (nat_lt 0 (f k))) [
    | inl y ↦ rw (y, t.0) (gone_unheld f rs v (rw t.0 at h))
    | inr y ↦ rw y (gone_unheld f rs v (rw t.0 at h))
  ]
]

live_held : (f : ℕ → ℕ) (rs : Rows) (v : ℕ) → has rs v ≡ true → nat_lt 0 (f v) ≡ true → is_listed (held_among (counted f (numbers rs))) v ≡ true
live_held f [] v h n = (let z : false ≡ true = h in absurd (cc))
live_held f ((k, r) ∷ rs) v h n = elim (eqb_tells k v) [
  | inl t ↦ (let y : nat_lt 0 (f k) ≡ true = ap (λ x. nat_lt 0 (f x)) t.1 ∙ n in rw (y, t.0) refl)
  | inr t ↦ elim (cases_Bool (nat_lt 0 (f k))) [
    | inl y ↦ rw (y, t.0) (live_held f rs v (rw t.0 at h) n)
    | inr y ↦ rw y (live_held f rs v (rw t.0 at h) n)
  ]
]

pub less_going : (o : Option Hold) → going_in (less_one o) ≡ going_in o
less_going None = refl
less_going (Some h) = refl

none_after : (o : Option Hold) → is_some o ≡ false → count_in o ≡ 0
none_after None e = refl
none_after (Some h) e = (let z : true ≡ false = e in absurd (cc))

pub less_some : (o : Option Hold) → is_some (less_one o) ≡ is_some o
less_some None = refl
less_some (Some h) = refl

gone_after : (rs : Rows) (hs : Counts) (id v : ℕ) → Beside rs hs → has rs v ≡ false → nat_lt 0 (count_after id hs v) ≡ false
gone_after rs hs id v b h = elim (eqb_tells v id) [
  | inl t ↦ rw (t.0, none_after (less_one (hold_at hs v)) (less_some (hold_at hs v) ∙ b.numbers v ∙ h)) refl
  | inr t ↦ rw (t.0, none_after (hold_at hs v) (b.numbers v ∙ h)) refl
]

pub held_is : (rs : Rows) (hs : Counts) (id : ℕ) → Beside rs hs → (v : ℕ) → is_listed (held_among (one_less_at (holds_in rs hs) id)) v ≡ after_release id hs v
held_is rs hs id b v =
    ap (λ x. is_listed (held_among x) v) (holds_less rs hs id)
    ∙ elim (cases_Bool (has rs v)) [
      | inl h ↦ elim (cases_Bool (nat_lt 0 (count_after id hs v))) [
        | inl y ↦ live_held (count_after id hs) rs v h y ∙ sym y
        | inr y ↦ none_held (count_after id hs) (numbers rs) v y ∙ sym y
      ]
      | inr h ↦ gone_unheld (count_after id hs) rs v h ∙ sym (gone_after rs hs id v b h)
    ]

-- the holds of what is left
left_holds : (facts : RowLaws) → (old new : Rows) (hs gs : Counts) (id : ℕ) → IsStill new → IsLeft old new → ((v : ℕ) → has new v ≡ true → count gs v ≡ count_after id hs v) → holds_in new gs ≡ holds_left (world_of new) (one_less_at (holds_in old hs) id)
left_holds facts old new hs gs id s l c =
    holds_counted new gs
    ∙ counted_same (count gs) (count_after id hs) new c
    ∙ ap (counted (count_after id hs)) l.numbers_are
    ∙ counted_filter (count_after id hs) (has new) (numbers old)
    ∙ ap (staying (has new)) (sym (holds_less old hs id))
    ∙ ap (λ t. staying t (one_less_at (holds_in old hs) id)) (sym (fun_ext (look_has facts new s)))

below_points : (new : Rows) (n : ℕ) → ((v : ℕ) → has new v ≡ true → v < n) → NumbersBelow n new
below_points [] n f = tt
below_points ((k, r) ∷ rs) n f = (f k (rw (eq-eqb k k refl) refl), below_points rs n (λ v h. f v (elim (eqb_tells k v) [ inl y ↦ rw y.0 refl | inr y ↦ rw y.0 h ])))

pub left_engine : (facts : RowLaws) → SweepsSoundly → (old new : Rows) (hs gs : Counts) (n : ℕ) (held : List ℕ) → IsEngine old hs n → IsLeft old new → Means new (sweep (world_of old) held) → Beside new gs → IsEngine new gs n
left_engine facts laws old new hs gs n held i l m b = record {
  order = m.0;
  known = l.known;
  sized = l.sized i.sized;
  sound = subst IsSound (sym m.1) (laws (world_of old) held i.sound);
  beside = b;
  below = below_points new n (λ v h. facts.numbers.has_below old n v i.below (l.there v h));
  room = i.room;
}

-- what waits of what is left
left_tells : (facts : RowLaws) → (new : Rows) (o : Option ℕ) → IsStill new → stays_from (has new) o ≡ left_from (world_of new) o
left_tells facts new None s = refl
left_tells facts new (Some v) s = ap (λ b. cond b (Some v) None) (sym (look_has facts new s v))

pub left_state : (facts : RowLaws) → (old new : Rows) (hs gs : Counts) (n id : ℕ) → IsStill old → IsLeft old new → Means new (sweep (world_of old) (held_among (one_less_at (holds_in old hs) id)))
    → ((v : ℕ) → has new v ≡ true → count gs v ≡ count_after id hs v) → IsReleased (state_of old hs n) id (state_of new gs n)
left_state facts old new hs gs n id s l m c = record {
  world = m.1;
  holds = left_holds facts old new hs gs id m.0.still l c;
  next = refl;
  stay = λ u e f. (let h : has new u ≡ true = live_has facts new u e in
      fresh_is facts new u m.0.still h ∙ l.fresh u h (sym (fresh_is facts old u s (l.there u h)) ∙ f));
  waits = λ u e. (let h : has new u ≡ true = live_has facts new u e in
      waiting_is facts new gs n u m.0.still h ∙ l.waits u h ∙ left_tells facts new (waiting_of old u) m.0.still
      ∙ ap (left_from (world_of new)) (sym (waiting_is facts old hs n u s (l.there u h))));
}
