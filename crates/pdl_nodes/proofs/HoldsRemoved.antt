-- Removing what has no holds, from some arrays up.
use Rattle.std.proofs.Common.{◌≡◌, ◌≢◌, ℕ, ◌+◌, ◌-◌, ◌<◌, ◌≤◌, ◌&&◌, ◌||◌, not, Bool, true, false, eqb, cond, List, [], ◌∷◌, Option, Some, None, is_some, inl, inr, refl, sym, ◌∙◌, ap, subst, arith}
use Rattle.std.proofs.lemmas.Bool.{cases_Bool, both_ways}
use Rattle.std.proofs.lemmas.Bool.Decides.{eqb_tells}
use Rattle.pdl_world.specs.Swept.{is_listed}
use Rattle.pdl_nodes.specs.Children.{children, left, one_of}
use Rattle.pdl_nodes.specs.Holds.{Counts, hold_at, count, count_in, going, going_in, stands}
use Rattle.pdl_nodes.specs.Risen.{AreNoted, ComesFrom, IsFallen, IsNoted, ParentsAreOlder}
use Rattle.pdl_nodes.specs.Row.{parent_of}
use Rattle.pdl_nodes.specs.Rows.{Rows, row_at, has, other, without, Falls}
use Rattle.pdl_nodes.specs.Staying.{staying}
use Rattle.pdl_nodes.specs.Still.{IsStill}
use Rattle.pdl_nodes.proofs.ChildrenCounted.{children_without}
use Rattle.pdl_nodes.proofs.GoingFalling.{climb}
use Rattle.pdl_nodes.proofs.RowFinds.{falls_stays, has_gone, has_stays, row_stays}
use Rattle.pdl_nodes.proofs.ChildrenLeft.{left_all, left_same}
use Rattle.pdl_nodes.proofs.AlikePaths.{parent_live}
use Rattle.pdl_nodes.proofs.HoldsReached.{staying_live}
use Rattle.pdl_nodes.proofs.RowRests.{size_of, without_here, without_none}
use Rattle.pdl_nodes.proofs.HoldsRising.{noted_stands, noted_count, noted_less}
use Rattle.pdl_nodes.proofs.RowShapes.{past_at}
use Rattle.std.proofs.lemmas.Bool.{eq-eqb, ne_eqb}

-- ---- rows of which some are left
staying_twice : (t u : ℕ → Bool) (rs : Rows) → staying t (staying u rs) ≡ staying (λ v. u v && t v) rs
staying_twice t u [] = refl
staying_twice t u ((k, r) ∷ rs) = elim (cases_Bool (u k)) [
  | inl y ↦ rw y (elim (cases_Bool (t k)) [
    | inl z ↦ rw z (ap (λ x. (k, r) ∷ x) (staying_twice t u rs))
    | inr z ↦ rw z (staying_twice t u rs)
  ])
  | inr n ↦ rw n (staying_twice t u rs)
]

pub staying_all : (rs : Rows) → staying (λ v. true) rs ≡ rs
staying_all [] = refl
staying_all ((k, r) ∷ rs) = ap (λ x. (k, r) ∷ x) (staying_all rs)

rows_whole : (rs : Rows) → rs ≡ staying (has rs) rs
rows_whole rs = sym (staying_live (has rs) (λ v. true) rs (λ v h. h) ∙ staying_all rs)

has_less : (rs left : Rows) (v : ℕ) → left ≡ staying (has left) rs → has left v ≡ true → has rs v ≡ true
has_less rs left v e h = sym (has_stays (has left) rs v h) ∙ ap (λ x. has x v) (sym e) ∙ h

row_less : (rs left : Rows) (v : ℕ) → left ≡ staying (has left) rs → has left v ≡ true → row_at left v ≡ row_at rs v
row_less rs left v e h = ap (λ x. row_at x v) e ∙ row_stays (has left) rs v h

gone_less : (rs left : Rows) (v : ℕ) → left ≡ staying (has left) rs → has rs v ≡ false → has left v ≡ false
gone_less rs left v e h = elim (cases_Bool (has left v)) [ inl y ↦ absurd (both_ways (has rs v) h (has_less rs left v e y)) | inr y ↦ y ]

and_is : (a b : Bool) → (b ≡ true → a ≡ true) → (a && b) ≡ b
and_is true b f = refl
and_is false true f = (let z : false ≡ true = f refl in absurd (cc))
and_is false false f = refl

rows_then : (a b c : Rows) → b ≡ staying (has b) a → c ≡ staying (has c) b → c ≡ staying (has c) a
rows_then a b c x y =
    y ∙ ap (staying (has c)) x ∙ staying_twice (has c) (has b) a
    ∙ staying_live (λ v. has b v && has c v) (has c) a (λ v h. and_is (has b v) (has c v) (λ z. has_less b c v y z))

without_has : (rs new : Rows) (at : ℕ) → new ≡ without at rs → has new at ≡ false
without_has rs new at e = ap (λ x. has x at) e ∙ has_gone (other at) rs at (rw (eq-eqb at at refl) refl)

without_other : (rs new : Rows) (at v : ℕ) → new ≡ without at rs → v ≢ at → has new v ≡ has rs v
without_other rs new at v e d = ap (λ x. has x v) e ∙ has_stays (other at) rs v (rw (ne_eqb v at d) refl)

rows_without : (rs new : Rows) (at : ℕ) → new ≡ without at rs → new ≡ staying (has new) rs
rows_without rs new at e = e ∙ staying_live (other at) (has new) rs (λ v h. elim (eqb_tells v at) [
  | inl y ↦ (let z : other at v ≡ false = rw y.0 refl in z ∙ sym (ap (has new) y.1 ∙ without_has rs new at e))
  | inr y ↦ (let z : other at v ≡ true = rw y.0 refl in z ∙ sym (without_other rs new at v e y.1 ∙ h))
])

-- what doesn't count is no loss
left_without : (rs : Rows) (t : ℕ → Bool) (at v : ℕ) → Falls rs → t at ≡ false → left (without at rs) t v ≡ left rs t v
left_without [] t at v f n = refl
left_without ((k, r) ∷ rs) t at v f n = elim (eqb_tells k at) [
  | inl y ↦ (let w : without at ((k, r) ∷ rs) ≡ rs = ap (λ x. without x ((k, r) ∷ rs)) (sym y.1) ∙ without_here [] rs k r f in
      let z : t k ≡ false = ap t y.1 ∙ n in
      ap (λ x. left x t v) w ∙ (let e : left rs t v ≡ cond (t k) (one_of (parent_of r) v) 0 + left rs t v = rw z (omega arith) in e))
  | inr y ↦ rw y.0 (ap (λ m. cond (t k) (one_of (parent_of r) v) 0 + m) (left_without rs t at v f.1 n))
]

left_most : (rs : Rows) (t : ℕ → Bool) (v : ℕ) → left rs t v ≤ children rs v
left_most [] t v = omega arith
left_most ((k, r) ∷ rs) t v = (let l : left rs t v ≤ children rs v = left_most rs t v in elim (cases_Bool (t k)) [
  | inl y ↦ rw y (omega (arith, l))
  | inr y ↦ rw y (omega (arith, l))
])

-- ---- from one array up
-- the next to be removed, if it goes and is there
pub record IsFalling (id : ℕ) (t0 : Rows) (h0 : Counts) (table : Rows) (hs : Counts) (next : Option ℕ) : Type 0 where
  pub rows : table ≡ staying (has table) t0
  pub keeps : (v : ℕ) → has t0 v ≡ true → stands h0 v ≡ true → has table v ≡ true
  pub standing : (v : ℕ) → stands hs v ≡ stands h0 v
  pub counts : (v : ℕ) → count hs v ≡ count h0 v
  pub first : (next ≡ Some id → ⊥) → stands h0 id ≡ false → has table id ≡ false
  pub climbs :
      (c p : ℕ) → has t0 c ≡ true → has table c ≡ false → parent_of (row_at t0 c) ≡ Some p → (next ≡ Some p → ⊥)
      → stands h0 p ≡ false → has table p ≡ false
  pub noted : AreNoted table hs

pub falling_none : (id : ℕ) (rs : Rows) (hs : Counts) → AreNoted rs hs → IsFalling id rs hs rs hs (Some id)
falling_none id rs hs n = record {
  rows = rows_whole rs;
  keeps = λ v h s. h;
  standing = λ v. refl;
  counts = λ v. refl;
  first = λ d s. absurd (d refl);
  climbs = λ c p h g. absurd (both_ways (has rs c) g h);
  noted = n;
}

some_is : (next : Option ℕ) (at q : ℕ) → next ≡ Some at → next ≡ Some q → at ≡ q
some_is next at q e f = (let z : Some at ≡ Some q = sym e ∙ f in cc)

not_there : (a b : Bool) → a ≡ false → (not a && b) ≡ false → b ≡ false
not_there true b e f = (let z : true ≡ false = e in absurd (cc))
not_there false b e f = f

-- it stays, or was removed before
pub falling_stays : (id : ℕ) (t0 : Rows) (h0 : Counts) (table : Rows) (hs : Counts) (next : Option ℕ) (at : ℕ) → IsFalling id t0 h0 table hs next → next ≡ Some at → (not (stands hs at) && has table at) ≡ false → IsFalling id t0 h0 table hs None
falling_stays id t0 h0 table hs next at i e g =
    let gone : stands h0 at ≡ false → has table at ≡ false = λ s. not_there (stands hs at) (has table at) (i.standing at ∙ s) g in
    let gone_at : (p : ℕ) → at ≡ p → stands h0 p ≡ false → has table p ≡ false = λ p y s. sym (ap (has table) y) ∙ gone (ap (stands h0) y ∙ s) in
    record {
      rows = i.rows;
      keeps = i.keeps;
      standing = i.standing;
      counts = i.counts;
      first = λ d s. elim (eqb_tells at id) [
        | inl y ↦ gone_at id y.1 s
        | inr y ↦ i.first (λ w. y.1 (some_is next at id e w)) s
      ];
      climbs = λ c p h n w d s. elim (eqb_tells at p) [
        | inl y ↦ gone_at p y.1 s
        | inr y ↦ i.climbs c p h n w (λ z. y.1 (some_is next at p e z)) s
      ];
      noted = i.noted;
    }

record IsGoneThere (table : Rows) (hs : Counts) (at : ℕ) : Type 0 where
  gone : stands hs at ≡ false
  there : has table at ≡ true

gone_there : (table : Rows) (hs : Counts) (at : ℕ) → (not (stands hs at) && has table at) ≡ true → IsGoneThere table hs at
gone_there table hs at g = by (stands hs at) refl (has table at) refl g where
  by : (a : Bool) → stands hs at ≡ a → (b : Bool) → has table at ≡ b → (not a && b) ≡ true → IsGoneThere table hs at
  by true x b y z = (let w : false ≡ true = z in absurd (cc))
  by false x false y z = (let w : false ≡ true = z in absurd (cc))
  by false x true y z = record { gone = x; there = y }

pub falling_smaller : (id : ℕ) (t0 : Rows) (h0 : Counts) (table : Rows) (hs : Counts) (next : Option ℕ) (at : ℕ) → ParentsAreOlder t0 → IsFalling id t0 h0 table hs next → size_of (parent_of (row_at table at)) < at + 1
falling_smaller id t0 h0 table hs next at o i = by (parent_of (row_at table at)) refl where
  by : (q : Option ℕ) → parent_of (row_at table at) ≡ q → size_of q < at + 1
  by None e = omega arith
  by (Some q) e = elim (cases_Bool (has table at)) [
    | inl h ↦ (let l : q < at = o at q (has_less t0 table at i.rows h) (ap parent_of (sym (row_less t0 table at i.rows h)) ∙ e) in omega (arith, l))
    | inr h ↦ (let z : None ≡ Some q = sym (ap parent_of (past_at table at h)) ∙ e in absurd (cc))
  ]

noted_gone : (table new : Rows) (hs gs : Counts) (at : ℕ) → Falls table → IsGoneThere table hs at → new ≡ without at table → IsNoted (λ n. n - 1) hs gs (parent_of (row_at table at)) → AreNoted table hs → AreNoted new gs
noted_gone table new hs gs at f x n k a v y =
    let s : stands hs v ≡ true = sym (noted_stands (λ n. n - 1) hs gs (parent_of (row_at table at)) v k) ∙ y in
    let c : children table v ≡ one_of (parent_of (row_at table at)) v + children new v = children_without table at v f x.there ∙ ap (λ z. one_of (parent_of (row_at table at)) v + children z v) (sym n) in
    let l : left new (stands hs) v ≡ left table (stands hs) v = ap (λ z. left z (stands hs) v) n ∙ left_without table (stands hs) at v f x.gone in
    let m : left new (stands hs) v ≤ children new v = left_most new (stands hs) v in
    let b : children table v ≡ going hs v + left table (stands hs) v = a v s in
    let g : going gs v ≡ going hs v - one_of (parent_of (row_at table at)) v = noted_less hs gs (parent_of (row_at table at)) v k s in
    let e : left new (stands gs) v ≡ left new (stands hs) v = left_same new (stands gs) (stands hs) v (λ u h. noted_stands (λ n. n - 1) hs gs (parent_of (row_at table at)) u k) in
    omega (arith, c, l, m, b, g, e)

-- it goes
falling_goes : (id : ℕ) (t0 : Rows) (h0 : Counts) (table new : Rows) (hs gs : Counts) (next : Option ℕ) (at : ℕ) → Falls t0 → IsFalling id t0 h0 table hs next → next ≡ Some at → (not (stands hs at) && has table at) ≡ true
    → new ≡ without at table → IsNoted (λ n. n - 1) hs gs (parent_of (row_at table at)) → IsFalling id t0 h0 new gs (parent_of (row_at table at))
falling_goes id t0 h0 table new hs gs next at f i e g n k =
    let x : IsGoneThere table hs at = gone_there table hs at g in
    let falls : Falls table = (let P : Rows → Type 0 = λ z. Falls z in subst P (sym i.rows) (falls_stays (has table) t0 f)) in
    let away : has new at ≡ false = without_has table new at n in
    let less : (v : ℕ) → has table v ≡ false → has new v ≡ false = λ v z. elim (eqb_tells v at) [
      | inl y ↦ ap (has new) y.1 ∙ away
      | inr y ↦ without_other table new at v n y.1 ∙ z
    ] in
    let away_at : (v : ℕ) → at ≡ v → has new v ≡ false = λ v y. sym (ap (has new) y) ∙ away in
    record {
      rows = rows_then t0 table new i.rows (rows_without table new at n);
      keeps = λ v h s. without_other table new at v n (λ y. both_ways (stands hs v) (ap (stands hs) y ∙ x.gone) (i.standing v ∙ s)) ∙ i.keeps v h s;
      standing = λ v. noted_stands (λ n. n - 1) hs gs (parent_of (row_at table at)) v k ∙ i.standing v;
      counts = λ v. noted_count (λ n. n - 1) hs gs (parent_of (row_at table at)) v k ∙ i.counts v;
      first = λ d s. elim (eqb_tells at id) [
        | inl y ↦ away_at id y.1
        | inr y ↦ less id (i.first (λ w. y.1 (some_is next at id e w)) s)
      ];
      climbs = λ c p h z w d s. elim (eqb_tells at p) [
        | inl y ↦ away_at p y.1
        | inr y ↦ elim (eqb_tells at c) [
          | inl q ↦ absurd (d (ap parent_of (row_less t0 table at i.rows x.there) ∙ ap (λ u. parent_of (row_at t0 u)) q.1 ∙ w))
          | inr q ↦ less p (i.climbs c p h (sym (without_other table new at c n (λ u. q.1 (sym u))) ∙ z) w (λ u. y.1 (some_is next at p e u)) s)
        ]
      ];
      noted = noted_gone table new hs gs at falls x n k i.noted;
    }

-- none of its notes changed
falling_as : (id : ℕ) (t0 : Rows) (h0 : Counts) (table new : Rows) (hs gs : Counts) → new ≡ table → ((v : ℕ) → hold_at gs v ≡ hold_at hs v) → IsFalling id t0 h0 table hs None → IsFalling id t0 h0 new gs None
falling_as id t0 h0 table new hs gs e a i =
    let P : Rows → Type 0 = λ x. IsFalling id t0 h0 x gs None in
    subst P (sym e) (record {
      rows = i.rows;
      keeps = i.keeps;
      standing = λ v. ap is_some (a v) ∙ i.standing v;
      counts = λ v. ap count_in (a v) ∙ i.counts v;
      first = i.first;
      climbs = i.climbs;
      noted = λ v y. i.noted v (sym (ap is_some (a v)) ∙ y)
          ∙ ap (λ n. n + left table (stands hs) v) (sym (ap going_in (a v)))
          ∙ ap (λ n. going gs v + n) (left_same table (stands hs) (stands gs) v (λ k h. sym (ap is_some (a k))));
    })

-- it goes, if it is there
pub falling_on : (id : ℕ) (t0 : Rows) (h0 : Counts) (table new : Rows) (hs gs : Counts) (next : Option ℕ) (at : ℕ) → Falls t0 → IsFalling id t0 h0 table hs next → next ≡ Some at → stands hs at ≡ false
    → new ≡ without at table → IsNoted (λ n. n - 1) hs gs (parent_of (row_at table at)) → IsFalling id t0 h0 new gs (parent_of (row_at table at))
falling_on id t0 h0 table new hs gs next at f i e s n k = elim (cases_Bool (has table at)) [
  | inl y ↦ falling_goes id t0 h0 table new hs gs next at f i e (rw (s, y) refl) n k
  | inr y ↦ (let p : parent_of (row_at table at) ≡ None = ap parent_of (past_at table at y) in
      let P : Option ℕ → Type 0 = λ o. IsFalling id t0 h0 new gs o in
      subst P (sym p) (falling_as id t0 h0 table new hs gs (n ∙ without_none table at y) (λ v. k.others v (λ z. (let w : None ≡ Some v = sym p ∙ z in absurd (cc))))
      (falling_stays id t0 h0 table hs next at i e (rw (s, y) refl))))
]

pub falling_done : (id : ℕ) (t0 : Rows) (h0 : Counts) (table : Rows) (hs : Counts) → IsFalling id t0 h0 table hs None → IsFallen id t0 h0 table hs
falling_done id t0 h0 table hs i = record {
  rows = i.rows;
  keeps = i.keeps;
  standing = i.standing;
  counts = i.counts;
  first = λ s. i.first (λ w. absurd (cc)) s;
  climbs = λ c p h n w s. i.climbs c p h n w (λ q. absurd (cc)) s;
  noted = i.noted;
}

-- ---- from some arrays up
pub record IsRemoving (rs : Rows) (h0 : Counts) (table : Rows) (hs : Counts) (rest loose : List ℕ) : Type 0 where
  pub rows : table ≡ staying (has table) rs
  pub keeps : (v : ℕ) → has rs v ≡ true → stands h0 v ≡ true → has table v ≡ true
  pub standing : (v : ℕ) → stands hs v ≡ stands h0 v
  pub counts : (v : ℕ) → count hs v ≡ count h0 v
  pub done : (u : ℕ) → is_listed loose u ≡ true → is_listed rest u ≡ false → stands h0 u ≡ false → has table u ≡ false
  pub climbs :
      (c p : ℕ) → has rs c ≡ true → has table c ≡ false → parent_of (row_at rs c) ≡ Some p → stands h0 p ≡ false
      → has table p ≡ false
  pub noted : AreNoted table hs

pub removing_none : (rs : Rows) (hs : Counts) (loose : List ℕ) → AreNoted rs hs → IsRemoving rs hs rs hs loose loose
removing_none rs hs loose n = record {
  rows = rows_whole rs;
  keeps = λ v h s. h;
  standing = λ v. refl;
  counts = λ v. refl;
  done = λ u h d. absurd (both_ways (is_listed loose u) d h);
  climbs = λ c p h g. absurd (both_ways (has rs c) g h);
  noted = n;
}

pub removing_falls : (rs : Rows) (h0 : Counts) (table : Rows) (hs : Counts) (rest loose : List ℕ) → Falls rs → IsRemoving rs h0 table hs rest loose → Falls table
removing_falls rs h0 table hs rest loose f i = (let P : Rows → Type 0 = λ z. Falls z in subst P (sym i.rows) (falls_stays (has table) rs f))

pub removing_older : (rs : Rows) (h0 : Counts) (table : Rows) (hs : Counts) (rest loose : List ℕ) → IsStill rs → IsRemoving rs h0 table hs rest loose → ParentsAreOlder table
removing_older rs h0 table hs rest loose s i = λ v p h e.
    (parent_live rs v p s (has_less rs table v i.rows h) (ap parent_of (sym (row_less rs table v i.rows h)) ∙ e)).1

pub removing_more : (rs : Rows) (h0 : Counts) (table new : Rows) (hs gs : Counts) (rest less loose : List ℕ) (at : ℕ) → IsRemoving rs h0 table hs rest loose → ((v : ℕ) → is_listed rest v ≡ (eqb at v || is_listed less v)) → IsFallen at table hs new gs
    → IsRemoving rs h0 new gs less loose
removing_more rs h0 table new hs gs rest less loose at i e x =
    let gone : (v : ℕ) → has table v ≡ false → has new v ≡ false = λ v h. gone_less table new v x.rows h in
    record {
      rows = rows_then rs table new i.rows x.rows;
      keeps = λ v h s. x.keeps v (i.keeps v h s) (i.standing v ∙ s);
      standing = λ v. x.standing v ∙ i.standing v;
      counts = λ v. x.counts v ∙ i.counts v;
      done = λ u h d s. elim (eqb_tells at u) [
        | inl y ↦ sym (ap (has new) y.1) ∙ x.first (i.standing at ∙ ap (stands h0) y.1 ∙ s)
        | inr y ↦ gone u (i.done u h (e u ∙ ap (λ b. b || is_listed less u) y.0 ∙ d) s)
      ];
      climbs = λ c p h n w s. elim (cases_Bool (has table c)) [
        | inl y ↦ x.climbs c p y n (ap parent_of (row_less rs table c i.rows y) ∙ w) (i.standing p ∙ s)
        | inr y ↦ gone p (i.climbs c p h y w s)
      ];
      noted = x.noted;
    }

-- all that goes is gone
pub record IsRemoved (rs : Rows) (h0 : Counts) (table : Rows) (hs : Counts) : Type 0 where
  pub rows : table ≡ staying (stands h0) rs
  pub numbers : (v : ℕ) → stands hs v ≡ has table v
  pub clear : (v : ℕ) → stands hs v ≡ true → going hs v ≡ 0
  pub standing : (v : ℕ) → stands hs v ≡ stands h0 v
  pub counts : (v : ℕ) → count hs v ≡ count h0 v

pub removed_all : (rs : Rows) (h0 : Counts) (table : Rows) (hs : Counts) (starts : List ℕ) → IsStill rs → ((v : ℕ) → stands h0 v ≡ true → has rs v ≡ true) → ComesFrom starts rs h0 → IsRemoving rs h0 table hs [] starts → IsRemoved rs h0 table hs
removed_all rs h0 table hs starts s n f i =
    let there : (v : ℕ) → has rs v ≡ true → has table v ≡ stands h0 v = λ v h. elim (cases_Bool (stands h0 v)) [
      | inl y ↦ i.keeps v h y ∙ sym y
      | inr y ↦ climb rs h0 starts (λ x. has table x ≡ false) s f (λ u t l g. i.done u t refl g) (λ c p l g w z x. i.climbs c p l x w z) v h y ∙ sym y
    ] in
    let all : (v : ℕ) → stands hs v ≡ has table v = λ v. elim (cases_Bool (has rs v)) [
      | inl y ↦ i.standing v ∙ sym (there v y)
      | inr y ↦ i.standing v ∙ elim (cases_Bool (stands h0 v)) [
        | inl z ↦ absurd (both_ways (has rs v) y (n v z))
        | inr z ↦ z ∙ sym (gone_less rs table v i.rows y)
      ]
    ] in
    record {
      rows = i.rows ∙ staying_live (has table) (stands h0) rs there;
      numbers = all;
      clear = λ v y. (let a : children table v ≡ going hs v + left table (stands hs) v = i.noted v y in
          let b : left table (stands hs) v ≡ children table v = left_all table (stands hs) v (λ k h. all k ∙ h) in
          omega (arith, a, b));
      standing = i.standing;
      counts = i.counts;
    }
