-- Taking the holds from what goes, from one array up.
use Rattle.std.proofs.Common.{◌≡◌, ◌≢◌, ℕ, ◌+◌, ◌-◌, ◌<◌, ◌&&◌, Bool, true, false, eqb, Option, Some, None, is_some, nat_lt, inl, inr, refl, sym, ◌∙◌, ap, subst, arith}
use Rattle.std.proofs.lemmas.Bool.Decides.{eqb_tells, leb_tells}
use Rattle.pdl_nodes.specs.declared.holds.Hold.{Hold}
use Rattle.pdl_nodes.specs.Children.{children, left, one_of}
use Rattle.pdl_nodes.specs.Holds.{Counts, hold_at, count, count_in, is_held, going, going_in, goes_in, stands, with_going}
use Rattle.pdl_nodes.specs.Risen.{AreMarked, IsFewer, IsLoose, IsNoted}
use Rattle.pdl_nodes.specs.Row.{parent_of}
use Rattle.pdl_nodes.specs.Rows.{Rows, row_at, has}
use Rattle.pdl_nodes.specs.Still.{IsStill}
use Rattle.pdl_nodes.proofs.WorldFamilies.{still_falls}
use Rattle.pdl_nodes.proofs.ChildrenLeft.{left_less, left_some, no_one}
use Rattle.pdl_nodes.proofs.AlikePaths.{parent_live}
use Rattle.pdl_nodes.proofs.RowRests.{size_of}
use Rattle.std.proofs.lemmas.Bool.{eq-eqb, true_from_ne_false, both_ways}

-- ---- what a note changes
with_some : (n : ℕ) (o : Option Hold) → is_some (with_going n o) ≡ is_some o
with_some n None = refl
with_some n (Some h) = refl

with_count : (n : ℕ) (o : Option Hold) → count_in (with_going n o) ≡ count_in o
with_count n None = refl
with_count n (Some h) = refl

with_is : (n : ℕ) (o : Option Hold) → is_some o ≡ true → going_in (with_going n o) ≡ n
with_is n None h = (let z : false ≡ true = h in absurd (cc))
with_is n (Some x) h = refl

pub noted_stands : (f : ℕ → ℕ) (hs mid : Counts) (o : Option ℕ) (v : ℕ) → IsNoted f hs mid o → stands mid v ≡ stands hs v
noted_stands f hs mid None v i = ap is_some (i.others v (λ e. absurd (cc)))
noted_stands f hs mid (Some q) v i = elim (eqb_tells q v) [
  | inl y ↦ ap is_some (i.here v (ap Some y.1)) ∙ with_some (f (going hs v)) (hold_at hs v)
  | inr y ↦ ap is_some (i.others v (λ e. y.1 (let z : q ≡ v = cc in z)))
]

pub noted_count : (f : ℕ → ℕ) (hs mid : Counts) (o : Option ℕ) (v : ℕ) → IsNoted f hs mid o → count mid v ≡ count hs v
noted_count f hs mid None v i = ap count_in (i.others v (λ e. absurd (cc)))
noted_count f hs mid (Some q) v i = elim (eqb_tells q v) [
  | inl y ↦ ap count_in (i.here v (ap Some y.1)) ∙ with_count (f (going hs v)) (hold_at hs v)
  | inr y ↦ ap count_in (i.others v (λ e. y.1 (let z : q ≡ v = cc in z)))
]

-- one more, or one less, of the parent alone
noted_more : (hs mid : Counts) (o : Option ℕ) (v : ℕ) → IsNoted (λ n. n + 1) hs mid o → stands hs v ≡ true → going mid v ≡ one_of o v + going hs v
noted_more hs mid None v i s = (let e : going mid v ≡ going hs v = ap going_in (i.others v (λ e. absurd (cc))) in omega (arith, e))
noted_more hs mid (Some q) v i s = elim (eqb_tells q v) [
  | inl y ↦ (let e : going mid v ≡ going hs v + 1 = ap going_in (i.here v (ap Some y.1)) ∙ with_is (going hs v + 1) (hold_at hs v) s in rw y.0 (omega (arith, e)))
  | inr y ↦ (let e : going mid v ≡ going hs v = ap going_in (i.others v (λ e. y.1 (let z : q ≡ v = cc in z))) in rw y.0 (omega (arith, e)))
]

pub noted_less : (hs mid : Counts) (o : Option ℕ) (v : ℕ) → IsNoted (λ n. n - 1) hs mid o → stands hs v ≡ true → going mid v ≡ going hs v - one_of o v
noted_less hs mid None v i s = (let e : going mid v ≡ going hs v = ap going_in (i.others v (λ e. absurd (cc))) in omega (arith, e))
noted_less hs mid (Some q) v i s = elim (eqb_tells q v) [
  | inl y ↦ (let e : going mid v ≡ going hs v - 1 = ap going_in (i.here v (ap Some y.1)) ∙ with_is (going hs v - 1) (hold_at hs v) s in rw y.0 (omega (arith, e)))
  | inr y ↦ (let e : going mid v ≡ going hs v = ap going_in (i.others v (λ e. y.1 (let z : q ≡ v = cc in z))) in rw y.0 (omega (arith, e)))
]

pub noted_none : (f : ℕ → ℕ) (hs : Counts) (o : Option ℕ) → o ≡ None → IsNoted f hs hs o
noted_none f hs o e = record { here = λ q w. (let z : None ≡ Some q = sym e ∙ w in absurd (cc)); others = λ v n. refl }

pub noted_some : (f : ℕ → ℕ) (hs mid : Counts) (o : Option ℕ) (q : ℕ) → o ≡ Some q → hold_at mid q ≡ with_going (f (going hs q)) (hold_at hs q) → ((v : ℕ) → v ≢ q → hold_at mid v ≡ hold_at hs v) → IsNoted f hs mid o
noted_some f hs mid o q e h n = record {
  here = λ v w. (let y : v ≡ q = (let z : Some v ≡ Some q = sym w ∙ e in cc) in ap (hold_at mid) y ∙ h ∙ ap (λ x. with_going (f (going hs x)) (hold_at hs x)) (sym y));
  others = λ v d. n v (λ y. d (e ∙ ap Some (sym y)));
}

-- ---- the walk
-- the next array to look at; of the others none is loose that wasn't
pub record IsRising (rs : Rows) (h0 hs : Counts) (id : ℕ) (next : Option ℕ) : Type 0 where
  pub marked : AreMarked rs hs
  pub fewer : IsFewer h0 hs
  pub live : (v : ℕ) → next ≡ Some v → has rs v ≡ true
  pub loose : (v : ℕ) → IsLoose rs hs v → (next ≡ Some v → ⊥) → IsLoose rs h0 v × (v ≢ id)

pub fewer_same : (hs : Counts) → IsFewer hs hs
fewer_same hs = record { standing = λ v e. e; counts = λ v e. refl; free = λ v e n. absurd (both_ways (stands hs v) n e) }

pub rising_none : (rs : Rows) (hs : Counts) (id : ℕ) → AreMarked rs hs → has rs id ≡ true → IsRising rs hs hs id (Some id)
rising_none rs hs id m h = record {
  marked = m;
  fewer = fewer_same hs;
  live = λ v e. (let z : id ≡ v = cc in ap (has rs) (sym z) ∙ h);
  loose = λ v l n. (l, λ e. n (ap Some (sym e)));
}

pub none_less : (n : ℕ) → nat_lt 0 n ≡ false → n ≡ 0
none_less n h = elim (leb_tells 1 n) [ inl l ↦ (let z : true ≡ false = sym l.0 ∙ h in absurd (cc)) | inr l ↦ omega (arith, l.1) ]

-- one that is loose goes
loose_goes : (rs : Rows) (hs : Counts) (at : ℕ) → AreMarked rs hs → IsLoose rs hs at → goes_in (children rs at) (hold_at hs at) ≡ true
loose_goes rs hs at m l = by (hold_at hs at) refl where
  by : (o : Option Hold) → hold_at hs at ≡ o → goes_in (children rs at) o ≡ true
  by None e = (let z : true ≡ false = sym l.standing ∙ ap is_some e in absurd (cc))
  by (Some h) e =
      let c : h.count ≡ 0 = ap count_in (sym e) ∙ none_less (count hs at) l.free in
      let g : h.going ≡ children rs at = (let a : children rs at ≡ going hs at + left rs (stands hs) at = m.noted at l.standing in
      let b : left rs (stands hs) at ≡ 0 = l.viewless in
      let d : h.going ≡ going hs at = ap going_in (sym e) in omega (arith, a, b, d)) in
      rw (eq-eqb h.count 0 c, eq-eqb h.going (children rs at) g) refl

pub rising_stays : (rs : Rows) (h0 hs : Counts) (id : ℕ) (next : Option ℕ) (at : ℕ) → IsRising rs h0 hs id next → next ≡ Some at → goes_in (children rs at) (hold_at hs at) ≡ false → IsRising rs h0 hs id None
rising_stays rs h0 hs id next at i e g = record {
  marked = i.marked;
  fewer = i.fewer;
  live = λ v n. absurd (cc);
  loose = λ v l n. i.loose v l (λ z. (let y : at ≡ v = (let w : Some at ≡ Some v = sym e ∙ z in cc) in
      let P : ℕ → Type 0 = λ x. IsLoose rs hs x in
      both_ways (goes_in (children rs at) (hold_at hs at)) g (loose_goes rs hs at i.marked (subst P (sym y) l))));
}

record IsFree (rs : Rows) (hs : Counts) (at : ℕ) : Type 0 where
  pub standing : stands hs at ≡ true
  pub free : count hs at ≡ 0
  pub spent : left rs (stands hs) at ≡ 0

is_free : (rs : Rows) (hs : Counts) (at : ℕ) → AreMarked rs hs → goes_in (children rs at) (hold_at hs at) ≡ true → IsFree rs hs at
is_free rs hs at m g = by (hold_at hs at) refl g where
  zeros : (h : Hold) → hold_at hs at ≡ Some h → (a b : Bool) → eqb h.count 0 ≡ a → eqb h.going (children rs at) ≡ b → (a && b) ≡ true → IsFree rs hs at
  zeros h e false b x y z = (let w : false ≡ true = z in absurd (cc))
  zeros h e true false x y z = (let w : false ≡ true = z in absurd (cc))
  zeros h e true true x y z =
      let s : stands hs at ≡ true = ap is_some e in
      let c : h.count ≡ 0 = elim (eqb_tells h.count 0) [ inl t ↦ t.1 | inr t ↦ (let w : false ≡ true = sym t.0 ∙ x in absurd (cc)) ] in
      let n : h.going ≡ children rs at = elim (eqb_tells h.going (children rs at)) [ inl t ↦ t.1 | inr t ↦ (let w : false ≡ true = sym t.0 ∙ y in absurd (cc)) ] in
      let k : going hs at ≡ h.going = ap going_in e in
      record { standing = s; free = ap count_in e ∙ c; spent = (let a : children rs at ≡ going hs at + left rs (stands hs) at = m.noted at s in omega (arith, a, k, n)) }

  by : (o : Option Hold) → hold_at hs at ≡ o → goes_in (children rs at) o ≡ true → IsFree rs hs at
  by None e h = (let z : false ≡ true = h in absurd (cc))
  by (Some h) e y = zeros h e (eqb h.count 0) (eqb h.going (children rs at)) refl refl y

-- a parent of one that stands does too, and not all its views are noted
record IsRoomy (rs : Rows) (hs : Counts) (q : ℕ) : Type 0 where
  pub standing : stands hs q ≡ true
  pub room : going hs q < children rs q

roomy : (rs : Rows) (hs : Counts) (at q : ℕ) → IsStill rs → AreMarked rs hs → stands hs at ≡ true → parent_of (row_at rs at) ≡ Some q → IsRoomy rs hs q
roomy rs hs at q still m s w =
    let u : (has rs q ≡ true) × (q < at) = parent_live rs at q still (m.numbers at s) w in
    let a : 0 < left rs (stands hs) q = left_some rs (stands hs) at q (still_falls rs still) (m.numbers at s) s w in
    let y : stands hs q ≡ true = true_from_ne_false (stands hs q) (λ z. (let n : left rs (stands hs) q ≡ 0 = m.spent q u.0 z in omega (arith, a, n))) in
    record { standing = y; room = (let c : children rs q ≡ going hs q + left rs (stands hs) q = m.noted q y in omega (arith, a, c)) }

pub rising_room : (rs : Rows) (h0 hs : Counts) (id : ℕ) (next : Option ℕ) (at q : ℕ) → IsStill rs → IsRising rs h0 hs id next → next ≡ Some at → goes_in (children rs at) (hold_at hs at) ≡ true → parent_of (row_at rs at) ≡ Some q → going hs q < children rs q
rising_room rs h0 hs id next at q still i e g w = (roomy rs hs at q still i.marked (is_free rs hs at i.marked g).standing w).room

-- it goes
pub rising_goes : (rs : Rows) (h0 hs mid later : Counts) (id : ℕ) (next : Option ℕ) (at : ℕ) → IsStill rs → IsRising rs h0 hs id next → next ≡ Some at → goes_in (children rs at) (hold_at hs at) ≡ true
    → IsNoted (λ n. n + 1) hs mid (parent_of (row_at rs at)) → hold_at later at ≡ None → ((v : ℕ) → v ≢ at → hold_at later v ≡ hold_at mid v) → IsRising rs h0 later id (parent_of (row_at rs at))
rising_goes rs h0 hs mid later id next at still i e g k n o =
    let x : IsFree rs hs at = is_free rs hs at i.marked g in
    let s : stands hs at ≡ true = x.standing in
    let l : has rs at ≡ true = i.live at e in
    let p : Option ℕ = parent_of (row_at rs at) in
    let away : stands later at ≡ false = ap is_some n in
    let others : (v : ℕ) → v ≢ at → stands later v ≡ stands hs v = λ v d. ap is_some (o v d) ∙ noted_stands (λ n. n + 1) hs mid (parent_of (row_at rs at)) v k in
    let is_other : (v : ℕ) → stands later v ≡ true → v ≢ at = λ v y z. both_ways (stands later at) away (ap (stands later) (sym z) ∙ y) in
    let before : (v : ℕ) → stands later v ≡ true → stands hs v ≡ true = λ v y. sym (others v (is_other v y)) ∙ y in
    let counts : (v : ℕ) → stands later v ≡ true → count later v ≡ count hs v = λ v y. ap count_in (o v (is_other v y)) ∙ noted_count (λ n. n + 1) hs mid (parent_of (row_at rs at)) v k in
    let less : (v : ℕ) → left rs (stands hs) v ≡ one_of (parent_of (row_at rs at)) v + left rs (stands later) v = λ v. left_less rs (stands hs) (stands later) at v (still_falls rs still) l s away others in
    record {
      marked = record {
        numbers = λ v y. i.marked.numbers v (before v y);
        spent = λ v h y. (let a : left rs (stands hs) v ≡ one_of (parent_of (row_at rs at)) v + left rs (stands later) v = less v in elim (eqb_tells v at) [
          | inl t ↦ (let b : left rs (stands hs) v ≡ 0 = ap (left rs (stands hs)) t.1 ∙ x.spent in omega (arith, a, b))
          | inr t ↦ (let b : left rs (stands hs) v ≡ 0 = i.marked.spent v h (sym (others v t.1) ∙ y) in omega (arith, a, b))
        ]);
        noted = λ v y. (let a : left rs (stands hs) v ≡ one_of (parent_of (row_at rs at)) v + left rs (stands later) v = less v in
            let b : children rs v ≡ going hs v + left rs (stands hs) v = i.marked.noted v (before v y) in
            let c : going later v ≡ one_of (parent_of (row_at rs at)) v + going hs v = ap going_in (o v (is_other v y)) ∙ noted_more hs mid (parent_of (row_at rs at)) v k (before v y) in
            omega (arith, a, b, c));
      };
      fewer = record {
        standing = λ v y. i.fewer.standing v (before v y);
        counts = λ v y. counts v y ∙ i.fewer.counts v (before v y);
        free = λ v y z. elim (eqb_tells v at) [
          | inl t ↦ ap (is_held h0) t.1 ∙ ap (nat_lt 0) (sym (i.fewer.counts at s) ∙ x.free)
          | inr t ↦ i.fewer.free v y (sym (others v t.1) ∙ z)
        ];
      };
      live = λ q w. (parent_live rs at q still l w).0;
      loose = λ v y d. (let a : left rs (stands hs) v ≡ one_of (parent_of (row_at rs at)) v + left rs (stands later) v = less v in
          let b : one_of (parent_of (row_at rs at)) v ≡ 0 = no_one (parent_of (row_at rs at)) v d in
          let c : left rs (stands later) v ≡ 0 = y.viewless in
          i.loose v (record {
            standing = before v y.standing;
            free = ap (nat_lt 0) (sym (counts v y.standing)) ∙ y.free;
            viewless = omega (arith, a, b, c);
          }) (λ z. is_other v y.standing (let w : Some v ≡ Some at = sym z ∙ e in cc)));
    }

pub rising_smaller : (rs : Rows) (at : ℕ) → IsStill rs → has rs at ≡ true → size_of (parent_of (row_at rs at)) < at + 1
rising_smaller rs at still l = by (parent_of (row_at rs at)) refl where
  by : (o : Option ℕ) → parent_of (row_at rs at) ≡ o → size_of o < at + 1
  by None e = omega arith
  by (Some q) e = (let u : (has rs q ≡ true) × (q < at) = parent_live rs at q still l e in omega (arith, u.1))
