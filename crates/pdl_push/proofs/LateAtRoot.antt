-- The root is written: rows stay in order, and mean the world that is assigned, or the same where what waited is
-- written back.
use Rattle.std.proofs.Common.{drop, ◌≡◌, ℕ, ℤ, Bool, true, false, eqb, cond, List, length, Some, None, inl, inr, refl, sym, ◌∙◌, ap, subst}
use Rattle.std.proofs.lemmas.Bool.{eq-eqb, ne_eqb, eqb-true}
use Rattle.std.proofs.lemmas.Bool.Decides.{eqb_tells}
use Rattle.pdl_shape.specs.Places.{read, write}
use Rattle.pdl_shape.specs.Shape.{size_of}
use Rattle.pdl_nodes.specs.Alike.{KeepsMarks}
use Rattle.pdl_nodes.specs.Families.{has_repeats, IsMarked, IsWaiting, InFamily, InOrder}
use Rattle.pdl_nodes.specs.Known.{AreKnown}
use Rattle.pdl_nodes.specs.Outcomes.{IsReady}
use Rattle.pdl_world.specs.Parts.{assign_part}
use Rattle.pdl_nodes.specs.Quiet.{IsQuiet, LeavesOthers}
use Rattle.pdl_nodes.specs.RowLaws.{RowLaws}
use Rattle.pdl_nodes.specs.Rows.{Rows, row_at, has, each}
use Rattle.pdl_nodes.specs.Seen.{IsSeen}
use Rattle.pdl_nodes.specs.Worlds.{places_seen, latest, world_of, IsRoot}
use Rattle.pdl_push.specs.Late.{settle}
use Rattle.pdl_push.specs.Settled.{IsSettled}
use Rattle.pdl_push.proofs.RowsKnown.{known_each, kept_by}
use Rattle.pdl_push.proofs.LateRows.{only_mark}

pub settle_quiet : (rt : ℕ) (es : List ℤ) (b : ℕ) (both : Bool) → IsQuiet (settle rt es b both)
settle_quiet rt es b both = record { origin = λ k r. refl; ty = λ k r. refl; root = λ k r. refl; base = λ k r. refl; triple = λ k r. refl }

settle_within : (rs : Rows) (rt : ℕ) (es : List ℤ) (b : ℕ) (both : Bool) → (row_at rs rt).root ≡ rt → LeavesOthers rt (settle rt es b both) rs
settle_within rs rt es b both h = record {
  outside = λ k n. rw (ne_eqb (row_at rs k).root rt n, ne_eqb k rt (λ e. n (ap (λ x. (row_at rs x).root) e ∙ h))) refl;
}

-- beside the root one base is marked at most
only_tells : (x : Bool) (b k rt : ℕ) → cond (eqb k b) true (cond x (eqb k rt) false) ≡ true → (k ≡ rt → ⊥) → k ≡ b
only_tells x b k rt h n = elim (eqb_tells k b) [
  | inl t ↦ t.1
  | inr t ↦ (let e : cond false true (cond x (eqb k rt) false) ≡ true = rw t.0 at h in absurd (off x (eqb k rt) (ne_eqb k rt n) e))
] where
  off : (x t : Bool) → t ≡ false → cond x t false ≡ true → ⊥
  off true t a h = let e : true ≡ false = sym h ∙ a in cc
  off false t a h = cc

-- b keeps what it shows of these elements of its root
record Keeps (rs : Rows) (rt b : ℕ) (es : List ℤ) : Type 0 where
  pub own : (row_at rs b).base ≡ b
  pub shows : (row_at rs b).kept ≡ read (places_seen rs b) es
  pub flag : (row_at rs b).repeats ≡ has_repeats (places_seen rs b)

-- what is marked then keeps what it shows
settled_marked : (facts : RowLaws) → (rs : Rows) (rt : ℕ) (es : List ℤ) (b : ℕ) (both : Bool) → InOrder rs → IsRoot rs rt → length es ≡ size_of (row_at rs rt).triple.dims → ((b ≡ rt → ⊥) → Keeps rs rt b es) → latest (each (settle rt es b both) rs) rt ≡ es → (x : ℕ) → has rs x ≡ true → (row_at rs x).root ≡ rt → cond (eqb x b) true (cond both (eqb x rt) false) ≡ true → IsMarked (each (settle rt es b both) rs) x
settled_marked facts rs rt es b both o i l k e x lx g h =
    let q : IsQuiet (settle rt es b both) = settle_quiet rt es b both in
    let row : row_at (each (settle rt es b both) rs) x ≡ settle rt es b both x (row_at rs x) = facts.numbers.each_at (settle rt es b both) rs x lx in
    let now : latest (each (settle rt es b both) rs) (row_at rs x).root ≡ es = ap (latest (each (settle rt es b both) rs)) g ∙ e in
    let seen : IsSeen rs rt = facts.seen.is_seen rs o.still rt i.0 in
    elim (eqb_tells x rt) [
      | inl t ↦ record {
        own = ap (λ r. r.base) row ∙ ap (λ y. (row_at rs y).base) (t.1 ∙ sym i.1) ∙ seen.root_base ∙ i.1 ∙ sym t.1;
        shows = ap (λ r. r.kept) row ∙ rw (t.0, row, now, facts.quiet.places_each (settle rt es b both) rs x q) (sym (ap (λ y. read (places_seen rs y) es) t.1 ∙ facts.seen.root_shows rs rt es o.still i l));
        flag = ap (λ r. r.repeats) row ∙ rw (facts.quiet.places_each (settle rt es b both) rs x q) (ap (λ y. (row_at rs y).repeats) t.1 ∙ (o.family rt i).flat ∙ ap (λ y. has_repeats (places_seen rs y)) (sym t.1));
      }
      | inr t ↦ (let xb : x ≡ b = only_tells both b x rt h t.1 in
          let a : Keeps rs rt x es = (let P : ℕ → Type 0 = λ y. Keeps rs rt y es in subst P (sym xb) (k (λ c. t.1 (xb ∙ c)))) in
          record {
            own = ap (λ r. r.base) row ∙ a.own;
            shows = ap (λ r. r.kept) row ∙ rw (t.0, row, now, facts.quiet.places_each (settle rt es b both) rs x q) a.shows;
            flag = ap (λ r. r.repeats) row ∙ rw (facts.quiet.places_each (settle rt es b both) rs x q) a.flag;
          })
    ]

-- these elements are the root's
settled_latest : (facts : RowLaws) → (rs : Rows) (rt : ℕ) (es : List ℤ) (b : ℕ) (both : Bool) → IsRoot rs rt → latest (each (settle rt es b both) rs) rt ≡ es
settled_latest facts rs rt es b both i =
    let row : row_at (each (settle rt es b both) rs) rt ≡ settle rt es b both rt (row_at rs rt) = facts.numbers.each_at (settle rt es b both) rs rt i.0 in
    facts.seen.latest_none (each (settle rt es b both) rs) rt (ap (λ r. r.waiting) row ∙ rw (eq-eqb rt rt refl) refl) ∙ ap (λ r. r.kept) row ∙ rw (eq-eqb rt rt refl) refl

-- the family is in order, and so are all rows
settled_family : (facts : RowLaws) → (rs : Rows) (rt : ℕ) (es : List ℤ) (b : ℕ) (both : Bool) → InOrder rs → IsRoot rs rt → length es ≡ size_of (row_at rs rt).triple.dims → ((b ≡ rt → ⊥) → Keeps rs rt b es) → cond (eqb rt b) true (cond both (eqb rt rt) false) ≡ true → InFamily (each (settle rt es b both) rs) rt
settled_family facts rs rt es b both o i l k m =
    let q : IsQuiet (settle rt es b both) = settle_quiet rt es b both in
    let row : row_at (each (settle rt es b both) rs) rt ≡ settle rt es b both rt (row_at rs rt) = facts.numbers.each_at (settle rt es b both) rs rt i.0 in
    let wait : (row_at (each (settle rt es b both) rs) rt).waiting ≡ None = ap (λ r. r.waiting) row ∙ rw (eq-eqb rt rt refl) refl in
    record {
      marked = λ x h g. (let lx : has rs x ≡ true = sym (facts.numbers.each_has (settle rt es b both) rs x) ∙ facts.numbers.marked_live (each (settle rt es b both) rs) x h in
          let rx : (row_at rs x).root ≡ rt = sym (facts.quiet.root_each (settle rt es b both) rs x q) ∙ g in
          let h2 : cond (eqb (row_at rs x).root rt) (cond (eqb x b) true (cond both (eqb x rt) false)) (row_at rs x).mark ≡ true = sym (ap (λ r. r.mark) (facts.numbers.each_at (settle rt es b both) rs x lx)) ∙ h in
          settled_marked facts rs rt es b both o i l k (settled_latest facts rs rt es b both i) x lx rx (rw (eq-eqb (row_at rs x).root rt rx) at h2));
      waits = λ v h. (let c : None ≡ Some v = sym wait ∙ h in absurd (cc));
      lasts = λ h. ap (λ r. r.mark) row ∙ rw (eq-eqb (row_at rs rt).root rt i.1) m;
      count = ap (λ r. length r.kept) row ∙ rw (eq-eqb rt rt refl) (l ∙ sym (ap (λ r. size_of r.triple.dims) row));
      flat = ap (λ r. r.repeats) row ∙ (o.family rt i).flat ∙ sym (ap has_repeats (facts.quiet.places_each (settle rt es b both) rs rt q));
    }

settled : (facts : RowLaws) → (rs : Rows) (rt : ℕ) (es : List ℤ) (b : ℕ) (both : Bool) → InOrder rs → IsRoot rs rt → length es ≡ size_of (row_at rs rt).triple.dims → ((b ≡ rt → ⊥) → Keeps rs rt b es) → cond (eqb rt b) true (cond both (eqb rt rt) false) ≡ true → InOrder (each (settle rt es b both) rs)
settled facts rs rt es b both o i l k m = facts.quiet.order_each rt (settle rt es b both) rs (settle_quiet rt es b both) (settle_within rs rt es b both i.1) o (settled_family facts rs rt es b both o i l k m)

-- what waited was written back: the world is the same
written_back : (facts : RowLaws) → (rs : Rows) (rt v : ℕ) → InOrder rs → IsRoot rs rt → (row_at rs rt).waiting ≡ Some v → InOrder (each (settle rt (latest rs rt) v true) rs)
written_back facts rs rt v o i h =
    let w : IsWaiting rs rt v = (o.family rt i).waits v h in
    let a : IsMarked rs v = (o.family rt i).marked v w.marked w.of_root in
    settled facts rs rt (latest rs rt) v true o i (facts.seen.length_latest rs rt ∙ (o.family rt i).count)
    (λ n. record { own = a.own; shows = a.shows ∙ ap (λ r. read (places_seen rs v) (latest rs r)) w.of_root; flag = a.flag })
    (rw (ne_eqb rt v (λ e. w.not_root (sym e)), eq-eqb rt rt refl) refl)

world_back : (facts : RowLaws) → (rs : Rows) (rt v : ℕ) → InOrder rs → IsRoot rs rt → world_of (each (settle rt (latest rs rt) v true) rs) ≡ world_of rs
world_back facts rs rt v o i = facts.quiet.world_same rt (settle rt (latest rs rt) v true) rs (settle_quiet rt (latest rs rt) v true) (settle_within rs rt (latest rs rt) v true i.1) o (settled_latest facts rs rt (latest rs rt) v true i)

-- values were written at the places of an array, and the root alone is marked: they are assigned to it
pub rooted : (facts : RowLaws) → (rs : Rows) (rt v first : ℕ) (vs : List ℤ) → InOrder rs → IsRoot rs rt → InOrder (each (settle rt (write (drop first (places_seen rs v)) vs (latest rs rt)) rt false) rs)
rooted facts rs rt v first vs o i =
    settled facts rs rt (write (drop first (places_seen rs v)) vs (latest rs rt)) rt false o i (facts.seen.length_write (drop first (places_seen rs v)) vs (latest rs rt) ∙ facts.seen.length_latest rs rt ∙ (o.family rt i).count) (λ n. absurd (n refl)) (rw (eq-eqb rt rt refl) refl)

pub world_rooted : (facts : RowLaws) → (rs : Rows) (rt v first : ℕ) (vs : List ℤ) → InOrder rs → IsRoot rs rt → has rs v ≡ true → (row_at rs v).root ≡ rt → world_of (each (settle rt (write (drop first (places_seen rs v)) vs (latest rs rt)) rt false) rs) ≡ assign_part (world_of rs) v first vs
world_rooted facts rs rt v first vs o i l e =
    let es : List ℤ = write (drop first (places_seen rs v)) vs (latest rs rt) in
    facts.quiet.world_assigned rt (settle rt es rt false) rs v first vs (settle_quiet rt es rt false) (settle_within rs rt es rt false i.1) o l e (settled_latest facts rs rt es rt false i)

-- where the base that waited was marked alone, no mark is lost by writing it back, and the root's alone is new
stays_mark : (t x y m : Bool) → (t ≡ true → m ≡ x) → m ≡ true → cond t (cond x true (cond true y false)) m ≡ true
stays_mark true x y m h g = rw (sym (h refl) ∙ g) refl
stays_mark false x y m h g = g

was_mark : (t x y m : Bool) → (t ≡ true → m ≡ x) → (t ≡ true → y ≡ true → ⊥) → cond t (cond x true (cond true y false)) m ≡ true → m ≡ true
was_mark true true y m h n g = h refl
was_mark true false true m h n g = absurd (n refl refl)
was_mark true false false m h n g = absurd (cc)
was_mark false x y m h n g = g

keeps_settled : (facts : RowLaws) → (rs : Rows) (rt b : ℕ) (es : List ℤ) → IsWaiting rs rt b → KeepsMarks rs (each (settle rt es b true) rs)
keeps_settled facts rs rt b es w v m =
    ap (λ r. r.mark) (facts.numbers.each_at (settle rt es b true) rs v (facts.numbers.marked_live rs v m))
    ∙ stays_mark (eqb (row_at rs v).root rt) (eqb v b) (eqb v rt) (row_at rs v).mark (λ t. only_mark rs rt b v w (eqb-true (row_at rs v).root rt t)) m

-- so all that was ready is
pub ready_back : (facts : RowLaws) → (rs new : Rows) (rt b : ℕ) → InOrder rs → AreKnown rs → IsRoot rs rt → (row_at rs rt).waiting ≡ Some b → new ≡ each (settle rt (latest rs rt) b true) rs → IsReady rs new
ready_back facts rs new rt b o a i w e =
    let x : IsWaiting rs rt b = (o.family rt i).waits b w in
    let es : List ℤ = latest rs rt in
    subst (λ (t : Rows). IsReady rs t) (sym e) (record {
      order = written_back facts rs rt b o i w;
      known = known_each facts (settle rt es b true) rs (settle_quiet rt es b true) (λ k r. refl) (λ k r. refl)
          (λ k n m. was_mark (eqb (row_at rs k).root rt) (eqb k b) (eqb k rt) (row_at rs k).mark (λ t. only_mark rs rt b k x (eqb-true (row_at rs k).root rt t)) (λ t y. n (eqb-true (row_at rs k).root rt t ∙ sym (eqb-true k rt y))) m)
          (λ k y. kept_by rs rt k es (facts.seen.root_own rs rt o.still i) y) a;
      world = world_back facts rs rt b o i;
      alike = facts.quiet.is_alike (settle rt es b true) rs (settle_quiet rt es b true);
      marks = keeps_settled facts rs rt b es x;
    })

-- and nothing waits in the family, but what waited in others
pub settled_back : (facts : RowLaws) → (rs new : Rows) (rt b v : ℕ) → InOrder rs → AreKnown rs → has rs v ≡ true → (row_at rs v).root ≡ rt → (row_at rs rt).waiting ≡ Some b → new ≡ each (settle rt (latest rs rt) b true) rs → IsSettled rs v new
settled_back facts rs new rt b v o a h r w e =
    let i : IsRoot rs rt = facts.seen.root_live rs rt v o.still h r in
    let d : IsReady rs new = ready_back facts rs new rt b o a i w e in
    record {
      ready = d;
      nothing = ap (λ x. (row_at new x).waiting) (d.alike.root_is v ∙ r) ∙ ap (λ t. (row_at t rt).waiting) e ∙ ap (λ x. x.waiting) (facts.numbers.each_at (settle rt (latest rs rt) b true) rs rt i.0) ∙ rw (eq-eqb rt rt refl) refl;
      others = λ u l n. ap (λ t. (row_at t u).waiting) e ∙ ap (λ x. x.waiting) (facts.numbers.each_at (settle rt (latest rs rt) b true) rs u l) ∙ rw (ne_eqb u rt (λ x. n (x ∙ sym r))) refl;
    }
