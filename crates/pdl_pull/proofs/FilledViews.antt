-- An outdated view is filled: rows stay in order, what is known stays known, and the world is the same.
use Rattle.std.proofs.Common.{◌≡◌, ℕ, ℤ, Bool, true, false, eqb, cond, List, Option, is_some, inl, inr, refl, sym, ◌∙◌, ap, subst, length, Some, None}
use Rattle.std.proofs.lemmas.Bool.{eq-eqb, ne_eqb, cases_Bool}
use Rattle.std.proofs.lemmas.Bool.Decides.{eqb_tells}
use Rattle.pdl_shape.specs.Places.{read}
use Rattle.pdl_shape.specs.Shape.{size_of}
use Rattle.pdl_nodes.specs.Alike.{KeepsMarks}
use Rattle.pdl_nodes.specs.Changes.{fill_in, or_known}
use Rattle.pdl_nodes.specs.Families.{has_repeats, IsMarked, InFamily, InOrder}
use Rattle.pdl_nodes.specs.Known.{IsKnown, AreKnown}
use Rattle.pdl_nodes.specs.Quiet.{IsQuiet, LeavesOthers}
use Rattle.pdl_nodes.specs.RowLaws.{RowLaws}
use Rattle.pdl_nodes.specs.Rows.{Rows, row_at, has, each}
use Rattle.pdl_nodes.specs.Worlds.{places_seen, latest, world_of}
use Rattle.pdl_pull.specs.Filled.{IsOutdated, IsFound, IsFilled}

-- filling changes one row of a family, and nothing that its world is derived from
fill_quiet : (b : ℕ) (ks : List ℤ) (f : Bool) (ps : Option (List (Option ℕ))) → IsQuiet (fill_in b ks f ps)
fill_quiet b ks f ps = record { origin = λ k r. refl; ty = λ k r. refl; root = λ k r. refl; base = λ k r. refl; triple = λ k r. refl }

fill_within : (rs : Rows) (rt b : ℕ) (ks : List ℤ) (f : Bool) (ps : Option (List (Option ℕ))) → (row_at rs b).root ≡ rt → LeavesOthers rt (fill_in b ks f ps) rs
fill_within rs rt b ks f ps g = record { outside = λ k n. rw (ne_eqb k b (λ e. n (ap (λ x. (row_at rs x).root) e ∙ g))) refl }

-- the root of a family in which nothing waits isn't outdated
not_root : (rs : Rows) (rt b : ℕ) → IsOutdated rs rt b → rt ≡ b → ⊥
not_root rs rt b t e =
    let m : (row_at rs rt).mark ≡ true = (t.order.family rt t.root).lasts t.settled in
    let c : true ≡ false = sym m ∙ ap (λ x. (row_at rs x).mark) e ∙ t.unmarked in
    cc

-- no mark is lost
keeps_fill : (facts : RowLaws) → (rs : Rows) (b : ℕ) (ks : List ℤ) (f : Bool) (o : Option (List (Option ℕ))) → KeepsMarks rs (each (fill_in b ks f o) rs)
keeps_fill facts rs b ks f o v m =
    ap (λ r. r.mark) (facts.numbers.each_at (fill_in b ks f o) rs v (facts.numbers.marked_live rs v m)) ∙ stays (eqb v b) (row_at rs v).mark m where
      stays : (x m : Bool) → m ≡ true → cond x true m ≡ true
      stays true m h = refl
      stays false m h = h

-- what is known stays known, and of the filled view its places are
known_fill : (facts : RowLaws) → (rs : Rows) (rt b : ℕ) (ks : List ℤ) (f : Bool) (o : Option (List (Option ℕ))) → IsOutdated rs rt b → AreKnown rs → f ≡ has_repeats (places_seen rs b) → IsFound rs b o → AreKnown (each (fill_in b ks f o) rs)
known_fill facts rs rt b ks f o t a ef w v h =
    let l : has rs v ≡ true = sym (facts.numbers.each_has (fill_in b ks f o) rs v) ∙ h in
    let row : row_at (each (fill_in b ks f o) rs) v ≡ fill_in b ks f o v (row_at rs v) = facts.numbers.each_at (fill_in b ks f o) rs v l in
    let pl : places_seen (each (fill_in b ks f o) rs) v ≡ places_seen rs v = facts.quiet.places_each (fill_in b ks f o) rs v (fill_quiet b ks f o) in
    let rt_is : (row_at (each (fill_in b ks f o) rs) v).root ≡ (row_at rs v).root = facts.quiet.root_each (fill_in b ks f o) rs v (fill_quiet b ks f o) in
    elim (eqb_tells v b) [
      | inl t2 ↦ (let P : (row_at (each (fill_in b ks f o) rs) v).places ≡ or_known o (row_at rs b).places = ap (λ r. r.places) row ∙ rw t2.0 (ap (λ x. or_known o (row_at rs x).places) t2.1) in
          let R : (row_at (each (fill_in b ks f o) rs) v).repeats ≡ f = ap (λ r. r.repeats) row ∙ rw t2.0 refl in
          record {
            places = λ ps g. w.is ps (sym P ∙ g) ∙ ap (places_seen rs) (sym t2.1) ∙ sym pl;
            repeats = λ ps g. R ∙ ef ∙ ap has_repeats (sym (w.is ps (sym P ∙ g)));
            found = λ m n. ap is_some P ∙ w.some;
            bare = λ n. absurd (n (ap (λ r. r.base) row ∙ ap (λ x. (row_at rs x).base) t2.1 ∙ t.own ∙ sym t2.1));
            unlisted = λ ps g y. not_root rs rt b t (sym (sym t2.1 ∙ sym y ∙ rt_is ∙ ap (λ x. (row_at rs x).root) t2.1 ∙ t.root_is));
          })
      | inr t2 ↦ (let x : IsKnown rs v = a v l in
          let e : row_at (each (fill_in b ks f o) rs) v ≡ row_at rs v = row ∙ rw t2.0 refl in
          record {
            places = λ ps g. x.places ps (ap (λ r. r.places) (sym e) ∙ g) ∙ sym pl;
            repeats = λ ps g. ap (λ r. r.repeats) e ∙ x.repeats ps (ap (λ r. r.places) (sym e) ∙ g);
            found = λ m n. ap (λ r. is_some r.places) e ∙ x.found (ap (λ r. r.mark) (sym e) ∙ m) (λ y. n (ap (λ r. r.root) e ∙ y));
            unlisted = λ ps g y. x.unlisted ps (ap (λ r. r.places) (sym e) ∙ g) (ap (λ r. r.root) (sym e) ∙ y);
            bare = λ n. ap (λ r. r.kept) e ∙ x.bare (λ y. n (ap (λ r. r.base) e ∙ y));
          })
    ]

-- the root's elements stay
fills_latest : (facts : RowLaws) → (rs : Rows) (rt b : ℕ) (ks : List ℤ) (f : Bool) (ps : Option (List (Option ℕ))) → IsOutdated rs rt b → latest (each (fill_in b ks f ps) rs) rt ≡ latest rs rt
fills_latest facts rs rt b ks f ps t =
    let row : row_at (each (fill_in b ks f ps) rs) rt ≡ fill_in b ks f ps rt (row_at rs rt) = facts.numbers.each_at (fill_in b ks f ps) rs rt t.root.0 in
    facts.seen.latest_none (each (fill_in b ks f ps) rs) rt (ap (λ r. r.waiting) row ∙ t.settled) ∙ ap (λ r. r.kept) row ∙ rw (ne_eqb rt b (not_root rs rt b t)) (sym (facts.seen.latest_none rs rt t.settled))

-- the family stays in order
fills_family : (facts : RowLaws) → (rs : Rows) (rt b : ℕ) (ks : List ℤ) (f : Bool) (ps : Option (List (Option ℕ))) → IsOutdated rs rt b → ks ≡ read (places_seen rs b) (latest rs rt) → f ≡ has_repeats (places_seen rs b) → InFamily (each (fill_in b ks f ps) rs) rt
fills_family facts rs rt b ks f ps t ek ef =
    let ns : Rows = each (fill_in b ks f ps) rs in
    let q : IsQuiet (fill_in b ks f ps) = fill_quiet b ks f ps in
    let m : InFamily rs rt = t.order.family rt t.root in
    let nb : rt ≡ b → ⊥ = not_root rs rt b t in
    let row : row_at ns rt ≡ fill_in b ks f ps rt (row_at rs rt) = facts.numbers.each_at (fill_in b ks f ps) rs rt t.root.0 in
    let lt : latest ns rt ≡ latest rs rt = fills_latest facts rs rt b ks f ps t in
    record {
      marked = λ x h g. (let lx : has rs x ≡ true = sym (facts.numbers.each_has (fill_in b ks f ps) rs x) ∙ facts.numbers.marked_live ns x h in
          let rx : (row_at rs x).root ≡ rt = sym (facts.quiet.root_each (fill_in b ks f ps) rs x q) ∙ g in
          let at : row_at ns x ≡ fill_in b ks f ps x (row_at rs x) = facts.numbers.each_at (fill_in b ks f ps) rs x lx in
          let tail : read (places_seen rs x) (latest rs rt) ≡ read (places_seen ns x) (latest ns (row_at ns x).root) = sym (ap (λ p. read p (latest ns (row_at ns x).root)) (facts.quiet.places_each (fill_in b ks f ps) rs x q) ∙ ap (λ r. read (places_seen rs x) (latest ns r)) g ∙ ap (read (places_seen rs x)) lt) in
          elim (eqb_tells x b) [
            | inl y ↦ record {
              own = ap (λ r. r.base) at ∙ ap (λ z. (row_at rs z).base) y.1 ∙ t.own ∙ sym y.1;
              shows = ap (λ r. r.kept) at ∙ rw y.0 (ek ∙ ap (λ z. read (places_seen rs z) (latest rs rt)) (sym y.1) ∙ tail);
              flag = ap (λ r. r.repeats) at ∙ rw y.0 (ef ∙ ap (λ z. has_repeats (places_seen rs z)) (sym y.1) ∙ ap has_repeats (sym (facts.quiet.places_each (fill_in b ks f ps) rs x q)));
            }
            | inr y ↦ (let h2 : (row_at rs x).mark ≡ true = (let k : cond (eqb x b) true (row_at rs x).mark ≡ true = ap (λ r. r.mark) (sym at) ∙ h in rw y.0 at k) in
                let a : IsMarked rs x = m.marked x h2 rx in
                record {
                  own = ap (λ r. r.base) at ∙ a.own;
                  shows = ap (λ r. r.kept) at ∙ rw y.0 (a.shows ∙ ap (λ r. read (places_seen rs x) (latest rs r)) rx ∙ tail);
                  flag = ap (λ r. r.repeats) at ∙ rw y.0 (a.flag ∙ ap has_repeats (sym (facts.quiet.places_each (fill_in b ks f ps) rs x q)));
                })
          ]);
      waits = λ v h. (let c : None ≡ Some v = sym (ap (λ r. r.waiting) row ∙ t.settled) ∙ h in absurd (cc));
      lasts = λ h. ap (λ r. r.mark) row ∙ rw (ne_eqb rt b nb) (m.lasts t.settled);
      count = ap (λ r. length r.kept) row ∙ rw (ne_eqb rt b nb) (m.count ∙ sym (ap (λ r. size_of r.triple.dims) row));
      flat = ap (λ r. r.repeats) row ∙ rw (ne_eqb rt b nb) (m.flat ∙ sym (ap has_repeats (facts.quiet.places_each (fill_in b ks f ps) rs rt q)));
    }

-- so all rows do, and they mean the same world
filled : (facts : RowLaws) → (rs : Rows) (rt b : ℕ) (ks : List ℤ) (f : Bool) (ps : Option (List (Option ℕ))) → IsOutdated rs rt b → ks ≡ read (places_seen rs b) (latest rs rt) → f ≡ has_repeats (places_seen rs b) → InOrder (each (fill_in b ks f ps) rs)
filled facts rs rt b ks f ps t ek ef = facts.quiet.order_each rt (fill_in b ks f ps) rs (fill_quiet b ks f ps) (fill_within rs rt b ks f ps t.root_is) t.order (fills_family facts rs rt b ks f ps t ek ef)

world_filled : (facts : RowLaws) → (rs : Rows) (rt b : ℕ) (ks : List ℤ) (f : Bool) (ps : Option (List (Option ℕ))) → IsOutdated rs rt b → world_of (each (fill_in b ks f ps) rs) ≡ world_of rs
world_filled facts rs rt b ks f ps t = facts.quiet.world_same rt (fill_in b ks f ps) rs (fill_quiet b ks f ps) (fill_within rs rt b ks f ps t.root_is) t.order (fills_latest facts rs rt b ks f ps t)

-- an outdated view was filled from its root
pub is_filled : (facts : RowLaws) → (rs new : Rows) (rt b : ℕ) (ks : List ℤ) (f : Bool) (o : Option (List (Option ℕ))) → IsOutdated rs rt b → AreKnown rs → ks ≡ read (places_seen rs b) (row_at rs rt).kept → f ≡ has_repeats (places_seen rs b) → IsFound rs b o → new ≡ each (fill_in b ks f o) rs → IsFilled rs b new
is_filled facts rs new rt b ks f o t a ek ef w n =
    subst (λ (x : Rows). IsFilled rs b x) (sym n) (record {
      kept = record {
        order = filled facts rs rt b ks f o t (ek ∙ ap (read (places_seen rs b)) (sym (facts.seen.latest_none rs rt t.settled))) ef;
        known = known_fill facts rs rt b ks f o t a ef w;
        world = world_filled facts rs rt b ks f o t;
        alike = facts.quiet.is_alike (fill_in b ks f o) rs (fill_quiet b ks f o);
        marks = keeps_fill facts rs b ks f o;
        waits = λ v. elim (cases_Bool (has rs v)) [
          | inl l ↦ ap (λ x. x.waiting) (facts.numbers.each_at (fill_in b ks f o) rs v l)
          | inr l ↦ ap (λ x. x.waiting) (facts.numbers.each_past (fill_in b ks f o) rs v l)
        ];
      };
      mark = ap (λ r. r.mark) (facts.numbers.each_at (fill_in b ks f o) rs b t.live) ∙ rw (eq-eqb b b refl) refl;
    })
