-- Values that wait in a base: rows stay in order, and mean the world that is assigned.
use Rattle.std.proofs.Common.{suc, zero, [], ◌∷◌, drop, ◌≡◌, ℕ, ℤ, true, false, eqb, cond, List, length, map, Option, Some, None, inl, inr, refl, sym, ◌∙◌, ap, subst}
use Rattle.std.proofs.lemmas.Bool.{eq-eqb, ne_eqb}
use Rattle.std.proofs.lemmas.Bool.Decides.{eqb_tells}
use Rattle.std.proofs.lemmas.List.{length-map, drop-map}
use Rattle.pdl_shape.specs.Places.{AllBelow, read, write, element_at}
use Rattle.pdl_shape.specs.Shape.{size_of}
use Rattle.pdl_nodes.specs.Assigned.{entry, seen}
use Rattle.pdl_nodes.specs.Families.{has_repeats, IsMarked, IsWaiting, InFamily, InOrder}
use Rattle.pdl_world.specs.Parts.{assign_part}
use Rattle.pdl_nodes.specs.Put.{put_at}
use Rattle.pdl_nodes.specs.Quiet.{IsQuiet, LeavesOthers}
use Rattle.pdl_nodes.specs.RowLaws.{RowLaws}
use Rattle.pdl_nodes.specs.Rows.{Rows, row_at, has, each}
use Rattle.pdl_nodes.specs.Seen.{IsSeen}
use Rattle.pdl_nodes.specs.Spots.{spots, Below}
use Rattle.pdl_nodes.specs.declared.node.Goal.TheVariants.{Base}
use Rattle.pdl_nodes.specs.Worlds.{places_seen, latest, world_of, IsRoot}
use Rattle.pdl_push.specs.Late.{await}
use Rattle.pdl_push.proofs.PlacePuts.{write_read, write_all, read_all}

-- v is shown over the marked base b without repeats, in the family of the root rt
pub record IsThrough (rs : Rows) (rt b v : ℕ) : Type 0 where
  pub order : InOrder rs
  pub root : IsRoot rs rt
  pub live : has rs v ≡ true
  pub base_is : (row_at rs v).base ≡ b
  pub root_is : (row_at rs v).root ≡ rt
  pub marked : (row_at rs b).mark ≡ true
  pub once : has_repeats (places_seen rs b) ≡ false

pub await_quiet : (rt b : ℕ) (ks : List ℤ) → IsQuiet (await rt b ks)
await_quiet rt b ks = record { origin = λ k r. refl; ty = λ k r. refl; root = λ k r. refl; base = λ k r. refl; triple = λ k r. refl }

await_within : (rs : Rows) (rt b : ℕ) (ks : List ℤ) → (row_at rs rt).root ≡ rt → (row_at rs b).root ≡ rt → LeavesOthers rt (await rt b ks) rs
await_within rs rt b ks h g = record {
  outside = λ k n. rw (ne_eqb (row_at rs k).root rt n, ne_eqb k rt (λ e. n (ap (λ x. (row_at rs x).root) e ∙ h)), ne_eqb k b (λ e. n (ap (λ x. (row_at rs x).root) e ∙ g))) refl;
}

-- what a marked base keeps, written into the root, gives its latest elements
writes_from : (facts : RowLaws) → (rs : Rows) (rt b : ℕ) (o : Option ℕ) → (row_at rs rt).waiting ≡ o → InFamily rs rt → (row_at rs b).mark ≡ true → (row_at rs b).root ≡ rt → write (places_seen rs b) (row_at rs b).kept (row_at rs rt).kept ≡ latest rs rt
writes_from facts rs rt b None e m h g =
    let k : (row_at rs b).kept ≡ read (places_seen rs b) (row_at rs rt).kept = (m.marked b h g).shows ∙ ap (λ r. read (places_seen rs b) (latest rs r)) g ∙ ap (read (places_seen rs b)) (facts.seen.latest_none rs rt e) in
    ap (λ x. write (places_seen rs b) x (row_at rs rt).kept) k ∙ write_read (places_seen rs b) (row_at rs rt).kept ∙ sym (facts.seen.latest_none rs rt e)
writes_from facts rs rt b (Some v) e m h g =
    let n : b ≡ v = (m.waits v e).only b h g in
    ap (λ x. write (places_seen rs x) (row_at rs x).kept (row_at rs rt).kept) n ∙ sym (facts.seen.latest_some rs rt v e)

kept_writes : (facts : RowLaws) → (rs : Rows) (rt b : ℕ) → InFamily rs rt → (row_at rs b).mark ≡ true → (row_at rs b).root ≡ rt → write (places_seen rs b) (row_at rs b).kept (row_at rs rt).kept ≡ latest rs rt
kept_writes facts rs rt b m h g = writes_from facts rs rt b (row_at rs rt).waiting refl m h g

-- what is so of the marked base b of v, in the family of rt
record BaseFacts (rs : Rows) (rt b v : ℕ) : Type 0 where
  pub live : has rs b ≡ true
  pub root_is : (row_at rs b).root ≡ rt
  pub is_marked : IsMarked rs b
  pub shows : (row_at rs b).kept ≡ read (places_seen rs b) (latest rs rt)
  pub count : length (row_at rs b).kept ≡ length (places_seen rs b)
  pub over : places_seen rs v ≡ map (entry (places_seen rs b)) (spots (row_at rs v).triple)
  pub below : Below (length (places_seen rs b)) (spots (row_at rs v).triple)
  pub within : AllBelow (length (latest rs rt)) (places_seen rs b)

base_facts : (facts : RowLaws) → (rs : Rows) (rt b v : ℕ) → InOrder rs → IsRoot rs rt → has rs v ≡ true → (row_at rs v).base ≡ b → (row_at rs v).root ≡ rt → (row_at rs b).mark ≡ true → BaseFacts rs rt b v
base_facts facts rs rt b v o i l eb er m =
    let s : IsSeen rs v = facts.seen.is_seen rs o.still v l in
    let lb : has rs b ≡ true = facts.numbers.marked_live rs b m in
    let sb : IsSeen rs b = facts.seen.is_seen rs o.still b lb in
    let rb : (row_at rs b).root ≡ rt = ap (λ x. (row_at rs x).root) (sym eb) ∙ s.base_root ∙ er in
    let a : IsMarked rs b = (o.family rt i).marked b m rb in
    let shows : (row_at rs b).kept ≡ read (places_seen rs b) (latest rs rt) = a.shows ∙ ap (λ r. read (places_seen rs b) (latest rs r)) rb in
    record {
      live = lb;
      root_is = rb;
      is_marked = a;
      shows = shows;
      count = ap length shows ∙ length-map (places_seen rs b) (element_at (latest rs rt));
      over = s.over ∙ ap (λ x. map (entry (places_seen rs x)) (spots (row_at rs v).triple)) eb;
      below = rw sb.count (let P : ℕ → Type 0 = λ x. Below (size_of (row_at rs x).triple.dims) (spots (row_at rs v).triple) in subst P eb s.fits);
      within = (let P : ℕ → Type 0 = λ n. AllBelow n (places_seen rs b) in subst P (ap (λ x. size_of (row_at rs x).triple.dims) rb ∙ sym (facts.seen.length_latest rs rt ∙ (o.family rt i).count)) sb.within);
    }

-- what holds of the base's places that are shown holds of those from a position on
below_drop : (n first : ℕ) (is : List ℕ) → Below n is → Below n (drop first is)
below_drop n zero is h = h
below_drop n (suc k) [] h = h
below_drop n (suc k) (i ∷ is) h = below_drop n k is h.1

over_drop : (rs : Rows) (b v first : ℕ) → places_seen rs v ≡ map (entry (places_seen rs b)) (spots (row_at rs v).triple) → drop first (places_seen rs v) ≡ map (entry (places_seen rs b)) (drop first (spots (row_at rs v).triple))
over_drop rs b v first e = ap (drop first) e ∙ drop-map (entry (places_seen rs b)) first (spots (row_at rs v).triple)

-- what the base keeps then
put_shown : (rs : Rows) (b v first : ℕ) (vs : List ℤ) → (row_at rs v).base ≡ b → put_at Base rs v first vs ≡ write (map (seen (places_seen rs b)) (drop first (spots (row_at rs v).triple))) vs (row_at rs b).kept
put_shown rs b v first vs e =
    ap (λ x. write (drop first (map (seen (places_seen rs x)) (spots (row_at rs v).triple))) vs (row_at rs x).kept) e
    ∙ ap (λ (ps : List (Option ℕ)). write ps vs (row_at rs b).kept) (drop-map (seen (places_seen rs b)) first (spots (row_at rs v).triple))

-- the latest elements are those with the values written at the places of v
awaits_latest : (facts : RowLaws) → (rs : Rows) (rt b v first : ℕ) (vs : List ℤ) → IsThrough rs rt b v → BaseFacts rs rt b v → (b ≡ rt → ⊥) → latest (each (await rt b (put_at Base rs v first vs)) rs) rt ≡ write (drop first (places_seen rs v)) vs (latest rs rt)
awaits_latest facts rs rt b v first vs t f n =
    let ks : List ℤ = put_at Base rs v first vs in
    let ns : Rows = each (await rt b ks) rs in
    let row : row_at ns rt ≡ await rt b ks rt (row_at rs rt) = facts.numbers.each_at (await rt b ks) rs rt t.root.0 in
    let base : row_at ns b ≡ await rt b ks b (row_at rs b) = facts.numbers.each_at (await rt b ks) rs b f.live in
    let kb : (row_at ns b).kept ≡ ks = ap (λ r. r.kept) base ∙ rw (eq-eqb b b refl) refl in
    let kr : (row_at ns rt).kept ≡ (row_at rs rt).kept = ap (λ r. r.kept) row ∙ rw (ne_eqb rt b (λ e. n (sym e))) refl in
    facts.seen.latest_some ns rt b (ap (λ r. r.waiting) row ∙ rw (eq-eqb rt rt refl) refl)
    ∙ ap (λ p. write p (row_at ns b).kept (row_at ns rt).kept) (facts.quiet.places_each (await rt b ks) rs b (await_quiet rt b ks))
    ∙ ap (λ x. write (places_seen rs b) x (row_at ns rt).kept) kb
    ∙ ap (write (places_seen rs b) ks) kr
    ∙ ap (λ x. write (places_seen rs b) x (row_at rs rt).kept) (put_shown rs b v first vs t.base_is)
    ∙ write_all (places_seen rs b) (drop first (spots (row_at rs v).triple)) vs (row_at rs b).kept (row_at rs rt).kept t.once f.count (below_drop (length (places_seen rs b)) first (spots (row_at rs v).triple) f.below)
    ∙ ap (λ x. write x vs (write (places_seen rs b) (row_at rs b).kept (row_at rs rt).kept)) (sym (over_drop rs b v first f.over))
    ∙ ap (write (drop first (places_seen rs v)) vs) (kept_writes facts rs rt b (t.order.family rt t.root) t.marked f.root_is)

-- the base keeps what it shows of them
put_shows : (rs : Rows) (rt b v first : ℕ) (vs : List ℤ) → IsThrough rs rt b v → BaseFacts rs rt b v → put_at Base rs v first vs ≡ read (places_seen rs b) (write (drop first (places_seen rs v)) vs (latest rs rt))
put_shows rs rt b v first vs t f =
    put_shown rs b v first vs t.base_is
    ∙ read_all (places_seen rs b) (drop first (spots (row_at rs v).triple)) vs (row_at rs b).kept (latest rs rt) t.once f.within (below_drop (length (places_seen rs b)) first (spots (row_at rs v).triple) f.below) f.shows
    ∙ ap (λ x. read (places_seen rs b) (write x vs (latest rs rt))) (sym (over_drop rs b v first f.over))

-- the family is in order
awaits_family : (facts : RowLaws) → (rs : Rows) (rt b v first : ℕ) (vs : List ℤ) → IsThrough rs rt b v → BaseFacts rs rt b v → (b ≡ rt → ⊥) → InFamily (each (await rt b (put_at Base rs v first vs)) rs) rt
awaits_family facts rs rt b v first vs t f n =
    let ks : List ℤ = put_at Base rs v first vs in
    let ns : Rows = each (await rt b ks) rs in
    let q : IsQuiet (await rt b ks) = await_quiet rt b ks in
    let row : row_at ns rt ≡ await rt b ks rt (row_at rs rt) = facts.numbers.each_at (await rt b ks) rs rt t.root.0 in
    let base : row_at ns b ≡ await rt b ks b (row_at rs b) = facts.numbers.each_at (await rt b ks) rs b f.live in
    let kb : (row_at ns b).kept ≡ ks = ap (λ r. r.kept) base ∙ rw (eq-eqb b b refl) refl in
    let rb : (row_at ns b).root ≡ rt = facts.quiet.root_each (await rt b ks) rs b q ∙ f.root_is in
    let mb : (row_at ns b).mark ≡ true = ap (λ r. r.mark) base ∙ rw (eq-eqb (row_at rs b).root rt f.root_is, eq-eqb b b refl) refl in
    let wait : (row_at ns rt).waiting ≡ Some b = ap (λ r. r.waiting) row ∙ rw (eq-eqb rt rt refl) refl in
    let only : (x : ℕ) → (row_at ns x).mark ≡ true → (row_at ns x).root ≡ rt → x ≡ b = λ x h g. (
    let lx : has rs x ≡ true = sym (facts.numbers.each_has (await rt b ks) rs x) ∙ facts.numbers.marked_live ns x h in
    let rx : (row_at rs x).root ≡ rt = sym (facts.quiet.root_each (await rt b ks) rs x q) ∙ g in
    let h2 : cond (eqb (row_at rs x).root rt) (cond (eqb x b) true (cond false (eqb x rt) false)) (row_at rs x).mark ≡ true = sym (ap (λ r. r.mark) (facts.numbers.each_at (await rt b ks) rs x lx)) ∙ h in
    let h3 : cond (eqb x b) true false ≡ true = rw (eq-eqb (row_at rs x).root rt rx) at h2 in
    elim (eqb_tells x b) [ inl y ↦ y.1 | inr y ↦ (let c : cond false true false ≡ true = rw y.0 at h3 in absurd (cc)) ]) in
    record {
      marked = λ x h g. (let e : x ≡ b = only x h g in
          let a : IsMarked ns b = record {
            own = ap (λ r. r.base) base ∙ f.is_marked.own;
            shows = kb ∙ put_shows rs rt b v first vs t f ∙ ap (read (places_seen rs b)) (sym (awaits_latest facts rs rt b v first vs t f n)) ∙ ap (λ r. read (places_seen rs b) (latest ns r)) (sym rb) ∙ ap (λ p. read p (latest ns (row_at ns b).root)) (sym (facts.quiet.places_each (await rt b ks) rs b q));
            flag = ap (λ r. r.repeats) base ∙ f.is_marked.flag ∙ ap has_repeats (sym (facts.quiet.places_each (await rt b ks) rs b q));
          } in
          let P : ℕ → Type 0 = λ y. IsMarked ns y in subst P (sym e) a);
      waits = λ x h. (let e : Some b ≡ Some x = sym wait ∙ h in
          let d : b ≡ x = cc in
          let a : IsWaiting ns rt b = record {
            live = facts.numbers.each_has (await rt b ks) rs b ∙ f.live;
            marked = mb;
            of_root = rb;
            not_root = n;
            once = ap has_repeats (facts.quiet.places_each (await rt b ks) rs b q) ∙ t.once;
            only = only;
          } in
          let P : ℕ → Type 0 = λ y. IsWaiting ns rt y in subst P d a);
      lasts = λ h. (let c : Some b ≡ None = sym wait ∙ h in absurd (cc));
      count = ap (λ r. length r.kept) row ∙ rw (ne_eqb rt b (λ e. n (sym e))) ((t.order.family rt t.root).count ∙ sym (ap (λ r. size_of r.triple.dims) row));
      flat = ap (λ r. r.repeats) row ∙ (t.order.family rt t.root).flat ∙ sym (ap has_repeats (facts.quiet.places_each (await rt b ks) rs rt q));
    }

-- so all rows are, and values that were assigned to v wait in its base
pub awaited : (facts : RowLaws) → (rs : Rows) (rt b v first : ℕ) (vs : List ℤ) → IsThrough rs rt b v → (b ≡ rt → ⊥) → InOrder (each (await rt b (put_at Base rs v first vs)) rs)
awaited facts rs rt b v first vs t n =
    let f : BaseFacts rs rt b v = base_facts facts rs rt b v t.order t.root t.live t.base_is t.root_is t.marked in
    facts.quiet.order_each rt (await rt b (put_at Base rs v first vs)) rs (await_quiet rt b (put_at Base rs v first vs)) (await_within rs rt b (put_at Base rs v first vs) t.root.1 f.root_is) t.order (awaits_family facts rs rt b v first vs t f n)

pub world_awaited : (facts : RowLaws) → (rs : Rows) (rt b v first : ℕ) (vs : List ℤ) → IsThrough rs rt b v → (b ≡ rt → ⊥) → world_of (each (await rt b (put_at Base rs v first vs)) rs) ≡ assign_part (world_of rs) v first vs
world_awaited facts rs rt b v first vs t n =
    let f : BaseFacts rs rt b v = base_facts facts rs rt b v t.order t.root t.live t.base_is t.root_is t.marked in
    facts.quiet.world_assigned rt (await rt b (put_at Base rs v first vs)) rs v first vs (await_quiet rt b (put_at Base rs v first vs)) (await_within rs rt b (put_at Base rs v first vs) t.root.1 f.root_is) t.order t.live t.root_is (awaits_latest facts rs rt b v first vs t f n)
