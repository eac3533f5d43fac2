-- An image, in which a root's elements after an assignment to it stand.
use Rattle.std.proofs.Common.{◌≡◌, ℕ, zero, suc, ◌+◌, ◌-◌, ◌<◌, ◌≤◌, ℤ, pos, Option, Some, false, true, List, [], ◌∷◌, length, map, drop, get_or, refl, sym, ◌∙◌, ap, subst, arith, inl, inr, eq-eqb}
use Rattle.std.specs.Global.{Global}
use Rattle.std.specs.List.{range_with_len}
use Rattle.std.specs.Option.{option_map_or, unwrap_or}
use Rattle.std.specs.Prelude.{Vec, slice_set}
use Rattle.std.proofs.lemmas.Bool.{cases_lt, ne_eqb}
use Rattle.std.proofs.lemmas.Bool.Decides.{eqb_tells}
use Rattle.std.proofs.lemmas.Grind.{get_or-set_at}
use Rattle.std.proofs.lemmas.List.{at_drop_all, at_drop_more, get_or-set_other, length-set}
use Rattle.std.proofs.lemmas.Option.{slice_get-get_or}
use Rattle.pdl_shape.specs.Places.{write}
use Rattle.pdl_shape.specs.Shape.{size_of}
use Rattle.pdl_world.specs.World.{World, Look, look, look_of_root}
use Rattle.pdl_nodes.specs.Placed.{in_order}
use Rattle.pdl_nodes.specs.Row.{Row}
use Rattle.pdl_nodes.specs.RowLaws.{RowLaws}
use Rattle.pdl_nodes.specs.Rows.{Rows, NumbersBelow, row_at}
use Rattle.pdl_nodes.specs.Still.{IsStill, StillFrom}
use Rattle.pdl_nodes.specs.Worlds.{IsRoot, def_from, def_of, places_seen, shape}
use Rattle.pdl_nodes.specs.declared.origin.Origin.{Origin}
use Rattle.pdl_nodes.specs.declared.origin.Origin.TheVariants.{Root, View}
use Rattle.pdl_engine.specs.declared.by_place.Written.TheVariants.{Image}
use Rattle.pdl_engine.specs.Foresights.{IsUnwritten, Tells, elements_after}

-- what is written at places behind another leaves it
run_behind : (a p n : ℕ) (vs es : List ℤ) → p < a → get_or (write (map Some (range_with_len a n)) vs es) p (pos 0) ≡ get_or es p (pos 0)
run_behind a p zero vs es h = refl
run_behind a p (suc n) [] es h = refl
run_behind a p (suc n) (x ∷ vs) es h =
    run_behind (a + 1) p n vs (slice_set es a x) (omega (arith, h)) ∙ get_or-set_other es a p x (pos 0) (λ e. omega (arith, e, h))

-- at neighbouring places the values stand in order
run_written : (a p n : ℕ) (vs es : List ℤ) → n ≤ length vs → a ≤ p → p < a + n → p < length es
    → get_or (write (map Some (range_with_len a n)) vs es) p (pos 0) ≡ get_or vs (p - a) (pos 0)
run_written a p zero vs es few from to inside = absurd (omega arith)
run_written a p (suc n) [] es few from to inside = absurd (omega arith)
run_written a p (suc n) (x ∷ vs) es few from to inside =
    let long : length (slice_set es a x) ≡ length es = length-set es a x in
    elim (cases_lt a p) [
      | inl more ↦ (let z : p - a ≡ suc (p - (a + 1)) = omega (arith, more) in
          run_written (a + 1) p n vs (slice_set es a x) (omega (arith, few)) (omega (arith, more)) (omega (arith, to)) (omega (arith, long, inside))
          ∙ sym (ap (λ (k : ℕ). get_or (x ∷ vs) k (pos 0)) z))
      | inr here ↦ (let e : p ≡ a = omega (arith, here, from) in
          let z : p - a ≡ 0 = omega (arith, here) in
          run_behind (a + 1) p n vs (slice_set es a x) (omega (arith, here)) ∙ get_or-set_at es a p x (pos 0) e (omega (arith, e, inside))
          ∙ sym (ap (λ (k : ℕ). get_or (x ∷ vs) k (pos 0)) z))
    ]

-- the values assigned to all of n places tell what stands at each
pub image_tells : (n : ℕ) (image : Vec ℤ Global) (ps : List (Option ℕ)) (vs es : List ℤ) → ps ≡ in_order n → image.items ≡ vs → length vs ≡ n → length es ≤ n → Tells es (Image image) ps vs
image_tells n image ps vs es order is count small p inside =
    let long : length image.items ≡ length vs = ap length is in
    let z : p - 0 ≡ p = omega arith in
    ap (λ (qs : List (Option ℕ)). get_or (write qs vs es) p (pos 0)) order
    ∙ run_written 0 p n vs es (omega (arith, count)) (omega arith) (omega (arith, small, inside)) inside
    ∙ ap (λ (k : ℕ). get_or vs k (pos 0)) z
    ∙ ap (λ (xs : List ℤ). get_or xs p (pos 0)) (sym is)
    ∙ sym (ap (λ (o : Option ℤ). unwrap_or o (get_or es p (pos 0))) (slice_get-get_or image.items p (pos 0) (omega (arith, long, count, small, inside))))

-- an image of elements over which nothing is written
pub image_unwritten : (image : Vec ℤ Global) (es : List ℤ) → image.items ≡ es → IsUnwritten es (Image image)
image_unwritten image es is =
    let long : length image.items ≡ length es = ap length is in record {
      room = λ p inside. omega (arith, long, inside);
      tells = λ p inside. ap (λ (xs : List ℤ). get_or xs p (pos 0)) (sym is)
          ∙ sym (ap (λ (o : Option ℤ). unwrap_or o (get_or es p (pos 0))) (slice_get-get_or image.items p (pos 0) (omega (arith, long, inside))));
    }

-- at neighbouring places that part of an image is shown
run_shown : (a n : ℕ) (image : Vec ℤ Global) (xs : List ℤ) → length xs ≡ n → a + n ≡ length image.items
    → elements_after (Image image) (map Some (range_with_len a n)) xs ≡ drop a image.items
run_shown a zero image [] long fits = sym (at_drop_all (λ (ys : List ℤ). ys) image.items a (omega (arith, fits)))
run_shown a zero image (x ∷ xs) long fits = absurd (omega arith)
run_shown a (suc n) image [] long fits = absurd (omega arith)
run_shown a (suc n) image (x ∷ xs) long fits =
    ap (λ (o : Option ℤ). unwrap_or o x ∷ elements_after (Image image) (map Some (range_with_len (a + 1) n)) xs) (slice_get-get_or image.items a (pos 0) (omega (arith, fits)))
    ∙ ap (λ (ys : List ℤ). get_or image.items a (pos 0) ∷ ys) (run_shown (a + 1) n image xs (omega (arith, long)) (omega (arith, fits)))
    ∙ sym (at_drop_more (λ (ys : List ℤ). ys) image.items a (pos 0) (omega (arith, fits)))

-- at all places an image is shown as it is
pub image_shows : (image : Vec ℤ Global) (ps : List (Option ℕ)) (before : List ℤ) → ps ≡ in_order (length before) → length image.items ≡ length before
    → elements_after (Image image) ps before ≡ image.items
image_shows image ps before order count =
    ap (λ (qs : List (Option ℕ)). elements_after (Image image) qs before) order ∙ run_shown 0 (length before) image before refl (omega (arith, count))

newest_look : (facts : RowLaws) → (k : ℕ) (r : Row) (rs : Rows) (o : Origin) → IsStill rs → NumbersBelow k rs → StillFrom rs k r o → r.root ≡ k
    → look ((k, def_from r.ty r.triple.dims o) ∷ shape rs) k ≡ Some (look_of_root k r.ty r.triple.dims)
newest_look facts k r rs Root s b h e = rw (eq-eqb k k refl) refl
newest_look facts k r rs (View p t y) s b h e =
    absurd (facts.numbers.not_newest rs k (row_at rs p).root b (facts.seen.is_seen rs s p h.0).root_has (sym e ∙ h.1.root_is))

older_look : (k v : ℕ) (r : Row) (w : World) (o : Origin) → (k ≡ v → ⊥) → look ((k, def_from r.ty r.triple.dims o) ∷ w) v ≡ look w v
older_look k v r w Root n = rw (ne_eqb k v n) refl
older_look k v r w (View p t y) n = rw (ne_eqb k v n) refl

root_look : (facts : RowLaws) → (rs : Rows) (v : ℕ) → IsStill rs → IsRoot rs v → look (shape rs) v ≡ Some (look_of_root v (row_at rs v).ty (row_at rs v).triple.dims)
root_look facts [] v s i = let n : false ≡ true = i.0 in absurd (cc)
root_look facts ((k, r) ∷ rs) v s i = elim (eqb_tells k v) [
  | inl t ↦ (let here : r.root ≡ k = rw t.0 at i.1 ∙ sym t.1 in
      let row : row_at ((k, r) ∷ rs) v ≡ r = rw t.0 refl in
      subst (λ (x : ℕ). look ((k, def_of r) ∷ shape rs) x ≡ Some (look_of_root x r.ty r.triple.dims)) t.1 (newest_look facts k r rs r.origin s.2 s.0 s.1 here)
      ∙ ap (λ (q : Row). Some (look_of_root v q.ty q.triple.dims)) (sym row))
  | inr t ↦ (let row : row_at ((k, r) ∷ rs) v ≡ row_at rs v = rw t.0 refl in
      older_look k v r (shape rs) r.origin t.1 ∙ root_look facts rs v s.2 (rw t.0 at i)
      ∙ ap (λ (q : Row). Some (look_of_root v q.ty q.triple.dims)) (sym row))
]

-- the places of a root are all of them, in order
pub root_places : (facts : RowLaws) → (rs : Rows) (v : ℕ) → IsStill rs → IsRoot rs v → places_seen rs v ≡ in_order (size_of (row_at rs v).triple.dims)
root_places facts rs v s i = ap (λ (o : Option Look). option_map_or (λ (l : Look). l.places) o []) (root_look facts rs v s i)
