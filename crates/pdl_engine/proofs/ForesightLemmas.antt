-- What an assignment will write, and what an array shows after it.
use Rattle.std.proofs.Common.{◌≡◌, ◌≢◌, Bool, rules, ℕ, zero, suc, ◌+◌, ◌<◌, ℤ, pos, Option, None, Some, false, true, List, [], ◌∷◌, length, take, drop, get_or, refl, sym, ◌∙◌, ap, subst, arith, inl, inr, eqb-true, eq-eqb}
use Rattle.std.specs.Prelude.{◌==◌, ◌↔◌, IsSomeAnd, IsTrue, not, nat_eq}
use Rattle.std.specs.Option.{option_map_or, unwrap_or}
use Rattle.std.proofs.lemmas.Bool.{ne_eqb, true≢false}
use Rattle.std.proofs.lemmas.Bool.Decides.{eqb_tells}
use Rattle.std.proofs.lemmas.Grind.{get_or-set_at}
use Rattle.std.proofs.lemmas.List.{at_drop_more, get_or-set_other, length-set}
use Rattle.pdl_lemmas.specs.Tests.{by_test}
use Rattle.pdl_shape.specs.Places.{element_at, put, read, write}
use Rattle.pdl_shape.specs.Shape.{size_of}
use Rattle.pdl_shape.specs.Triple.{Triple}
use Rattle.pdl_world.specs.Laws.{PlacesLieWithin, Reads}
use Rattle.pdl_world.specs.Paths.{root_of}
use Rattle.pdl_world.specs.Sound.{IsLive, IsSound}
use Rattle.pdl_world.specs.World.{World, Look, assign, elements, look, places_in, root_elements}
use Rattle.pdl_nodes.specs.Families.{InOrder}
use Rattle.pdl_nodes.specs.Alike.{is_fresh_in}
use Rattle.pdl_nodes.specs.Known.{AreKnown}
use Rattle.pdl_nodes.specs.Placed.{placed_by}
use Rattle.pdl_nodes.specs.Row.{Row}
use Rattle.pdl_nodes.specs.RowLaws.{RowLaws}
use Rattle.pdl_nodes.specs.Rows.{Rows, NumbersBelow, has, row_at}
use Rattle.pdl_nodes.specs.Still.{IsStill, StillFrom}
use Rattle.pdl_nodes.specs.Worlds.{IsRoot, def_from, def_of, latest, places_seen, shape, with_elements, world_of}
use Rattle.pdl_nodes.specs.declared.origin.Origin.{Origin}
use Rattle.pdl_nodes.specs.declared.origin.Origin.TheVariants.{Root, View}
use Rattle.pdl_engine.specs.declared.foreseeing.Foresight.{Foresight}
use Rattle.pdl_engine.specs.declared.by_place.Written.{Written}
use Rattle.pdl_engine.specs.Foresights.{Foretells, Tells, element_after, elements_after, put_at, written_at}
use Rattle.pdl_engine.proofs.StateOfWorlds.{has_live, live_has, look_is, root_are}

-- the elements of a root in the world are those that the rows say
newest : (facts : RowLaws) → (f : ℕ → List ℤ) (k : ℕ) (r : Row) (rs : Rows) (o : Origin) → IsStill rs → NumbersBelow k rs → StillFrom rs k r o → r.root ≡ k
    → root_elements (with_elements f ((k, def_from r.ty r.triple.dims o) ∷ shape rs)) k ≡ f k
newest facts f k r rs Root s b h e = rw (eq-eqb k k refl) refl
newest facts f k r rs (View p t y) s b h e =
    absurd (facts.numbers.not_newest rs k (row_at rs p).root b (facts.seen.is_seen rs s p h.0).root_has (sym e ∙ h.1.root_is))

older : (f : ℕ → List ℤ) (k v : ℕ) (r : Row) (w : World) (o : Origin) → (k ≡ v → ⊥)
    → root_elements (with_elements f ((k, def_from r.ty r.triple.dims o) ∷ w)) v ≡ root_elements (with_elements f w) v
older f k v r w Root n = rw (ne_eqb k v n) refl
older f k v r w (View p t y) n = refl

roots_with : (facts : RowLaws) → (f : ℕ → List ℤ) (rs : Rows) (v : ℕ) → IsStill rs → IsRoot rs v → root_elements (with_elements f (shape rs)) v ≡ f v
roots_with facts f [] v s i = let n : false ≡ true = i.0 in absurd (cc)
roots_with facts f ((k, r) ∷ rs) v s i = elim (eqb_tells k v) [
  | inl t ↦ (let here : r.root ≡ k = rw t.0 at i.1 ∙ sym t.1 in
      subst (λ (x : ℕ). root_elements (with_elements f ((k, def_of r) ∷ shape rs)) x ≡ f x) t.1 (newest facts f k r rs r.origin s.2 s.0 s.1 here))
  | inr t ↦ older f k v r (shape rs) r.origin t.1 ∙ roots_with facts f rs v s.2 (rw t.0 at i)
]

-- an array of the target's root shows what the values leave of the root's elements
pub shown_within : (facts : RowLaws) → Reads → (rs : Rows) (v u : ℕ) (vs : List ℤ) → IsStill rs → has rs v ≡ true → has rs u ≡ true → (row_at rs v).root ≡ (row_at rs u).root
    → elements (assign (world_of rs) v vs) u ≡ read (places_seen rs u) (write (places_seen rs v) vs (root_elements (world_of rs) (row_at rs v).root))
shown_within facts reads rs v u vs s h g e =
    reads (world_of rs) v u _ _ vs (look_is facts rs v s h) (look_is facts rs u s g)
    ∙ rw (eq-eqb (row_at rs u).root (row_at rs v).root (sym e)) refl

-- and an array of another root stays
apart_by : Reads → (w : World) (v u : ℕ) (vs : List ℤ) (o p : Option Look) → look w v ≡ o → look w u ≡ p → IsLive w v → IsLive w u → (root_of w u ≡ root_of w v → ⊥)
    → elements (assign w v vs) u ≡ elements w u
apart_by reads w v u vs None p is its live there apart = let h : IsSomeAnd None (λ (l : Look). Unit {0}) = subst (λ (o : Option Look). IsSomeAnd o (λ l. Unit {0})) is live in absurd h
apart_by reads w v u vs (Some l) None is its live there apart = let h : IsSomeAnd None (λ (l : Look). Unit {0}) = subst (λ (o : Option Look). IsSomeAnd o (λ l. Unit {0})) its there in absurd h
apart_by reads w v u vs (Some l) (Some m) is its live there apart =
    let roots : m.root ≡ l.root → ⊥ = λ e. apart (ap (λ o. option_map_or (λ (x : Look). x.root) o u) its ∙ e ∙ sym (ap (λ o. option_map_or (λ (x : Look). x.root) o v) is)) in
    reads w v u l m vs is its ∙ rw (ne_eqb m.root l.root roots)
    (sym (ap (λ o. option_map_or (λ (x : Look). read x.places (root_elements w x.root)) o []) its))

pub apart_stays : Reads → (w : World) (v u : ℕ) (vs : List ℤ) → IsLive w v → IsLive w u → (root_of w u ≡ root_of w v → ⊥) → elements (assign w v vs) u ≡ elements w u
apart_stays reads w v u vs live there apart = apart_by reads w v u vs (look w v) (look w u) refl refl live there apart

-- two roots differ where their numbers do
pub roots_differ : (x y m n : ℕ) → x ≡ m → y ≡ n → IsTrue (not (nat_eq x y)) ↔ (m ≢ n)
roots_differ x y m n a b = (to, from)
  where
    to : IsTrue (not (nat_eq x y)) → m ≢ n
    to t e = let q : nat_eq x y ≡ true = eq-eqb x y (a ∙ e ∙ sym b) in let z : IsTrue false = subst (λ (r : Bool). IsTrue (not r)) q t in true≢false (sym z)

    from : m ≢ n → IsTrue (not (nat_eq x y))
    from apart = by_test (nat_eq x y)
        (λ same. absurd (apart (sym a ∙ eqb-true x y same ∙ b)))
        (λ other. (let z : IsTrue true = search rules in subst (λ (r : Bool). IsTrue (not r)) (sym other) z))

-- the places that a fresh array has, as what its row and its base's say
pub places_now : (facts : RowLaws) → (rs : Rows) (v : ℕ) (n b : Row) (k : Option (List (Option ℕ))) (t : Triple) → InOrder rs → AreKnown rs → has rs v ≡ true → is_fresh_in rs v ≡ true
    → n ≡ row_at rs v → b ≡ row_at rs n.base → k ≡ b.places → t ≡ n.triple → placed_by k t ≡ places_seen rs v
places_now facts rs v n b k t o a h f en eb ek et =
    ap (λ x. placed_by x t) (ek ∙ ap (λ (r : Row). r.places) (eb ∙ ap (λ (r : Row). row_at rs r.base) en))
    ∙ ap (placed_by (row_at rs (row_at rs v).base).places) (et ∙ ap (λ (r : Row). r.triple) en)
    ∙ facts.seen.over_known rs v o a h f

-- an element after a value was put at its place
put_found : (o : Option ℕ) (x : ℤ) (es : List ℤ) (p : ℕ) → p < length es → get_or (put o x es) p (pos 0) ≡ unwrap_or (put_at o x p None) (get_or es p (pos 0))
put_found None x es p inside = refl
put_found (Some i) x es p inside =
    by_test (i == p)
    (λ same. (let e : i ≡ p = eqb-true i p same in rw same (get_or-set_at es i p x (pos 0) (sym e) (omega (arith, e, inside)))))
    (λ other. (let apart : p ≢ i = λ e. (let t : (i == p) ≡ true = eq-eqb i p (sym e) in cc) in rw other (get_or-set_other es i p x (pos 0) apart)))

-- what is put over what is written
put_over : (o : Option ℕ) (x : ℤ) (p : ℕ) (was : Option ℤ) (y : ℤ) → unwrap_or (put_at o x p was) y ≡ unwrap_or (put_at o x p None) (unwrap_or was y)
put_over None x p was y = refl
put_over (Some i) x p was y = by_test (i == p) (λ same. rw same refl) (λ other. rw other refl)

put_long : (o : Option ℕ) (x : ℤ) (es : List ℤ) → length (put o x es) ≡ length es
put_long None x es = refl
put_long (Some i) x es = length-set es i x

write_long : (ps : List (Option ℕ)) (vs es : List ℤ) → length (write ps vs es) ≡ length es
write_long [] vs es = refl
write_long (p ∷ ps) [] es = refl
write_long (p ∷ ps) (x ∷ vs) es = write_long ps vs (put p x es) ∙ put_long p x es

-- the last value is put over the others
write_last : (ps : List (Option ℕ)) (vs es : List ℤ) (i : ℕ) → i < length ps → i < length vs
    → write (take (suc i) ps) (take (suc i) vs) es ≡ put (get_or ps i None) (get_or vs i (pos 0)) (write (take i ps) (take i vs) es)
write_last [] vs es i h g = absurd (omega arith)
write_last (p ∷ ps) [] es i h g = absurd (omega arith)
write_last (p ∷ ps) (x ∷ vs) es zero h g = refl
write_last (p ∷ ps) (x ∷ vs) es (suc i) h g = write_last ps vs (put p x es) i (omega arith) (omega arith)

-- where nothing is written no value tells more
pub tells_nothing : (es : List ℤ) (w : Written) → ((p : ℕ) → written_at w p ≡ None) → Tells es w [] []
tells_nothing es w none p inside = ap (λ (o : Option ℤ). unwrap_or o (get_or es p (pos 0))) (sym (none p))

-- one value more is written
pub tells_more : (es : List ℤ) (w new : Written) (ps : List (Option ℕ)) (vs : List ℤ) (i : ℕ) → i < length ps → i < length vs
    → ((p : ℕ) → p < length es → written_at new p ≡ put_at (get_or ps i None) (get_or vs i (pos 0)) p (written_at w p))
    → Tells es w (take i ps) (take i vs) → Tells es new (take (suc i) ps) (take (suc i) vs)
tells_more es w new ps vs i h g is tells p inside =
    let o : Option ℕ = get_or ps i None in
    let x : ℤ = get_or vs i (pos 0) in
    let long : length (write (take i ps) (take i vs) es) ≡ length es = write_long (take i ps) (take i vs) es in
    ap (λ (xs : List ℤ). get_or xs p (pos 0)) (write_last ps vs es i h g)
    ∙ put_found o x (write (take i ps) (take i vs) es) p (omega (arith, long, inside))
    ∙ ap (unwrap_or (put_at o x p None)) (tells p inside)
    ∙ sym (put_over o x p (written_at w p) (get_or es p (pos 0)))
    ∙ ap (λ (q : Option ℤ). unwrap_or q (get_or es p (pos 0))) (sym (is p inside))

-- one element more after what is written
pub after_more : (w : Written) (ps : List (Option ℕ)) (xs : List ℤ) (i : ℕ) → i < length ps → i < length xs
    → elements_after w (drop i ps) (drop i xs) ≡ element_after w (get_or ps i None) (get_or xs i (pos 0)) ∷ elements_after w (drop (i + 1) ps) (drop (i + 1) xs)
after_more w ps xs i h g =
    at_drop_more (λ (qs : List (Option ℕ)). elements_after w qs (drop i xs)) ps i None h
    ∙ at_drop_more (λ (ys : List ℤ). elements_after w (get_or ps i None ∷ drop (i + 1) ps) ys) xs i (pos 0) g

-- there are as many of them
pub after_long : (w : Written) (ps : List (Option ℕ)) (xs : List ℤ) → length ps ≡ length xs → length (elements_after w ps xs) ≡ length xs
after_long w [] xs e = e
after_long w (p ∷ ps) [] e = absurd (omega arith)
after_long w (p ∷ ps) (x ∷ xs) e = ap suc (after_long w ps xs (omega arith))

after_at : (w : Written) (ps : List (Option ℕ)) (vs es : List ℤ) (q : Option ℕ) → Tells es w ps vs → ((i : ℕ) → q ≡ Some i → i < length es)
    → element_after w q (element_at es q) ≡ element_at (write ps vs es) q
after_at w ps vs es None tells within = refl
after_at w ps vs es (Some i) tells within = sym (tells i (within i refl))

-- elements after what is written are those after the values
pub after_is : (w : Written) (ps qs : List (Option ℕ)) (vs es : List ℤ) → Tells es w ps vs → ((j i : ℕ) → get_or qs j None ≡ Some i → i < length es)
    → elements_after w qs (read qs es) ≡ read qs (write ps vs es)
after_is w ps [] vs es tells within = refl
after_is w ps (q ∷ qs) vs es tells within =
    ap (λ (x : ℤ). x ∷ elements_after w qs (read qs es)) (after_at w ps vs es q tells (λ i is. within 0 i is))
    ∙ ap (λ (xs : List ℤ). element_at (write ps vs es) q ∷ xs) (after_is w ps qs vs es tells (λ j i is. within (suc j) i is))

-- a root has no more elements than its row says
pub root_small : (facts : RowLaws) → (rs : Rows) (v : ℕ) → InOrder rs → has rs v ≡ true
    → length (root_elements (world_of rs) (row_at rs v).root) ≡ size_of (row_at rs (row_at rs v).root).triple.dims
root_small facts rs v o h =
    let r : ℕ = (row_at rs v).root in
    let i : IsRoot rs r = facts.seen.root_live rs r v o.still h refl in
    ap length (roots_with facts (latest rs) rs r o.still i) ∙ facts.seen.length_latest rs r ∙ (o.family r i).count

-- a root shows its elements
pub root_shown : (facts : RowLaws) → (rs : Rows) (r : ℕ) → InOrder rs → IsRoot rs r → elements (world_of rs) r ≡ root_elements (world_of rs) r
root_shown facts rs r o i =
    facts.seen.elements_are rs r o.still i.0 ∙ ap (λ x. read (places_seen rs r) (latest rs x)) i.1
    ∙ facts.seen.root_shows rs r (latest rs r) o.still i (facts.seen.length_latest rs r ∙ (o.family r i).count)
    ∙ sym (roots_with facts (latest rs) rs r o.still i)

-- the values written by the target's places tell what is assigned to it
pub foretold : (facts : RowLaws) → (rs : Rows) (v : ℕ) (vs : List ℤ) (f : Foresight) (ps : List (Option ℕ)) → InOrder rs → has rs v ≡ true
    → f.root ≡ (row_at rs v).root → ps ≡ places_seen rs v → Tells (root_elements (world_of rs) (row_at rs v).root) f.written ps vs → Foretells (world_of rs) v vs f
foretold facts rs v vs f ps o h root places tells = record {
  live = has_live facts rs v o.still h;
  root = root ∙ sym (root_are facts rs v o.still h);
  written =
      let seen : ps ≡ places_in (world_of rs) v = places ∙ ap (λ l. option_map_or (λ (l : Look). l.places) l []) (sym (look_is facts rs v o.still h)) in
      subst (λ (r : ℕ). Tells (root_elements (world_of rs) r) f.written (places_in (world_of rs) v) vs) (sym root)
      (subst (λ (qs : List (Option ℕ)). Tells (root_elements (world_of rs) (row_at rs v).root) f.written qs vs) seen tells);
}

-- and what an array of its root shows after it
pub foreseen_is : (facts : RowLaws) → Reads → PlacesLieWithin → (rs : Rows) (u v : ℕ) (vs : List ℤ) (f : Foresight) (before after : List ℤ) (qs : List (Option ℕ)) → InOrder rs → IsSound (world_of rs)
    → has rs u ≡ true → f.root ≡ (row_at rs u).root → before ≡ elements (world_of rs) u → qs ≡ places_seen rs u → after ≡ elements_after f.written qs before → Foretells (world_of rs) v vs f
    → (before ≡ elements (world_of rs) u) × (after ≡ elements (assign (world_of rs) v vs) u)
foreseen_is facts reads within rs u v vs f before after qs o sound g family b q a tells =
    let w : World = world_of rs in
    let h : has rs v ≡ true = live_has facts rs v tells.live in
    let es : List ℤ = root_elements w f.root in
    let root : f.root ≡ (row_at rs v).root = tells.root ∙ root_are facts rs v o.still h in
    let seen : places_in w v ≡ places_seen rs v = ap (λ l. option_map_or (λ (l : Look). l.places) l []) (look_is facts rs v o.still h) in
    let shown : elements w u ≡ read (places_seen rs u) es =
    ap (λ l. option_map_or (λ (l : Look). read l.places (root_elements w l.root)) l []) (look_is facts rs u o.still g)
    ∙ ap (λ (r : ℕ). read (places_seen rs u) (root_elements w r)) (sym family) in (
      b,
      a ∙ ap (λ (ps : List (Option ℕ)). elements_after f.written ps before) q ∙ ap (elements_after f.written (places_seen rs u)) (b ∙ shown)
          ∙ after_is f.written (places_in w v) (places_seen rs u) vs es tells.written
          (λ j i is. subst (λ (r : ℕ). i < length (root_elements w r)) (sym family) (within w u _ j i sound (look_is facts rs u o.still g) is))
          ∙ ap (λ (ps : List (Option ℕ)). read (places_seen rs u) (write ps vs es)) seen
          ∙ ap (λ (r : ℕ). read (places_seen rs u) (write (places_seen rs v) vs (root_elements w r))) root
          ∙ sym (shown_within facts reads rs v u vs o.still h g (sym root ∙ family)),
    )
