-- The rows that a list of keys of a slab shows, one for each key.
use Rattle.std.proofs.Common.{◌≡◌, ℕ, Bool, true, false, List, [], ◌∷◌, Option, Some, None, inl, inr, refl, sym, ◌∙◌, ap, subst, arith, ◌+◌, length}
use Rattle.std.proofs.lemmas.Bool.Decides.{eqb_tells}
use Rattle.slab.specs.Slab.{Slab}
use Rattle.pdl_lemmas.specs.Numbers.{at_other, at_same}
use Rattle.pdl_registry.specs.Numbered.{AllAbove, Rises, value_at}
use Rattle.pdl_nodes.specs.Row.{Row}
use Rattle.pdl_nodes.specs.Rows.{Rows, row_at, has, NumbersBelow, Falls}
use Rattle.pdl_nodes.specs.Table.{node_at, rows_onto, rows_of}
use Rattle.pdl_nodes.proofs.RowFinds.{below_more, rows_same}
use Rattle.pdl_nodes.proofs.NumberedLookups.{none_below}

-- what the rows have of a number
record Finds (rs : Rows) (v : ℕ) (r : Row) (b : Bool) : Type 0 where
  row : row_at rs v ≡ r
  live : has rs v ≡ b

onto_past : (w : Rows) (s : Slab Row) (es : List (ℕ × ℕ)) (v : ℕ) → value_at es v ≡ None → Finds (rows_onto w s es) v (row_at w v) (has w v)
onto_past w s [] v h = record { row = refl; live = refl }
onto_past w s (e ∷ es) v h = elim (eqb_tells e.0 v) [
  | inl t ↦ (let x : Some e.1 ≡ None = rw (at_same v e.0 t.1) at h in absurd (cc))
  | inr t ↦ (let g : value_at es v ≡ None = rw (at_other v e.0 t.1) at h in
      let f : Finds (rows_onto ((e.0, node_at s e.1) ∷ w) s es) v (row_at ((e.0, node_at s e.1) ∷ w) v) (has ((e.0, node_at s e.1) ∷ w) v) = onto_past ((e.0, node_at s e.1) ∷ w) s es v g in
      record { row = f.row ∙ rw t.0 refl; live = f.live ∙ rw t.0 refl })
]

onto_found : (w : Rows) (s : Slab Row) (es : List (ℕ × ℕ)) (v k : ℕ) → Rises es → value_at es v ≡ Some k → Finds (rows_onto w s es) v (node_at s k) true
onto_found w s [] v k r h = absurd (cc)
onto_found w s (e ∷ es) v k r h = elim (eqb_tells e.0 v) [
  | inl t ↦ (let x : Some e.1 ≡ Some k = rw (at_same v e.0 t.1) at h in
      let y : e.1 ≡ k = cc in
      let a : AllAbove v es = (let P : ℕ → Type 0 = λ n. AllAbove n es in subst P t.1 r.0) in
      let f : Finds (rows_onto ((e.0, node_at s e.1) ∷ w) s es) v (row_at ((e.0, node_at s e.1) ∷ w) v) (has ((e.0, node_at s e.1) ∷ w) v) = onto_past ((e.0, node_at s e.1) ∷ w) s es v (none_below v es a) in
      record { row = f.row ∙ rw t.0 (ap (node_at s) y); live = f.live ∙ rw t.0 refl })
  | inr t ↦ onto_found ((e.0, node_at s e.1) ∷ w) s es v k r.1 (rw (at_other v e.0 t.1) at h)
]

abbrev StartsOver : Rows → List (ℕ × ℕ) → Type 0
StartsOver w [] = Unit {0}
StartsOver w (e ∷ es) = NumbersBelow e.0 w

onto_falls : (w : Rows) (s : Slab Row) (es : List (ℕ × ℕ)) → Rises es → Falls w → StartsOver w es → Falls (rows_onto w s es)
onto_falls w s [] r f b = f
onto_falls w s (e ∷ es) r f b = onto_falls ((e.0, node_at s e.1) ∷ w) s es r.1 (b, f) (starts e.0 (node_at s e.1) w es r.0 b) where
  starts : (n : ℕ) (x : Row) (w : Rows) (es : List (ℕ × ℕ)) → AllAbove n es → NumbersBelow n w → StartsOver ((n, x) ∷ w) es
  starts n x w [] a b = tt
  starts n x w (e ∷ es) a b = (a.0, below_more w n e.0 (omega (arith, a.0)) b)

-- rows show what the map and the slab hold
pub record Shows (rs : Rows) (keys : List (ℕ × ℕ)) (nodes : Slab Row) : Type 0 where
  pub falls : Falls rs
  pub none : (v : ℕ) → value_at keys v ≡ None → has rs v ≡ false
  pub live : (v k : ℕ) → value_at keys v ≡ Some k → has rs v ≡ true
  pub row : (v k : ℕ) → value_at keys v ≡ Some k → row_at rs v ≡ node_at nodes k

pub shows : (keys : List (ℕ × ℕ)) (nodes : Slab Row) → Rises keys → Shows (rows_of nodes keys) keys nodes
shows keys nodes o =
    record {
      falls = onto_falls [] nodes keys o tt (none keys);
      none = λ v h. (onto_past [] nodes keys v h).live;
      live = λ v k h. (onto_found [] nodes keys v k o h).live;
      row = λ v k h. (onto_found [] nodes keys v k o h).row;
    } where
      none : (es : List (ℕ × ℕ)) → StartsOver [] es
      none [] = tt
      none (e ∷ es) = tt

key_of : (keys : List (ℕ × ℕ)) (v : ℕ) (o : Option ℕ) → value_at keys v ≡ o → (a b : Rows) (nodes : Slab Row) → Shows a keys nodes → Shows b keys nodes → (has a v ≡ has b v) × (has a v ≡ true → row_at a v ≡ row_at b v)
key_of keys v None h a b nodes x y = (x.none v h ∙ sym (y.none v h), λ l. (let z : false ≡ true = sym (x.none v h) ∙ l in absurd (cc)))
key_of keys v (Some k) h a b nodes x y = (x.live v k h ∙ sym (y.live v k h), λ l. x.row v k h ∙ sym (y.row v k h))

-- all rows that show the same are equal
pub shown : (rs : Rows) (keys : List (ℕ × ℕ)) (nodes : Slab Row) → Rises keys → Shows rs keys nodes → rows_of nodes keys ≡ rs
shown rs keys nodes o s =
    let t : Shows (rows_of nodes keys) keys nodes = shows keys nodes o in
    rows_same (rows_of nodes keys) rs t.falls s.falls
    (λ v. (key_of keys v (value_at keys v) refl (rows_of nodes keys) rs nodes t s).0)
    (λ v l. (key_of keys v (value_at keys v) refl (rows_of nodes keys) rs nodes t s).1 l)

length_onto : (w : Rows) (s : Slab Row) (es : List (ℕ × ℕ)) → length (rows_onto w s es) ≡ length w + length es
length_onto w s [] = omega arith
length_onto w s (e ∷ es) = length_onto ((e.0, node_at s e.1) ∷ w) s es ∙ (omega arith)

pub length_rows : (s : Slab Row) (es : List (ℕ × ℕ)) → length (rows_of s es) ≡ length es
length_rows s es = length_onto [] s es ∙ (omega arith)
