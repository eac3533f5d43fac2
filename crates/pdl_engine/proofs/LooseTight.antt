-- Each array is held or has views, but those that are listed.
use Rattle.std.proofs.Common.{◌≡◌, true, false, [], ℕ, List, sym, subst, ◌∙◌, ap, nat_lt, ◌≢◌, ◌||◌, ◌∷◌, Some, inl, inr, refl, ◌+◌, Option, None, arith, ℤ, eqb, cond, ◌≤◌, ◌++◌, ◌⊎◌, Bool, Result, Ok, Err}
use Rattle.std.specs.Result.{OnOk, OnErr}
use Rattle.std.proofs.Math.Bool.{or-true}
use Rattle.std.proofs.lemmas.Bool.{eq-eqb, le-ltb, ne_eqb, cases_Bool}
use Rattle.std.proofs.lemmas.Bool.Decides.{eqb_tells, leb_tells}
use Rattle.pdl_elem.specs.declared.Ty.{Ty}
use Rattle.pdl_shape.specs.Shape.{size_of}
use Rattle.pdl_world.specs.Cut.{has_views, replaced, fitted, reshape, sever}
use Rattle.pdl_world.specs.Swept.{is_listed, parents}
use Rattle.pdl_world.specs.World.{ArrayDef, root, World, elements, ty_in, dims_in}
use Rattle.pdl_nodes.specs.Alike.{IsAlike}
use Rattle.pdl_nodes.specs.Children.{children, one_of}
use Rattle.pdl_nodes.specs.Holds.{Counts, hold_at, count_in, is_held, held_once, one_more}
use Rattle.pdl_nodes.specs.Risen.{AreTight}
use Rattle.pdl_nodes.specs.Row.{Row, parent_from, parent_of}
use Rattle.pdl_nodes.specs.RowLaws.{RowLaws}
use Rattle.pdl_nodes.specs.Rows.{Rows, has, NumbersBelow, row_at, Falls}
use Rattle.pdl_nodes.specs.Still.{IsStill, StillFrom}
use Rattle.pdl_nodes.specs.Worlds.{def_of, def_from, shape, with_elements, latest, world_of}
use Rattle.pdl_nodes.specs.declared.holds.Hold.{Hold}
use Rattle.pdl_nodes.specs.declared.origin.Origin.{Origin}
use Rattle.pdl_nodes.specs.declared.origin.Origin.TheVariants.{Root, View}
use Rattle.pdl_engine.specs.Loose.{IsTight, listed_with}
use Rattle.pdl_engine.specs.Severed.{ChangesRows}
use Rattle.pdl_engine.proofs.StateOfWorlds.{views_with}

-- none is listed, and nothing that isn't held is without views
pub none_loose : (rs : Rows) (hs : Counts) → AreTight [] rs hs → IsTight [] rs hs
none_loose rs hs t = record { live = λ v h. (let z : false ≡ true = h in absurd (cc)); tight = t }

pub tight_all : (rs : Rows) (hs : Counts) (listed : List ℕ) → listed ≡ [] → AreTight [] rs hs → IsTight listed rs hs
tight_all rs hs listed e t = subst (λ (xs : List ℕ). IsTight xs rs hs) (sym e) (none_loose rs hs t)

-- the same arrays
pub tight_alike : (listed : List ℕ) (old new : Rows) (hs : Counts) → IsAlike old new → IsTight listed old hs → IsTight listed new hs
tight_alike listed old new hs a t = record {
  live = λ v h. a.has_is v ∙ t.live v h;
  tight = λ v h d u. ap (λ w. has_views w v) a.shape_is ∙ t.tight v (sym (a.has_is v) ∙ h) d u;
}

held_as : (hs gs : Counts) (v : ℕ) → hold_at gs v ≡ hold_at hs v → is_held gs v ≡ false → is_held hs v ≡ false
held_as hs gs v e u = sym (ap (λ x. nat_lt 0 (count_in x)) e) ∙ u

-- one array more, which is held
pub tight_grown : (listed : List ℕ) (rs : Rows) (hs gs : Counts) (k : ℕ) (r : Row) → hold_at gs k ≡ Some held_once → ((v : ℕ) → v ≢ k → hold_at gs v ≡ hold_at hs v) → IsTight listed rs hs → IsTight listed ((k, r) ∷ rs) gs
tight_grown listed rs hs gs k r e o t = record {
  live = λ v h. elim (eqb_tells k v) [ inl y ↦ rw y.0 refl | inr y ↦ rw y.0 (t.live v h) ];
  tight = λ v h d u. elim (eqb_tells k v) [
    | inl y ↦ (let z : true ≡ false = sym (ap (λ x. nat_lt 0 (count_in x)) (ap (hold_at gs) (sym y.1) ∙ e)) ∙ u in absurd (cc))
    | inr y ↦ (let g : has rs v ≡ true = rw y.0 at h in
        ap (λ b. is_listed (parents (def_of r)) v || b) (t.tight v g d (held_as hs gs v (o v (λ z. y.1 (sym z))) u)) ∙ or-true (is_listed (parents (def_of r)) v))
  ];
}

-- none more, and the holds but of a number that isn't there
pub tight_refused : (facts : RowLaws) → (listed : List ℕ) (rs new : Rows) (hs gs : Counts) (k : ℕ) → NumbersBelow k rs → new ≡ rs → ((v : ℕ) → v ≢ k → hold_at gs v ≡ hold_at hs v) → IsTight listed rs hs → IsTight listed new gs
tight_refused facts listed rs new hs gs k b e o t = subst (λ (x : Rows). IsTight listed x gs) (sym e) (record {
  live = t.live;
  tight = λ v h d u. t.tight v h d (held_as hs gs v (o v (λ y. facts.numbers.not_newest rs k v b h (sym y))) u);
})

-- one hold more
held_more : (o : Option Hold) → nat_lt 0 (count_in (one_more o)) ≡ false → nat_lt 0 (count_in o) ≡ false
held_more None h = refl
held_more (Some h) e = (let z : true ≡ false = sym (lt_more h.count) ∙ e in absurd (cc)) where
  lt_more : (n : ℕ) → nat_lt 0 (n + 1) ≡ true
  lt_more n = elim (leb_tells 1 (n + 1)) [ inl l ↦ l.0 | inr l ↦ absurd (omega (arith, l.1)) ]

pub tight_more : (listed : List ℕ) (rs : Rows) (hs gs : Counts) (id : ℕ) → hold_at gs id ≡ one_more (hold_at hs id) → ((v : ℕ) → v ≢ id → hold_at gs v ≡ hold_at hs v) → IsTight listed rs hs → IsTight listed rs gs
tight_more listed rs hs gs id e o t = record {
  live = t.live;
  tight = λ v h d u. t.tight v h d (elim (eqb_tells v id) [
    | inl y ↦ held_more (hold_at hs v) (ap (λ x. nat_lt 0 (count_in (one_more (hold_at hs x)))) y.1 ∙ sym (ap (λ x. nat_lt 0 (count_in x)) (ap (hold_at gs) y.1 ∙ e)) ∙ u)
    | inr y ↦ held_as hs gs v (o v y.1) u
  ]);
}

-- an array that is a root now
-- an entry that isn't there
views_past : (f : ℕ → List ℤ) (rs : Rows) (id v : ℕ) (d : ArrayDef) → NumbersBelow id rs → has_views (replaced (with_elements f (shape rs)) id d) v ≡ has_views (shape rs) v
views_past f [] id v d b = refl
views_past f ((k, r) ∷ rs) id v d b = by (ne_eqb k id (λ (e : k ≡ id). let z : ⊥ = omega (arith, b.0) in z)) r.origin (views_past f rs id v d b.1) where
  by : eqb k id ≡ false → (o : Origin) → has_views (replaced (with_elements f (shape rs)) id d) v ≡ has_views (shape rs) v → has_views (replaced (with_elements f ((k, def_from r.ty r.triple.dims o) ∷ shape rs)) id d) v ≡ has_views ((k, def_from r.ty r.triple.dims o) ∷ shape rs) v
  by n Root e = rw n e
  by n (View p t y) e = rw n (ap (λ b. (eqb p v || false) || b) e)

views_rooted : (f : ℕ → List ℤ) (rs : Rows) (id v : ℕ) (ty : Ty) (ds : List ℕ) (es : List ℤ) → Falls rs → (parent_of (row_at rs id) ≡ Some v → ⊥) → has_views (replaced (with_elements f (shape rs)) id (root ty ds es)) v ≡ has_views (shape rs) v
views_rooted f [] id v ty ds es b d = refl
views_rooted f ((k, r) ∷ rs) id v ty ds es b d = elim (eqb_tells k id) [
  | inl y ↦ (let rest : has_views (replaced (with_elements f (shape rs)) id (root ty ds es)) v ≡ has_views (shape rs) v = (let P : ℕ → Type 0 = λ x. has_views (replaced (with_elements f (shape rs)) x (root ty ds es)) v ≡ has_views (shape rs) v in subst P y.1 (views_past f rs k v (root ty ds es) b.0)) in
      here y.0 r.origin (λ e. d (let row : row_at ((k, r) ∷ rs) id ≡ r = rw y.0 refl in ap parent_of row ∙ e)) rest)
  | inr y ↦ (let rest : has_views (replaced (with_elements f (shape rs)) id (root ty ds es)) v ≡ has_views (shape rs) v = views_rooted f rs id v ty ds es b.1 (λ e. d (let row : row_at ((k, r) ∷ rs) id ≡ row_at rs id = rw y.0 refl in ap parent_of row ∙ e)) in
      there y.0 r.origin rest)
] where
  here : eqb k id ≡ true → (o : Origin) → (parent_from o ≡ Some v → ⊥) → has_views (replaced (with_elements f (shape rs)) id (root ty ds es)) v ≡ has_views (shape rs) v
      → has_views (replaced (with_elements f ((k, def_from r.ty r.triple.dims o) ∷ shape rs)) id (root ty ds es)) v ≡ has_views ((k, def_from r.ty r.triple.dims o) ∷ shape rs) v
  here y Root n e = rw y e
  here y (View p t l) n e = (let z : eqb p v ≡ false = ne_eqb p v (λ q. n (ap Some q)) in rw (y, z) e)

  there : eqb k id ≡ false → (o : Origin) → has_views (replaced (with_elements f (shape rs)) id (root ty ds es)) v ≡ has_views (shape rs) v
      → has_views (replaced (with_elements f ((k, def_from r.ty r.triple.dims o) ∷ shape rs)) id (root ty ds es)) v ≡ has_views ((k, def_from r.ty r.triple.dims o) ∷ shape rs) v
  there n Root e = rw n e
  there n (View p t l) e = rw n (ap (λ b. (eqb p v || false) || b) e)

-- how many views an array has in a world
abbrev views_in : World → ℕ → ℕ
views_in [] v = 0
views_in ((k, d) ∷ w) v = cond (is_listed (parents d) v) 1 0 + views_in w v

one_view : (ty : Ty) (ds : List ℕ) (v : ℕ) (o : Origin) → one_of (parent_from o) v ≡ cond (is_listed (parents (def_from ty ds o)) v) 1 0
one_view ty ds v Root = refl
one_view ty ds v (View p t l) = elim (cases_Bool (eqb p v)) [ inl y ↦ rw y refl | inr y ↦ rw y refl ]

children_in : (rs : Rows) (v : ℕ) → children rs v ≡ views_in (shape rs) v
children_in [] v = refl
children_in ((k, r) ∷ rs) v = ap (λ n. n + children rs v) (one_view r.ty r.triple.dims v r.origin) ∙ ap (λ n. cond (is_listed (parents (def_of r)) v) 1 0 + n) (children_in rs v)

-- tables of one shape have as many
pub children_alike : (old new : Rows) (v : ℕ) → shape new ≡ shape old → children new v ≡ children old v
children_alike old new v e = children_in new v ∙ ap (λ w. views_in w v) e ∙ sym (children_in old v)

viewed : (rs : Rows) (v : ℕ) → 1 ≤ children rs v → has_views (shape rs) v ≡ true
viewed [] v h = absurd (omega (arith, h))
viewed ((k, r) ∷ rs) v h = elim (cases_Bool (is_listed (parents (def_of r)) v)) [
  | inl y ↦ ap (λ b. b || has_views (shape rs) v) y
  | inr y ↦ (let none : one_of (parent_of r) v ≡ 0 = one_view r.ty r.triple.dims v r.origin ∙ ap (λ b. cond b 1 0) y in
      ap (λ b. b || has_views (shape rs) v) y ∙ viewed rs v (omega (arith, h, none)))
]

-- an array with another view has one still where an array becomes a root
still_viewed : (f : ℕ → List ℤ) (rs : Rows) (id v : ℕ) (ty : Ty) (ds : List ℕ) (es : List ℤ) → Falls rs → 2 ≤ children rs v → has_views (replaced (with_elements f (shape rs)) id (root ty ds es)) v ≡ true
still_viewed f [] id v ty ds es b h = absurd (omega (arith, h))
still_viewed f ((k, r) ∷ rs) id v ty ds es b h = elim (eqb_tells k id) [
  | inl y ↦ (let most : one_of (parent_of r) v ≤ 1 = one_most (parent_of r) v in
      let past : has_views (replaced (with_elements f (shape rs)) k (root ty ds es)) v ≡ true = views_past f rs k v (root ty ds es) b.0 ∙ viewed rs v (omega (arith, h, most)) in
      here y.0 r.origin (subst (λ x. has_views (replaced (with_elements f (shape rs)) x (root ty ds es)) v ≡ true) y.1 past))
  | inr y ↦ there y.0 r.origin (λ n. still_viewed f rs id v ty ds es b.1 n) h
] where
  one_most : (o : Option ℕ) (v : ℕ) → one_of o v ≤ 1
  one_most None v = omega arith
  one_most (Some p) v = elim (cases_Bool (eqb p v)) [ inl y ↦ rw y (omega arith) | inr y ↦ rw y (omega arith) ]

  here : eqb k id ≡ true → (o : Origin) → has_views (replaced (with_elements f (shape rs)) id (root ty ds es)) v ≡ true
      → has_views (replaced (with_elements f ((k, def_from r.ty r.triple.dims o) ∷ shape rs)) id (root ty ds es)) v ≡ true
  here y Root e = rw y e
  here y (View p t l) e = rw y e

  there : eqb k id ≡ false → (o : Origin) → (2 ≤ children rs v → has_views (replaced (with_elements f (shape rs)) id (root ty ds es)) v ≡ true) → 2 ≤ one_of (parent_from o) v + children rs v
      → has_views (replaced (with_elements f ((k, def_from r.ty r.triple.dims o) ∷ shape rs)) id (root ty ds es)) v ≡ true
  there n Root e h = rw n (e (omega (arith, h)))
  there n (View p t l) e h = elim (cases_Bool (eqb p v)) [
    | inl y ↦ rw (n, y) refl
    | inr y ↦ (let more : 2 ≤ cond false 1 0 + children rs v = rw y at h in rw (n, y) (e (omega (arith, more))))
  ]

-- the views of rows that mean a world
views_of : (rs : Rows) (w : World) (v : ℕ) → world_of rs ≡ w → has_views (shape rs) v ≡ has_views w v
views_of rs w v e = sym (views_with (latest rs) (shape rs) v) ∙ ap (λ x. has_views x v) e

-- what is listed once a parent was listed with the others
behind : (xs : List ℕ) (p v : ℕ) → is_listed (xs ++ p ∷ []) v ≡ cond (is_listed xs v) true (eqb p v)
behind [] p v = elim (eqb_tells p v) [ inl e ↦ rw e.0 refl | inr e ↦ rw e.0 refl ]
behind (x ∷ xs) p v = elim (eqb_tells x v) [ inl e ↦ rw e.0 refl | inr e ↦ rw e.0 (behind xs p v) ]

listed_more : (rs : Rows) (hs : Counts) (xs : List ℕ) (o : Option ℕ) (v : ℕ) → is_listed (listed_with rs hs xs o) v ≡ true → (is_listed xs v ≡ true) ⊎ (o ≡ Some v)
listed_more rs hs xs None v y = inl y
listed_more rs hs xs (Some p) v y = elim (cases_Bool (is_held hs p || nat_lt 1 (children rs p))) [
  | inl z ↦ inl (rw z at y)
  | inr z ↦ (let at : is_listed (xs ++ p ∷ []) v ≡ true = rw z at y in
      elim (cases_Bool (is_listed xs v)) [
        | inl l ↦ inl l
        | inr l ↦ inr (ap Some (is_here (sym (behind xs p v ∙ ap (λ b. cond b true (eqb p v)) l) ∙ at)))
      ])
] where
  is_here : eqb p v ≡ true → p ≡ v
  is_here e = elim (eqb_tells p v) [ inl t ↦ t.1 | inr t ↦ (let z : true ≡ false = sym e ∙ t.0 in absurd (cc)) ]

listed_still : (rs : Rows) (hs : Counts) (xs : List ℕ) (o : Option ℕ) (v : ℕ) → is_listed (listed_with rs hs xs o) v ≡ false → is_listed xs v ≡ false
listed_still rs hs xs None v n = n
listed_still rs hs xs (Some p) v n = elim (cases_Bool (is_listed xs v)) [
  | inr l ↦ l
  | inl l ↦ elim (cases_Bool (is_held hs p || nat_lt 1 (children rs p))) [
    | inl z ↦ rw z at n
    | inr z ↦ (let at : is_listed (xs ++ p ∷ []) v ≡ false = rw z at n in
        let is : is_listed (xs ++ p ∷ []) v ≡ true = behind xs p v ∙ ap (λ b. cond b true (eqb p v)) l in
        let z : true ≡ false = sym is ∙ at in absurd (cc))
  ]
]

-- a parent that isn't held and has no other view is
parent_listed : (rs : Rows) (hs : Counts) (xs : List ℕ) (o : Option ℕ) (p : ℕ) → o ≡ Some p → is_held hs p ≡ false → children rs p ≤ 1 → is_listed (listed_with rs hs xs o) p ≡ true
parent_listed rs hs xs o p e u few =
    let alone : (is_held hs p || nat_lt 1 (children rs p)) ≡ false = ap (λ b. b || nat_lt 1 (children rs p)) u ∙ le-ltb 1 (children rs p) few in
    ap (λ x. is_listed (listed_with rs hs xs x) p) e ∙ rw alone (behind xs p p ∙ ap (λ b. cond (is_listed xs p) true b) (eq-eqb p p refl) ∙ either (is_listed xs p))
  where
    either : (b : Bool) → cond b true true ≡ true
    either true = refl
    either false = refl

-- tables of one shape list the same
pub listed_alike : (old new : Rows) (hs : Counts) (xs : List ℕ) (o : Option ℕ) → shape new ≡ shape old → listed_with new hs xs o ≡ listed_with old hs xs o
listed_alike old new hs xs None e = refl
listed_alike old new hs xs (Some p) e = ap (λ n. cond (is_held hs p || nat_lt 1 n) xs (xs ++ p ∷ [])) (children_alike old new p e)

-- a root has no parent, so none is listed
no_parent : (facts : RowLaws) → (rs : Rows) (v : ℕ) → IsStill rs → has rs v ≡ true → (row_at rs v).root ≡ v → parent_of (row_at rs v) ≡ None
no_parent facts [] v s h e = let z : false ≡ true = h in absurd (cc)
no_parent facts ((k, r) ∷ rs) v s h e = elim (eqb_tells k v) [
  | inl t ↦ rw t.0 (from r.origin s.1 (rw t.0 at e ∙ sym t.1))
  | inr t ↦ rw t.0 (no_parent facts rs v s.2 (rw t.0 at h) (rw t.0 at e))
] where
  from : (o : Origin) → StillFrom rs k r o → r.root ≡ k → parent_from o ≡ None
  from Root i e = refl
  from (View p t y) i e = absurd (facts.numbers.not_newest rs k (row_at rs p).root s.0 (facts.seen.is_seen rs s.2 p i.0).root_has (sym e ∙ i.1.root_is))

pub none_listed : (facts : RowLaws) → (rs : Rows) (hs : Counts) (xs : List ℕ) (v : ℕ) → IsStill rs → has rs v ≡ true → (row_at rs v).root ≡ v → xs ≡ listed_with rs hs xs (parent_of (row_at rs v))
none_listed facts rs hs xs v s h e = ap (listed_with rs hs xs) (sym (no_parent facts rs v s h e))

-- the world is the same
tight_same : (old new : Rows) (id : ℕ) (xs : List ℕ) (hs : Counts) → ChangesRows old id new → world_of new ≡ world_of old → IsTight xs old hs → IsTight xs new hs
tight_same old new id xs hs c e t = record {
  live = λ v y. c.has_is v ∙ t.live v y;
  tight = λ v y d u. views_of new (world_of old) v e ∙ sym (views_of old (world_of old) v refl) ∙ t.tight v (sym (c.has_is v) ∙ y) d u;
}

-- one array is a root, whose parent is listed, or is held, or has another view
tight_rooted : (facts : RowLaws) → (old new : Rows) (id : ℕ) (xs : List ℕ) (hs : Counts) (ty : Ty) (ds : List ℕ) (es : List ℤ) → IsStill old → has old id ≡ true → ChangesRows old id new
    → world_of new ≡ replaced (world_of old) id (root ty ds es) → IsTight xs old hs → IsTight (listed_with old hs xs (parent_of (row_at old id))) new hs
tight_rooted facts old new id xs hs ty ds es s h c e t =
    let o : Option ℕ = parent_of (row_at old id) in
    record {
      live = λ v y. c.has_is v ∙ elim (listed_more old hs xs o v y) [
        | inl z ↦ t.live v z
        | inr z ↦ (facts.seen.parent_live old id v s h z).0
      ];
      tight = λ v y d u. views_of new (replaced (world_of old) id (root ty ds es)) v e
          ∙ elim (leb_tells 2 (children old v)) [
            | inl m ↦ still_viewed (latest old) old id v ty ds es (facts.seen.falls old s) m.1
            | inr m ↦ views_rooted (latest old) old id v ty ds es (facts.seen.falls old s)
                (λ q. (let few : children old v ≤ 1 = omega (arith, m.1) in let z : true ≡ false = sym (parent_listed old hs xs o v q u few) ∙ d in absurd (cc)))
                ∙ t.tight v (sym (c.has_is v) ∙ y) (listed_still old hs xs o v d) u
          ];
    }

pub tight_reshaped : (facts : RowLaws) → {A E : Type 0} (old new : Rows) (id : ℕ) (xs ys : List ℕ) (hs : Counts) (ds : List ℕ) (r : Result A E) → IsStill old → has old id ≡ true → ChangesRows old id new
    → OnOk r (ys ≡ listed_with old hs xs (parent_of (row_at old id))) → OnErr r (ys ≡ xs) → OnOk r (world_of new ≡ reshape (world_of old) id ds) → OnErr r (world_of new ≡ world_of old) → IsTight xs old hs → IsTight ys new hs
tight_reshaped facts old new id xs ys hs ds (Ok a) s h c l u e f t = subst (λ (zs : List ℕ). IsTight zs new hs) (sym l) (tight_rooted facts old new id xs hs (ty_in (world_of old) id) ds (fitted (size_of ds) (elements (world_of old) id)) s h c e t)
tight_reshaped facts old new id xs ys hs ds (Err a) s h c l u e f t = subst (λ (zs : List ℕ). IsTight zs new hs) (sym u) (tight_same old new id xs hs c f t)

pub tight_severed : (facts : RowLaws) → {A E : Type 0} (old new : Rows) (id : ℕ) (xs ys : List ℕ) (hs : Counts) (r : Result A E) → IsStill old → has old id ≡ true → ChangesRows old id new
    → ((row_at old id).root ≡ id → new ≡ old) → OnOk r (ys ≡ listed_with old hs xs (parent_of (row_at old id))) → OnErr r (ys ≡ xs) → OnOk r (world_of new ≡ sever (world_of old) id) → OnErr r (world_of new ≡ world_of old) → IsTight xs old hs → IsTight ys new hs
tight_severed facts old new id xs ys hs (Err a) s h c n l u e f t = subst (λ (zs : List ℕ). IsTight zs new hs) (sym u) (tight_same old new id xs hs c f t)
tight_severed facts old new id xs ys hs (Ok a) s h c n l u e f t = subst (λ (zs : List ℕ). IsTight zs new hs) (sym l) (elim (eqb_tells (row_at old id).root id) [
  | inl y ↦ subst (λ (zs : List ℕ). IsTight zs new hs) (none_listed facts old hs xs id s h y.1) (tight_same old new id xs hs c (ap world_of (n y.1)) t)
  | inr y ↦ tight_rooted facts old new id xs hs (ty_in (world_of old) id) (dims_in (world_of old) id) (elements (world_of old) id) s h c e t
])
