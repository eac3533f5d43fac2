-- The roots that are seen through arrays of a sound world, and where an array becomes a root.
use Rattle.std.proofs.Common.{◌≡◌, ℕ, ℤ, ◌<◌, List, [], ◌∷◌, true, false, None, Some, Option, IsSomeAnd, refl, sym, ap, subst, ◌∙◌, inl, inr, arith, is_some, ◌⊎◌}
use Rattle.std.specs.Option.{option_map_or}
use Rattle.std.specs.Prelude.{Result, Ok, Err, option_and_then}
use Rattle.std.proofs.lemmas.Bool.{eq-eqb, ne_eqb}
use Rattle.std.proofs.lemmas.Bool.Decides.{eqb_tells}
use Rattle.pdl_elem.specs.declared.Ty.{Ty}
use Rattle.pdl_shape.specs.Refusals.{Refusal}
use Rattle.pdl_world.specs.Cut.{replaced}
use Rattle.pdl_world.specs.Formula.{child_dims}
use Rattle.pdl_world.specs.Paths.{root_of}
use Rattle.pdl_world.specs.Sound.{NumbersBelow, IsLive, IsSound}
use Rattle.pdl_world.specs.Swept.{Has}
use Rattle.pdl_world.specs.WindowLaws.{WindowsShowArrays}
use Rattle.pdl_world.specs.Windows.{Window, base, window}
use Rattle.pdl_world.specs.World.{World, ArrayDef, Look, look, look_of_root, root, seen_through, through, view}
use Rattle.pdl_world.specs.declared.Trans.{Trans}

pub some_live : (o : Option Look) → IsSomeAnd o (λ l. Unit {0}) → is_some o ≡ true
some_live None l = absurd l
some_live (Some x) l = refl

pub live_some : (o : Option Look) → is_some o ≡ true → IsSomeAnd o (λ l. Unit {0})
live_some None e = let z : false ≡ true = e in absurd (cc)
live_some (Some x) e = tt

-- what is seen of a live array
pub seen_live : (o : Option Look) → IsSomeAnd o (λ l. Unit {0}) → (l : Look) × (o ≡ Some l)
seen_live None l = absurd l
seen_live (Some x) l = (x, refl)

abbrev pub root_from : Option Look → ℕ
root_from o = option_map_or (λ (l : Look). l.root) o 0

seen_root : (t : Trans) (l m : Look) (r : Result (List ℕ) Refusal) → seen_through t l r ≡ Some m → m.root ≡ l.root
seen_root t l m (Ok ds) e = sym (ap root_from e)
seen_root t l m (Err x) e = let z : false ≡ true = ap is_some e in absurd (cc)

-- a view is seen through its parent, and has its root
pub through_some : (t : Trans) (o : Option Look) (m : Look) → option_and_then (through t) o ≡ Some m → (l : Look) × (o ≡ Some l) × (m.root ≡ l.root)
through_some t None m e = let z : false ≡ true = ap is_some e in absurd (cc)
through_some t (Some l) m e = (l, refl, seen_root t l m (child_dims t l.dims) e)

pub look_past : (k : ℕ) (d : ArrayDef) (w : World) (v : ℕ) → (k ≡ v → ⊥) → look ((k, d) ∷ w) v ≡ look w v
look_past k (root ty ds es) w v h = rw (ne_eqb k v h) refl
look_past k (view p t) w v h = rw (ne_eqb k v h) refl

pub root_past : (k : ℕ) (d : ArrayDef) (w : World) (v : ℕ) → (k ≡ v → ⊥) → root_of ((k, d) ∷ w) v ≡ root_of w v
root_past k d w v h = ap (λ o. option_map_or (λ (l : Look). l.root) o v) (look_past k d w v h)

pub root_here : (k : ℕ) (ty : Ty) (ds : List ℕ) (es : List ℤ) (w : World) → look ((k, root ty ds es) ∷ w) k ≡ Some (look_of_root k ty ds)
root_here k ty ds es w = rw (eq-eqb k k refl) refl

pub view_here : (k p : ℕ) (t : Trans) (w : World) → look ((k, view p t) ∷ w) k ≡ option_and_then (through t) (look w p)
view_here k p t w = rw (eq-eqb k k refl) refl

-- the root of an array is older than a newer array
pub root_below : (w : World) (n u : ℕ) (l : Look) → NumbersBelow n w → look w u ≡ Some l → l.root < n
root_below [] n u l b e = let z : false ≡ true = ap is_some e in absurd (cc)
root_below ((k, root ty ds es) ∷ w) n u l b e = elim (eqb_tells k u) [
  | inl t ↦ (let here : l.root ≡ k = sym (ap root_from (sym (root_here k ty ds es w) ∙ ap (look ((k, root ty ds es) ∷ w)) t.1 ∙ e)) in let low : k < n = b.0 in omega (arith, here, low))
  | inr t ↦ root_below w n u l b.1 (sym (look_past k (root ty ds es) w u t.1) ∙ e)
]
root_below ((k, view p t) ∷ w) n u l b e = elim (eqb_tells k u) [
  | inl y ↦ (let up : (m : Look) × (look w p ≡ Some m) × (l.root ≡ m.root) = through_some t (look w p) l (sym (view_here k p t w) ∙ ap (look ((k, view p t) ∷ w)) y.1 ∙ e) in
      let low : up.0.root < n = root_below w n p up.0 b.1 up.1 in omega (arith, low, up.2))
  | inr y ↦ root_below w n u l b.1 (sym (look_past k (view p t) w u y.1) ∙ e)
]

-- a root is its own
pub root_root : (w : World) (u : ℕ) (l : Look) → IsSound w → look w u ≡ Some l → root_of w l.root ≡ l.root
root_root [] u l s e = let z : false ≡ true = ap is_some e in absurd (cc)
root_root ((k, root ty ds es) ∷ w) u l s e = elim (eqb_tells k u) [
  | inl t ↦ (let here : l.root ≡ k = sym (ap root_from (sym (root_here k ty ds es w) ∙ ap (look ((k, root ty ds es) ∷ w)) t.1 ∙ e)) in
      ap (root_of ((k, root ty ds es) ∷ w)) here ∙ ap (λ o. option_map_or (λ (m : Look). m.root) o k) (root_here k ty ds es w) ∙ sym here)
  | inr t ↦ (let older : look w u ≡ Some l = sym (look_past k (root ty ds es) w u t.1) ∙ e in
      let low : l.root < k = root_below w k u l s.0 older in
      root_past k (root ty ds es) w l.root (λ q. (let z : ⊥ = omega (arith, low, q) in z)) ∙ root_root w u l s.2 older)
]
root_root ((k, view p t) ∷ w) u l s e = elim (eqb_tells k u) [
  | inl y ↦ (let up : (m : Look) × (look w p ≡ Some m) × (l.root ≡ m.root) = through_some t (look w p) l (sym (view_here k p t w) ∙ ap (look ((k, view p t) ∷ w)) y.1 ∙ e) in
      let low : up.0.root < k = root_below w k p up.0 s.0 up.1 in
      root_past k (view p t) w l.root (λ q. (let z : ⊥ = omega (arith, low, q, up.2) in z)) ∙ ap (root_of w) up.2 ∙ root_root w p up.0 s.2 up.1 ∙ sym up.2)
  | inr y ↦ (let older : look w u ≡ Some l = sym (look_past k (view p t) w u y.1) ∙ e in
      let low : l.root < k = root_below w k u l s.0 older in
      root_past k (view p t) w l.root (λ q. (let z : ⊥ = omega (arith, low, q) in z)) ∙ root_root w u l s.2 older)
]

-- so has the base of an array
pub base_root : WindowsShowArrays → (w : World) (v : ℕ) → IsSound w → root_of w (base w v) ≡ root_of w v
base_root shows w v s = from (window w v) refl where
  from : (o : Option Window) → window w v ≡ o → root_of w (option_map_or (λ (x : Window). x.base) o v) ≡ root_of w v
  from None e = refl
  from (Some x) e = (shows w v x s e).root_is

none_replaced : (w : World) (v : ℕ) (new : ArrayDef) → NumbersBelow v w → replaced w v new ≡ w
none_replaced [] v new b = refl
none_replaced ((k, d) ∷ w) v new b =
    let low : k < v = b.0 in
    let apart : k ≡ v → ⊥ = λ e. (let z : ⊥ = omega (arith, low, e) in z) in
    rw (ne_eqb k v apart) (ap (λ x. (k, d) ∷ x) (none_replaced w v new b.1))

-- where v becomes a root an array keeps its root, or has v, and then it was of the family of v
pub root_stays : (w : World) (v : ℕ) (ty : Ty) (ds : List ℕ) (es : List ℤ) (u : ℕ) (l m : Look) → IsSound w → look w u ≡ Some l → look (replaced w v (root ty ds es)) u ≡ Some m
    → (m.root ≡ l.root) ⊎ ((m.root ≡ v) × (l.root ≡ root_of w v))
root_stays [] v ty ds es u l m s e f = let z : false ≡ true = ap is_some e in absurd (cc)
root_stays ((k, d) ∷ w) v ty ds es u l m s e f = elim (eqb_tells k v) [
  | inl a ↦ elim (eqb_tells k u) [
    | inl b ↦ (let head : look ((k, root ty ds es) ∷ replaced w v (root ty ds es)) u ≡ Some m = rw a.0 at f in
        let own : m.root ≡ k = sym (ap root_from (sym (root_here k ty ds es (replaced w v (root ty ds es))) ∙ ap (look ((k, root ty ds es) ∷ replaced w v (root ty ds es))) b.1 ∙ head)) in
        inr (own ∙ a.1, sym (ap (λ x. root_of ((k, d) ∷ w) x) (sym a.1 ∙ b.1) ∙ ap (λ o. option_map_or (λ (x : Look). x.root) o u) e)))
    | inr b ↦ (let head : look ((k, root ty ds es) ∷ replaced w v (root ty ds es)) u ≡ Some m = rw a.0 at f in
        let same : look w u ≡ Some m = ap (λ x. look x u) (sym (none_replaced w v (root ty ds es) (subst (λ x. NumbersBelow x w) a.1 s.0))) ∙ sym (look_past k (root ty ds es) (replaced w v (root ty ds es)) u b.1) ∙ head in
        inl (ap root_from (sym same ∙ sym (look_past k d w u b.1) ∙ e)))
  ]
  | inr a ↦ (let head : look ((k, d) ∷ replaced w v (root ty ds es)) u ≡ Some m = rw a.0 at f in
      let apart : root_of ((k, d) ∷ w) v ≡ root_of w v = root_past k d w v a.1 in
      elim (eqb_tells k u) [
        | inl b ↦ newest d b.1 apart (λ p x y g h. root_stays w v ty ds es p x y s.2 g h) e head
        | inr b ↦ lift (root_of ((k, d) ∷ w) v) (root_of w v) apart (root_stays w v ty ds es u l m s.2 (sym (look_past k d w u b.1) ∙ e) (sym (look_past k d (replaced w v (root ty ds es)) u b.1) ∙ head))
      ])
] where
  lift : (a b : ℕ) → a ≡ b → (m.root ≡ l.root) ⊎ ((m.root ≡ v) × (l.root ≡ b)) → (m.root ≡ l.root) ⊎ ((m.root ≡ v) × (l.root ≡ a))
  lift a b e (inl h) = inl h
  lift a b e (inr h) = inr (h.0, h.1 ∙ sym e)

  newest : (d : ArrayDef) → k ≡ u → root_of ((k, d) ∷ w) v ≡ root_of w v
      → ((p : ℕ) (x y : Look) → look w p ≡ Some x → look (replaced w v (root ty ds es)) p ≡ Some y → (y.root ≡ x.root) ⊎ ((y.root ≡ v) × (x.root ≡ root_of w v)))
      → look ((k, d) ∷ w) u ≡ Some l → look ((k, d) ∷ replaced w v (root ty ds es)) u ≡ Some m
      → (m.root ≡ l.root) ⊎ ((m.root ≡ v) × (l.root ≡ root_of ((k, d) ∷ w) v))
  newest (root ty2 ds2 es2) b apart older e head =
      inl (ap root_from (sym head ∙ ap (look ((k, root ty2 ds2 es2) ∷ replaced w v (root ty ds es))) (sym b) ∙ root_here k ty2 ds2 es2 (replaced w v (root ty ds es)) ∙ sym (root_here k ty2 ds2 es2 w) ∙ ap (look ((k, root ty2 ds2 es2) ∷ w)) b ∙ e))
  newest (view p t) b apart older e head =
      let up : (x : Look) × (look w p ≡ Some x) × (l.root ≡ x.root) = through_some t (look w p) l (sym (view_here k p t w) ∙ ap (look ((k, view p t) ∷ w)) b ∙ e) in
      let above : (x : Look) × (look (replaced w v (root ty ds es)) p ≡ Some x) × (m.root ≡ x.root) = through_some t (look (replaced w v (root ty ds es)) p) m (sym (view_here k p t (replaced w v (root ty ds es))) ∙ ap (look ((k, view p t) ∷ replaced w v (root ty ds es))) b ∙ head) in
      elim (older p up.0 above.0 up.1 above.1) [
        | inl h ↦ inl (above.2 ∙ h ∙ sym up.2)
        | inr h ↦ inr (above.2 ∙ h.0, up.2 ∙ h.1 ∙ sym apart)
      ]

-- a live array is one of the world's
pub live_has : (w : World) (v : ℕ) → IsLive w v → (d : ArrayDef) × Has w v d
live_has [] v l = absurd l
live_has ((k, d) ∷ w) v l = elim (eqb_tells k v) [
  | inl t ↦ (d, inl (t.1, refl))
  | inr t ↦ (let older : (e : ArrayDef) × Has w v e = live_has w v (subst (λ o. IsSomeAnd o (λ (x : Look). Unit {0})) (look_past k d w v t.1) l) in (older.0, inr older.1))
]
