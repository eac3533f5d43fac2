-- Arrays that come make none dearer that was there.
use Rattle.std.proofs.Common.{◌≡◌, ℕ, ◌+◌, ◌≤◌, ◌<◌, Bool, true, false, List, [], ◌∷◌, ◌++◌, Option, Some, None, Result, Ok, Err, inl, inr, refl, sym, ap, subst, ◌∙◌, arith}
use Rattle.std.specs.Prelude.{◌==◌, ◌&&◌, not, if◌then◌else◌, IsSomeAnd, option_and_then, sum_by}
use Rattle.std.specs.Option.{option_map_or}
use Rattle.std.proofs.lemmas.Bool.{eq-eqb, ne_eqb}
use Rattle.std.proofs.lemmas.Bool.Decides.{eqb_tells}
use Rattle.std.proofs.lemmas.List.Sums.{sum_by-cons, sum_by-le-sum_by}
use Rattle.pdl_shape.specs.Refusals.{Refusal}
use Rattle.pdl_shape.specs.Shape.{size_of}
use Rattle.pdl_nodes.specs.Owed.{owed, size_if}
use Rattle.pdl_world.specs.Formula.{child_dims}
use Rattle.pdl_world.specs.Paths.{path, root_of}
use Rattle.pdl_world.specs.Sound.{IsLive, IsSound, NumbersBelow}
use Rattle.pdl_world.specs.Swept.{is_listed}
use Rattle.pdl_world.specs.Windows.{Window, base, window}
use Rattle.pdl_world.specs.World.{World, ArrayDef, Look, dims_in, look, root, seen_through, through, view}
use Rattle.pdl_world.specs.declared.Trans.{Trans}
use Rattle.pdl_engine.specs.State.{State as Engine, AreWaiting, IsLazy, StayFresh, is_fresh, outdated, outdated_at, ready_steps, waiting, waiting_at, waiting_size}
use Rattle.pdl_scope.specs.Costs.{CostsNoMore, GrowingMakesNoneDearer}
use Rattle.pdl_scope.specs.Scope.{engine_of}
use Rattle.pdl_scope.proofs.CostLemmas.{nothing_if, owed_less}

-- a newer array changes nothing that is seen of another number
pub past_look : (k : ℕ) (d : ArrayDef) (w : World) (v : ℕ) → (k ≡ v → ⊥) → look ((k, d) ∷ w) v ≡ look w v
past_look k (root ty ds es) w v h = rw (ne_eqb k v h) refl
past_look k (view p t) w v h = rw (ne_eqb k v h) refl

past_window : (k : ℕ) (d : ArrayDef) (w : World) (v : ℕ) → (k ≡ v → ⊥) → window ((k, d) ∷ w) v ≡ window w v
past_window k (root ty ds es) w v h = rw (ne_eqb k v h) refl
past_window k (view p t) w v h = rw (ne_eqb k v h) refl

past_path : (k : ℕ) (d : ArrayDef) (w : World) (v : ℕ) → (k ≡ v → ⊥) → path ((k, d) ∷ w) v ≡ path w v
past_path k (root ty ds es) w v h = rw (ne_eqb k v h) refl
past_path k (view p t) w v h = rw (ne_eqb k v h) refl

pub live_below : (w : World) (n v : ℕ) → NumbersBelow n w → IsLive w v → v < n
live_below [] n v b live = absurd live
live_below ((k, d) ∷ w) n v b live = elim (eqb_tells k v) [
  | inl t ↦ (let low : k < n = b.0 in let same : k ≡ v = t.1 in omega arith)
  | inr t ↦ live_below w n v b.1 (subst (λ o. IsSomeAnd o (λ l. Unit {0})) (past_look k d w v t.1) live)
]

-- What an array owes, of what its world shows of it alone.
abbrev owed_in : (fresh : List ℕ) → World → ℕ → ℕ
owed_in fresh w u = owed (base w u == u) (root_of w u == u) (is_listed fresh u) (size_of (dims_in w u))

abbrev owed_on : (fresh : List ℕ) → World → List ℕ → ℕ
owed_on fresh w us = sum_by (owed_in fresh w) us

past_owed : (fresh : List ℕ) (k : ℕ) (d : ArrayDef) (w : World) (u : ℕ) → (k ≡ u → ⊥) → owed_in fresh ((k, d) ∷ w) u ≡ owed_in fresh w u
past_owed fresh k d w u h =
    let of : Option Window → Option Look → ℕ = λ x l. owed (option_map_or (λ (y : Window). y.base) x u == u) (option_map_or (λ (m : Look). m.root) l u == u) (is_listed fresh u) (size_of (option_map_or (λ (m : Look). m.dims) l [])) in
    ap (λ x. of x (look ((k, d) ∷ w) u)) (past_window k d w u h) ∙ ap (of (window w u)) (past_look k d w u h)

-- numbers that are below this one
abbrev AllBelow : ℕ → List ℕ → Type 0
AllBelow n [] = Unit {0}
AllBelow n (u ∷ us) = (u < n) × AllBelow n us

below_front : (n : ℕ) (w : World) (v : ℕ) → NumbersBelow n w → AllBelow n (path w v)
below_front n [] v b = tt
below_front n ((k, root ty ds es) ∷ w) v b = elim (eqb_tells k v) [
  | inl t ↦ rw t.0 (b.0, tt)
  | inr t ↦ rw t.0 (below_front n w v b.1)
]
below_front n ((k, view p x) ∷ w) v b = elim (eqb_tells k v) [
  | inl t ↦ rw t.0 (b.0, below_front n w p b.1)
  | inr t ↦ rw t.0 (below_front n w v b.1)
]

past_all : (fresh : List ℕ) (k : ℕ) (d : ArrayDef) (w : World) (us : List ℕ) → AllBelow k us → owed_on fresh ((k, d) ∷ w) us ≡ owed_on fresh w us
past_all fresh k d w [] b = refl
past_all fresh k d w (u ∷ us) b =
    let here : owed_in fresh ((k, d) ∷ w) u ≡ owed_in fresh w u = past_owed fresh k d w u (λ e. absurd (omega (arith, e, b.0))) in
    let rest : owed_on fresh ((k, d) ∷ w) us ≡ owed_on fresh w us = past_all fresh k d w us b.1 in
    omega (arith, here, rest, sum_by-cons (owed_in fresh ((k, d) ∷ w)) u us, sum_by-cons (owed_in fresh w) u us)

-- What is seen of an array once others came.
pub record IsUntouched (old new : World) (v : ℕ) : Type 0 where
  pub look_is : look new v ≡ look old v
  pub window_is : window new v ≡ window old v
  pub path_is : path new v ≡ path old v
  pub owed_is : (fresh : List ℕ) → owed_on fresh new (path new v) ≡ owed_on fresh old (path old v)

older_below : (more w : World) (n : ℕ) → NumbersBelow n (more ++ w) → NumbersBelow n w
older_below [] w n b = b
older_below (a ∷ more) w n b = older_below more w n b.1

pub untouched : (more w : World) (v : ℕ) → IsSound (more ++ w) → IsLive w v → IsUntouched w (more ++ w) v
untouched [] w v sound live = record { look_is = refl; window_is = refl; path_is = refl; owed_is = λ fresh. refl }
untouched ((k, d) ∷ more) w v sound live =
    let rest = untouched more w v sound.2 live in
    let low : v < k = live_below w k v (older_below more w k sound.0) live in
    let other : k ≡ v → ⊥ = λ e. absurd (omega (arith, e, low)) in
    let on : path ((k, d) ∷ (more ++ w)) v ≡ path (more ++ w) v = past_path k d (more ++ w) v other in
    record {
      look_is = past_look k d (more ++ w) v other ∙ rest.look_is;
      window_is = past_window k d (more ++ w) v other ∙ rest.window_is;
      path_is = on ∙ rest.path_is;
      owed_is = λ fresh. ap (owed_on fresh ((k, d) ∷ (more ++ w))) on ∙ past_all fresh k d (more ++ w) (path (more ++ w) v) (below_front k (more ++ w) v sound.0) ∙ rest.owed_is fresh;
    }

-- the array is a root, which shows itself
pub record IsRoot (w : World) (r : ℕ) : Type 0 where
  pub live : IsLive w r
  pub own : root_of w r ≡ r
  pub base_is : base w r ≡ r

still_root : (k : ℕ) (d : ArrayDef) (w : World) (r : ℕ) → NumbersBelow k w → IsRoot w r → IsRoot ((k, d) ∷ w) r
still_root k d w r b is =
    let low : r < k = live_below w k r b is.live in
    let other : k ≡ r → ⊥ = λ e. absurd (omega (arith, e, low)) in
    record {
      live = subst (λ o. IsSomeAnd o (λ l. Unit {0})) (sym (past_look k d w r other)) is.live;
      own = ap (λ o. option_map_or (λ (l : Look). l.root) o r) (past_look k d w r other) ∙ is.own;
      base_is = ap (λ o. option_map_or (λ (x : Window). x.base) o r) (past_window k d w r other) ∙ is.base_is;
    }

-- a view has the root of its parent
pub through_root : (t : Trans) (o : Option Look) (k p : ℕ) → IsSomeAnd (option_and_then (through t) o) (λ l. Unit {0})
    → option_map_or (λ (l : Look). l.root) (option_and_then (through t) o) k ≡ option_map_or (λ (l : Look). l.root) o p
through_root t None k p live = absurd live
through_root t (Some l) k p live = by_dims (child_dims t l.dims) live
  where
    by_dims : (r : Result (List ℕ) Refusal) → IsSomeAnd (seen_through t l r) (λ m. Unit {0}) → option_map_or (λ (m : Look). m.root) (seen_through t l r) k ≡ l.root
    by_dims (Ok ds) live = refl
    by_dims (Err e) live = absurd live

pub rooted : (w : World) (v : ℕ) → IsSound w → IsLive w v → IsRoot w (root_of w v)
rooted [] v sound live = absurd live
rooted ((k, root ty ds es) ∷ w) v sound live = elim (eqb_tells k v) [
  | inl t ↦ (
      let own : root_of ((k, root ty ds es) ∷ w) v ≡ k = rw t.0 refl in
      let here : IsRoot ((k, root ty ds es) ∷ w) k = record { live = rw (eq-eqb k k refl) tt; own = rw (eq-eqb k k refl) refl; base_is = rw (eq-eqb k k refl) refl } in
      subst (IsRoot ((k, root ty ds es) ∷ w)) (sym own) here
      )
  | inr t ↦ (
      let seen : look ((k, root ty ds es) ∷ w) v ≡ look w v = past_look k (root ty ds es) w v t.1 in
      let rest : IsRoot w (root_of w v) = rooted w v sound.2 (subst (λ o. IsSomeAnd o (λ l. Unit {0})) seen live) in
      let same : root_of ((k, root ty ds es) ∷ w) v ≡ root_of w v = ap (λ o. option_map_or (λ (l : Look). l.root) o v) seen in
      subst (IsRoot ((k, root ty ds es) ∷ w)) (sym same) (still_root k (root ty ds es) w (root_of w v) sound.0 rest)
      )
]
rooted ((k, view p x) ∷ w) v sound live = elim (eqb_tells k v) [
  | inl t ↦ (
      let there : IsSomeAnd (option_and_then (through x) (look w p)) (λ l. Unit {0}) = rw t.0 at live in
      let same : root_of ((k, view p x) ∷ w) v ≡ root_of w p = rw t.0 (through_root x (look w p) v p there) in
      subst (IsRoot ((k, view p x) ∷ w)) (sym same) (still_root k (view p x) w (root_of w p) sound.0 (rooted w p sound.2 sound.1.live))
      )
  | inr t ↦ (
      let seen : look ((k, view p x) ∷ w) v ≡ look w v = past_look k (view p x) w v t.1 in
      let rest : IsRoot w (root_of w v) = rooted w v sound.2 (subst (λ o. IsSomeAnd o (λ l. Unit {0})) seen live) in
      let same : root_of ((k, view p x) ∷ w) v ≡ root_of w v = ap (λ o. option_map_or (λ (l : Look). l.root) o v) seen in
      subst (IsRoot ((k, view p x) ∷ w)) (sym same) (still_root k (view p x) w (root_of w v) sound.0 rest)
      )
]

-- Where views are lazy before and after, and what could be lent can be: no more waits.
waits_no_more : (e t : Engine) (more : World) (v : ℕ) → t.world ≡ more ++ e.world → IsSound t.world → IsSound e.world → IsLazy e → IsLazy t → StayFresh e t → IsLive e.world v
    → waiting_size t (waiting t v) ≤ waiting_size e (waiting e v)
waits_no_more e t more v is sound old_sound old new stay live = by_new (waiting t v) refl
  where
    seen : (u : ℕ) → IsLive e.world u → IsUntouched e.world t.world u
    seen u there = subst (λ w. IsUntouched e.world w u) (sym is) (untouched more e.world u (subst IsSound is sound) there)

    still : (u : ℕ) → IsLive e.world u → IsLive t.world u
    still u there = subst (λ o. IsSomeAnd o (λ l. Unit {0})) (sym (seen u there).look_is) there

    root_is : (u : ℕ) → IsLive e.world u → root_of t.world u ≡ root_of e.world u
    root_is u there = ap (λ o. option_map_or (λ (l : Look). l.root) o u) (seen u there).look_is

    base_is : (u : ℕ) → IsLive e.world u → base t.world u ≡ base e.world u
    base_is u there = ap (λ o. option_map_or (λ (x : Window). x.base) o u) (seen u there).window_is

    by_old : (b : ℕ) (o : Option ℕ) → waiting e v ≡ o → AreWaiting t v b → size_of (dims_in t.world b) ≤ size_if (dims_in e.world) o
    by_old b None none at =
        let r = root_of e.world v in
        let top : IsRoot e.world r = rooted e.world v old_sound live in
        let family : root_of t.world r ≡ root_of t.world v = root_is r top.live ∙ top.own ∙ sym (root_is v live) in
        let same : base t.world r ≡ b = at.only r (still r top.live) family (stay r (old.lasts v live none)) in
        let back : b ≡ root_of t.world v = sym same ∙ base_is r top.live ∙ top.base_is ∙ sym (root_is v live) in
        absurd (at.view back)
    by_old b (Some c) some at =
        let before : AreWaiting e v c = old.waits v c live some in
        let family : root_of t.world c ≡ root_of t.world v = root_is c before.live ∙ before.family ∙ sym (root_is v live) in
        let same : base t.world c ≡ b = at.only c (still c before.live) family (stay c before.fresh) in
        let one : c ≡ b = sym before.own ∙ sym (base_is c before.live) ∙ same in
        let dims : dims_in t.world c ≡ dims_in e.world c = ap (λ o. option_map_or (λ (l : Look). l.dims) o []) (seen c before.live).look_is in
        let size : size_of (dims_in t.world b) ≡ size_of (dims_in e.world c) = ap (λ u. size_of (dims_in t.world u)) (sym one) ∙ ap size_of dims in
        omega (arith, size)

    by_new : (o : Option ℕ) → waiting t v ≡ o → waiting_size t o ≤ waiting_size e (waiting e v)
    by_new None none = omega arith
    by_new (Some b) some = by_old b (waiting e v) refl (new.waits v b (still v live) some)

-- so no array that was there is dearer
pub none_dearer : (e t : Engine) (more : World) → t.world ≡ more ++ e.world → IsSound t.world → IsSound e.world → IsLazy e → IsLazy t → StayFresh e t → CostsNoMore e t
none_dearer e t more is sound old_sound old new stay = record { readies = less; reads = λ v live. nothing_if (is_fresh e v) (is_fresh t v) (ready_steps t v) (ready_steps e v) (stay v) (less v live) }
  where
    less : (v : ℕ) → IsLive e.world v → ready_steps t v ≤ ready_steps e v
    less v live =
        let seen : IsUntouched e.world t.world v = subst (λ w. IsUntouched e.world w v) (sym is) (untouched more e.world v (subst IsSound is sound) live) in
        let same : outdated t v ≡ owed_on t.fresh e.world (path e.world v) = seen.owed_is t.fresh in
        let fewer : owed_on t.fresh e.world (path e.world v) ≤ outdated e v =
        sum_by-le-sum_by (owed_in t.fresh e.world) (owed_in e.fresh e.world) (path e.world v) (λ u. owed_less ((base e.world u == u) && not (root_of e.world u == u)) (is_fresh e u) (is_fresh t u) (size_of (dims_in e.world u)) (stay u)) in
        let waits : waiting_size t (waiting t v) ≤ waiting_size e (waiting e v) = waits_no_more e t more v is sound old_sound old new stay live in
        omega (arith, same, fewer, waits)

-- so it is of scopes
pub growing : GrowingMakesNoneDearer
growing old new first last grown =
    none_dearer (engine_of old) (engine_of new) grown.arrays.more grown.arrays.is last.whole.sound first.whole.sound first.lazy last.lazy grown.stay
