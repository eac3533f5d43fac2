-- What lists of numbers in rising order hold of a number, and what edits do.
use Rattle.std.proofs.Common.{◌≡◌, ℕ, zero, suc, ◌<◌, ◌≤◌, Bool, true, false, List, [], ◌∷◌, ◌++◌, length, get_or, set, filter, map, reverse, not, is_some, Option, Some, None, inl, inr, refl, sym, ◌∙◌, ap, subst, arith}
use Rattle.std.proofs.lemmas.Bool.Decides.{eqb_tells, leb_tells}
use Rattle.std.proofs.lemmas.List.{append_assoc, reverse-append}
use Rattle.std.specs.BTreeMap.{BTreeMap, UpdatesBy, insert_entry, is_at}
use Rattle.std.specs.BTreeMap.Range.{range_contains}
use Rattle.std.specs.Cmp.{nat_cmp_is}
use Rattle.std.specs.List.{AllByRecursion, remove}
use Rattle.std.specs.List.Sorted.{IsStrictlySortedBy}
use Rattle.std.specs.Map.{keys_of, lookup}
use Rattle.std.specs.Option.{option_or}
use Rattle.std.specs.Ordering.{flip_args, is_lt, nat_cmp}
use Rattle.std.specs.declared.cmp.Ordering.TheVariants.{Less, Equal, Greater}
use Rattle.std.specs.declared.ops.Bound.TheVariants.{Included, Unbounded}
use Rattle.pdl_lemmas.specs.Numbers.{at_other, at_same}
use Rattle.pdl_registry.specs.Numbered.{AllAbove, IsAbove, IsPlace, IsPut, Rises, first_from, value_at}

is_less : (a b : ℕ) → nat_cmp a b ≡ Less → a < b
is_less a b h = elim (eqb_tells a b) [
  | inl t ↦ (let x : Equal ≡ Less = nat_cmp_is a b Equal t.1 ∙ h in absurd (cc))
  | inr t ↦ elim (leb_tells a b) [
    | inl l ↦ omega (arith, l.1, t.1)
    | inr l ↦ (let x : Greater ≡ Less = nat_cmp_is a b Greater l.1 ∙ h in absurd (cc))
  ]
]

or_none : {V : Type 0} (o : Option V) → option_or o None ≡ o
or_none None = refl
or_none (Some x) = refl

module _ {V : Type 0} where
  none_or : (o : Option V) → (is_some o ≡ true → ⊥) → o ≡ None
  none_or None h = refl
  none_or (Some x) h = absurd (h refl)

  -- a number below all has no value
  pub none_below : (v : ℕ) (es : List (ℕ × V)) → AllAbove v es → value_at es v ≡ None
  none_below v [] a = refl
  none_below v (e ∷ es) a = rw (at_other v e.0 (λ (y : e.0 ≡ v). let z : ⊥ = omega (arith, a.0, y) in z)) (none_below v es a.1)

  -- numbers above v that have values
  above_value : (v u : ℕ) (es : List (ℕ × V)) → AllAbove v es → is_some (value_at es u) ≡ true → v < u
  above_value v u [] a h = absurd (cc)
  above_value v u (e ∷ es) a h = elim (eqb_tells e.0 u) [
    | inl t ↦ omega (arith, t.1, a.0)
    | inr t ↦ above_value v u es a.1 (rw (at_other u e.0 t.1) at h)
  ]

  with_more : (e : ℕ × V) (es : List (ℕ × V)) (u : ℕ) → is_some (value_at es u) ≡ true → is_some (value_at (e ∷ es) u) ≡ true
  with_more e es u h = elim (eqb_tells e.0 u) [
    | inl t ↦ rw (at_same u e.0 t.1) refl
    | inr t ↦ rw (at_other u e.0 t.1) h
  ]

  all_above : (v : ℕ) (es : List (ℕ × V)) → ((u : ℕ) → is_some (value_at es u) ≡ true → v < u) → AllAbove v es
  all_above v [] h = tt
  all_above v (e ∷ es) h = (h e.0 (rw (at_same e.0 e.0 refl) refl), all_above v es (λ u g. h u (with_more e es u g)))

  -- and numbers below it
  value_below : (v u : ℕ) (es : List (ℕ × V)) → IsAbove v es → is_some (value_at es u) ≡ true → u < v
  value_below v u [] a h = absurd (cc)
  value_below v u (e ∷ es) a h = elim (eqb_tells e.0 u) [
    | inl t ↦ omega (arith, t.1, a.0)
    | inr t ↦ value_below v u es a.1 (rw (at_other u e.0 t.1) at h)
  ]

  pub is_above : (v : ℕ) (es : List (ℕ × V)) → ((u : ℕ) → is_some (value_at es u) ≡ true → u < v) → IsAbove v es
  is_above v [] h = tt
  is_above v (e ∷ es) h = (h e.0 (rw (at_same e.0 e.0 refl) refl), is_above v es (λ u g. h u (with_more e es u g)))

  -- what entries and those after them have
  pub value_append : (es fs : List (ℕ × V)) (v : ℕ) → value_at (es ++ fs) v ≡ option_or (value_at es v) (value_at fs v)
  value_append [] fs v = refl
  value_append (e ∷ es) fs v = elim (eqb_tells e.0 v) [
    | inl t ↦ rw (at_same v e.0 t.1) refl
    | inr t ↦ rw (at_other v e.0 t.1) (value_append es fs v)
  ]

  -- two lists that rise one after the other
  pub record IsParted (es fs : List (ℕ × V)) : Type 0 where
    pub before : Rises es
    pub after : Rises fs
    pub apart : (u w : ℕ) → is_some (value_at es u) ≡ true → is_some (value_at fs w) ≡ true → u < w

  above_both : (v : ℕ) (es fs : List (ℕ × V)) → AllAbove v (es ++ fs) → AllAbove v es × AllAbove v fs
  above_both v [] fs a = (tt, a)
  above_both v (e ∷ es) fs a = let b : AllAbove v es × AllAbove v fs = above_both v es fs a.1 in ((a.0, b.0), b.1)

  above_append : (v : ℕ) (es fs : List (ℕ × V)) → AllAbove v es → AllAbove v fs → AllAbove v (es ++ fs)
  above_append v [] fs a b = b
  above_append v (e ∷ es) fs a b = (a.0, above_append v es fs a.1 b)

  pub parted : (es fs : List (ℕ × V)) → Rises (es ++ fs) → IsParted es fs
  parted [] fs r = record { before = tt; after = r; apart = λ u w h g. (let z : false ≡ true = h in absurd (cc)) }
  parted (e ∷ es) fs r =
      let p : IsParted es fs = parted es fs r.1 in
      let b : AllAbove e.0 es × AllAbove e.0 fs = above_both e.0 es fs r.0 in record {
        before = (b.0, p.before);
        after = p.after;
        apart = λ u w h g. elim (eqb_tells e.0 u) [
          | inl t ↦ (let l : e.0 < w = above_value e.0 w fs b.1 g in omega (arith, t.1))
          | inr t ↦ p.apart u w (rw (at_other u e.0 t.1) at h) g
        ];
      }

  together : (es fs : List (ℕ × V)) → IsParted es fs → Rises (es ++ fs)
  together [] fs p = p.after
  together (e ∷ es) fs p = (
    above_append e.0 es fs p.before.0 (all_above e.0 fs (λ w g. p.apart e.0 w (rw (at_same e.0 e.0 refl) refl) g)),
    together es fs (record { before = p.before.1; after = p.after; apart = λ u w h g. p.apart u w (with_more e es u h) g }),
  )

  pub value_before : (es fs : List (ℕ × V)) (v : ℕ) → value_at fs v ≡ None → value_at (es ++ fs) v ≡ value_at es v
  value_before es fs v z = value_append es fs v ∙ ap (option_or (value_at es v)) z ∙ or_none (value_at es v)

  -- what one of the later ones has, none of the earlier has
  none_before : (es fs : List (ℕ × V)) (v : ℕ) → IsParted es fs → is_some (value_at fs v) ≡ true → value_at es v ≡ None
  none_before es fs v p h = none_or (value_at es v) (λ g. let l : v < v = p.apart v v g h in omega arith)

  -- an edit of the later ones, or of the earlier, at a number that they have
  put_after : (es fs gs : List (ℕ × V)) (v : ℕ) (o : Option V) → IsParted es fs → is_some (value_at fs v) ≡ true → Rises gs → IsPut fs gs v o → IsPut (es ++ fs) (es ++ gs) v o × IsParted es gs
  put_after es fs gs v o p h r q = (
    record {
      here = value_append es gs v ∙ rw (none_before es fs v p h) q.here;
      others = λ u n. value_append es gs u ∙ ap (option_or (value_at es u)) (q.others u n) ∙ sym (value_append es fs u);
    },
    record {
      before = p.before;
      after = r;
      apart = λ u w x y. elim (eqb_tells w v) [
        | inl t ↦ (let l : u < v = p.apart u v x h in omega (arith, t.1))
        | inr t ↦ p.apart u w x (ap is_some (sym (q.others w t.1)) ∙ y)
      ];
    },
  )

  put_before : (es gs fs : List (ℕ × V)) (v : ℕ) (o : Option V) → IsParted es fs → value_at fs v ≡ None → (is_some o ≡ true → is_some (value_at es v) ≡ true) → Rises gs → IsPut es gs v o → IsPut (es ++ fs) (gs ++ fs) v o × IsParted gs fs
  put_before es gs fs v o p z h r q = (
    record {
      here = value_append gs fs v ∙ ap (option_or (value_at gs v)) z ∙ or_none (value_at gs v) ∙ q.here;
      others = λ u n. value_append gs fs u ∙ ap (λ x. option_or x (value_at fs u)) (q.others u n) ∙ sym (value_append es fs u);
    },
    record {
      before = r;
      after = p.after;
      apart = λ u w x y. elim (eqb_tells u v) [
        | inl t ↦ (let l : v < w = p.apart v w (h (ap is_some (sym q.here) ∙ ap (λ n. is_some (value_at gs n)) (sym t.1) ∙ x)) y in omega (arith, t.1))
        | inr t ↦ p.apart u w (ap is_some (sym (q.others u t.1)) ∙ x) y
      ];
    },
  )

  -- a number above all goes to the end
  put_last : (es : List (ℕ × V)) (v : ℕ) (x : V) → Rises es → IsAbove v es → IsPut es (es ++ (v, x) ∷ []) v (Some x) × Rises (es ++ (v, x) ∷ [])
  put_last es v x r b =
      let none : value_at es v ≡ None = none_or (value_at es v) (λ g. let l : v < v = value_below v v es b g in omega arith) in (
        record {
          here = value_append es ((v, x) ∷ []) v ∙ rw (none, at_same v v refl) refl;
          others = λ u n. value_append es ((v, x) ∷ []) u ∙ rw (at_other u v (λ y. n (sym y))) (or_none (value_at es u));
        },
        together es ((v, x) ∷ []) (record {
          before = r;
          after = (tt, tt);
          apart = λ u w g h. elim (eqb_tells v w) [
            | inl t ↦ (let l : u < v = value_below v u es b g in omega (arith, t.1))
            | inr t ↦ (let z : false ≡ true = rw (at_other w v t.1) at h in absurd (cc))
          ];
        }),
      )

  -- the same place in what follows the first entry
  place_below : (e : ℕ × V) (es : List (ℕ × V)) (v i : ℕ) → IsPlace (e ∷ es) v (suc i) → IsPlace es v i
  place_below e es v i p = record { in_range = omega (arith, p.in_range); number = p.number }

  above_at : (v : ℕ) (es : List (ℕ × V)) (i : ℕ) (d : ℕ × V) → AllAbove v es → i < length es → v < (get_or es i d).0
  above_at v [] i d a lt = absurd (omega arith)
  above_at v (e ∷ es) zero d a lt = a.0
  above_at v (e ∷ es) (suc i) d a lt = above_at v es i d a.1 (omega arith)

  not_first : (e : ℕ × V) (es : List (ℕ × V)) (v i : ℕ) → AllAbove e.0 es → IsPlace es v i → e.0 < v
  not_first e es v i a p = let b : e.0 < (get_or es i e).0 = above_at e.0 es i e a p.in_range in omega (arith, p.number e)

  -- what stands at a number's place is its value
  pub value_there : (es : List (ℕ × V)) (v i : ℕ) (d : ℕ × V) → Rises es → IsPlace es v i → value_at es v ≡ Some (get_or es i d).1
  value_there [] v i d r p = absurd (omega (arith, p.in_range))
  value_there (e ∷ es) v zero d r p = rw (at_same v e.0 (p.number e)) refl
  value_there (e ∷ es) v (suc i) d r p =
      let b : e.0 < v = not_first e es v i r.0 (place_below e es v i p) in
      rw (at_other v e.0 (λ (y : e.0 ≡ v). let z : ⊥ = omega (arith, y) in z)) (value_there es v i d r.1 (place_below e es v i p))

  has_there : (es : List (ℕ × V)) (v i : ℕ) → Rises es → IsPlace es v i → is_some (value_at es v) ≡ true
  has_there [] v i r p = absurd (omega (arith, p.in_range))
  has_there (e ∷ es) v i r p = ap is_some (value_there (e ∷ es) v i e r p)

  pub value_after : (es fs : List (ℕ × V)) (v i : ℕ) (d : ℕ × V) → IsParted es fs → IsPlace fs v i → value_at (es ++ fs) v ≡ Some (get_or fs i d).1
  value_after es fs v i d p q = value_append es fs v ∙ ap (λ o. option_or o (value_at fs v)) (none_before es fs v p (has_there fs v i p.after q)) ∙ value_there fs v i d p.after q

  -- where no number is, and below the first
  pub none_empty : (es : List (ℕ × V)) (v : ℕ) → length es ≡ 0 → value_at es v ≡ None
  none_empty [] v h = refl
  none_empty (e ∷ es) v h = absurd (omega arith)

  above_less : (v u : ℕ) (es : List (ℕ × V)) → v < u → AllAbove u es → AllAbove v es
  above_less v u [] lt a = tt
  above_less v u (e ∷ es) lt a = (omega (arith, a.0), above_less v u es lt a.1)

  pub none_low : (es : List (ℕ × V)) (v : ℕ) (d : ℕ × V) → Rises es → v < (get_or es 0 d).0 → value_at es v ≡ None
  none_low [] v d r lt = refl
  none_low (e ∷ es) v d r lt = none_below v (e ∷ es) (lt, above_less v e.0 es lt r.0)

  -- an edit behind the first entry
  put_more : (e : ℕ × V) (es fs : List (ℕ × V)) (v : ℕ) (o : Option V) → e.0 < v → IsPut es fs v o → IsPut (e ∷ es) (e ∷ fs) v o
  put_more e es fs v o lt q = record {
    here = rw (at_other v e.0 (λ (y : e.0 ≡ v). let z : ⊥ = omega (arith, y) in z)) q.here;
    others = λ u n. elim (eqb_tells e.0 u) [
      | inl t ↦ rw (at_same u e.0 t.1) refl
      | inr t ↦ rw (at_other u e.0 t.1) (q.others u n)
    ];
  }

  -- another value at a number's place
  put_set : (es : List (ℕ × V)) (v i : ℕ) (x : V) → Rises es → IsPlace es v i → IsPut es (set es i (v, x)) v (Some x)
  put_set [] v i x r p = absurd (omega (arith, p.in_range))
  put_set (e ∷ es) v zero x r p = record {
    here = rw (at_same v v refl) refl;
    others = λ u n. rw (at_other u v (λ y. n (sym y)), at_other u e.0 (λ y. n (sym y ∙ p.number e))) refl;
  }
  put_set (e ∷ es) v (suc i) x r p =
      let q : IsPlace es v i = place_below e es v i p in
      put_more e es (set es i (v, x)) v (Some x) (not_first e es v i r.0 q) (put_set es v i x r.1 q)

  above_set : (u : ℕ) (es : List (ℕ × V)) (v i : ℕ) (x : V) → AllAbove u es → u < v → AllAbove u (set es i (v, x))
  above_set u [] v i x a lt = tt
  above_set u (e ∷ es) v zero x a lt = (lt, a.1)
  above_set u (e ∷ es) v (suc i) x a lt = (a.0, above_set u es v i x a.1 lt)

  rises_set : (es : List (ℕ × V)) (v i : ℕ) (x : V) → Rises es → IsPlace es v i → Rises (set es i (v, x))
  rises_set [] v i x r p = absurd (omega (arith, p.in_range))
  rises_set (e ∷ es) v zero x r p = (subst (λ n. AllAbove n es) (p.number e) r.0, r.1)
  rises_set (e ∷ es) v (suc i) x r p =
      let q : IsPlace es v i = place_below e es v i p in
      (above_set e.0 es v i x r.0 (not_first e es v i r.0 q), rises_set es v i x r.1 q)

  -- a number's entry taken out
  put_removed : (es : List (ℕ × V)) (v i : ℕ) → Rises es → IsPlace es v i → IsPut es (remove es i) v None
  put_removed [] v i r p = absurd (omega (arith, p.in_range))
  put_removed (e ∷ es) v zero r p = record {
    here = none_below v es (subst (λ n. AllAbove n es) (p.number e) r.0);
    others = λ u n. rw (at_other u e.0 (λ y. n (sym y ∙ p.number e))) refl;
  }
  put_removed (e ∷ es) v (suc i) r p =
      let q : IsPlace es v i = place_below e es v i p in
      put_more e es (remove es i) v None (not_first e es v i r.0 q) (put_removed es v i r.1 q)

  above_removed : (u : ℕ) (es : List (ℕ × V)) (i : ℕ) → AllAbove u es → AllAbove u (remove es i)
  above_removed u [] zero a = tt
  above_removed u [] (suc i) a = tt
  above_removed u (e ∷ es) zero a = a.1
  above_removed u (e ∷ es) (suc i) a = (a.0, above_removed u es i a.1)

  rises_removed : (es : List (ℕ × V)) (i : ℕ) → Rises es → Rises (remove es i)
  rises_removed [] zero r = tt
  rises_removed [] (suc i) r = tt
  rises_removed (e ∷ es) zero r = r.1
  rises_removed (e ∷ es) (suc i) r = (above_removed e.0 es i r.0, rises_removed es i r.1)

  -- the entries of a map whose highest number stands first, from the lowest on
  turned : (e : ℕ × V) (es : List (ℕ × V)) → reverse (e ∷ es) ≡ reverse es ++ e ∷ []
  turned e es = reverse-append (e ∷ []) es

  -- what the map finds
  pub value_turned : (es : List (ℕ × V)) (v : ℕ) → Rises (reverse es) → lookup (is_at (flip_args nat_cmp v)) es ≡ value_at (reverse es) v
  value_turned [] v r = refl
  value_turned (e ∷ es) v r =
      let p : IsParted (reverse es) (e ∷ []) = parted (reverse es) (e ∷ []) (subst Rises (turned e es) r) in
      let split : value_at (reverse (e ∷ es)) v ≡ option_or (value_at (reverse es) v) (value_at (e ∷ []) v) = ap (λ l. value_at l v) (turned e es) ∙ value_append (reverse es) (e ∷ []) v in
      elim (eqb_tells e.0 v) [
        | inl t ↦ (let has : value_at (e ∷ []) v ≡ Some e.1 = rw (at_same v e.0 t.1) refl in
            let none : value_at (reverse es) v ≡ None = none_before (reverse es) (e ∷ []) v p (ap is_some has) in
            rw (at_same e.0 v (sym t.1)) (sym (split ∙ ap (λ o. option_or o (value_at (e ∷ []) v)) none ∙ has)))
        | inr t ↦ (let has : value_at (e ∷ []) v ≡ None = rw (at_other v e.0 t.1) refl in
            rw (at_other e.0 v (λ y. t.1 (sym y))) (value_turned es v p.before ∙ sym (split ∙ ap (option_or (value_at (reverse es) v)) has ∙ or_none (value_at (reverse es) v))))
      ]

  lookup_below : (k : ℕ) (es : List (ℕ × V)) → AllByRecursion (λ y. nat_cmp y k ≡ Less) (keys_of es) → (u : ℕ) → is_some (lookup (is_at (flip_args nat_cmp u)) es) ≡ true → u < k
  lookup_below k [] a u h = absurd (cc)
  lookup_below k (e ∷ es) a u h = elim (eqb_tells e.0 u) [
    | inl t ↦ (let l : e.0 < k = is_less e.0 k a.0 in omega (arith, t.1))
    | inr t ↦ lookup_below k es a.1 u (rw (at_other e.0 u (λ y. t.1 (sym y))) at h)
  ]

  -- its keys
  rises : (es : List (ℕ × V)) → IsStrictlySortedBy (flip_args nat_cmp) (keys_of es) → Rises (reverse es)
  unfolding IsStrictlySortedBy
  rises [] s = tt
  rises ((k, x) ∷ es) s =
      let r : Rises (reverse es) = rises es s.1 in
      let b : IsAbove k (reverse es) = is_above k (reverse es) (λ u h. lookup_below k es s.0 u (ap is_some (value_turned es u r) ∙ h)) in
      subst Rises (sym (turned (k, x) es)) (put_last (reverse es) k x r b).1

  -- the first of the later ones goes to the front of the map
  entry_first : (es fs : List (ℕ × V)) (k : ℕ) (x : V) → Rises (reverse es ++ (k, x) ∷ fs) → insert_entry (flip_args nat_cmp) es k x ≡ (k, x) ∷ es
  entry_first [] fs k x r = refl
  entry_first (e ∷ es) fs k x r =
      let p : IsParted (reverse (e ∷ es)) ((k, x) ∷ fs) = parted (reverse (e ∷ es)) ((k, x) ∷ fs) r in
      let here : is_some (value_at (reverse (e ∷ es)) e.0) ≡ true = ap is_some (sym (value_turned (e ∷ es) e.0 p.before)) ∙ rw (at_same e.0 e.0 refl) refl in
      let l : e.0 < k = p.apart e.0 k here (rw (at_same k k refl) refl) in
      rw (sym (nat_cmp_is e.0 k Less l)) refl

  pub first_moved : (es fs : List (ℕ × V)) (d : ℕ × V) → 0 < length fs → Rises (reverse es ++ fs) → (let f = get_or fs 0 d in reverse (insert_entry (flip_args nat_cmp) es f.0 f.1) ++ remove fs 0 ≡ reverse es ++ fs)
  first_moved es [] d lt r = absurd (omega arith)
  first_moved es ((k, x) ∷ fs) d lt r = ap (λ l. reverse l ++ fs) (entry_first es fs k x r) ∙ ap (λ l. l ++ fs) (turned (k, x) es) ∙ append_assoc (reverse es) ((k, x) ∷ []) fs

  -- the first number from v on
  abbrev pub first_of : List (ℕ × V) → ℕ → Option ℕ
  first_of es v = first_from (map (λ e. e.0) es) v

  pub first_append : (es fs : List (ℕ × V)) (v : ℕ) → first_of (es ++ fs) v ≡ option_or (first_of es v) (first_of fs v)
  first_append [] fs v = refl
  first_append (e ∷ es) fs v = elim (leb_tells v e.0) [
    | inl t ↦ rw t.0 refl
    | inr t ↦ rw t.0 (first_append es fs v)
  ]

  abbrev inside : ℕ → ℕ × V → Bool
  inside v e = range_contains (flip_args nat_cmp) Unbounded (Included v) e.0

  inside_true : (v : ℕ) (e : ℕ × V) → v ≤ e.0 → inside v e ≡ true
  inside_true v e l = elim (eqb_tells v e.0) [
    | inl t ↦ ap (λ o. not (is_lt o)) (sym (nat_cmp_is e.0 v Equal (sym t.1)))
    | inr t ↦ (let m : v < e.0 = omega (arith, l, t.1) in ap (λ o. not (is_lt o)) (sym (nat_cmp_is e.0 v Greater m)))
  ]

  inside_false : (v : ℕ) (e : ℕ × V) → e.0 < v → inside v e ≡ false
  inside_false v e l = ap (λ o. not (is_lt o)) (sym (nat_cmp_is e.0 v Less l))

  -- what the map's first entry adds, which is its highest number
  first_turned : (e : ℕ × V) (es : List (ℕ × V)) (v : ℕ) (o : Option ℕ) → first_of (e ∷ []) v ≡ o → first_of (reverse (e ∷ es)) v ≡ option_or (first_of (reverse es) v) o
  first_turned e es v o h = ap (λ l. first_of l v) (turned e es) ∙ first_append (reverse es) (e ∷ []) v ∙ ap (option_or (first_of (reverse es) v)) h

  pub none_between : (es : List (ℕ × V)) (v : ℕ) → filter (inside v) es ≡ [] → first_of (reverse es) v ≡ None
  none_between [] v h = refl
  none_between (e ∷ es) v h = elim (leb_tells v e.0) [
    | inl t ↦ (let f : e ∷ filter (inside v) es ≡ [] = rw (inside_true v e t.1) at h in absurd (cc))
    | inr t ↦ first_turned e es v None (rw t.0 refl) ∙ or_none (first_of (reverse es) v) ∙ none_between es v (rw (inside_false v e (omega (arith, t.1))) at h)
  ]

  pub last_between : (es rest : List (ℕ × V)) (v k : ℕ) (x : V) → filter (inside v) es ≡ rest ++ (k, x) ∷ [] → first_of (reverse es) v ≡ Some k
  last_between [] [] v k x h = absurd (cc)
  last_between [] (r ∷ rest) v k x h = absurd (cc)
  last_between (e ∷ es) [] v k x h = elim (leb_tells v e.0) [
    | inl t ↦ (let f : e ∷ filter (inside v) es ≡ (k, x) ∷ [] = rw (inside_true v e t.1) at h in
        let a : e ≡ (k, x) = cc in
        let z : filter (inside v) es ≡ [] = cc in
        first_turned e es v (Some e.0) (rw t.0 refl) ∙ ap (λ o. option_or o (Some e.0)) (none_between es v z) ∙ ap (λ p. Some p.0) a)
    | inr t ↦ first_turned e es v None (rw t.0 refl) ∙ or_none (first_of (reverse es) v) ∙ last_between es [] v k x (rw (inside_false v e (omega (arith, t.1))) at h)
  ]
  last_between (e ∷ es) (r ∷ rest) v k x h = elim (leb_tells v e.0) [
    | inl t ↦ (let f : e ∷ filter (inside v) es ≡ r ∷ (rest ++ (k, x) ∷ []) = rw (inside_true v e t.1) at h in
        let z : filter (inside v) es ≡ rest ++ (k, x) ∷ [] = cc in
        first_turned e es v (Some e.0) (rw t.0 refl) ∙ ap (λ o. option_or o (Some e.0)) (last_between es rest v k x z))
    | inr t ↦ first_turned e es v None (rw t.0 refl) ∙ or_none (first_of (reverse es) v) ∙ last_between es (r ∷ rest) v k x (rw (inside_false v e (omega (arith, t.1))) at h)
  ]

  -- what the map says of a number, and of an edit
  pub value_of : (es fs : List (ℕ × V)) (v k : ℕ) → k ≡ v → Rises (reverse es ++ fs) → lookup (is_at (flip_args nat_cmp k)) es ≡ value_at (reverse es) v
  value_of es fs v k e r = value_turned es k (parted (reverse es) fs r).before ∙ ap (value_at (reverse es)) e

  updated : (m n : BTreeMap ℕ V) (v k : ℕ) (o : Option V) → k ≡ v → Rises (reverse m.entries) → Rises (reverse n.entries) → UpdatesBy (flip_args nat_cmp) (flip_args nat_cmp k) m n o → IsPut (reverse m.entries) (reverse n.entries) v o
  updated m n v k o e a b u = record {
    here = ap (value_at (reverse n.entries)) (sym e) ∙ sym (value_turned n.entries k b) ∙ u.1;
    others = λ w d. sym (value_turned n.entries w b) ∙ u.2 w (at_other w k (λ y. d (sym y ∙ e))) ∙ value_turned m.entries w a;
  }

  -- the newest get one more, a value of one changes or one goes, or the map is edited
  pub put_pushed : (es fs gs old : List (ℕ × V)) (v : ℕ) (x : V) → es ++ fs ≡ old → Rises old → IsAbove v old → gs ≡ fs ++ (v, x) ∷ [] → IsPut old (es ++ gs) v (Some x) × Rises (es ++ gs)
  put_pushed es fs gs old v x same r b g =
      let eq : es ++ gs ≡ old ++ (v, x) ∷ [] = ap (λ l. es ++ l) g ∙ sym (append_assoc es fs ((v, x) ∷ [])) ∙ ap (λ l. l ++ (v, x) ∷ []) same in
      let both = put_last old v x r b in
      (subst (λ l. IsPut old l v (Some x)) (sym eq) both.0, subst Rises (sym eq) both.1)

  pub put_newest : (es fs : List (ℕ × V)) (v i : ℕ) (x : V) → Rises (es ++ fs) → IsPlace fs v i → IsPut (es ++ fs) (es ++ set fs i (v, x)) v (Some x) × Rises (es ++ set fs i (v, x))
  put_newest es fs v i x r q =
      let p : IsParted es fs = parted es fs r in
      let both = put_after es fs (set fs i (v, x)) v (Some x) p (has_there fs v i p.after q) (rises_set fs v i x p.after q) (put_set fs v i x p.after q) in
      (both.0, together es (set fs i (v, x)) both.1)

  pub remove_newest : (es fs : List (ℕ × V)) (v i : ℕ) → Rises (es ++ fs) → IsPlace fs v i → IsPut (es ++ fs) (es ++ remove fs i) v None × Rises (es ++ remove fs i)
  remove_newest es fs v i r q =
      let p : IsParted es fs = parted es fs r in
      let both = put_after es fs (remove fs i) v None p (has_there fs v i p.after q) (rises_removed fs i p.after) (put_removed fs v i p.after q) in
      (both.0, together es (remove fs i) both.1)

  pub put_settled : (m n : BTreeMap ℕ V) (fs : List (ℕ × V)) (v k : ℕ) (o : Option V) → k ≡ v → Rises (reverse m.entries ++ fs) → value_at fs v ≡ None → (is_some o ≡ true → is_some (value_at (reverse m.entries) v) ≡ true)
      → IsStrictlySortedBy (flip_args nat_cmp) (keys_of n.entries) → UpdatesBy (flip_args nat_cmp) (flip_args nat_cmp k) m n o → IsPut (reverse m.entries ++ fs) (reverse n.entries ++ fs) v o × Rises (reverse n.entries ++ fs)
  put_settled m n fs v k o e r z h s u =
      let p : IsParted (reverse m.entries) fs = parted (reverse m.entries) fs r in
      let rs : Rises (reverse n.entries) = rises n.entries s in
      let both = put_before (reverse m.entries) (reverse n.entries) fs v o p z h rs (updated m n v k o e p.before rs u) in
      (both.0, together (reverse n.entries) fs both.1)

  -- another value of a number that stands in the map
  pub change_settled : (m n : BTreeMap ℕ V) (fs : List (ℕ × V)) (v k : ℕ) (x y : V) → k ≡ v → Rises (reverse m.entries ++ fs) → value_at fs v ≡ None → Some x ≡ lookup (is_at (flip_args nat_cmp k)) m.entries
      → IsStrictlySortedBy (flip_args nat_cmp) (keys_of n.entries) → UpdatesBy (flip_args nat_cmp) (flip_args nat_cmp k) m n (Some y) → IsPut (reverse m.entries ++ fs) (reverse n.entries ++ fs) v (Some y) × Rises (reverse n.entries ++ fs)
  change_settled m n fs v k x y e r z g s u = put_settled m n fs v k (Some y) e r z (λ h. sym (ap is_some (g ∙ value_of m.entries fs v k e r))) s u
