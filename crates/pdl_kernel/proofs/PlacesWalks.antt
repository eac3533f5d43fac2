-- The strides times the indices add up in any order, where each dimension has one index.
use Rattle.std.proofs.Common.{◌≡◌, ℕ, zero, suc, ◌+◌, ◌*◌, ◌<◌, ◌≤◌, ℤ, pos, List, [], ◌∷◌, length, drop, get_or, replicate, Some, None, Ok, Err, refl, sym, ap, subst, ◌∙◌, arith}
use Rattle.std.specs.Prelude.{◌⊎◌, Option, Result, Bool, true, false, option_and_then, option_map, slice_set, IfSome}
use Rattle.std.specs.List.{sum_by}
use Rattle.std.proofs.lemmas.List.{at_drop_all, at_drop_more, get_or_past, length-replicate, length-set}
use Rattle.std.proofs.lemmas.List.Sums.{sum_by-set}
use Rattle.std.proofs.lemmas.Bool.{cases_lt}
use mathlib.Core.Logic.{inl, inr}
use Rattle.pdl_sig.specs.Refusals.{dim_names_limit}
use Rattle.pdl_code.specs.Fit.{IsEachOnce, IsLeft, places_of}
use Rattle.pdl_code.specs.declared.names.Variable.{Variable}
use Rattle.pdl_code.specs.declared.tree.Entry.{Given, Looped}
use Rattle.pdl_code.specs.Tree.{Tree, Indices, access, along, binary, none, number, size, named, unary}
use Rattle.pdl_code.specs.TreeOf.{KernelEntry, KernelExpr, entry_of, indices_of, tree_of}
use Rattle.pdl_kernel.specs.declared.axes.Axis.{Axis}
use Rattle.pdl_kernel.specs.declared.faults.Fault.{Fault}
use Rattle.pdl_kernel.specs.Meaning.{Store, and_then, coordinates_in, indices, or_range, start, value, within}
use Rattle.pdl_kernel.specs.Over.{AreIndicesOver, IsTreeOver}
use Rattle.pdl_kernel.specs.Places.{Kind, dot, found, moved, sizes_of, strides_of}

-- the place to which indices lead, one after the other
abbrev pub walk : (sizes loops : List ℕ) → Store → List Axis → Indices → Option ℕ → Result (Option ℕ) Fault
walk sizes loops m axes none q = Ok q
walk sizes loops m axes (along k e rest) q = and_then (value sizes loops m e) (λ i. walk sizes loops m axes rest (moved axes k i q))

-- the place of the indices that are marked
abbrev partial : List Axis → (marks : List Bool) → List ℤ → ℕ → Option ℕ
partial [] bs is q = Some q
partial (a ∷ axes) (true ∷ bs) (i ∷ is) q = option_and_then (λ j. partial axes bs is (q + a.stride * j)) (within i a.size)
partial (a ∷ axes) (false ∷ bs) (i ∷ is) q = partial axes bs is q
partial (a ∷ axes) bs is q = Some q

shifted : (axes : List Axis) (bs : List Bool) (is : List ℤ) (q n : ℕ) → partial axes bs is (q + n) ≡ option_map (λ r. r + n) (partial axes bs is q)
shifted [] bs is q n = refl
shifted (a ∷ axes) [] is q n = refl
shifted (a ∷ axes) (true ∷ bs) [] q n = refl
shifted (a ∷ axes) (false ∷ bs) [] q n = refl
shifted (a ∷ axes) (false ∷ bs) (i ∷ is) q n = shifted axes bs is q n
shifted (a ∷ axes) (true ∷ bs) (i ∷ is) q n = by (λ r. shifted axes bs is r n) (within i a.size)
  where
    by : ((r : ℕ) → partial axes bs is (r + n) ≡ option_map (λ r. r + n) (partial axes bs is r)) → (x : Option ℕ)
        → option_and_then (λ j. partial axes bs is (q + n + a.stride * j)) x ≡ option_map (λ r. r + n) (option_and_then (λ j. partial axes bs is (q + a.stride * j)) x)
    by h None = refl
    by h (Some j) = (let e : q + n + a.stride * j ≡ q + a.stride * j + n = omega arith in ap (partial axes bs is) e) ∙ h (q + a.stride * j)

moved_first : (a : Axis) (axes : List Axis) (i : ℤ) (bs : List Bool) (is : List ℤ) (q : ℕ)
    → option_and_then (λ j. partial axes bs is (q + a.stride * j)) (within i a.size) ≡ moved (a ∷ axes) 0 i (partial axes bs is q)
moved_first a axes i bs is q = by (within i a.size) (partial axes bs is q) (λ n. shifted axes bs is q n)
  where
    by : (x y : Option ℕ) → ((n : ℕ) → partial axes bs is (q + n) ≡ option_map (λ r. r + n) y)
        → option_and_then (λ j. partial axes bs is (q + a.stride * j)) x ≡ option_and_then (λ r. option_map (λ j. r + a.stride * j) x) y
    by None None h = refl
    by None (Some r) h = refl
    by (Some j) None h = h (a.stride * j)
    by (Some j) (Some r) h = h (a.stride * j)

-- an index more
partial_set : (axes : List Axis) (bs : List Bool) (is : List ℤ) (k : ℕ) (i : ℤ) (q : ℕ) → length axes ≤ length bs → length axes ≤ length is → k < length axes → get_or bs k false ≡ false
    → partial axes (slice_set bs k true) (slice_set is k i) q ≡ moved axes k i (partial axes bs is q)
partial_set [] bs is k i q n m lt clear = absurd (omega (arith, lt))
partial_set (a ∷ axes) [] is k i q n m lt clear = absurd (omega (arith, n))
partial_set (a ∷ axes) (b ∷ bs) [] k i q n m lt clear = absurd (omega (arith, m))
partial_set (a ∷ axes) (false ∷ bs) (j ∷ is) zero i q n m lt clear = moved_first a axes i bs is q
partial_set (a ∷ axes) (true ∷ bs) (j ∷ is) zero i q n m lt clear = cc
partial_set (a ∷ axes) (false ∷ bs) (j ∷ is) (suc k) i q n m lt clear = partial_set axes bs is k i q (omega (arith, n)) (omega (arith, m)) (omega (arith, lt)) clear
partial_set (a ∷ axes) (true ∷ bs) (j ∷ is) (suc k) i q n m lt clear = by (λ r. partial_set axes bs is k i r (omega (arith, n)) (omega (arith, m)) (omega (arith, lt)) clear) (within j a.size)
  where
    by : ((r : ℕ) → partial axes (slice_set bs k true) (slice_set is k i) r ≡ moved axes k i (partial axes bs is r)) → (x : Option ℕ)
        → option_and_then (λ t. partial axes (slice_set bs k true) (slice_set is k i) (q + a.stride * t)) x ≡ moved (a ∷ axes) (suc k) i (option_and_then (λ t. partial axes bs is (q + a.stride * t)) x)
    by more None = refl
    by more (Some t) = more (q + a.stride * t)

-- all indices
partial_all : (axes : List Axis) (bs : List Bool) (is : List ℤ) (q : ℕ) → length axes ≤ length is → ((k : ℕ) → k < length axes → get_or bs k false ≡ true)
    → partial axes bs is q ≡ found axes is q
partial_all [] bs is q n h = ap Some (omega arith)
partial_all (a ∷ axes) [] is q n h = let e : false ≡ true = h 0 (omega arith) in cc
partial_all (a ∷ axes) (b ∷ bs) [] q n h = absurd (omega (arith, n))
partial_all (a ∷ axes) (false ∷ bs) (i ∷ is) q n h = let e : false ≡ true = h 0 (omega arith) in cc
partial_all (a ∷ axes) (true ∷ bs) (i ∷ is) q n h = by (λ r. partial_all axes bs is r (omega (arith, n)) (λ k lt. h (suc k) (omega (arith, lt)))) (within i a.size)
  where
    onward : (j : ℕ) (x : Option (List ℕ)) → option_map (λ cs. q + a.stride * j + dot (strides_of axes) cs) x ≡ option_map (λ cs. q + dot (strides_of (a ∷ axes)) cs) (option_map (λ cs. j ∷ cs) x)
    onward j None = refl
    onward j (Some cs) = ap Some (omega arith)

    by : ((r : ℕ) → partial axes bs is r ≡ found axes is r) → (x : Option ℕ)
        → option_and_then (λ j. partial axes bs is (q + a.stride * j)) x ≡ option_map (λ cs. q + dot (strides_of (a ∷ axes)) cs) (option_and_then (λ j. option_map (λ cs. j ∷ cs) (coordinates_in (sizes_of axes) is)) x)
    by more None = refl
    by more (Some j) = more (q + a.stride * j) ∙ onward j (coordinates_in (sizes_of axes) is)

walk_more : (sizes loops : List ℕ) (m : Store) (axes : List Axis) (is : Indices) (marks : List Bool) (js : List ℤ) (q : ℕ) → length axes ≤ length marks → length axes ≤ length js → IsLeft (length axes) marks is
    → walk sizes loops m axes is (partial axes marks js q) ≡ and_then (indices sizes loops m is js) (λ ks. Ok (found axes ks q))
walk_more sizes loops m axes none marks js q n w h = ap Ok (partial_all axes marks js q w h)
walk_more sizes loops m axes (along k e rest) marks js q n w h =
    by (λ i. walk_more sizes loops m axes rest (slice_set marks k true) (slice_set js k i) q (omega (arith, n, length-set marks k true)) (omega (arith, w, length-set js k i)) h.2) (value sizes loops m e)
  where
    by : ((i : ℤ) → walk sizes loops m axes rest (partial axes (slice_set marks k true) (slice_set js k i) q) ≡ and_then (indices sizes loops m rest (slice_set js k i)) (λ ks. Ok (found axes ks q)))
        → (r : Result ℤ Fault) → and_then r (λ i. walk sizes loops m axes rest (moved axes k i (partial axes marks js q)))
        ≡ and_then (and_then r (λ i. indices sizes loops m rest (slice_set js k i))) (λ ks. Ok (found axes ks q))
    by more (Err f) = refl
    by more (Ok i) = ap (walk sizes loops m axes rest) (sym (partial_set axes marks js k i q n w h.0 h.1)) ∙ more i

-- no more dimensions than there are marks
marks_enough : (n : ℕ) (marks : List Bool) (is : Indices) → IsLeft n marks is → n ≤ length marks
marks_enough n marks none h = by (cases_lt (length marks) n)
  where
    by : (length marks < n) ⊎ (n ≤ length marks) → n ≤ length marks
    by (inr le) = le
    by (inl lt) = let t = h (length marks) lt in let f = get_or_past marks (length marks) false (omega arith) in cc
marks_enough n marks (along k e rest) h =
    let more = marks_enough n (slice_set marks k true) rest h.2 in
    omega (arith, more, length-set marks k true)

none_partial : (axes : List Axis) (n q : ℕ) → partial axes (replicate n false) (replicate n (pos 0)) q ≡ Some q
none_partial [] n q = refl
none_partial (a ∷ axes) zero q = refl
none_partial (a ∷ axes) (suc n) q = none_partial axes n q

-- one index for each dimension leads where the indices are found
walk_is : (sizes loops : List ℕ) (m : Store) (axes : List Axis) (is : Indices) (q : ℕ) → IsEachOnce (length axes) is
    → walk sizes loops m axes is (Some q) ≡ and_then (indices sizes loops m is start) (λ js. Ok (found axes js q))
walk_is sizes loops m axes is q each =
    let few = marks_enough (length axes) (replicate dim_names_limit false) is each in
    ap (walk sizes loops m axes is) (sym (none_partial axes dim_names_limit q))
    ∙ walk_more sizes loops m axes is (replicate dim_names_limit false) start q few (omega (arith, few, length-replicate dim_names_limit false, length-replicate dim_names_limit (pos 0))) each

-- what was found, and what was not
pub found_out : (axes : List Axis) (q : ℕ) (r : Result (List ℤ) Fault) (x : Option ℕ) → and_then r (λ js. Ok (found axes js q)) ≡ Ok x
    → or_range x ≡ and_then r (λ js. or_range (found axes js q))
found_out axes q (Ok js) x e = let f : x ≡ found axes js q = cc in ap or_range f
found_out axes q (Err d) x e = cc

pub fault_out : (axes : List Axis) (q : ℕ) (r : Result (List ℤ) Fault) (f : Fault) → and_then r (λ js. Ok (found axes js q)) ≡ Err f
    → Err f ≡ and_then r (λ js. or_range (found axes js q))
fault_out axes q (Ok js) f e = cc
fault_out axes q (Err d) f e = let s : f ≡ d = cc in ap Err s

-- one index more stays near
pub near_more : (r s : Option ℕ) (i : ℕ) → r ≡ s → IfSome s (λ q. q ≤ 1152921504606846976 + i * 4503599627370496 + 4503599627370496) → IfSome r (λ q. q ≤ 1152921504606846976 + (i + 1) * 4503599627370496)
near_more None s i e h = tt
near_more (Some q) None i e h = cc
near_more (Some q) (Some p) i e h = let same : q ≡ p = cc in omega (arith, same, h)

-- all indices lead to a place
pub walked : (sizes loops : List ℕ) (m : Store) (axes own : List Axis) (es : List KernelEntry) (i q : ℕ) (x : Option ℕ) → axes ≡ own → IsEachOnce (length own) (indices_of es) → length es ≤ i
    → walk sizes loops m axes (indices_of (drop i es)) x ≡ walk sizes loops m axes (indices_of es) (Some q)
    → or_range x ≡ and_then (indices sizes loops m (indices_of es) start) (λ js. or_range (found own js q))
walked sizes loops m axes own es i q x same each le rest =
    let last : Ok x ≡ walk sizes loops m axes (indices_of (drop i es)) x = sym (ap (λ is. walk sizes loops m axes is x) (at_drop_all (λ (xs : List KernelEntry). indices_of xs) es i le)) in
    found_out own q (indices sizes loops m (indices_of es) start) x (sym (last ∙ rest ∙ ap (λ xs. walk sizes loops m xs (indices_of es) (Some q)) same ∙ walk_is sizes loops m own (indices_of es) q each))

-- one entry before the others
pub given_next : (es : List KernelEntry) (i k : ℕ) (e : KernelExpr) (g : KernelEntry) → i < length es → g ≡ get_or es i g → g ≡ Given k e → indices_of (drop i es) ≡ along k (tree_of e) (indices_of (drop (i + 1) es))
given_next es i k e g lt item is = at_drop_more (λ (xs : List KernelEntry). indices_of xs) es i g lt ∙ ap (λ h. entry_of h (indices_of (drop (i + 1) es))) (sym item ∙ is)

pub looped_next : (es : List KernelEntry) (i k : ℕ) (w : Variable) (g : KernelEntry) → i < length es → g ≡ get_or es i g → g ≡ Looped k w → indices_of (drop i es) ≡ along k (named w) (indices_of (drop (i + 1) es))
looped_next es i k w g lt item is = at_drop_more (λ (xs : List KernelEntry). indices_of xs) es i g lt ∙ ap (λ h. entry_of h (indices_of (drop (i + 1) es))) (sym item ∙ is)

-- a fault of an index
pub walked_fault : (sizes loops : List ℕ) (m : Store) (axes own : List Axis) (es : List KernelEntry) (i k q : ℕ) (x : Option ℕ) (g : KernelEntry) (e : KernelExpr) (f : Fault) → axes ≡ own → IsEachOnce (length own) (indices_of es) → i < length es
    → g ≡ get_or es i g → g ≡ Given k e → value sizes loops m (tree_of e) ≡ Err f
    → walk sizes loops m axes (indices_of (drop i es)) x ≡ walk sizes loops m axes (indices_of es) (Some q)
    → Err f ≡ and_then (indices sizes loops m (indices_of es) start) (λ js. or_range (found own js q))
walked_fault sizes loops m axes own es i k q x g e f same each lt item given err rest =
    let here = given_next es i k e g lt item given in
    let stop : walk sizes loops m axes (indices_of (drop i es)) x ≡ Err f = ap (λ is. walk sizes loops m axes is x) here ∙ ap (λ r. and_then r (λ j. walk sizes loops m axes (indices_of (drop (i + 1) es)) (moved axes k j x))) err in
    fault_out own q (indices sizes loops m (indices_of es) start) f (sym (sym stop ∙ rest ∙ ap (λ xs. walk sizes loops m xs (indices_of es) (Some q)) same ∙ walk_is sizes loops m own (indices_of es) q each))

-- one index more
pub walked_more : (sizes loops : List ℕ) (m : Store) (axes : List Axis) (here rest : Indices) (k : ℕ) (e : Tree) (j : ℤ) (x y : Option ℕ) (all : Result (Option ℕ) Fault) → here ≡ along k e rest → value sizes loops m e ≡ Ok j
    → y ≡ moved axes k j x → walk sizes loops m axes here x ≡ all → walk sizes loops m axes rest y ≡ all
walked_more sizes loops m axes here rest k e j x y all is ok more h =
    ap (walk sizes loops m axes rest) more
    ∙ sym (ap (λ is. walk sizes loops m axes is x) is ∙ ap (λ r. and_then r (λ i. walk sizes loops m axes rest (moved axes k i x))) ok) ∙ h

pub rest_over : (ks : List Kind) (here rest : Indices) (k : ℕ) (e : Tree) → here ≡ along k e rest → AreIndicesOver ks here → IsTreeOver ks e × AreIndicesOver ks rest
rest_over ks here rest k e is h = subst (AreIndicesOver ks) is h

abbrev mutual
  pub tree_weight : Tree → ℕ
  tree_weight (number z) = 1
  tree_weight (size d) = 1
  tree_weight (named w) = 1
  tree_weight (access a is) = indices_weight is + 1
  tree_weight (unary op e) = tree_weight e + 1
  tree_weight (binary op x y) = tree_weight x + tree_weight y + 1

  pub indices_weight : Indices → ℕ
  indices_weight none = 0
  indices_weight (along k e rest) = tree_weight e + 1 + indices_weight rest

entries_counted : (es : List KernelEntry) → length (places_of (indices_of es)) ≡ length es
entries_counted [] = refl
entries_counted (Given k e ∷ es) = ap suc (entries_counted es)
entries_counted (Looped k d ∷ es) = ap suc (entries_counted es)

abbrev free : Bool → ℕ
free true = 0
free false = 1

-- each index takes a mark away
left_few : (n : ℕ) (marks : List Bool) (is : Indices) → IsLeft n marks is → length (places_of is) ≤ sum_by free marks
left_few n marks none h = omega arith
left_few n marks (along k e rest) h =
    let more = left_few n (slice_set marks k true) rest h.2 in
    let enough = marks_enough n marks (along k e rest) h in
    let set = sum_by-set free marks k true false (omega (arith, h.0, enough)) in
    let here : free (get_or marks k false) ≡ 1 = ap free h.1 in
    omega (arith, more, set, here)

pub few_entries : (n : ℕ) (es : List KernelEntry) → IsEachOnce n (indices_of es) → length es ≤ 8
few_entries n es h = let m : length (places_of (indices_of es)) ≤ 8 = left_few n (replicate dim_names_limit false) (indices_of es) h in subst (λ k. k ≤ 8) (entries_counted es) m
