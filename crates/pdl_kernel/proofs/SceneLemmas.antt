-- A scene's arguments, as code sees them.
use Rattle.std.proofs.Common.{◌≡◌, ℕ, ◌+◌, ◌<◌, ℤ, pos, List, length, map, get_or, Some, None, Ok, Err, refl, sym, ap, subst, ◌∙◌, arith}
use Rattle.std.specs.Prelude.{All, OnOk, Option, Result, option_map, slice_set, true}
use Rattle.std.proofs.lemmas.List.{get_or-map, length-map, map-set}
use Rattle.std.proofs.Math.Seq.{map-set_same}
use Rattle.pdl_elem.specs.declared.BinaryOp.{BinaryOp}
use Rattle.pdl_shape.specs.Laws.{PositionLaws}
use Rattle.pdl_buf.specs.declared.made.Made.{Made}
use Rattle.pdl_code.specs.Fit.{IsEachOnce}
use Rattle.pdl_code.specs.Tree.{Tree, Indices, access}
use Rattle.pdl_kernel.specs.declared.axes.Axis.{Axis}
use Rattle.pdl_kernel.specs.declared.faults.Fault.{Fault}
use Rattle.pdl_kernel.specs.declared.faults.Fault.TheVariants.{IndexOutOfRange}
use Rattle.pdl_kernel.specs.declared.scene.Scene.{Scene}
use Rattle.pdl_kernel.specs.Answers.{Becomes}
use Rattle.pdl_kernel.specs.Meaning.{Store, and_then, argument, assigned, changed, coordinates_in, element, element_at, indices, nothing, or_range, start, stored, value, with_argument}
use Rattle.pdl_kernel.specs.Places.{IsSound, IsWhole, Kind, Window, array_seen, blank, dot, found, is_written, kind_of, put_in, rest_of, sizes_of, strides_of}
use Rattle.pdl_kernel.specs.Scenes.{kinds_of, rests_of, store_of}
use Rattle.pdl_kernel.proofs.PlacesFound.{element_found}
use Rattle.pdl_kernel.proofs.PlacesWindows.{assigned_found, rest_put}

kinds_long : (s : Scene) → length (kinds_of s) ≡ length s.arguments.items
kinds_long s = length-map (rests_of s) kind_of ∙ length-map s.arguments.items rest_of

pub argument_is : (s : Scene) (a : ℕ) → a < length (kinds_of s) → argument (store_of s) a ≡ array_seen (get_or s.arguments.items a blank)
argument_is s a lt = get_or-map array_seen s.arguments.items a blank nothing (omega (arith, lt, kinds_long s))

pub kind_is : (s : Scene) (a : ℕ) (d : Kind) → a < length (kinds_of s) → get_or (kinds_of s) a d ≡ kind_of (rest_of (get_or s.arguments.items a blank))
kind_is s a d lt =
    get_or-map kind_of (rests_of s) a (rest_of blank) d (omega (arith, lt, length-map (rests_of s) kind_of))
    ∙ ap kind_of (get_or-map rest_of s.arguments.items a blank (rest_of blank) (omega (arith, lt, kinds_long s)))

-- one index for each dimension of the argument that is there
pub each_is : (s : Scene) (a : ℕ) (w : Window) (is : Indices) → w ≡ get_or s.arguments.items a blank → a < length (kinds_of s)
    → ((d : Kind) → IsEachOnce (length (get_or (kinds_of s) a d).axes) is) → IsEachOnce (length w.axes) is
each_is s a w is at lt h =
    let none : Kind = kind_of (rest_of blank) in
    let e : get_or (kinds_of s) a none ≡ kind_of (rest_of w) = kind_is s a none lt ∙ ap (λ v. kind_of (rest_of v)) (sym at) in
    subst (λ (r : Kind). IsEachOnce (length r.axes) is) e (h none)

-- what code may write of the argument that is there lies within its buffer
pub whole_is : (s : Scene) (a : ℕ) (w : Window) → w ≡ get_or s.arguments.items a blank → a < length (kinds_of s) → All IsWhole (rests_of s) → IsWhole (rest_of w)
whole_is s a w at lt h =
    let rests : length (rests_of s) ≡ length s.arguments.items = length-map s.arguments.items rest_of in
    let e : get_or (rests_of s) a (rest_of blank) ≡ rest_of w = get_or-map rest_of s.arguments.items a blank (rest_of blank) (omega (arith, lt, kinds_long s)) ∙ ap rest_of (sym at) in
    subst IsWhole e (h a (rest_of blank) (omega (arith, lt, kinds_long s, rests)))

-- the number of an access, by its place
pub access_is : PositionLaws → (sizes loops : List ℕ) (s : Scene) (t : Tree) (a : ℕ) (is : Indices) (w : Window) (r : Result ℕ Fault) → t ≡ access a is → w ≡ get_or s.arguments.items a blank → a < length (kinds_of s)
    → r ≡ and_then (indices sizes loops (store_of s) is start) (λ js. or_range (found w.axes js w.start))
    → and_then r (λ q. Ok (get_or w.elems q (pos 0))) ≡ value sizes loops (store_of s) t
access_is laws sizes loops s t a is w r tree window lt place =
    let m = store_of s in
    let arg : array_seen w ≡ argument m a = ap array_seen window ∙ sym (argument_is s a lt) in
    ap (λ r. and_then r (λ q. Ok (get_or w.elems q (pos 0)))) place ∙ by (indices sizes loops m is start) ∙ ap (λ b. and_then (indices sizes loops m is start) (element_at b)) arg ∙ sym (ap (value sizes loops m) tree)
  where
    by : (x : Result (List ℤ) Fault) → and_then (and_then x (λ js. or_range (found w.axes js w.start))) (λ q. Ok (get_or w.elems q (pos 0))) ≡ and_then x (element_at (array_seen w))
    by (Ok js) = element_found laws w js
    by (Err f) = refl

-- a place in range was found
was_found : (x : Option ℕ) (p : ℕ) → or_range x ≡ Ok p → x ≡ Some p
was_found None p e = cc
was_found (Some q) p e = cc

-- what becomes of one argument becomes of all, as code sees them
argument_put : {B : Type 0} (r : Result B Fault) (m : Store) (xs now : List Window) (k : ℕ) (v : Window) → m.arguments ≡ map array_seen xs → Becomes r now (Ok (slice_set xs k v))
    → Becomes r (record m { arguments = map array_seen now }) (with_argument m k (array_seen v))
argument_put (Ok b) m xs now k v same g =
    let e : slice_set xs k v ≡ now = cc in
    ap (λ ys. Ok (record m { arguments = ys })) (ap (λ ys. slice_set ys k (array_seen v)) same ∙ sym (map-set array_seen xs k v) ∙ ap (map array_seen) e)
argument_put (Err f) m xs now k v same g = cc

fault_same : {B C D : Type 0} (r : Result B Fault) (now : C) (next : D) (f : Fault) → Becomes r now (Err f) → Becomes r next (Err f)
fault_same (Ok b) now next f g = cc
fault_same (Err d) now next f g = let e : f ≡ d = cc in ap Err e

changed_put : {B : Type 0} (r : Result B Fault) (m : Store) (xs now : List Window) (k : ℕ) (c : Result ℤ Fault) (put : ℤ → Window) → m.arguments ≡ map array_seen xs
    → Becomes r now (and_then c (λ y. Ok (slice_set xs k (put y))))
    → Becomes r (record m { arguments = map array_seen now }) (and_then (and_then c (λ y. Ok (array_seen (put y)))) (with_argument m k))
changed_put r m xs now k (Ok y) put same g = argument_put r m xs now k (put y) same g
changed_put r m xs now k (Err f) put same g = fault_same r now (record m { arguments = map array_seen now }) f g

-- an assignment at the place of an access
pub put_over : PositionLaws → {B : Type 0} (r : Result B Fault) (sizes loops : List ℕ) (s : Scene) (now : List Window) (k p : ℕ) (is : Indices) (op : Option BinaryOp) (x : ℤ) (w : Window) → w ≡ get_or s.arguments.items k blank → k < length (kinds_of s)
    → IsSound w → is_written w.role ≡ true → IsWhole (rest_of w) → and_then (indices sizes loops (store_of s) is start) (λ js. or_range (found w.axes js w.start)) ≡ Ok p
    → Becomes r now (and_then (changed op (get_or w.elems p (pos 0)) x) (λ y. Ok (slice_set s.arguments.items k (put_in w p y))))
    → Becomes r (record { arguments = map array_seen now; locals = s.locals.items }) (and_then (indices sizes loops (store_of s) is start) (λ js. and_then (assigned (argument (store_of s) k) op x js) (with_argument (store_of s) k)))
put_over laws r sizes loops s now k p is op x w window lt sound written whole place h = by (indices sizes loops (store_of s) is start) place
  where
    by : (i : Result (List ℤ) Fault) → and_then i (λ js. or_range (found w.axes js w.start)) ≡ Ok p
        → Becomes r (record { arguments = map array_seen now; locals = s.locals.items }) (and_then i (λ js. and_then (assigned (argument (store_of s) k) op x js) (with_argument (store_of s) k)))
    by (Err f) e = cc
    by (Ok js) e =
        let f = was_found (found w.axes js w.start) p e in
        let arg : array_seen w ≡ argument (store_of s) k = ap array_seen window ∙ sym (argument_is s k lt) in
        let P : Result Made Fault → Type 0 = λ y. Becomes r (record { arguments = map array_seen now; locals = s.locals.items }) (and_then y (with_argument (store_of s) k)) in
        subst P (sym (assigned_found laws w js p op x sound written whole f) ∙ ap (λ b. assigned b op x js) arg)
        (changed_put r (store_of s) s.arguments.items now k (changed op (get_or w.elems p (pos 0)) x) (put_in w p) refl h)

-- what code can't change stays
pub put_rests : PositionLaws → {B : Type 0} (r : Result B Fault) (sizes loops : List ℕ) (s : Scene) (now : List Window) (k p : ℕ) (is : Indices) (op : Option BinaryOp) (x : ℤ) (w : Window) → w ≡ get_or s.arguments.items k blank
    → IsSound w → is_written w.role ≡ true → and_then (indices sizes loops (store_of s) is start) (λ js. or_range (found w.axes js w.start)) ≡ Ok p
    → Becomes r now (and_then (changed op (get_or w.elems p (pos 0)) x) (λ y. Ok (slice_set s.arguments.items k (put_in w p y))))
    → OnOk r (map rest_of now ≡ map rest_of s.arguments.items)
put_rests laws (Err f) sizes loops s now k p is op x w window sound written place h = tt
put_rests laws (Ok b) sizes loops s now k p is op x w window sound written place h = by (indices sizes loops (store_of s) is start) place
  where
    changing : (js : List ℤ) → found w.axes js w.start ≡ Some p → (c : Result ℤ Fault) → and_then c (λ y. Ok (slice_set s.arguments.items k (put_in w p y))) ≡ Ok now → map rest_of now ≡ map rest_of s.arguments.items
    changing js f (Err d) e = cc
    changing js f (Ok y) e =
        let i : slice_set s.arguments.items k (put_in w p y) ≡ now = cc in
        ap (map rest_of) (sym i) ∙ map-set_same rest_of s.arguments.items k (put_in w p y) blank (rest_put laws w js p y sound written f ∙ ap rest_of window)

    by : (i : Result (List ℤ) Fault) → and_then i (λ js. or_range (found w.axes js w.start)) ≡ Ok p → map rest_of now ≡ map rest_of s.arguments.items
    by (Err f) e = cc
    by (Ok js) e = changing js (was_found (found w.axes js w.start) p e) (changed op (get_or w.elems p (pos 0)) x) h

-- a fault of the indices is one of the assignment
pub put_fault : (axes : List Axis) (q : ℕ) (i : Result (List ℤ) Fault) (f : Fault) (g : List ℤ → Result Store Fault) → ((js : List ℤ) → found axes js q ≡ None → g js ≡ Err IndexOutOfRange)
    → and_then i (λ js. or_range (found axes js q)) ≡ Err f → and_then i g ≡ Err f
put_fault axes q (Err d) f g h e = let s : d ≡ f = cc in ap Err s
put_fault axes q (Ok js) f g h e = by (found axes js q) refl e
  where
    by : (x : Option ℕ) → found axes js q ≡ x → or_range x ≡ Err f → g js ≡ Err f
    by None x e = let s : IndexOutOfRange ≡ f = cc in h js x ∙ ap Err s
    by (Some p) x e = cc

-- an index out of range is one of the assignment
pub past_range : (s : Scene) (k : ℕ) (w : Window) (op : Option BinaryOp) (x : ℤ) (js : List ℤ) → w ≡ get_or s.arguments.items k blank → k < length (kinds_of s) → found w.axes js w.start ≡ None
    → and_then (assigned (argument (store_of s) k) op x js) (with_argument (store_of s) k) ≡ Err IndexOutOfRange
past_range s k w op x js window lt f =
    let arg : argument (store_of s) k ≡ array_seen w = argument_is s k lt ∙ sym (ap array_seen window) in
    let c = none_found (coordinates_in (sizes_of w.axes) js) f in
    ap (λ a. and_then (assigned a op x js) (with_argument (store_of s) k)) arg
    ∙ ap (λ c. and_then (and_then (or_range c) (λ cs. and_then (changed op (element (array_seen w) cs) x) (λ y. Ok (stored (array_seen w) cs y)))) (with_argument (store_of s) k)) c
  where
    none_found : (c : Option (List ℕ)) → option_map (λ cs. w.start + dot (strides_of w.axes) cs) c ≡ None → c ≡ None
    none_found None e = refl
    none_found (Some cs) e = cc
