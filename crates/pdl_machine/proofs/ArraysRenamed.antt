-- Two worlds that differ in the numbers of their arrays, and in arrays that only one of them has,
-- show the same.
use Rattle.std.proofs.Common.{◌≡◌, ◌≢◌, ℕ, ℤ, ◌+◌, ◌≤◌, List, [], ◌∷◌, length, map, Bool, true, false, Option, Some, None, Result, Ok, Err, refl, sym, ap, subst, ◌∙◌, arith, eqb-true, eq-eqb}
use Rattle.std.specs.Prelude.{◌==◌, ◌||◌, if◌then◌else◌, option_map, option_and_then}
use Rattle.std.specs.List.{list_any}
use Rattle.std.specs.Option.{is_none, option_map_or}
use Rattle.std.proofs.lemmas.List.{length-map}
use Rattle.pdl_lemmas.specs.Tests.{by_test}
use Rattle.pdl_elem.specs.declared.Ty.{Ty}
use Rattle.pdl_elem.specs.declared.Ty.TheVariants.{Byte}
use Rattle.pdl_buf.specs.declared.made.Made.{Made}
use Rattle.pdl_world.specs.declared.Trans.{Trans}
use Rattle.pdl_shape.specs.Places.{read, write}
use Rattle.pdl_shape.specs.Refusals.{Refusal}
use Rattle.pdl_shape.specs.Shape.{size_of}
use Rattle.pdl_world.specs.Cut.{breaks, replaced, rooted, sever, reshape, fitted}
use Rattle.pdl_world.specs.Formula.{child_dims}
use Rattle.pdl_world.specs.Paths.{path, root_of}
use Rattle.pdl_world.specs.Refused.{refusal_at, view_refusal}
use Rattle.pdl_world.specs.Swept.{is_listed}
use Rattle.pdl_world.specs.World.{World, ArrayDef, root, view, Look, look, through, seen_through, root_elements, set_elements, elements, dims_in, ty_in, assign, assign_through}
use Rattle.pdl_machine.specs.Arrays.{Arrays, array_in, with_new}
use Rattle.pdl_machine.specs.Flows.{flow_by}
use Rattle.pdl_machine.specs.State.{State}
use Rattle.pdl_machine.specs.Tidy.{with_parent, with_numbers}

-- other numbers for the same arrays: different ones stay different
abbrev pub IsApart : (ℕ → ℕ) → Type 0
IsApart g = (i j : ℕ) → g i ≡ g j → i ≡ j

pub same_test : (g : ℕ → ℕ) → IsApart g → (i j : ℕ) → (g i == g j) ≡ (i == j)
same_test g apart i j =
    by_test (i == j)
    (λ same. eq-eqb (g i) (g j) (ap g (eqb-true i j same)) ∙ sym same)
    (λ other. by_test (g i == g j)
    (λ same. let e : (i == j) ≡ true = eq-eqb i j (apart i j (eqb-true (g i) (g j) same)) in cc)
    (λ apart. apart ∙ sym other))

pub holds_renamed : (g : ℕ → ℕ) → IsApart g → (hs : List ℕ) (i : ℕ) → is_listed (map g hs) (g i) ≡ is_listed hs i
holds_renamed g apart [] i = refl
holds_renamed g apart (h ∷ hs) i = ap (λ b. b || is_listed (map g hs) (g i)) (same_test g apart h i) ∙ ap (λ b. (h == i) || b) (holds_renamed g apart hs i)

-- u has the arrays of w under other numbers, and maybe more arrays where these aren't all
pub data Renames (g : ℕ → ℕ) : (all : Bool) → World → World → Type 0 where
  empty : {all : Bool} → Renames g all [] []
  more : {w u : World} (k : ℕ) (d : ArrayDef) → ((i : ℕ) → g i ≢ k) → Renames g false w u → Renames g false w ((k, d) ∷ u)
  same : {all : Bool} {w u : World} (i : ℕ) (d : ArrayDef) → Renames g all w u → Renames g all ((i, d) ∷ w) ((g i, with_parent g d) ∷ u)

-- what is seen, with another number of its root
abbrev pub with_root : (ℕ → ℕ) → Look → Look
with_root g l = record l { root = g l.root }

pub never : (g : ℕ → ℕ) (k v : ℕ) → ((i : ℕ) → g i ≢ k) → (k == g v) ≡ false
never g k v left = by_test (k == g v) (λ same. absurd (left v (sym (eqb-true k (g v) same)))) (λ other. other)

-- the newest array isn't looked at for another one
pub look-other : (k v : ℕ) (d : ArrayDef) (w : World) → (k == v) ≡ false → look ((k, d) ∷ w) v ≡ look w v
look-other k v (root ty ds es) w other = rw other refl
look-other k v (view p t) w other = rw other refl

through_renamed : (g : ℕ → ℕ) (t : Trans) (o : Option Look) → option_and_then (through t) (option_map (with_root g) o) ≡ option_map (with_root g) (option_and_then (through t) o)
through_renamed g t None = refl
through_renamed g t (Some l) = by_dims (child_dims t l.dims)
  where
    by_dims : (x : Result (List ℕ) Refusal) → seen_through t (with_root g l) x ≡ option_map (with_root g) (seen_through t l x)
    by_dims (Ok ds) = refl
    by_dims (Err e) = refl

-- the same is seen through each array
pub look_renamed : (g : ℕ → ℕ) → IsApart g → {all : Bool} {w u : World} → Renames g all w u → (v : ℕ) → look u (g v) ≡ option_map (with_root g) (look w v)
look_renamed g apart empty v = refl
look_renamed g apart (more {w = w} {u = u} k d left r) v = look-other k (g v) d u (never g k v left) ∙ look_renamed g apart r v
look_renamed g apart (same {w = w} {u = u} i (root ty ds es) r) v =
    by_test (i == v)
    (λ is. let e : (g i == g v) ≡ true = same_test g apart i v ∙ is in rw (e, is) refl)
    (λ other. let e : (g i == g v) ≡ false = same_test g apart i v ∙ other in rw (e, other) (look_renamed g apart r v))
look_renamed g apart (same {w = w} {u = u} i (view p t) r) v =
    by_test (i == v)
    (λ is. let e : (g i == g v) ≡ true = same_test g apart i v ∙ is in
    rw (e, is) (ap (option_and_then (through t)) (look_renamed g apart r p) ∙ through_renamed g t (look w p)))
    (λ other. let e : (g i == g v) ≡ false = same_test g apart i v ∙ other in rw (e, other) (look_renamed g apart r v))

-- each root has the same elements
pub root_renamed : (g : ℕ → ℕ) → IsApart g → {all : Bool} {w u : World} → Renames g all w u → (v : ℕ) → root_elements u (g v) ≡ root_elements w v
root_renamed g apart empty v = refl
root_renamed g apart (more k (root ty ds es) left r) v =
    let e : (k == g v) ≡ false = never g k v left in rw e (root_renamed g apart r v)
root_renamed g apart (more k (view p t) left r) v = root_renamed g apart r v
root_renamed g apart (same {w = w} {u = u} i (root ty ds es) r) v =
    let P : Bool → Type 0 = λ b. (if b then es else root_elements u (g v)) ≡ (if i == v then es else root_elements w v) in
    subst P (sym (same_test g apart i v)) (ap (λ x. if i == v then es else x) (root_renamed g apart r v))
root_renamed g apart (same i (view p t) r) v = root_renamed g apart r v

-- and so has each array
pub elements_renamed : (g : ℕ → ℕ) → IsApart g → {all : Bool} {w u : World} → Renames g all w u → (v : ℕ) → elements u (g v) ≡ elements w v
elements_renamed g apart {all} {w} {u} r v =
    ap (λ o. option_map_or (λ l. read l.places (root_elements u l.root)) o []) (look_renamed g apart r v) ∙ by_look (look w v)
  where
    by_look : (o : Option Look) → option_map_or (λ l. read l.places (root_elements u l.root)) (option_map (with_root g) o) [] ≡ option_map_or (λ l. read l.places (root_elements w l.root)) o []
    by_look None = refl
    by_look (Some l) = ap (read l.places) (root_renamed g apart r l.root)

pub dims_renamed : (g : ℕ → ℕ) → IsApart g → {all : Bool} {w u : World} → Renames g all w u → (v : ℕ) → dims_in u (g v) ≡ dims_in w v
dims_renamed g apart {all} {w} {u} r v = ap (λ o. option_map_or (λ l. l.dims) o []) (look_renamed g apart r v) ∙ by_look (look w v)
  where
    by_look : (o : Option Look) → option_map_or (λ l. l.dims) (option_map (with_root g) o) [] ≡ option_map_or (λ l. l.dims) o []
    by_look None = refl
    by_look (Some l) = refl

pub ty_renamed : (g : ℕ → ℕ) → IsApart g → {all : Bool} {w u : World} → Renames g all w u → (v : ℕ) → ty_in u (g v) ≡ ty_in w v
ty_renamed g apart {all} {w} {u} r v = ap (λ o. option_map_or (λ l. l.ty) o Byte) (look_renamed g apart r v) ∙ by_look (look w v)
  where
    by_look : (o : Option Look) → option_map_or (λ l. l.ty) (option_map (with_root g) o) Byte ≡ option_map_or (λ l. l.ty) o Byte
    by_look None = refl
    by_look (Some l) = refl

-- paths to the root have the same arrays
pub path_renamed : (g : ℕ → ℕ) → IsApart g → {all : Bool} {w u : World} → Renames g all w u → (v : ℕ) → path u (g v) ≡ map g (path w v)
path_renamed g apart empty v = refl
path_renamed g apart (more {w = w} {u = u} k (root ty ds es) left r) v =
    let e : (k == g v) ≡ false = never g k v left in rw e (path_renamed g apart r v)
path_renamed g apart (more {w = w} {u = u} k (view p t) left r) v =
    let e : (k == g v) ≡ false = never g k v left in rw e (path_renamed g apart r v)
path_renamed g apart (same {w = w} {u = u} i (root ty ds es) r) v =
    by_test (i == v)
    (λ is. let e : (g i == g v) ≡ true = same_test g apart i v ∙ is in rw (e, is) refl)
    (λ other. let e : (g i == g v) ≡ false = same_test g apart i v ∙ other in rw (e, other) (path_renamed g apart r v))
path_renamed g apart (same {w = w} {u = u} i (view p t) r) v =
    by_test (i == v)
    (λ is. let e : (g i == g v) ≡ true = same_test g apart i v ∙ is in rw (e, is) (ap (λ (ps : List ℕ). g i ∷ ps) (path_renamed g apart r p)))
    (λ other. let e : (g i == g v) ≡ false = same_test g apart i v ∙ other in rw (e, other) (path_renamed g apart r v))

-- an array has the same root
pub root_of_renamed : (g : ℕ → ℕ) → IsApart g → {all : Bool} {w u : World} → Renames g all w u → (v : ℕ) → root_of u (g v) ≡ g (root_of w v)
root_of_renamed g apart {all} {w} {u} r v = ap (λ o. option_map_or (λ l. l.root) o (g v)) (look_renamed g apart r v) ∙ by_look (look w v)
  where
    by_look : (o : Option Look) → option_map_or (λ l. l.root) (option_map (with_root g) o) (g v) ≡ g (option_map_or (λ l. l.root) o v)
    by_look None = refl
    by_look (Some l) = refl

-- a view is refused alike on a path that is as long
refusal_at_alike : (ps qs : List ℕ) (x : Result (List ℕ) Refusal) → length ps ≡ length qs → refusal_at ps x ≡ refusal_at qs x
refusal_at_alike ps qs (Err refusal) even = refl
refusal_at_alike ps qs (Ok dims) even = rw even refl

-- the same view is refused on both sides, and for the same reason
pub view_refusal_renamed : (g : ℕ → ℕ) → IsApart g → {all : Bool} {w u : World} → Renames g all w u → (v : ℕ) (t : Trans) → view_refusal u (g v) t ≡ view_refusal w v t
view_refusal_renamed g apart {all} {w} {u} r v t =
    ap (λ ds. refusal_at (path u (g v)) (child_dims t ds)) (dims_renamed g apart r v)
    ∙ refusal_at_alike (path u (g v)) (path w v) (child_dims t (dims_in w v)) (ap length (path_renamed g apart r v) ∙ length-map (path w v) g)

-- the elements of a root are set on both sides
set_renamed : (g : ℕ → ℕ) → IsApart g → {all : Bool} {w u : World} → Renames g all w u → (v : ℕ) (es : List ℤ) → Renames g all (set_elements w v es) (set_elements u (g v) es)
set_renamed g apart empty v es = empty
set_renamed g apart (more k (root ty ds old) left r) v es = more k (root ty ds (if k == g v then es else old)) left (set_renamed g apart r v es)
set_renamed g apart (more k (view p t) left r) v es = more k (view p t) left (set_renamed g apart r v es)
set_renamed g apart {all} (same {w = w} {u = u} i (root ty ds old) r) v es =
    let P : Bool → Type 0 = λ b. Renames g all ((i, root ty ds (if i == v then es else old)) ∷ set_elements w v es) ((g i, root ty ds (if b then es else old)) ∷ set_elements u (g v) es) in
    subst P (sym (same_test g apart i v)) (same i (root ty ds (if i == v then es else old)) (set_renamed g apart r v es))
set_renamed g apart (same i (view p t) r) v es = same i (view p t) (set_renamed g apart r v es)

-- an assignment of the same values on both sides
pub assign_renamed : (g : ℕ → ℕ) → IsApart g → {all : Bool} {w u : World} → Renames g all w u → (v : ℕ) (vs : List ℤ) → Renames g all (assign w v vs) (assign u (g v) vs)
assign_renamed g apart {all} {w} {u} r v vs =
    let P : Option Look → Type 0 = λ o. Renames g all (assign w v vs) (assign_through u o vs) in
    subst P (sym (look_renamed g apart r v)) (by_look (look w v))
  where
    by_look : (o : Option Look) → Renames g all (assign_through w o vs) (assign_through u (option_map (with_root g) o) vs)
    by_look None = r
    by_look (Some l) =
        let P : List ℤ → Type 0 = λ es. Renames g all (set_elements w l.root (write l.places vs (root_elements w l.root))) (set_elements u (g l.root) (write l.places vs es)) in
        subst P (sym (root_renamed g apart r l.root)) (set_renamed g apart r l.root (write l.places vs (root_elements w l.root)))

-- a root takes the place of an array on both sides
replaced_renamed : (g : ℕ → ℕ) → IsApart g → {all : Bool} {w u : World} → Renames g all w u → (v : ℕ) (ty : Ty) (ds : List ℕ) (es : List ℤ) → Renames g all (replaced w v (root ty ds es)) (replaced u (g v) (root ty ds es))
replaced_renamed g apart empty v ty ds es = empty
replaced_renamed g apart (more k d left r) v ty ds es = more k (if k == g v then root ty ds es else d) left (replaced_renamed g apart r v ty ds es)
replaced_renamed g apart (same i d r) v ty ds es =
    by_test (i == v)
    (λ is. let e : (g i == g v) ≡ true = same_test g apart i v ∙ is in rw (e, is) (same i (root ty ds es) (replaced_renamed g apart r v ty ds es)))
    (λ other. let e : (g i == g v) ≡ false = same_test g apart i v ∙ other in rw (e, other) (same i d (replaced_renamed g apart r v ty ds es)))

-- a root of its own elements, or of what is made of these, on both sides
rooted_renamed : (g : ℕ → ℕ) → IsApart g → {all : Bool} {w u : World} → Renames g all w u → (v : ℕ) (ds : List ℕ) (es : List ℤ) → Renames g all (rooted w v ds es) (rooted u (g v) ds es)
rooted_renamed g apart {all} {w} {u} r v ds es =
    let P : Ty → Type 0 = λ ty. Renames g all (rooted w v ds es) (replaced u (g v) (root ty ds es)) in
    subst P (sym (ty_renamed g apart r v)) (replaced_renamed g apart r v (ty_in w v) ds es)

pub sever_renamed : (g : ℕ → ℕ) → IsApart g → {all : Bool} {w u : World} → Renames g all w u → (v : ℕ) → Renames g all (sever w v) (sever u (g v))
sever_renamed g apart {all} {w} {u} r v =
    let P : List ℕ → Type 0 = λ ds. Renames g all (sever w v) (rooted u (g v) ds (elements u (g v))) in
    let Q : List ℤ → Type 0 = λ es. Renames g all (sever w v) (rooted u (g v) (dims_in w v) es) in
    subst P (sym (dims_renamed g apart r v)) (subst Q (sym (elements_renamed g apart r v)) (rooted_renamed g apart r v (dims_in w v) (elements w v)))

pub reshape_renamed : (g : ℕ → ℕ) → IsApart g → {all : Bool} {w u : World} → Renames g all w u → (v : ℕ) (ds : List ℕ) → Renames g all (reshape w v ds) (reshape u (g v) ds)
reshape_renamed g apart {all} {w} {u} r v ds =
    let Q : List ℤ → Type 0 = λ es. Renames g all (reshape w v ds) (rooted u (g v) ds (fitted (size_of ds) es)) in
    subst Q (sym (elements_renamed g apart r v)) (rooted_renamed g apart r v ds (fitted (size_of ds) (elements w v)))

-- where these are all arrays, the same ones are seen in other worlds that show the same
lost_renamed : (g : ℕ → ℕ) {w u : World} → Renames g true w u → (old new : World) → ((v : ℕ) → look new (g v) ≡ option_map (with_root g) (look old v)) → list_any (λ a. is_none (look new a.0)) u ≡ list_any (λ a. is_none (look old a.0)) w
lost_renamed g empty old new looks = refl
lost_renamed g (same {w = w} {u = u} i d r) old new looks =
    ap (λ b. b || list_any (λ a. is_none (look new a.0)) u) (ap is_none (looks i) ∙ none_mapped (look old i))
    ∙ ap (λ b. is_none (look old i) || b) (lost_renamed g r old new looks)
  where
    none_mapped : (o : Option Look) → is_none (option_map (with_root g) o) ≡ is_none o
    none_mapped None = refl
    none_mapped (Some l) = refl

-- so the same dimensions break a view
pub breaks_renamed : (g : ℕ → ℕ) → IsApart g → {w u : World} → Renames g true w u → (v : ℕ) (ds : List ℕ) → breaks u (g v) ds ≡ breaks w v ds
breaks_renamed g apart {w} {u} r v ds = lost_renamed g r (reshape w v ds) (reshape u (g v) ds) (look_renamed g apart (reshape_renamed g apart r v ds))

-- b has the arrays of a under other numbers, and new arrays get the next numbers in both
pub record AreAlike (all : Bool) (g : ℕ → ℕ) (a b : Arrays) : Type 0 where
  pub apart : IsApart g
  pub world : Renames g all a.world b.world
  pub next : b.next ≡ g a.next
  pub on : (i : ℕ) → a.next ≤ i → g (i + 1) ≡ g i + 1

abbrev made_of : Ty → List ℕ → List ℤ → Made
made_of ty ds es = record { ty = ty; dims = ds; elems = es }

-- the same is seen of each array
pub array_alike : {all : Bool} (g : ℕ → ℕ) (a b : Arrays) → AreAlike all g a b → (v : ℕ) → array_in b (g v) ≡ array_in a v
array_alike g a b h v =
    let t : ty_in b.world (g v) ≡ ty_in a.world v = ty_renamed g h.apart h.world v in
    let d : dims_in b.world (g v) ≡ dims_in a.world v = dims_renamed g h.apart h.world v in
    let e : elements b.world (g v) ≡ elements a.world v = elements_renamed g h.apart h.world v in
    all_same t d e
  where
    all_same : {t t' : Ty} {ds ds' : List ℕ} {es es' : List ℤ} → t ≡ t' → ds ≡ ds' → es ≡ es' → made_of t ds es ≡ made_of t' ds' es'
    all_same p q s = cc

-- a new array on both sides
pub new_alike : {all : Bool} (g : ℕ → ℕ) (a b : Arrays) → AreAlike all g a b → (d : ArrayDef) → AreAlike all g (with_new a d).0 (with_new b (with_parent g d)).0
new_alike {all} g a b h d = record {
  apart = h.apart;
  world = (let P : ℕ → Type 0 = λ k. Renames g all ((a.next, d) ∷ a.world) ((k, with_parent g d) ∷ b.world) in subst P (sym h.next) (same a.next d h.world));
  next = ap (λ n. n + 1) h.next ∙ sym (h.on a.next (omega arith));
  on = λ i le. h.on i (omega arith);
}

-- and names and watches have their arrays under the other numbers
pub record StateAlike (all : Bool) (g : ℕ → ℕ) (s t : State) : Type 0 where
  pub arrays : AreAlike all g s.arrays t.arrays
  pub names : t.names ≡ with_numbers g s.names
  pub watches : t.watches ≡ map (option_map g) s.watches
  pub flows : t.flows ≡ map (flow_by g) s.flows
