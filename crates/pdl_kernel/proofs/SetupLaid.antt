-- How arguments are laid out: strides and axes, one after the other.
use Rattle.std.proofs.Common.{◌≡◌, ◌≢◌, ℕ, zero, suc, ◌+◌, ◌*◌, ◌<◌, ◌≤◌, ℤ, pos, List, [], ◌∷◌, ◌++◌, length, drop, replicate, get_or, None, refl, sym, ap, ap₂, subst, ◌∙◌, arith, append-nil}
use Rattle.std.specs.Prelude.{Bool, true, false, if◌then◌else◌, ◌==◌, All, Option}
use Rattle.std.specs.List.{range_with_len}
use Rattle.std.proofs.lemmas.List.{append_assoc, at_drop_more, drop-drop, get_or-drop}
use Rattle.std.proofs.lemmas.List.FromFn.{length-range_with_len}
use Rattle.std.proofs.lemmas.Simd.{splat_is_map}
use Rattle.std.proofs.Math.Nat.{mul-le-mul_left}
use Rattle.pdl_elem.specs.declared.Ty.{Ty}
use Rattle.pdl_shape.specs.Shape.{extent_limit, size_of}
use Rattle.pdl_buf.specs.declared.made.Made.{Made}
use Rattle.pdl_sig.specs.declared.Resolved.{Resolved}
use Rattle.pdl_sig.specs.declared.Role.{Role}
use Rattle.pdl_sig.specs.declared.Role.TheVariants.{Input, Output, Both, Temp}
use Rattle.pdl_sig.specs.declared.SigArg.{SigArg}
use Rattle.pdl_sig.specs.Resolution.{is_output, made, made_for}
use Rattle.pdl_kernel.specs.declared.axes.Axis.{Axis}
use Rattle.pdl_kernel.specs.Places.{AreInOrder, Window, axes_of, is_written, sizes_of, strides_from, strides_of}
use Rattle.pdl_kernel.specs.Setup.{IsShapeOf, elems_with, given_elems, given_strides, start_elems, strides_with, window_with}

-- a first element more
pub one_more : {X : Type 0} (made rest all : List X) (x : X) (from : List X) → from ≡ x ∷ rest → made ++ from ≡ all → (made ++ x ∷ []) ++ rest ≡ all
one_more made rest all x from is same = append_assoc made (x ∷ []) rest ∙ ap (λ ys. made ++ ys) (sym is) ∙ same

pub stride_small : (n e : ℕ) → 0 < e → n * e ≤ extent_limit → n ≤ extent_limit
stride_small n e some h =
    let a : n * 1 ≤ n * e = mul-le-mul_left n some in
    omega (arith, a, h)

pub axes_at : (ds ss : List ℕ) (k e : ℕ) → k < length ds → axes_of (drop k ds) (drop k ss) ≡ record { size = get_or ds k e; stride = get_or ss k 0 } ∷ axes_of (drop (k + 1) ds) (drop (k + 1) ss)
axes_at ds ss k e lt =
    let first : get_or (drop k ss) 0 0 ≡ get_or ss k 0 = get_or-drop k ss 0 0 ∙ (let z : k + 0 ≡ k = omega arith in ap (λ j. get_or ss j 0) z) in
    at_drop_more (λ xs. axes_of xs (drop k ss)) ds k e lt
    ∙ ap₂ (λ (n : ℕ) (ts : List ℕ). let a : Axis = record { size = get_or ds k e; stride = n } in a ∷ axes_of (drop (k + 1) ds) ts) first (drop-drop 1 k ss)

pub strides_long : (n : ℕ) (ds : List ℕ) → length (strides_from n ds) ≡ length ds
strides_long n [] = refl
strides_long n (d ∷ ds) = ap suc (strides_long (n * d) ds)

pub axes_long : (ds ss : List ℕ) → length (axes_of ds ss) ≡ length ds
axes_long [] ss = refl
axes_long (d ∷ ds) ss = ap suc (axes_long ds (drop 1 ss))

-- a stride or nowhere
pub along_small : (d n : ℕ) → n ≤ extent_limit → (if d == 1 then 0 else n) ≤ extent_limit
along_small d n h = by (d == 1)
  where
    by : (b : Bool) → (if b then 0 else n) ≤ extent_limit
    by true = omega arith
    by false = h

-- a stride, or 0 past the end
pub small_at : (ss : List ℕ) (k : ℕ) → All (λ s. s ≤ extent_limit) ss → get_or ss k 0 ≤ extent_limit
small_at [] k h = omega arith
small_at (s ∷ ss) zero h = h 0 0 (omega arith)
small_at (s ∷ ss) (suc k) h = small_at ss k (λ i d lt. h (suc i) d (omega arith))

-- zeros are what an argument starts with for which nothing is given
pub zeros_are : (ty : Ty) (shape : List ℕ) (n : ℕ) → n ≡ size_of shape → replicate n (pos 0) ≡ start_elems ty shape None
zeros_are ty shape n same = splat_is_map (range_with_len 0 (size_of shape)) n (pos 0) (length-range_with_len 0 (size_of shape) ∙ sym same)

pub axes_sizes : (ds ss : List ℕ) → sizes_of (axes_of ds ss) ≡ ds
axes_sizes [] ss = refl
axes_sizes (d ∷ ds) ss = ap (λ xs. d ∷ xs) (axes_sizes ds (drop 1 ss))

front_strides : (n : ℕ) (core rest : List ℕ) → strides_of (axes_of core (strides_from n (core ++ rest))) ≡ strides_from n core
front_strides n [] rest = refl
front_strides n (d ∷ core) rest = ap (λ xs. (if d == 1 then 0 else n) ∷ xs) (front_strides (n * d) core rest)

pub front_in_order : (core rest : List ℕ) → AreInOrder (axes_of core (strides_from 1 (core ++ rest)))
front_in_order core rest = front_strides 1 core rest ∙ ap (strides_from 1) (sym (axes_sizes core (strides_from 1 (core ++ rest))))

-- the shape of an argument that may be written begins with its core sizes
pub shape_front : (r : Role) (core broadcast : List ℕ) → is_written r ≡ true → (rest : List ℕ) × (made r core broadcast ≡ core ++ rest)
shape_front Input core broadcast h = cc
shape_front Output core broadcast h = (broadcast, refl)
shape_front Both core broadcast h = (broadcast, refl)
shape_front Temp core broadcast h = ([], sym (append-nil core))

pub not_input : (r : Role) → is_written r ≡ true → r ≢ Input
not_input r h e = let no : is_written r ≡ false = ap is_written e in cc

pub written_strides : (r : Role) (shape : List ℕ) (given : Option Made) → is_written r ≡ true → strides_with r shape given ≡ strides_from 1 shape
written_strides r shape given h = ap (λ (b : Bool). if b then strides_from 1 shape else given_strides given) h

pub written_elems : (r : Role) (ty : Ty) (shape : List ℕ) (given : Option Made) → is_written r ≡ true → elems_with r ty shape given ≡ start_elems ty shape given
written_elems r ty shape given h = ap (λ (b : Bool). if b then start_elems ty shape given else given_elems ty given) h

pub laid_in_order : (r : Role) (core broadcast shape : List ℕ) (given : Option Made) → is_written r ≡ true → (r ≢ Input → shape ≡ made r core broadcast) → AreInOrder (axes_of core (strides_with r shape given))
laid_in_order r core broadcast shape given written is =
    let front = shape_front r core broadcast written in
    let e : strides_with r shape given ≡ strides_from 1 (core ++ front.0) =
    written_strides r shape given written ∙ ap (strides_from 1) (is (not_input r written) ∙ front.1) in
    subst (λ ss. AreInOrder (axes_of core ss)) (sym e) (front_in_order core front.0)

abbrev laid_with : Ty → (core : List ℕ) → SigArg → (strides : List ℕ) → List ℤ → Window
laid_with ty core a ss es = record { role = a.role; ty = ty; axes = axes_of core ss; outer = drop (length a.dims) ss; elems = es; start = 0 }

-- the shape of an input doesn't matter, and that of another argument is what the call makes for it
pub window_shaped : (r : Resolved) (ty : Ty) (core : List ℕ) (a : SigArg) (shape : List ℕ) (given : Option Made) → IsShapeOf r a shape → window_with ty core shape a given ≡ window_with ty core (made_for r.sizes r.broadcast a) a given
window_shaped r ty core a shape given is = by a.role refl
  where
    by : (role : Role) → a.role ≡ role → window_with ty core shape a given ≡ window_with ty core (made_for r.sizes r.broadcast a) a given
    by Input e =
        ap (λ (x : Role). laid_with ty core a (strides_with x shape given) (elems_with x ty shape given)) e
        ∙ sym (ap (λ (x : Role). laid_with ty core a (strides_with x (made_for r.sizes r.broadcast a) given) (elems_with x ty (made_for r.sizes r.broadcast a) given)) e)
    by Output e = ap (λ s. window_with ty core s a given) (is (λ i. cc))
    by Both e = ap (λ s. window_with ty core s a given) (is (λ i. cc))
    by Temp e = ap (λ s. window_with ty core s a given) (is (λ i. cc))

pub size_parts : (xs ys : List ℕ) → size_of (xs ++ ys) ≡ size_of xs * size_of ys
size_parts [] ys = omega arith
size_parts (x ∷ xs) ys = let rest : size_of (xs ++ ys) ≡ size_of xs * size_of ys = size_parts xs ys in rw rest (grind arith)

pub made_output : (r : Role) (core broadcast : List ℕ) → is_output r ≡ true → (r ≢ Input) × (made r core broadcast ≡ core ++ broadcast)
made_output Input core broadcast h = cc
made_output Output core broadcast h = (λ e. cc, refl)
made_output Both core broadcast h = (λ e. cc, refl)
made_output Temp core broadcast h = cc
