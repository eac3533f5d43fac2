-- Arguments as they are laid out show what the arguments of a call start with.
use Rattle.std.proofs.Common.{◌≡◌, ℕ, zero, suc, ◌+◌, ◌*◌, ◌<◌, ℤ, pos, List, [], ◌∷◌, ◌++◌, map, length, drop, replicate, get_or, refl, sym, ap, ap₂, ◌∙◌, arith}
use Rattle.std.specs.Prelude.{All, if◌then◌else◌, Option, Some, None, Result}
use Rattle.std.specs.List.{range_with_len}
use Rattle.pdl_lemmas.specs.Lists.{map-range_same}
use Rattle.std.proofs.Math.ListN.{get_or-map}
use Rattle.std.proofs.lemmas.List.{drop_all, length-map}
use Rattle.std.proofs.lemmas.List.FromFn.{get_or-map-range_with_len, length-map-range_with_len}
use Rattle.pdl_elem.specs.declared.Ty.{Ty}
use Rattle.pdl_elem.specs.Laws.{WrappingLaws}
use Rattle.pdl_elem.specs.Numbers.{wrapped}
use Rattle.pdl_shape.specs.Broadcast.{cut_to}
use Rattle.pdl_shape.specs.Laws.{PositionLaws}
use Rattle.pdl_shape.specs.Shape.{IsWithin, coordinates_of, position_of, size_of}
use Rattle.pdl_buf.specs.declared.made.Made.{Made}
use Rattle.pdl_sig.specs.Refusals.{dim_names_limit}
use Rattle.pdl_sig.specs.Resolution.{core_sizes, is_given, made, made_for, size_in, type_in}
use Rattle.pdl_sig.specs.declared.Resolved.{Resolved}
use Rattle.pdl_sig.specs.declared.Role.{Role}
use Rattle.pdl_sig.specs.declared.Role.TheVariants.{Input, Output, Both, Temp}
use Rattle.pdl_sig.specs.declared.SigArg.{SigArg}
use Rattle.pdl_code.specs.Fit.{code_locals}
use Rattle.pdl_code.specs.Tree.{Code}
use Rattle.pdl_kernel.specs.declared.faults.Fault.{Fault}
use Rattle.pdl_kernel.specs.declared.scene.Scene.{Scene}
use Rattle.pdl_kernel.specs.Call.{first_given, outcome, start_element, started, store_before, stores_from, with_given}
use Rattle.pdl_kernel.specs.Collecting.{IsLaid}
use Rattle.pdl_kernel.specs.Meaning.{Store, run}
use Rattle.pdl_kernel.specs.Places.{array_seen, axes_of, begun_at, cleared, count_of, dot, sizes_of, strides_from, strides_of}
use Rattle.pdl_kernel.specs.Scenes.{left_in_order}
use Rattle.pdl_kernel.specs.Setup.{elems_with, given_elems, given_strides, start_elems, strides_with, window_of}
use Rattle.pdl_kernel.proofs.PlacesCollected.{output_written}
use Rattle.pdl_kernel.proofs.PlacesFound.{stretch, uncut}
use Rattle.pdl_kernel.proofs.SetupLaid.{axes_sizes, laid_in_order, made_output, size_parts, strides_long, written_elems, written_strides, zeros_are}

-- core strides and outer strides
reach_parts : (core ss cs bs : List ℕ) → length cs ≡ length core → dot (drop (length core) ss) bs + dot (strides_of (axes_of core ss)) cs ≡ dot ss (cs ++ bs)
reach_parts [] ss [] bs n = omega arith
reach_parts [] ss (c ∷ cs) bs n = absurd (omega (arith, n))
reach_parts (d ∷ core) ss [] bs n = absurd (omega (arith, n))
reach_parts (d ∷ core) [] (c ∷ cs) bs n =
    let rest : dot (drop (length core) []) bs + dot (strides_of (axes_of core [])) cs ≡ 0 = reach_parts core [] cs bs (omega (arith, n)) in
    omega (arith, rest)
reach_parts (d ∷ core) (s ∷ ss) (c ∷ cs) bs n =
    let rest : dot (drop (length core) ss) bs + dot (strides_of (axes_of core ss)) cs ≡ dot ss (cs ++ bs) = reach_parts core ss cs bs (omega (arith, n)) in
    omega (arith, rest)

-- an argument of core sizes, at broadcast coordinates, by its strides and its elements
abbrev shown_with : Ty → (core : List ℕ) → (rank : ℕ) → (bs strides : List ℕ) → List ℤ → Made
shown_with ty core n bs ss es = array_seen (record { role = Input; ty = ty; axes = axes_of core ss; outer = []; elems = es; start = dot (drop n ss) bs })

shown_is : (ty : Ty) (core : List ℕ) (n : ℕ) (bs ss : List ℕ) (es : List ℤ) (f : ℕ → ℤ)
    → ((q : ℕ) → q < size_of core → get_or es (dot (drop n ss) bs + dot (strides_of (axes_of core ss)) (coordinates_of core q)) (pos 0) ≡ f q)
    → ◌≡◌ {A = Made} (shown_with ty core n bs ss es) (record { ty = ty; dims = core; elems = map f (range_with_len 0 (size_of core)) })
shown_is ty core n bs ss es f each =
    let axes = axes_of core ss in
    let seen : List ℕ → ℕ → ℤ = λ ds p. get_or es (dot (drop n ss) bs + dot (strides_of axes) (coordinates_of ds p)) (pos 0) in
    let elems : map (seen (sizes_of axes)) (range_with_len 0 (size_of (sizes_of axes))) ≡ map f (range_with_len 0 (size_of core)) =
    ap (λ (ds : List ℕ). map (seen ds) (range_with_len 0 (size_of ds))) (axes_sizes core ss)
    ∙ map-range_same (seen core) f (size_of core) (pos 0) each in
    ap₂ (λ (ds : List ℕ) (es : List ℤ). let m : Made = record { ty = ty; dims = ds; elems = es } in m) (axes_sizes core ss) elems

-- the element of an input
input_element : PositionLaws → WrappingLaws → (ty : Ty) (core : List ℕ) (n : ℕ) (given : Option Made) (bs : List ℕ) (p : ℕ) → n ≡ length core → p < size_of core
    → get_or (given_elems ty given) (dot (drop n (given_strides given)) bs + dot (strides_of (axes_of core (given_strides given))) (coordinates_of core p)) (pos 0) ≡ start_element ty given (coordinates_of core p ++ bs)
input_element laws wraps ty core n None bs p count lt = refl
input_element laws wraps ty core n (Some g) bs p count lt =
    let ss = strides_from 1 g.dims in
    let cs = coordinates_of core p in
    let at : dot (drop n ss) bs + dot (strides_of (axes_of core ss)) cs ≡ position_of g.dims (cut_to g.dims (cs ++ bs)) =
    ap (λ (k : ℕ). dot (drop k ss) bs + dot (strides_of (axes_of core ss)) cs) count
    ∙ reach_parts core ss cs bs (laws.as_many core cs (laws.coordinates_within core p lt))
    ∙ (let e = stretch 1 g.dims (cs ++ bs) in omega (arith, e)) in
    ap (λ (i : ℕ). get_or (map (wrapped ty) g.elems) i (pos 0)) at
    ∙ ap (get_or (map (wrapped ty) g.elems) (position_of g.dims (cut_to g.dims (cs ++ bs)))) (sym (wraps.same ty (pos 0) (wraps.zero ty)))
    ∙ get_or-map (wrapped ty) g.elems (position_of g.dims (cut_to g.dims (cs ++ bs))) (pos 0)

within_both : (xs ys cs bs : List ℕ) → IsWithin xs cs → IsWithin ys bs → IsWithin (xs ++ ys) (cs ++ bs)
within_both [] ys [] bs w v = v
within_both [] ys (c ∷ cs) bs w v = absurd w
within_both (x ∷ xs) ys [] bs w v = absurd w
within_both (x ∷ xs) ys (c ∷ cs) bs w v = (w.0, within_both xs ys cs bs w.1 v)

-- the element of an output
output_element : PositionLaws → (ty : Ty) (core broadcast : List ℕ) (n : ℕ) (given : Option Made) (bs : List ℕ) (q : ℕ) → n ≡ length core → IsWithin broadcast bs → q < size_of core
    → (let ss = strides_from 1 (core ++ broadcast) in get_or (start_elems ty (core ++ broadcast) given) (dot (drop n ss) bs + dot (strides_of (axes_of core ss)) (coordinates_of core q)) (pos 0)) ≡ start_element ty given (coordinates_of core q ++ bs)
output_element laws ty core broadcast n given bs q count inside lt =
    let shape = core ++ broadcast in
    let ss = strides_from 1 shape in
    let cs = coordinates_of core q in
    let w : IsWithin shape (cs ++ bs) = within_both core broadcast cs bs (laws.coordinates_within core q lt) inside in
    let p = position_of shape (cs ++ bs) in
    let at : dot (drop n ss) bs + dot (strides_of (axes_of core ss)) cs ≡ p =
    ap (λ (k : ℕ). dot (drop k ss) bs + dot (strides_of (axes_of core ss)) cs) count
    ∙ reach_parts core ss cs bs (laws.as_many core cs (laws.coordinates_within core q lt))
    ∙ (let e = stretch 1 shape (cs ++ bs) in let z : dot ss (cs ++ bs) ≡ position_of shape (cut_to shape (cs ++ bs)) = omega (arith, e) in z)
    ∙ ap (position_of shape) (uncut shape (cs ++ bs) w) in
    let f : ℕ → ℤ = λ i. start_element ty given (coordinates_of shape i) in
    ap (λ (i : ℕ). get_or (start_elems ty shape given) i (pos 0)) at
    ∙ get_or-map-range_with_len f 0 (size_of shape) p p (pos 0) (laws.position_below shape (cs ++ bs) w) (omega arith)
    ∙ ap (start_element ty given) (laws.coordinates_again shape (cs ++ bs) w)

zero_anywhere : (n i : ℕ) → get_or (replicate n (pos 0)) i (pos 0) ≡ pos 0
zero_anywhere zero i = refl
zero_anywhere (suc n) zero = refl
zero_anywhere (suc n) (suc i) = zero_anywhere n i

pub given_none : (r : Role) (given : List Made) → r ≡ Temp → first_given (is_given r) given ≡ None
given_none r given e = ap (λ (x : Role). first_given (is_given x) given) e

module _ (laws : PositionLaws) (r : Resolved) (a : SigArg) (given : Option Made) (none : a.role ≡ Temp → given ≡ None) where
  abbrev ty : Ty
  ty = type_in r.generic a.ty

  abbrev core : List ℕ
  core = core_sizes r.sizes a

  rank : length a.dims ≡ length core
  rank = sym (length-map a.dims (size_in r.sizes))

  abbrev At : (coordinates : List ℕ) → Role → Made
  At bs x = shown_with ty core (length a.dims) bs (strides_with x (made x core r.broadcast) given) (cleared x (elems_with x ty (made x core r.broadcast) given))

  output_shown : (bs : List ℕ) → IsWithin r.broadcast bs → shown_with ty core (length a.dims) bs (strides_from 1 (core ++ r.broadcast)) (start_elems ty (core ++ r.broadcast) given) ≡ started r bs (a, given)
  output_shown bs inside = shown_is ty core (length a.dims) bs (strides_from 1 (core ++ r.broadcast)) (start_elems ty (core ++ r.broadcast) given) (λ q. start_element ty given (coordinates_of core q ++ bs))
      (λ q lt. output_element laws ty core r.broadcast (length a.dims) given bs q rank inside lt)

  -- what an argument shows at broadcast coordinates
  pub window_shown : WrappingLaws → (bs : List ℕ) → IsWithin r.broadcast bs → array_seen (begun_at bs (window_of r (a, given))) ≡ started r bs (a, given)
  window_shown wraps bs inside = by a.role refl
    where
      by : (x : Role) → a.role ≡ x → array_seen (begun_at bs (window_of r (a, given))) ≡ started r bs (a, given)
      by Input e = ap (At bs) e ∙ shown_is ty core (length a.dims) bs (given_strides given) (given_elems ty given) (λ q. start_element ty given (coordinates_of core q ++ bs)) (λ q lt. input_element laws wraps ty core (length a.dims) given bs q rank lt)
      by Output e = ap (At bs) e ∙ output_shown bs inside
      by Both e = ap (At bs) e ∙ output_shown bs inside
      by Temp e = ap (At bs) e ∙ shown_is ty core (length a.dims) bs (strides_from 1 core) (replicate (length (start_elems ty core given)) (pos 0)) (λ q. start_element ty given (coordinates_of core q ++ bs))
          (λ q lt. zero_anywhere (length (start_elems ty core given)) (dot (drop (length a.dims) (strides_from 1 core)) bs + dot (strides_of (axes_of core (strides_from 1 core))) (coordinates_of core q))
          ∙ sym (ap (λ g. start_element ty g (coordinates_of core q ++ bs)) (none e)))

  outer_strides : (n : ℕ) (ds rest : List ℕ) → drop (length ds) (strides_from n (ds ++ rest)) ≡ strides_from (n * size_of ds) rest
  outer_strides n [] rest = let e : n ≡ n * 1 = omega arith in ap (λ k. strides_from k rest) e
  outer_strides n (d ∷ ds) rest = outer_strides (n * d) ds rest ∙ (let e : (n * d) * size_of ds ≡ n * (d * size_of ds) = grind arith in ap (λ k. strides_from k rest) e)

  counted : count_of (window_of r (a, given)) ≡ size_of core
  counted = ap size_of (axes_sizes core (strides_with a.role (made_for r.sizes r.broadcast a) given))

  -- an argument is laid out over the broadcast places
  pub window_laid : IsLaid r.broadcast (window_of r (a, given))
  window_laid = record {
    in_order = λ out. laid_in_order a.role core r.broadcast (made_for r.sizes r.broadcast a) given (output_written a.role out) (λ free. refl);
    behind = λ out p lt.
        let bs = coordinates_of r.broadcast p in
        let ss : strides_with a.role (made_for r.sizes r.broadcast a) given ≡ strides_from 1 (core ++ r.broadcast) = written_strides a.role (made_for r.sizes r.broadcast a) given (output_written a.role out) ∙ ap (strides_from 1) (made_output a.role core r.broadcast out).1 in
        let one : 1 * size_of core ≡ size_of core = omega arith in
        let outer : drop (length a.dims) (strides_with a.role (made_for r.sizes r.broadcast a) given) ≡ strides_from (size_of core) r.broadcast =
        ap (λ k. drop k (strides_with a.role (made_for r.sizes r.broadcast a) given)) rank ∙ ap (drop (length core)) ss ∙ outer_strides 1 core r.broadcast ∙ ap (λ k. strides_from k r.broadcast) one in
        ap (λ os. dot os bs) outer ∙ stretch (size_of core) r.broadcast bs
        ∙ ap (λ cs. size_of core * position_of r.broadcast cs) (uncut r.broadcast bs (laws.coordinates_within r.broadcast p lt))
        ∙ ap (λ k. size_of core * k) (laws.position_again r.broadcast p lt) ∙ ap (λ k. k * p) (sym counted);
    filled = λ out.
        ap (length {A = ℤ}) (written_elems a.role ty (made_for r.sizes r.broadcast a) given (output_written a.role out)) ∙ length-map-range_with_len (λ q. start_element ty given (coordinates_of (made_for r.sizes r.broadcast a) q)) 0 (size_of (made_for r.sizes r.broadcast a))
        ∙ ap size_of (made_output a.role core r.broadcast out).1 ∙ size_parts core r.broadcast ∙ ap (λ k. k * size_of r.broadcast) (sym counted);
    still = λ temp.
        ap (λ (x : Role). drop (length a.dims) (strides_with x (made x core r.broadcast) given)) temp
        ∙ drop_all (length a.dims) (strides_from 1 core) (omega (arith, rank, strides_long 1 core));
    zeros = λ temp.
        ap (λ (x : Role). elems_with x ty (made x core r.broadcast) given) temp ∙ ap (start_elems ty core) (none temp)
        ∙ sym (zeros_are ty core (count_of (window_of r (a, given))) counted);
  }

-- all arguments show what they start with
windows_shown : PositionLaws → WrappingLaws → (r : Resolved) (bs : List ℕ) → IsWithin r.broadcast bs → (args : List SigArg) (given : List Made)
    → map (λ w. array_seen (begun_at bs w)) (map (window_of r) (with_given args given)) ≡ map (started r bs) (with_given args given)
windows_shown laws wraps r bs inside [] given = refl
windows_shown laws wraps r bs inside (a ∷ args) given =
    let rest = if is_given a.role then drop 1 given else given in
    ap (λ m. m ∷ map (λ w. array_seen (begun_at bs w)) (map (window_of r) (with_given args rest))) (window_shown laws r a (first_given (is_given a.role) given) (given_none a.role given) wraps bs inside)
    ∙ ap (λ ms. started r bs (a, first_given (is_given a.role) given) ∷ ms) (windows_shown laws wraps r bs inside args rest)

pub windows_laid : PositionLaws → (r : Resolved) (args : List SigArg) (given : List Made) → All (IsLaid r.broadcast) (map (window_of r) (with_given args given))
windows_laid laws r [] given i d lt = absurd (omega (arith, lt))
windows_laid laws r (a ∷ args) given zero d lt = window_laid laws r a (first_given (is_given a.role) given) (given_none a.role given)
windows_laid laws r (a ∷ args) given (suc i) d lt = windows_laid laws r args (if is_given a.role then drop 1 given else given) i d (omega (arith, lt))

-- what the walk finds at a place is what the definition says
pub outcome_is : PositionLaws → WrappingLaws → (args : List SigArg) (code : Code) (r : Resolved) (given : List Made) (s : Scene) (p : ℕ) → p < size_of r.broadcast
    → s.arguments.items ≡ map (window_of r) (with_given args given) → length s.locals.items ≡ code_locals 0 code → left_in_order r code s p ≡ outcome args code r given p
outcome_is laws wraps args code r given s p lt are count =
    let bs = coordinates_of r.broadcast p in
    let R : List Made → ℕ → Result Store Fault = λ ms k. run r (replicate dim_names_limit 0) code (record { arguments = ms; locals = replicate k (pos 0) }) in
    ap (λ ws. R (map (λ w. array_seen (begun_at bs w)) ws) (length s.locals.items)) are
    ∙ ap (R (map (λ w. array_seen (begun_at bs w)) (map (window_of r) (with_given args given)))) count
    ∙ ap (λ ms. R ms (code_locals 0 code)) (windows_shown laws wraps r bs (laws.coordinates_within r.broadcast p lt) args given)

pub stores_same : (f g : ℕ → Result Store Fault) (n p : ℕ) → ((q : ℕ) → q < p + n → f q ≡ g q) → stores_from f p n ≡ stores_from g p n
stores_same f g zero p each = refl
stores_same f g (suc n) p each =
    ap (λ x. store_before p x (stores_from f (p + 1) n)) (each p (omega arith)) ∙ ap (store_before p (g p)) (stores_same f g n (p + 1) (λ q lt. each q (omega (arith, lt))))
